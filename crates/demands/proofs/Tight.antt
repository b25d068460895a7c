-- Each public function's promise leaves one outcome: two outcomes that meet it are the same, result, next state and every lent byte. The promise is the
-- function's own contract, as its callers' proofs read it. Assumes nothing.
use Rattle.std.proofs.Common.{◌≡◌, ℕ, List, sym, ◌∙◌}
use Rattle.line.specs.declared.Taken.{Taken}
use Rattle.line.specs.Values.{Written}
use Rattle.state.specs.declared.Generator.{Generator}
use Rattle.words.specs.Values.{Received, Evented, Slotted, PoweredUp}
use Rattle.line.proofs.take.Reads as take
use Rattle.line.proofs.write.Reads as write
use Rattle.line.proofs.next_ctr.Reads as next_ctr_reads
use Rattle.line.proofs.Taken.number.Reads as outcome_number
use Rattle.line.proofs.written_number.Reads as written_number
use Rattle.session.proofs.power_up.Reads as power_up_reads
use Rattle.session.proofs.receive_byte.Reads as receive_byte_reads
use Rattle.session.proofs.receive_bytes.Reads as receive_bytes
use Rattle.session.proofs.event.Reads as event
use Rattle.session.proofs.slot.Reads as slot
use Rattle.session.proofs.state_size.Reads as state_size_reads
use Rattle.words.proofs.numbers.ResultHeardNoStateNumbered.number.Reads as received_number
use Rattle.words.proofs.numbers.ResultCountedEventRefusalNumbered.number.Reads as evented_number
use Rattle.words.proofs.numbers.ResultOptionUsizeSlotRefusalNumbered.number.Reads as slotted_number
use Rattle.words.proofs.numbers.ResultUnitNoStateNumbered.number.Reads as powered_up_number
use Rattle.state.proofs.Generator.new.Reads as generator_new
use Rattle.state.proofs.Generator.next.Reads as generator_next
use Rattle.slave.proofs.xcp_power_up.Reads as xcp_power_up_reads
use Rattle.slave.proofs.xcp_receive_byte.Reads as xcp_receive_byte_reads
use Rattle.slave.proofs.xcp_receive.Reads as xcp_receive_reads
use Rattle.slave.proofs.xcp_event.Reads as xcp_event_reads
use Rattle.slave.proofs.xcp_slot.Reads as xcp_slot_reads
use Rattle.slave.proofs.xcp_state_size.Reads as xcp_state_size_reads
use Rattle.demands.proofs.power_up.Reads as our_power_up
use Rattle.demands.proofs.receive_byte.Reads as our_receive_byte
use Rattle.demands.proofs.event.Reads as our_event
use Rattle.demands.proofs.slot.Reads as our_slot
use Rattle.demands.specs.Tight.{Tight, TightCall}

-- both are what the inputs alone give
same : {O : Type 0} {one o o' : O} → o ≡ one → o' ≡ one → o ≡ o'
same h h' = h ∙ sym h'

-- where the promise is an equation, as that of the programs' `pair` is too
pub equation_tight : {O : Type 0} (one : O) → Tight (λ r. r ≡ one)
equation_tight one o o' h h' = same h h'

-- ---- line
pub take_tight : TightCall {O = Taken × List ℕ} take.Post (λ l r e. (r, e.1.0.now))
take_tight l a r r' e e' h h' i = (same h.result h'.result i, same h.bytes h'.bytes i)

pub write_tight : TightCall {O = Written × List ℕ} write.Post (λ l r e. (r, e.1.1.0.now))
write_tight l a r r' e e' h h' i = (same h.result h'.result i, same h.bytes h'.bytes i)

pub next_ctr_tight : TightCall {O = ℕ} next_ctr_reads.Post (λ l r e. r)
next_ctr_tight l a r r' e e' h h' = same h h'

pub outcome_number_tight : TightCall {O = ℕ} outcome_number.Post (λ l r e. r)
outcome_number_tight l a r r' e e' h h' = same h h'

pub written_number_tight : TightCall {O = ℕ} written_number.Post (λ l r e. r)
written_number_tight l a r r' e e' h h' = same h h'

-- ---- session
pub power_up_tight : TightCall {O = PoweredUp × List ℕ} power_up_reads.Post (λ l r e. (r, e.0.now))
power_up_tight l a r r' e e' h h' i = (same h.result h'.result i, same h.state h'.state i)

pub receive_byte_tight : TightCall {O = Received × List ℕ × List ℕ} receive_byte_reads.Post (λ l r e. (r, e.0.now, e.1.0.now))
receive_byte_tight l a r r' e e' h h' i = (same h.result h'.result i, same h.state h'.state i, same h.memory h'.memory i)

pub receive_bytes_tight : TightCall {O = Received × ℕ × List ℕ × List ℕ} receive_bytes.Post (λ l r e. (r.received, r.taken, e.0.now, e.1.0.now))
receive_bytes_tight l a r r' e e' h h' i =
    (same h.result h'.result i, same h.taken h'.taken i, same h.state h'.state i, same h.memory h'.memory i)

pub event_tight : TightCall {O = Evented × List ℕ} event.Post (λ l r e. (r, e.0.now))
event_tight l a r r' e e' h h' i = (same h.result h'.result i, same h.state h'.state i)

pub slot_tight : TightCall {O = Slotted × List ℕ × List ℕ} slot.Post (λ l r e. (r, e.0.now, e.1.0.now))
slot_tight l a r r' e e' h h' i = (same h.result h'.result i, same h.state h'.state i, same h.bytes h'.bytes i)

pub state_size_tight : TightCall {O = ℕ} state_size_reads.Post (λ l r e. r)
state_size_tight l a r r' e e' h h' = same h h'

pub received_number_tight : TightCall {O = ℕ} received_number.Post (λ l r e. r)
received_number_tight l a r r' e e' h h' = same h h'

pub evented_number_tight : TightCall {O = ℕ} evented_number.Post (λ l r e. r)
evented_number_tight l a r r' e e' h h' = same h h'

pub slotted_number_tight : TightCall {O = ℕ} slotted_number.Post (λ l r e. r)
slotted_number_tight l a r r' e e' h h' = same h h'

pub powered_up_number_tight : TightCall {O = ℕ} powered_up_number.Post (λ l r e. r)
powered_up_number_tight l a r r' e e' h h' = same h h'

pub generator_new_tight : TightCall {O = Generator} generator_new.Post (λ l r e. r)
generator_new_tight l a r r' e e' h h' i = record { x = same h h' i }

pub generator_next_tight : TightCall {O = Generator} generator_next.Post (λ l r e. r)
generator_next_tight l a r r' e e' h h' i = record { x = same h h' i }

-- ---- the C interface
pub xcp_power_up_tight : TightCall {O = ℕ × List ℕ} xcp_power_up_reads.Post (λ l r e. (r, e.0.now))
xcp_power_up_tight l a r r' e e' h h' i = (same h.result h'.result i, same h.state h'.state i)

pub xcp_receive_byte_tight : TightCall {O = ℕ × List ℕ × List ℕ} xcp_receive_byte_reads.Post (λ l r e. (r, e.0.now, e.1.0.now))
xcp_receive_byte_tight l a r r' e e' h h' i = (same h.result h'.result i, same h.state h'.state i, same h.memory h'.memory i)

pub xcp_receive_tight : TightCall {O = ℕ × List ℕ × List ℕ} xcp_receive_reads.Post (λ l r e. (r, e.0.now, e.1.0.now))
xcp_receive_tight l a r r' e e' h h' i = (same h.result h'.result i, same h.state h'.state i, same h.memory h'.memory i)

pub xcp_event_tight : TightCall {O = ℕ × List ℕ} xcp_event_reads.Post (λ l r e. (r, e.0.now))
xcp_event_tight l a r r' e e' h h' i = (same h.result h'.result i, same h.state h'.state i)

pub xcp_slot_tight : TightCall {O = ℕ × List ℕ × List ℕ} xcp_slot_reads.Post (λ l r e. (r, e.0.now, e.1.0.now))
xcp_slot_tight l a r r' e e' h h' i = (same h.result h'.result i, same h.state h'.state i, same h.bytes h'.bytes i)

pub xcp_state_size_tight : TightCall {O = ℕ} xcp_state_size_reads.Post (λ l r e. r)
xcp_state_size_tight l a r r' e e' h h' = same h h'

-- ---- the session's calls in the words of `ours`
pub our_power_up_tight : TightCall {O = PoweredUp × List ℕ} our_power_up.Post (λ l r e. (r, e.0.now))
our_power_up_tight l a r r' e e' h h' i = (same h.result h'.result i, same h.state h'.state i)

pub our_receive_byte_tight : TightCall {O = Received × List ℕ × List ℕ} our_receive_byte.Post (λ l r e. (r, e.0.now, e.1.0.now))
our_receive_byte_tight l a r r' e e' h h' i = (same h.result h'.result i, same h.state h'.state i, same h.memory h'.memory i)

pub our_event_tight : TightCall {O = Evented × List ℕ} our_event.Post (λ l r e. (r, e.0.now))
our_event_tight l a r r' e e' h h' i = (same h.result h'.result i, same h.state h'.state i)

pub our_slot_tight : TightCall {O = Slotted × List ℕ × List ℕ} our_slot.Post (λ l r e. (r, e.0.now, e.1.0.now))
our_slot_tight l a r r' e e' h h' i = (same h.result h'.result i, same h.state h'.state i, same h.bytes h'.bytes i)
