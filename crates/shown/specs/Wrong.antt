-- Wrong slaves, to be shut out by name: each is ours but for one thing.
use Rattle.std.specs.Prelude.{ℕ, zero, suc, ◌+◌, ◌%◌, Bool, true, false, cond, List, [], ◌∷◌, ◌++◌, eqb, ltb, leb, length, get_or, set, take, drop, Option, Some, None, Ok, Err}
use Rattle.line.specs.Stuffing.{stuff, on_wire}
use Rattle.line.specs.Message.{sum}
use Rattle.line.specs.Writer.{at_front}
use Rattle.line.specs.Number.{outcome_number}
use Rattle.state.specs.Layout.{all_odts, all_entries, events, stored_most, wrong_keys_at, round_at, calibration_at, lists_at, entries_at}
use Rattle.state.specs.Pool.{list_count, first_odt, odt_count, entry_count, entry_total}
use Rattle.state.specs.Bytes.{put32}
use Rattle.state.specs.Generator.{stays_shut}
use Rattle.state.specs.State.{consistent, wrong_keys_of, ctr_of, open_of, mask_of, mta_of, set_mta, waits, answer_of, answered}
use Rattle.state.specs.Lists.{stored_length}
use Rattle.session.specs.Receive.{Step, only, obeyed, heeded, fed_of, receive_of}
use Rattle.model.specs.Heed.{good_connect}
use Rattle.lists.specs.Event.{Happened, sampling_of, stored, event_of}
use Rattle.model.specs.Calls.{blocks_in, contents_in, packet_for}
use Rattle.model.specs.View.{odt_of, view_of}
use Rattle.lists.specs.Slot.{Slot, turn_of, slot_of}
use Rattle.words.specs.Number.{received_number, slotted_value}
use Rattle.session.specs.PowerUp.{power_up_of}
use Rattle.model.specs.declared.Deed.TheVariants.{Refuse}
use Rattle.model.specs.declared.Sampling.{Sampling}
use Rattle.model.specs.declared.Sampling.TheVariants.{Idle as Unsampled, Sampled, Missed}
use Rattle.words.specs.declared.Reason.TheVariants.{Unknown, Locked, PoolFull}
use Rattle.words.specs.declared.Mta.{Mta}
use Rattle.words.specs.declared.Mta.TheVariants.{Unset, At}
use Rattle.words.specs.Values.{Evented, event_done, Slotted}
use Rattle.words.specs.declared.Heard.TheVariants.{Silent, BadChecksum}
use Rattle.session.specs.Slice.{Slice, taking, receive_bytes_of}
use Rattle.demands.specs.Slave.{AnySlave}
use Rattle.demands.specs.Slices.{SliceCall}
use Rattle.demands.specs.Heard.{packet_ended, read_by}
use Rattle.demands.specs.Waiting.{packet_inside}

-- ---- ours, but for one call
abbrev pub receiving : (List ℕ → List ℕ → List ℕ → ℕ → Step) → AnySlave
receiving receive = record { power_up = power_up_of; receive = receive; event = event_of; slot = slot_of }

abbrev pub happening : (List ℕ → List ℕ → List ℕ → ℕ → ℕ → Happened) → AnySlave
happening event = record { power_up = power_up_of; receive = receive_of; event = event; slot = slot_of }

abbrev pub sending : (List ℕ → List ℕ → Slot) → AnySlave
sending slot = record { power_up = power_up_of; receive = receive_of; event = event_of; slot = slot }

-- ---- ours, but for what a good message with packet p leads to once it is read, with no answer waiting
abbrev pub Heed : Type 0
Heed = List ℕ → List ℕ → List ℕ → List ℕ → Step

abbrev pub heard_by : Heed → Option (List ℕ) → List ℕ → List ℕ → List ℕ → ℕ → Step
heard_by heed None s cal meas b = receive_of s cal meas b
heard_by heed (Some p) s cal meas b = cond (waits s) (receive_of s cal meas b) (heed p (read_by s b) cal meas)

abbrev pub heeding : Heed → AnySlave
heeding heed = receiving (λ s cal meas b. cond (consistent s) (heard_by heed (packet_ended s b) s cal meas b) (receive_of s cal meas b))

-- every command is refused, CONNECT too
abbrev pub refuses_always : AnySlave
refuses_always = heeding (λ p s cal meas. obeyed (Refuse Unknown) p s cal meas)

-- CONNECT is ours, and no other command is answered: it changes the reader's place alone
abbrev pub silent : AnySlave
silent = heeding (λ p s cal meas. cond (good_connect p) (heeded p s cal meas) (only (Ok Silent) s cal))

-- CONNECT is ours, and in a session every other command is refused
abbrev pub only_connects : AnySlave
only_connects = heeding (λ p s cal meas. cond (good_connect p) (heeded p s cal meas) (cond (open_of s) (obeyed (Refuse Unknown) p s cal meas) (only (Ok Silent) s cal)))

-- what is done is ours, and each answer is FF alone
abbrev pub with_ff : Step → Step
with_ff o = record { received = o.received; state = cond (waits o.state) (answered o.state (0xFF ∷ [])) o.state; cal = o.cal }

abbrev pub always_ff : AnySlave
always_ff = heeding (λ p s cal meas. with_ff (heeded p s cal meas))

-- answers are ours, and the calibration memory stays
abbrev pub unstored : Step → List ℕ → Step
unstored o cal = record { received = o.received; state = o.state; cal = cal }

abbrev pub stores_nothing : AnySlave
stores_nothing = heeding (λ p s cal meas. unstored (heeded p s cal meas) cal)

-- the packet of a message that has just ended, with a right checksum or not
abbrev pub packet_anyway : List ℕ → ℕ → Option (List ℕ)
packet_anyway s b = cond (eqb (outcome_number (fed_of s b).taken.outcome) 5) (Some (packet_inside (fed_of s b).message)) (packet_ended s b)

-- a message whose checksum is wrong is obeyed too
abbrev pub obeys_damaged : AnySlave
obeys_damaged = receiving (λ s cal meas b. cond (consistent s) (heard_by heeded (packet_anyway s b) s cal meas b) (receive_of s cal meas b))

-- a message ends as its checksum byte comes, which is number 1 of the line, or 5; what stands before that byte in the message
abbrev pub message_ends_at : List ℕ → ℕ → Bool
message_ends_at s b = cond (eqb (outcome_number (fed_of s b).taken.outcome) 5) true (eqb (outcome_number (fed_of s b).taken.outcome) 1)

abbrev pub summed_in : List ℕ → List ℕ
summed_in m = take (get_or m 0 0 + 2) m

-- the reader sums escaped bytes: by that sum alone a message is heeded, or is number 5
abbrev pub reads_escaped : AnySlave
reads_escaped =
    receiving (λ s cal meas b. cond (consistent s) (cond (message_ends_at s b)
    (cond (eqb b (sum (stuff (summed_in (fed_of s b).message)) % 256)) (heeded (packet_inside (fed_of s b).message) (read_by s b) cal meas) (only (Ok BadChecksum) (read_by s b) cal))
    (receive_of s cal meas b)) (receive_of s cal meas b))

-- ---- slots
-- a frame is followed at once by what `rest` sends into the bytes after it
abbrev pub followed : Slotted → Slot → (List ℕ → List ℕ → Slot) → Slot
followed (Ok None) o rest = o
followed (Ok (Some n)) o rest =
    record {
      slotted = Ok (Some (n + slotted_value (rest o.state (drop n o.out)).slotted));
      state = (rest o.state (drop n o.out)).state;
      out = take n o.out ++ (rest o.state (drop n o.out)).out;
    }
followed (Err refusal) o rest = o

unfoldable pub slots_up_to : ℕ → List ℕ → List ℕ → Slot
slots_up_to zero s out = slot_of s out
slots_up_to (suc n) s out = followed (slot_of s out).slotted (slot_of s out) (slots_up_to n)

-- a slot sends all that waits, an answer and a packet of each ODT, as far as there is room
abbrev pub all_at_once : AnySlave
all_at_once = sending (slots_up_to all_odts)

-- a checksum taken over escaped bytes
abbrev pub escaped_sum : List ℕ → List ℕ
escaped_sum bs = bs ++ (sum (stuff bs) % 256) ∷ []

abbrev pub summed : ℕ → List ℕ → List ℕ
summed ctr p = on_wire (escaped_sum (length p ∷ ctr ∷ p))

-- the packet whose turn it was stands in such a frame
abbrev pub in_frames : Slotted → List (List ℕ) → Slot → ℕ → List ℕ → Slot
in_frames (Ok None) ps o ctr out = o
in_frames (Ok (Some n)) [] o ctr out = o
in_frames (Ok (Some n)) (p ∷ ps) o ctr out = record { slotted = Ok (Some (length (summed ctr p))); state = o.state; out = at_front (summed ctr p) out }
in_frames (Err refusal) ps o ctr out = o

abbrev pub sums_escaped : AnySlave
sums_escaped = sending (λ s out. in_frames (slot_of s out).slotted (packet_for (turn_of s) (view_of s)) (slot_of s out) (ctr_of s) out)

-- ---- events
-- counts are ours, and nothing is sampled
abbrev pub never_samples : AnySlave
never_samples = happening (λ s cal meas event clock. record { evented = (event_of s cal meas event clock).evented; state = s })

-- samples are ours; a done event counts one sampled list more
abbrev pub one_sampled_more : Evented → Evented
one_sampled_more (Ok counted) = event_done (suc counted.sampled) counted.missed
one_sampled_more (Err refusal) = Err refusal

abbrev pub invents_counts : AnySlave
invents_counts = happening (λ s cal meas event clock. record { evented = one_sampled_more (event_of s cal meas event clock).evented; state = (event_of s cal meas event clock).state })

-- and one that counts one missed list more
abbrev pub one_missed_more : Evented → Evented
one_missed_more (Ok counted) = event_done counted.sampled (suc counted.missed)
one_missed_more (Err refusal) = Err refusal

abbrev pub invents_missed : AnySlave
invents_missed = happening (λ s cal meas event clock. record { evented = one_missed_more (event_of s cal meas event clock).evented; state = (event_of s cal meas event clock).state })

-- each packet of a sample begins with the clock, as the first one does, and then has its bytes as far as there is room
abbrev pub stamped_odts : List ℕ → ℕ → ℕ → List ℕ → List ℕ → ℕ → List ℕ
stamped_odts s k clock cal meas zero = s
stamped_odts s k clock cal meas (suc n) = stored (stamped_odts s k clock cal meas n) (k + n) (take stored_most (contents_in 0 clock cal meas (odt_of s (k + n))))

abbrev pub stamped_as : Sampling → List ℕ → ℕ → ℕ → List ℕ → List ℕ → List ℕ
stamped_as Unsampled s l clock cal meas = s
stamped_as Sampled s l clock cal meas = stamped_odts s (first_odt s l) clock cal meas (odt_count s l)
stamped_as Missed s l clock cal meas = s

abbrev pub stamped_lists : List ℕ → ℕ → ℕ → List ℕ → List ℕ → ℕ → List ℕ
stamped_lists s event clock cal meas zero = s
stamped_lists s event clock cal meas (suc n) = stamped_as (sampling_of s n event) (stamped_lists s event clock cal meas n) n clock cal meas

abbrev pub stamps_each : AnySlave
stamps_each =
    happening (λ s cal meas event clock. record { evented = (event_of s cal meas event clock).evented; state = cond (consistent s) (cond (leb events event) s (stamped_lists s event clock cal meas (list_count s))) s })

-- ---- the pool
-- a command with that code is done: it is answered FF
abbrev pub done_with : ℕ → List ℕ → Step → Bool
done_with code p o = cond (eqb (get_or p 0 0) code) (eqb (get_or (answer_of o.state) 0 0) 0xFF) false

-- how many of these entries, each of two bytes, were written
abbrev pub written_in : List ℕ → ℕ
written_in [] = 0
written_in (head ∷ []) = 0
written_in (head ∷ low ∷ bs) = cond (eqb head 0) (written_in bs) (suc (written_in bs))

-- those of freed lists: they still stand behind the entries that there are
abbrev pub freed_entries : List ℕ → ℕ
freed_entries s = written_in (drop (entries_at (entry_total s)) (take (entries_at all_entries) s))

-- to ALLOC_ODT_ENTRY the entries of freed lists are taken
abbrev pub overfull : List ℕ → List ℕ → Bool
overfull p s = ltb all_entries (entry_total s + freed_entries s + get_or p 5 0)

abbrev pub keeps_freed : AnySlave
keeps_freed = heeding (λ p s cal meas. cond (done_with 0xD3 p (heeded p s cal meas)) (cond (overfull p s) (obeyed (Refuse PoolFull) p s cal meas) (heeded p s cal meas)) (heeded p s cal meas))

-- after FREE_DAQ and ALLOC_DAQ the round begins behind list 0
abbrev pub behind_first : Step → Step
behind_first o = record { received = o.received; state = set o.state round_at 1; cal = o.cal }

abbrev pub begins_behind : AnySlave
begins_behind = heeding (λ p s cal meas. cond (done_with 0xD5 p (heeded p s cal meas)) (behind_first (heeded p s cal meas)) (heeded p s cal meas))

-- ---- slips
-- the MTA moves on by n bytes
abbrev pub moved_on : Mta → ℕ → List ℕ → List ℕ
moved_on Unset n s = s
moved_on (At e a) n s = set_mta s (At e (a + n))

abbrev pub moved : Step → Mta → ℕ → Step
moved o mta n = record { received = o.received; state = moved_on mta n o.state; cal = o.cal }

-- the MTA moves after UPLOAD, refused or not
abbrev pub moves_after_refusal : AnySlave
moves_after_refusal = heeding (λ p s cal meas. cond (eqb (get_or p 0 0) 0xF5) (moved (heeded p s cal meas) (mta_of s) (get_or p 1 0)) (heeded p s cal meas))

-- the MTA is after a command with that code what it was before, set or unset
abbrev pub unmoved : Step → Mta → Step
unmoved o mta = record { received = o.received; state = set_mta o.state mta; cal = o.cal }

abbrev pub leaves_mta_after : ℕ → AnySlave
leaves_mta_after code = heeding (λ p s cal meas. cond (eqb (get_or p 0 0) code) (unmoved (heeded p s cal meas) (mta_of s)) (heeded p s cal meas))

-- after SHORT_UPLOAD; after SHORT_DOWNLOAD
abbrev pub leaves_mta : AnySlave
leaves_mta = leaves_mta_after 0xF4

abbrev pub load_leaves_mta : AnySlave
load_leaves_mta = leaves_mta_after 0xED

-- SHORT_DOWNLOAD writes at the MTA, if that is set, and not at its own address
abbrev pub addressed_by : Mta → List ℕ → List ℕ
addressed_by Unset p = p
addressed_by (At e a) p = put32 p 4 a

abbrev pub loads_at_mta : AnySlave
loads_at_mta = heeding (λ p s cal meas. cond (eqb (get_or p 0 0) 0xED) (heeded (addressed_by (mta_of s) p) s cal meas) (heeded p s cal meas))

-- where a packet of ODT k waits, its bytes are taken from the memories lent now
abbrev pub reread : List ℕ → ℕ → List ℕ → List ℕ → List ℕ
reread s k cal meas = cond (ltb 0 (stored_length s k)) (stored s k (blocks_in (odt_of s k) cal meas (entry_count s k))) s

-- the second ODT of list 0, if it has one, is read again at each byte until it is sent
abbrev pub read_again : List ℕ → List ℕ → List ℕ → List ℕ
read_again s cal meas = cond (ltb 1 (odt_count s 0)) (reread s (first_odt s 0 + 1) cal meas) s

abbrev pub reads_late : AnySlave
reads_late = receiving (λ s cal meas b. cond (consistent s) (receive_of (read_again s cal meas) cal meas b) (receive_of s cal meas b))

-- once a lock has opened, both are open
abbrev pub both_open : List ℕ → Step → Step
both_open s o = record { received = o.received; state = cond (ltb (mask_of o.state) (mask_of s)) (set (set o.state calibration_at 1) lists_at 1) o.state; cal = o.cal }

-- a key opens both locks
abbrev pub opens_both : AnySlave
opens_both = heeding (λ p s cal meas. both_open s (heeded p s cal meas))

-- CONNECT clears the count of wrong keys
abbrev pub uncounted : Step → Step
uncounted o = record { received = o.received; state = set o.state wrong_keys_at 0; cal = o.cal }

abbrev pub connect_clears : AnySlave
connect_clears = heeding (λ p s cal meas. cond (good_connect p) (uncounted (heeded p s cal meas)) (heeded p s cal meas))

-- after three wrong keys GET_SEED, of whatever length, is answered 25
abbrev pub asks_in_vain : List ℕ → List ℕ → Bool
asks_in_vain p s = cond (eqb (get_or p 0 0) 0xF8) (cond (open_of s) (stays_shut (wrong_keys_of s)) false) false

abbrev pub shuts_first : AnySlave
shuts_first = heeding (λ p s cal meas. cond (asks_in_vain p s) (obeyed (Refuse Locked) p s cal meas) (heeded p s cal meas))

-- ---- ours, but for the slice call
-- a slice that took a command counts as taken whole: what came behind that command is lost
abbrev pub lost_behind : ℕ → Slice → Slice
lost_behind n o = cond (eqb (received_number o.received) 1) (taking o.received n o.state o.cal) o

abbrev pub drops_behind : SliceCall
drops_behind s cal meas bs = lost_behind (length bs) (receive_bytes_of s cal meas bs)
