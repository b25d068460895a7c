use Rattle.std.proofs.Common.{◌≡◌, ℕ, ◌+◌, length, sym, ap, ◌∙◌, arith}
use Rattle.std.proofs.lemmas.List.Edits.{sets}
use Rattle.state.specs.Pool.{entry_count}
use Rattle.state.specs.Layout.{odt_most}
use Rattle.model.specs.Model.{sizes_of}
use Rattle.model.specs.Calls.{lead_of, taken}
use Rattle.model.specs.View.{odt_of}
use Rattle.model.proofs.Room.{taken_fits}
use Rattle.lists.proofs.Entries.{sets_alike, start_alike, counts_alike}
use Rattle.lists.proofs.Gathered.{lead_most, stored_whole}
use Rattle.lists.proofs.events.capture_odt.Goals as goal

pub gather-bytes-requires : goal.gather-bytes-requires
gather-bytes-requires c = (c.requires.0, c.requires.1 ∙ sym (rw c.lead-before.ensures.0 (start_alike (sets c.args.s.now (c.sample_at-at.result + 1) (lead_of c.args.odt c.args.clock)) c.args.s.now (sets_alike (lead_of c.args.odt c.args.clock) c.args.s.now (c.sample_at-at.result + 1) (omega (arith, c.sample_at-at.ensures))) (c.args.k + c.args.odt) (omega (arith, c.requires.0)))), c.requires.2 ∙ sym (rw c.lead-before.ensures.0 (counts_alike (sets c.args.s.now (c.sample_at-at.result + 1) (lead_of c.args.odt c.args.clock)) c.args.s.now (sets_alike (lead_of c.args.odt c.args.clock) c.args.s.now (c.sample_at-at.result + 1) (omega (arith, c.sample_at-at.ensures))) (c.args.k + c.args.odt) c.requires.0)), c.requires.3, omega (arith, c.sample_at-at.ensures), omega (arith, c.odt_most-room.ensures, lead_most c.args.odt c.args.clock, c.lead-before.ensures.1, c.sample_at-at.ensures, c.requires.0))

pub overflow_add-s : goal.overflow_add-s
overflow_add-s c = let many : c.args.n ≡ entry_count (sets c.args.s.now (c.sample_at-at.result + 1) (lead_of c.args.odt c.args.clock)) (c.args.k + c.args.odt) = c.requires.2 ∙ sym (counts_alike (sets c.args.s.now (c.sample_at-at.result + 1) (lead_of c.args.odt c.args.clock)) c.args.s.now (sets_alike (lead_of c.args.odt c.args.clock) c.args.s.now (c.sample_at-at.result + 1) (omega (arith, c.sample_at-at.ensures))) (c.args.k + c.args.odt) c.requires.0) in let bytes : c.gather-bytes.result ≡ sizes_of (odt_of (sets c.args.s.now (c.sample_at-at.result + 1) (lead_of c.args.odt c.args.clock)) (c.args.k + c.args.odt)) (taken (odt_most c.args.odt) (odt_of (sets c.args.s.now (c.sample_at-at.result + 1) (lead_of c.args.odt c.args.clock)) (c.args.k + c.args.odt)) c.args.n) = c.gather-bytes.ensures.1 ∙ rw (c.lead-before.ensures.0, c.odt_most-room.ensures) in omega (arith, bytes, taken_fits (odt_most c.args.odt) (odt_of (sets c.args.s.now (c.sample_at-at.result + 1) (lead_of c.args.odt c.args.clock)) (c.args.k + c.args.odt)) c.args.n, lead_most c.args.odt c.args.clock, c.lead-before.ensures.1)

pub overflow_cast-s : goal.overflow_cast-s
overflow_cast-s c = let many : c.args.n ≡ entry_count (sets c.args.s.now (c.sample_at-at.result + 1) (lead_of c.args.odt c.args.clock)) (c.args.k + c.args.odt) = c.requires.2 ∙ sym (counts_alike (sets c.args.s.now (c.sample_at-at.result + 1) (lead_of c.args.odt c.args.clock)) c.args.s.now (sets_alike (lead_of c.args.odt c.args.clock) c.args.s.now (c.sample_at-at.result + 1) (omega (arith, c.sample_at-at.ensures))) (c.args.k + c.args.odt) c.requires.0) in let bytes : c.gather-bytes.result ≡ sizes_of (odt_of (sets c.args.s.now (c.sample_at-at.result + 1) (lead_of c.args.odt c.args.clock)) (c.args.k + c.args.odt)) (taken (odt_most c.args.odt) (odt_of (sets c.args.s.now (c.sample_at-at.result + 1) (lead_of c.args.odt c.args.clock)) (c.args.k + c.args.odt)) c.args.n) = c.gather-bytes.ensures.1 ∙ rw (c.lead-before.ensures.0, c.odt_most-room.ensures) in omega (arith, bytes, taken_fits (odt_most c.args.odt) (odt_of (sets c.args.s.now (c.sample_at-at.result + 1) (lead_of c.args.odt c.args.clock)) (c.args.k + c.args.odt)) c.args.n, lead_most c.args.odt c.args.clock, c.lead-before.ensures.1)

pub returns : goal.returns
returns c = let many : c.args.n ≡ entry_count (sets c.args.s.now (c.sample_at-at.result + 1) (lead_of c.args.odt c.args.clock)) (c.args.k + c.args.odt) = c.requires.2 ∙ sym (counts_alike (sets c.args.s.now (c.sample_at-at.result + 1) (lead_of c.args.odt c.args.clock)) c.args.s.now (sets_alike (lead_of c.args.odt c.args.clock) c.args.s.now (c.sample_at-at.result + 1) (omega (arith, c.sample_at-at.ensures))) (c.args.k + c.args.odt) c.requires.0) in let bytes : c.gather-bytes.result ≡ sizes_of (odt_of (sets c.args.s.now (c.sample_at-at.result + 1) (lead_of c.args.odt c.args.clock)) (c.args.k + c.args.odt)) (taken (odt_most c.args.odt) (odt_of (sets c.args.s.now (c.sample_at-at.result + 1) (lead_of c.args.odt c.args.clock)) (c.args.k + c.args.odt)) c.args.n) = c.gather-bytes.ensures.1 ∙ rw (c.lead-before.ensures.0, c.odt_most-room.ensures) in rw (c.gather-bytes.ensures.0, c.lead-before.ensures.1, c.lead-before.ensures.0, c.odt_most-room.ensures) (stored_whole c.args.s.now c.args.k c.args.odt c.args.clock c.args.memories.now.cal.bytes.now c.args.memories.now.meas.bytes.now c.requires.0 c.sample_at-at.result c.sample_at-at.ensures (taken (odt_most c.args.odt) (odt_of (sets c.args.s.now (c.sample_at-at.result + 1) (lead_of c.args.odt c.args.clock)) (c.args.k + c.args.odt)) c.args.n) (length (lead_of c.args.odt c.args.clock) + c.gather-bytes.result) (ap (taken (odt_most c.args.odt) (odt_of (sets c.args.s.now (c.sample_at-at.result + 1) (lead_of c.args.odt c.args.clock)) (c.args.k + c.args.odt))) many) (ap (λ (b : ℕ). length (lead_of c.args.odt c.args.clock) + b) bytes))
