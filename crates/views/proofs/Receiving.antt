-- What a received byte in bytes shows is the received byte whole. Assumes nothing.
use Rattle.std.proofs.Common.{◌≡◌, ℕ, ◌^◌, ◌<◌, Bool, true, List, length, get_or, Some, None, Ok, Err, sym, refl, ap, ◌∙◌, subst, arith}
use Rattle.line.specs.Message.{longest}
use Rattle.line.specs.Unstuffing.{Fed, place_by}
use Rattle.line.specs.Reader.{messages}
use Rattle.line.specs.declared.Place.{Place}
use Rattle.line.specs.declared.Place.TheVariants.{Outside, Inside, Escaped}
use Rattle.line.specs.Values.{Outcome}
use Rattle.line.specs.declared.Fault.TheVariants.{BadLength, BadEscape, BadChecksum, CutOff, ShortBuffer}
use Rattle.line.proofs.Laws.{cond_ind}
use Rattle.line.proofs.After.{take_length, take_place}
use Rattle.line.proofs.Begun.{inside_begun, escaped_begun}
use Rattle.line.proofs.Steps.{put_within}
use Rattle.state.specs.Layout.{size, place_at, message_at, answer_at}
use Rattle.state.specs.Bytes.{block}
use Rattle.state.specs.State.{consistent, generator_of, wrong_keys_of, place_of, message_of, waits}
use Rattle.state.proofs.Sets.{block_length}
use Rattle.state.proofs.Consistent.{consistent_size}
use Rattle.words.specs.declared.Heard.TheVariants.{Answered}
use Rattle.judge.specs.Doable.{Doable}
use Rattle.session.specs.Receive.{heeded_by, heeded, meant, fed_of, read_on, received_by, receive_of}
use Rattle.look.proofs.Looked.{judged_doable}
use Rattle.fields.proofs.Fields.{Counted}
use Rattle.fields.proofs.Frames.{Only, only_read_on}
use Rattle.fields.proofs.Readers.{apart, generator_reads}
use Rattle.model.specs.Model.{Bytes, Slave}
use Rattle.model.specs.Heed.{Heeding, Dropped, Obeyed, Ignored, good_connect, heeding_in}
use Rattle.model.specs.Answers.{written}
use Rattle.model.specs.Calls.{with_reader}
use Rattle.model.specs.View.{session_of, view_of}
use Rattle.model.proofs.Shown.{answer_long}
use Rattle.model.specs.Whole.{heeded_as, heeded_in, read_as, received_in}
use Rattle.views.specs.Shown.{byte_shown}
use Rattle.views.proofs.Bytes.{bytes_block, fed_bytes}
use Rattle.views.proofs.Fit.{Fit, generator_fits, judged_fits}
use Rattle.views.proofs.Calls.{view_read_on}
use Rattle.views.proofs.Done.{view_after}

-- ---- what the line leaves of the reader
-- a place that a message can have counts few bytes
pub counted_place : (p : Place) (m : List ℕ) → place_by messages p m ≡ p → Counted p
counted_place Outside m e = tt
counted_place (Inside k) m e = let h : k < longest = put_within k (get_or m 0 0) (inside_begun messages k m e) in omega arith
counted_place (Escaped k) m e = let h : k < longest = put_within k (get_or m 0 0) (escaped_begun messages k m e) in omega arith

pub message_long : (s : List ℕ) → length s ≡ size → length (message_of s) ≡ longest
unfolding message_of
message_long s h = block_length s message_at longest (omega arith)

module _ (s : List ℕ) (b : ℕ) (h : length s ≡ size) where
  pub fed_long : length (fed_of s b).message ≡ longest
  fed_long = take_length (place_of s) (message_of s) b ∙ message_long s h

  pub fed_counted : Counted (fed_of s b).taken.place
  fed_counted = counted_place (fed_of s b).taken.place (fed_of s b).message (take_place (place_of s) (message_of s) b (omega (arith, message_long s h)))

  pub read_only : Only place_at answer_at s (read_on s (fed_of s b))
  read_only = only_read_on s (fed_of s b) h fed_long

  pub view_read : view_of (read_on s (fed_of s b)) ≡ with_reader (view_of s) (fed_of s b).taken.place (fed_of s b).message
  view_read = view_read_on s (fed_of s b) h fed_long fed_counted

-- ---- a good message
module _ (p s cal meas : List ℕ) (h : length s ≡ size) (w : Bytes p) (low : generator_of s < 2 ^ 32) where
  -- a deed that is done can be done, and what it stores fits
  abbrev Done : Heeding → Type 0
  Done Dropped = Unit
  Done (Obeyed d) = Doable d (session_of s) (length p) (length cal) (length meas) × Fit d (generator_of s) (wrong_keys_of s)
  Done Ignored = Unit

  heeding_done : (waiting : Bool) → Done (heeding_in waiting p (session_of s) (length cal) (length meas))
  unfolding heeding_in
  heeding_done waiting =
      cond_ind Done waiting (λ _. tt)
      (λ _. cond_ind Done (session_of s).opened (λ _. (judged_doable p s (length cal) (length meas), judged_fits p s (length cal) (length meas) w low))
      (λ _. cond_ind Done (good_connect p) (λ _. (tt, tt)) (λ _. tt)))

  view_done : (x : Heeding) → Done x → byte_shown (heeded_by x p s cal meas) ≡ heeded_as x p (view_of s) cal meas
  unfolding view_of
  view_done Dropped y = refl
  view_done (Obeyed d) y = ap (λ (v : Slave). record { received = Ok Answered; slave = v; memory = written d p cal }) (view_after d s cal meas (length p) h y.0 y.1)
  view_done Ignored y = refl

  pub view_heeded : byte_shown (heeded p s cal meas) ≡ heeded_in p (view_of s) cal meas
  unfolding heeded heeded_in view_of
  view_heeded = rw (answer_long s h) (view_done (heeding_in (waits s) p (session_of s) (length cal) (length meas)) (heeding_done (waits s)))

-- ---- the line's outcome
module _ (s cal meas : List ℕ) (h : length s ≡ size) (w : Bytes (message_of s)) (low : generator_of s < 2 ^ 32) where
  view_meant : (o : Outcome) → byte_shown (meant o (message_of s) s cal meas) ≡ read_as o (view_of s) cal meas
  unfolding meant read_as view_of
  view_meant (Ok None) = refl
  view_meant (Ok (Some good)) = view_heeded (block (message_of s) good.at good.len) s cal meas h (bytes_block (message_of s) good.at good.len w) low
  view_meant (Err BadLength) = refl
  view_meant (Err BadEscape) = refl
  view_meant (Err BadChecksum) = refl
  view_meant (Err CutOff) = refl
  view_meant (Err ShortBuffer) = refl

-- ---- the byte
-- s and b are bytes: of a generator or an address of more than four bytes not all would be stored
module _ (s cal meas : List ℕ) (b : ℕ) (c : consistent s ≡ true) (w : Bytes s) (byte : b < 256) where
  view_received : byte_shown (received_by (fed_of s b) s cal meas) ≡ received_in b (view_of s) cal meas
  unfolding received_in view_of
  view_received =
      let h : length s ≡ size = consistent_size s c in
      let f : Fed = fed_of s b in
      let t : List ℕ = read_on s f in
      let m : message_of t ≡ f.message = ap (λ (v : Slave). v.message) (view_read s b h) in
      let low : generator_of t < 2 ^ 32 = rw (generator_reads (apart tt (read_only s b h))) (generator_fits s w) in
      ap (λ (x : List ℕ). byte_shown (meant f.taken.outcome x t cal meas)) (sym m)
      ∙ view_meant t cal meas ((read_only s b h).long ∙ h) (subst Bytes (sym m) (fed_bytes s b w byte)) low f.taken.outcome
      ∙ ap (λ (v : Slave). read_as f.taken.outcome v cal meas) (view_read s b h)

  pub view_receive : byte_shown (receive_of s cal meas b) ≡ received_in b (view_of s) cal meas
  unfolding receive_of
  view_receive = rw c view_received
