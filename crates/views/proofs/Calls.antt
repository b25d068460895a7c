-- What every other change of the bytes shows: an answer put to wait, a byte read, an answer or a packet sent, a list sampled, power-up. Assumes nothing.
use Rattle.std.proofs.Common.{◌≡◌, ℕ, zero, suc, ◌+◌, ◌^◌, ◌<◌, ◌≤◌, true, cond, eqb, ltb, ◌≢◌, List, [], ◌∷◌, ◌++◌, length, get_or, take, drop, set, replicate, sym, refl, ap, ◌∙◌, subst, ap₂, add-zero, add-one, arith, lit<, lit≤, length-set, length-take-le, get_or-set_other, get_or-set_same, take_at, drop_at, le-ltb, lt-ltb, eqb-true}
use Rattle.std.proofs.lemmas.Bool.{eqb-false}
use Rattle.std.proofs.lemmas.List.{length-replicate, get_or-replicate}
use Rattle.line.specs.Message.{longest}
use Rattle.line.specs.Unstuffing.{Fed}
use Rattle.line.specs.declared.Place.TheVariants.{Outside}
use Rattle.line.proofs.Laws.{cond_ind}
use Rattle.state.specs.Layout.{size, lists, all_odts, stored_most, mark, mark_at, generator_at, wrong_keys_at, ctr_at, round_at, last_at, place_at, message_at, answer_at, answer_bytes_at, session_at, open_at, mode_at, selected_at, running_at, sample_at}
use Rattle.state.specs.Pool.{list_count, round_of, first_odt, odt_count}
use Rattle.state.specs.Bytes.{put32, block}
use Rattle.state.specs.Generator.{start_of}
use Rattle.state.specs.State.{flag_of, generator_of, wrong_keys_of, place_of, message_of, set_message, answer_length, answer_kind, answer_of, answered}
use Rattle.state.specs.Lists.{stored_length}
use Rattle.state.proofs.Allocated.{lists_most, odt_most_lem, odt_next, entry_most_lem}
use Rattle.lists.specs.Event.{contents_of, stored, captured_odts, captured}
use Rattle.lists.specs.Slot.{ctr_next, answer_sent, round_after, packet_sent}
use Rattle.lists.proofs.Gathered.{contents_most}
use Rattle.session.specs.Receive.{read_on}
use Rattle.session.specs.PowerUp.{powered}
use Rattle.state.proofs.Xorshift.{start_some, start_same}
use Rattle.fields.proofs.Fields.{Counted, place_same, generator_same, Answering, answer_same, Bare}
use Rattle.fields.proofs.Stores.{block_sets, sets_in}
use Rattle.fields.proofs.Frames.{Only, out_above, only_none, only_then, only_wider, only_within, only_set, only_sets, only_put32, only_generator, only_read_on, only_message, only_place, only_answered}
use Rattle.fields.proofs.Readers.{Same, apart, same_within, flag_reads, generator_reads, wrong_keys_reads, open_reads, seed_reads, mta_reads, list_count_reads, odt_count_reads, entry_count_reads, round_reads, pointer_reads, place_reads, message_reads, answer_reads, entries_own, store_own}
use Rattle.fields.proofs.Served.{answer_sent_front, answer_sent_round, answer_sent_session, answer_sent_reader}
use Rattle.model.specs.Model.{no_odt, blank}
use Rattle.model.specs.Step.{with_session, with_lists, at, emptied}
use Rattle.model.specs.Calls.{with_answer, with_reader, answer_gone, without_packet, with_round, packet_gone, contents_in, with_packet, sampled, powered_up}
use Rattle.model.specs.View.{odt_of, daq_of, session_of, view_of}
use Rattle.model.proofs.Bounded.{either, up_to_at, up_to_above, up_to_is, up_to_put}
use Rattle.views.proofs.Parts.{spared, both, odt_from, list_from, Stays, mode_own, odt_own, odts_as, in_pool, lists_apart, own_one, list_own, lists_reads, freed_reads, locks_reads, in_session, in_lists}
use Rattle.views.proofs.Shows.{flag_zero, Changes, changes, store_empty, bare_session}

-- a change of none of the session's bytes; with which list the round begins may change
in_round : {s t : List ℕ} → Same generator_at ctr_at s t → Same session_at size s t → session_of t ≡ with_round (session_of s) (round_of t)
unfolding session_of
in_round {s} {t} w v = λ i. record {
  generator = generator_reads (same_within tt w) i;
  wrong_keys = wrong_keys_reads (same_within tt w) i;
  opened = open_reads (same_within tt v) i;
  unlocked = locks_reads (same_within tt v) i;
  seed = seed_reads (same_within tt w) (same_within tt v) i;
  mta = mta_reads (same_within tt v) i;
  pointer = pointer_reads (same_within tt v) i;
  freed = freed_reads (same_within tt v) i;
  lists = list_count_reads (same_within tt v) i;
  round = round_of t;
  list = lists_reads (same_within tt v) i;
}

pub session_reads : {s t : List ℕ} → Same generator_at ctr_at s t → Same round_at last_at s t → Same session_at size s t → session_of t ≡ session_of s
unfolding session_of
session_reads {s} w r v = in_round w v ∙ ap (with_round (session_of s)) (round_reads (same_within tt v) r)

-- ---- an answer waits
pub view_answered : (s bs : List ℕ) → length s ≡ size → Answering bs → view_of (answered s bs) ≡ with_answer (view_of s) bs
unfolding view_of
view_answered s bs h a =
    let w = only_answered s bs a.few in
    λ i. record {
      session = session_reads (apart tt w) (apart tt w) (apart tt w) i;
      place = place_reads (apart tt w) i;
      message = message_reads (apart tt w) i;
      answer = answer_same s bs h a i;
      ctr = w.bytes ctr_at tt i;
      last_answer = flag_reads last_at (apart tt w) i;
    }

-- ---- an answer is sent
no_answer : (s : List ℕ) → get_or s answer_at 0 ≡ 0 → answer_of s ≡ []
unfolding answer_of answer_length
no_answer s e = rw e

flag_on : (s : List ℕ) (i : ℕ) → get_or s i 0 ≡ 1 → flag_of s i ≡ true
unfolding flag_of
flag_on s i e = rw e

pub view_answer_sent : (s : List ℕ) → length s ≡ size → view_of (answer_sent s) ≡ answer_gone (view_of s)
unfolding view_of answer_sent
view_answer_sent s h =
    let s₁ : List ℕ = set s answer_bytes_at (answer_kind s) in
    let s₂ : List ℕ = set s₁ answer_at 0 in
    let s₃ : List ℕ = set s₂ ctr_at (ctr_next s) in
    let h₁ : length s₁ ≡ size = length-set s answer_bytes_at (answer_kind s) ∙ h in
    let h₂ : length s₂ ≡ size = length-set s₁ answer_at 0 ∙ h₁ in
    let h₃ : length s₃ ≡ size = length-set s₂ ctr_at (ctr_next s) ∙ h₂ in
    λ i. record {
      session = session_reads (same_within tt (answer_sent_front s)) (answer_sent_round s) (answer_sent_session s) i;
      place = place_reads (same_within tt (answer_sent_reader s)) i;
      message = message_reads (same_within tt (answer_sent_reader s)) i;
      answer = no_answer (answer_sent s) (get_or-set_other s₃ last_at answer_at 1 0 (omega arith) ∙ get_or-set_other s₂ ctr_at answer_at (ctr_next s) 0 (omega arith) ∙ get_or-set_same s₁ answer_at 0 0 (omega arith)) i;
      ctr = (get_or-set_other s₃ last_at ctr_at 1 0 (omega arith) ∙ get_or-set_same s₂ ctr_at (ctr_next s) 0 (omega arith)) i;
      last_answer = flag_on (answer_sent s) last_at (get_or-set_same s₃ last_at 1 0 (omega arith)) i;
    }

-- ---- a packet is sent
-- the round then begins with the list that is stored, if there is one
round_next : (t : List ℕ) (i : ℕ) → get_or t round_at 0 ≡ i → round_of t ≡ cond (ltb i (list_count t)) i 0
unfolding round_of
round_next t i e = rw e

module _ (s : List ℕ) (l o : ℕ) (h : length s ≡ size) (there : l < list_count s) (its : o < odt_count s l) where
  abbrev at_store : ℕ
  at_store = sample_at (first_odt s l + o)

  few : (l < lists) × (first_odt s l + o < all_odts)
  few = (omega (arith, lists_most s), omega (arith, odt_most_lem s l))

  taken : Changes l (without_packet o) s (set s at_store 0)
  taken =
      let k : ℕ = first_odt s l + o in
      let t : List ℕ = set s at_store 0 in
      let w : Only at_store (at_store + 1) s t = only_set s at_store 0 (omega arith) (omega arith) in
      let stays : Stays s t = spared w (omega arith) in
      changes l (without_packet o) s t stays there
      (list_from (mode_own l (spared w (omega (arith, few)))) (flag_reads (selected_at l) (spared w (omega (arith, few)))) (flag_reads (running_at l) (spared w (omega (arith, few)))) (odt_count_reads stays l few.0)
      (odts_as stays l few.0 ∙ up_to_put (odt_count s l) no_odt its
      (odt_from (entry_count_reads stays k few.1) (entries_own stays k few.1 (spared w (omega (arith, entry_most_lem s k)))) (store_empty t k (get_or-set_same s at_store 0 0 (omega (arith, few))))
      ∙ ap emptied (sym (up_to_at (odt_count s l) o no_odt (λ o. odt_of s (first_odt s l + o)) its)))
      (λ j p n. let m : ℕ = first_odt s l + j in odt_own stays m (omega (arith, odt_most_lem s l)) (spared w (omega (arith, entry_most_lem s m))) (spared w (omega arith)))))
      (λ j p n. list_own j p (own_one w (omega (arith, few, lists_apart s j l n, in_pool s j, odt_next s l))))

  pub view_packet_sent : view_of (packet_sent s l o) ≡ packet_gone l o (view_of s)
  unfolding view_of packet_sent session_of
  view_packet_sent =
      let s₁ : List ℕ = set s at_store 0 in
      let s₂ : List ℕ = set s₁ ctr_at (ctr_next s) in
      let s₃ : List ℕ = set s₂ round_at (round_after l) in
      let t : List ℕ = set s₃ last_at 0 in
      let h₁ : length s₁ ≡ size = length-set s at_store 0 ∙ h in
      let h₂ : length s₂ ≡ size = length-set s₁ ctr_at (ctr_next s) ∙ h₁ in
      let h₃ : length s₃ ≡ size = length-set s₂ round_at (round_after l) ∙ h₂ in
      let w : Only at_store (at_store + 1) s s₁ = only_set s at_store 0 (omega arith) (omega arith) in
      let v : Only ctr_at place_at s₁ t = only_then (only_set s₁ ctr_at (ctr_next s) (lit≤ tt) (lit< tt)) (only_then (only_set s₂ round_at (round_after l) (lit≤ tt) (lit< tt)) (only_set s₃ last_at 0 (lit≤ tt) (lit< tt))) in
      let x : Only (mode_at 0) size s s₁ = only_set s at_store 0 (omega arith) (omega (arith, few)) in
      let stays : Stays s t = both w v (omega arith) in
      let begins : round_of t ≡ cond (ltb (round_after l) (list_count s)) (round_after l) 0
      = round_next t (round_after l) (get_or-set_other s₃ last_at round_at 0 0 (omega arith) ∙ get_or-set_same s₂ round_at (round_after l) 0 (omega arith)) ∙ ap (λ (n : ℕ). cond (ltb (round_after l) n) (round_after l) 0) (list_count_reads stays) in
      λ i. record {
        session = (in_round (apart tt v) (apart tt v) ∙ ap₂ with_round (in_lists x ∙ ap (with_lists (session_of s)) taken) begins) i;
        place = place_reads (both w v (omega arith)) i;
        message = message_reads (both w v (omega arith)) i;
        answer = answer_reads (both w v (omega arith)) i;
        ctr = (get_or-set_other s₃ last_at ctr_at 0 0 (omega arith) ∙ get_or-set_other s₂ round_at ctr_at (round_after l) 0 (omega arith) ∙ get_or-set_same s₁ ctr_at (ctr_next s) 0 (omega arith)) i;
        last_answer = flag_zero t last_at (get_or-set_same s₃ last_at 0 0 (omega arith)) i;
      }

-- ---- a byte is read
message_set : (s m : List ℕ) → length s ≡ size → length m ≡ longest → message_of (set_message s m) ≡ m
unfolding message_of set_message
message_set s m h k = rw (drop_at (take message_at s) (m ++ drop answer_at s) message_at (length-take-le message_at s (omega arith))) (take_at m (drop answer_at s) longest k)

read_place : (s : List ℕ) (f : Fed) → length s ≡ size → length f.message ≡ longest → Counted f.taken.place → place_of (read_on s f) ≡ f.taken.place
unfolding read_on
read_place s f h k c = place_same (set_message s f.message) f.taken.place ((only_message s f.message h k).long ∙ h) c

read_message : (s : List ℕ) (f : Fed) → length s ≡ size → length f.message ≡ longest → message_of (read_on s f) ≡ f.message
unfolding read_on
read_message s f h k = message_reads (apart tt (only_place (set_message s f.message) f.taken.place)) ∙ message_set s f.message h k

pub view_read_on : (s : List ℕ) (f : Fed) → length s ≡ size → length f.message ≡ longest → Counted f.taken.place → view_of (read_on s f) ≡ with_reader (view_of s) f.taken.place f.message
unfolding view_of
view_read_on s f h k c =
    let w = only_read_on s f h k in
    λ i. record {
      session = session_reads (apart tt w) (apart tt w) (apart tt w) i;
      place = read_place s f h k c i;
      message = read_message s f h k i;
      answer = answer_reads (apart tt w) i;
      ctr = w.bytes ctr_at tt i;
      last_answer = flag_reads last_at (apart tt w) i;
    }

-- ---- a list is sampled
-- an ODT's packet reads as it was stored
module _ (s : List ℕ) (k : ℕ) (bs : List ℕ) (h : length s ≡ size) (k8 : k < all_odts) (few : length bs ≤ stored_most) where
  stored_only : Only (sample_at k) (sample_at (k + 1)) s (stored s k bs)
  unfolding stored
  stored_only = only_sets s (sample_at k) (length bs ∷ bs) (omega arith) (omega arith)

  stored_byte : get_or (stored s k bs) (sample_at k) 0 ≡ length bs
  unfolding stored
  stored_byte = rw add-zero at (sets_in s (sample_at k) (length bs ∷ bs) 0 (omega arith) (omega arith))

  stored_block : block (stored s k bs) (sample_at k + 1) (length bs) ≡ bs
  unfolding stored
  stored_block = rw (add-one (sample_at k)) (block_sets (set s (sample_at k) (length bs)) (suc (sample_at k)) bs (rw length-set (omega arith)))

  stored_is : (odt_of (stored s k bs) k).store ≡ bs
  unfolding stored_length
  stored_is = rw (stored_byte, le-ltb stored_most (length bs) few) stored_block

-- list l's first n ODTs
module _ (s : List ℕ) (l clock : ℕ) (cal meas : List ℕ) (long : length s ≡ size) (list : l < list_count s) where
  abbrev k : ℕ
  k = first_odt s l

  abbrev m : ℕ
  m = odt_count s l

  abbrev first : ℕ → List ℕ
  first n = captured_odts s k clock cal meas n

  odt_few : (n : ℕ) → n < m → k + n < all_odts
  odt_few n h = omega (arith, odt_most_lem s l)

  short : (n : ℕ) → n < m → length (contents_of s k n clock cal meas) ≤ stored_most
  short n h = contents_most s k n clock cal meas

  first_only : (n : ℕ) → n ≤ m → Only (sample_at k) (sample_at (k + n)) s (first n)
  unfolding captured_odts
  first_only zero h = only_none
  first_only (suc n) h =
      let w = first_only n (omega arith) in
      only_then (only_wider (omega arith) (omega arith) w)
      (only_wider (omega arith) (omega arith) (stored_only (first n) (k + n) (contents_of s k n clock cal meas) (w.long ∙ long) (odt_few n h) (short n h)))

  first_store : (n j : ℕ) → n ≤ m → j < n → (odt_of (first n) (k + j)).store ≡ contents_of s k j clock cal meas
  unfolding captured_odts
  first_store zero j h q = absurd (omega arith)
  first_store (suc n) j h q =
      let t : List ℕ = first n in
      let bs : List ℕ = contents_of s k n clock cal meas in
      let whole : length t ≡ size = (first_only n (omega arith)).long ∙ long in
      either (eqb j n)
      (λ b. subst (λ (i : ℕ). (odt_of (stored t (k + n) bs) (k + i)).store ≡ contents_of s k i clock cal meas) (sym (eqb-true j n b)) (stored_is t (k + n) bs whole (odt_few n h) (short n h)))
      (λ b. let other : j ≢ n = eqb-false j n b in
      store_own (k + j) (spared (stored_only t (k + n) bs whole (odt_few n h) (short n h)) (omega arith)) ∙ first_store n j (omega arith) (omega arith))

  pub captured_only : Only (sample_at (first_odt s l)) (sample_at (first_odt s l + odt_count s l)) s (captured s l clock cal meas)
  captured_only = first_only m (omega arith)

  stays : Stays s (captured s l clock cal meas)
  stays = spared captured_only (omega arith)

  list_few : l < lists
  list_few = omega (arith, lists_most s)

  captured_odt : (o : ℕ) → o < m → odt_of (captured s l clock cal meas) (k + o) ≡ with_packet (contents_in o clock cal meas (odt_of s (k + o))) (odt_of s (k + o))
  captured_odt o h =
      odt_from (entry_count_reads stays (k + o) (odt_few o h)) (entries_own stays (k + o) (odt_few o h) (spared captured_only (omega (arith, entry_most_lem s (k + o))))) (first_store m o (omega arith) h)

  captured_odts_lem : (daq_of (captured s l clock cal meas) l).odt ≡ (sampled clock cal meas (daq_of s l)).odt
  captured_odts_lem =
      odts_as stays l list_few
      ∙ up_to_is m no_odt
      (λ o h. captured_odt o h ∙ rw (lt-ltb o m h, up_to_at m o no_odt (λ o. odt_of s (k + o)) h))
      (λ o h. rw (le-ltb o m h, up_to_above m o no_odt (λ o. odt_of s (k + o)) h))

  pub changes_captured : Changes l (sampled clock cal meas) s (captured s l clock cal meas)
  changes_captured =
      let t : List ℕ = captured s l clock cal meas in
      changes l (sampled clock cal meas) s t stays list
      (list_from (mode_own l (spared captured_only (omega (arith, list_few)))) (flag_reads (selected_at l) (spared captured_only (omega (arith, list_few)))) (flag_reads (running_at l) (spared captured_only (omega (arith, list_few))))
      (odt_count_reads stays l list_few) captured_odts_lem)
      (λ j p n. list_own j p (own_one captured_only (omega (arith, lists_apart s j l n, in_pool s j, in_pool s l))))

  only_lists : Only (mode_at 0) size s (captured s l clock cal meas)
  only_lists = only_wider (omega arith) (omega (arith, odt_most_lem s l)) captured_only

  pub view_captured : view_of (captured s l clock cal meas) ≡ with_session (view_of s) (at l (sampled clock cal meas) (session_of s))
  unfolding session_of
  view_captured =
      in_session (record { range = only_within tt only_lists; ctr = apart tt only_lists; between = apart tt only_lists })
      ∙ ap (with_session (view_of s)) (in_lists only_lists ∙ ap (with_lists (session_of s)) changes_captured)

-- ---- power-up
place_outside : (s : List ℕ) → get_or s place_at 0 ≡ 0 → place_of s ≡ Outside
unfolding place_of
place_outside s e = rw e

empty_message : message_of (replicate size 0) ≡ replicate longest 0
unfolding message_of
empty_message = refl

start_fits : (x : ℕ) → x < 2 ^ 32 → start_of x < 2 ^ 32
unfolding start_of
start_fits x h = cond_ind (λ (n : ℕ). n < 2 ^ 32) (eqb x 0) (λ _. omega arith) (λ _. h)

module _ (start : ℕ) where
  abbrev zeros : List ℕ
  zeros = replicate size 0

  abbrev marked : List ℕ
  marked = put32 zeros mark_at mark

  long_marked : length marked ≡ size
  long_marked = (only_put32 {lo = mark_at} {hi = generator_at} zeros mark_at mark (lit≤ tt) (lit≤ tt)).long ∙ length-replicate {A = ℕ} size 0

  powered_only : Only mark_at wrong_keys_at zeros (powered start)
  unfolding powered
  powered_only = only_then (only_put32 zeros mark_at mark (lit≤ tt) (lit≤ tt)) (only_within tt (only_generator marked (start_of start)))

  -- what is neither the mark nor the generator
  pub powered_nought : (j : ℕ) → wrong_keys_at ≤ j → j < size → get_or (powered start) j 0 ≡ 0
  powered_nought j p q = powered_only.bytes j (out_above mark_at wrong_keys_at j p) ∙ get_or-replicate size j 0 0 q

  powered_bare : Bare (powered start)
  powered_bare = record { nought = λ j p q. powered_nought j (omega arith) (omega arith) }

  powered_generator : start < 2 ^ 32 → generator_of (powered start) ≡ start_of start
  unfolding powered
  powered_generator low = generator_same marked (start_of start) long_marked (start_fits start low) ∙ start_same (start_of start) (start_some start)

  pub powered_wrong_keys : wrong_keys_of (powered start) ≡ 0
  unfolding wrong_keys_of
  powered_wrong_keys = rw (powered_nought wrong_keys_at (lit≤ tt) (lit< tt))

  pub view_powered : start < 2 ^ 32 → view_of (powered start) ≡ powered_up start
  unfolding view_of
  view_powered low = λ i. record {
    session = (bare_session (powered start) powered_bare ∙ λ k. blank (powered_generator low k) (powered_wrong_keys k) (flag_zero (powered start) open_at (powered_nought open_at (lit≤ tt) (lit< tt)) k)) i;
    place = place_outside (powered start) (powered_nought place_at (lit≤ tt) (lit< tt)) i;
    message = (message_reads (apart tt powered_only) ∙ empty_message) i;
    answer = no_answer (powered start) (powered_nought answer_at (lit≤ tt) (lit< tt)) i;
    ctr = powered_nought ctr_at (lit≤ tt) (lit< tt) i;
    last_answer = flag_zero (powered start) last_at (powered_nought last_at (lit≤ tt) (lit< tt)) i;
  }
