-- Bytes in a slice, one after the other: what each leads to. Assumes nothing.
use Rattle.std.proofs.Common.{Some, None, Ok, Err, ◌≡◌, refl, sym, ap, ap₂, subst, ◌∙◌, ◌≢◌, Bool, true, false, cond, List, [], ◌∷◌, ◌++◌, ℕ, zero, suc, ◌+◌, ◌%◌, ◌≤◌, ◌<◌, arith, ne_eqb, ltb-true, ltb-false, eqb, ltb, length, get_or, set, take, drop, length-set, length-take, set-set, drop-set-lt, drop-cons, length-take-le, take_all}
use Rattle.std.proofs.lemmas.List.{set_comm, set-append_left}
use Rattle.std.proofs.Math.Seq.{take-set-lt, drop-length}
use Rattle.line.specs.Stuffing.{SYNC, ESC}
use Rattle.line.specs.Message.{byte_form}
use Rattle.line.specs.Unstuffing.{Fed, place_by, inside_by, cut_of}
use Rattle.line.specs.Reader.{begun_of, messages}
use Rattle.line.specs.declared.Place.{Place}
use Rattle.line.specs.declared.Place.TheVariants.{Outside, Inside, Escaped}
use Rattle.line.specs.Values.{Outcome}
use Rattle.line.proofs.Laws.{cond_ind, false_true}
use Rattle.line.proofs.Begun.{begun_right}
use Rattle.state.specs.Layout.{place_at, count_at, message_at, answer_at, size}
use Rattle.state.proofs.Ranges.{by_lt}
use Rattle.state.specs.Bytes.{block}
use Rattle.state.specs.State.{consistent, set_place, message_of, set_message, waits}
use Rattle.model.specs.Heed.{Heeding, Dropped, Obeyed, Ignored, heeding_in}
use Rattle.model.specs.View.{session_of}
use Rattle.session.specs.Receive.{Step, Receives, only, heeded, heeded_by, meant, read_on, fed_of, received_by}
use Rattle.session.specs.Slice.{Slice, taking, then, bytes_of, taken_most, receive_bytes_of, ReceivesBytes}
use Rattle.session.specs.declared.Took.{Took}
use Rattle.session.specs.Quiet.{ReadsOn, Quiet, ends, placed, len_of, reads_as, Stands, from, Leads, Fits, Runs, Skips, Passes}
use Rattle.session.proofs.Reading.{place_in, fed, len_there, placed_there, outside_other, plain_goes, len_stays}
use Rattle.words.specs.Number.{received_number}
use Rattle.words.specs.Values.{Received, no_state}
use Rattle.line.specs.declared.Fault.TheVariants.{BadLength, BadEscape, BadChecksum, CutOff, ShortBuffer}
use Rattle.words.specs.declared.Heard.TheVariants.{Nothing}

-- ---- a byte that ends nothing, and what is behind it
module _ (s cal meas : List ℕ) (b : ℕ) where
  reads_nothing : (t : List ℕ) → ReadsOn s b t → received_by (fed_of s b) s cal meas ≡ only (Ok Nothing) t cal
  unfolding meant
  reads_nothing t r =
      ap (λ (o : Outcome). meant o (fed_of s b).message (read_on s (fed_of s b)) cal meas) r.nothing
      ∙ ap (λ (x : List ℕ). only (Ok Nothing) x cal) (sym r.state)

  behind_nothing : (t rest : List ℕ) → ReadsOn s b t
      → bytes_of s cal meas (b ∷ rest) ≡ taking (bytes_of t cal meas rest).received (suc (bytes_of t cal meas rest).taken) (bytes_of t cal meas rest).state (bytes_of t cal meas rest).cal
  behind_nothing t rest r = ap (λ (x : Step). then x (bytes_of x.state x.cal meas rest)) (reads_nothing t r)

pub leads_one : (bs s t : List ℕ) (i : ℕ) → i < length bs → ReadsOn s (get_or bs i 0) t → Leads bs s i t (i + 1)
leads_one bs s t i h r = λ (cal meas : List ℕ).
    let e : drop i bs ≡ get_or bs i 0 ∷ drop (suc i) bs = drop-cons bs i 0 h in
    let o = bytes_of t cal meas (drop (suc i) bs) in
    let n : i + suc o.taken ≡ (i + 1) + o.taken = omega arith in
    let j : suc i ≡ i + 1 = omega arith in
    ap (λ (l : List ℕ). taking (bytes_of s cal meas l).received (i + (bytes_of s cal meas l).taken) (bytes_of s cal meas l).state (bytes_of s cal meas l).cal) e
    ∙ ap (λ (x : Slice). taking x.received (i + x.taken) x.state x.cal) (behind_nothing s cal meas (get_or bs i 0) t (drop (suc i) bs) r)
    ∙ ap (λ (k : ℕ). taking o.received k o.state o.cal) n
    ∙ ap (λ (k : ℕ). taking (bytes_of t cal meas (drop k bs)).received ((i + 1) + (bytes_of t cal meas (drop k bs)).taken) (bytes_of t cal meas (drop k bs)).state (bytes_of t cal meas (drop k bs)).cal) j

pub leads_on : (bs s t u : List ℕ) (i j k : ℕ) → Leads bs s i t j → Leads bs t j u k → Leads bs s i u k
leads_on bs s t u i j k a b = λ (cal meas : List ℕ). a cal meas ∙ b cal meas

-- ---- a byte that ends something
heeded_tells : (p s cal meas : List ℕ) → eqb (received_number (heeded p s cal meas).received) 0 ≡ false
unfolding heeded
heeded_tells p s cal meas = go (heeding_in (waits s) p (session_of s) (length cal) (length meas))
  where
    go : (h : Heeding) → eqb (received_number (heeded_by h p s cal meas).received) 0 ≡ false
    go Dropped = refl
    go (Obeyed d) = refl
    go Ignored = refl

meant_tells : (o : Outcome) (m s cal meas : List ℕ) → ends o ≡ true → eqb (received_number (meant o m s cal meas).received) 0 ≡ false
unfolding meant
meant_tells (Ok None) m s cal meas e = absurd (false_true e)
meant_tells (Ok (Some good)) m s cal meas e = heeded_tells (block m good.at good.len) s cal meas
meant_tells (Err BadLength) m s cal meas e = refl
meant_tells (Err BadEscape) m s cal meas e = refl
meant_tells (Err BadChecksum) m s cal meas e = refl
meant_tells (Err CutOff) m s cal meas e = refl
meant_tells (Err ShortBuffer) m s cal meas e = refl

-- ---- a whole slice
pub none_taken : (bs s cal meas : List ℕ) → from bs s 0 cal meas ≡ bytes_of s cal meas bs
none_taken bs s cal meas =
    let o = bytes_of s cal meas bs in
    let z : 0 + o.taken ≡ o.taken = omega arith in
    ap (λ (k : ℕ). taking o.received k o.state o.cal) z

pub all_taken : (bs s cal meas : List ℕ) (r : ℕ) → r ≡ length bs → from bs s r cal meas ≡ taking (Ok Nothing) r s cal
all_taken bs s cal meas r e =
    let d : drop r bs ≡ [] = ap (λ (k : ℕ). drop k bs) e ∙ drop-length bs in
    let z : r + 0 ≡ r = omega arith in
    ap (λ (l : List ℕ). taking (bytes_of s cal meas l).received (r + (bytes_of s cal meas l).taken) (bytes_of s cal meas l).state (bytes_of s cal meas l).cal) d
    ∙ ap (λ (k : ℕ). taking (Ok Nothing) k s cal) z

pub ended : (bs s cal meas : List ℕ) (r : ℕ) → r < length bs → ends (fed_of s (get_or bs r 0)).taken.outcome ≡ true
    → from bs s r cal meas ≡ taking (received_by (fed_of s (get_or bs r 0)) s cal meas).received (r + 1) (received_by (fed_of s (get_or bs r 0)) s cal meas).state (received_by (fed_of s (get_or bs r 0)) s cal meas).cal
ended bs s cal meas r h e =
    let b = get_or bs r 0 in
    let x = received_by (fed_of s b) s cal meas in
    let d : drop r bs ≡ b ∷ drop (suc r) bs = drop-cons bs r 0 h in
    let told : eqb (received_number x.received) 0 ≡ false = meant_tells (fed_of s b).taken.outcome (fed_of s b).message (read_on s (fed_of s b)) cal meas e in
    let o = bytes_of x.state x.cal meas (drop (suc r) bs) in
    let stops : then x o ≡ taking x.received 1 x.state x.cal = simp told in
    ap (λ (l : List ℕ). taking (bytes_of s cal meas l).received (r + (bytes_of s cal meas l).taken) (bytes_of s cal meas l).state (bytes_of s cal meas l).cal) d
    ∙ ap (λ (y : Slice). taking y.received (r + y.taken) y.state y.cal) stops

-- ---- a place that no message can have reads as outside
place_over : (s : List ℕ) (a : ℕ) (p : Place) → set_place (set s place_at a) p ≡ set_place s p
unfolding set_place
place_over s a Outside = set-set s place_at a 0
place_over s a (Inside k) = ap (λ (x : List ℕ). set x count_at (k % 256)) (set-set s place_at a 1)
place_over s a (Escaped k) = ap (λ (x : List ℕ). set x count_at (k % 256)) (set-set s place_at a 2)

message_over : (s m : List ℕ) (a : ℕ) → message_at ≤ length s → set_message (set s place_at a) m ≡ set (set_message s m) place_at a
unfolding set_message
message_over s m a h =
    let front : length (take message_at s) ≡ message_at = length-take-le message_at s h in
    ap (λ (x : List ℕ). x ++ (m ++ drop answer_at (set s place_at a))) (take-set-lt message_at s place_at a (omega arith))
    ∙ ap (λ (x : List ℕ). set (take message_at s) place_at a ++ (m ++ x)) (drop-set-lt answer_at s place_at a (omega arith))
    ∙ sym (set-append_left (take message_at s) (m ++ drop answer_at s) place_at a (omega (arith, front)))

module _ (s : List ℕ) (tag k : ℕ) (h : length s ≡ size) where
  place_same : place_by messages (place_in tag k) (message_of s) ≡ place_by messages (place_in (reads_as s tag k) k) (message_of s)
  place_same = go (ltb 2 tag) refl (begun_of k (len_of s)) refl
    where
      none : begun_of k (len_of s) ≡ false → place_by messages (place_in tag k) (message_of s) ≡ Outside
      none u =
          let g : begun_of k (get_or (message_of s) 0 0) ≡ false = ap (begun_of k) (len_there s) ∙ u in
          cond_ind (λ (p : Place). place_by messages p (message_of s) ≡ Outside) (eqb tag 1) (λ _. rw g)
          (λ _. cond_ind (λ (p : Place). place_by messages p (message_of s) ≡ Outside) (eqb tag 2) (λ _. rw g) (λ _. refl))

      go : (t : Bool) → ltb 2 tag ≡ t → (u : Bool) → begun_of k (len_of s) ≡ u
          → place_by messages (place_in tag k) (message_of s) ≡ place_by messages (place_in (cond t 0 (cond u tag 0)) k) (message_of s)
      go true e u f =
          let far : 2 < tag = ltb-true 2 tag e in
          let out : place_in tag k ≡ Outside = simp (ne_eqb tag 1 (λ (z : tag ≡ 1). omega arith), ne_eqb tag 2 (λ (z : tag ≡ 2). omega arith)) in
          ap (λ (p : Place). place_by messages p (message_of s)) out
      go false e true f = refl
      go false e false f = none f

  fed_same : (b : ℕ) → fed_of (placed s tag k) b ≡ fed_of (placed s (reads_as s tag k) k) b
  fed_same b =
      fed s tag k h b
      ∙ ap (λ (q : Place). cond (eqb b SYNC) (record { taken = record { place = Inside 0; outcome = cut_of q }; message = message_of s }) (inside_by messages q (message_of s) b)) place_same
      ∙ sym (fed s (reads_as s tag k) k h b)

  state_same : (f : Fed) (a : ℕ) → read_on (placed s a k) f ≡ set_place (set_message (set s count_at k) f.message) f.taken.place
  unfolding read_on
  state_same f a =
      ap (λ (x : List ℕ). set_place (set_message x f.message) f.taken.place) (set_comm s place_at count_at a k (λ (e : place_at ≡ count_at). omega arith))
      ∙ ap (λ (x : List ℕ). set_place x f.taken.place) (message_over (set s count_at k) f.message a (omega (arith, length-set s count_at k)))
      ∙ place_over (set_message (set s count_at k) f.message) a f.taken.place

  received_same : (cal meas : List ℕ) (b : ℕ) → received_by (fed_of (placed s tag k) b) (placed s tag k) cal meas
      ≡ received_by (fed_of (placed s (reads_as s tag k) k) b) (placed s (reads_as s tag k) k) cal meas
  received_same cal meas b =
      ap (λ (f : Fed). meant f.taken.outcome f.message (read_on (placed s tag k) f) cal meas) (fed_same b)
      ∙ ap (λ (x : List ℕ). meant (fed_of (placed s (reads_as s tag k) k) b).taken.outcome (fed_of (placed s (reads_as s tag k) k) b).message x cal meas)
      (state_same (fed_of (placed s (reads_as s tag k) k) b) tag ∙ sym (state_same (fed_of (placed s (reads_as s tag k) k) b) (reads_as s tag k)))

  pub stands_so : Stands s (reads_as s tag k) k
  stands_so = go (ltb 2 tag) refl (begun_of k (len_of s)) refl
    where
      go : (t : Bool) → ltb 2 tag ≡ t → (u : Bool) → begun_of k (len_of s) ≡ u → Stands s (cond t 0 (cond u tag 0)) k
      go true e u f = record { few = omega arith; begun = λ (z : ◌≢◌ {A = ℕ} 0 0). absurd (z refl) }
      go false e true f = record { few = ltb-false 2 tag e; begun = λ _. f }
      go false e false f = record { few = omega arith; begun = λ (z : ◌≢◌ {A = ℕ} 0 0). absurd (z refl) }

pub leads_start : (bs s : List ℕ) (tag k : ℕ) → length s ≡ size → 0 < length bs → tag ≡ get_or s place_at 0 → k ≡ get_or s count_at 0 → Leads bs s 0 (placed s (reads_as s tag k) k) 0
leads_start [] s tag k h some e f = absurd (omega arith)
leads_start (b ∷ rest) s tag k h some e f = λ (cal meas : List ℕ).
    let own : placed s tag k ≡ s = placed_there s s tag k b (sym e) (sym f) in
    ap (λ (x : Step). taking (then x (bytes_of x.state x.cal meas rest)).received (0 + (then x (bytes_of x.state x.cal meas rest)).taken)
    (then x (bytes_of x.state x.cal meas rest)).state (then x (bytes_of x.state x.cal meas rest)).cal)
    (ap (λ (x : List ℕ). received_by (fed_of x b) x cal meas) (sym own) ∙ received_same s tag k h cal meas b)

-- ---- a run inside a message
-- so many bytes in, it is at the same place
leads_same : (bs s t : List ℕ) (i j k l m : ℕ) → k ≡ l → j ≡ m → Leads bs s i (placed t 1 k) j → Leads bs s i (placed t 1 l) m
leads_same bs s t i j k l m e f r = λ (cal meas : List ℕ). r cal meas ∙ ap₂ (λ (x y : ℕ). from bs (placed t 1 x) y cal meas) e f

pub run_none : (bs s : List ℕ) (k i : ℕ) → Runs bs s k i 0 s
run_none bs s k i = record {
  none = λ _. refl;
  len = refl;
  leads = leads_same bs (placed s 1 k) s i i k (k + 0) (i + 0) (omega arith) (omega arith) (λ (cal meas : List ℕ). refl);
}

pub run_next : (bs s t : List ℕ) (k i j n b : ℕ) → length t ≡ size → Fits s 1 k n → j < n → i + n ≤ length bs → Runs bs s k i j t → b ≡ get_or bs (i + j) 0 → b ≢ SYNC → b ≢ ESC
    → Runs bs s k i (j + 1) (set t (message_at + (k + j)) b)
run_next bs s t k i j n b h f short fits r e x y = record {
  none = λ (z : j + 1 ≡ 0). absurd (omega arith);
  len = len_stays t (k + j) b some ∙ r.len;
  leads = leads_same bs (placed s 1 k) u i ((i + j) + 1) ((k + j) + 1) (k + (j + 1)) (i + (j + 1)) (omega arith) (omega arith)
      (leads_on bs (placed s 1 k) (placed t 1 (k + j)) (placed u 1 ((k + j) + 1)) i (i + j) ((i + j) + 1) r.leads
      (leads_one bs (placed t 1 (k + j)) (placed u 1 ((k + j) + 1)) (i + j) (omega arith) (subst (λ (z : ℕ). ReadsOn (placed t 1 (k + j)) z (placed u 1 ((k + j) + 1))) e (plain_goes t (k + j) b h some g x y))));
}
  where
    u : List ℕ
    u = set t (message_at + (k + j)) b

    some : 1 ≤ k + j
    some = omega (arith, f.begun)

    g : begun_of ((k + j) + 1) (len_of t) ≡ true
    g = begun_right byte_form ((k + j) + 1) (len_of t) (omega (arith, r.len, f.some)) (omega (arith, r.len, f.few)) (omega (arith, r.len, f.short))

pub run_leads : (bs s t : List ℕ) (tag k i n r : ℕ) → Stands s tag k → (0 < n → Fits s tag k n) → r ≤ n → Runs bs s k i r t
    → Leads bs (placed s tag k) i (placed t tag (k + r)) (i + r) × Stands t tag (k + r)
run_leads bs s t tag k i n zero d f few x =
    let e : s ≡ t = sym (x.none refl) in
    let z : k ≡ k + 0 = omega arith in
    let y : i ≡ i + 0 = omega arith in (
      λ (cal meas : List ℕ). ap (λ (u : List ℕ). from bs (placed u tag k) i cal meas) e ∙ ap₂ (λ (a b : ℕ). from bs (placed t tag a) b cal meas) z y,
      subst (λ (a : ℕ). Stands t tag a) z (subst (λ (u : List ℕ). Stands u tag k) e d),
    )
run_leads bs s t tag k i n (suc r) d f few x =
    let g : Fits s tag k n = f (omega arith) in (
      subst (λ (y : ℕ). Leads bs (placed s y k) i (placed t y (k + suc r)) (i + suc r)) (sym g.inside) x.leads,
      record { few = d.few; begun = λ _. begun_right byte_form (k + suc r) (len_of t) (omega (arith, x.len, g.some)) (omega (arith, x.len, g.few)) (omega (arith, x.len, g.short)) },
    )

-- it stays within the message
module _ (s : List ℕ) (tag k n r : ℕ) (f : 0 < n → Fits s tag k n) (few : r ≤ n) where
  pub run_few : r ≤ 66
  run_few = by_lt 0 n (λ some. omega (arith, (f some).short, (f some).few)) (λ none. omega arith)

  pub run_sum : k < 256 → k + r < 256
  run_sum h = by_lt 0 n (λ some. omega (arith, (f some).short, (f some).few)) (λ none. omega arith)

-- ---- bytes outside a message
pub skip_none : (bs : List ℕ) (tag i : ℕ) → i ≤ length bs → Skips bs tag i i
skip_none bs tag i h = record { begun = omega arith; most = h; leads = λ (s : List ℕ) (k : ℕ) _ (cal meas : List ℕ). refl }

pub skip_next : (bs : List ℕ) (i j : ℕ) → j < length bs → Skips bs 0 i j → get_or bs j 0 ≢ SYNC → Skips bs 0 i (j + 1)
skip_next bs i j h x n = record {
  begun = omega (arith, x.begun);
  most = omega arith;
  leads = λ (s : List ℕ) (k : ℕ) (e : length s ≡ size). leads_on bs (placed s 0 k) (placed s 0 k) (placed s 0 k) i j (j + 1) (x.leads s k e)
      (leads_one bs (placed s 0 k) (placed s 0 k) j h (outside_other s k (get_or bs j 0) e n));
}

-- ---- all bytes before one that ends something
pub pass_none : (bs s : List ℕ) → length bs ≡ 0 → Passes bs s 0 s
pass_none bs s e = record { most = omega arith; leads = λ (cal meas : List ℕ). refl; next = λ (h : 0 < length bs). absurd (omega arith) }

pub leads_to : (bs s t u : List ℕ) (i : ℕ) → Leads bs s 0 t i → t ≡ u → Leads bs s 0 u i
leads_to bs s t u i r e = subst (λ (y : List ℕ). Leads bs s 0 y i) e r

pub passed : (bs s t : List ℕ) (tag k i : ℕ) (u : List ℕ) → i < length bs → Leads bs s 0 (placed t tag k) i → placed t tag k ≡ u
    → ends (fed_of (placed t tag k) (get_or bs i 0)).taken.outcome ≡ true → Passes bs s i u
passed bs s t tag k i u h r e x = subst (λ (y : List ℕ). Passes bs s i y) e (record { most = omega arith; leads = r; next = λ _. x })

pub passed_all : (bs s t : List ℕ) (i : ℕ) → i ≡ length bs → Leads bs s 0 t i → Passes bs s i t
passed_all bs s t i e r = record { most = omega arith; leads = r; next = λ (h : i < length bs). absurd (omega arith) }

-- ---- the byte call
pub quiet_byte : (s cal meas : List ℕ) (b : ℕ) (r : Bool) (t : List ℕ) → Quiet s b r t → r ≡ true → Receives (received_by (fed_of s b) s cal meas) (Ok Nothing) t cal
quiet_byte s cal meas b true t q e =
    let x = reads_nothing s cal meas b t q in
    record { result = ap (λ (y : Step). y.received) (sym x); state = ap (λ (y : Step). y.state) (sym x); memory = ap (λ (y : Step). y.cal) (sym x) }
quiet_byte s cal meas b false t q e = absurd (false_true e)

pub loud : (s : List ℕ) (b : ℕ) (r : Bool) (t : List ℕ) → Quiet s b r t → r ≡ false → t ≡ s
loud s b true t q e = absurd (false_true (sym e))
loud s b false t q e = q

-- ---- the slice call
pub so_taken : (o : Slice) (k : Took) (s cal : List ℕ) → o ≡ taking k.received k.taken s cal → ReceivesBytes o k s cal
so_taken o k s cal e = record {
  result = ap (λ (x : Slice). x.received) (sym e);
  taken = ap (λ (x : Slice). x.taken) (sym e);
  state = ap (λ (x : Slice). x.state) (sym e);
  memory = ap (λ (x : Slice). x.cal) (sym e);
}

pub all_received : (bs s t cal meas : List ℕ) (r : ℕ) → Passes bs s r t → length bs ≤ r → bytes_of s cal meas bs ≡ taking (Ok Nothing) r t cal
all_received bs s t cal meas r p h = sym (none_taken bs s cal meas) ∙ p.leads cal meas ∙ all_taken bs t cal meas r (omega (arith, p.most))

pub one_received : (bs s t cal meas : List ℕ) (r : ℕ) (x : Received) (u c : List ℕ) → Passes bs s r t → r < length bs → Receives (received_by (fed_of t (get_or bs r 0)) t cal meas) x u c
    → bytes_of s cal meas bs ≡ taking x (r + 1) u c
one_received bs s t cal meas r x u c p h k =
    let y = received_by (fed_of t (get_or bs r 0)) t cal meas in
    sym (none_taken bs s cal meas) ∙ p.leads cal meas ∙ ended bs t cal meas r h (p.next h)
    ∙ ap (λ (a : Received). taking a (r + 1) y.state y.cal) (sym k.result)
    ∙ ap₂ (λ (a b : List ℕ). taking x (r + 1) a b) (sym k.state) (sym k.memory)

-- what is counted in 32 bits is all, up to the most
counted_take : (bs : List ℕ) (n : ℕ) → take (cond (ltb (length bs) n) (length bs) n) bs ≡ take n bs
counted_take bs n =
    cond_ind (λ (k : ℕ). take k bs ≡ take n bs) (ltb (length bs) n)
    (λ t. take_all (length bs) bs (omega arith) ∙ sym (take_all n bs (omega (arith, ltb-true (length bs) n t)))) (λ _. refl)

bytes_by : (s cal meas bs : List ℕ) (most n : ℕ) (k : Took) (t c : List ℕ) → consistent s ≡ true → n ≡ cond (ltb (length bs) most) (length bs) most
    → ReceivesBytes (bytes_of s cal meas (take n bs)) k t c → ReceivesBytes (cond (consistent s) (bytes_of s cal meas (take most bs)) (taking (Err no_state) 0 s cal)) k t c
bytes_by s cal meas bs most n k t c e f x =
    let d : take n bs ≡ take most bs = ap (λ (m : ℕ). take m bs) f ∙ counted_take bs most in
    subst (λ (y : Bool). ReceivesBytes (cond y (bytes_of s cal meas (take most bs)) (taking (Err no_state) 0 s cal)) k t c) (sym e)
    (subst (λ (l : List ℕ). ReceivesBytes (bytes_of s cal meas l) k t c) d x)

pub bytes_so : (s cal meas bs : List ℕ) (n : ℕ) (k : Took) (t c : List ℕ) → consistent s ≡ true → n ≡ cond (ltb (length bs) taken_most) (length bs) taken_most
    → ReceivesBytes (bytes_of s cal meas (take n bs)) k t c → ReceivesBytes (receive_bytes_of s cal meas bs) k t c
unfolding receive_bytes_of
bytes_so s cal meas bs = bytes_by s cal meas bs taken_most

-- ---- a slice takes no more than it has
pub bytes_within : (s cal meas bs : List ℕ) → (bytes_of s cal meas bs).taken ≤ length bs
bytes_within s cal meas [] = omega arith
bytes_within s cal meas (b ∷ bs) =
    let x = received_by (fed_of s b) s cal meas in
    let h : (bytes_of x.state x.cal meas bs).taken ≤ length bs = bytes_within x.state x.cal meas bs in
    cond_ind (λ (o : Slice). o.taken ≤ suc (length bs)) (eqb (received_number x.received) 0) (λ _. omega (arith, h)) (λ _. omega arith)

within_by : (s cal meas bs : List ℕ) (most : ℕ) → (cond (consistent s) (bytes_of s cal meas (take most bs)) (taking (Err no_state) 0 s cal)).taken ≤ length bs
within_by s cal meas bs most =
    let few : length (take most bs) ≤ length bs = omega (arith, length-take most bs) in
    cond_ind (λ (o : Slice). o.taken ≤ length bs) (consistent s) (λ _. omega (arith, bytes_within s cal meas (take most bs), few)) (λ _. omega arith)

pub taken_most_lem : (s cal meas bs : List ℕ) → (receive_bytes_of s cal meas bs).taken ≤ length bs
unfolding receive_bytes_of
taken_most_lem s cal meas bs = within_by s cal meas bs taken_most
