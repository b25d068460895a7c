-- The key to the seed just sent opens its lock, whatever the generator and whatever calls come between in which no command changes the seed. Assumes
-- nothing.
use Rattle.std.proofs.Common.{◌≡◌, ℕ, ◌+◌, ◌*◌, ◌/◌, ◌%◌, ◌^◌, ◌≤◌, ◌<◌, Bool, true, false, List, [], ◌∷◌, length, get_or, take, Some, refl, sym, ap, ◌∙◌, subst, arith, mod-lt, mod-eq_of_lt, le-ltb, eq-eqb, lit<, length-take, shr_lt, get_or-take}
use Rattle.std.proofs.Math.Pow.{low}
use Rattle.std.proofs.lemmas.Bool.{lt-leb}
use Rattle.model.specs.Model.{Session, Slave}
use Rattle.model.specs.Judge.{judge_in, get_seed_deed, judge_the, judge_by, judge}
use Rattle.model.specs.Step.{with_seed, with_generator, step_in}
use Rattle.model.specs.Answers.{reply_in}
use Rattle.model.specs.View.{session_of, view_of}
use Rattle.state.specs.Bytes.{u32_at, bytes32}
use Rattle.state.specs.Generator.{addend, rotated_left8, key_of, next_of, stays_shut}
use Rattle.state.specs.State.{consistent, bit_of, generator_of, wrong_keys_of}
use Rattle.words.specs.Command.{command_of}
use Rattle.session.specs.Perform.{after}
use Rattle.session.specs.Receive.{Step, obeyed, receive_of}
use Rattle.words.specs.declared.Resource.{Resource}
use Rattle.words.specs.declared.Resource.TheVariants.{Calibration, Lists}
use Rattle.model.specs.declared.Deed.{Deed}
use Rattle.model.specs.declared.Deed.TheVariants.{GiveSeed}
use Rattle.state.proofs.Xorshift.{next_fits, next_some, generator_some}
use Rattle.fields.proofs.Stores.{four}
use Rattle.fields.proofs.Kept.{receive_kept}
use Rattle.views.proofs.Done.{view_after}
use Rattle.demands.specs.Slave.{ours}
use Rattle.demands.specs.Runs.{run}
use Rattle.demands.specs.Heard.{read_by, Commands, deed_in, brings_key}
use Rattle.demands.specs.Keys.{other_lock, key_to, SeedOpens}
use Rattle.views.specs.Words.{key_number}
use Rattle.demands.proofs.ReadBy.{read_length, read_session}
use Rattle.demands.proofs.Received.{commanded, command_answer}
use Rattle.demands.proofs.Reached.{run_kept}
use Rattle.demands.proofs.Changes.{SeedKept}
use Rattle.demands.proofs.Between.{run_seed}
use Rattle.demands.proofs.Locks.{unlocks_own}

-- ---- bytes of a packet that begins so
begins_at : (p l : List ℕ) (n i : ℕ) → take n p ≡ l → i < n → get_or p i 0 ≡ get_or l i 0
begins_at p l n i e h = sym (get_or-take n p i 0 h) ∙ ap (λ (x : List ℕ). get_or x i 0) e

begins_long : (p l : List ℕ) (n : ℕ) → take n p ≡ l → length l ≡ n → n ≤ length p
begins_long p l n e h = let k = sym (length-take n p) ∙ ap length e ∙ h in omega arith

-- ---- GET_SEED
give_judged : (p : List ℕ) (c : Session) (r : Resource) (nc nm : ℕ) → take 3 p ≡ 0xF8 ∷ 0x00 ∷ bit_of r ∷ [] → c.wrong_keys < 3 → c.unlocked r ≡ false → judge_in p c nc nm ≡ GiveSeed r
unfolding judge_in judge judge_by judge_the command_of get_seed_deed
give_judged p c Calibration nc nm e still locked =
    simp (begins_at p _ 3 0 e (lit< tt), le-ltb (length p) 3 (begins_long p _ 3 e refl), lt-leb 3 c.wrong_keys still, begins_at p _ 3 1 e (lit< tt), begins_at p _ 3 2 e (lit< tt), locked)
give_judged p c Lists nc nm e still locked =
    simp (begins_at p _ 3 0 e (lit< tt), le-ltb (length p) 3 (begins_long p _ 3 e refl), lt-leb 3 c.wrong_keys still, begins_at p _ 3 1 e (lit< tt), begins_at p _ 3 2 e (lit< tt), locked)

seed_says : (r : Resource) (c : Session) (cal meas : List ℕ) → reply_in (GiveSeed r) c cal meas ≡ 0xFF ∷ 0x04 ∷ bytes32 (next_of c.generator)
unfolding reply_in
seed_says r c cal meas = refl

generator_low : (s : List ℕ) → (session_of s).generator < 2 ^ 32 → generator_of s < 2 ^ 32
unfolding session_of
generator_low s h = h

not_shut : (s : List ℕ) → (session_of s).wrong_keys < 3 → stays_shut (wrong_keys_of s) ≡ false
unfolding session_of
not_shut s h = lt-leb 3 (wrong_keys_of s) h

-- what GET_SEED leaves
seeded : (r : Resource) (s cal meas : List ℕ) (b : ℕ) → consistent s ≡ true → (session_of s).generator < 2 ^ 32 → (session_of s).wrong_keys < 3
    → session_of (after (GiveSeed r) (read_by s b) cal meas) ≡ with_seed (with_generator (session_of s) (next_of (session_of s).generator)) (Some r)
unfolding view_of step_in
seeded r s cal meas b c few still =
    let t : List ℕ = read_by s b in
    let fits : generator_of t < 2 ^ 32 = generator_low t (subst (λ (x : Session). x.generator < 2 ^ 32) (sym (read_session s b c)) few) in
    let unshut : stays_shut (wrong_keys_of t) ≡ false = not_shut t (subst (λ (x : Session). x.wrong_keys < 3) (sym (read_session s b c)) still) in
    ap (λ (v : Slave). v.session) (view_after (GiveSeed r) t cal meas 0 (read_length s b c) tt (next_some (generator_of t) fits (generator_some t), next_fits (generator_of t) fits, unshut))
    ∙ ap (step_in (GiveSeed r)) (read_session s b c)

-- ---- the key
number_is : (r : Resource) → key_number r ≡ addend r
number_is Calibration = refl
number_is Lists = refl

-- a number is that of its four bytes; rotated left 8, that of its four bytes with the last first
rotated_word : (x : ℕ) → x < 2 ^ 32 → x / 16777216 % 256 + 256 * (x % 256) + 65536 * (x / 256 % 256) + 16777216 * (x / 65536 % 256) ≡ rotated_left8 x
rotated_word x h =
    let a : ℕ = x % 256 in
    let b : ℕ = x / 256 % 256 in
    let c : ℕ = x / 65536 % 256 in
    let d : ℕ = x / 16777216 in
    let few : d % 256 ≡ d = mod-eq_of_lt (shr_lt {n = x} 8 24 h) in
    let up : x * 2 ^ 8 ≡ d * 2 ^ 32 + (256 * a + 65536 * b + 16777216 * c) = omega (arith, four x h, few) in
    let fits : 256 * a + 65536 * b + 16777216 * c < 2 ^ 32 = omega (arith, mod-lt x {m = 256} (lit< tt), mod-lt (x / 256) {m = 256} (lit< tt), mod-lt (x / 65536) {m = 256} (lit< tt)) in
    let rest : (x * 2 ^ 8) % 2 ^ 32 ≡ 256 * a + 65536 * b + 16777216 * c = ap (λ (n : ℕ). n % 2 ^ 32) up ∙ low d 32 fits in
    omega (arith, few, rest)

-- UNLOCK that brings those bytes brings the key to the seed x
key_right : (r : Resource) (x : ℕ) (p : List ℕ) → x < 2 ^ 32 → take 6 p ≡ 0xF7 ∷ 0x04 ∷ key_to r (bytes32 x) → (brings_key p ≡ true) × (u32_at p 2 ≡ key_of r x)
unfolding brings_key key_of u32_at
key_right r x p h e =
    let k : ℕ = (u32_at (bytes32 x) 0 + key_number r) % 2 ^ 32 in
    let same : k ≡ (x + addend r) % 2 ^ 32 = rw (four x h, number_is r) in (
      simp (begins_at p _ 6 0 e (lit< tt), begins_at p _ 6 1 e (lit< tt), le-ltb (length p) 6 (begins_long p _ 6 e refl)),
      rw (begins_at p _ 6 2 e (lit< tt), begins_at p _ 6 3 e (lit< tt), begins_at p _ 6 4 e (lit< tt), begins_at p _ 6 5 e (lit< tt)) (rotated_word k (mod-lt _ (lit< tt)) ∙ rw same),
    )

pub seed_opens_lem : (s cal meas : List ℕ) (b : ℕ) (p : List ℕ) (r : Resource) → consistent s ≡ true → (session_of s).generator < 2 ^ 32 → (session_of s).wrong_keys < 3
    → Commands s b p → take 3 p ≡ 0xF8 ∷ 0x00 ∷ bit_of r ∷ [] → (session_of s).unlocked r ≡ false → SeedOpens ours r s (ours.receive s cal meas b).state
seed_opens_lem s cal meas b p r c few still w e locked =
    let u : List ℕ = (receive_of s cal meas b).state in
    let x : ℕ = next_of (session_of s).generator in
    let judged : deed_in p (session_of s) cal meas ≡ GiveSeed r = give_judged p (session_of s) r (length cal) (length meas) e still locked in
    let step : receive_of s cal meas b ≡ obeyed (GiveSeed r) p (read_by s b) cal meas = commanded s cal meas b p c w ∙ ap (λ (d : Deed). obeyed d p (read_by s b) cal meas) judged in
    let given : session_of u ≡ with_seed (with_generator (session_of s) x) (Some r) = ap (λ (o : Step). session_of o.state) step ∙ seeded r s cal meas b c few still in
    record {
      seed = bytes32 x;
      four = refl;
      answer = command_answer s cal meas b p c w ∙ ap (λ (d : Deed). reply_in d (session_of s) cal meas) judged ∙ seed_says r (session_of s) cal meas;
      opens = λ between cal' meas' b' q quiet w' e'.
          let v : List ℕ = run ours u between in
          let sound : consistent u ≡ true = receive_kept s cal meas b c in
          let later : SeedKept (session_of u) (session_of v) = run_seed between u sound quiet in
          let key = key_right r x q (next_fits (session_of s).generator few) e' in
          let right : u32_at q 2 ≡ key_of r (session_of v).generator = key.1 ∙ ap (key_of r) (sym (later.generator ∙ ap (λ (d : Session). d.generator) given)) in
          let opened = unlocks_own v cal' meas' b' q r (run_kept u between sound) w' (later.seed ∙ ap (λ (d : Session). d.seed) given) key.0 (eq-eqb (u32_at q 2) (key_of r (session_of v).generator) right) in
          (opened.0, opened.1 ∙ ap (λ (f : Resource → Bool). f (other_lock r)) (later.unlocked ∙ ap (λ (d : Session). d.unlocked) given));
    }
