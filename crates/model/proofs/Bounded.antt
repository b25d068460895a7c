-- Functions with a bound. Assumes nothing.
use Rattle.std.proofs.Common.{ℕ, ◌≤◌, ◌<◌, ◌≡◌, refl, ◌≢◌, Bool, true, false, ltb-true, ltb-false, eqb-true, lt-ltb, le-ltb, eqb, ltb}
use Rattle.std.proofs.Math.Path.{fun_ext}
use Rattle.std.proofs.lemmas.Bool.{eqb-false}
use Rattle.model.specs.Model.{up_to, put}

pub either : {P : Type 0} (t : Bool) → (t ≡ true → P) → (t ≡ false → P) → P
either true f g = f refl
either false f g = g refl

module _ {A : Type 0} (n : ℕ) where
  -- as it is below the bound, z above
  pub up_to_at : (j : ℕ) (z : A) (f : ℕ → A) → j < n → up_to n z f j ≡ f j
  unfolding up_to
  up_to_at j z f p = rw (lt-ltb j n p)

  pub up_to_above : (j : ℕ) (z : A) (f : ℕ → A) → n ≤ j → up_to n z f j ≡ z
  unfolding up_to
  up_to_above j z f p = rw (le-ltb j n p)

  -- whatever it is compared with
  pub up_to_is : (z : A) {f g : ℕ → A} → ((j : ℕ) → j < n → f j ≡ g j) → ((j : ℕ) → n ≤ j → z ≡ g j) → up_to n z f ≡ g
  unfolding up_to
  up_to_is z h k = fun_ext (λ j. either (ltb j n) (λ b. rw b (h j (ltb-true j n b))) (λ b. rw b (k j (ltb-false j n b))))

  -- equal below the bound; or through m, which leaves z; or x at i, and equal elsewhere
  pub up_to_same : (z : A) {f g : ℕ → A} → ((j : ℕ) → j < n → f j ≡ g j) → up_to n z f ≡ up_to n z g
  unfolding up_to
  up_to_same z h = fun_ext (λ j. either (ltb j n) (λ b. rw b (h j (ltb-true j n b))) (λ b. rw b))

  pub up_to_map : (z : A) (m : A → A) {f g : ℕ → A} → z ≡ m z → ((j : ℕ) → j < n → f j ≡ m (g j)) → up_to n z f ≡ λ j. m (up_to n z g j)
  unfolding up_to
  up_to_map z m e h = fun_ext (λ j. either (ltb j n) (λ b. rw b (h j (ltb-true j n b))) (λ b. rw b e))

  pub up_to_put : {i : ℕ} {x : A} (z : A) {f g : ℕ → A} → i < n → f i ≡ x → ((j : ℕ) → j < n → j ≢ i → f j ≡ g j) → up_to n z f ≡ put i x (up_to n z g)
  unfolding up_to put
  up_to_put {i} z p e h =
      fun_ext (λ j. either (eqb j i)
      (λ b. rw (b, eqb-true j i b, lt-ltb i n p) e)
      (λ b. rw b (either (ltb j n) (λ c. rw c (h j (ltb-true j n c) (eqb-false j i b))) (λ c. rw c))))
