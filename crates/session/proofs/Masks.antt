-- The locked mask once a lock is open. Assumes nothing.
use Rattle.std.proofs.Common.{None, ℕ, ◌≡◌, List, arith, length, set, get_or-set_same, get_or-set_other}
use Rattle.state.specs.Layout.{calibration_at, lists_at, seed_at, size}
use Rattle.state.specs.State.{flag_of, lock_at, unlocked_of, mask_by, mask_of, set_seed}
use Rattle.words.specs.declared.Resource.{Resource}
use Rattle.words.specs.declared.Resource.TheVariants.{Calibration, Lists}
use Rattle.model.specs.Step.{unlock}

pub unlocked_mask : (s : List ℕ) (r : Resource) → length s ≡ size → mask_of (set_seed (set s (lock_at r) 1) None) ≡ mask_by (unlock r (unlocked_of s))
unfolding mask_of flag_of set_seed
unlocked_mask s Calibration h =
    rw (
      get_or-set_other (set s calibration_at 1) seed_at calibration_at 0 0 (λ e. omega arith),
      get_or-set_other (set s calibration_at 1) seed_at lists_at 0 0 (λ e. omega arith),
      get_or-set_same s calibration_at 1 0 (omega arith),
      get_or-set_other s calibration_at lists_at 1 0 (λ e. omega arith),
    )
unlocked_mask s Lists h =
    rw (
      get_or-set_other (set s lists_at 1) seed_at calibration_at 0 0 (λ e. omega arith),
      get_or-set_other (set s lists_at 1) seed_at lists_at 0 0 (λ e. omega arith),
      get_or-set_same s lists_at 1 0 (omega arith),
      get_or-set_other s lists_at calibration_at 1 0 (λ e. omega arith),
    )
