-- Starting and stopping lists leaves which lists there are. Assumes nothing.
use Rattle.std.proofs.Common.{◌≡◌, ℕ, zero, suc, ◌+◌, List, get_or, set, refl, ◌∙◌, arith, get_or-set_other}
use Rattle.line.proofs.Laws.{cond_ind}
use Rattle.state.specs.Layout.{phase_at, selected_at, running_at, sample_at}
use Rattle.state.specs.State.{dropped}
use Rattle.state.specs.Lists.{selected_of}
use Rattle.state.specs.Pool.{list_count, first_odt, odt_count}
use Rattle.state.proofs.Allocated.{lists_same}
use Rattle.lists.specs.Lists.{runs_of, switched, start_one, start_selected, stop_one, stop_selected}

dropped_phase : (s : List ℕ) (k n : ℕ) → get_or (dropped s k n) phase_at 0 ≡ get_or s phase_at 0
unfolding dropped
dropped_phase s k zero = refl
dropped_phase s k (suc n) = get_or-set_other (dropped s k n) (sample_at (k + n)) phase_at 0 0 (λ e. omega arith) ∙ dropped_phase s k n

switched_phase : (s : List ℕ) (l on : ℕ) → get_or (switched s l on) phase_at 0 ≡ get_or s phase_at 0
unfolding switched
switched_phase s l on = dropped_phase (set s (running_at l) on) (first_odt s l) (odt_count s l) ∙ get_or-set_other s (running_at l) phase_at on 0 (λ e. omega arith)

deselected_phase : (s : List ℕ) (l : ℕ) → get_or (set s (selected_at l) 0) phase_at 0 ≡ get_or s phase_at 0
deselected_phase s l = get_or-set_other s (selected_at l) phase_at 0 0 (λ e. omega arith)

start_phase : (s : List ℕ) (n : ℕ) → get_or (start_selected s n) phase_at 0 ≡ get_or s phase_at 0
unfolding start_selected
start_phase s zero = refl
start_phase s (suc n) =
    let t : List ℕ = start_selected s n in
    deselected_phase (start_one t n) n
    ∙ cond_ind (λ (u : List ℕ). get_or u phase_at 0 ≡ get_or t phase_at 0) (selected_of t n) (λ _. cond_ind (λ (u : List ℕ). get_or u phase_at 0 ≡ get_or t phase_at 0) (runs_of t n) (λ _. refl) (λ _. switched_phase t n 1)) (λ _. refl)
    ∙ start_phase s n

stop_phase : (s : List ℕ) (n : ℕ) → get_or (stop_selected s n) phase_at 0 ≡ get_or s phase_at 0
unfolding stop_selected
stop_phase s zero = refl
stop_phase s (suc n) =
    let t : List ℕ = stop_selected s n in
    deselected_phase (stop_one t n) n ∙ cond_ind (λ (u : List ℕ). get_or u phase_at 0 ≡ get_or t phase_at 0) (selected_of t n) (λ _. switched_phase t n 0) (λ _. refl) ∙ stop_phase s n

pub start_lists : (s : List ℕ) (n : ℕ) → list_count (start_selected s n) ≡ list_count s
start_lists s n = lists_same (start_selected s n) s (start_phase s n)

pub stop_lists : (s : List ℕ) (n : ℕ) → list_count (stop_selected s n) ≡ list_count s
stop_lists s n = lists_same (stop_selected s n) s (stop_phase s n)
