-- Whatever its bytes are, the pointer is unset or at one of the entries that there are. Assumes nothing.
use Prim.{tt}
use Rattle.std.proofs.Common.{◌≡◌, ℕ, ◌+◌, ◌-◌, ◌/◌, ◌%◌, ◌<◌, ◌≤◌, eqb, leb, ◌≢◌, List, get_or, ne_eqb, le-leb, leb-false}
use Rattle.std.proofs.lemmas.Bool.{lt-leb}
use Rattle.line.proofs.Laws.{cond_ind}
use Rattle.state.specs.Layout.{all_odts, pointer_at, pointer_entry_at}
use Rattle.state.specs.Pool.{list_count, first_odt, odt_count, entry_count}
use Rattle.state.specs.State.{pointed_list, pointed_odt, pointer_of, Pointed}
use Rattle.words.specs.declared.Pointer.TheVariants.{Unset as NoEntry, At as Entry}

pub pointed : (s : List ℕ) → Pointed s (pointer_of s)
unfolding pointer_of
pointed s =
    cond_ind (Pointed s) (eqb (get_or s pointer_at 0) 0) (λ _. tt)
    (λ _. cond_ind (Pointed s) (leb (list_count s) (pointed_list s)) (λ _. tt)
    (λ list. cond_ind (Pointed s) (leb (odt_count s (pointed_list s)) (pointed_odt s)) (λ _. tt)
    (λ odt. cond_ind (Pointed s) (leb (entry_count s (first_odt s (pointed_list s) + pointed_odt s)) (get_or s pointer_entry_at 0)) (λ _. tt)
    (λ entry. (leb-false _ _ list, leb-false _ _ odt, leb-false _ _ entry)))))

-- test by test
module _ (s : List ℕ) (b l o e : ℕ) (at : get_or s pointer_at 0 ≡ b) (some : b ≢ 0) (list : (b - 1) / all_odts ≡ l) (odt : (b - 1) % all_odts ≡ o) where
  pub past_lists : list_count s ≤ l → pointer_of s ≡ NoEntry
  unfolding pointer_of
  past_lists h = rw (at, list, ne_eqb b 0 some, le-leb (list_count s) l h)

  pub past_odts : l < list_count s → odt_count s l ≤ o → pointer_of s ≡ NoEntry
  unfolding pointer_of
  past_odts g h = rw (at, list, odt, ne_eqb b 0 some, lt-leb (list_count s) l g, le-leb (odt_count s l) o h)

  module _ (entry : get_or s pointer_entry_at 0 ≡ e) (one : l < list_count s) (its : o < odt_count s l) where
    pub past_entries : entry_count s (first_odt s l + o) ≤ e → pointer_of s ≡ NoEntry
    unfolding pointer_of
    past_entries h = rw (at, list, odt, entry, ne_eqb b 0 some, lt-leb (list_count s) l one, lt-leb (odt_count s l) o its, le-leb (entry_count s (first_odt s l + o)) e h)

    pub at_entry : e < entry_count s (first_odt s l + o) → pointer_of s ≡ Entry l o e
    unfolding pointer_of
    at_entry h = rw (at, list, odt, entry, ne_eqb b 0 some, lt-leb (list_count s) l one, lt-leb (odt_count s l) o its, lt-leb (entry_count s (first_odt s l + o)) e h)
