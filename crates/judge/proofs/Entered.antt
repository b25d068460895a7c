-- What a session in bytes has: a list with ODTs is there, and an entry is one that the bytes have. Assumes nothing.
use Prim.{tt}
use Rattle.std.proofs.Common.{◌≡◌, refl, ap, Bool, true, false, List, ℕ, ◌+◌, ◌<◌, arith, ltb-true, ltb-false, ltb}
use Rattle.state.specs.Pool.{list_count, odt_count, first_odt, entry_count}
use Rattle.state.specs.State.{Pointed}
use Rattle.words.specs.declared.Pointer.{Pointer}
use Rattle.words.specs.declared.Pointer.TheVariants.{Unset as NoEntry, At as Entry}
use Rattle.model.specs.Model.{Odt, DaqList}
use Rattle.model.specs.View.{session_of}
use Rattle.model.proofs.Shown.{no_list_lem, odts_at_lem, odt_at}
use Rattle.judge.specs.Doable.{Entered}
use Rattle.judge.proofs.Doable.{Pointing}

pub listed : (s : List ℕ) (l : ℕ) → 0 < ((session_of s).list l).odts → l < (session_of s).lists
unfolding session_of
listed s l h = by (ltb l (list_count s)) refl
  where
    by : (b : Bool) → ltb l (list_count s) ≡ b → l < list_count s
    by true e = ltb-true l (list_count s) e
    by false e = omega (arith, h, ap (λ (x : DaqList). x.odts) (no_list_lem s l (ltb-false l (list_count s) e)))

pub pointing : (s : List ℕ) (q : Pointer) → Pointed s q → Pointing q (session_of s)
unfolding session_of
pointing s NoEntry h = tt
pointing s (Entry l o e) h =
    (h.0, omega (arith, h.1, odts_at_lem s l h.0), omega (arith, h.2, ap (λ (y : Odt). y.entries) (odt_at s l h.0 o h.1)))

pub entered : (s : List ℕ) (l o e : ℕ) → Entered (session_of s) l o e → (l < list_count s) × (o < odt_count s l) × (e < entry_count s (first_odt s l + o))
unfolding session_of
entered s l o e h =
    let its : o < odt_count s l = omega (arith, h.1, odts_at_lem s l h.0) in
    (h.0, its, omega (arith, h.2, ap (λ (y : Odt). y.entries) (odt_at s l h.0 o its)))
