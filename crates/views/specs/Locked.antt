-- The lists' settings, which no command changes while lists are locked; and which commands end or renew a session.
use Rattle.std.specs.Prelude.{ℕ, ◌≡◌, Bool, true, false, cond, List, eqb}
use Rattle.model.specs.Model.{byte, Session}
use Rattle.model.specs.Answers.{Done}
use Rattle.views.specs.Commands.{Fresh}

-- in d the pointer, the lists that there are, and of every list mode, selection, running flag, ODTs and entries, are as in c; samples come and go
pub record SettingsKept (c d : Session) : Type 0 where
  pub pointer : d.pointer ≡ c.pointer
  pub freed : d.freed ≡ c.freed
  pub lists : d.lists ≡ c.lists
  pub modes : (l : ℕ) → (d.list l).mode ≡ (c.list l).mode
  pub selected : (l : ℕ) → (d.list l).selected ≡ (c.list l).selected
  pub started : (l : ℕ) → (d.list l).started ≡ (c.list l).started
  pub odts : (l : ℕ) → (d.list l).odts ≡ (c.list l).odts
  pub entry_counts : (l o : ℕ) → ((d.list l).odt o).entries ≡ ((c.list l).odt o).entries
  pub entries : (l o e : ℕ) → ((d.list l).odt o).entry e ≡ ((c.list l).odt o).entry e

-- CONNECT or DISCONNECT that is answered FF, or UNLOCK that is answered FE 25, a wrong key
abbrev pub ends_session : List ℕ → List ℕ → Bool
ends_session p answer =
    cond (eqb (byte p 0) 0xFF) (eqb (byte answer 0) 0xFF)
    (cond (eqb (byte p 0) 0xFE) (eqb (byte answer 0) 0xFF)
    (cond (eqb (byte p 0) 0xF7) (eqb (byte answer 1) 0x25) false))

-- of packet p, in session c, that leads to o: those leave everything in the session as in a fresh one, every other command leaves the settings
pub record Shields (p : List ℕ) (c : Session) (o : Done) : Type 0 where
  pub kept : ends_session p o.answer ≡ false → SettingsKept c o.session
  pub fresh : ends_session p o.answer ≡ true → Fresh c o.session
