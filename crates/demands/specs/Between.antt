-- What may come between two commands of which the second leans on the first: any calls, with any commands among them that change nothing it leans on,
-- such as SYNCH, GET_STATUS and every one that is refused. What changes the seed, the MTA or the pool is told from a command's packet and its answer.
use Rattle.std.specs.Prelude.{ℕ, Bool, false, ◌&&◌, ◌||◌, List, [], ◌∷◌, eqb}
use Rattle.model.specs.Model.{byte}
use Rattle.views.specs.Locked.{ends_session}
use Rattle.demands.specs.Slave.{AnySlave}
use Rattle.demands.specs.Runs.{Call, Never}
use Rattle.demands.specs.Heard.{of_answered}

-- a command with one of these codes is done: it is answered FF
abbrev pub done : List ℕ → List ℕ → List ℕ → Bool
done [] p answer = false
done (code ∷ codes) p answer = (eqb (byte p 0) code && eqb (byte answer 0) 0xFF) || done codes p answer

-- ---- each of these is changed by what ends or renews the session, CONNECT, DISCONNECT and a wrong key, and else:
-- the seed that is out, by UNLOCK that is done and by GET_SEED that gives a new one, answered FF 04
abbrev pub changes_seed : List ℕ → List ℕ → Bool
changes_seed p answer = ends_session p answer || (done (0xF7 ∷ []) p answer || (done (0xF8 ∷ []) p answer && eqb (byte answer 1) 0x04))

-- the MTA, by SET_MTA, UPLOAD, SHORT_UPLOAD, BUILD_CHECKSUM, DOWNLOAD and SHORT_DOWNLOAD that are done
abbrev pub changes_mta : List ℕ → List ℕ → Bool
changes_mta p answer = ends_session p answer || done (0xF6 ∷ 0xF5 ∷ 0xF4 ∷ 0xF3 ∷ 0xF0 ∷ 0xED ∷ []) p answer

-- what is allocated, by FREE_DAQ, ALLOC_DAQ, ALLOC_ODT and ALLOC_ODT_ENTRY that are done; and that more can be, by START_STOP_DAQ_LIST and START_STOP_SYNCH
-- of mode 1 that are done, as a list that runs gets no entries
abbrev pub changes_pool : List ℕ → List ℕ → Bool
changes_pool p answer = ends_session p answer || (done (0xD6 ∷ 0xD5 ∷ 0xD4 ∷ 0xD3 ∷ []) p answer || (done (0xDE ∷ 0xDD ∷ []) p answer && eqb (byte p 1) 1))

-- ---- at no byte of the run a command is answered that changes it
abbrev pub Without : (List ℕ → List ℕ → Bool) → AnySlave → List ℕ → List Call → Type 0
Without changes v s cs = Never (λ t cal meas b. of_answered changes (v.receive t cal meas b) t b) v s cs
