-- Runs of ours that meet premises which no other run here meets: a good message while an answer waits; a wrong key; SHORT_DOWNLOAD; three wrong keys, and
-- GET_SEED and UNLOCK after them; an allocation that fills the pool, and one that passes it. Assumes nothing.
use Rattle.std.proofs.Common.{◌≡◌, ℕ, true, List, [], ◌∷◌, ◌++◌, Some, Ok, refl}
use Rattle.std.proofs.Math.Option.{Option as Fault, none as no_fault, some as fault_of}
use Rattle.state.specs.State.{consistent}
use Rattle.model.specs.Model.{has_answer}
use Rattle.model.specs.View.{session_of, view_of}
use Rattle.demands.specs.Slave.{ours}
use Rattle.demands.specs.Runs.{Call}
use Rattle.demands.specs.Heard.{packet_ended, Commands, wrong_key}
use Rattle.demands.specs.Memory.{Brings}
use Rattle.demands.specs.StaysShut.{wrong_in}
use Rattle.shown.specs.Exchange.{says, asks, ask_all, begun, last_byte, device, powered_on, reached, connect, synch, seed_of_calibration, key_of_calibration, key_of_lists, tries, download_first, pair, loading_first, listable, free_lists, alloc_lists, alloc_odts, alloc_entries, with_lists, freed_again}
use Rattle.shown.proofs.Computed.{computed, told}
use Rattle.shown.proofs.Taken.{asked, heard_so}
use Rattle.words.specs.declared.Heard.TheVariants.{Unread}

-- ---- CONNECT's answer waits, and SYNCH comes whole: number 6
abbrev waiting : List ℕ
waiting = reached ours (says [] [] connect ++ begun [] [] synch)

pub meanwhile_met : (consistent waiting ≡ true) × (has_answer (view_of waiting) ≡ true) × (packet_ended waiting (last_byte synch) ≡ Some synch)
    × ((ours.receive waiting [] [] (last_byte synch)).received ≡ Ok Unread)
unfolding computed
meanwhile_met = (refl, refl, refl, refl)

-- ---- the seed for calibration is out: the key to lists is wrong, and answered FE 25
abbrev seeded : List ℕ → List ℕ
seeded p = reached ours (ask_all [] [] (connect ∷ seed_of_calibration ∷ []) ++ begun [] [] p)

pub wrong_key_met : (consistent (seeded key_of_lists) ≡ true) × Commands (seeded key_of_lists) (last_byte key_of_lists) key_of_lists × (wrong_key key_of_lists (session_of (seeded key_of_lists)) ≡ true)
    × ((view_of (ours.receive (seeded key_of_lists) [] [] (last_byte key_of_lists)).state).answer ≡ 0xFE ∷ 0x25 ∷ [])
unfolding computed
wrong_key_met = (refl, record { ends = refl; opened = refl; free = refl }, refl, refl)

-- ---- SHORT_DOWNLOAD with the MTA unset is answered FF, and its byte is written
abbrev load_begun : List ℕ
load_begun = reached ours (loading_first [] 7)

pub loads_met : (consistent load_begun ≡ true) × Brings ours 0xED load_begun pair [] (last_byte (download_first 7)) (download_first 7) []
    × ((ours.receive load_begun pair [] (last_byte (download_first 7))).cal ≡ 7 ∷ 6 ∷ [])
unfolding computed
loads_met = (refl, record { command = record { ends = refl; opened = refl; free = refl }; code = refl; answer = refl }, refl)

-- ---- a script tries three keys, and all three are judged wrong; then GET_SEED is answered FE 25, and UNLOCK FE 29
pub three_wrong_met : wrong_in ours device (powered_on (tries 3)) 0 ≡ 3
unfolding computed
three_wrong_met = refl

abbrev shut_at : List ℕ → List ℕ
shut_at p = reached ours (ask_all [] [] (tries 3 ++ connect ∷ []) ++ begun [] [] p)

abbrev Refuses : List ℕ → ℕ → Type 0
Refuses p code =
    (consistent (shut_at p) ≡ true) × Commands (shut_at p) (last_byte p) p × ((session_of (shut_at p)).wrong_keys ≡ 3)
    × ((view_of (ours.receive (shut_at p) [] [] (last_byte p)).state).answer ≡ 0xFE ∷ code ∷ [])

pub stays_shut_met : Refuses seed_of_calibration 0x25 × Refuses key_of_calibration 0x29
unfolding computed
stays_shut_met = ((refl, record { ends = refl; opened = refl; free = refl }, refl, refl), (refl, record { ends = refl; opened = refl; free = refl }, refl, refl))

-- ---- the pool: after these commands allocation p has that first fault, and is answered a
abbrev Fills : List Call → List ℕ → Fault ℕ → List ℕ → Type 0
Fills cs p fault a = asked ours (reached ours (cs ++ begun [] [] p)) [] p ≡ heard_so p fault a

abbrev full : List ℕ
full = 0xFE ∷ 0x30 ∷ []

abbrev fine : List ℕ
fine = 0xFF ∷ []

-- ALLOC_DAQ after FREE_DAQ: of eight lists, and of nine
abbrev free_lists_done : List Call
free_lists_done = listable ++ asks [] [] free_lists

pub lists_met : Fills free_lists_done (alloc_lists 8) no_fault fine × Fills free_lists_done (alloc_lists 9) (fault_of 0x30) full
unfolding computed told asked heard_so
lists_met = (refl, refl)

-- ALLOC_ODT while two ODTs are taken: of fourteen, and of fifteen
abbrev two_taken : List Call
two_taken = listable ++ ask_all [] [] (free_lists ∷ alloc_lists 2 ∷ alloc_odts 0 2 ∷ [])

pub odts_met : Fills two_taken (alloc_odts 1 14) no_fault fine × Fills two_taken (alloc_odts 1 15) (fault_of 0x30) full
unfolding computed told asked heard_so
odts_met = (refl, refl)

-- ALLOC_ODT_ENTRY while one entry is taken: of 127, and of 128
abbrev one_taken : List Call
one_taken = with_lists 1 ++ asks [] [] (alloc_entries 0 0 1)

pub entries_met : Fills one_taken (alloc_entries 0 1 127) no_fault fine × Fills one_taken (alloc_entries 0 1 128) (fault_of 0x30) full
unfolding computed told asked heard_so
entries_met = (refl, refl)

-- an entry was written and freed: all 128 are there again
pub whole_again_met : Fills freed_again (alloc_entries 0 0 128) no_fault fine
unfolding computed told asked heard_so
whole_again_met = refl
