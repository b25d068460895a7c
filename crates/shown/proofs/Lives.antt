-- Lives of ours with a power-up in them: the CTR begins at 0 again, what DOWNLOAD wrote lasts, and what three wrong keys had shut is open again; a list is
-- started. Assumes nothing.
use Rattle.std.proofs.Common.{◌≡◌, ℕ, true, List, [], ◌∷◌, ◌++◌, refl}
use Rattle.line.specs.Message.{frame}
use Rattle.model.specs.View.{session_of}
use Rattle.demands.specs.Slave.{ours}
use Rattle.demands.specs.Life.{Moment, lived, sent_in_life}
use Rattle.demands.specs.Waiting.{packet_read}
use Rattle.shown.specs.Exchange.{device, powered_on, connect, seed_of_calibration, key_of_calibration, seed_of_lists, key_of_lists, mta_to, download_one, upload, tries, one_odt, alloc_entries, point_to, on_event0, start}
use Rattle.shown.specs.Table.{last_frame}
use Rattle.shown.proofs.Computed.{computed}

-- CONNECT is answered at CTR 0, before and after
abbrev connected : List ℕ
connected = frame 0 (0xFF ∷ 0x05 ∷ 0x00 ∷ 0x40 ∷ 0x40 ∷ 0x00 ∷ 0x01 ∷ 0x01 ∷ [])

pub numbered_again : sent_in_life ours device (powered_on (connect ∷ []) ++ powered_on (connect ∷ [])) ≡ connected ∷ connected ∷ []
unfolding computed
numbered_again = refl

-- the last packet that a life sends
abbrev last_said : List Moment → List ℕ
last_said ms = packet_read (last_frame (sent_in_life ours device ms))

-- DOWNLOAD of 7 before, and UPLOAD of it after
pub lasts-over-power-up :
    last_said (powered_on (connect ∷ seed_of_calibration ∷ key_of_calibration ∷ mta_to 0 0 ∷ download_one 7 ∷ []) ++ powered_on (connect ∷ mta_to 0 0 ∷ upload 1 ∷ [])) ≡ 0xFF ∷ 7 ∷ []
unfolding computed
lasts-over-power-up = refl

-- after three wrong keys GET_SEED is answered FE 25, and after a power-up FF with the seed
pub shut_till_power_up : (last_said (powered_on (tries 3 ++ connect ∷ seed_of_calibration ∷ [])) ≡ 0xFE ∷ 0x25 ∷ [])
    × (last_said (powered_on (tries 3) ++ powered_on (connect ∷ seed_of_calibration ∷ [])) ≡ 0xFF ∷ 0x04 ∷ 0x21 ∷ 0x20 ∷ 0x04 ∷ 0x00 ∷ [])
unfolding computed
shut_till_power_up = (refl, refl)

-- a list of one byte is started: what every list that was started has, some list has
abbrev starts : List (List ℕ)
starts = connect ∷ seed_of_lists ∷ key_of_lists ∷ (one_odt ++ alloc_entries 0 0 1 ∷ point_to 0 0 0 ∷ (0xE1 ∷ 0xFF ∷ 1 ∷ 0 ∷ 0 ∷ 0 ∷ 0 ∷ 0 ∷ []) ∷ on_event0 0 ∷ start 0 ∷ [])

pub started_met : ((session_of (lived ours device (powered_on starts)).state).list 0).started ≡ true
unfolding computed
started_met = refl
