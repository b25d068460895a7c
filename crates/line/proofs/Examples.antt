-- Worked examples of reading, which are computed; frames are those of the bench sheet. Assumes nothing.
use Rattle.std.proofs.Common.{◌≡◌, suc, ◌-◌, [], ◌∷◌, ◌++◌, replicate, refl, None, Ok, Err}
use Rattle.line.specs.Message.{most, longest}
use Rattle.line.specs.Reader.{take_of}
use Rattle.line.specs.Run.{run_of}
use Rattle.line.specs.Wire.{unstuff}
use Rattle.line.specs.declared.Place.TheVariants.{Outside, Inside}
use Rattle.line.specs.declared.Fault.TheVariants.{BadLength, BadEscape, BadChecksum, CutOff, ShortBuffer}
use Rattle.line.specs.Values.{good_message}

-- a good frame with SYNC and ESC in it
good : run_of Outside (replicate longest 7) (0x9A ∷ 0x02 ∷ 0x9B ∷ 0x00 ∷ 0xFF ∷ 0x9B ∷ 0x01 ∷ 0x36 ∷ [])
    ≡ record {
      outcomes = replicate 7 (Ok None) ++ (good_message 0x9B 2 2) ∷ [];
      place = Outside;
      message = 2 ∷ 0x9B ∷ 0xFF ∷ 0x9A ∷ 0x36 ∷ replicate (longest - 5) 7;
    }
unfolding take_of
good = refl

-- a LEN one too long; an escape that is none; ESC after ESC; a wrong checksum; SYNC after a lone ESC; SYNC after SYNC
faults : run_of Outside (replicate longest 7)
    (
    0x9A ∷ suc most ∷ 0x02
    ∷ 0x9A ∷ 0x9B ∷ 0x02
    ∷ 0x9A ∷ 0x9B ∷ 0x9B
    ∷ 0x9A ∷ 0x01 ∷ 0x00 ∷ 0x05 ∷ 0x05
    ∷ 0x9A ∷ 0x9B ∷ 0x9A ∷ 0x9A ∷ []
    )
    ≡ record {
      outcomes =
          (Ok None) ∷ (Err BadLength) ∷ (Ok None)
          ∷ (Ok None) ∷ (Ok None) ∷ (Err BadEscape)
          ∷ (Ok None) ∷ (Ok None) ∷ (Err BadEscape)
          ∷ (Ok None) ∷ (Ok None) ∷ (Ok None) ∷ (Ok None) ∷ (Err BadChecksum)
          ∷ (Ok None) ∷ (Ok None) ∷ (Err CutOff) ∷ (Ok None) ∷ [];
      place = Inside 0;
      message = 1 ∷ 0 ∷ 5 ∷ 5 ∷ replicate (longest - 4) 7;
    }
unfolding take_of
faults = refl

-- a buffer one byte too short
short_buffer : (run_of Outside (replicate (longest - 1) 7) (0x9A ∷ 0x01 ∷ [])).outcomes ≡ (Err ShortBuffer) ∷ (Err ShortBuffer) ∷ []
unfolding take_of
short_buffer = refl

unstuffed : unstuff (0x01 ∷ 0x9B ∷ 0x01 ∷ 0xFF ∷ 0x9B ∷ 0x00 ∷ []) ≡ 0x01 ∷ 0x9A ∷ 0xFF ∷ 0x9B ∷ []
unstuffed = refl
