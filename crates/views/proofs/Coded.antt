-- A command that is known is named by its own code alone. Assumes nothing.
use Rattle.std.proofs.Common.{◌≡◌, ℕ, eqb, eqb-true}
use Rattle.line.proofs.Laws.{cond_ind}
use Rattle.words.specs.Command.{command_of}
use Rattle.words.specs.declared.Command.{Command}
use Rattle.words.specs.declared.Command.TheVariants.{Unknown, Connect, Disconnect, GetStatus, Synch, GetSeed, Unlock, SetMta, Upload, ShortUpload, BuildChecksum, Download, ShortDownload, ClearDaqList, SetDaqPtr, WriteDaq, SetDaqListMode, StartStopDaqList, StartStopSynch, GetDaqProcessorInfo, GetDaqResolutionInfo, FreeDaq, AllocDaq, AllocOdt, AllocOdtEntry}

abbrev pub Coded : ℕ → Command → Type 0
Coded n Unknown = Unit
Coded n Connect = n ≡ 0xFF
Coded n Disconnect = n ≡ 0xFE
Coded n GetStatus = n ≡ 0xFD
Coded n Synch = n ≡ 0xFC
Coded n GetSeed = n ≡ 0xF8
Coded n Unlock = n ≡ 0xF7
Coded n SetMta = n ≡ 0xF6
Coded n Upload = n ≡ 0xF5
Coded n ShortUpload = n ≡ 0xF4
Coded n BuildChecksum = n ≡ 0xF3
Coded n Download = n ≡ 0xF0
Coded n ShortDownload = n ≡ 0xED
Coded n ClearDaqList = n ≡ 0xE3
Coded n SetDaqPtr = n ≡ 0xE2
Coded n WriteDaq = n ≡ 0xE1
Coded n SetDaqListMode = n ≡ 0xE0
Coded n StartStopDaqList = n ≡ 0xDE
Coded n StartStopSynch = n ≡ 0xDD
Coded n GetDaqProcessorInfo = n ≡ 0xDA
Coded n GetDaqResolutionInfo = n ≡ 0xD9
Coded n FreeDaq = n ≡ 0xD6
Coded n AllocDaq = n ≡ 0xD5
Coded n AllocOdt = n ≡ 0xD4
Coded n AllocOdtEntry = n ≡ 0xD3

pub coded : (n : ℕ) → Coded n (command_of n)
unfolding command_of
coded n =
    cond_ind (Coded n) (eqb n 0xFF) (λ e. eqb-true n 0xFF e) (λ _.
    cond_ind (Coded n) (eqb n 0xFE) (λ e. eqb-true n 0xFE e) (λ _.
    cond_ind (Coded n) (eqb n 0xFD) (λ e. eqb-true n 0xFD e) (λ _.
    cond_ind (Coded n) (eqb n 0xFC) (λ e. eqb-true n 0xFC e) (λ _.
    cond_ind (Coded n) (eqb n 0xF8) (λ e. eqb-true n 0xF8 e) (λ _.
    cond_ind (Coded n) (eqb n 0xF7) (λ e. eqb-true n 0xF7 e) (λ _.
    cond_ind (Coded n) (eqb n 0xF6) (λ e. eqb-true n 0xF6 e) (λ _.
    cond_ind (Coded n) (eqb n 0xF5) (λ e. eqb-true n 0xF5 e) (λ _.
    cond_ind (Coded n) (eqb n 0xF4) (λ e. eqb-true n 0xF4 e) (λ _.
    cond_ind (Coded n) (eqb n 0xF3) (λ e. eqb-true n 0xF3 e) (λ _.
    cond_ind (Coded n) (eqb n 0xF0) (λ e. eqb-true n 0xF0 e) (λ _.
    cond_ind (Coded n) (eqb n 0xED) (λ e. eqb-true n 0xED e) (λ _.
    cond_ind (Coded n) (eqb n 0xE3) (λ e. eqb-true n 0xE3 e) (λ _.
    cond_ind (Coded n) (eqb n 0xE2) (λ e. eqb-true n 0xE2 e) (λ _.
    cond_ind (Coded n) (eqb n 0xE1) (λ e. eqb-true n 0xE1 e) (λ _.
    cond_ind (Coded n) (eqb n 0xE0) (λ e. eqb-true n 0xE0 e) (λ _.
    cond_ind (Coded n) (eqb n 0xDE) (λ e. eqb-true n 0xDE e) (λ _.
    cond_ind (Coded n) (eqb n 0xDD) (λ e. eqb-true n 0xDD e) (λ _.
    cond_ind (Coded n) (eqb n 0xDA) (λ e. eqb-true n 0xDA e) (λ _.
    cond_ind (Coded n) (eqb n 0xD9) (λ e. eqb-true n 0xD9 e) (λ _.
    cond_ind (Coded n) (eqb n 0xD6) (λ e. eqb-true n 0xD6 e) (λ _.
    cond_ind (Coded n) (eqb n 0xD5) (λ e. eqb-true n 0xD5 e) (λ _.
    cond_ind (Coded n) (eqb n 0xD4) (λ e. eqb-true n 0xD4 e) (λ _.
    cond_ind (Coded n) (eqb n 0xD3) (λ e. eqb-true n 0xD3 e) (λ _. tt))))))))))))))))))))))))
