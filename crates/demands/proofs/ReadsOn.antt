-- SHORT_UPLOAD and SHORT_DOWNLOAD set the MTA behind their block, and UPLOAD goes on behind SHORT_UPLOAD. Assumes nothing.
use Rattle.std.proofs.Common.{◌≡◌, ℕ, ◌+◌, true, List, ◌++◌, length, take, drop, refl, sym, ap, ◌∙◌, subst, drop-drop, take-add}
use Rattle.state.specs.Bytes.{block, u32_at}
use Rattle.state.specs.Memory.{pick}
use Rattle.state.specs.State.{consistent}
use Rattle.model.specs.Judge.{extension_from}
use Rattle.model.specs.Model.{byte, Session, Slave}
use Rattle.model.specs.Step.{step_in}
use Rattle.model.specs.Answers.{reply_in}
use Rattle.model.specs.View.{session_of, view_of}
use Rattle.model.specs.declared.Deed.{Deed}
use Rattle.model.specs.declared.Deed.TheVariants.{Upload, Download}
use Rattle.words.specs.declared.Extension.{Extension}
use Rattle.words.specs.declared.Extension.TheVariants.{Calibration}
use Rattle.words.specs.declared.Mta.{Mta}
use Rattle.words.specs.declared.Mta.TheVariants.{At}
use Rattle.session.specs.Perform.{after}
use Rattle.session.specs.Receive.{Step, receive_of}
use Rattle.judge.specs.Doable.{Doable}
use Rattle.look.proofs.Looked.{judged_doable}
use Rattle.fields.proofs.Kept.{receive_kept}
use Rattle.views.proofs.Done.{view_after}
use Rattle.views.proofs.Fit.{Fit}
use Rattle.views.proofs.MemoryLaws.{Reading, Own, upload_reads, short_reads}
use Rattle.demands.specs.Slave.{ours}
use Rattle.demands.specs.Runs.{Call, run}
use Rattle.demands.specs.Heard.{read_by, deed_in}
use Rattle.demands.specs.Memory.{Brings}
use Rattle.demands.specs.Between.{changes_mta, Without}
use Rattle.demands.proofs.ReadBy.{read_length}
use Rattle.demands.proofs.Received.{commanded, read_can, command_answer}
use Rattle.demands.proofs.Reached.{run_kept}
use Rattle.demands.proofs.Between.{run_mta}
use Rattle.demands.proofs.Downloads.{upload_says}

-- two blocks, the second behind the first
block_on : (mem : List ℕ) (a n k : ℕ) → block mem a n ++ block mem (a + n) k ≡ block mem a (n + k)
block_on mem a n k = sym (take-add n k (drop a mem) ∙ ap (λ (l : List ℕ). take n (drop a mem) ++ take k l) (drop-drop n a mem))

upload_leaves : (x : Extension) (a n : ℕ) (c : Session) → (step_in (Upload x a n) c).mta ≡ At x (a + n)
unfolding step_in
upload_leaves x a n c = refl

download_leaves : (from a n : ℕ) (c : Session) → (step_in (Download from a n) c).mta ≡ At Calibration (a + n)
unfolding step_in
download_leaves from a n c = refl

-- ---- a command that is done: the MTA after it, and the bytes that it reads
module _ (s cal meas : List ℕ) (b : ℕ) (p bs : List ℕ) (u : consistent s ≡ true) (number : ℕ) (w : Brings ours number s cal meas b p bs) where
  answered_ff : byte (reply_in (deed_in p (session_of s) cal meas) (session_of s) cal meas) 0 ≡ 0xFF
  answered_ff = ap (λ (l : List ℕ). byte l 0) (sym (command_answer s cal meas b p u w.command) ∙ w.answer)

  mta_after : (d : Deed) (m : Mta) → deed_in p (session_of s) cal meas ≡ d → ((g k : ℕ) → Fit d g k) → ((c : Session) → (step_in d c).mta ≡ m) → (session_of (receive_of s cal meas b).state).mta ≡ m
  unfolding view_of
  mta_after d m is fit leaves =
      let t : List ℕ = read_by s b in
      let can : Doable d (session_of s) (length p) (length cal) (length meas) = subst (λ (e : Deed). Doable e (session_of s) (length p) (length cal) (length meas)) is (judged_doable p s (length cal) (length meas)) in
      ap (λ (o : Step). (session_of o.state).mta) (commanded s cal meas b p u w.command) ∙ ap (λ (e : Deed). (session_of (after e t cal meas)).mta) is
      ∙ ap (λ (v : Slave). v.session.mta) (view_after d t cal meas (length p) (read_length s b u) (read_can s b d (length p) (length cal) (length meas) u can) (fit _ _)) ∙ leaves (session_of t)

  read_bytes : (From : Extension → ℕ → Type 0) (r : Reading p (session_of s) cal meas From (deed_in p (session_of s) cal meas)) → bs ≡ block (pick r.extension cal meas) r.address (byte p 1)
  read_bytes From r =
      ap (drop 1)
      (sym w.answer ∙ command_answer s cal meas b p u w.command ∙ ap (λ (d : Deed). reply_in d (session_of s) cal meas) r.deed
      ∙ upload_says r.extension r.address (byte p 1) (session_of s) cal meas)

-- ---- SHORT_UPLOAD
module _ (s cal meas : List ℕ) (b : ℕ) (p bs : List ℕ) (u : consistent s ≡ true) (w : Brings ours 0xF4 s cal meas b p bs) where
  short : Reading p (session_of s) cal meas (Own p (session_of s) cal meas) (deed_in p (session_of s) cal meas)
  short = short_reads p (session_of s) cal meas w.code (answered_ff s cal meas b p bs u 0xF4 w)

  upload_sets : (session_of (ours.receive s cal meas b).state).mta ≡ At (extension_from (byte p 3)) (u32_at p 4 + byte p 1)
  upload_sets =
      rw (← short.from.0, ← short.from.2) (mta_after s cal meas b p bs u 0xF4 w _ _ short.deed (λ g k. tt) (upload_leaves short.extension short.address (byte p 1)))

  short_bytes : bs ≡ block (pick (extension_from (byte p 3)) cal meas) (u32_at p 4) (byte p 1)
  short_bytes = rw (← short.from.0, ← short.from.2) (read_bytes s cal meas b p bs u 0xF4 w (Own p (session_of s) cal meas) short)

-- ---- UPLOAD from where the MTA is
upload_bytes : (s cal meas : List ℕ) (b : ℕ) (p bs : List ℕ) (x : Extension) (a : ℕ) → consistent s ≡ true → Brings ours 0xF5 s cal meas b p bs → (session_of s).mta ≡ At x a
    → bs ≡ block (pick x cal meas) a (byte p 1)
upload_bytes s cal meas b p bs x a u w e =
    let From : Extension → ℕ → Type 0 = λ y d. (session_of s).mta ≡ At y d in
    let r : Reading p (session_of s) cal meas From (deed_in p (session_of s) cal meas) = upload_reads p (session_of s) cal meas w.code (answered_ff s cal meas b p bs u 0xF5 w) in
    let same : At r.extension r.address ≡ At x a = sym r.from ∙ e in
    let bytes : bs ≡ block (pick r.extension cal meas) r.address (byte p 1) = read_bytes s cal meas b p bs u 0xF5 w From r in
    cc

pub goes_on_lem : (s cal meas : List ℕ) (b : ℕ) (p first : List ℕ) (between : List Call) (c : ℕ) (q second : List ℕ) → consistent s ≡ true
    → Brings ours 0xF4 s cal meas b p first → Without changes_mta ours (ours.receive s cal meas b).state between
    → Brings ours 0xF5 (run ours (ours.receive s cal meas b).state between) cal meas c q second
    → first ++ second ≡ block (pick (extension_from (byte p 3)) cal meas) (u32_at p 4) (byte p 1 + byte q 1)
goes_on_lem s cal meas b p first between c q second u short quiet next =
    let t : List ℕ = (receive_of s cal meas b).state in
    let x : Extension = extension_from (byte p 3) in
    let a : ℕ = u32_at p 4 in
    let sound : consistent t ≡ true = receive_kept s cal meas b u in
    let there : (session_of (run ours t between)).mta ≡ At x (a + byte p 1) = run_mta between t sound quiet ∙ upload_sets s cal meas b p first u short in
    rw (short_bytes s cal meas b p first u short, upload_bytes (run ours t between) cal meas c q second x (a + byte p 1) (run_kept t between sound) next there) (block_on (pick x cal meas) a (byte p 1) (byte q 1))
