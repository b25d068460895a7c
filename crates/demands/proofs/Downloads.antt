-- What DOWNLOAD or SHORT_DOWNLOAD wrote, UPLOAD or SHORT_UPLOAD at the same place gives back, and other bytes stay. Assumes nothing.
use Rattle.std.proofs.Common.{◌≡◌, ◌≢◌, ℕ, ◌+◌, ◌≤◌, true, List, [], ◌∷◌, length, refl, sym, ap, ◌∙◌, subst, arith, le_refl, ne_eqb, le-ltb}
use Rattle.std.proofs.Math.Seq.{sets, length-sets}
use Rattle.model.specs.Judge.{judge_in, upload_deed, short_upload_deed, judge_the, judge_by, judge}
use Rattle.model.specs.Answers.{reply_in, written, writes}
use Rattle.model.specs.Model.{byte, Session}
use Rattle.model.specs.View.{session_of, view_of}
use Rattle.state.specs.Layout.{upload_most, download_most}
use Rattle.state.specs.Bytes.{block}
use Rattle.state.specs.Memory.{pick, inside_of}
use Rattle.state.specs.State.{consistent}
use Rattle.words.specs.Command.{command_of}
use Rattle.session.specs.Receive.{Step, receive_of}
use Rattle.words.specs.declared.Extension.{Extension}
use Rattle.words.specs.declared.Extension.TheVariants.{Calibration}
use Rattle.words.specs.declared.Mta.TheVariants.{At}
use Rattle.model.specs.declared.Deed.{Deed}
use Rattle.model.specs.declared.Deed.TheVariants.{Upload, Download}
use Rattle.fields.proofs.Frames.{only_sets}
use Rattle.state.proofs.Inside.{inside_le}
use Rattle.state.proofs.Sets.{block_length}
use Rattle.fields.proofs.Stores.{block_sets}
use Rattle.views.proofs.Taken.{Taken}
use Rattle.views.proofs.MemoryLaws.{Loading, download_loads, short_loads}
use Rattle.demands.specs.Slave.{ours}
use Rattle.demands.specs.Heard.{deed_in}
use Rattle.demands.specs.Waiting.{SameOutside}
use Rattle.demands.specs.Memory.{WritesTo, by_download, by_short_download, ReadsFrom, by_upload, by_short_upload, Downloads, Uploads}
use Rattle.demands.proofs.Received.{commanded, command_answer}
use Rattle.demands.proofs.Unchanged.{all_but}

-- ---- DOWNLOAD and SHORT_DOWNLOAD
-- one that is done has loaded, to that place
module _ (p : List ℕ) (c : Session) (cal meas : List ℕ) (a : ℕ) where
  abbrev Loaded : ℕ → Type 0
  Loaded from = Loading p c cal meas from (λ x. x ≡ a) (deed_in p c cal meas)

  loads_to : {from : ℕ} {To : ℕ → Type 0} → ((x : ℕ) → To x → x ≡ a) → Loading p c cal meas from To (deed_in p c cal meas) → Loaded from
  loads_to f r = record { address = r.address; to = f r.address r.to; deed = r.deed; some = r.some; few = r.few; there = r.there; inside = r.inside }

  loading : (from : ℕ) → WritesTo p c a from → Taken p c cal meas (deed_in p c cal meas) → Loaded from
  loading _ (by_download code at) t = loads_to (λ x e. let same : At Calibration x ≡ At Calibration a = sym e ∙ at in cc) (download_loads p c cal meas code t)
  loading _ (by_short_download code named at) t = loads_to (λ x e. e.2 ∙ at) (short_loads p c cal meas code t)

-- ---- UPLOAD and SHORT_UPLOAD
-- a byte that is not 0 is there
there_is : (q : List ℕ) (n : ℕ) → byte q 1 ≡ n → n ≢ 0 → 2 ≤ length q
there_is [] n e z = absurd (z (sym e))
there_is (x ∷ []) n e z = absurd (z (sym e))
there_is (x ∷ y ∷ q) n e z = omega arith

upload_judged : (q : List ℕ) (c : Session) (a n nc nm : ℕ) → ReadsFrom q c a → byte q 1 ≡ n → n ≢ 0 → n ≤ upload_most → inside_of a n nc ≡ true
    → judge_in q c nc nm ≡ Upload Calibration a n
unfolding judge_in judge judge_by judge_the command_of upload_deed short_upload_deed
upload_judged q c a n nc nm (by_upload code at) count z few inside =
    simp (code, le-ltb (length q) 2 (there_is q n count z), at, count, ne_eqb n 0 z, le-ltb upload_most n few, inside)
upload_judged q c a n nc nm (by_short_upload code long named at) count z few inside =
    simp (code, le-ltb (length q) 8 long, named, at, count, ne_eqb n 0 z, le-ltb upload_most n few, inside)

pub upload_says : (x : Extension) (a n : ℕ) (c : Session) (cal meas : List ℕ) → reply_in (Upload x a n) c cal meas ≡ 0xFF ∷ block (pick x cal meas) a n
unfolding reply_in
upload_says x a n c cal meas = refl

download_writes : (from a n : ℕ) (p cal : List ℕ) → written (Download from a n) p cal ≡ sets cal a (block p from n)
unfolding writes
download_writes from a n p cal = refl

-- the bytes that stand there are given
pub uploaded : (t mem meas : List ℕ) (c : ℕ) (q : List ℕ) (a n : ℕ) → consistent t ≡ true → Uploads t c q a n → n ≢ 0 → n ≤ download_most → inside_of a n (length mem) ≡ true
    → (view_of (receive_of t mem meas c).state).answer ≡ 0xFF ∷ block mem a n
uploaded t mem meas c q a n v up z few inside =
    let judged : deed_in q (session_of t) mem meas ≡ Upload Calibration a n =
    upload_judged q (session_of t) a n (length mem) (length meas) up.place up.count z (omega arith) inside in
    command_answer t mem meas c q v up.command ∙ ap (λ (d : Deed). reply_in d (session_of t) mem meas) judged ∙ upload_says Calibration a n (session_of t) mem meas

-- ---- one after the other
-- what a DOWNLOAD or SHORT_DOWNLOAD that is answered FF leaves
pub record Wrote (p : List ℕ) (from a n : ℕ) (cal new : List ℕ) : Type 0 where
  pub some : n ≢ 0
  pub few : n ≤ download_most
  pub inside : inside_of a n (length new) ≡ true
  pub there : block new a n ≡ block p from n
  pub others : SameOutside a (a + n) cal new

stands : (cal : List ℕ) (a n : ℕ) (xs : List ℕ) → length xs ≡ n → a + n ≤ length cal → block (sets cal a xs) a n ≡ xs
stands cal a n xs e h = rw (← e) (block_sets cal a xs (omega arith))

wrote : (p : List ℕ) (c : Session) (cal meas : List ℕ) (a from : ℕ) → Loaded p c cal meas a from → Wrote p from a (byte p 1) cal (written (deed_in p c cal meas) p cal)
wrote p c cal meas a from r =
    let n : ℕ = byte p 1 in
    let xs : List ℕ = block p from n in
    let n_there : n + from ≤ length p = r.there in
    let long : length xs ≡ n = block_length p from n (omega arith) in
    let inside : inside_of a n (length cal) ≡ true = subst (λ (x : ℕ). inside_of x n (length cal) ≡ true) r.to r.inside in
    let within : a + n ≤ length cal = (inside_le a n (length cal) inside).0 in
    let is : written (deed_in p c cal meas) p cal ≡ sets cal a xs =
    ap (λ (d : Deed). written d p cal) r.deed ∙ download_writes from r.address n p cal ∙ ap (λ (x : ℕ). sets cal x xs) r.to in
    rw is (record {
      some = r.some;
      few = r.few;
      inside = rw (length-sets cal a xs) inside;
      there = stands cal a n xs long within;
      others = all_but (only_sets cal a xs (le_refl a) (omega arith));
    })

pub downloaded : (s cal meas : List ℕ) (b : ℕ) (p : List ℕ) (from a n : ℕ) → consistent s ≡ true → Downloads s b p from a n → (view_of (ours.receive s cal meas b).state).answer ≡ 0xFF ∷ []
    → Wrote p from a n cal (ours.receive s cal meas b).cal
downloaded s cal meas b p from a n u down said =
    let c : Session = session_of s in
    let taken : Taken p c cal meas (deed_in p c cal meas) = ap (λ (l : List ℕ). byte l 0) (sym (command_answer s cal meas b p u down.command) ∙ said) in
    subst (λ (m : ℕ). Wrote p from a m cal (receive_of s cal meas b).cal) down.count
    (subst (Wrote p from a (byte p 1) cal) (sym (ap (λ (o : Step). o.cal) (commanded s cal meas b p u down.command))) (wrote p c cal meas a from (loading p c cal meas a from down.place taken)))

pub gives_back_lem : (s t cal meas meas' : List ℕ) (b c : ℕ) (p q : List ℕ) (from a n : ℕ) → consistent s ≡ true → consistent t ≡ true
    → Downloads s b p from a n → (view_of (ours.receive s cal meas b).state).answer ≡ 0xFF ∷ [] → Uploads t c q a n
    → ((view_of (ours.receive t (ours.receive s cal meas b).cal meas' c).state).answer ≡ 0xFF ∷ block p from n) × SameOutside a (a + n) cal (ours.receive s cal meas b).cal
gives_back_lem s t cal meas meas' b c p q from a n u v down said up =
    let new : List ℕ = (receive_of s cal meas b).cal in
    let w : Wrote p from a n cal new = downloaded s cal meas b p from a n u down said in
    (uploaded t new meas' c q a n v up w.some w.few w.inside ∙ ap (λ (l : List ℕ). 0xFF ∷ l) w.there, w.others)
