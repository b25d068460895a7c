-- F6 to ED: what a command that is answered FF makes of the MTA and the memory, and what it answers. Assumes nothing.
use Rattle.std.proofs.Common.{◌≡◌, ℕ, zero, suc, ◌+◌, ◌-◌, ◌*◌, ◌/◌, ◌%◌, ◌^◌, ◌<◌, ◌≤◌, true, eqb, ltb, ◌≢◌, List, [], ◌∷◌, length, drop, sym, refl, ap, ◌∙◌, subst, le_refl, mod-lt, add-one, arith, lit<, lit≤, get_or-drop, drop-cons, get_or-take, ltb-false, ltb-true}
use Rattle.std.proofs.lemmas.Bool.{eqb-false}
use Rattle.std.proofs.Math.Seq.{length-sets}
use Rattle.line.specs.Message.{sum}
use Rattle.state.specs.Layout.{upload_most, download_from, download_most, short_download_from, short_download_most, addressable}
use Rattle.state.specs.Bytes.{u32_at, put32, block, bytes32}
use Rattle.state.specs.Memory.{pick, inside_of, block_sum}
use Rattle.state.proofs.Inside.{inside_le}
use Rattle.state.proofs.Sets.{block_length}
use Rattle.words.specs.Command.{command_of}
use Rattle.words.specs.declared.Command.TheVariants as command
use Rattle.words.specs.declared.Extension.{Extension}
use Rattle.words.specs.declared.Extension.TheVariants.{Calibration as CalibrationMemory, Measured}
use Rattle.words.specs.declared.Mta.{Mta}
use Rattle.words.specs.declared.Mta.TheVariants.{Unset, At}
use Rattle.words.specs.declared.Reason.TheVariants.{OutOfRange, DataMissing, NotInside}
use Rattle.model.specs.Judge.{extension_from, set_mta_deed, upload_deed, short_upload_deed, checksum_deed, download_to, download_deed, short_download_deed, judge_the, judge_in}
use Rattle.model.specs.declared.Deed.{Deed}
use Rattle.model.specs.declared.Deed.TheVariants.{Upload, Checksum, Download}
use Rattle.model.specs.Answers.{reply_in, done_by, writes}
use Rattle.fields.proofs.Stores.{sets_in, put32_same}
use Rattle.fields.proofs.Frames.{only_sets}
use Rattle.model.specs.Model.{byte, Session}
use Rattle.model.specs.Step.{with_mta, step_in}
use Rattle.views.specs.Commands.{four, extension_number, memory_of, sum_from, TheGenerator, TheWrongKeys, WhetherOpen, TheLocks, TheSeed, TheMta, ThePointer, WhetherFreed, HowManyLists, TheRound, TheLists, AllBut, SET_MTA, Carries, UPLOAD, SHORT_UPLOAD, BUILD_CHECKSUM, Loads, DOWNLOAD, SHORT_DOWNLOAD}
use Rattle.model.proofs.Bounded.{either}
use Rattle.views.proofs.Parts.{aside}
use Rattle.views.proofs.Bytes.{bytes_cons, bytes_four}
use Rattle.views.proofs.Taken.{four_is, named_by, fe_ff, Taken, unless, provided, branch, judged, Leads}

but_mta : (c : Session) (x : Mta) → AllBut TheMta c (with_mta c x)
but_mta c x TheGenerator n = refl
but_mta c x TheWrongKeys n = refl
but_mta c x WhetherOpen n = refl
but_mta c x TheLocks n = λ r. refl
but_mta c x TheSeed n = refl
but_mta c x TheMta n = absurd (n refl)
but_mta c x ThePointer n = refl
but_mta c x WhetherFreed n = refl
but_mta c x HowManyLists n = refl
but_mta c x TheRound n = refl
but_mta c x TheLists n = λ l. refl

-- ---- blocks of bytes
block_byte : (mem : List ℕ) (a n i : ℕ) → i < n → byte (block mem a n) i ≡ byte mem (a + i)
block_byte mem a n i h = get_or-take n (drop a mem) i 0 h ∙ get_or-drop a mem i 0

-- the memory that an extension stands for, and its length
pub memory_is : (e : Extension) (cal meas : List ℕ) → pick e cal meas ≡ memory_of e cal meas
memory_is CalibrationMemory cal meas = refl
memory_is Measured cal meas = refl

length_is : (e : Extension) (cal meas : List ℕ) → pick e (length cal) (length meas) ≡ length (pick e cal meas)
length_is CalibrationMemory cal meas = refl
length_is Measured cal meas = refl

inside_memory : (e : Extension) (a n : ℕ) (cal meas : List ℕ) → inside_of a n (pick e (length cal) (length meas)) ≡ true → a + n ≤ length (pick e cal meas)
inside_memory e a n cal meas i = (inside_le a n (length (pick e cal meas)) (rw (length_is e cal meas) at i)).0

module _ (p : List ℕ) (c : Session) (cal meas : List ℕ) where
  -- ---- F6 SET_MTA
  pub set_mta_lem : byte p 0 ≡ 0xF6 → Taken p c cal meas (judge_in p c (length cal) (length meas)) → Leads SET_MTA p c cal meas (judge_in p c (length cal) (length meas))
  unfolding judge_the command_of set_mta_deed step_in writes reply_in
  set_mta_lem code =
      let P : Deed → Type 0 = Leads SET_MTA p c cal meas in
      let x : Extension = extension_from (byte p 3) in
      judged p c cal meas P 0xF6 command.SetMta refl code
      (unless p c cal meas P (ltb 1 (byte p 3)) OutOfRange (λ few _.
      record { extension = x; named = named_by (byte p 3) few; mta = ap (At x) (four_is p 4); rest = but_mta c (At x (u32_at p 4)); memory = refl; answer = refl }))

  -- ---- F5 UPLOAD, F4 SHORT_UPLOAD
  -- a deed that reads as many bytes as byte 1 says, all inside, from where `From` holds
  pub record Reading (From : Extension → ℕ → Type 0) (d : Deed) : Type 0 where
    pub extension : Extension
    pub address : ℕ
    pub from : From extension address
    pub deed : d ≡ Upload extension address (byte p 1)
    pub inside : inside_of address (byte p 1) (pick extension (length cal) (length meas)) ≡ true

  upload_at : (m : Mta) → c.mta ≡ m → Taken p c cal meas (upload_deed m (byte p 1) (length cal) (length meas)) → Reading (λ x a. c.mta ≡ At x a) (upload_deed m (byte p 1) (length cal) (length meas))
  unfolding upload_deed reply_in
  upload_at Unset e = λ t. absurd (fe_ff t)
  upload_at (At x a) e =
      let P : Deed → Type 0 = Reading (λ y b. c.mta ≡ At y b) in
      let n : ℕ = byte p 1 in
      unless p c cal meas P (eqb n 0) OutOfRange (λ _.
      unless p c cal meas P (ltb upload_most n) OutOfRange (λ _.
      provided p c cal meas P (inside_of a n (pick x (length cal) (length meas))) NotInside (λ inside _. record { extension = x; address = a; from = e; deed = refl; inside = inside })))

  -- UPLOAD reads from the MTA
  pub upload_reads : byte p 0 ≡ 0xF5 → Taken p c cal meas (judge_in p c (length cal) (length meas)) → Reading (λ x a. c.mta ≡ At x a) (judge_in p c (length cal) (length meas))
  unfolding judge_the command_of
  upload_reads code = judged p c cal meas (Reading (λ x a. c.mta ≡ At x a)) 0xF5 command.Upload refl code (upload_at c.mta refl)

  -- SHORT_UPLOAD from its own extension and address
  abbrev pub Own : Extension → ℕ → Type 0
  Own x a = (x ≡ extension_from (byte p 3)) × (byte p 3 ≡ extension_number x) × (a ≡ u32_at p 4)

  pub short_reads : byte p 0 ≡ 0xF4 → Taken p c cal meas (judge_in p c (length cal) (length meas)) → Reading Own (judge_in p c (length cal) (length meas))
  unfolding judge_the command_of short_upload_deed
  short_reads code =
      let P : Deed → Type 0 = Reading Own in
      let n : ℕ = byte p 1 in
      let x : Extension = extension_from (byte p 3) in
      let a : ℕ = u32_at p 4 in
      judged p c cal meas P 0xF4 command.ShortUpload refl code
      (unless p c cal meas P (eqb n 0) OutOfRange (λ _.
      unless p c cal meas P (ltb upload_most n) OutOfRange (λ _.
      unless p c cal meas P (ltb 1 (byte p 3)) OutOfRange (λ few.
      provided p c cal meas P (inside_of a n (pick x (length cal) (length meas))) NotInside (λ inside _.
      record { extension = x; address = a; from = (refl, named_by (byte p 3) few, refl); deed = refl; inside = inside })))))

  -- what such a deed comes to
  carried : {From : Extension → ℕ → Type 0} {d : Deed} (r : Reading From d) → Carries r.extension r.address (byte p 1) c cal meas (done_by d p c cal meas)
  unfolding step_in writes reply_in
  carried {From} {d} r = subst (λ (y : Deed). Carries r.extension r.address (byte p 1) c cal meas (done_by y p c cal meas)) (sym r.deed) (read r.extension r.address r.inside) where
    read : (x : Extension) (a : ℕ) → inside_of a (byte p 1) (pick x (length cal) (length meas)) ≡ true → Carries x a (byte p 1) c cal meas (done_by (Upload x a (byte p 1)) p c cal meas)
    read x a inside =
        let n : ℕ = byte p 1 in
        let mem : List ℕ = pick x cal meas in
        record {
          long = ap suc (block_length mem a n (inside_memory x a n cal meas inside)) ∙ sym (add-one n);
          bytes = λ i h. ap (byte (0xFF ∷ block mem a n)) (add-one i) ∙ block_byte mem a n i h ∙ ap (λ (m : List ℕ). byte m (a + i)) (memory_is x cal meas);
          mta = refl;
          rest = but_mta c (At x (a + n));
          memory = refl;
        }

  pub upload : byte p 0 ≡ 0xF5 → Taken p c cal meas (judge_in p c (length cal) (length meas)) → Leads UPLOAD p c cal meas (judge_in p c (length cal) (length meas))
  upload code t = let r = upload_reads code t in record { extension = r.extension; address = r.address; from = r.from; carries = carried r }

  pub short_upload_lem : byte p 0 ≡ 0xF4 → Taken p c cal meas (judge_in p c (length cal) (length meas)) → Leads SHORT_UPLOAD p c cal meas (judge_in p c (length cal) (length meas))
  short_upload_lem code t =
      let r = short_reads code t in
      record {
        extension = r.extension;
        named = r.from.1;
        carries = subst (λ (a : ℕ). Carries r.extension a (byte p 1) c cal meas (done_by (judge_in p c (length cal) (length meas)) p c cal meas)) (r.from.2 ∙ four_is p 4) (carried r);
      }

-- ---- F3 BUILD_CHECKSUM
-- a number in four bytes, lowest first
pub four_back : (x : ℕ) → x < 2 ^ 32 → x % 256 + 256 * (x / 256 % 256 + 256 * (x / 65536 % 256 + 256 * (x / 16777216 % 256))) ≡ x
unfolding put32 u32_at
four_back x h =
    let zeros : List ℕ = 0 ∷ 0 ∷ 0 ∷ 0 ∷ [] in
    let e : x % 256 + 256 * (x / 256 % 256) + 65536 * (x / 65536 % 256) + 16777216 * (x / 16777216 % 256) ≡ x = put32_same zeros 0 x (lit≤ tt) h in
    omega arith

pub sum_from_lem : (mem : List ℕ) (a n : ℕ) → a + n ≤ length mem → sum (block mem a n) ≡ sum_from mem a n
sum_from_lem mem a zero h = refl
sum_from_lem mem a (suc n) h = rw (drop-cons mem a 0 (omega arith), add-one a) (ap (λ (m : ℕ). byte mem a + m) (sum_from_lem mem (suc a) n (omega arith)))

module _ (p : List ℕ) (c : Session) (cal meas : List ℕ) where
  summed : (x : Extension) (a n : ℕ) → c.mta ≡ At x a → n ≡ four p 4 → inside_of a n (pick x (length cal) (length meas)) ≡ true → Leads BUILD_CHECKSUM p c cal meas (Checksum x a n)
  unfolding step_in writes reply_in block_sum
  summed x a n e number inside =
      let mem : List ℕ = pick x cal meas in
      let total : ℕ = sum (block mem a n) % 65536 in
      let few : total < 65536 = mod-lt (sum (block mem a n)) (lit< tt) in
      let same : total ≡ sum_from (memory_of x cal meas) a (four p 4) % 65536 =
      ap (λ (m : ℕ). m % 65536) (sum_from_lem mem a n (inside_memory x a n cal meas inside)) ∙ ap (λ (m : ℕ). sum_from mem a m % 65536) number
      ∙ ap (λ (bs : List ℕ). sum_from bs a (four p 4) % 65536) (memory_is x cal meas) in
      record {
        extension = x;
        address = a;
        from = e;
        answer = refl;
        bytes = bytes_cons 0xFF (0x02 ∷ 0x00 ∷ 0x00 ∷ bytes32 total) (lit< tt)
            (bytes_cons 0x02 (0x00 ∷ 0x00 ∷ bytes32 total) (lit< tt) (bytes_cons 0x00 (0x00 ∷ bytes32 total) (lit< tt) (bytes_cons 0x00 (bytes32 total) (lit< tt) (bytes_four total))));
        carries = four_back total (omega arith) ∙ same;
        mta = ap (λ (m : ℕ). At x (a + m)) number;
        rest = but_mta c (At x (a + n));
        memory = refl;
      }

  checksum_at_lem : (m : Mta) → c.mta ≡ m → Taken p c cal meas (checksum_deed m (u32_at p 4) (length cal) (length meas)) → Leads BUILD_CHECKSUM p c cal meas (checksum_deed m (u32_at p 4) (length cal) (length meas))
  unfolding checksum_deed reply_in
  checksum_at_lem Unset e = λ t. absurd (fe_ff t)
  checksum_at_lem (At x a) e =
      let P : Deed → Type 0 = Leads BUILD_CHECKSUM p c cal meas in
      let n : ℕ = u32_at p 4 in
      branch p c cal meas P (eqb n 0) (λ _ t. absurd (fe_ff t)) (λ _.
      branch p c cal meas P (ltb addressable n) (λ _ t. absurd (fe_ff t)) (λ _.
      provided p c cal meas P (inside_of a n (pick x (length cal) (length meas))) NotInside (λ inside _. summed x a n e (four_is p 4) inside)))

  pub build_checksum_lem : byte p 0 ≡ 0xF3 → Taken p c cal meas (judge_in p c (length cal) (length meas)) → Leads BUILD_CHECKSUM p c cal meas (judge_in p c (length cal) (length meas))
  unfolding judge_the command_of
  build_checksum_lem code = judged p c cal meas (Leads BUILD_CHECKSUM p c cal meas) 0xF3 command.BuildChecksum refl code (checksum_at_lem c.mta refl)

  -- ---- F0 DOWNLOAD, ED SHORT_DOWNLOAD
  -- a deed that stores as many bytes as byte 1 says, which lie in the packet from byte `from` on, all inside, to where `To` holds
  pub record Loading (from : ℕ) (To : ℕ → Type 0) (d : Deed) : Type 0 where
    pub address : ℕ
    pub to : To address
    pub deed : d ≡ Download from address (byte p 1)
    pub some : byte p 1 ≢ 0
    pub few : byte p 1 ≤ download_most
    pub there : byte p 1 + from ≤ length p
    pub inside : inside_of address (byte p 1) (length cal) ≡ true

  download_to_lem : (P : Deed → Type 0) (from : ℕ) (x : Extension) (a : ℕ) → (x ≡ CalibrationMemory → inside_of a (byte p 1) (length cal) ≡ true → P (Download from a (byte p 1)))
      → Taken p c cal meas (download_to from x a (byte p 1) (length cal)) → P (download_to from x a (byte p 1) (length cal))
  unfolding download_to reply_in
  download_to_lem P from CalibrationMemory a done = provided p c cal meas P (inside_of a (byte p 1) (length cal)) NotInside (λ inside _. done refl inside)
  download_to_lem P from Measured a done = λ t. absurd (fe_ff t)

  download_at : (m : Mta) → c.mta ≡ m → Taken p c cal meas (download_deed m (byte p 1) (length p) (length cal))
      → Loading download_from (λ a. c.mta ≡ At CalibrationMemory a) (download_deed m (byte p 1) (length p) (length cal))
  unfolding download_deed reply_in
  download_at Unset e = λ t. absurd (fe_ff t)
  download_at (At x a) e =
      let P : Deed → Type 0 = Loading download_from (λ b. c.mta ≡ At CalibrationMemory b) in
      let n : ℕ = byte p 1 in
      unless p c cal meas P (eqb n 0) OutOfRange (λ none.
      unless p c cal meas P (ltb download_most n) OutOfRange (λ few.
      unless p c cal meas P (ltb (length p) (n + download_from)) DataMissing (λ there.
      download_to_lem P download_from x a (λ is inside. record {
        address = a;
        to = e ∙ ap (λ (y : Extension). At y a) is;
        deed = refl;
        some = eqb-false n 0 none;
        few = ltb-false download_most n few;
        there = ltb-false (length p) (n + download_from) there;
        inside = inside;
      }))))

  -- DOWNLOAD stores at the MTA
  pub download_loads : byte p 0 ≡ 0xF0 → Taken p c cal meas (judge_in p c (length cal) (length meas))
      → Loading download_from (λ a. c.mta ≡ At CalibrationMemory a) (judge_in p c (length cal) (length meas))
  unfolding judge_the command_of
  download_loads code = judged p c cal meas (Loading download_from (λ a. c.mta ≡ At CalibrationMemory a)) 0xF0 command.Download refl code (download_at c.mta refl)

  -- SHORT_DOWNLOAD at its own address
  pub short_loads : byte p 0 ≡ 0xED → Taken p c cal meas (judge_in p c (length cal) (length meas))
      → Loading short_download_from (Own p c cal meas CalibrationMemory) (judge_in p c (length cal) (length meas))
  unfolding judge_the command_of short_download_deed
  short_loads code =
      let P : Deed → Type 0 = Loading short_download_from (Own p c cal meas CalibrationMemory) in
      let n : ℕ = byte p 1 in
      let x : Extension = extension_from (byte p 3) in
      let a : ℕ = u32_at p 4 in
      judged p c cal meas P 0xED command.ShortDownload refl code
      (unless p c cal meas P (eqb n 0) OutOfRange (λ none.
      unless p c cal meas P (ltb short_download_most n) OutOfRange (λ few.
      unless p c cal meas P (ltb 1 (byte p 3)) OutOfRange (λ one.
      unless p c cal meas P (ltb (length p) (n + short_download_from)) DataMissing (λ there.
      download_to_lem P short_download_from x a (λ is inside. record {
        address = a;
        to = (sym is, named_by (byte p 3) one ∙ ap extension_number is, refl);
        deed = refl;
        some = eqb-false n 0 none;
        few = omega (arith, ltb-false short_download_most n few);
        there = ltb-false (length p) (n + short_download_from) there;
        inside = inside;
      }))))))

  -- what such a deed comes to
  loaded : {from : ℕ} {To : ℕ → Type 0} {d : Deed} (r : Loading from To d) → Loads from r.address p c cal (done_by d p c cal meas)
  unfolding step_in writes reply_in
  loaded {from} {To} {d} r = subst (λ (y : Deed). Loads from r.address p c cal (done_by y p c cal meas)) (sym r.deed) (stored r.address r.there r.inside) where
    stored : (a : ℕ) → byte p 1 + from ≤ length p → inside_of a (byte p 1) (length cal) ≡ true → Loads from a p c cal (done_by (Download from a (byte p 1)) p c cal meas)
    stored a there inside =
        let n : ℕ = byte p 1 in
        let xs : List ℕ = block p from n in
        let long' : length xs ≡ n = block_length p from n (omega arith) in
        let room : a + n ≤ length cal = (inside_le a n (length cal) inside).0 in
        let within : (j : ℕ) → ((i : ℕ) → i < n → j ≢ a + i) → a ≤ j → a + n ≤ j =
        λ j f h. either (ltb j (a + n)) (λ b. let k : j < a + n = ltb-true j (a + n) b in absurd (f (j - a) (omega arith) (omega arith))) (λ b. ltb-false j (a + n) b) in
        record {
          stored = λ i h. sets_in cal a xs i (omega arith) (omega arith) ∙ block_byte p from n i h ∙ ap (byte p) (omega arith);
          others = λ j f. (only_sets {lo = a} {hi = a + n} cal a xs (le_refl a) (omega arith)).bytes j (aside a (a + n) j (within j f));
          long = length-sets cal a xs;
          mta = refl;
          rest = but_mta c (At CalibrationMemory (a + n));
          answer = refl;
        }

  pub download : byte p 0 ≡ 0xF0 → Taken p c cal meas (judge_in p c (length cal) (length meas)) → Leads DOWNLOAD p c cal meas (judge_in p c (length cal) (length meas))
  download code t = let r = download_loads code t in record { address = r.address; at = r.to; loads = loaded r }

  pub short_download_lem : byte p 0 ≡ 0xED → Taken p c cal meas (judge_in p c (length cal) (length meas)) → Leads SHORT_DOWNLOAD p c cal meas (judge_in p c (length cal) (length meas))
  short_download_lem code t =
      let r = short_loads code t in
      record {
        named = r.to.1;
        loads = subst (λ (a : ℕ). Loads 8 a p c cal (done_by (judge_in p c (length cal) (length meas)) p c cal meas)) (r.to.2 ∙ four_is p 4) (loaded r);
      }
