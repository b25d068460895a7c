-- Of a memory's length no more is judged than how many of its bytes can be addressed. Assumes nothing.
use Rattle.std.proofs.Common.{◌≡◌, ℕ, Bool, List, get_or, refl}
use Rattle.model.specs.Judge.{seen_in, judge_in, extension_from, upload_deed, short_upload_deed, checksum_deed, download_to, download_deed, short_download_deed, write_block, write_deed, judge_the, judge_by, judge}
use Rattle.model.specs.View.{session_of}
use Rattle.state.specs.Layout.{download_from, short_download_from}
use Rattle.state.specs.Bytes.{u16_at}
use Rattle.state.specs.Memory.{reach, pick, inside_of}
use Rattle.words.specs.Command.{command_of}
use Rattle.words.specs.declared.Command.{Command}
use Rattle.words.specs.declared.Command.TheVariants.{Unknown, Connect, Disconnect, GetStatus, Synch, GetSeed, Unlock, SetMta, Upload, ShortUpload, BuildChecksum, Download, ShortDownload, ClearDaqList, SetDaqPtr, WriteDaq, SetDaqListMode, StartStopDaqList, StartStopSynch, GetDaqProcessorInfo, GetDaqResolutionInfo, FreeDaq, AllocDaq, AllocOdt, AllocOdtEntry}
use Rattle.words.specs.declared.Extension.{Extension}
use Rattle.words.specs.declared.Extension.TheVariants.{Calibration, Measured}
use Rattle.words.specs.declared.Mta.{Mta}
use Rattle.words.specs.declared.Mta.TheVariants.{Unset, At}
use Rattle.words.specs.declared.Pointer.{Pointer}
use Rattle.words.specs.declared.Pointer.TheVariants.{Unset as NoEntry, At as Entry}
use Rattle.model.specs.Seen.{Packet, Seen, numbers_of}
use Rattle.look.specs.Look.{judge_of}

-- two pairs of lengths of which as many bytes can be addressed
module _ (nc nm nc' nm' : ℕ) (c : reach nc' ≡ reach nc) (m : reach nm' ≡ reach nm) where
  inside_cal : (a n : ℕ) → inside_of a n nc' ≡ inside_of a n nc
  unfolding inside_of
  inside_cal a n = rw c

  inside_meas : (a n : ℕ) → inside_of a n nm' ≡ inside_of a n nm
  unfolding inside_of
  inside_meas a n = rw m

  inside_cut : (e : Extension) (a n : ℕ) → inside_of a n (pick e nc' nm') ≡ inside_of a n (pick e nc nm)
  inside_cut Calibration a n = inside_cal a n
  inside_cut Measured a n = inside_meas a n

  upload_cut : (mta : Mta) (n : ℕ) → upload_deed mta n nc' nm' ≡ upload_deed mta n nc nm
  unfolding upload_deed
  upload_cut Unset n = refl
  upload_cut (At e a) n = rw (inside_cut e a n)

  short_upload_cut : (n ext a : ℕ) → short_upload_deed n ext a nc' nm' ≡ short_upload_deed n ext a nc nm
  unfolding short_upload_deed
  short_upload_cut n ext a = rw (inside_cut (extension_from ext) a n)

  checksum_cut : (mta : Mta) (n : ℕ) → checksum_deed mta n nc' nm' ≡ checksum_deed mta n nc nm
  unfolding checksum_deed
  checksum_cut Unset n = refl
  checksum_cut (At e a) n = rw (inside_cut e a n)

  download_to_cut : (from : ℕ) (e : Extension) (a n : ℕ) → download_to from e a n nc' ≡ download_to from e a n nc
  unfolding download_to
  download_to_cut from Calibration a n = rw (inside_cal a n)
  download_to_cut from Measured a n = refl

  download_cut : (mta : Mta) (n long : ℕ) → download_deed mta n long nc' ≡ download_deed mta n long nc
  unfolding download_deed
  download_cut Unset n long = refl
  download_cut (At e a) n long = rw (download_to_cut download_from e a n)

  short_download_cut : (n ext a long : ℕ) → short_download_deed n ext a long nc' ≡ short_download_deed n ext a long nc
  unfolding short_download_deed
  short_download_cut n ext a long = rw (download_to_cut short_download_from (extension_from ext) a n)

  write_block_cut : (l o e n : ℕ) (x : Extension) (a : ℕ) → write_block l o e n x a (pick x nc' nm') ≡ write_block l o e n x a (pick x nc nm)
  unfolding write_block
  write_block_cut l o e n x a = rw (inside_cut x a n)

  write_cut : (at : Pointer) (runs : Bool) (bit n ext a : ℕ) → write_deed at runs bit n ext a nc' nm' ≡ write_deed at runs bit n ext a nc nm
  unfolding write_deed
  write_cut NoEntry runs bit n ext a = refl
  write_cut (Entry l o e) runs bit n ext a = rw (write_block_cut l o e n (extension_from ext) a)

  the_cut : (x : Command) (p : Packet) (v : Seen) → judge_the x p v nc' nm' ≡ judge_the x p v nc nm
  unfolding judge_the
  the_cut Unknown p v = refl
  the_cut Connect p v = refl
  the_cut Disconnect p v = refl
  the_cut GetStatus p v = refl
  the_cut Synch p v = refl
  the_cut GetSeed p v = refl
  the_cut Unlock p v = refl
  the_cut SetMta p v = refl
  the_cut Upload p v = upload_cut v.mta p.b1
  the_cut ShortUpload p v = short_upload_cut p.b1 p.b3 p.d4
  the_cut BuildChecksum p v = checksum_cut v.mta p.d4
  the_cut Download p v = download_cut v.mta p.b1 p.n
  the_cut ShortDownload p v = short_download_cut p.b1 p.b3 p.d4 p.n
  the_cut ClearDaqList p v = refl
  the_cut SetDaqPtr p v = refl
  the_cut WriteDaq p v = write_cut v.pointer v.pointed p.b1 p.b2 p.b3 p.d4
  the_cut SetDaqListMode p v = refl
  the_cut StartStopDaqList p v = refl
  the_cut StartStopSynch p v = refl
  the_cut GetDaqProcessorInfo p v = refl
  the_cut GetDaqResolutionInfo p v = refl
  the_cut FreeDaq p v = refl
  the_cut AllocDaq p v = refl
  the_cut AllocOdt p v = refl
  the_cut AllocOdtEntry p v = refl

  pub judge_cut : (p s : List ℕ) → judge_of p s nc' nm' ≡ judge_of p s nc nm
  unfolding judge_in session_of judge judge_by
  judge_cut p s = rw (the_cut (command_of (get_or p 0 0)) (numbers_of p) (seen_in (u16_at p 2) (get_or p 4 0) (session_of s)))
