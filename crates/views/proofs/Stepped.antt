-- What a deed leaves of the lists, the locks and the count of wrong keys shows what it makes of them, whatever numbers the state holds: a generator or an address of more than
-- its bytes would read as another, but no list and no lock looks at these. Assumes nothing.
use Rattle.std.proofs.Common.{◌≡◌, ℕ, ◌<◌, ◌≤◌, List, length, Some, refl, ap, ◌∙◌}
use Rattle.state.specs.Layout.{size, entry_most, addressable}
use Rattle.state.specs.Generator.{next_of}
use Rattle.state.specs.State.{generator_of, seed_of, mta_of, set_generator, set_seed, set_mta}
use Rattle.judge.specs.Doable.{Doable}
use Rattle.model.specs.Model.{Session}
use Rattle.model.specs.Step.{with_generator, with_seed, with_mta, step_in}
use Rattle.model.specs.View.{session_of}
use Rattle.model.specs.declared.Deed.{Deed}
use Rattle.model.specs.declared.Deed.TheVariants.{Refuse, RefuseSize, WrongKey, Connect, Disconnect, Status, Synch, NoSeed, GiveSeed, Unlock, SetMta, Upload, Checksum, Download, ClearList, SetPointer, ClearEntry, WriteEntry, SetMode, Stop, Start, KeepRunning, Select, StopAll, StartSelected, StopSelected, ProcessorInfo, ResolutionInfo, FreeLists, AllocLists, AllocOdts, AllocEntries}
use Rattle.words.specs.declared.Resource.{Resource}
use Rattle.words.specs.declared.Extension.{Extension}
use Rattle.words.specs.Values.{Seed}
use Rattle.words.specs.declared.Mta.{Mta}
use Rattle.words.specs.declared.Mta.TheVariants.{At}
use Rattle.session.specs.Perform.{effect}
use Rattle.fields.proofs.Frames.{only_generator, only_seed, only_mta}
use Rattle.views.proofs.Parts.{in_generator, in_seed, in_mta}
use Rattle.views.proofs.Effect.{session_effect}

-- d has the lists, their round, the locks and the count of wrong keys of c, and is open if c is
pub record Steps (c d : Session) : Type 0 where
  pub opened : d.opened ≡ c.opened
  pub wrong_keys : d.wrong_keys ≡ c.wrong_keys
  pub unlocked : d.unlocked ≡ c.unlocked
  pub freed : d.freed ≡ c.freed
  pub lists : d.lists ≡ c.lists
  pub round : d.round ≡ c.round
  pub list : d.list ≡ c.list

-- if it differs from c in generator, seed and MTA alone, or in nothing
beside : {c d : Session} (g : ℕ) (x : Seed) (m : Mta) → d ≡ with_mta (with_seed (with_generator c g) x) m → Steps c d
beside g x m e = record {
  opened = ap (λ (c : Session). c.opened) e;
  wrong_keys = ap (λ (c : Session). c.wrong_keys) e;
  unlocked = ap (λ (c : Session). c.unlocked) e;
  freed = ap (λ (c : Session). c.freed) e;
  lists = ap (λ (c : Session). c.lists) e;
  round = ap (λ (c : Session). c.round) e;
  list = ap (λ (c : Session). c.list) e;
}

steps : {c d : Session} → d ≡ c → Steps c d
steps {c} e = beside c.generator c.seed c.mta e

-- an entry fits in the bytes that it is stored in
abbrev pub Entered : Deed → Type 0
Entered d = (l o e n : ℕ) (x : Extension) (a : ℕ) → d ≡ WriteEntry l o e n x a → (n ≤ entry_most) × (a < addressable)

-- ---- a seed, an address: the other parts are as they were
given : (r : Resource) (s : List ℕ) → Steps (step_in (GiveSeed r) (session_of s)) (session_of (effect (GiveSeed r) s))
unfolding effect step_in
given r s =
    let t : List ℕ = set_generator s (next_of (generator_of s)) in
    beside (generator_of t) (seed_of (set_seed t (Some r))) (session_of s).mta
    (in_seed (only_seed t (Some r)) ∙ ap (λ (c : Session). with_seed c (seed_of (set_seed t (Some r)))) (in_generator (only_generator s (next_of (generator_of s)))))

moved : (x : Extension) (a : ℕ) (s : List ℕ) → Steps (step_in (SetMta x a) (session_of s)) (session_of (effect (SetMta x a) s))
unfolding effect step_in
moved x a s = beside (session_of s).generator (session_of s).seed (mta_of (set_mta s (At x a))) (in_mta (only_mta s (At x a)))

pub stepped : (d : Deed) (s : List ℕ) (n nc nm : ℕ) → length s ≡ size → Doable d (session_of s) n nc nm → Entered d → Steps (step_in d (session_of s)) (session_of (effect d s))
stepped (Refuse r) s n nc nm h can enter = steps (session_effect (Refuse r) s n nc nm h can tt)
stepped RefuseSize s n nc nm h can enter = steps (session_effect RefuseSize s n nc nm h can tt)
stepped WrongKey s n nc nm h can enter = steps (session_effect WrongKey s n nc nm h can tt)
stepped Connect s n nc nm h can enter = steps (session_effect Connect s n nc nm h can tt)
stepped Disconnect s n nc nm h can enter = steps (session_effect Disconnect s n nc nm h can tt)
stepped Status s n nc nm h can enter = steps (session_effect Status s n nc nm h can tt)
stepped Synch s n nc nm h can enter = steps (session_effect Synch s n nc nm h can tt)
stepped NoSeed s n nc nm h can enter = steps (session_effect NoSeed s n nc nm h can tt)
stepped (GiveSeed r) s n nc nm h can enter = given r s
stepped (Unlock r) s n nc nm h can enter = steps (session_effect (Unlock r) s n nc nm h can tt)
stepped (SetMta x a) s n nc nm h can enter = moved x a s
stepped (Upload x a m) s n nc nm h can enter = steps (session_effect (Upload x a m) s n nc nm h can tt)
stepped (Checksum x a m) s n nc nm h can enter = steps (session_effect (Checksum x a m) s n nc nm h can tt)
stepped (Download from a m) s n nc nm h can enter = steps (session_effect (Download from a m) s n nc nm h can tt)
stepped (ClearList l) s n nc nm h can enter = steps (session_effect (ClearList l) s n nc nm h can tt)
stepped (SetPointer l o e) s n nc nm h can enter = steps (session_effect (SetPointer l o e) s n nc nm h can tt)
stepped (ClearEntry l o e) s n nc nm h can enter = steps (session_effect (ClearEntry l o e) s n nc nm h can tt)
stepped (WriteEntry l o e m x a) s n nc nm h can enter = steps (session_effect (WriteEntry l o e m x a) s n nc nm h can (enter l o e m x a refl))
stepped (SetMode l event) s n nc nm h can enter = steps (session_effect (SetMode l event) s n nc nm h can tt)
stepped (Stop l) s n nc nm h can enter = steps (session_effect (Stop l) s n nc nm h can tt)
stepped (Start l) s n nc nm h can enter = steps (session_effect (Start l) s n nc nm h can tt)
stepped (KeepRunning l) s n nc nm h can enter = steps (session_effect (KeepRunning l) s n nc nm h can tt)
stepped (Select l) s n nc nm h can enter = steps (session_effect (Select l) s n nc nm h can tt)
stepped StopAll s n nc nm h can enter = steps (session_effect StopAll s n nc nm h can tt)
stepped StartSelected s n nc nm h can enter = steps (session_effect StartSelected s n nc nm h can tt)
stepped StopSelected s n nc nm h can enter = steps (session_effect StopSelected s n nc nm h can tt)
stepped ProcessorInfo s n nc nm h can enter = steps (session_effect ProcessorInfo s n nc nm h can tt)
stepped ResolutionInfo s n nc nm h can enter = steps (session_effect ResolutionInfo s n nc nm h can tt)
stepped FreeLists s n nc nm h can enter = steps (session_effect FreeLists s n nc nm h can tt)
stepped (AllocLists m) s n nc nm h can enter = steps (session_effect (AllocLists m) s n nc nm h can tt)
stepped (AllocOdts l m) s n nc nm h can enter = steps (session_effect (AllocOdts l m) s n nc nm h can tt)
stepped (AllocEntries l o m) s n nc nm h can enter = steps (session_effect (AllocEntries l o m) s n nc nm h can tt)
