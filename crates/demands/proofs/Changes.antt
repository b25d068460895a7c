-- What a command leaves of the seed, the MTA and the pool, by its packet and its answer: each is kept, unless the test of `Between` says that it is
-- changed. Of whatever numbers the state holds. Assumes nothing.
use Rattle.std.proofs.Common.{◌≡◌, ℕ, Bool, true, false, List, length, Some, None, eqb, refl, sym, ap, ◌∙◌, subst, eqb-true}
use Rattle.std.proofs.lemmas.Bool.{or_left, or_right}
use Rattle.line.proofs.Laws.{cond_ind}
use Rattle.state.specs.Layout.{size}
use Rattle.state.specs.Bytes.{u16_at, u32_at}
use Rattle.state.specs.Generator.{next_of}
use Rattle.state.specs.State.{generator_of, wrong_keys_of, seed_of, mta_of, set_generator, set_seed, set_mta}
use Rattle.words.specs.Command.{command_of}
use Rattle.words.specs.declared.Command.{Command}
use Rattle.words.specs.declared.Resource.{Resource}
use Rattle.words.specs.declared.Resource.TheVariants.{Calibration, Lists}
use Rattle.words.specs.Values.{Seed}
use Rattle.words.specs.declared.Mta.{Mta}
use Rattle.words.specs.declared.Pointer.{Pointer}
use Rattle.judge.specs.Doable.{Doable}
use Rattle.session.specs.Perform.{effect}
use Rattle.model.specs.declared.Deed.{Deed}
use Rattle.model.specs.declared.Deed.TheVariants as deed
use Rattle.model.specs.Judge.{extension_from, seen_in, judge_in}
use Rattle.model.specs.Seen.{numbers_of}
use Rattle.model.specs.Model.{byte, put, no_entry, Entry, Odt, DaqList, Session}
use Rattle.model.specs.Step.{with_generator, unlock, with_lock, with_seed, with_mta, with_pointer, with_lists, select, set_entry, stop_if_selected, step_in}
use Rattle.model.specs.Answers.{reply_in}
use Rattle.model.specs.View.{session_of}
use Rattle.fields.proofs.Frames.{only_generator, only_seed, only_mta}
use Rattle.views.specs.Locked.{ends_session}
use Rattle.views.proofs.Parts.{in_generator, in_seed, in_mta}
use Rattle.views.proofs.Fit.{Fit, entry_low}
use Rattle.views.proofs.Effect.{session_effect}
use Rattle.views.proofs.Coded.{Coded, coded}
use Rattle.views.proofs.Verdict.{Verdict, refused, connects, disconnects, tells, synchs, no_seed_lem, gives, unlocks, wrong, sets, uploads, shorts, no_size_lem, sums, downloads, short_downloads, clears, points, zeroes, writes, modes, stops, starts, goes_on_lem, selects, stops_all_lem, starts_all, stops_some, processor, resolution, frees, allocs_lists, allocs_odts, allocs_entries, found}
use Rattle.demands.specs.Between.{changes_seed, changes_mta, changes_pool}

-- ---- what UNLOCK leans on; the MTA; what an allocation leans on: lists that rest go on resting, and lists that are unlocked stay so
pub record SeedKept (c d : Session) : Type 0 where
  pub generator : d.generator ≡ c.generator
  pub seed : d.seed ≡ c.seed
  pub unlocked : d.unlocked ≡ c.unlocked

abbrev pub MtaKept : Session → Session → Type 0
MtaKept c d = d.mta ≡ c.mta

pub record PoolKept (c d : Session) : Type 0 where
  pub unlocked : c.unlocked Lists ≡ true → d.unlocked Lists ≡ true
  pub freed : d.freed ≡ c.freed
  pub lists : d.lists ≡ c.lists
  pub odts : (l : ℕ) → (d.list l).odts ≡ (c.list l).odts
  pub entry_counts : (l o : ℕ) → ((d.list l).odt o).entries ≡ ((c.list l).odt o).entries
  pub still : (l : ℕ) → (c.list l).started ≡ false → (d.list l).started ≡ false

-- of packet p, answered a, that leads from session c to d
pub record Leaves (p a : List ℕ) (c d : Session) : Type 0 where
  pub seed : changes_seed p a ≡ false → SeedKept c d
  pub mta : changes_mta p a ≡ false → MtaKept c d
  pub pool : changes_pool p a ≡ false → PoolKept c d

-- ---- a list with the ODTs and entries that it had, and not started
record Settled (x y : DaqList) : Type 0 where
  odts : y.odts ≡ x.odts
  entry_counts : (o : ℕ) → (y.odt o).entries ≡ (x.odt o).entries
  still : x.started ≡ false → y.started ≡ false

settled_self : (x : DaqList) → Settled x x
settled_self x = record { odts = refl; entry_counts = λ o. refl; still = λ e. e }

-- stopped if it was selected; one entry set; one list changed
settled_stop : (x : DaqList) → Settled x (stop_if_selected x)
settled_stop x =
    cond_ind (λ (y : DaqList). Settled x (select false y)) x.selected
    (λ _. record { odts = refl; entry_counts = λ o. refl; still = λ _. refl }) (λ _. record { odts = refl; entry_counts = λ o. refl; still = λ e. e })

settled_entry : (o e : ℕ) (y : Entry) (x : DaqList) → Settled x (set_entry o e y x)
unfolding put
settled_entry o e y x = record {
  odts = refl;
  entry_counts = λ k. cond_ind (λ (z : Odt). z.entries ≡ (x.odt k).entries) (eqb k o) (λ t. ap (λ (i : ℕ). (x.odt i).entries) (sym (eqb-true k o t))) (λ _. refl);
  still = λ _. refl;
}

settled_at : (l : ℕ) (y : DaqList) (f : ℕ → DaqList) → Settled (f l) y → (j : ℕ) → Settled (f j) (put l y f j)
unfolding put
settled_at l y f w j = cond_ind (Settled (f j)) (eqb j l) (λ t. subst (λ (i : ℕ). Settled (f i) y) (sym (eqb-true j l t)) w) (λ _. settled_self (f j))

-- lists that are unlocked stay so
opened_stays : (r : Resource) (f : Resource → Bool) → f Lists ≡ true → unlock r f Lists ≡ true
opened_stays Calibration f e = e
opened_stays Lists f e = refl

-- ---- what a change leaves
module _ (c : Session) where
  -- parts that UNLOCK does not lean on, and parts that no allocation does
  seed_beside : {w : ℕ} {o : Bool} {m : Mta} {q : Pointer} {b : Bool} {n k : ℕ} {f : ℕ → DaqList}
      → SeedKept c (record { generator = c.generator; wrong_keys = w; opened = o; unlocked = c.unlocked; seed = c.seed; mta = m; pointer = q; freed = b; lists = n; round = k; list = f })
  seed_beside = record { generator = refl; seed = refl; unlocked = refl }

  pool_beside : {g w : ℕ} {o : Bool} {x : Seed} {m : Mta} {q : Pointer} {k : ℕ}
      → PoolKept c (record { generator = g; wrong_keys = w; opened = o; unlocked = c.unlocked; seed = x; mta = m; pointer = q; freed = c.freed; lists = c.lists; round = k; list = c.list })
  pool_beside = record { unlocked = λ e. e; freed = refl; lists = refl; odts = λ l. refl; entry_counts = λ l o. refl; still = λ l e. e }

module _ (p a : List ℕ) (c : Session) where
  changed : {A : Type 0} {t : Bool} → t ≡ true → t ≡ false → A
  changed e n = cc

  stays : Leaves p a c c
  stays = record { seed = λ _. seed_beside c; mta = λ _. refl; pool = λ _. pool_beside c }

  ends : (d : Session) → ends_session p a ≡ true → Leaves p a c d
  ends d e = record { seed = changed (or_left (ends_session p a) _ e); mta = changed (or_left (ends_session p a) _ e); pool = changed (or_left (ends_session p a) _ e) }

  seeds : (g : ℕ) (x : Seed) → changes_seed p a ≡ true → Leaves p a c (with_seed (with_generator c g) x)
  seeds g x e = record { seed = changed e; mta = λ _. refl; pool = λ _. pool_beside c }

  opens : (r : Resource) (x : Seed) → changes_seed p a ≡ true → Leaves p a c (with_seed (with_lock c r) x)
  opens r x e = record {
    seed = changed e;
    mta = λ _. refl;
    pool = λ _. record { unlocked = opened_stays r c.unlocked; freed = refl; lists = refl; odts = λ l. refl; entry_counts = λ l o. refl; still = λ l u. u };
  }

  places : (m : Mta) → changes_mta p a ≡ true → Leaves p a c (with_mta c m)
  places m e = record { seed = λ _. seed_beside c; mta = changed e; pool = λ _. pool_beside c }

  settles : (q : Pointer) (f : ℕ → DaqList) → ((l : ℕ) → Settled (c.list l) (f l)) → Leaves p a c (with_pointer (with_lists c f) q)
  settles q f w = record {
    seed = λ _. seed_beside c;
    mta = λ _. refl;
    pool = λ _. record { unlocked = λ u. u; freed = refl; lists = refl; odts = λ l. (w l).odts; entry_counts = λ l o. (w l).entry_counts o; still = λ l. (w l).still };
  }

  settles_at : (q : Pointer) (l : ℕ) (y : DaqList) → Settled (c.list l) y → Leaves p a c (with_pointer (with_lists c (put l y c.list)) q)
  settles_at q l y w = settles q (put l y c.list) (settled_at l y c.list w)

  -- the lists, their number, their round and the pointer are any
  takes : (q : Pointer) (b : Bool) (n k : ℕ) (f : ℕ → DaqList) → changes_pool p a ≡ true
      → Leaves p a c (record { generator = c.generator; wrong_keys = c.wrong_keys; opened = c.opened; unlocked = c.unlocked; seed = c.seed; mta = c.mta; pointer = q; freed = b; lists = n; round = k; list = f })
  takes q b n k f e = record { seed = λ _. seed_beside c; mta = λ _. refl; pool = changed e }

-- ---- what a deed leaves, by the verdict that led to it
module _ (p t cal meas : List ℕ) (h : length t ≡ size) where
  abbrev c : Session
  c = session_of t

  abbrev Left : Deed → Type 0
  Left d = Leaves p (reply_in d c cal meas) c (session_of (effect d t))

  -- where its numbers fit, it shows what it makes of the session
  shows : (d : Deed) → Doable d c (length p) (length cal) (length meas) → Fit d (generator_of t) (wrong_keys_of t) → Leaves p (reply_in d c cal meas) c (step_in d c) → Left d
  shows d can fit w = subst (Leaves p (reply_in d c cal meas) c) (sym (session_effect d t (length p) (length cal) (length meas) h can fit)) w

  -- a seed and an address are known up to what their bytes hold
  given : (r : Resource) → changes_seed p (reply_in (deed.GiveSeed r) c cal meas) ≡ true → Left (deed.GiveSeed r)
  unfolding effect
  given r e =
      let u : List ℕ = set_generator t (next_of (generator_of t)) in
      let is : session_of (set_seed u (Some r)) ≡ with_seed (with_generator c (generator_of u)) (seed_of (set_seed u (Some r))) =
      in_seed (only_seed u (Some r)) ∙ ap (λ (x : Session). with_seed x (seed_of (set_seed u (Some r)))) (in_generator (only_generator t (next_of (generator_of t)))) in
      subst (Leaves p (reply_in (deed.GiveSeed r) c cal meas) c) (sym is) (seeds p _ c (generator_of u) (seed_of (set_seed u (Some r))) e)

  moved : (m : Mta) (a : List ℕ) → changes_mta p a ≡ true → Leaves p a c (session_of (set_mta t m))
  moved m a e = subst (Leaves p a c) (sym (in_mta (only_mta t m))) (places p a c (mta_of (set_mta t m)) e)

  by_verdict : (x : Command) (d : Deed) → Coded (byte p 0) x → Verdict (numbers_of p) (seen_in (u16_at p 2) (byte p 4) c) (length cal) (length meas) x d
      → Doable d c (length p) (length cal) (length meas) → Left d
  unfolding step_in reply_in effect
  by_verdict _ _ o (refused x r) can = stays p _ c
  by_verdict _ _ o connects can = ends p _ c _ (rw o)
  by_verdict _ _ o disconnects can = ends p _ c _ (rw o)
  by_verdict _ _ o tells can = stays p _ c
  by_verdict _ _ o synchs can = stays p _ c
  by_verdict _ _ o no_seed_lem can = stays p _ c
  by_verdict _ _ o (gives r still) can = given r (rw o)
  by_verdict _ _ o (unlocks r w k) can = shows (deed.Unlock r) can tt (opens p _ c r None (or_right (ends_session p (reply_in (deed.Unlock r) c cal meas)) _ (rw o)))
  by_verdict _ _ o (wrong r w k) can = ends p _ c _ (rw o)
  by_verdict _ _ o sets can = moved _ _ (rw o)
  by_verdict _ _ o (uploads x a there inside) can = moved _ _ (rw o)
  by_verdict _ _ o (shorts inside) can = moved _ _ (rw o)
  by_verdict _ _ o no_size_lem can = stays p _ c
  by_verdict _ _ o (sums x a there inside) can = moved _ _ (rw o)
  by_verdict _ _ o (downloads a free there long inside) can = moved _ _ (rw o)
  by_verdict _ _ o (short_downloads free named long inside) can = moved _ _ (rw o)
  by_verdict _ _ o (clears free list still) can = shows (deed.ClearList (u16_at p 2)) can tt (settles_at p _ c c.pointer (u16_at p 2) _ (record { odts = refl; entry_counts = λ i. refl; still = λ _. refl }))
  by_verdict _ _ o (points free list odt entry) can = shows (deed.SetPointer (u16_at p 2) (byte p 4) (byte p 5)) can tt (settles p _ c _ c.list (λ l. settled_self (c.list l)))
  by_verdict _ _ o (zeroes l i e free w) can = shows (deed.ClearEntry l i e) can tt (settles_at p _ c _ l _ (settled_entry i e no_entry (c.list l)))
  by_verdict _ _ o (writes l i e free w some inside) can =
      shows (deed.WriteEntry l i e (byte p 2) (extension_from (byte p 3)) (u32_at p 4)) can (inside.0, entry_low (u32_at p 4) (byte p 2) _ some inside.1) (settles_at p _ c _ l _ (settled_entry i e _ (c.list l)))
  by_verdict _ _ o (modes free list event still) can =
      shows (deed.SetMode (u16_at p 2) (u16_at p 4)) can tt (settles_at p _ c c.pointer (u16_at p 2) _ (record { odts = refl; entry_counts = λ i. refl; still = λ _. refl }))
  by_verdict _ _ o (stops free list) can = shows (deed.Stop (u16_at p 2)) can tt (settles_at p _ c c.pointer (u16_at p 2) _ (record { odts = refl; entry_counts = λ i. refl; still = λ _. refl }))
  by_verdict _ _ o (starts free list mode still fit) can = shows (deed.Start (u16_at p 2)) can tt (takes p _ c _ _ _ _ _ (rw (o, mode)))
  by_verdict _ _ o (goes_on_lem free list) can = stays p _ c
  by_verdict _ _ o (selects free list) can = shows (deed.Select (u16_at p 2)) can tt (settles_at p _ c c.pointer (u16_at p 2) _ (record { odts = refl; entry_counts = λ i. refl; still = λ e. e }))
  by_verdict _ _ o (stops_all_lem free) can = shows deed.StopAll can tt (settles p _ c c.pointer _ (λ l. record { odts = refl; entry_counts = λ i. refl; still = λ _. refl }))
  by_verdict _ _ o (starts_all free mode ready) can = shows deed.StartSelected can tt (takes p _ c _ _ _ _ _ (rw (o, mode)))
  by_verdict _ _ o (stops_some free) can = shows deed.StopSelected can tt (settles p _ c c.pointer _ (λ l. settled_stop (c.list l)))
  by_verdict _ _ o processor can = stays p _ c
  by_verdict _ _ o resolution can = stays p _ c
  by_verdict _ _ o (frees free) can = shows deed.FreeLists can tt (takes p _ c _ _ _ _ _ (rw o))
  by_verdict _ _ o (allocs_lists free freed none some few) can = shows (deed.AllocLists (u16_at p 2)) can tt (takes p _ c _ _ _ _ _ (rw o))
  by_verdict _ _ o (allocs_odts free list none unused still some room) can = shows (deed.AllocOdts (u16_at p 2) (byte p 4)) can tt (takes p _ c _ _ _ _ _ (rw o))
  by_verdict _ _ o (allocs_entries free odt none still some room) can = shows (deed.AllocEntries (u16_at p 2) (byte p 4) (byte p 5)) can tt (takes p _ c _ _ _ _ _ (rw o))

  pub judged_leaves : Doable (judge_in p c (length cal) (length meas)) c (length p) (length cal) (length meas) → Left (judge_in p c (length cal) (length meas))
  unfolding judge_in
  judged_leaves can = by_verdict (command_of (byte p 0)) _ (coded (byte p 0)) (found (numbers_of p) (seen_in (u16_at p 2) (byte p 4) c) (length cal) (length meas)) can
