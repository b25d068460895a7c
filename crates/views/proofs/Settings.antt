-- A change outside the bytes of the lists' settings leaves them. Assumes nothing.
use Rattle.std.proofs.Common.{◌≡◌, ℕ, ◌+◌, ◌<◌, ltb, List, ap, ◌∙◌, arith, ltb-true}
use Rattle.state.specs.Layout.{lists, all_odts, session_at, selected_at, running_at, sample_at}
use Rattle.state.specs.Pool.{list_count, first_odt, odt_count}
use Rattle.state.proofs.Allocated.{lists_most, odt_most_lem, entry_most_lem}
use Rattle.fields.proofs.Readers.{Same, same_part, same_within, flag_reads, pointer_reads, list_count_reads, odt_count_reads, entry_count_reads, entries_own}
use Rattle.model.specs.Model.{up_to, Entry, Odt, DaqList}
use Rattle.model.specs.View.{odt_of, daq_of, lists_of, session_of}
use Rattle.views.specs.Locked.{SettingsKept}
use Rattle.model.proofs.Bounded.{either}
use Rattle.views.proofs.Parts.{Stays, mode_own, odts_as, freed_reads}

module _ {s t : List ℕ} (w : Same session_at (sample_at 0) s t) where
  stays : Stays s t
  stays = same_within tt w

  -- of a list that there is, and of one that there is not
  of_list : {A : Type 0} (f : DaqList → A) (l : ℕ) → (l < lists → f (daq_of t l) ≡ f (daq_of s l)) → f (lists_of t l) ≡ f (lists_of s l)
  unfolding lists_of up_to
  of_list f l h =
      rw (list_count_reads stays)
      (either (ltb l (list_count s)) (λ b. let there : l < list_count s = ltb-true l (list_count s) b in rw b (h (omega (arith, lists_most s)))) (λ b. rw b))

  -- so of an ODT
  of_odt : {A : Type 0} (f : Odt → A) (l o : ℕ) → ((k : ℕ) → k < all_odts → f (odt_of t k) ≡ f (odt_of s k)) → l < lists → f ((daq_of t l).odt o) ≡ f ((daq_of s l).odt o)
  unfolding up_to
  of_odt f l o h few =
      ap (λ (g : ℕ → Odt). f (g o)) (odts_as stays l few)
      ∙ either (ltb o (odt_count s l)) (λ b. let its : o < odt_count s l = ltb-true o (odt_count s l) b in rw b (h (first_odt s l + o) (omega (arith, odt_most_lem s l)))) (λ b. rw b)

  of_entry : (e k : ℕ) → k < all_odts → (odt_of t k).entry e ≡ (odt_of s k).entry e
  of_entry e k h = ap (λ (f : ℕ → Entry). f e) (entries_own stays k h (same_part (omega arith) (omega (arith, entry_most_lem s k)) w))

  pub settings_read : SettingsKept (session_of s) (session_of t)
  unfolding session_of
  settings_read = record {
    pointer = pointer_reads (same_within tt w);
    freed = freed_reads stays;
    lists = list_count_reads stays;
    modes = λ l. of_list (λ x. x.mode) l (λ h. mode_own l (same_part (omega arith) (omega arith) w));
    selected = λ l. of_list (λ x. x.selected) l (λ h. flag_reads (selected_at l) (same_part (omega arith) (omega arith) w));
    started = λ l. of_list (λ x. x.started) l (λ h. flag_reads (running_at l) (same_part (omega arith) (omega arith) w));
    odts = λ l. of_list (λ x. x.odts) l (λ h. odt_count_reads stays l h);
    entry_counts = λ l o. of_list (λ x. (x.odt o).entries) l (of_odt (λ y. y.entries) l o (entry_count_reads stays));
    entries = λ l o e. of_list (λ x. (x.odt o).entry e) l (of_odt (λ y. y.entry e) l o (of_entry e));
  }
