-- Commands done by the model obey every law of document 01's list; and so does any way of commands that leads nowhere else. Assumes nothing.
use Rattle.std.proofs.Common.{◌≡◌, ℕ, List, length, sym, ap, ◌∙◌, subst}
use Rattle.model.specs.Model.{byte, Session}
use Rattle.model.specs.Judge.{judge_in}
use Rattle.model.specs.Answers.{Done, command_in}
use Rattle.views.specs.Commands.{Way, Law, SYNCH, WRONG_KEY, Obeys}
use Rattle.views.proofs.Listed.{Listed}
use Rattle.views.proofs.Taken.{Taken, Leads}
use Rattle.views.proofs.SessionLaws.{connect, disconnect, get_status_lem, synch, get_seed_lem, unlock_law, processor_info, resolution_info}
use Rattle.views.proofs.WrongKeys.{wrong_key_lem}
use Rattle.views.proofs.MemoryLaws.{set_mta_lem, upload, short_upload_lem, build_checksum_lem, download, short_download_lem}
use Rattle.views.proofs.ListLaws.{clear_daq_list_lem, set_daq_ptr_lem, write_daq_lem, set_daq_list_mode_lem, start_stop_daq_list_lem, start_stop_synch_lem, free_daq_lem, alloc_daq_lem, alloc_odt_lem, alloc_odt_entry_lem}

-- what a way leads to is what the model does, from a session with nothing beyond its lists
pub record AsModel (R : Way) : Type 0 where
  pub listed : (p : List ℕ) (c : Session) (cal meas : List ℕ) (o : Done) → R p c cal meas o → Listed c
  pub same : (p : List ℕ) (c : Session) (cal meas : List ℕ) (o : Done) → R p c cal meas o → o ≡ command_in p c cal meas

module _ (R : Way) (way : AsModel R) where
  abbrev same : (p : List ℕ) (c : Session) (cal meas : List ℕ) (o : Done) → R p c cal meas o → o ≡ command_in p c cal meas
  same = way.same

  listed_law : (code : ℕ) (W : Way)
      → ((p : List ℕ) (c : Session) (cal meas : List ℕ) → Listed c → byte p 0 ≡ code → Taken p c cal meas (judge_in p c (length cal) (length meas)) → Leads W p c cal meas (judge_in p c (length cal) (length meas)))
      → Law R code W
  listed_law code W f p c cal meas o r e t =
      subst (W p c cal meas) (sym (same p c cal meas o r)) (f p c cal meas (way.listed p c cal meas o r) e (ap (λ (x : Done). byte x.answer 0) (sym (same p c cal meas o r)) ∙ t))

  law : (code : ℕ) (W : Way)
      → ((p : List ℕ) (c : Session) (cal meas : List ℕ) → byte p 0 ≡ code → Taken p c cal meas (judge_in p c (length cal) (length meas)) → Leads W p c cal meas (judge_in p c (length cal) (length meas)))
      → Law R code W
  law code W f = listed_law code W (λ p c cal meas _. f p c cal meas)

  pub obeys : Obeys R
  obeys = record {
    connect = law 0xFF _ connect;
    disconnect = law 0xFE _ disconnect;
    get_status = law 0xFD _ get_status_lem;
    synch = λ p c cal meas o r e. subst (SYNCH p c cal meas) (sym (same p c cal meas o r)) (synch p c cal meas e);
    get_seed = law 0xF8 _ get_seed_lem;
    unlock = law 0xF7 _ unlock_law;
    wrong_key = λ p c cal meas o r e f t.
        let said : (i : ℕ) → byte (command_in p c cal meas).answer i ≡ byte o.answer i = λ i. ap (λ (x : Done). byte x.answer i) (sym (same p c cal meas o r)) in
        subst (WRONG_KEY p c cal meas) (sym (same p c cal meas o r)) (wrong_key_lem p c cal meas e (said 0 ∙ f) (said 1 ∙ t));
    set_mta = law 0xF6 _ set_mta_lem;
    upload = law 0xF5 _ upload;
    short_upload = law 0xF4 _ short_upload_lem;
    build_checksum = law 0xF3 _ build_checksum_lem;
    download = law 0xF0 _ download;
    short_download = law 0xED _ short_download_lem;
    clear_daq_list = law 0xE3 _ clear_daq_list_lem;
    set_daq_ptr = law 0xE2 _ set_daq_ptr_lem;
    write_daq = law 0xE1 _ write_daq_lem;
    set_daq_list_mode = law 0xE0 _ set_daq_list_mode_lem;
    start_stop_daq_list = law 0xDE _ start_stop_daq_list_lem;
    start_stop_synch = law 0xDD _ start_stop_synch_lem;
    get_daq_processor_info = law 0xDA _ processor_info;
    get_daq_resolution_info = law 0xD9 _ resolution_info;
    free_daq = law 0xD6 _ free_daq_lem;
    alloc_daq = law 0xD5 _ alloc_daq_lem;
    alloc_odt = law 0xD4 _ alloc_odt_lem;
    alloc_odt_entry = listed_law 0xD3 _ alloc_odt_entry_lem;
  }
