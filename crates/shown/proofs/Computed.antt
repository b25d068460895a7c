-- One name for every definition of the slave: where it is unfolded, a run at given bytes computes. Assumes nothing.
use Rattle.model.specs.Heed.{good_connect, heeding_in}
use Rattle.model.specs.Judge.{judge_in, connect_deed, get_seed_deed, unlock_by, set_mta_deed, upload_deed, short_upload_deed, checksum_deed, download_to, download_deed, short_download_deed, clear_deed, pointer_deed, write_block, write_deed, mode_deed, start_deed, start_stop_deed, synch_deed, alloc_lists_deed, alloc_odts_deed, alloc_entries_deed, judge_the, judge_by, judge, all_startable}
use Rattle.model.specs.Answers.{reply_in, writes}
use Rattle.model.specs.View.{session_of, lists_of, view_of}
use Rattle.line.specs.Reader.{take_of}
use Rattle.line.specs.Writer.{write_of}
use Rattle.state.specs.Bytes.{u16_at, u32_at, put32, copied, cleared}
use Rattle.state.specs.Ranges.{start_in}
use Rattle.state.specs.Pool.{phase_of, round_of}
use Rattle.state.specs.Generator.{next_of, start_of, key_of}
use Rattle.state.specs.Memory.{inside_of, block_sum, byte_of, bytes_of}
use Rattle.state.specs.State.{consistent, flag_of, generator_of, set_generator, wrong_keys_of, counted_wrong, mask_of, seed_of, set_seed, mta_of, set_mta, pointer_of, set_pointer, dropped, closed, fresh, place_of, set_place, message_of, set_message, answer_length, answer_kind, answer_of, answered}
use Rattle.state.specs.Lists.{size_of, extension_of, address_of, mode_of, stored_length}
use Rattle.lists.specs.Lists.{switched, list_cleared, mode_set, entry_set, stop_each, start_selected, stop_selected}
use Rattle.lists.specs.Alloc.{lists_allocated, odts_allocated, room_made, entries_allocated}
use Rattle.words.specs.Command.{command_of}
use Rattle.model.specs.Step.{next_entry}
use Rattle.session.specs.Perform.{effect}
use Rattle.session.specs.Receive.{heeded, meant, read_on, receive_of}
use Rattle.lists.specs.Event.{stored, captured_odts, sampled_state, tally, event_of}
use Rattle.lists.specs.Slot.{answer_sent, packet_sent, sent_by, slot_of}
use Rattle.model.specs.Model.{up_to, put, odts_before, entries_of, entries_before, sizes_of, all_bytes, each_fits, fits, runs, some_runs, some_started, some_packet, in_stores, waiting}
use Rattle.model.specs.Calls.{first_packet, packet_in, round_from, turn_in, sampling_in, blocks_in, taken, contents_in, sample_from, packet_from}
use Rattle.session.specs.PowerUp.{powered, power_up_of}
use Rattle.views.specs.Faults.{table, first_fault}
use Rattle.demands.specs.Heard.{heeds, brings_key, wrong_key_by}

unfoldable pub computed : Unit {0}
unfolding take_of write_of u16_at u32_at put32 copied cleared start_in phase_of round_of next_of start_of key_of inside_of block_sum byte_of bytes_of consistent flag_of generator_of set_generator wrong_keys_of counted_wrong mask_of seed_of set_seed mta_of set_mta pointer_of set_pointer closed fresh place_of set_place message_of set_message answer_length answer_kind answer_of answered size_of extension_of address_of mode_of stored_length up_to put odts_before entries_of entries_before sizes_of all_bytes each_fits fits runs some_runs some_started some_packet in_stores waiting lists_of session_of view_of dropped switched list_cleared mode_set entry_set stop_each start_selected stop_selected lists_allocated odts_allocated room_made entries_allocated command_of connect_deed get_seed_deed unlock_by set_mta_deed upload_deed short_upload_deed checksum_deed download_to download_deed short_download_deed clear_deed pointer_deed write_block write_deed mode_deed start_deed start_stop_deed synch_deed alloc_lists_deed alloc_odts_deed alloc_entries_deed judge_the judge_by judge all_startable judge_in next_entry effect reply_in writes good_connect heeding_in heeded meant read_on receive_of sampling_in blocks_in taken contents_in sample_from stored captured_odts sampled_state tally event_of first_packet packet_in round_from turn_in packet_from answer_sent packet_sent sent_by slot_of powered power_up_of heeds brings_key wrong_key_by
computed = tt

-- and of the table of checks
unfoldable pub told : Unit {0}
unfolding table first_fault
told = tt
