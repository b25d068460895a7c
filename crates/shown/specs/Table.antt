-- The bench sheet: its starred cases, each with what the definitions come to and what the sheet says, as bytes.
use Rattle.std.specs.Prelude.{ℕ, zero, suc, ◌≡◌, List, [], ◌∷◌, ◌++◌, set, replicate}
use Rattle.line.specs.Message.{frame}
use Rattle.state.specs.Layout.{ctr_at, addressable}
use Rattle.state.specs.Bytes.{bytes32}
use Rattle.state.specs.Generator.{key_of}
use Rattle.model.specs.Answers.{reply_in}
use Rattle.model.specs.Judge.{judge_in}
use Rattle.model.specs.View.{session_of}
use Rattle.session.specs.PowerUp.{powered}
use Rattle.words.specs.declared.Resource.TheVariants.{Calibration, Lists}
use Rattle.demands.specs.Slave.{ours}
use Rattle.demands.specs.Runs.{Call, Event, run, frames}
use Rattle.demands.specs.Waiting.{packet_read}
use Rattle.shown.specs.Exchange.{slot, bytes, asks, ask_all, begun, reached, connect, synch, seed_of_calibration, seed_of_lists, key_of_calibration, key_of_lists, mta_to, upload_first, writable, with_lists, alloc_entries, point_to, entry_command, on_event0, start}

pub record BenchRow : Type 0 where
  pub number : ℕ
  pub comes_to : List ℕ
  pub sheet : List ℕ

abbrev pub bench_row : ℕ → List ℕ → List ℕ → BenchRow
bench_row n got told = record { number = n; comes_to = got; sheet = told }

-- the last frame that ours sends in a run from state s; the packet in it, most often an answer
abbrev pub last_frame : List (List ℕ) → List ℕ
last_frame [] = []
last_frame (f ∷ []) = f
last_frame (f ∷ g ∷ fs) = last_frame (g ∷ fs)

abbrev pub sent_from : List ℕ → List Call → List ℕ
sent_from s cs = last_frame (frames ours s cs)

abbrev pub sent : List Call → List ℕ
sent cs = sent_from (powered 1) cs

abbrev pub answer : List Call → List ℕ
answer cs = packet_read (sent cs)

-- n bytes that count on from a
abbrev pub counted_on : ℕ → ℕ → List ℕ
counted_on a zero = []
counted_on a (suc n) = a ∷ counted_on (suc a) n

-- DOWNLOAD of n, with 62 bytes of data
abbrev pub data62 : List ℕ
data62 = counted_on 1 62

abbrev pub download : ℕ → List ℕ
download n = 0xF0 ∷ n ∷ data62

-- calibration unlocked and the MTA at an address with these low bytes
abbrev pub writable_at : ℕ → ℕ → List ℕ
writable_at a b = reached ours (writable ++ asks [] [] (mta_to a b))

-- the same, with DOWNLOAD of 62 but for its last byte
abbrev pub begun62_at : ℕ → ℕ → List ℕ
begun62_at a b = run ours (writable_at a b) (begun [] [] (download 62))

-- the answer to DOWNLOAD of 62 with 4,096 bytes lent
abbrev pub answer62_at : ℕ → ℕ → List ℕ
answer62_at a b = reply_in (judge_in (download 62) (session_of (writable_at a b)) addressable 0) (session_of (writable_at a b)) [] []

-- of four lists of two ODTs, the start of list 0, whose ODT 0 has fifteen entries of 4 bytes and one of n
abbrev pub start_with : ℕ → List Call
start_with n = with_lists 4 ++ ask_all [] (replicate 4 0) (alloc_entries 0 0 16 ∷ point_to 0 0 0 ∷ (replicate 15 (entry_command 4) ++ entry_command n ∷ on_event0 0 ∷ start 0 ∷ []))

-- of four lists of two ODTs list 1, with two bytes, runs
abbrev pub weighing : List Call
weighing = with_lists 4 ++ ask_all [] (0x64 ∷ 0x00 ∷ []) (alloc_entries 1 0 1 ∷ point_to 1 0 0 ∷ entry_command 2 ∷ on_event0 1 ∷ start 1 ∷ [])

-- CONNECT and its answer
abbrev pub connect_frame : ℕ → BenchRow
connect_frame number = bench_row number (frame 0 connect) (0x9A ∷ 0x02 ∷ 0x00 ∷ 0xFF ∷ 0x00 ∷ 0x01 ∷ [])

abbrev pub connect_answer : ℕ → BenchRow
connect_answer number = bench_row number (sent (asks [] [] connect)) (0x9A ∷ 0x08 ∷ 0x00 ∷ 0xFF ∷ 0x05 ∷ 0x00 ∷ 0x40 ∷ 0x40 ∷ 0x00 ∷ 0x01 ∷ 0x01 ∷ 0x8E ∷ [])

-- SYNCH at CTR 1 and its answer
abbrev pub synch_frame : ℕ → BenchRow
synch_frame number = bench_row number (frame 1 synch) (0x9A ∷ 0x01 ∷ 0x01 ∷ 0xFC ∷ 0xFE ∷ [])

abbrev pub synch_answer : ℕ → BenchRow
synch_answer number = bench_row number (sent (asks [] [] connect ++ (bytes [] [] (frame 1 synch) ++ slot ∷ []))) (0x9A ∷ 0x02 ∷ 0x01 ∷ 0xFE ∷ 0x00 ∷ 0x01 ∷ [])

-- the packet FF 9A at CTR 2: SHORT_UPLOAD of a byte 9A
abbrev pub escaped_packet : ℕ → BenchRow
escaped_packet number = bench_row number (sent (ask_all (0x9A ∷ []) [] (connect ∷ synch ∷ upload_first ∷ []))) (0x9A ∷ 0x02 ∷ 0x02 ∷ 0xFF ∷ 0x9B ∷ 0x01 ∷ 0x9D ∷ [])

-- the packet FF at CTR 9A: SET_MTA in a session with that CTR
abbrev pub escaped_ctr : ℕ → BenchRow
escaped_ctr number = bench_row number (sent_from (set (reached ours (asks [] [] connect)) ctr_at 0x9A) (asks [] [] (mta_to 0 0))) (0x9A ∷ 0x01 ∷ 0x9B ∷ 0x01 ∷ 0xFF ∷ 0x9B ∷ 0x01 ∷ [])

-- start 1: the seed 0x00042021; its key to calibration, and the lock that is left
abbrev pub seed_given : ℕ → BenchRow
seed_given number = bench_row number (answer (ask_all [] [] (connect ∷ seed_of_calibration ∷ []))) (0xFF ∷ 0x04 ∷ 0x21 ∷ 0x20 ∷ 0x04 ∷ 0x00 ∷ [])

abbrev pub calibration_key : ℕ → BenchRow
calibration_key number = bench_row number (bytes32 (key_of Calibration 0x00042021)) (0x00 ∷ 0x7F ∷ 0xF0 ∷ 0x04 ∷ [])

abbrev pub calibration_opens : ℕ → BenchRow
calibration_opens number = bench_row number (answer (ask_all [] [] (connect ∷ seed_of_calibration ∷ key_of_calibration ∷ []))) (0xFF ∷ 0x04 ∷ [])

-- the same seed's key to lists, 0x04FA2100, and the lock that is left
abbrev pub lists_key : ℕ → BenchRow
lists_key number = bench_row number (bytes32 (key_of Lists 0x00042021)) (0x00 ∷ 0x21 ∷ 0xFA ∷ 0x04 ∷ [])

abbrev pub lists_open : ℕ → BenchRow
lists_open number = bench_row number (answer (ask_all [] [] (connect ∷ seed_of_lists ∷ key_of_lists ∷ []))) (0xFF ∷ 0x01 ∷ [])

-- list 1, clock 0x1234, bytes 64 00: the packet, as it goes after fourteen answers; and its frame in a session with CTR 9
abbrev pub weight : List Call
weight = Event [] (0x64 ∷ 0x00 ∷ []) 0 0x1234 ∷ slot ∷ []

abbrev pub weight_packet : ℕ → BenchRow
weight_packet number = bench_row number (answer (weighing ++ weight)) (0x02 ∷ 0x34 ∷ 0x12 ∷ 0x64 ∷ 0x00 ∷ [])

abbrev pub weight_sent : ℕ → BenchRow
weight_sent number = bench_row number (sent_from (set (reached ours weighing) ctr_at 9) weight) (0x9A ∷ 0x05 ∷ 0x09 ∷ 0x02 ∷ 0x34 ∷ 0x12 ∷ 0x64 ∷ 0x00 ∷ 0xBA ∷ [])

-- DOWNLOAD of 62 at 4,034 and at 4,035
abbrev pub download62_done : ℕ → BenchRow
download62_done number = bench_row number (answer62_at 0xC2 0x0F) (0xFF ∷ [])

abbrev pub download62_refused : ℕ → BenchRow
download62_refused number = bench_row number (answer62_at 0xC3 0x0F) (0xFE ∷ 0x24 ∷ [])

-- DOWNLOAD of 63
abbrev pub download63_refused : ℕ → BenchRow
download63_refused number = bench_row number (answer (writable ++ ask_all [] [] (mta_to 0 0 ∷ download 63 ∷ []))) (0xFE ∷ 0x22 ∷ [])

-- ODT 0 of 61 bytes and of 62
abbrev pub odt61_starts : ℕ → BenchRow
odt61_starts number = bench_row number (answer (start_with 1)) (0xFF ∷ 0x00 ∷ [])

abbrev pub odt62_refused : ℕ → BenchRow
odt62_refused number = bench_row number (answer (start_with 2)) (0xFE ∷ 0x2A ∷ [])

abbrev pub bench_table : List BenchRow
bench_table =
    connect_frame 1
    ∷ connect_answer 1
    ∷ synch_frame 2
    ∷ synch_answer 2
    ∷ escaped_packet 3
    ∷ escaped_ctr 4
    ∷ seed_given 5
    ∷ calibration_key 5
    ∷ calibration_opens 5
    ∷ lists_key 6
    ∷ lists_open 6
    ∷ weight_packet 7
    ∷ weight_sent 7
    ∷ download62_done 8
    ∷ download62_refused 8
    ∷ download63_refused 9
    ∷ odt61_starts 10
    ∷ odt62_refused 10
    ∷ []

-- a row comes to what the sheet says, and every row does
abbrev pub Agrees : BenchRow → Type 0
Agrees r = r.comes_to ≡ r.sheet

abbrev pub Holds : List BenchRow → Type 0
Holds [] = Unit {0}
Holds (r ∷ rs) = Agrees r × Holds rs
