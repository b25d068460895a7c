-- Every starred case of the bench sheet, by computation. Assumes nothing.
use Rattle.std.proofs.Common.{◌≡◌, ℕ, Bool, true, false, List, [], ◌∷◌, length, refl, sym, ap, ◌∙◌, subst, Option, Some}
use Rattle.std.proofs.Math.Seq.{sets}
use Rattle.state.specs.Layout.{addressable}
use Rattle.state.specs.State.{consistent}
use Rattle.session.specs.Receive.{obeyed}
use Rattle.model.specs.Judge.{judge_in}
use Rattle.model.specs.Model.{has_answer}
use Rattle.model.specs.View.{session_of, view_of}
use Rattle.model.specs.declared.Deed.{Deed}
use Rattle.model.specs.declared.Deed.TheVariants.{Refuse, Download}
use Rattle.words.specs.declared.Reason.TheVariants.{NotInside}
use Rattle.demands.specs.Slave.{AnySlave}
use Rattle.demands.specs.Heard.{packet_ended, read_by}
use Rattle.demands.specs.Demand2.{Demand2}
use Rattle.shown.specs.Exchange.{last_byte}
use Rattle.shown.specs.Table.{Agrees, Holds, connect_frame, connect_answer, synch_frame, synch_answer, escaped_packet, escaped_ctr, seed_given, calibration_key, calibration_opens, lists_key, lists_open, weight_packet, weight_sent, download62_done, download62_refused, download63_refused, odt61_starts, odt62_refused, bench_table, data62, download, begun62_at}
use Rattle.demands.proofs.Received.{received_by_lem, commanded}
use Rattle.shown.proofs.Computed.{computed}

-- ---- row by row
connect_frame_lem : Agrees (connect_frame 1)
unfolding computed
connect_frame_lem = refl

connect_answer_lem : Agrees (connect_answer 1)
unfolding computed
connect_answer_lem = refl

synch_frame_lem : Agrees (synch_frame 2)
unfolding computed
synch_frame_lem = refl

synch_answer_lem : Agrees (synch_answer 2)
unfolding computed
synch_answer_lem = refl

escaped_packet_lem : Agrees (escaped_packet 3)
unfolding computed
escaped_packet_lem = refl

escaped_ctr_lem : Agrees (escaped_ctr 4)
unfolding computed
escaped_ctr_lem = refl

seed_given_lem : Agrees (seed_given 5)
unfolding computed
seed_given_lem = refl

calibration_key_lem : Agrees (calibration_key 5)
unfolding computed
calibration_key_lem = refl

calibration_opens_lem : Agrees (calibration_opens 5)
unfolding computed
calibration_opens_lem = refl

lists_key_lem : Agrees (lists_key 6)
unfolding computed
lists_key_lem = refl

lists_open_lem : Agrees (lists_open 6)
unfolding computed
lists_open_lem = refl

weight_packet_lem : Agrees (weight_packet 7)
unfolding computed
weight_packet_lem = refl

weight_sent_lem : Agrees (weight_sent 7)
unfolding computed
weight_sent_lem = refl

download62_done_lem : Agrees (download62_done 8)
unfolding computed
download62_done_lem = refl

download62_refused_lem : Agrees (download62_refused 8)
unfolding computed
download62_refused_lem = refl

download63_refused_lem : Agrees (download63_refused 9)
unfolding computed
download63_refused_lem = refl

odt61_starts_lem : Agrees (odt61_starts 10)
unfolding computed
odt61_starts_lem = refl

odt62_refused_lem : Agrees (odt62_refused 10)
unfolding computed
odt62_refused_lem = refl

-- all of them
pub bench_sheet : Holds bench_table
bench_sheet = (connect_frame_lem, (connect_answer_lem, (synch_frame_lem, (synch_answer_lem, (escaped_packet_lem, (escaped_ctr_lem, (seed_given_lem, (calibration_key_lem, (calibration_opens_lem, (lists_key_lem, (lists_open_lem, (weight_packet_lem, (weight_sent_lem, (download62_done_lem, (download62_refused_lem, (download63_refused_lem, (odt61_starts_lem, (odt62_refused_lem, tt))))))))))))))))))

-- ---- case 8 with whatever memory of 4,096 bytes, of every slave that meets demand 2
-- how DOWNLOAD of 62 stands at its last byte b
record Standing : Type 0 where
  sound : Bool
  ended : Option (List ℕ)
  waiting : Bool
  opened : Bool

standing : List ℕ → ℕ → Standing
standing s b = record { sound = consistent s; ended = packet_ended s b; waiting = has_answer (view_of s); opened = (session_of s).opened }

ready : Standing
ready = record { sound = true; ended = Some (download 62); waiting = false; opened = true }

-- the deed follows from the memory's length
the_62 : (v : AnySlave) (s cal meas : List ℕ) (b : ℕ) (d : Deed) → Demand2 v → standing s b ≡ ready → length cal ≡ addressable → ((nm : ℕ) → judge_in (download 62) (session_of s) addressable nm ≡ d)
    → v.receive s cal meas b ≡ obeyed d (download 62) (read_by s b) cal meas
unfolding standing ready
the_62 v s cal meas b d meets e long j =
    let c : consistent s ≡ true = ap (λ x. x.sound) e in
    meets.as_defined.reads s cal meas b c ∙ sym (received_by_lem s cal meas b c)
    ∙ commanded s cal meas b (download 62) c (record { ends = ap (λ x. x.ended) e; opened = ap (λ x. x.opened) e; free = ap (λ x. x.waiting) e })
    ∙ ap (λ x. obeyed x (download 62) (read_by s b) cal meas) (subst (λ n. judge_in (download 62) (session_of s) n (length meas) ≡ d) (sym long) (j (length meas)))

-- at 4,034 the answer is FF, and the 62 bytes are written
pub download62_at_4034 : (v : AnySlave) (cal meas : List ℕ) → Demand2 v → length cal ≡ addressable
    → ((view_of (v.receive (begun62_at 0xC2 0x0F) cal meas (last_byte (download 62))).state).answer ≡ 0xFF ∷ [])
    × ((v.receive (begun62_at 0xC2 0x0F) cal meas (last_byte (download 62))).cal ≡ sets cal 4034 data62)
unfolding computed standing ready
download62_at_4034 v cal meas meets long =
    let e : v.receive (begun62_at 0xC2 0x0F) cal meas (last_byte (download 62)) ≡ obeyed (Download 2 4034 62) (download 62) (read_by (begun62_at 0xC2 0x0F) (last_byte (download 62))) cal meas
    = the_62 v (begun62_at 0xC2 0x0F) cal meas (last_byte (download 62)) (Download 2 4034 62) meets refl long (λ nm. refl) in
    (ap (λ o. (view_of o.state).answer) e, ap (λ o. o.cal) e)

-- at 4,035 the answer is FE 24, and no byte changes
pub download62_at_4035 : (v : AnySlave) (cal meas : List ℕ) → Demand2 v → length cal ≡ addressable
    → ((view_of (v.receive (begun62_at 0xC3 0x0F) cal meas (last_byte (download 62))).state).answer ≡ 0xFE ∷ 0x24 ∷ [])
    × ((v.receive (begun62_at 0xC3 0x0F) cal meas (last_byte (download 62))).cal ≡ cal)
unfolding computed standing ready
download62_at_4035 v cal meas meets long =
    let e : v.receive (begun62_at 0xC3 0x0F) cal meas (last_byte (download 62)) ≡ obeyed (Refuse NotInside) (download 62) (read_by (begun62_at 0xC3 0x0F) (last_byte (download 62))) cal meas
    = the_62 v (begun62_at 0xC3 0x0F) cal meas (last_byte (download 62)) (Refuse NotInside) meets refl long (λ nm. refl) in
    (ap (λ o. (view_of o.state).answer) e, ap (λ o. o.cal) e)
