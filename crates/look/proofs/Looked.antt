-- What is looked up judges as all that could be seen. Assumes nothing.
use Rattle.std.proofs.Common.{◌≡◌, refl, sym, ap, ap₂, ◌∙◌, Bool, true, false, List, ℕ, ◌+◌, ◌≤◌, arith, eq-eqb, ltb-false, ltb, length, get_or}
use Rattle.state.specs.Layout.{packet_at, packet_most, size}
use Rattle.state.specs.State.{pointer_of}
use Rattle.words.specs.declared.Pointer.{Pointer}
use Rattle.words.specs.declared.Pointer.TheVariants.{Unset as NoEntry, At as Entry}
use Rattle.state.specs.Bytes.{block, u16_at}
use Rattle.words.specs.Command.{command_of, fewest}
use Rattle.words.specs.declared.Command.{Command}
use Rattle.words.specs.declared.Reason.TheVariants.{TooShort}
use Rattle.model.specs.Judge.{judge, judge_by, pointed_in, seen_in, judge_in}
use Rattle.model.specs.Seen.{Packet, Seen, numbers_of}
use Rattle.model.specs.declared.Deed.TheVariants.{Refuse}
use Rattle.judge.specs.Doable.{Doable}
use Rattle.judge.proofs.Doable.{Sees, judge_doable}
use Rattle.judge.proofs.Entered.{listed, pointing}
use Rattle.state.proofs.Pointers.{pointed}
use Rattle.judge.proofs.Looking.{Alike, Seeing, Naming, judge_alike, judge_looked}
use Rattle.model.specs.View.{session_of}
use Rattle.model.proofs.Shown.{odts_taken_lem, entries_taken_lem}
use Rattle.look.specs.Look.{numbers_at, pointed_named, looked_at, judge_of}
use Rattle.look.proofs.Packet.{packet_length, packet_byte, packet_u16, packet_u32}

-- ---- the packet in the buffer
packet_alike : (s : List ℕ) (n : ℕ) → length s ≡ size → 1 ≤ n → n ≤ packet_most → Alike (numbers_at s n) (numbers_of (block s packet_at n))
packet_alike s n e some few =
    let long : length (block s packet_at n) ≡ n = packet_length s n few e in
    record {
      long = sym long;
      first = sym (packet_byte s n 0 some);
      byte1 = λ h. sym (packet_byte s n 1 (omega (arith, long)));
      byte2 = λ h. sym (packet_byte s n 2 (omega (arith, long)));
      byte3 = λ h. sym (packet_byte s n 3 (omega (arith, long)));
      byte4 = λ h. sym (packet_byte s n 4 (omega (arith, long)));
      byte5 = λ h. sym (packet_byte s n 5 (omega (arith, long)));
      byte6 = λ h. sym (packet_byte s n 6 (omega (arith, long)));
      byte7 = λ h. sym (packet_byte s n 7 (omega (arith, long)));
      word2 = λ h. sym (packet_u16 s n 2 (omega (arith, long)));
      word4 = λ h. sym (packet_u16 s n 4 (omega (arith, long)));
      long2 = λ h. sym (packet_u32 s n 2 (omega (arith, long)));
      long4 = λ h. sym (packet_u32 s n 4 (omega (arith, long)));
    }

-- ---- the state
pointer_named : (s : List ℕ) (q : Pointer) → length s ≡ size → pointed_named q s ≡ pointed_in q (session_of s)
pointer_named s NoEntry whole = refl
pointer_named s (Entry l o e) whole = rw (eq-eqb (length s) size whole)

seeing_all : (l o : ℕ) (s : List ℕ) → length s ≡ size → Seeing (looked_at s) (seen_in l o (session_of s))
unfolding session_of
seeing_all l o s whole = record {
  wrong_keys = refl;
  calibration = refl;
  lists = refl;
  seed = refl;
  generator = refl;
  mta = refl;
  pointer = refl;
  freed = refl;
  present = refl;
  odts_taken = sym (odts_taken_lem s);
  entries_taken = sym (entries_taken_lem s);
  pointed = pointer_named s (pointer_of s) whole;
  ready = rw (eq-eqb (length s) size whole);
  started = rw (eq-eqb (length s) size whole);
}

-- of the list, and of its ODT
named : (s : List ℕ) (l o : ℕ) → length s ≡ size → u16_at s (packet_at + 2) ≡ l → Naming (looked_at s) (seen_in l o (session_of s))
named s l o whole e = record { odts = ap (λ (i : ℕ). ((session_of s).list i).odts) e; runs = rw (e, eq-eqb (length s) size whole); fits = rw (e, eq-eqb (length s) size whole) }

named_odt : (s : List ℕ) (l o : ℕ) → u16_at s (packet_at + 2) ≡ l → get_or s (packet_at + 4) 0 ≡ o → (looked_at s).entries ≡ (seen_in l o (session_of s)).entries
named_odt s l o e f = ap₂ (λ (i j : ℕ). (((session_of s).list i).odt j).entries) e f

short : (c : Command) (p : Packet) (v : Seen) (nc nm n : ℕ) → p.n ≡ n → ltb n (fewest c) ≡ true → judge_by c p v nc nm ≡ Refuse TooShort
unfolding judge_by
short c p v nc nm n e h = simp (e, h)

module _ (s : List ℕ) (n nc nm : ℕ) (whole : length s ≡ size) (some : 1 ≤ n) (few : n ≤ packet_most) where
  -- all that can be seen for the packet
  abbrev all_seen : Seen
  all_seen = seen_in (u16_at (block s packet_at n) 2) (get_or (block s packet_at n) 4 0) (session_of s)

  by_command : (c : Command) → judge_by c (numbers_at s n) (looked_at s) nc nm ≡ judge_by c (numbers_of (block s packet_at n)) all_seen nc nm
  by_command c = by (ltb n (fewest c)) refl
    where
      by : (b : Bool) → ltb n (fewest c) ≡ b → judge_by c (numbers_at s n) (looked_at s) nc nm ≡ judge_by c (numbers_of (block s packet_at n)) all_seen nc nm
      by true e = short c (numbers_at s n) _ nc nm n refl e ∙ sym (short c (numbers_of (block s packet_at n)) _ nc nm n (packet_length s n few whole) e)
      by false e =
          let there : fewest c ≤ n = ltb-false n (fewest c) e in
          let same = packet_alike s n whole some few in
          let long : length (block s packet_at n) ≡ n = packet_length s n few whole in
          judge_alike (looked_at s) nc nm c (numbers_at s n) (numbers_of (block s packet_at n)) same
          ∙ judge_looked (numbers_of (block s packet_at n)) (looked_at s) all_seen (seeing_all (u16_at (block s packet_at n) 2) (get_or (block s packet_at n) 4 0) s whole) nc nm c
          (λ h. named s (u16_at (block s packet_at n) 2) (get_or (block s packet_at n) 4 0) whole (same.word2 (omega (arith, long, there))))
          (λ h. named_odt s (u16_at (block s packet_at n) 2) (get_or (block s packet_at n) 4 0) (same.word2 (omega (arith, long, there))) (same.byte4 (omega (arith, long, there))))

  pub judged_there : judge (numbers_at s n) (looked_at s) nc nm ≡ judge_of (block s packet_at n) s nc nm
  unfolding judge_in judge
  judged_there = by_command (command_of (numbers_at s n).b0) ∙ ap (λ (b : ℕ). judge_by (command_of b) (numbers_of (block s packet_at n)) all_seen nc nm) (packet_alike s n whole some few).first

-- ---- what is judged can be done, by what was looked up and by all that could be seen
pub looked_doable : (s : List ℕ) (n nc nm : ℕ) → Doable (judge (numbers_at s n) (looked_at s) nc nm) (session_of s) n nc nm
unfolding session_of
looked_doable s n nc nm =
    let sees : Sees (session_of s) (numbers_at s n) (looked_at s) = record {
      freed = refl;
      present = refl;
      odts_taken = sym (odts_taken_lem s);
      entries_taken = sym (entries_taken_lem s);
      odts = refl;
      entries = refl;
      there = listed s (numbers_at s n).w2;
      pointer = pointing s (pointer_of s) (pointed s);
    } in
    judge_doable (session_of s) (numbers_at s n) (looked_at s) sees nc nm

pub judged_doable : (p s : List ℕ) (nc nm : ℕ) → Doable (judge_of p s nc nm) (session_of s) (length p) nc nm
unfolding judge_in session_of
judged_doable p s nc nm =
    let sees : Sees (session_of s) (numbers_of p) (seen_in (u16_at p 2) (get_or p 4 0) (session_of s)) = record {
      freed = refl;
      present = refl;
      odts_taken = refl;
      entries_taken = refl;
      odts = refl;
      entries = refl;
      there = listed s (u16_at p 2);
      pointer = pointing s (pointer_of s) (pointed s);
    } in
    judge_doable (session_of s) (numbers_of p) (seen_in (u16_at p 2) (get_or p 4 0) (session_of s)) sees nc nm
