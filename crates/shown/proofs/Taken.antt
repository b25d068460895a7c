-- What a computed run shows of a command is what the laws are over: how it stands when its last byte comes, and how it is answered. Assumes nothing.
use Rattle.std.proofs.Common.{◌≡◌, ℕ, ◌<◌, Bool, true, false, cond, List, [], ◌∷◌, length, ltb, refl, sym, ap, ◌∙◌, subst, lit<, ltb-true, Option, Some}
use Rattle.std.proofs.Math.Option.{Option as Fault, none as no_fault, some as fault_of}
use Rattle.std.proofs.lemmas.Bool.{false≢true}
use Rattle.line.proofs.Laws.{cond_ind}
use Rattle.state.specs.State.{consistent}
use Rattle.words.specs.Number.{received_number}
use Rattle.model.specs.Model.{byte, Bytes, has_answer}
use Rattle.model.specs.Answers.{Done}
use Rattle.model.specs.View.{session_of, view_of, shown}
use Rattle.views.specs.Faults.{first_fault, refusal}
use Rattle.views.proofs.Bytes.{bytes_cons}
use Rattle.demands.specs.Slave.{AnySlave}
use Rattle.demands.specs.Heard.{packet_ended, Commands}
use Rattle.demands.specs.Obeyed.{Obeyed}
use Rattle.demands.specs.Checked.{Checked}
use Rattle.shown.specs.Exchange.{last_byte}

-- whether each is below 256 can be computed
unfoldable pub low : List ℕ → Bool
low [] = true
low (b ∷ bs) = cond (ltb b 256) (low bs) false

pub low_bytes : (bs : List ℕ) → low bs ≡ true → Bytes bs
unfolding low
low_bytes [] e = λ i. lit< tt
low_bytes (b ∷ bs) e = cond_ind (λ (t : Bool). t ≡ true → Bytes (b ∷ bs)) (ltb b 256) (λ f x. bytes_cons b bs (ltb-true b 256 f) (low_bytes bs x)) (λ _ x. absurd (false≢true x)) e

-- ---- packet p comes to its end in state s, with memory cal lent: its first fault, by the table of checks, and its answer
pub record Asked : Type 0 where
  pub sound : Bool
  pub ended : Option (List ℕ)
  pub opened : Bool
  pub waits : Bool
  pub fault : Fault ℕ
  pub answer : List ℕ

unfoldable pub asked : AnySlave → List ℕ → List ℕ → List ℕ → Asked
asked v s cal p =
    record {
      sound = consistent s;
      ended = packet_ended s (last_byte p);
      opened = (session_of s).opened;
      waits = has_answer (view_of s);
      fault = first_fault p (session_of s) (length cal) 0;
      answer = (view_of (v.receive s cal [] (last_byte p)).state).answer;
    }

-- it is heard in an open session, and no answer waits
unfoldable pub heard_so : List ℕ → Fault ℕ → List ℕ → Asked
heard_so p fault a = record { sound = true; ended = Some p; opened = true; waits = false; fault = fault; answer = a }

module _ (v : AnySlave) (s cal p : List ℕ) (f : Fault ℕ) (a : List ℕ) (k : asked v s cal p ≡ heard_so p f a) where
  pub heard_so_lem : Commands s (last_byte p) p
  unfolding asked heard_so
  heard_so_lem = record { ends = ap (λ x. x.ended) k; opened = ap (λ x. x.opened) k; free = ap (λ x. x.waits) k }

  -- so its answer is what the table of checks says
  pub done_so : f ≡ no_fault → Checked v → byte a 0 ≡ 0xFF
  unfolding asked heard_so
  done_so e d = subst (λ (xs : List ℕ). byte xs 0 ≡ 0xFF) (ap (λ x. x.answer) k) ((d.answers s cal [] (last_byte p) p (ap (λ x. x.sound) k) heard_so_lem).done (ap (λ x. x.fault) k ∙ e))

  pub refused_so : (code : ℕ) → f ≡ fault_of code → Checked v → a ≡ refusal (byte p 0) code
  unfolding asked heard_so
  refused_so code e d = sym (ap (λ x. x.answer) k) ∙ (d.answers s cal [] (last_byte p) p (ap (λ x. x.sound) k) heard_so_lem).refused code (ap (λ x. x.fault) k ∙ e)

-- ---- it is taken: number 1, in a state of bytes
pub record Took : Type 0 where
  pub sound : Bool
  pub bytes : Bool
  pub ended : Option (List ℕ)
  pub number : ℕ

unfoldable pub took : AnySlave → List ℕ → List ℕ → List ℕ → Took
took v s cal p = record { sound = consistent s; bytes = low s; ended = packet_ended s (last_byte p); number = received_number (v.receive s cal [] (last_byte p)).received }

unfoldable pub taken_so : List ℕ → Took
taken_so p = record { sound = true; bytes = true; ended = Some p; number = 1 }

-- what it leaves
abbrev pub left : AnySlave → List ℕ → List ℕ → List ℕ → Done
left v s cal p = shown (v.receive s cal [] (last_byte p)).state (v.receive s cal [] (last_byte p)).cal

pub taken_so_lem : (v : AnySlave) (s cal p : List ℕ) → last_byte p < 256 → took v s cal p ≡ taken_so p → Obeyed v p (session_of s) cal [] (left v s cal p)
unfolding took taken_so
taken_so_lem v s cal p h k = record {
  state = s;
  last = last_byte p;
  sound = ap (λ x. x.sound) k;
  bytes = low_bytes s (ap (λ x. x.bytes) k);
  low = h;
  ends = ap (λ x. x.ended) k;
  taken = ap (λ x. x.number) k;
  before = refl;
  leaves = refl;
}
