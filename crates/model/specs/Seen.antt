-- What the checks look at: a packet's numbers, and what is seen of the state.
use Rattle.std.specs.Prelude.{ℕ, Bool, List, length, get_or}
use Rattle.state.specs.Bytes.{u16_at, u32_at}
use Rattle.words.specs.Values.{Seed}
use Rattle.words.specs.declared.Mta.{Mta}
use Rattle.words.specs.declared.Pointer.{Pointer}

-- the numbers in a packet of n bytes: b a byte, w the number in two, d in four
pub record Packet : Type 0 where
  pub n : ℕ
  pub b0 : ℕ
  pub b1 : ℕ
  pub b2 : ℕ
  pub b3 : ℕ
  pub b4 : ℕ
  pub b5 : ℕ
  pub b6 : ℕ
  pub b7 : ℕ
  pub w2 : ℕ
  pub w4 : ℕ
  pub d2 : ℕ
  pub d4 : ℕ

-- those in packet p
abbrev pub numbers_of : List ℕ → Packet
numbers_of p = record {
  n = length p;
  b0 = get_or p 0 0;
  b1 = get_or p 1 0;
  b2 = get_or p 2 0;
  b3 = get_or p 3 0;
  b4 = get_or p 4 0;
  b5 = get_or p 5 0;
  b6 = get_or p 6 0;
  b7 = get_or p 7 0;
  w2 = u16_at p 2;
  w4 = u16_at p 4;
  d2 = u32_at p 2;
  d4 = u32_at p 4;
}

-- wrong keys since power-up; calibration and lists are unlocked; the lists were freed, how many there are, and what of the pool is taken; how many ODTs the list
-- that w2 names has, and how many entries its ODT that b4 names; that list runs, and it could be started; the pointer's list runs; every selected list
-- runs or could be started; some list was started
pub record Seen : Type 0 where
  pub wrong_keys : ℕ
  pub calibration : Bool
  pub lists : Bool
  pub seed : Seed
  pub generator : ℕ
  pub mta : Mta
  pub pointer : Pointer
  pub freed : Bool
  pub present : ℕ
  pub odts_taken : ℕ
  pub entries_taken : ℕ
  pub odts : ℕ
  pub entries : ℕ
  pub runs : Bool
  pub fits : Bool
  pub pointed : Bool
  pub ready : Bool
  pub started : Bool
