-- The packet's bytes are the state's from packet_at on. Assumes nothing.
use Rattle.std.proofs.Common.{◌≡◌, ◌∙◌, List, ℕ, ◌+◌, ◌≤◌, ◌<◌, add_assoc, arith, length, get_or, drop, get_or-take, get_or-drop}
use Rattle.state.specs.Layout.{packet_at, size, packet_most}
use Rattle.state.specs.Bytes.{u16_at, u32_at, block}
use Rattle.state.proofs.Sets.{block_length}

pub packet_length : (s : List ℕ) (n : ℕ) → n ≤ packet_most → length s ≡ size → length (block s packet_at n) ≡ n
packet_length s n h e = block_length s packet_at n (omega arith)

pub packet_byte : (s : List ℕ) (n i : ℕ) → i < n → get_or (block s packet_at n) i 0 ≡ get_or s (packet_at + i) 0
packet_byte s n i h = get_or-take n (drop packet_at s) i 0 h ∙ get_or-drop packet_at s i 0

-- the byte k further on
later_byte : (s : List ℕ) (n i k : ℕ) → i + k < n → get_or (block s packet_at n) (i + k) 0 ≡ get_or s (packet_at + i + k) 0
later_byte s n i k h = rw (add_assoc packet_at i k) (packet_byte s n (i + k) h)

pub packet_u16 : (s : List ℕ) (n i : ℕ) → i + 2 ≤ n → u16_at (block s packet_at n) i ≡ u16_at s (packet_at + i)
unfolding u16_at
packet_u16 s n i h = rw (packet_byte s n i (omega arith), later_byte s n i 1 (omega arith))

pub packet_u32 : (s : List ℕ) (n i : ℕ) → i + 4 ≤ n → u32_at (block s packet_at n) i ≡ u32_at s (packet_at + i)
unfolding u32_at
packet_u32 s n i h = rw (packet_byte s n i (omega arith), later_byte s n i 1 (omega arith), later_byte s n i 2 (omega arith), later_byte s n i 3 (omega arith))
