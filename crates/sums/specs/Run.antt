-- How many words are summed in lanes before these are folded.
use Rattle.std.specs.Prelude.{ℕ}

-- the most: 256 times the upper three bytes of a word, each FF, still fit in 32 bits, and 257 times do not
abbrev pub run_words : ℕ
run_words = 256
