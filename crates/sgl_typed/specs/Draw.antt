-- The numbers that a unit draws.
use Rattle.std.specs.Prelude.{ℕ, ℤ, pos, ◌+◌, ◌*◌, ◌/◌, ◌%◌, ◌^◌, bit_xor}

-- what is left of a number in 64 bits
abbrev pub word : ℕ → ℕ
word n = n % 2 ^ 64

-- the bits of a number, with those of its upper part laid over the lower ones
abbrev pub folded_over : ℕ → ℕ → ℕ
folded_over bits n = bit_xor n (n / 2 ^ bits)

-- the first word of SplitMix64 from this state
unfoldable pub split : ℕ → ℕ
split state =
    let stepped = word (state + 0x9E3779B97F4A7C15) in
    let mixed = word (folded_over 30 stepped * 0xBF58476D1CE4E5B9) in
    let mixed_again = word (folded_over 27 mixed * 0x94D049BB133111EB) in
    folded_over 31 mixed_again

-- the random number with this index of the unit with this key in this tick, below 2^31
unfoldable pub draw : (seed tick key index : ℕ) → ℤ
draw seed tick key index = pos (split (bit_xor seed (tick * 2 ^ 48 + key * 2 ^ 16 + index)) / 2 ^ 33)
