-- What the nodes of a Fenwick tree keep.
use Rattle.std.specs.Prelude.{◌≡◌, ℕ, ℤ, pos, neg_ℤ, ◌+ℤ◌, ◌≤ℤ◌, ◌-◌, ◌<◌, nat_lt, nat_le, ◌&&◌, bit_and, if◌then◌else◌, List, length, slice_index_or}

-- a node keeps the sum at the places from here to before its number: the number without its lowest binary 1
abbrev pub start_of : ℕ → ℕ
start_of node = bit_and node (node - 1)

-- nodes that keep these sums, given as the sum at the places before each
pub record StandsFor (before : ℕ → ℤ) (nodes : List ℤ) : Type 0 where
  pub none : before 0 ≡ pos 0
  pub node : (i : ℕ) (d : ℤ) → 0 < i → i < length nodes → before i ≡ before (start_of i) +ℤ slice_index_or nodes i d

-- a number that is no further from 0
pub record IsWithin (bound : ℕ) (number : ℤ) : Type 0 where
  pub low : neg_ℤ (pos bound) ≤ℤ number
  pub high : number ≤ℤ pos bound

-- nodes that keep sums of which none is further from 0
pub record IsSmall (bound : ℕ) (nodes : List ℤ) : Type 0 where
  pub before : ℕ → ℤ
  pub stands : StandsFor before nodes
  pub within : (end : ℕ) → IsWithin bound (before end)

-- the sums after an amount was added at a place
abbrev pub plus_at : ℕ → ℤ → (ℕ → ℤ) → ℕ → ℤ
plus_at place amount before end = before end +ℤ (if nat_lt place end then amount else pos 0)

-- the sums that are greater by an amount above one place, up to another
abbrev pub plus_between : ℕ → ℕ → ℤ → (ℕ → ℤ) → ℕ → ℤ
plus_between low high amount before end = before end +ℤ (if nat_lt low end && nat_le end high then amount else pos 0)
