-- Lanes: the values of an expression in up to 64 contexts, side by side.
use Rattle.std.specs.Prelude.{ℕ, ℤ, pos, negsuc, unsigned_abs, ◌≡◌, ◌<◌, ◌≤◌, ◌<ℤ◌, ◌≤ℤ◌, ◌*ℤ◌, ◌==◌, Bool, true, false, List, slice_index_or}
use Rattle.std.specs.Int.{bit_at}
use Rattle.std.specs.Ordering.{int_eq}
use Rattle.sgl_values.specs.declared.fault.Val.{Val}
use Rattle.sgl_values.specs.declared.fault.Val.TheVariants.{N, B}
use Rattle.sgl_values.specs.declared.operator.BinOp.{BinOp}
use Rattle.sgl_values.specs.declared.place.Place.{Place}
use Rattle.sgl_typed.specs.Value.{operated}
use Rattle.sgl_lanes.specs.declared.kind.Lanes.{Lanes}
use Rattle.sgl_lanes.specs.declared.kind.Lanes.TheVariants.{Numbers, Truths, Unknown}
use Rattle.sgl_lanes.specs.declared.lane_set.TheConstants.{LANES}

-- the set has the lane
unfoldable pub has : ℕ → ℕ → Bool
has mask k = bit_at mask k == 1

-- the number in a lane
abbrev pub lane_of : List ℤ → ℕ → ℤ
lane_of out k = slice_index_or out k (pos 0)

-- a fact of each lane of a set
abbrev pub EachLane : ℕ → (ℕ → Type 0) → Type 0
EachLane mask P = (k : ℕ) → k < LANES → has mask k ≡ true → P k

-- a truth as a number
abbrev pub bit : Bool → ℤ
bit false = pos 0
bit true = pos 1

-- the value is a truth, for which the number stands
pub record IsTruth (z : ℤ) (v : Val) : Type 0 where
  pub truth : Bool
  pub stands : z ≡ bit truth
  pub value : v ≡ B truth

-- the number stands for the value, by what the lanes hold; where that is unknown it says nothing
abbrev pub Holds : Lanes → ℤ → Val → Type 0
Holds Numbers z v = v ≡ N z
Holds Truths z v = IsTruth z v
Holds Unknown z v = Unit {0}

-- the value for which the number of a lane stands
abbrev pub held : Lanes → ℤ → Val
held Numbers z = N z
held Truths z = B (int_eq z (pos 1))
held Unknown z = N z

-- each lane of the set holds the value of its number
abbrev pub HoldEach : Lanes → ℕ → List ℤ → (ℕ → Val) → Type 0
HoldEach kind mask out value = EachLane mask (λ k. Holds kind (lane_of out k) (value k))

-- each lane of the set holds what the operation makes of the value for which the left number stands and of the right value
abbrev pub AreOperated : BinOp → ℕ → Lanes → (ℕ → ℤ) → (ℕ → Val) → Lanes → List ℤ → Type 0
AreOperated op mask kind left right made out =
    (place : Place) → EachLane mask (λ k. (v : Val) → Holds kind (left k) v → Holds made (lane_of out k) (operated op place v (right k)))

-- the number stands from the negative of this on, and below it
pub record IsWithin (end : ℕ) (z : ℤ) : Type 0 where
  pub size : unsigned_abs z ≤ end
  pub below : z <ℤ pos end

-- the number is in a span of 2^40 numbers, all of which are in the range
pub record IsNear (z : ℤ) : Type 0 where
  pub low : negsuc 499999999999 ≤ℤ z
  pub high : z <ℤ pos 599511627776

-- the number has 32 bits, with its sign
abbrev pub IsShort : ℤ → Type 0
IsShort z = IsWithin 1073741824 z

-- the number is short and not negative
pub record IsSize (z : ℤ) : Type 0 where
  pub low : pos 0 ≤ℤ z
  pub below : z <ℤ pos 1073741824

-- both numbers are short, and their product is near
pub record AreShort (a b : ℤ) : Type 0 where
  pub left : IsShort a
  pub right : IsShort b
  pub near : IsNear (a *ℤ b)

-- the left number is short, and the right one from 1 to 2^30
pub record AreDivided (a b : ℤ) : Type 0 where
  pub left : IsShort a
  pub low : pos 1 ≤ℤ b
  pub high : b ≤ℤ pos 1073741824
