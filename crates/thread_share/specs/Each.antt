-- What calls at the elements of a part of a list do.
use Rattle.std.specs.Prelude.{◌≡◌, ℕ, ◌+◌, ◌<◌, List, length, slice_index_or}
use denote.Ref.{MutBor}
use denote.Param.Members.{Shared}
use Rattle.std.specs.Fork.{AcceptsAt, ChangesAt}

module _ {F T : Type 0} (g : Shared F (ℕ × (MutBor T × Unit {0})) ((Unit {0}) × (MutBor T × Unit {0}))) (f : F) where
  -- f may be called at each place of a list that stands behind so many others
  abbrev pub AcceptsFrom : ℕ → List T → Type 0
  AcceptsFrom base xs = (k : ℕ) (d : T) → k < length xs → AcceptsAt g f (base + k) (slice_index_or xs k d)

  -- each element of ys is what a call of f left at that place of xs
  pub record ChangesFrom (base : ℕ) (xs ys : List T) : Type 0 where
    pub len : length ys ≡ length xs
    pub each : (k : ℕ) (d : T) → k < length xs → ChangesAt g f (base + k) (slice_index_or xs k d) (slice_index_or ys k d)
