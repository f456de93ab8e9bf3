-- What is made for each group.
use Rattle.std.specs.Prelude.{◌≡◌, ℕ, ◌<◌, List, length, slice_index_or}

-- for each of so many groups one is made
pub record AreMade {A : Type 0} (Made : ℕ → A → Type 0) (count : ℕ) (all : List A) : Type 0 where
  pub full : length all ≡ count
  pub each : (group : ℕ) (d : A) → group < count → Made group (slice_index_or all group d)
