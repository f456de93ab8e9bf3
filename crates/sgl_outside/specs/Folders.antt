-- The bytes that a folder holds and has left under each name, where it tells them.
use Rattle.std.specs.Prelude.{◌≡◌, ◌≢◌, ℕ, ◌<◌, ◌≤◌, List, [], length, take, Option, None, Some, IsSome, MatchOption, Result, MatchResult, ⊤}
use Rattle.std.specs.Io.KnownBytes.{Keeps, Consumes, IsAtEnd}
use Rattle.sgl_outside.specs.Causes.{count_after}

-- the bytes held under each name that is held
abbrev pub Files : Type 0
Files = List ℕ → Option (List ℕ)

-- each name's left bytes stay, but for one name
abbrev pub KeepsOthers : (List ℕ → Option (List ℕ)) → (List ℕ → Option (List ℕ)) → List ℕ → Type 0
KeepsOthers old new name = (other : List ℕ) → other ≢ name → Keeps (old other) (new other)

-- the name is held, its held bytes are left, and none are left of any other name
pub record BeginsIn (files : Files) (left : List ℕ → Option (List ℕ)) (name : List ℕ) : Type 0 where
  pub held : IsSome (files name)
  pub whole : left name ≡ files name
  pub others : (other : List ℕ) → other ≢ name → left other ≡ Some []

-- the same of a folder that tells its files, and nothing of another
abbrev pub BeginsWhereTold : Option Files → (List ℕ → Option (List ℕ)) → List ℕ → Type 0
BeginsWhereTold None left name = ⊤
BeginsWhereTold (Some files) left name = BeginsIn files left name

-- what a `begin` leaves
abbrev pub Begins : {T E : Type 0} → Option Files → (List ℕ → Option (List ℕ)) → (List ℕ → Option (List ℕ)) → List ℕ → Result T E → Type 0
Begins held old new name result = MatchResult result (λ _. BeginsWhereTold held new name) (λ _. (other : List ℕ) → Keeps (old other) (new other))

-- the first of a name's left bytes moved to the front of the buffer, none only at the end or with no room
pub record Moves (old new : List ℕ → Option (List ℕ)) (name : List ℕ) (count : ℕ) (buf : List ℕ) : Type 0 where
  pub fits : count ≤ length buf
  pub taken : Consumes (old name) (new name) (take count buf)
  pub end : count ≡ 0 → 0 < length buf → IsAtEnd (new name)
  pub others : KeepsOthers old new name

-- what a `read` leaves
abbrev pub Reads : {E : Type 0} → (List ℕ → Option (List ℕ)) → (List ℕ → Option (List ℕ)) → List ℕ → Result ℕ E → List ℕ → Type 0
Reads old new name result buf = MatchResult result (λ n. Moves old new name n buf) (λ _. (other : List ℕ) → Keeps (old other) (new other))

-- the count of a held name is 0, and that of each missing name rises by a call that fails and by no other
abbrev pub CountsMissing : {T E : Type 0} → Files → (List ℕ → ℕ) → (List ℕ → ℕ) → Result T E → Type 0
CountsMissing files before now result = (other : List ℕ) → MatchOption (files other) (now other ≡ count_after (before other) result) (λ _. now other ≡ 0)
