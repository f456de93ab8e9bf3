-- Names in order, and an index of them.
use Rattle.std.specs.Prelude.{ℕ, ◌+◌, ◌≡◌, Bool, false, bytes_eq, List, [], ◌∷◌, Option, Some, None, String, if◌then◌else◌}
use Rattle.std.specs.declared.hash.BuildHasherDefault.{BuildHasherDefault}
use Rattle.std.specs.declared.hash.FoldHasher.{FoldHasher}
use Rattle.indexmap.specs.IndexMap.{IndexMap, get_by_text}

-- the number of a name in a list of names, the first of which has this number
abbrev pub position_from : ℕ → List ℕ → List (List ℕ) → Option ℕ
position_from number name [] = None
position_from number name (other ∷ more) = if bytes_eq other name then Some number else position_from (number + 1) name more

abbrev pub position : List ℕ → List (List ℕ) → Option ℕ
position = position_from 0

-- the index has the place of each name; it may have more
abbrev pub IsIndex : {Y : Type 0} → IndexMap (String Y) ℕ (BuildHasherDefault FoldHasher) → List (List ℕ) → Type 0
IsIndex index names = (name : List ℕ) (at : ℕ) → position name names ≡ Some at → get_by_text index name ≡ Some at

-- this name stands there
abbrev pub stands_at : Option (List ℕ) → List ℕ → Bool
stands_at None name = false
stands_at (Some other) name = bytes_eq other name
