-- What the code keeps of the units that it read: their values in a map by key.
use Rattle.std.specs.Prelude.{◌≡◌, ℕ, ℤ, Bool, is_some, List, All, Option, length, map}
use Rattle.std.specs.BTreeMap.{BTreeMap, get}
use Rattle.std.specs.Ordering.{nat_cmp}
use Rattle.csv.specs.declared.reader.Reader.{Reader}
use Rattle.sgl_values.specs.World.{Row}
use Rattle.unit_csv.specs.Fields.{trimmed_fields}
use Rattle.unit_csv.specs.Records.{records_left}

-- the unit of an entry
abbrev pub row_of : ℕ × List ℤ → Row
row_of entry = record { key = entry.0; values = entry.1 }

-- the units, by rising key
abbrev pub rows_of : BTreeMap ℕ (List ℤ) → List Row
rows_of units = map row_of units.entries

-- a unit has this key
abbrev pub has_unit : BTreeMap ℕ (List ℤ) → ℕ → Bool
has_unit units key = is_some (get nat_cmp units key)

-- each unit has so many values
abbrev pub AreWide : ℕ → BTreeMap ℕ (List ℤ) → Type 0
AreWide width units = All (λ entry. length entry.1 ≡ width) units.entries

-- the records that a reader has left, with their fields trimmed
abbrev pub rows_left : {R : Type 0} → Reader R → (R → Option (List ℕ)) → List (List (List ℕ))
rows_left reader content = map trimmed_fields (records_left reader content)
