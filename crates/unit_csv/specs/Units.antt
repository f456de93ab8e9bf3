-- Unit tables: all faults of a text in their order, and the world of a text without any.
use Rattle.std.specs.Prelude.{ℕ, ℤ, pos, suc, ◌==◌, ◌&&◌, ◌+◌, nat_le, nat_lt, unsigned_abs, Bool, false, not, List, [], ◌∷◌, ◌++◌, length, map, get_or, Option, None, Some, unwrap_or, Result, Ok, Err, if◌then◌else◌, codes}
use Rattle.std.specs.List.{fold, list_any}
use Rattle.std.specs.Ordering.{int_eq}
use Rattle.std.specs.Str.{bytes_eq}
use Rattle.csv.specs.Reading.{default_config, records, strip_bom}
use Rattle.sgl_values.specs.Range.{in_range}
use Rattle.sgl_values.specs.World.{Row, World}
use Rattle.env_table.specs.Table.{Table}
use Rattle.sgl_typed.specs.declared.schema.Schema.{Schema}
use Rattle.unit_csv.specs.declared.faults.UnitFault.{UnitFault}
use Rattle.unit_csv.specs.declared.faults.UnitFault.TheVariants.{NoHeader, MissingColumn, ExtraColumn, TwiceColumn, Ragged, BadNumber, OutOfRange, BadKey, TwiceKey, TooMany}
use Rattle.unit_csv.specs.Fields.{trimmed_fields}
use Rattle.unit_csv.specs.Numbers.{number_of}

-- ---- lists of faults

-- a fault before others, where there is one
abbrev pub told : Option UnitFault → List UnitFault → List UnitFault
told None faults = faults
told (Some fault) faults = fault ∷ faults

abbrev pub first_of : List UnitFault → Option UnitFault
first_of [] = None
first_of (fault ∷ faults) = Some fault

-- ---- the header

abbrev pub key_name : List ℕ
key_name = codes "key"

-- the names of the columns that a table has: `key`, and the const attributes
abbrev pub names_of : List (List ℕ) → List (List ℕ)
names_of consts = key_name ∷ consts

abbrev pub stands_in : List ℕ → List (List ℕ) → Bool
stands_in name names = list_any (λ other. bytes_eq other name) names

-- a column's fault, behind the columns before it: its name stands there too, or is none of the table
abbrev pub column_fault : List (List ℕ) → List (List ℕ) → List ℕ → Option UnitFault
column_fault names before name =
    if stands_in name before then Some (TwiceColumn (length before + 1))
    else if stands_in name names then None
    else Some (ExtraColumn (length before + 1))

abbrev pub column_faults : List (List ℕ) → List (List ℕ) → List (List ℕ) → List UnitFault
column_faults names before [] = []
column_faults names before (name ∷ rest) = told (column_fault names before name) (column_faults names (before ++ name ∷ []) rest)

-- a name's fault, where the header lacks it
abbrev pub missing_fault : List (List ℕ) → ℕ → List ℕ → Option UnitFault
missing_fault header number name = if stands_in name header then None else Some (MissingColumn number)

abbrev pub missing_faults : List (List ℕ) → ℕ → List (List ℕ) → List UnitFault
missing_faults header number [] = []
missing_faults header number (name ∷ names) = told (missing_fault header number name) (missing_faults header (number + 1) names)

abbrev pub header_faults : List (List ℕ) → List (List ℕ) → List UnitFault
header_faults names header = column_faults names [] header ++ missing_faults header 0 names

-- ---- the records

-- the number of the column with a name, counted from 0
abbrev pub place_of : List (List ℕ) → List ℕ → ℕ
place_of [] name = 0
place_of (other ∷ names) name = if bytes_eq other name then 0 else suc (place_of names name)

-- the number of a field, and 0 where it is none
abbrev pub value_of : List ℕ → ℤ
value_of field = unwrap_or (number_of field) (pos 0)

abbrev pub value_at : List (List ℕ) → ℕ → ℤ
value_at fields place = value_of (get_or fields place [])

-- from 1 to 4,294,967,295
abbrev pub is_key : ℤ → Bool
is_key (pos n) = nat_lt 0 n && nat_le n 4294967295
is_key z = false

-- an earlier record has this key in the key column
abbrev pub has_key : ℕ → List (List (List ℕ)) → ℕ → Bool
has_key key before k = list_any (λ fields. int_eq (value_at fields key) (pos k)) before

-- the fault of a number in the key column, where `known` tells the keys of the earlier records
abbrev pub key_fault : (ℕ → Bool) → ℕ → ℤ → Option UnitFault
key_fault known record_number z =
    if not (is_key z) then Some (BadKey record_number)
    else if known (unsigned_abs z) then Some (TwiceKey record_number)
    else None

-- the fault of a number in another column
abbrev pub value_fault : ℕ → ℕ → ℤ → Option UnitFault
value_fault record_number column z = if in_range z then None else Some (OutOfRange record_number (column + 1))

abbrev pub number_fault : ℕ → (ℕ → Bool) → ℕ → ℕ → Option ℤ → Option UnitFault
number_fault key known record_number column None = Some (BadNumber record_number (column + 1))
number_fault key known record_number column (Some z) =
    if column == key then key_fault known record_number z else value_fault record_number column z

-- the faults of fields, of which the first stands in this column
abbrev pub field_faults : ℕ → (ℕ → Bool) → ℕ → ℕ → List (List ℕ) → List UnitFault
field_faults key known record_number column [] = []
field_faults key known record_number column (field ∷ fields) =
    told (number_fault key known record_number column (number_of field)) (field_faults key known record_number (column + 1) fields)

abbrev pub limit_fault : ℕ → Option UnitFault
limit_fault record_number = if record_number == 65537 then Some TooMany else None

-- the faults of a record under a header of this length with its key in this column
abbrev pub record_faults : ℕ → ℕ → (ℕ → Bool) → ℕ → List (List ℕ) → List UnitFault
record_faults count key known record_number fields =
    told (limit_fault record_number)
    (if length fields == count then field_faults key known record_number 0 fields else Ragged record_number ∷ [])

-- the faults of records, behind the records before them
abbrev pub records_faults : ℕ → ℕ → List (List (List ℕ)) → List (List (List ℕ)) → List UnitFault
records_faults count key before [] = []
records_faults count key before (fields ∷ rest) =
    record_faults count key (has_key key before) (length before + 1) fields ++ records_faults count key (before ++ fields ∷ []) rest

-- ---- texts

-- the records of a text, the header included; of byte-order marks at its start one is dropped
abbrev pub table_records : List ℕ → List (List (List ℕ))
table_records text = map trimmed_fields (records default_config (strip_bom text))

-- all faults of a text
abbrev pub faults_of : List (List ℕ) → List (List (List ℕ)) → List UnitFault
faults_of names [] = NoHeader ∷ []
faults_of names (header ∷ rest) = header_faults names header ++ records_faults (length header) (place_of header key_name) [] rest

-- the unit of a record: its key, and the values of the const attributes, each from the column with its name
abbrev pub unit_of : ℕ → List ℕ → List (List ℕ) → Row
unit_of key places fields = record { key = unsigned_abs (value_at fields key); values = map (value_at fields) places }

abbrev pub unit_under : List (List ℕ) → List (List ℕ) → List (List ℕ) → Row
unit_under consts header = unit_of (place_of header key_name) (map (place_of header) consts)

-- rows by rising key, and one more row at its place
abbrev pub placed : List Row → Row → List Row
placed [] row = row ∷ []
placed (first ∷ rows) row = if nat_lt row.key first.key then row ∷ (first ∷ rows) else first ∷ placed rows row

-- rows by rising key
abbrev pub by_key : List Row → List Row
by_key rows = fold placed [] rows

-- the key of the last of these rows, and this one where there is none
abbrev pub last_of : ℕ → List Row → ℕ
last_of last [] = last
last_of last (row ∷ rows) = last_of row.key rows

-- the world of tick 0 with these rows, whose last key is the greatest
abbrev pub world_with : List Row → World
world_with rows = record { tick = 0; last_key = last_of 0 rows; rows = rows }

-- the world of tick 0 of a header and records
abbrev pub world_under : List (List ℕ) → List (List (List ℕ)) → Table
world_under consts [] = record { width = length consts; world = world_with [] }
world_under consts (header ∷ rest) = record { width = length consts; world = world_with (by_key (map (unit_under consts header) rest)) }

-- the table, or the first of its faults
abbrev pub answer_of : Table → List UnitFault → Result Table UnitFault
answer_of table [] = Ok table
answer_of table (fault ∷ faults) = Err fault

-- the world that the records of a text give, the header first, or the first of their faults
abbrev pub units_under : List (List ℕ) → List (List (List ℕ)) → Result Table UnitFault
units_under consts rows = answer_of (world_under consts rows) (faults_of (names_of consts) rows)

-- the world of tick 0 that a text gives for a schema, or the first of its faults
abbrev pub units_of : List ℕ → Schema → Result Table UnitFault
units_of text schema = units_under schema.consts (table_records text)
