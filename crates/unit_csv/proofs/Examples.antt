-- Small tables, computed from the definitions.
use Rattle.std.proofs.Common.{◌≡◌, ℕ, ℤ, pos, negsuc, List, [], ◌∷◌, ◌++◌, Result, Ok, Err, refl}
use Rattle.std.specs.Prelude.{codes}
use Rattle.std.specs.Fmt.{digits}
use Rattle.csv.proofs.OnLiterals.{csv_on_literals}
use Rattle.env_table.specs.Table.{Table}
use Rattle.sgl_values.specs.World.{Row}
use Rattle.unit_csv.specs.declared.faults.UnitFault.{UnitFault}
use Rattle.unit_csv.specs.declared.faults.UnitFault.TheVariants.{NoHeader, MissingColumn, ExtraColumn, TwiceColumn, Ragged, BadNumber, OutOfRange, BadKey, TwiceKey}
use Rattle.unit_csv.specs.Lines.{world_text}
use Rattle.unit_csv.specs.Units.{table_records, units_under, world_with}

-- these lines, each ended by a line feed
abbrev lines : List (List ℕ) → List ℕ
lines [] = []
lines (line ∷ more) = line ++ (10 ∷ lines more)

-- what these lines give for the attributes `player`, `x` and `health`
abbrev read : List (List ℕ) → Result Table UnitFault
read text = units_under (codes "player" ∷ codes "x" ∷ codes "health" ∷ []) (table_records (lines text))

abbrev header : List ℕ
header = codes "key,player,x,health"

abbrev unit : ℕ → List ℤ → Row
unit key values = record { key = key; values = values }

abbrev world : List Row → Table
world rows = record { width = 3; world = world_with rows }

columns_in_any_order : read (codes "health,key , x,player" ∷ codes "10, 1,0,1" ∷ codes "2,3,-0100, 2 " ∷ [])
    ≡ Ok (world (unit 1 (pos 1 ∷ pos 0 ∷ pos 10 ∷ []) ∷ unit 3 (pos 2 ∷ negsuc 99 ∷ pos 2 ∷ []) ∷ []))
unfolding csv_on_literals
columns_in_any_order = refl

rising_keys : read (header ∷ codes "30,0,0,3" ∷ codes "4,0,0,1" ∷ codes "5,0,0,2" ∷ [])
    ≡ Ok (world (unit 4 (pos 0 ∷ pos 0 ∷ pos 1 ∷ []) ∷ unit 5 (pos 0 ∷ pos 0 ∷ pos 2 ∷ []) ∷ unit 30 (pos 0 ∷ pos 0 ∷ pos 3 ∷ []) ∷ []))
unfolding csv_on_literals
rising_keys = refl

header_alone : read (header ∷ []) ≡ Ok (world [])
unfolding csv_on_literals
header_alone = refl

empty_lines : read ([] ∷ [] ∷ []) ≡ Err NoHeader
unfolding csv_on_literals
empty_lines = refl

twice_before_missing : read (codes "key,x,x" ∷ []) ≡ Err (TwiceColumn 3)
unfolding csv_on_literals
twice_before_missing = refl

extra_before_missing : read (codes "key,y" ∷ []) ≡ Err (ExtraColumn 2)
unfolding csv_on_literals
extra_before_missing = refl

least_missing : read (codes "health,key" ∷ codes "1" ∷ []) ≡ Err (MissingColumn 1)
unfolding csv_on_literals
least_missing = refl

key_twice : read (header ∷ codes "1,0,0,0" ∷ codes "2,0,0,0" ∷ codes "3,0,0,0" ∷ codes "02,0,0,q" ∷ []) ≡ Err (TwiceKey 4)
unfolding csv_on_literals
key_twice = refl

past_the_range : read (header ∷ codes "1,1,0,1000000000001" ∷ []) ≡ Err (OutOfRange 1 4)
unfolding csv_on_literals
past_the_range = refl

key_of_zero : read (header ∷ codes "0,1,0,1" ∷ []) ≡ Err (BadKey 1)
unfolding csv_on_literals
key_of_zero = refl

short_record : read (header ∷ codes "1,1,0" ∷ []) ≡ Err (Ragged 1)
unfolding csv_on_literals
short_record = refl

empty_field : read (header ∷ codes "1,1,0," ∷ []) ≡ Err (BadNumber 1 4)
unfolding csv_on_literals
empty_field = refl

first_of_two : read (header ∷ codes "1,q,0,1000000000001" ∷ codes "1" ∷ []) ≡ Err (BadNumber 1 2)
unfolding csv_on_literals
first_of_two = refl

three_lines : world_text (world (unit 1 (pos 1 ∷ negsuc 4 ∷ pos 10 ∷ []) ∷ [])).world (record { consts = codes "player" ∷ codes "x" ∷ codes "health" ∷ []; effects = []; fits = refl })
    ≡ lines (codes "# tick 0" ∷ header ∷ codes "1,1,-5,10" ∷ [])
unfolding digits
three_lines = refl
