-- Runs of scripts that spawn, computed from the definitions.
use Rattle.std.proofs.Common.{◌≡◌, ℕ, zero, suc, ◌+◌, ℤ, pos, List, [], ◌∷◌, ◌++◌, length, map, Option, Some, None, Ok, Err, refl, ap, ◌∙◌, length-append, true}
use Rattle.std.specs.Prelude.{codes}
use denote.Hole.Carrier.{hidden}
use Rattle.sgl_values.specs.World.{Row, World}
use Rattle.sgl_values.specs.declared.operator.BinOp.TheVariants.{Add, Sub, Mul, Cmp}
use Rattle.sgl_values.specs.declared.operator.CmpOp.TheVariants.{Eq, Lt, Gt}
use Rattle.sgl_typed.specs.declared.script.Attr.TheVariants.{Key}
use Rattle.sgl_typed.specs.declared.script.TExpr.{TExpr}
use Rattle.sgl_typed.specs.declared.script.TExpr.TheVariants.{Truth, Unit as OfUnit}
use Rattle.sgl_typed.specs.declared.script.TExpr.TheBlock.{shape-the_row-TExpr-0, hidden-the_row-TExpr-0, shape-the_row-TExpr-1, hidden-the_row-TExpr-1}
use Rattle.sgl_typed.specs.declared.script.TRule.{TRule}
use Rattle.sgl_typed.specs.declared.script.TScript.{TScript}
use Rattle.sgl_typed.specs.declared.script.TStmt.TheBlock.{shape-the_row-TStmt-0, hidden-the_row-TStmt-0}
use Rattle.sgl_typed.specs.declared.tick_fault.TickFault.TheVariants.{KeysSpent, UnitsFull}
use Rattle.sgl_typed.specs.Items.{items_of}
use Rattle.sgl_typed.specs.Tick.{Posted, after_items, after_post, after_rows, cell_fault, children_behind, combined_from, keys_fault, next_world, post_fault, posted, rows_left, tick, units_fault, unless, worlds}
use Rattle.sgl_typed.specs.WellFormed.{is_well_formed}
use Rattle.sgl_typed.proofs.ExampleWords.{number, calc, u, assign, unit, world_behind, world, through, script_of, parts, Parts, Fit, Example}

-- a script of one const attribute that does nothing but `post`
abbrev spawning : List TRule → TExpr → List TRule → Option TExpr → Parts
spawning rules cond block removal = record (parts (codes "n" ∷ []) [] [] [] [] 0 rules removal) { spawn = Some record { cond = cond; rules = block } }

abbrev tenfold_parts : Parts
tenfold_parts = spawning (assign 0 (calc Sub (u 0) (number 1)) ∷ []) (calc (Cmp Gt) (u 0) (number 0)) (assign 0 (calc Mul (u 0) (number 10)) ∷ [])
    (Some (calc (Cmp Lt) (u 0) (number 0)))

-- a unit that is removed spawns none here; a child has a child in its turn, of the new values
spawns_tenfold : Example tenfold_parts (λ script. worlds script (world_behind 0 5 (unit 1 (pos 0 ∷ []) ∷ unit 5 (pos 2 ∷ []) ∷ [])) 0 8000000 2
    ≡ through (world_behind 0 5 (unit 1 (pos 0 ∷ []) ∷ unit 5 (pos 2 ∷ []) ∷ [])
    ∷ world_behind 1 6 (unit 5 (pos 1 ∷ []) ∷ unit 6 (pos 10 ∷ []) ∷ [])
    ∷ world_behind 2 7 (unit 5 (pos 0 ∷ []) ∷ unit 6 (pos 9 ∷ []) ∷ unit 7 (pos 90 ∷ []) ∷ []) ∷ []))
unfolding shape-the_row-TExpr-0 hidden-the_row-TExpr-0 shape-the_row-TExpr-1 hidden-the_row-TExpr-1 shape-the_row-TStmt-0 hidden-the_row-TStmt-0 hidden is_well_formed
spawns_tenfold = record { fit = record { names = refl; rest = refl }; so = refl }

abbrev gap_parts : Parts
gap_parts = spawning (assign 0 (calc Add (u 0) (number 1)) ∷ []) (calc (Cmp Eq) (u 0) (number 2)) (assign 0 (number 50) ∷ [])
    (Some (calc (Cmp Eq) (OfUnit Key) (number 9)))

-- the key of a unit that is gone does not come again
leaves_the_gap : Example gap_parts (λ script. worlds script (world_behind 0 9 (unit 1 (pos 0 ∷ []) ∷ unit 9 (pos 0 ∷ []) ∷ [])) 0 8000000 2
    ≡ through (world_behind 0 9 (unit 1 (pos 0 ∷ []) ∷ unit 9 (pos 0 ∷ []) ∷ [])
    ∷ world_behind 1 9 (unit 1 (pos 1 ∷ []) ∷ [])
    ∷ world_behind 2 10 (unit 1 (pos 2 ∷ []) ∷ unit 10 (pos 50 ∷ []) ∷ []) ∷ []))
unfolding shape-the_row-TExpr-0 hidden-the_row-TExpr-0 shape-the_row-TExpr-1 hidden-the_row-TExpr-1 shape-the_row-TStmt-0 hidden-the_row-TStmt-0 hidden is_well_formed
leaves_the_gap = record { fit = record { names = refl; rest = refl }; so = refl }

abbrev doubles_parts : Parts
doubles_parts = spawning [] (calc (Cmp Eq) (u 0) (number 1)) (assign 0 (number 2) ∷ []) None

doubles_fit : Fit doubles_parts
unfolding shape-the_row-TExpr-0 hidden-the_row-TExpr-0 shape-the_row-TExpr-1 hidden-the_row-TExpr-1 shape-the_row-TStmt-0 hidden-the_row-TStmt-0 hidden is_well_formed
doubles_fit = record { names = refl; rest = refl }

abbrev doubles : TScript
doubles = script_of doubles_parts doubles_fit

-- there is no key behind the greatest
spends_all_keys : worlds doubles (world_behind 0 4294967295 (unit 4294967295 (pos 1 ∷ []) ∷ [])) 0 8000000 1
    ≡ record { worlds = world_behind 0 4294967295 (unit 4294967295 (pos 1 ∷ []) ∷ []) ∷ []; end = Some (KeysSpent 4294967295 1) }
unfolding shape-the_row-TExpr-0 hidden-the_row-TExpr-0 shape-the_row-TExpr-1 hidden-the_row-TExpr-1 shape-the_row-TStmt-0 hidden-the_row-TStmt-0 hidden
spends_all_keys = refl

-- the last key may be given
gives_the_last_key : tick doubles (world_behind 0 4294967294 (unit 7 (pos 1 ∷ []) ∷ [])) 0 8000000 ≡ Ok (world_behind 1 4294967295 (unit 7 (pos 1 ∷ []) ∷ unit 4294967295 (pos 2 ∷ []) ∷ []))
unfolding shape-the_row-TExpr-0 hidden-the_row-TExpr-0 shape-the_row-TExpr-1 hidden-the_row-TExpr-1 shape-the_row-TStmt-0 hidden-the_row-TStmt-0 hidden
gives_the_last_key = refl

-- ---- at the limit on units

-- so many units with this value, whose keys count up from behind this one
alike : ℤ → ℕ → ℕ → List Row
alike value last zero = []
alike value last (suc count) = record { key = last + 1; values = value ∷ [] } ∷ alike value (last + 1) count

alike-length : (value : ℤ) (last count : ℕ) → length (alike value last count) ≡ count
unfolding alike
alike-length value last zero = refl
alike-length value last (suc count) = ap suc (alike-length value (last + 1) count)

abbrev ones : ℕ → ℕ → List Row
ones = alike (pos 1)

abbrev twos : ℕ → ℕ → List Row
twos = alike (pos 2)

no_items : (world : World) (rows : List Row) → items_of doubles world 0 rows ≡ []
no_items world [] = refl
no_items world (row ∷ rows) = no_items world rows

no_cells_wide : (rows : List Row) (number : ℕ) → cell_fault (combined_from doubles [] number rows) ≡ None
no_cells_wide [] number = refl
no_cells_wide (row ∷ rows) number = no_cells_wide rows (suc number)

abbrev behind : World → ℕ → List Row → List Posted
behind world number rows = map (posted doubles world 0) (combined_from doubles [] number rows)

no_faults : (world : World) (last count number : ℕ) → post_fault (behind world number (ones last count)) ≡ None
unfolding alike shape-the_row-TExpr-0 hidden-the_row-TExpr-0 shape-the_row-TExpr-1 hidden-the_row-TExpr-1 shape-the_row-TStmt-0 hidden-the_row-TStmt-0 hidden
no_faults world last zero number = refl
no_faults world last (suc count) number = no_faults world (last + 1) count (suc number)

all_stay : (world : World) (last count number : ℕ) → rows_left (behind world number (ones last count)) ≡ ones last count
unfolding alike shape-the_row-TExpr-0 hidden-the_row-TExpr-0 shape-the_row-TExpr-1 hidden-the_row-TExpr-1 shape-the_row-TStmt-0 hidden-the_row-TStmt-0 hidden
all_stay world last zero number = refl
all_stay world last (suc count) number = ap (λ rows. record { key = last + 1; values = pos 1 ∷ [] } ∷ rows) (all_stay world (last + 1) count (suc number))

all_spawn : (world : World) (key last count number : ℕ) → children_behind last (behind world number (ones key count)) ≡ twos last count
unfolding alike shape-the_row-TExpr-0 hidden-the_row-TExpr-0 shape-the_row-TExpr-1 hidden-the_row-TExpr-1 shape-the_row-TStmt-0 hidden-the_row-TStmt-0 hidden
all_spawn world key last zero number = refl
all_spawn world key last (suc count) number = ap (λ rows. record { key = last + 1; values = pos 2 ∷ [] } ∷ rows) (all_spawn world (key + 1) (last + 1) count (suc number))

-- units with the keys from 1 to this number
abbrev crowd : ℕ → World
crowd count = record { tick = 0; last_key = count; rows = ones 0 count }

doubled : (count : ℕ) → tick doubles (crowd count) 0 8000000 ≡ after_rows (crowd count) (ones 0 count) (twos count count)
doubled count =
    ap (after_items doubles (crowd count) 0 8000000) (no_items (crowd count) (ones 0 count))
    ∙ ap (λ fault. unless fault (after_post (crowd count) (behind (crowd count) 0 (ones 0 count)))) (no_cells_wide (ones 0 count) 0)
    ∙ (λ i. unless (no_faults (crowd count) 0 count 0 i) (after_rows (crowd count) (all_stay (crowd count) 0 count 0 i) (all_spawn (crowd count) 0 count count 0 i)))

-- the end of a tick, by how many rows there are
counted : (world : World) (stay children : List Row) (units more : ℕ) → length stay ≡ units → length children ≡ more
    → after_rows world stay children ≡ unless (keys_fault world.last_key more) (unless (units_fault (units + more)) (Ok (next_world world stay children)))
counted world stay children units more some others =
    λ i. unless (keys_fault world.last_key (others i)) (unless (units_fault (some i + others i)) (Ok (next_world world stay children)))

-- so many units may be
fills_the_world : tick doubles (crowd 32768) 0 8000000 ≡ Ok (next_world (crowd 32768) (ones 0 32768) (twos 32768 32768))
fills_the_world = doubled 32768 ∙ counted (crowd 32768) (ones 0 32768) (twos 32768 32768) 32768 32768 (alike-length (pos 1) 0 32768) (alike-length (pos 2) 32768 32768)

has_65_536_rows : length (ones 0 32768 ++ twos 32768 32768) ≡ 65536
has_65_536_rows = length-append (ones 0 32768) (twos 32768 32768) ∙ (λ i. alike-length (pos 1) 0 32768 i + alike-length (pos 2) 32768 32768 i)

-- one parent more is refused
is_above_65_536_rows : tick doubles (crowd 32769) 0 8000000 ≡ Err (UnitsFull 65538)
is_above_65_536_rows = doubled 32769 ∙ counted (crowd 32769) (ones 0 32769) (twos 32769 32769) 32769 32769 (alike-length (pos 1) 0 32769) (alike-length (pos 2) 32769 32769)

-- ---- children and their parents

abbrev removed_parent_parts : Parts
removed_parent_parts = spawning [] (Truth true) (assign 0 (OfUnit Key) ∷ []) (Some (calc (Cmp Gt) (u 0) (number 0)))

-- a parent that is removed has a child too; children stand in the order of their parents
removed_parents_spawn : Example removed_parent_parts (λ script. tick script (world_behind 3 20 (unit 4 (pos 0 ∷ []) ∷ unit 6 (pos 1 ∷ []) ∷ unit 8 (pos 0 ∷ []) ∷ [])) 0 8000000
    ≡ Ok (world_behind 4 23 (unit 4 (pos 0 ∷ []) ∷ unit 8 (pos 0 ∷ []) ∷ unit 21 (pos 4 ∷ []) ∷ unit 22 (pos 6 ∷ []) ∷ unit 23 (pos 8 ∷ []) ∷ [])))
unfolding shape-the_row-TExpr-0 hidden-the_row-TExpr-0 shape-the_row-TExpr-1 hidden-the_row-TExpr-1 shape-the_row-TStmt-0 hidden-the_row-TStmt-0 hidden is_well_formed
removed_parents_spawn = record { fit = record { names = refl; rest = refl }; so = refl }
