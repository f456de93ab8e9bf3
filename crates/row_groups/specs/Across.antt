-- The ranks of rows by a second value.
use Rattle.std.specs.Prelude.{ℕ, ℤ, List, map, min, Option}
use Rattle.sgl_values.specs.World.{World}
use Rattle.sgl_typed.specs.declared.script.Attr.{Attr}
use Rattle.rank_table.specs.Ranks.{count_below}
use Rattle.row_groups.specs.declared.ranked.Ranked.{Ranked}
use Rattle.row_groups.specs.Keys.{along}

-- the values of all rows
abbrev pub values_across : Option Attr → World → List ℤ
values_across across world = map (along across) world.rows

-- how many of these numbers are less than the second value of a row; a row that has one of them has fewer than all
abbrev pub rank_in : List ℤ → Ranked → ℕ
rank_in numbers ranked = min (count_below ranked.across numbers) 65535
