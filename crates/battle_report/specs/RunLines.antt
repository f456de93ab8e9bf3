-- The lines of worlds, plans and spectators.
use Rattle.std.specs.Prelude.{ℕ, List, [], ◌∷◌, ◌++◌, map, flat_map, length, codes, decimal}
use Rattle.std.specs.Fmt.{signed_decimal}
use Rattle.std.specs.List.{concat, range_with_len}
use Rattle.sgl_values.specs.World.{Row, World}
use Rattle.sgl_typed.specs.declared.script.Attr.TheVariants.{Const}
use Rattle.sgl_typed.specs.Aggregate.{sum_of}
use Rattle.env_table.specs.Table.{Table}
use Rattle.battle_report.specs.declared.watch_line.Look.{Look}
use Rattle.battle_report.specs.Lines.{numbered, twice_numbered}

-- ---- summaries

-- at which tick a world is, and how many units it has
abbrev pub units_text : World → List ℕ
units_text world = twice_numbered (codes "tick ") world.tick (codes " units ") (length world.rows) (codes " sums")

-- the exact sum of a const attribute over rows, behind a space
abbrev pub sum_text : List Row → ℕ → List ℕ
sum_text rows attr = 32 ∷ signed_decimal (sum_of (Const attr) rows)

-- the sums of so many const attributes, from the first on
abbrev pub sums_text : ℕ → List Row → List ℕ
sums_text width rows = concat (map (sum_text rows) (range_with_len 0 width))

-- the summary of a world
abbrev pub summary_line : Table → List ℕ
summary_line table = units_text table.world ++ (sums_text table.width table.world.rows ++ (10 ∷ []))

-- ---- entries

-- a number behind a head, and then its entries
abbrev pub entries_line : {A : Type 0} → List ℕ → ℕ → (A → List ℕ) → List A → List ℕ
entries_line head number text_of entries = numbered head number (codes ":") ++ (flat_map text_of entries ++ codes "\n")

-- ---- plans

-- how many frames reached a node, behind a space
abbrev pub count_text : ℕ → List ℕ
count_text count = 32 ∷ decimal count

-- how many frames reached each node of a plan in a tick
abbrev pub reach_line : ℕ → List ℕ → List ℕ
reach_line tick counts = entries_line (codes "# reach ") tick count_text counts

-- ---- spectators

-- the tick of the world that was seen, and how many units it has, behind a space
abbrev pub look_text : Look → List ℕ
look_text look = 32 ∷ (decimal look.tick ++ (58 ∷ decimal look.units))

-- what a spectator saw, look by look
abbrev pub watch_line : ℕ → List Look → List ℕ
watch_line number looks = entries_line (codes "# watch ") number look_text looks
