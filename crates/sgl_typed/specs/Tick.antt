-- A tick, and the worlds of a run.
use Rattle.std.specs.Prelude.{ℕ, zero, suc, ◌+◌, ℤ, nat_lt, Bool, true, false, not, List, [], ◌∷◌, ◌++◌, map, flat_map, length, slice_set, Option, Some, None, Result, Ok, Err, if◌then◌else◌}
use Rattle.sgl_values.specs.Cells.{cell}
use Rattle.sgl_values.specs.Least.{least_of}
use Rattle.sgl_values.specs.ItemOrder.{fault_cmp, item_fault_cmp}
use Rattle.sgl_values.specs.Range.{in_range}
use Rattle.sgl_values.specs.World.{Row, World}
use Rattle.sgl_values.specs.declared.fault.Fault.{Fault}
use Rattle.sgl_values.specs.declared.fault.Val.{Val}
use Rattle.sgl_values.specs.declared.fault.Val.TheVariants.{N, B, F}
use Rattle.sgl_values.specs.declared.item.Item.{Item}
use Rattle.sgl_values.specs.declared.item.Item.TheVariants.{Effect, Faulty}
use Rattle.sgl_values.specs.declared.item.ItemFault.{ItemFault}
use Rattle.sgl_typed.specs.declared.schema.EffectAttr.{EffectAttr}
use Rattle.sgl_typed.specs.declared.script.TExpr.{TExpr}
use Rattle.sgl_typed.specs.declared.script.TRule.{TRule}
use Rattle.sgl_typed.specs.declared.script.TScript.{TScript}
use Rattle.sgl_typed.specs.declared.script.TSpawn.{TSpawn}
use Rattle.sgl_typed.specs.declared.tick_fault.TickFault.{TickFault}
use Rattle.sgl_typed.specs.declared.tick_fault.TickFault.TheVariants.{Items, Script, Cell, Post, KeysSpent, UnitsFull}
use Rattle.sgl_typed.specs.Value.{Context}
use Rattle.sgl_typed.specs.Aggregate.{simple_value}
use Rattle.sgl_typed.specs.Items.{start, tick_items}
use Rattle.sgl_values.specs.declared.limit.TheConstants.{ROWS_MAX}

-- ---- cells

-- the faults among items
abbrev pub item_faults : List Item → List ItemFault
item_faults [] = []
item_faults (Effect row attr amount ∷ items) = item_faults items
item_faults (Faulty fault ∷ items) = fault ∷ item_faults items

-- the cells of a row, one for each effect attribute; the first has this number
abbrev pub cells_from : List Item → ℕ → ℕ → List EffectAttr → List ℤ
cells_from items row number [] = []
cells_from items row number (effect ∷ effects) =
    cell effect.tag effect.init items row number ∷ cells_from items row (suc number) effects

-- a row and its cells
pub record CombinedRow : Type 0 where
  pub row : Row
  pub cells : List ℤ

-- rows with their cells; the first has this number
abbrev pub combined_from : TScript → List Item → ℕ → List Row → List CombinedRow
combined_from script items number [] = []
combined_from script items number (row ∷ rows) =
    record { row = row; cells = cells_from items number 0 script.schema.effects } ∷ combined_from script items (suc number) rows

-- the first of these cells that is outside the range; the first has this number
abbrev pub wide_cell : ℕ → List ℤ → Option ℕ
wide_cell number [] = None
wide_cell number (z ∷ zs) = if in_range z then wide_cell (suc number) zs else Some number

-- the refusal for an effect attribute of the row with this key, or else another one
abbrev pub cell_fault_or : ℕ → Option ℕ → Option TickFault → Option TickFault
cell_fault_or key None other = other
cell_fault_or key (Some attr) other = Some (Cell key attr)

-- the first row, and there the first effect attribute, whose cell is outside the range
abbrev pub cell_fault : List CombinedRow → Option TickFault
cell_fault [] = None
cell_fault (c ∷ cs) = cell_fault_or c.row.key (wide_cell 0 c.cells) (cell_fault cs)

-- ---- post

-- the context of `post`, where this row is the unit
abbrev pub post_context : TScript → World → ℕ → List ℤ → Row → Context
post_context script world seed cells row = record (start script world seed row) { combined = cells }

-- the values of the right sides, each with the number of its attribute
abbrev pub assigned : Context → List TRule → List (ℕ × Val)
assigned c = map (λ rule. (rule.attr, simple_value c rule.value))

-- the fault, where the value is one
abbrev pub fault_of : Val → List Fault
fault_of (N z) = []
fault_of (B b) = []
fault_of (F fault) = fault ∷ []

-- all assignments at once; a truth is assigned in no script
abbrev pub with_values : List (ℕ × Val) → List ℤ → List ℤ
with_values [] values = values
with_values ((attr, N z) ∷ more) values = slice_set (with_values more values) attr z
with_values ((attr, v) ∷ more) values = with_values more values

-- the row with its new values
abbrev pub new_row : Context → List TRule → Row
new_row c rules = record { key = c.unit.key; values = with_values (assigned c rules) c.unit.values }

-- the value of `spawn when` over the new values
abbrev pub spawn_value : Option TSpawn → Context → Val
spawn_value None c = B false
spawn_value (Some spawn) c = simple_value c spawn.cond

-- the rules of the block behind `spawn when`
abbrev pub spawn_rules : Option TSpawn → List TRule
spawn_rules None = []
spawn_rules (Some spawn) = spawn.rules

-- the value of `remove when` over the new values
abbrev pub removal_value : Option TExpr → Context → Val
removal_value None c = B false
removal_value (Some e) c = simple_value c e

-- the faults of right sides
abbrev pub faults_of : List (ℕ × Val) → List Fault
faults_of = flat_map (λ pair. fault_of pair.1)

-- the fault of `spawn when`; where it is true, the faults of its block
abbrev pub spawn_faults : Val → List Fault → List Fault
spawn_faults (B true) block = block
spawn_faults v block = fault_of v

-- the faults of the right sides; where there are none, those over the new values
abbrev pub post_faults_or : List Fault → List Fault → List Fault
post_faults_or [] later = later
post_faults_or faults later = faults

-- a condition is true
abbrev pub is_met : Val → Bool
is_met (B b) = b
is_met v = false

-- a row behind `post`: its faults, whether it stays, its new values, whether it has a child, and the values of that child
pub record Posted : Type 0 where
  pub faults : List Fault
  pub stays : Bool
  pub row : Row
  pub spawns : Bool
  pub child : List ℤ

-- a row behind `post`; its child has its new values with all assignments of the block at once
abbrev pub posted : TScript → World → ℕ → CombinedRow → Posted
posted script world seed combined =
    let before = post_context script world seed combined.cells combined.row in
    let row = new_row before script.rules in
    let after = post_context script world seed combined.cells row in
    let spawning = spawn_value script.spawn after in
    let block = assigned after (spawn_rules script.spawn) in
    let removal = removal_value script.removal after in
    record {
      faults = post_faults_or (faults_of (assigned before script.rules)) (spawn_faults spawning (faults_of block) ++ fault_of removal);
      stays = not (is_met removal);
      row = row;
      spawns = is_met spawning;
      child = with_values block row.values;
    }

-- the refusal for a fault of the row with this key, or else another one
abbrev pub post_fault_or : ℕ → Option Fault → Option TickFault → Option TickFault
post_fault_or key None other = other
post_fault_or key (Some fault) other = Some (Post key fault)

-- the first row with faults, and there the least
abbrev pub post_fault : List Posted → Option TickFault
post_fault [] = None
post_fault (p ∷ ps) = post_fault_or p.row.key (least_of fault_cmp p.faults) (post_fault ps)

-- the rows that stay
abbrev pub rows_left : List Posted → List Row
rows_left [] = []
rows_left (p ∷ ps) = if p.stays then p.row ∷ rows_left ps else rows_left ps

-- the children, in the order of their parents; their keys count up behind this one
abbrev pub children_behind : ℕ → List Posted → List Row
children_behind last [] = []
children_behind last (p ∷ ps) =
    if p.spawns then record { key = last + 1; values = p.child } ∷ children_behind (last + 1) ps else children_behind last ps

-- ---- a tick

-- the refusal for the least fault of an item
abbrev pub script_fault : Option ItemFault → Option TickFault
script_fault None = None
script_fault (Some item) = Some (Script item.key item.fault)

-- the first refusal, or else the world
abbrev pub unless : Option TickFault → Result World TickFault → Result World TickFault
unless None other = other
unless (Some fault) other = Err fault

-- there are too few keys for so many children behind this last key
abbrev pub keys_fault : ℕ → ℕ → Option TickFault
keys_fault last children = if nat_lt 4294967295 (last + children) then Some (KeysSpent last children) else None

-- there are too many units
abbrev pub units_fault : ℕ → Option TickFault
units_fault units = if nat_lt ROWS_MAX units then Some (UnitsFull units) else None

-- the next world: the rows that stay, and then the children
abbrev pub next_world : World → List Row → List Row → World
next_world world stay children = record { tick = world.tick + 1; last_key = world.last_key + length children; rows = stay ++ children }

-- the end of a tick behind its rows: a refusal, or the next world
abbrev pub after_rows : World → List Row → List Row → Result World TickFault
after_rows world stay children =
    unless (keys_fault world.last_key (length children)) (unless (units_fault (length stay + length children)) (Ok (next_world world stay children)))

-- the end of a tick behind `post`: a refusal, or the next world
abbrev pub after_post : World → List Posted → Result World TickFault
after_post world after = unless (post_fault after) (after_rows world (rows_left after) (children_behind world.last_key after))

-- the end of a tick behind its cells
abbrev pub after_cells : TScript → World → ℕ → List CombinedRow → Result World TickFault
after_cells script world seed combined = unless (cell_fault combined) (after_post world (map (posted script world seed) combined))

-- the end of a tick behind its items
abbrev pub after_items : TScript → World → ℕ → ℕ → List Item → Result World TickFault
after_items script world seed limit items =
    if nat_lt limit (length items)
    then Err (Items limit)
    else unless (script_fault (least_of item_fault_cmp (item_faults items))) (after_cells script world seed (combined_from script items 0 world.rows))

-- a tick: its refusal, or the next world
abbrev pub tick : TScript → World → ℕ → ℕ → Result World TickFault
tick script world seed limit = after_items script world seed limit (tick_items script world seed)

-- ---- a run

-- the worlds of a run, and the refusal at its end
pub record Run : Type 0 where
  pub worlds : List World
  pub end : Option TickFault

-- a run with this world before it
abbrev pub before : World → Run → Run
before world run = record { worlds = world ∷ run.worlds; end = run.end }

-- the run behind a tick, which a refusal ends
abbrev pub run_on : (World → Run) → Result World TickFault → Run
run_on go (Ok world) = go world
run_on go (Err fault) = record { worlds = []; end = Some fault }

-- the run from this world, of at most so many ticks
abbrev pub worlds : TScript → World → ℕ → ℕ → ℕ → Run
worlds script world seed limit zero = record { worlds = world ∷ []; end = None }
worlds script world seed limit (suc ticks) =
    before world (run_on (λ next. worlds script next seed limit ticks) (tick script world seed limit))
