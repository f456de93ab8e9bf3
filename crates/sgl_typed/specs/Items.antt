-- What a unit's statements give.
use Rattle.std.specs.Prelude.{ℕ, ◌+◌, ◌*◌, take, drop, ℤ, pos, negsuc, nat_le, true, List, [], ◌∷◌, ◌++◌, map, flat_map, slice_get, slice_set, replicate, Option, Some, None, Result, Ok, Err, if◌then◌else◌}
use Rattle.sgl_values.specs.Amounts.{plain_amount}
use Rattle.sgl_values.specs.World.{Row, World}
use Rattle.sgl_values.specs.declared.fault.ArithFault.TheVariants.{Priority}
use Rattle.sgl_values.specs.declared.fault.Fault.{Fault}
use Rattle.sgl_values.specs.declared.fault.Val.{Val}
use Rattle.sgl_values.specs.declared.fault.Val.TheVariants.{N, B, F}
use Rattle.sgl_values.specs.declared.item.Item.{Item}
use Rattle.sgl_values.specs.declared.item.Item.TheVariants.{Effect, Faulty}
use Rattle.sgl_values.specs.declared.place.Place.{Place}
use Rattle.sgl_typed.specs.declared.script.TAction.{TAction}
use Rattle.sgl_typed.specs.declared.script.TExpr.{TExpr}
use Rattle.sgl_typed.specs.declared.script.TOn.{TOn}
use Rattle.sgl_typed.specs.declared.script.TScript.{TScript}
use Rattle.sgl_typed.specs.declared.script.TStmt.{TStmt, Row_of-TStmt, end_of-TStmt, more_of-TStmt}
use Rattle.sgl_typed.specs.declared.script.TStmt.TheVariants.{Let, If', Act, Call}
use Rattle.sgl_typed.specs.declared.script.TWrite.{TWrite}
use Rattle.sgl_typed.specs.Value.{Context}
use Rattle.sgl_typed.specs.Aggregate.{simple_value, value, right_sides, passes}
use Rattle.sgl_values.specs.declared.limit.TheConstants.{TASK_ROWS}

-- ---- one `on` clause

-- a fault of the unit with this key
abbrev pub faulty : ℕ → Fault → ℕ → Item
faulty key fault target = Faulty record { key = key; fault = fault; target = target }

-- a number as a priority, which is from 0 to 1,000,000
abbrev pub priority_of : ℤ → Option ℕ
priority_of (pos n) = if nat_le n 1000000 then Some n else None
priority_of (negsuc n) = None

-- an amount for an effect attribute of the row with this number, or a fault at the word `by` where there is no priority
abbrev pub ranked : Context → ℕ → ℕ → ℤ → Place → Option ℕ → Item
ranked c row effect value place (Some priority) = Effect row effect record { value = value; priority = priority }
ranked c row effect value place None = faulty c.unit.key record { kind = Priority; place = place } c.target.key

-- the same by the value of the priority; a truth is the priority of no write
abbrev pub by_priority : Context → ℕ → ℕ → ℤ → Place → Val → Item
by_priority c row effect value place (N z) = ranked c row effect value place (priority_of z)
by_priority c row effect value place (B b) = ranked c row effect value place (Some 0)
by_priority c row effect value place (F fault) = faulty c.unit.key fault c.target.key

-- the same by what is written, and with the priority 0 where none is
abbrev pub by_written : Context → ℕ → ℕ → ℤ → Option (Place × TExpr) → Item
by_written c row effect value None = Effect row effect (plain_amount value)
by_written c row effect value (Some by) = by_priority c row effect value by.0 (simple_value c by.1)

-- the same by the value; a truth is the value of no write
abbrev pub written : Context → ℕ → TWrite → Val → Item
written c row write (N value) = by_written c row write.effect value write.by
written c row write (B b) = by_written c row write.effect (pos 0) write.by
written c row write (F fault) = faulty c.unit.key fault c.target.key

-- the writes at the target, which has this number
abbrev pub writes : Context → ℕ → List TWrite → List Item
writes c row = map (λ write. written c row write (simple_value c write.amount))

-- the writes at a row with this number, where it passes
abbrev pub row_items : Context → TOn → List ℤ → ℕ → Row → List Item
row_items c clause rights number row =
    if passes c.unit clause.tests rights row then writes (record c { target = row }) number clause.writes else []

-- those at each of these rows; the first has this number
abbrev pub rows_items : Context → TOn → List ℤ → ℕ → List Row → List Item
rows_items c clause rights number [] = []
rows_items c clause rights number (row ∷ rows) = row_items c clause rights number row ++ rows_items c clause rights (number + 1) rows

-- the fault of a right side, or the writes at each row that passes
abbrev pub clause_given : Context → TOn → Result (List ℤ) Fault → List Item
clause_given c clause (Err fault) = faulty c.unit.key fault 0 ∷ []
clause_given c clause (Ok rights) = rows_items c clause rights 0 c.world.rows

-- the items of an `on` clause
abbrev pub clause_items : Context → TOn → List Item
clause_items c clause = clause_given c clause (right_sides c clause.tests)

-- the items of an action, clause by clause; no script performs an action that it lacks
abbrev pub action_items : Context → Option TAction → List Item
action_items c None = []
action_items c (Some action) = flat_map (clause_items c) action.ons

-- ---- statements

-- the context behind a statement
abbrev pub after : TStmt → Context → Context
after (Let slot e place) c = record c { slots = slice_set c.slots slot (value c e) }
after statement c = c

-- a fault, or the items of the chosen block; a number is the condition of no `if`
abbrev pub chosen : Context → Val → List Item → List Item → List Item
chosen c (F fault) taken other = faulty c.unit.key fault 0 ∷ []
chosen c (B true) taken other = taken
chosen c v taken other = other

-- the items of a statement; in a script that is written out there are no calls
abbrev mutual
  pub statement_items : TStmt → Context → List Item
  statement_items (Let slot e place) c = []
  statement_items (If' cond place shape taken shape' other) c =
      chosen c (value c cond) (block_items taken c) (block_items other c)
  statement_items (Act action args place) c =
      action_items (record c { slots = map (value c) args }) (slice_get c.script.actions action)
  statement_items (Call routine args places) c = []

  pub block_items : {m : _} → Row_of-TStmt m → Context → List Item
  block_items end_of-TStmt c = []
  block_items (more_of-TStmt statement rest) c = statement_items statement c ++ block_items rest (after statement c)

-- the items of a list of statements
abbrev pub items : List TStmt → Context → List Item
items [] c = []
items (statement ∷ rest) c = statement_items statement c ++ items rest (after statement c)

-- ---- a tick

-- a unit at the start of a tick, with so many slots, of which none is set
abbrev pub start_with : ℕ → TScript → World → ℕ → Row → Context
start_with slots script world seed unit = record {
  script = script;
  world = world;
  seed = seed;
  unit = unit;
  slots = replicate slots (N (pos 0));
  target = unit;
  combined = [];
}

-- a unit at the start of a tick
abbrev pub start : TScript → World → ℕ → Row → Context
start script = start_with script.slots script

-- the items of one unit
abbrev pub unit_items : TScript → World → ℕ → Row → List Item
unit_items script world seed unit = items script.main (start script world seed unit)

-- the items of these units, unit by unit
abbrev pub items_of : TScript → World → ℕ → List Row → List Item
items_of script world seed = flat_map (unit_items script world seed)

-- the items of a tick
abbrev pub tick_items : TScript → World → ℕ → List Item
tick_items script world seed = items_of script world seed world.rows

-- the rows of a task, which are 64 where there are so many left
abbrev pub task_rows : List Row → ℕ → List Row
task_rows rows task = take TASK_ROWS (drop (task * TASK_ROWS) rows)

-- the items of a task
abbrev pub task_items : TScript → World → ℕ → ℕ → List Item
task_items script world seed task = items_of script world seed (task_rows world.rows task)
