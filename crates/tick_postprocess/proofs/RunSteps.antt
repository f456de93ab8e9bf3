-- Runs of rows, one behind the other.
use Rattle.std.proofs.Common.{◌≡◌, ℕ, ◌+◌, ◌≤◌, List, ◌++◌, length, drop, ap, sym, ◌∙◌, arith, append_assoc, Result, Ok, Err}
use Rattle.std.specs.Prelude.{IfOk}
use Rattle.sgl_values.specs.World.{Row}
use Rattle.sgl_typed.specs.Tick.{Posted, rows_left}
use Rattle.env_table.specs.Table.{Building, Table, IsTable}
use Rattle.tick_postprocess.specs.Rows.{IsHalf, IsReady}
use Rattle.tick_postprocess.specs.Runs.{key_before, IsRunOf, IsRunOut}
use Rattle.tick_postprocess.specs.declared.fault.PostFault.{PostFault}
use Rattle.tick_postprocess.specs.declared.next_world.Counts.{Counts}
use Rattle.tick_postprocess.proofs.KeySteps.{key_up_to}

-- two runs, one behind the other
pub runs_join : (all : List Posted) (first middle end : ℕ) (rows more : List Row) (children others : ℕ) → IsRunOf all first middle rows children → IsRunOf all middle end more others
    → IsRunOf all first end (rows ++ more) (children + others)
runs_join all first middle end rows more children others front back = record {
  faults = front.faults ∙ back.faults;
  left = front.left ∙ ap (λ rest. rows ++ rest) back.left ∙ sym (append_assoc rows more (rows_left (drop end all)));
  born = omega (arith, front.born, back.born);
}

-- a run of all rows
pub half_of : (world : Table) (old new : Building) (end : ℕ) (result : Result Counts PostFault) → IsTable world → end ≡ length world.world.rows → IsReady old world
    → new.table.world.last_key ≤ key_before world.world end → IfOk result (λ counts. IsRunOut world 0 end old counts new) → IfOk result (λ counts. IsHalf new world counts.stay counts.children)
half_of world old new end (Err fault) table is ready last out = tt
half_of world old new end (Ok counts) table is ready last out = record {
  width = out.width;
  tick = out.tick ∙ ap (λ (b : Table). b.world.tick) ready.empty;
  rows = out.rows;
  few = omega (arith, out.few, is);
  births = omega (arith, out.births, is);
  last = let up = key_up_to world.world end table.fits.up_to (omega (arith, is)) in omega (arith, up, last);
  room = omega (arith, ready.room, out.room);
}
