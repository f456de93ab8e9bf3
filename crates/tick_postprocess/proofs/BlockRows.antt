-- What a block holds of one of its rows.
use Rattle.std.proofs.Common.{◌≡◌, ℕ, ◌+◌, ◌-◌, ◌<◌, List, None, ap, sym, ◌∙◌, arith}
use Rattle.std.specs.Prelude.{slice_index_or}
use Rattle.sgl_values.specs.ItemOrder.{fault_cmp}
use Rattle.sgl_values.specs.Least.{least_of}
use Rattle.sgl_values.specs.World.{row_at}
use Rattle.sgl_values.specs.declared.item.Item.{Item}
use Rattle.sgl_typed.specs.Tick.{assigned, cells_from, faults_of, new_row, post_context, wide_cell, with_values}
use Rattle.sgl_typed.specs.Value.{Context}
use Rattle.tick_postprocess.specs.Answer.{AreWords}
use Rattle.tick_postprocess.specs.Blocks.{cells_in, context_in, values_in, HasRow, IsBlock}
use Rattle.tick_postprocess.specs.declared.block.Block.{Block}
use Rattle.tick_postprocess.specs.declared.row.Ending.{Ending}

-- what the expressions of the row with this number read in front of the assignments
abbrev pub before : Ending → List Item → ℕ → Context
before e items number = post_context e.tick.script.now e.tick.world.now.world e.tick.seed (cells_from items number 0 e.tick.script.now.schema.effects) (row_at e.tick.world.now.world number)

-- and behind them
abbrev pub after : Ending → List Item → ℕ → Context
after e items number =
    post_context e.tick.script.now e.tick.world.now.world e.tick.seed (cells_from items number 0 e.tick.script.now.schema.effects)
    record { key = (row_at e.tick.world.now.world number).key; values = (new_row (before e items number) e.tick.script.now.rules).values }

-- the row's lane has its cells and its new values, and no assignment has a fault
pub record HoldsRow (e : Ending) (b : Block) (items : List Item) (number : ℕ) : Type 0 where
  pub at : b.first + (number - b.first) ≡ number
  pub inside : b.first + (number - b.first) < b.end
  pub cells : cells_in e b.cells (number - b.first) ≡ cells_from items number 0 e.tick.script.now.schema.effects
  pub values : values_in e b.changed (number - b.first) ≡ (new_row (before e items number) e.tick.script.now.rules).values
  pub clear : least_of fault_cmp (faults_of (assigned (before e items number) e.tick.script.now.rules)) ≡ None

pub holds_row : (e : Ending) (b : Block) (items : List Item) (number : ℕ) → IsBlock e b → HasRow b number → AreWords e.tick.script.now.schema.effects e.combined.now items
    → wide_cell 0 (cells_from items number 0 e.tick.script.now.schema.effects) ≡ None → slice_index_or b.faults (number - b.first) None ≡ None → HoldsRow e b items number
holds_row e b items number block row words none quiet =
    let script = e.tick.script.now in
    let world = e.tick.world.now.world in
    let lane = number - b.first in
    let at : b.first + lane ≡ number = omega (arith, row.from) in
    let inside : b.first + lane < b.end = omega (arith, row.from, row.below) in
    let narrow : wide_cell 0 (cells_from items (b.first + lane) 0 script.schema.effects) ≡ None = ap (λ n. wide_cell 0 (cells_from items n 0 script.schema.effects)) at ∙ none in
    let cells : cells_in e b.cells lane ≡ cells_from items number 0 script.schema.effects =
    block.cells lane inside items words narrow ∙ ap (λ n. cells_from items n 0 script.schema.effects) at in
    let same : context_in e b.first b.cells lane ≡ before e items number = λ i. post_context script world e.tick.seed (cells i) (row_at world (at i)) in
    let is = block.assigned lane inside in
    record {
      at = at;
      inside = inside;
      cells = cells;
      values = is.values ∙ ap (λ (x : Context). with_values (assigned x script.rules) x.unit.values) same;
      clear = sym (sym quiet ∙ is.fault ∙ ap (λ (x : Context). least_of fault_cmp (faults_of (assigned x script.rules))) same);
    }
