use Rattle.std.proofs.Common.{◌∙◌, ap, []}
use Rattle.std.specs.Prelude.{filter}
use Rattle.sgl_values.specs.World.{Row}
use Rattle.sgl_evaluate.specs.Frame.{context_of}
use Rattle.sgl_evaluate.specs.Rights.{passes_each}
use Rattle.index_set.specs.Walks.{row_passes}
use Rattle.index_set.proofs.Aiming.{same_rows, scan_rest}
use Rattle.index_set.proofs.targets.scan_walk.Goals as goal

pub returns : goal.returns
returns c =
    let none : Row = record { key = 0; values = [] } in
    let context = context_of c.args.frame.now in
    record {
      within = c.all_rows.ensures.within;
      rest = same_rows _ _ (ap (filter (row_passes context c.args.tests.now)) c.all_rows.ensures.rest
          ∙ scan_rest (passes_each context c.args.tests.now) c.args.frame.now.tick.world.now.world.rows none);
      enough = c.all_rows.ensures.enough context c.args.tests.now;
    }
