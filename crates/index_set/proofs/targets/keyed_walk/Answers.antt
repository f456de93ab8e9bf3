use Rattle.std.proofs.Common.{rules, ◌∙◌, ap, []}
use Rattle.std.specs.Prelude.{filter}
use Rattle.sgl_values.specs.World.{Row, row_at}
use Rattle.sgl_evaluate.specs.Frame.{context_of}
use Rattle.sgl_evaluate.specs.Rights.{passes_each}
use Rattle.index_set.specs.Walks.{row_passes}
use Rattle.index_set.proofs.Aiming.{none_rest, one_row, key_rest, only_keyed, same_rows}
use Rattle.index_set.proofs.targets.keyed_walk.Goals as goal

pub returns-in-None : goal.returns-in-None
returns-in-None c = record {
  within = search rules;
  rest = same_rows _ _ (none_rest (context_of c.args.frame.now) c.args.tests.now c.args.key c.requires.key c.in-None.ensures.missing);
  enough = search rules;
}

pub returns-in-Some : goal.returns-in-Some
returns-in-Some c =
    let none : Row = record { key = 0; values = [] } in
    let ctx = context_of c.args.frame.now in
    record {
      within = search rules;
      rest = same_rows _ _ (ap (filter (row_passes ctx c.args.tests.now)) (one_row c.in-Some.row)
          ∙ key_rest (passes_each ctx c.args.tests.now) c.args.frame.now.tick.world.now.world.rows c.in-Some.row none c.len.ensures.table.fits.rising c.in-Some.ensures.within
          (only_keyed ctx c.args.tests.now c.args.key (row_at c.args.frame.now.tick.world.now.world c.in-Some.row) c.requires.key c.in-Some.ensures.found));
      enough = search rules;
    }
