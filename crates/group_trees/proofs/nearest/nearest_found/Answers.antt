use Rattle.std.proofs.Common.{◌∙◌, ap, map, sym}
use Rattle.sgl_typed.specs.Aggregate.{made}
use Rattle.sgl_evaluate.specs.Frame.{context_of}
use Rattle.sgl_evaluate.specs.Rights.{passes_each, right_of}
use Rattle.nearest_tree.specs.Nearest.{nearest_of}
use Rattle.row_groups.specs.Keys.{four_of}
use Rattle.test_boxes.specs.Others.{other_asked}
use Rattle.test_boxes.specs.Readings.{grouping}
use Rattle.test_boxes.specs.declared.reading.Reading.TheVariants.{Away}
use Rattle.std.specs.Prelude.{filter}
use Rattle.group_trees.specs.Nearby.{key_or}
use Rattle.group_trees.specs.Points.{points_under}
use Rattle.group_trees.proofs.Finding.{nearest-found}
use Rattle.group_trees.proofs.nearest.nearest_found.Goals as goal

pub returns : goal.returns
returns c =
    let agg = c.args.agg.now in
    let context = context_of c.args.asking.now.frame.now in
    let right = right_of context in
    let tests = c.as_slice-tests.ensures in
    let other = c.other_asked.ensures ∙ ap (other_asked right) tests in
    let key = c.asked_key-key.ensures ∙ ap (λ tests. four_of (map right (grouping Away tests))) tests in
    c.key_or.ensures
    ∙ ap (key_or agg.otherwise) (c.nearest-found.ensures
    ∙ (λ i. nearest_of (c.attribute_of-x.ensures i) (c.attribute_of-y.ensures i) (other i) (points_under c.args.trees.now (key i))))
    ∙ nearest-found c.nearest_ignores_order.ensures c.args.trees.now agg context c.requires.few c.requires.unbounded c.requires.trees
    ∙ sym (ap (λ kind. made kind agg context.unit (filter (passes_each context agg.tests) context.world.rows)) c.requires.kind)
