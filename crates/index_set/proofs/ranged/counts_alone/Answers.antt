use Rattle.std.proofs.Common.{◌∙◌, ap, sym}
use Rattle.std.specs.List.{list_any}
use Rattle.std.proofs.lemmas.Bool.{not-true}
use Rattle.test_boxes.specs.Readings.{groups_by}
use Rattle.test_boxes.specs.declared.reading.Reading.TheVariants.{Away}
use Rattle.index_set.proofs.Ranging.{none_groups}
use Rattle.index_set.proofs.ranged.counts_alone.Goals as goal

pub returns-then-eq-clause-alone : goal.returns-then-eq-clause-alone
returns-then-eq-clause-alone c = λ none.
    none_groups c.args.agg.now.tests (ap (list_any (groups_by Away)) (sym c.as_slice.ensures) ∙ sym c.has_equal.ensures ∙ not-true c.has_equal.result none)
