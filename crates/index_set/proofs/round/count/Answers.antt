-- One row more.
use Rattle.std.proofs.Common.{◌∙◌, ap, arith, length, sym, true, false}
use Rattle.std.specs.Prelude.{filter}
use Rattle.sgl_evaluate.specs.Frame.{context_of}
use Rattle.index_set.specs.Walks.{row_passes}
use Rattle.index_set.proofs.Rounding.{among, count-more, count-of, fewer, walked_all, walked_more}
use Rattle.index_set.proofs.round.count.Goals as goal

pub overflow_add-count : goal.overflow_add-count
overflow_add-count c =
    omega (
      arith,
      c.loop-row.invariant.counted,
      fewer (row_passes (context_of c.args.frame.now) c.args.tests.now) c.loop-row.yielded,
      c.requires.few,
      among c.loop-row.invariant.walked c.in-Some.ensures.steps,
    )

pub loop-row-preserved-then-passes : goal.loop-row-preserved-then-passes
loop-row-preserved-then-passes c = record {
  counted = omega (arith, c.loop-row.invariant.counted, count-more (context_of c.args.frame.now) c.args.tests.now c.loop-row.yielded c.in-Some.row true c.if-passes.ensures);
  walked = walked_more c.loop-row.invariant.walked c.in-Some.ensures.steps;
}

pub loop-row-preserved : goal.loop-row-preserved
loop-row-preserved c = record {
  counted = omega (arith, c.loop-row.invariant.counted, count-more (context_of c.args.frame.now) c.args.tests.now c.loop-row.yielded c.in-Some.row false c.if-passes.ensures);
  walked = walked_more c.loop-row.invariant.walked c.in-Some.ensures.steps;
}

pub returns : goal.returns
returns c =
    let context = context_of c.args.frame.now in
    let tests = c.args.tests.now in
    c.loop-row.invariant.counted ∙ ap (λ rows. length (filter (row_passes context tests) rows)) (sym (walked_all c.loop-row.invariant.walked c.in-None.ensures.steps.0))
    ∙ count-of context tests (filter (row_passes context tests) c.args.rows) c.requires.rows
