use Rattle.std.proofs.Common.{◌≡◌, ◌∙◌, ◌++◌, ◌∷◌, [], length, map, take, get_or, ap, pos, sym, subst, arith}
use Rattle.std.proofs.lemmas.List.{get_or_default, length-set, length-take, map-append, take_all, take_more, take_more_set}
use Rattle.sgl_typed.specs.Aggregate.{simple_value}
use Rattle.sgl_typed.specs.declared.script.TExpr.{TExpr}
use Rattle.sgl_typed.specs.declared.script.TExpr.TheVariants.{Number}
use Rattle.plan_executor.proofs.Insides.{node_is}
use Rattle.plan_executor.proofs.setting.read_written.Goals as goal

pub loop-number-preserved : goal.loop-number-preserved
loop-number-preserved c =
    let l = c.loop-number in
    let i = l.number in
    let exprs = c.as_slice-exprs.result.now in
    let none : TExpr = Number (pos 0) in
    let value = c.in_ok-args-in-Agg.field-0 in
    let here = c.index-exprs-number.is ∙ get_or_default exprs i c.index-exprs-number.result none c.loop-number-test.true in
    record {
      room = length-set l.args i value ∙ l.invariant.room;
      read = λ f.
          take_more_set l.args i value (omega (arith, c.loop-number-test.true, c.if-exprs-gt-PARAMS_MAX.false, l.invariant.room))
          ∙ (λ j. l.invariant.read f j ++ (c.in_ok-args-in-Agg.ensures f ∙ ap (simple_value f) here) j ∷ [])
          ∙ sym (ap (map (simple_value f)) (take_more exprs i none c.loop-number-test.true) ∙ map-append (simple_value f) (take i exprs) (get_or exprs i none ∷ []));
    }

pub returns-after-loop-number-clause-written : goal.returns-after-loop-number-clause-written
returns-after-loop-number-clause-written c =
    let l = c.loop-number in
    let exprs = c.as_slice-exprs.result.now in
    let last : l.number ≡ length exprs = omega (arith, c.loop-number-test.false, l.auto.number-end) in
    record {
      room = omega (arith, c.if-exprs-gt-PARAMS_MAX.false, l.invariant.room);
      written = record {
        slot = c.in-Agg.slot;
        call = c.in-Agg.call;
        way = c.in-Agg.way;
        child = c.in-Agg.then;
        calls = node_is c.args.run.now.nodes.now c.args.node _ _ c.requires.node c.in-Agg.is;
        few = omega (arith, length-take (length exprs) l.args, c.if-exprs-gt-PARAMS_MAX.false);
        are = λ f.
            subst (λ n. take n l.args ≡ map (simple_value f) (take n exprs)) last (l.invariant.read f)
            ∙ ap (map (simple_value f)) (take_all (length exprs) exprs (omega arith) ∙ c.as_slice-exprs.ensures);
      };
    }
