use Rattle.std.proofs.Common.{◌≡◌, arith, ◌-◌, ◌+◌, length, take, refl, ap, ◌∙◌, sym, drop, subst, List}
use Rattle.plan_rewrite.specs.Bare.{bare_all, numbered_all, sizes}
use Rattle.battle_algebra.specs.Tree.{Tree}
use Rattle.std.proofs.lemmas.List.{length-set}
use Rattle.plan_rewrite.proofs.Counting.{number_more, none_numbered, all_numbered, take_less}
use Rattle.plan_rewrite.proofs.numbering.number_nodes.Goals as goal

pub loop-behind-init : goal.loop-behind-init
loop-behind-init c = record {
  long = refl;
  before = refl;
  done = λ ts h.
      let r = none_numbered c.args.nodes.now (length c.args.nodes.now - 0) ts (omega arith) h in
      (r.0, c.new-sizes.ensures ∙ r.1);
}

pub loop-behind-preserved : goal.loop-behind-preserved
loop-behind-preserved c =
    let old = c.args.nodes.now in
    let now = c.loop-behind.nodes in
    let j = c.len-len.result - (c.loop-behind.behind + 1) in
    let same : (length old - (c.loop-behind.behind + 1)) ≡ j = omega (arith, c.len-len.ensures) in
    record {
      long = ap length c.in_ok-number_at.ensures.nodes ∙ length-set now _ _ ∙ c.loop-behind.invariant.long;
      before = subst (λ k. take k c.number_at.new.nodes ≡ take k old) (sym same) (take_less old now c.number_at.new.nodes (length old - c.loop-behind.behind) j _ (omega (arith, c.loop-behind-test.true, c.len-len.ensures)) c.loop-behind.invariant.before c.in_ok-number_at.ensures.nodes);
      done =
          subst (λ k. (ts : List Tree) → drop k old ≡ bare_all ts → (drop k c.number_at.new.nodes ≡ numbered_all ts k) × (c.number_at.new.sizes ≡ sizes ts)) (sym same)
          (number_more old now c.number_at.new.nodes c.loop-behind.sizes c.number_at.new.sizes (length old - c.loop-behind.behind) j
          (omega (arith, c.loop-behind-test.true, c.len-len.ensures)) (omega (arith, c.loop-behind-test.true, c.loop-behind.invariant.long, c.len-len.ensures)) c.loop-behind.invariant.long c.loop-behind.invariant.before c.loop-behind.invariant.done
          c.in_ok-number_at.ensures.nodes c.in_ok-number_at.ensures.sizes);
    }

pub returns : goal.returns
returns c =
    all_numbered c.args.nodes.now c.loop-behind.nodes (length c.args.nodes.now - c.loop-behind.behind) (omega (arith, c.loop-behind-test.false, c.loop-behind.auto.behind-end, c.len-len.ensures)) c.loop-behind.sizes c.loop-behind.invariant.done
