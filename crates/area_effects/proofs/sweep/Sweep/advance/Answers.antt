-- An edge up to the place is passed; where one is behind it, so are those after it.
use Rattle.std.proofs.Common.{◌≤◌, ◌<◌, ◌+◌, length, get_or, take, sym, ap, subst, arith}
use Rattle.std.specs.Prelude.{All}
use Rattle.std.proofs.lemmas.List.{get_or_read}
use Rattle.std.proofs.lemmas.List.Elements.{All-more}
use Rattle.area_effects.specs.declared.edge.Edge.{Edge}
use Rattle.area_effects.proofs.Covering.{GoesOn-trans, left-rising}
use Rattle.area_effects.proofs.sweep.Sweep.advance.Goals as goal

pub loop-self-preserved : goal.loop-self-preserved
loop-self-preserved c =
    let s = c.loop-self.self in let n = c.pass.new.self in let edges = s.edges.items in let place = c.args.place in
    let early = λ (edge : Edge). edge.place ≤ place in
    let inside : s.next < length edges = omega arith in
    let here : early (get_or edges s.next c.index.result.now) = omega (arith, c.if-index-place.true, ap (λ (edge : Edge). edge.place) c.index.ensures) in
    let more : All early (take (s.next + 1) edges) = All-more early edges s.next c.index.result.now inside c.loop-self.invariant.passed here in
    record {
      goes_on = GoesOn-trans c.args.self.now s n c.loop-self.invariant.goes_on c.pass.ensures.goes_on;
      passed = subst (λ l. All early (take n.next l)) (sym c.pass.ensures.goes_on.edges) (subst (λ k. All early (take k edges)) (sym c.pass.ensures.next) more);
    }

pub returns-else-index-place-clause-stands : goal.returns-else-index-place-clause-stands
returns-else-index-place-clause-stands c =
    let s = c.loop-self.self in let edges = s.edges.items in let place = c.args.place in
    record {
      passed = c.loop-self.invariant.passed;
      left = left-rising edges s.next place c.loop-self.invariant.goes_on.sweep.rising
          (λ d inside. omega (arith, c.if-index-place.false, ap (λ (edge : Edge). edge.place) (get_or_read edges s.next c.index.result.now inside c.index.ensures d)));
    }
