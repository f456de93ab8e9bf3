-- A node adds the sum at its places, and the rest is the sum at the places before them.
use Rattle.std.proofs.Common.{◌≡◌, ◌<◌, length, ap, arith, rules}
use Rattle.std.proofs.lemmas.Int.{ints}
use Rattle.std.proofs.lemmas.List.{get_or_read}
use mir.Val.{SFits}
use mir.Syntax.{w64}
use Rattle.area_effects.specs.Fenwick.{start_of}
use Rattle.area_effects.proofs.Starts.{start-below}
use Rattle.area_effects.proofs.fenwick.Fenwick.sum_before.Goals as goal

pub overflow_add-sum : goal.overflow_add-sum
overflow_add-sum c =
    let nodes = c.args.self.now.nodes.items in let at = c.loop-at.at in let end = c.args.end in let small = c.requires.small in
    let node = c.index.result.now in
    let inside : at < length nodes = omega (arith, c.loop-at.invariant.inside) in
    let node_fits : SFits w64 node = search rules in
    let read = get_or_read nodes at node inside c.index.ensures in
    search (arith, ints, small.stands.node at node (omega arith) inside, read node, c.loop-at.invariant.whole small.before small.stands, small.within end, small.within (start_of at))

pub loop-at-preserved : goal.loop-at-preserved
loop-at-preserved c =
    let nodes = c.args.self.now.nodes.items in let at = c.loop-at.at in let end = c.args.end in let small = c.requires.small in
    let node = c.index.result.now in
    let inside : at < length nodes = omega (arith, c.loop-at.invariant.inside) in
    let node_fits : SFits w64 node = search rules in
    let read = get_or_read nodes at node inside c.index.ensures in
    record {
      inside = omega (arith, start-below at (omega arith), c.loop-at.invariant.inside);
      whole = λ before stands. omega (
        arith,
        ints,
        stands.node at node (omega arith) inside,
        read node,
        c.loop-at.invariant.whole before stands,
        small.stands.node at node (omega arith) inside,
        c.loop-at.invariant.whole small.before small.stands,
        small.within end,
        small.within (start_of at),
      );
    }

pub returns : goal.returns
returns c before stands =
    let none : c.loop-at.at ≡ 0 = omega arith in
    omega (arith, ints, c.loop-at.invariant.whole before stands, stands.none, ap before none)
