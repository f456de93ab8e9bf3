-- The node gets the amount, and the next node is the next one whose places have this one among them.
use Rattle.std.proofs.Common.{◌<◌, length, arith, rules}
use Rattle.std.proofs.lemmas.Int.{ints, to_z-of_z}
use Rattle.std.proofs.lemmas.List.{get_or_read}
use mir.Val.{SFits}
use mir.Syntax.{w64}
use Rattle.area_effects.specs.Fenwick.{start_of}
use Rattle.area_effects.proofs.Adding.{adding-more, adding-all}
use Rattle.area_effects.proofs.fenwick.Fenwick.add.Goals as goal

pub loop-at-preserved : goal.loop-at-preserved
loop-at-preserved c =
    let now = c.loop-at.self.nodes.items in let at = c.loop-at.at in let adding = c.loop-at.invariant.adding in let small = c.requires.small in
    let fits : SFits w64 c.args.amount = c.ranges.amount in
    let node = c.index_mut.result.now in
    let inside : at < length now = omega arith in
    let node_fits : SFits w64 node = search rules in
    let read = get_or_read now at node inside c.index_mut.ensures.value in
    record {
      adding = adding-more c.args.place _ c.args.self.now.nodes.items now at _ adding (omega (arith, inside, adding.long))
          (λ d. omega (arith, ints, read d, adding.rest at d (omega arith), small.stands.node at d (omega (arith, adding.behind)) (omega (arith, inside, adding.long)), small.within at, small.within (start_of at), c.requires.amount));
      room = c.loop-at.invariant.room;
    }

pub returns-clause-sums : goal.returns-clause-sums
returns-clause-sums c =
    let fits : SFits w64 c.args.amount = c.ranges.amount in
    let adding = simp to_z-of_z at c.loop-at.invariant.adding in
    adding-all c.args.place c.args.amount c.args.self.now.nodes.items c.loop-at.self.nodes.items c.loop-at.at adding (omega (arith, adding.long))
