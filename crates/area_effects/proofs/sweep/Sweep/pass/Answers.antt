-- Both trees stand for one edge more.
use Rattle.std.proofs.Common.{refl, arith, rules}
use Rattle.std.proofs.lemmas.Int.{to_z-of_z}
use mir.Val.{SFits}
use mir.Syntax.{w64}
use Rattle.area_effects.specs.declared.edge.Edge.{Edge}
use Rattle.area_effects.proofs.Covering.{small-amounts, small-counts, stands-more}
use Rattle.area_effects.proofs.sweep.Sweep.pass.Goals as goal

pub add_between-requires-clause-small : goal.add_between-requires-clause-small
add_between-requires-clause-small c = small-amounts c.args.self.now c.requires.sweep

pub add_between-requires-2-clause-small : goal.add_between-requires-2-clause-small
add_between-requires-2-clause-small c = small-counts c.args.self.now c.requires.sweep

pub returns-clause-goes_on : goal.returns-clause-goes_on
returns-clause-goes_on c =
    let s = c.args.self.now in let is = c.requires.sweep in let edge = c.index-edge.result.now in
    let fits_amount : SFits w64 edge.amount = search rules in
    let fits_count : SFits w64 edge.count = search rules in
    record {
      sweep = record {
        few = is.few;
        few_ranks = omega (arith, is.few_ranks, c.add_between.ensures.length);
        same_ranks = omega (arith, is.same_ranks, c.add_between.ensures.length, c.add_between-2.ensures.length);
        edges = is.edges;
        rising = is.rising;
        last = omega (arith, c.requires.left);
        amounts = stands-more (λ (edge : Edge). edge.amount) s.edges.items s.next edge c.add_between.new.self.nodes.items c.requires.left c.index-edge.ensures
            (simp to_z-of_z at (c.add_between.ensures.sums _ is.amounts));
        counts = stands-more (λ (edge : Edge). edge.count) s.edges.items s.next edge c.add_between-2.new.self.nodes.items c.requires.left c.index-edge.ensures
            (simp to_z-of_z at (c.add_between-2.ensures.sums _ is.counts));
      };
      edges = refl;
      ranks = c.add_between.ensures.length;
      room = λ points boxes room. record {
        edges = room.edges;
        amounts = omega (arith, room.amounts, c.add_between.ensures.room);
        counts = omega (arith, room.counts, c.add_between-2.ensures.room);
      };
    }
