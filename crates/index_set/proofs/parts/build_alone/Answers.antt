use Rattle.std.proofs.Common.{None, length}
use Rattle.std.specs.Prelude.{slice_index_or}
use Rattle.index_set.proofs.Ranging.{kept_stays}
use Rattle.index_set.proofs.Slabbing.{used_stay}
use Rattle.index_set.proofs.Sweeping.{answers_nodes}
use Rattle.index_set.proofs.parts.build_alone.Goals as goal

pub returns : goal.returns
returns g c =
    let of = c.args.of.now in
    let world = of.world.now.world in
    let nodes = of.plan.now.nodes in
    record {
      keeps = record {
        kept = λ number agg is. kept_stays c.fill.new.shelf c.prepare_on.new.shelf (slice_index_or c.in_ok-own.own.aggs.items number None) agg world.rows c.in_ok-ready.ensures.grows (c.in_ok-own.ensures.keeps.kept number agg is);
        trees = c.in_ok-own.ensures.keeps.trees;
        rounds = c.in_ok-own.ensures.keeps.rounds;
        effects = used_stay c.in_ok-own.own.slabs c.fill.new.shelf c.prepare_on.new.shelf world of.script.now nodes
            (length nodes) c.in_ok-ready.ensures.grows c.in_ok-own.ensures.keeps.effects;
      };
      swept = answers_nodes c.in_ok-sweeps.sweeps of.script.now world of.seed nodes (length nodes) c.in_ok-sweeps.ensures;
    }
