use Rattle.std.proofs.Common.{None}
use Rattle.std.specs.Prelude.{slice_index_or}
use Rattle.std.proofs.lemmas.Option.{slice_get_within}
use Rattle.index_set.proofs.Ranging.{kept_stays}
use Rattle.index_set.proofs.parts.fill.Goals as goal

pub returns-clause-keeps : goal.returns-clause-keeps
returns-clause-keeps g c =
    let script = c.args.of.now.script.now in
    let rows = c.args.of.now.world.now.world.rows in
    record {
      kept = λ number agg is.
          kept_stays c.index_aggs.new.shelf c.lay_groups.new.shelf (slice_index_or c.in_ok-aggs.aggs.items number None) agg rows c.in_ok-lay_groups.ensures.grows
          (c.in_ok-aggs.ensures.kept.own number agg (slice_get_within script.aggs number agg is) is);
      trees = c.in_ok-trees.ensures;
      rounds = c.in_ok-rounds.ensures;
      effects = c.in_ok-slabs.ensures;
    }
