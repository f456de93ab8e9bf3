use Rattle.std.proofs.Common.{None, Option, ap, subst, sym, ◌∙◌}
use Rattle.std.specs.Option.{option_copied}
use Rattle.std.specs.Prelude.{slice_index_or}
use Rattle.std.proofs.lemmas.Option.{slice_get_within}
use Rattle.group_trees.specs.Points.{Planted}
use Rattle.index_set.specs.Kept.{IsKept}
use Rattle.index_set.specs.Near.{IsNearest}
use Rattle.index_set.specs.Owned.{IsOwn}
use Rattle.index_set.specs.Rounds.{IsRound}
use Rattle.index_set.specs.declared.ranged.RangedAt.{RangedAt}
use Rattle.index_set.specs.declared.round.Round.{Round}
use Rattle.index_set.proofs.set.IndexSet.folded.Goals as goal

pub ranged-requires-clause-at : goal.ranged-requires-clause-at
ranged-requires-clause-at c =
    subst (λ (o : Option RangedAt). IsKept c.args.self.now.shelf o c.args.agg.now c.args.asking.now.frame.now.tick.world.now.world.rows) (ap (λ kept. slice_index_or kept c.args.number None) (sym c.deref.ensures.value) ∙ sym c.kept_at.ensures ∙ ap option_copied c.in-Some.is)
    (c.requires.kept.shelf c.args.number c.args.agg.now c.requires.agg)

are-nearest : (c : goal.In-Some-kept_at) → IsNearest c.args.asking.now.frame.now.tick.world.now.world.rows c.in-Some-kept_at.trees.now c.args.agg.now
are-nearest c =
    let aggs = c.args.asking.now.frame.now.tick.script.now.aggs in
    let agg = c.args.agg.now in
    subst (λ (o : Option Planted). IsOwn (IsNearest c.args.asking.now.frame.now.tick.world.now.world.rows) o agg) (ap (λ kept. slice_index_or kept c.args.number None) (sym c.deref-in-Nearest.ensures.value) ∙ sym c.kept_at-in-Nearest.ensures ∙ ap option_copied c.in-Some-kept_at.is)
    (c.requires.kept.trees.own c.args.number agg (slice_get_within aggs c.args.number agg c.requires.agg) c.requires.agg)

pub nearest_found-requires-clause-kind : goal.nearest_found-requires-clause-kind
nearest_found-requires-clause-kind c = (are-nearest c).nearest

pub nearest_found-requires-clause-few : goal.nearest_found-requires-clause-few
nearest_found-requires-clause-few c = (are-nearest c).few

pub nearest_found-requires-clause-unbounded : goal.nearest_found-requires-clause-unbounded
nearest_found-requires-clause-unbounded c = (are-nearest c).unbounded

pub nearest_found-requires-clause-trees : goal.nearest_found-requires-clause-trees
nearest_found-requires-clause-trees c = (are-nearest c).held

pub rounded-requires-clause-round : goal.rounded-requires-clause-round
rounded-requires-clause-round c =
    let aggs = c.args.asking.now.frame.now.tick.script.now.aggs in
    let agg = c.args.agg.now in
    subst (λ (o : Option Round). IsOwn (IsRound c.args.asking.now.frame.now.tick.world.now.world) o agg) (ap (λ kept. slice_index_or kept c.args.number None) (sym c.deref-in-Circle.ensures.value) ∙ sym c.kept_at-in-Circle.ensures ∙ ap option_copied c.in-Some-kept_at-2.is)
    (c.requires.kept.rounds.own c.args.number agg (slice_get_within aggs c.args.number agg c.requires.agg) c.requires.agg)
