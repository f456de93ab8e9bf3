-- The ranks have places, since each stands once.
use Rattle.std.proofs.Common.{◌∙◌, ◌<◌, ℕ, List, length, ap, arith, subst, sym}
use Rattle.std.specs.Prelude.{All}
use Rattle.extreme_sweep.specs.declared.axis.Axis.TheVariants.{Y}
use Rattle.extreme_sweep.specs.Laying.{AreNumbered, IsInverse}
use Rattle.extreme_sweep.proofs.Slotting.{laid-all, laid-inside}
use Rattle.extreme_sweep.proofs.along.heights_of.Goals as goal

pub places_by_rank-requires-clause-few : goal.places_by_rank-requires-clause-few
places_by_rank-requires-clause-few c =
    let ranked = c.args.ranked.now in let ranks = c.in_ok-ranks.field-0.ranks.items in let along = c.in_ok-ranks.ensures in
    omega (arith, laid-all Y ranked along.slots ranks along.moved along.ranks_are, c.requires, ap length c.as_slice.ensures.value)

pub places_by_rank-requires-clause-inside : goal.places_by_rank-requires-clause-inside
places_by_rank-requires-clause-inside c =
    let ranked = c.args.ranked.now in let ranks = c.in_ok-ranks.field-0.ranks.items in let along = c.in_ok-ranks.ensures in
    subst (λ (l : List ℕ). All (λ (rank : ℕ). rank < length l) l) (sym c.as_slice.ensures.value)
    (subst (λ (n : ℕ). All (λ (rank : ℕ). rank < n) ranks) (sym (laid-all Y ranked along.slots ranks along.moved along.ranks_are))
    (laid-inside Y ranked along.slots ranks along.moved along.ranks_are))

pub returns : goal.returns
returns c = record {
  along = c.in_ok-ranks.ensures;
  all = c.in_ok-places.ensures.length ∙ ap length c.as_slice.ensures.value;
  inverse = λ number numbered. subst (IsInverse c.in_ok-places.places.items) c.as_slice.ensures.value
      (c.in_ok-places.ensures.inverse number (subst (AreNumbered number) (sym c.as_slice.ensures.value) numbered));
}
