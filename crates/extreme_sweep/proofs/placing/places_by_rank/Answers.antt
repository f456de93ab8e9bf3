use Rattle.std.proofs.Common.{◌<◌, length, get_or, ◌∙◌, arith}
use Rattle.std.proofs.lemmas.List.{get_or_default, length-set}
use Rattle.extreme_sweep.proofs.Relaying.{placed_more}
use Rattle.extreme_sweep.proofs.placing.places_by_rank.Goals as goal

pub loop-place-preserved : goal.loop-place-preserved
loop-place-preserved c =
    let places = c.loop-place.places.items in
    let ranks = c.args.ranks.now in
    let place = c.loop-place.place in
    let inside : place < length ranks = omega (arith, c.loop-place-test.true) in
    let rank = get_or ranks place 0 in
    record {
      long = length-set places rank place ∙ c.loop-place.invariant.long;
      placed = λ number numbered. placed_more places ranks place rank number numbered inside (omega (arith, c.requires.inside place 0 inside, c.loop-place.invariant.long))
          (λ d. get_or_default ranks place d 0 inside) (c.loop-place.invariant.placed number numbered);
    }

pub returns-clause-inverse : goal.returns-clause-inverse
returns-clause-inverse c = λ number numbered p d e inside.
    c.loop-place.invariant.placed number numbered p d e (omega (arith, inside, c.loop-place-test.false))
