-- The spots of points, moved from the order of the points.
use Rattle.std.proofs.Common.{◌≡◌, ◌∙◌, ℕ, ℤ, ◌<◌, List, length, sym, ap, arith}
use Rattle.std.specs.List.Sorted.{IsPermutation, IsNonDecreasingBy}
use Rattle.std.proofs.lemmas.List.Sorted.{All-permutation, Contains-permutation}
use Rattle.area_effects.specs.declared.point.AreaPoint.{AreaPoint}
use Rattle.area_effects.specs.declared.spot.Spot.{Spot}
use Rattle.area_effects.specs.Layouts.{spot_of, AreFirstSpots, AreSpots}

module _ (xs ys : List ℤ) (points : List AreaPoint) where
  -- they are still those of all points
  pub spots-moved : (spots moved : List Spot) → AreFirstSpots xs ys points (length points) spots → IsPermutation spots moved → IsNonDecreasingBy (λ spot. spot.place) moved
      → AreSpots xs ys points moved
  spots-moved spots moved first permuted rising =
      let number = λ (k : ℕ) (d : Spot) (inside : k < length spots). ap (λ (spot : Spot). spot.point) (first.each k d (omega (arith, inside, first.long))) in
      record {
        inside = All-permutation (λ (spot : Spot). spot.point < length points) spots moved permuted
            (λ k d inside. omega (arith, number k d inside, inside, first.long));
        each = All-permutation (λ (spot : Spot). spot ≡ spot_of xs ys points spot.point) spots moved permuted
            (λ k d inside. first.each k d (omega (arith, inside, first.long)) ∙ ap (spot_of xs ys points) (sym (number k d inside)));
        whole = λ i inside. Contains-permutation spots moved (spot_of xs ys points i) permuted
            (i, omega (arith, inside, first.long), first.each i (spot_of xs ys points i) inside);
        rising = rising;
      }
