-- The spread of a point is found at its spot, and so that of each point.
use Rattle.std.proofs.Common.{◌≡◌, ◌∙◌, ℕ, ℤ, pos, ◌+◌, ◌<◌, ◌≤◌, List, length, get_or, set, take, map, refl, sym, ap, subst, ⊎_elim, arith, get_or-set_other, length-take-le}
use Rattle.std.specs.Prelude.{All, Contains}
use Rattle.std.specs.List.Sorted.{IsPermutation}
use Rattle.std.proofs.lemmas.Bool.{cases_eq, cases_lt}
use Rattle.std.proofs.lemmas.Grind.{get_or-set_at}
use Rattle.std.proofs.lemmas.List.{get_or-map, get_or_default, length-map, length-set, same_lists}
use Rattle.std.proofs.lemmas.List.Elements.{All-weaker}
use Rattle.std.proofs.lemmas.List.Sums.{length-filter, count_by-le-length}
use Rattle.std.proofs.lemmas.List.Sorted.{Contains-permutation, length_permutation}
use Rattle.area_effects.specs.declared.area_box.AreaBox.{AreaBox}
use Rattle.area_effects.specs.declared.layout.Layout.{Layout}
use Rattle.area_effects.specs.declared.point.AreaPoint.{AreaPoint}
use Rattle.area_effects.specs.declared.spot.Spot.{Spot}
use Rattle.area_effects.specs.declared.sweep.Sweep.{Sweep}
use Rattle.area_effects.specs.declared.tables.Tables.{Tables}
use Rattle.area_effects.specs.Edges.{edges_of, covered}
use Rattle.area_effects.specs.Layouts.{point_at, spot_of, IsLayout}
use Rattle.area_effects.specs.Ranks.{IsAxis, IsRanked, count_below}
use Rattle.area_effects.specs.Rooms.{HasRoom, AreTables}
use Rattle.area_effects.specs.Spread.{is_inside, sum_at, count_at}
use Rattle.area_effects.specs.Sweeping.{IsSweep, GoesOn, StandsAt}
use Rattle.area_effects.specs.Tables.{IsCounted, Puts, IsSpreading}
use Rattle.area_effects.proofs.Giving.{rank-inside, sum-found, count-found}

-- the number of a point is among those along its axis
among : (number : AreaPoint → ℤ) (points : List AreaPoint) (sorted : List ℤ) → IsAxis (map number points) sorted → (i : ℕ) → i < length points → Contains sorted (number (point_at points i))
among number points sorted axis i inside =
    Contains-permutation (map number points) sorted (number (point_at points i)) axis.same
    (i, omega (arith, inside, length-map points number), get_or-map number points i (record { x = pos 0; y = pos 0 }) (number (point_at points i)) inside)

pub axis-length : (number : AreaPoint → ℤ) (points : List AreaPoint) (sorted : List ℤ) → IsAxis (map number points) sorted → length sorted ≡ length points
axis-length number points sorted axis = omega (arith, length_permutation (map number points) sorted axis.same, length-map points number)

pub axis-ranked : (number : AreaPoint → ℤ) (points : List AreaPoint) (sorted : List ℤ) → IsAxis (map number points) sorted → length points ≤ 65536 → IsRanked sorted
axis-ranked number points sorted axis few = record { rising = axis.rising; few = omega (arith, few, axis-length number points sorted axis) }

module _ (layout : Layout) (is : IsLayout layout) where
  abbrev points : List AreaPoint
  points = layout.points.items

  abbrev xs : List ℤ
  xs = layout.xs.numbers.items

  abbrev ys : List ℤ
  ys = layout.ys.numbers.items

  abbrev spot_at : ℕ → Spot
  spot_at k = get_or layout.spots.items k record { place = 0; rank = 0; point = 0 }

  x-among : (i : ℕ) → i < length points → Contains xs (point_at points i).x
  x-among i inside = among (λ point. point.x) points xs is.xs i inside

  y-among : (i : ℕ) → i < length points → Contains ys (point_at points i).y
  y-among i inside = among (λ point. point.y) points ys is.ys i inside

  module _ (k : ℕ) (k-inside : k < length layout.spots.items) where
    abbrev spot : Spot
    spot = spot_at k

    pub point-inside : spot.point < length points
    point-inside = is.spots.inside k (record { place = 0; rank = 0; point = 0 }) k-inside

    spot-is : spot ≡ spot_of xs ys points spot.point
    spot-is = is.spots.each k (record { place = 0; rank = 0; point = 0 }) k-inside

    place-is : spot.place ≡ count_below xs (point_at points spot.point).x
    place-is = ap (λ (s : Spot). s.place) spot-is

    rank-is : spot.rank ≡ count_below ys (point_at points spot.point).y
    rank-is = ap (λ (s : Spot). s.rank) spot-is

    pub rank-below : spot.rank < length ys
    rank-below = omega (arith, rank-is, rank-inside ys (point_at points spot.point).y (y-among spot.point point-inside))

    module _ (boxes : List AreaBox) (sweep : Sweep) (moved : IsPermutation (edges_of xs ys boxes) sweep.edges.items) (stands : StandsAt spot.place sweep) where
      stands-there : StandsAt (count_below xs (point_at points spot.point).x) sweep
      stands-there = subst (λ place. StandsAt place sweep) place-is stands

      end-is : spot.rank + 1 ≡ count_below ys (point_at points spot.point).y + 1
      end-is = omega (arith, rank-is)

      pub sum-there : covered (λ edge. edge.amount) (take sweep.next sweep.edges.items) (spot.rank + 1) ≡ sum_at boxes (point_at points spot.point)
      sum-there = ap (covered (λ edge. edge.amount) (take sweep.next sweep.edges.items)) end-is
          ∙ sum-found xs ys (point_at points spot.point) (x-among spot.point point-inside) (y-among spot.point point-inside) boxes sweep moved stands-there

      pub count-there : covered (λ edge. edge.count) (take sweep.next sweep.edges.items) (spot.rank + 1) ≡ pos (count_at boxes (point_at points spot.point))
      count-there = ap (covered (λ edge. edge.count) (take sweep.next sweep.edges.items)) end-is
          ∙ count-found xs ys (point_at points spot.point) (x-among spot.point point-inside) (y-among spot.point point-inside) boxes sweep moved stands-there

  -- no spread is put yet
  pub spreading-first : (boxes : List AreaBox) (tables : Tables) → AreTables tables → IsSweep tables.sweep → tables.sweep.next ≡ 0
      → IsPermutation (edges_of xs ys boxes) tables.sweep.edges.items → length tables.sweep.amounts.nodes.items ≡ length ys + 1
      → length tables.sums.items ≡ length points → length tables.counts.items ≡ length points → IsSpreading layout boxes 0 tables
  spreading-first boxes tables are sweep first edges ranks long_sums long_counts = record {
    tables_are = are;
    sweep = sweep;
    edges = edges;
    ranks = ranks;
    passed = λ k d later inside j e j-inside. absurd (omega (arith, j-inside, first, length-take-le tables.sweep.next tables.sweep.edges.items sweep.last));
    long_sums = long_sums;
    long_counts = long_counts;
    sums = λ k d e before. absurd (omega (arith, before));
    counts = λ k d e before. absurd (omega (arith, before));
  }

  -- what is put for a point stays, and what is put for another one does not change it
  put-more : {A : Type 0} (right : ℕ → A) (old : List A) (number : ℕ) (value : A) → number < length layout.spots.items → (spot_at number).point < length old → value ≡ right (spot_at number).point
      → ((k : ℕ) (d : Spot) (e : A) → k < number → get_or old (get_or layout.spots.items k d).point e ≡ right (get_or layout.spots.items k d).point)
      → (k : ℕ) (d : Spot) (e : A) → k < number + 1 → get_or (set old (spot_at number).point value) (get_or layout.spots.items k d).point e ≡ right (get_or layout.spots.items k d).point
  put-more right old number value number-inside inside value-is before k d e below =
      let i = (get_or layout.spots.items k d).point in let j = (spot_at number).point in
      ⊎_elim
      (λ same. get_or-set_at old j i value e same inside ∙ value-is ∙ ap right (sym same))
      (λ other. get_or-set_other old j i value e other ∙ ⊎_elim
      (λ earlier. before k d e earlier)
      (λ later.
      let here : k ≡ number = omega (arith, below, later) in
      let same : i ≡ j = ap (λ n. (get_or layout.spots.items n d).point) here ∙ ap (λ (s : Spot). s.point) (get_or_default layout.spots.items number d (record { place = 0; rank = 0; point = 0 }) number-inside) in
      absurd (other same))
      (cases_lt k number))
      (cases_eq i j)

  -- the counts come to a number of boxes
  pub spreading-counted : (boxes : List AreaBox) (number : ℕ) (tables : Tables) (sweep : Sweep) → IsSpreading layout boxes number tables → number < length layout.spots.items
      → GoesOn tables.sweep sweep → StandsAt (spot_at number).place sweep → length boxes ≤ 65536 → IsCounted sweep ((spot_at number).rank + 1)
  spreading-counted boxes number tables sweep old inside goes_on stands few =
      let point = point_at points (spot_at number).point in
      record {
        number = count_at boxes point;
        few = omega (arith, few, length-filter (is_inside point) boxes, count_by-le-length (is_inside point) boxes);
        is = count-there number inside boxes sweep (subst (IsPermutation (edges_of xs ys boxes)) (sym goes_on.edges) old.edges) stands;
      }

  pub spreading-more : (boxes : List AreaBox) (number : ℕ) (tables : Tables) (sweep : Sweep) (after : Tables) → IsSpreading layout boxes number tables → number < length layout.spots.items
      → GoesOn tables.sweep sweep → StandsAt (spot_at number).place sweep → Puts (spot_at number) (record tables { sweep = sweep }) after → IsSpreading layout boxes (number + 1) after
  spreading-more boxes number tables sweep after old inside goes_on stands puts =
      let moved : IsPermutation (edges_of xs ys boxes) sweep.edges.items = subst (IsPermutation (edges_of xs ys boxes)) (sym goes_on.edges) old.edges in
      let room : HasRoom after.points after.boxes sweep =
      subst (λ n. HasRoom n after.boxes sweep) (sym puts.room) (subst (λ n. HasRoom tables.points n sweep) (sym puts.room_boxes) (goes_on.room tables.points tables.boxes old.tables_are.sweep)) in
      let point = point-inside number inside in
      let sum = sum-there number inside boxes sweep moved stands in
      let count = count-there number inside boxes sweep moved stands in
      record {
        tables_are = record {
          few_points = omega (arith, puts.room, old.tables_are.few_points);
          few_boxes = omega (arith, puts.room_boxes, old.tables_are.few_boxes);
          sweep = subst (HasRoom after.points after.boxes) (sym puts.sweep) room;
          sums = omega (arith, puts.room, puts.sums_room, old.tables_are.sums);
          counts = omega (arith, puts.room, puts.counts_room, old.tables_are.counts);
        };
        sweep = subst IsSweep (sym puts.sweep) goes_on.sweep;
        edges = subst (λ (s : Sweep). IsPermutation (edges_of xs ys boxes) s.edges.items) (sym puts.sweep) moved;
        ranks = ap (λ (s : Sweep). length s.amounts.nodes.items) puts.sweep ∙ goes_on.ranks ∙ old.ranks;
        passed = λ k d later k-inside.
            let order : (spot_at number).place ≤ (get_or layout.spots.items k d).place =
            omega (arith, is.spots.rising number k d (omega (arith, later)) k-inside, ap (λ (s : Spot). s.place) (get_or_default layout.spots.items number d (record { place = 0; rank = 0; point = 0 }) inside)) in
            subst (λ (s : Sweep). All (λ edge. edge.place ≤ (get_or layout.spots.items k d).place) (take s.next s.edges.items)) (sym puts.sweep)
            (All-weaker (λ edge. edge.place ≤ (spot_at number).place) (λ edge. edge.place ≤ (get_or layout.spots.items k d).place) (λ edge low. omega (arith, low, order)) (take sweep.next sweep.edges.items) stands.passed);
        long_sums = ap length puts.sums ∙ length-set tables.sums.items (spot_at number).point _ ∙ old.long_sums;
        long_counts = ap length (puts.counts _ count) ∙ length-set tables.counts.items (spot_at number).point _ ∙ old.long_counts;
        sums = λ k d e below. ap (λ l. get_or l (get_or layout.spots.items k d).point e) puts.sums
            ∙ put-more (λ i. sum_at boxes (point_at points i)) tables.sums.items number _ inside (omega (arith, point, old.long_sums)) sum old.sums k d e below;
        counts = λ k d e below. ap (λ l. get_or l (get_or layout.spots.items k d).point e) (puts.counts _ count)
            ∙ put-more (λ i. count_at boxes (point_at points i)) tables.counts.items number _ inside (omega (arith, point, old.long_counts)) refl old.counts k d e below;
      }

  -- the spread of each point is put
  put-all : {A : Type 0} (right : AreaPoint → A) (found : List A) → length found ≡ length points
      → ((k : ℕ) (d : Spot) (e : A) → k < length layout.spots.items → get_or found (get_or layout.spots.items k d).point e ≡ right (point_at points (get_or layout.spots.items k d).point))
      → found ≡ map right points
  put-all right found long all = same_lists found (map right points) (omega (arith, long, length-map points right))
      (λ i e inside.
      let i-inside : i < length points = omega (arith, inside, long) in
      let spot = is.spots.whole i i-inside in
      let same : (get_or layout.spots.items spot.0 (spot_of xs ys points i)).point ≡ i = ap (λ (s : Spot). s.point) spot.2 in
      ap (λ n. get_or found n e) (sym same) ∙ all spot.0 (spot_of xs ys points i) e spot.1 ∙ ap (λ n. right (point_at points n)) same
      ∙ sym (get_or-map right points i (record { x = pos 0; y = pos 0 }) e i-inside))

  pub sums-all : (boxes : List AreaBox) (number : ℕ) (tables : Tables) → IsSpreading layout boxes number tables → length layout.spots.items ≤ number → tables.sums.items ≡ map (sum_at boxes) points
  sums-all boxes number tables old last = put-all (sum_at boxes) tables.sums.items old.long_sums (λ k d e inside. old.sums k d e (omega (arith, inside, last)))

  pub counts-all : (boxes : List AreaBox) (number : ℕ) (tables : Tables) → IsSpreading layout boxes number tables → length layout.spots.items ≤ number → tables.counts.items ≡ map (count_at boxes) points
  counts-all boxes number tables old last = put-all (count_at boxes) tables.counts.items old.long_counts (λ k d e inside. old.counts k d e (omega (arith, inside, last)))
