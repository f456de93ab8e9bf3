-- What edges add up to, and how it grows.
use Rattle.std.proofs.Common.{◌≡◌, ◌∙◌, ℕ, ℤ, pos, ◌+ℤ◌, ◌+◌, ◌*◌, ◌<◌, ◌≤◌, cond, List, [], ◌∷◌, ◌++◌, length, get_or, take, drop, refl, sym, ap, arith, length-take-le}
use Rattle.std.specs.Prelude.{All, Result, Ok, Err, IsOk, is_ok}
use Rattle.std.specs.List.Sorted.{IsNonDecreasingBy}
use Rattle.std.proofs.lemmas.Int.{ints}
use Rattle.std.proofs.lemmas.List.{take_more, get_or-drop, length-drop}
use Rattle.std.proofs.lemmas.List.Elements.{All-tail, All-take}
use Rattle.area_effects.specs.declared.area_box.AreaBox.{AreaBox}
use Rattle.area_effects.specs.declared.edge.Edge.{Edge}
use Rattle.area_effects.specs.declared.sweep.Sweep.{Sweep}
use Rattle.area_effects.specs.Edges.{opening, closing, edges_of, covers, covered}
use Rattle.area_effects.specs.Fenwick.{StandsFor, IsWithin, IsSmall, plus_between}
use Rattle.area_effects.specs.Sweeping.{IsSweep, GoesOn}
use Rattle.area_effects.proofs.Adding.{StandsFor-same, cond-within}

-- what a push leaves that was not refused
pub pushed : {T E X : Type 0} (answer : Result T E) (old new : List X) (x : X) → IsOk answer → new ≡ cond (is_ok answer) (old ++ x ∷ []) old → new ≡ old ++ x ∷ []
pushed (Ok value) old new x ok is = is
pushed (Err fault) old new x ok is = cc ok

pub edges_of-push : (xs ys : List ℤ) (boxes : List AreaBox) (area : AreaBox) → edges_of xs ys (boxes ++ area ∷ []) ≡ edges_of xs ys boxes ++ opening xs ys area ∷ [] ++ closing xs ys area ∷ []
edges_of-push xs ys [] area = refl
edges_of-push xs ys (first ∷ boxes) area = ap (λ l. opening xs ys first ∷ closing xs ys first ∷ l) (edges_of-push xs ys boxes area)

pub length-edges_of : (xs ys : List ℤ) (boxes : List AreaBox) → length (edges_of xs ys boxes) ≡ 2 * length boxes
length-edges_of xs ys [] = refl
length-edges_of xs ys (area ∷ boxes) = omega (arith, length-edges_of xs ys boxes)

module _ (worth : Edge → ℤ) (end : ℕ) where
  -- what an edge adds
  abbrev part : Edge → ℤ
  part edge = cond (covers edge end) (worth edge) (pos 0)

  covered-push : (edges : List Edge) (edge : Edge) → covered worth (edges ++ edge ∷ []) end ≡ covered worth edges end +ℤ part edge
  covered-push [] edge = omega (arith, ints)
  covered-push (first ∷ edges) edge = let rest = covered-push edges edge in omega (arith, ints, rest)

  covered-within : (edges : List Edge) → All (λ edge. IsWithin 1000000000000 (worth edge)) edges → IsWithin (1000000000000 * length edges) (covered worth edges end)
  covered-within [] all = record { low = omega (arith, ints); high = omega (arith, ints) }
  covered-within (edge ∷ edges) all =
      let here = cond-within 1000000000000 (worth edge) (covers edge end) (all 0 edge (omega arith)) in
      let rest = covered-within edges (All-tail (λ edge. IsWithin 1000000000000 (worth edge)) edge edges all) in
      record { low = omega (arith, ints, here, rest); high = omega (arith, ints, here, rest) }

-- a tree that stands for few edges has small sums
pub small-covered : (worth : Edge → ℤ) (edges : List Edge) (nodes : List ℤ) (bound : ℕ) → All (λ edge. IsWithin 1000000000000 (worth edge)) edges
    → 1000000000000 * length edges ≤ bound → StandsFor (covered worth edges) nodes → IsSmall bound nodes
small-covered worth edges nodes bound all few stands = record {
  before = covered worth edges;
  stands = stands;
  within = λ end. let within = covered-within worth end edges all in record { low = omega (arith, ints, within, few); high = omega (arith, ints, within, few) };
}

-- a tree that an edge was added to stands for one edge more
pub stands-more : (worth : Edge → ℤ) (edges : List Edge) (next : ℕ) (edge : Edge) (nodes : List ℤ) → next < length edges → edge ≡ get_or edges next edge
    → StandsFor (plus_between edge.low edge.high (worth edge) (covered worth (take next edges))) nodes → StandsFor (covered worth (take (next + 1) edges)) nodes
stands-more worth edges next edge nodes inside edge-is stands =
    let more : take (next + 1) edges ≡ take next edges ++ edge ∷ [] = take_more edges next edge inside ∙ ap (λ (e : Edge). take next edges ++ e ∷ []) (sym edge-is) in
    StandsFor-same _ (covered worth (take (next + 1) edges)) nodes stands (λ end. sym (ap (λ l. covered worth l end) more ∙ covered-push worth end (take next edges) edge))

module _ (sweep : Sweep) (is : IsSweep sweep) where
  few-passed : 1000000000000 * length (take sweep.next sweep.edges.items) ≤ 200000000000000000
  few-passed = omega (arith, length-take-le sweep.next sweep.edges.items is.last, is.last, is.few)

  pub small-amounts : IsSmall 200000000000000000 sweep.amounts.nodes.items
  small-amounts = small-covered (λ edge. edge.amount) (take sweep.next sweep.edges.items) sweep.amounts.nodes.items 200000000000000000
      (All-take (λ (edge : Edge). IsWithin 1000000000000 edge.amount) sweep.next sweep.edges.items (λ k d inside. (is.edges k d inside).amount)) few-passed is.amounts

  pub small-counts : IsSmall 200000000000000000 sweep.counts.nodes.items
  small-counts = small-covered (λ edge. edge.count) (take sweep.next sweep.edges.items) sweep.counts.nodes.items 200000000000000000
      (All-take (λ (edge : Edge). IsWithin 1000000000000 edge.count) sweep.next sweep.edges.items (λ k d inside. (is.edges k d inside).count)) few-passed is.counts

pub IsSmall-wider : (bound wide : ℕ) (nodes : List ℤ) → bound ≤ wide → IsSmall bound nodes → IsSmall wide nodes
IsSmall-wider bound wide nodes le small = record {
  before = small.before;
  stands = small.stands;
  within = λ end. let within = small.within end in record { low = omega (arith, ints, within, le); high = omega (arith, ints, within, le) };
}

pub GoesOn-trans : (first second third : Sweep) → GoesOn first second → GoesOn second third → GoesOn first third
GoesOn-trans first second third one two = record {
  sweep = two.sweep;
  edges = two.edges ∙ one.edges;
  ranks = two.ranks ∙ one.ranks;
  room = λ points boxes room. two.room points boxes (one.room points boxes room);
}

-- behind an edge past the place all edges are
pub left-rising : (edges : List Edge) (next place : ℕ) → IsNonDecreasingBy (λ edge. edge.place) edges → ((d : Edge) → next < length edges → place < (get_or edges next d).place)
    → All (λ edge. place < edge.place) (drop next edges)
left-rising edges next place rising behind k d inside =
    let k-inside : next + k < length edges = omega (arith, inside, length-drop next edges) in
    let at : (get_or (drop next edges) k d).place ≡ (get_or edges (next + k) d).place = ap (λ (edge : Edge). edge.place) (get_or-drop next edges k d) in
    omega (arith, at, behind d (omega (arith, k-inside)), rising next (next + k) d (omega arith) k-inside)
