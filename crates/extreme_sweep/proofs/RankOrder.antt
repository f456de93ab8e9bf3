-- Points by their ranks: the entries at places, and the least of ranks as the least of their pairs.
use Rattle.std.proofs.Common.{◌≡◌, ◌∙◌, ◌+◌, ◌-◌, ◌<◌, ◌≤◌, ℕ, zero, suc, ℤ, pos, negsuc, Bool, true, false, cond, List, [], ◌∷◌, length, get_or, map, replicate, take, drop, refl, sym, ap, subst, arith, ⊎_elim}
use Rattle.std.proofs.lemmas.Bool.{cases_lt, lt-ltb, le-ltb, ltb-false}
use Rattle.std.proofs.lemmas.List.{drop-map, get_or-map}
use Rattle.std.proofs.lemmas.List.Sorted.{ranks_by, sorted_far}
use Rattle.std.proofs.lemmas.Option.{slice_get-get_or, slice_get-map, slice_get_past, slice_get_within}
use Rattle.std.specs.List.{take-map}
use Rattle.std.specs.Option.{option_map}
use Rattle.std.specs.Ordering.{is_gt, is_lt, ordering_reverse}
use Rattle.std.specs.Prelude.{All, Option, Some, None, nat_lt, slice_get, slice_range}
use Rattle.std.specs.declared.cmp.Ordering.{Ordering}
use Rattle.std.specs.declared.cmp.Ordering.TheVariants.{Less, Equal, Greater}
use Rattle.extreme_sweep.specs.declared.pair.Pair.{Pair}
use Rattle.extreme_sweep.specs.declared.pair.Entry.{Entry}
use Rattle.extreme_sweep.specs.declared.window.SweepPoint.{SweepPoint}
use Rattle.extreme_sweep.specs.Nodes.{leaf_of, least_below}
use Rattle.extreme_sweep.specs.Pairs.{pair_cmp, is_other_than}
use Rattle.extreme_sweep.specs.Places.{least_between}
use Rattle.extreme_sweep.specs.Ranking.{points_of, entry_of, pair_of, entries_at, PairsRise}
use Rattle.extreme_sweep.specs.Ranks.{no_rank, rank_pair, pair_of_rank, ranked, rank_entry, rank_entries}
use Rattle.extreme_sweep.specs.Slots.{point_at}
use Rattle.extreme_sweep.proofs.Blocks.{least_at, least-place}
use Rattle.extreme_sweep.proofs.Packing.{above, part-entries}
use Rattle.extreme_sweep.proofs.PairLaws.{pair_laws, lesser, lesser-first}

-- ---- entries at places

pub no-point : (points : List SweepPoint) (rank : ℕ) → length points ≤ rank → entry_of points rank ≡ None
no-point points rank past = ap (option_map (λ (p : SweepPoint). p.entry)) (slice_get_past points rank past)

pub no-pair : (points : List SweepPoint) (rank : ℕ) → length points ≤ rank → pair_of points rank ≡ None
no-pair points rank past = ap (option_map (λ (p : SweepPoint). p.entry.pair)) (slice_get_past points rank past)

-- where there is no point, there is no rank of one
pub no-rank-entry : (points : List SweepPoint) (groups : List ℤ) (rank : ℕ) → groups ≡ map (λ (p : SweepPoint). p.entry.group) points → entry_of points rank ≡ None → rank_entry groups rank ≡ None
no-rank-entry points groups rank are none =
    ap (option_map (λ group. ranked group rank)) (ap (λ l. slice_get l rank) are ∙ slice_get-map (λ (p : SweepPoint). p.entry.group) points rank) ∙ by (slice_get points rank) none
  where
    by : (o : Option SweepPoint) → option_map (λ (p : SweepPoint). p.entry) o ≡ None → option_map (λ group. ranked group rank) (option_map (λ (p : SweepPoint). p.entry.group) o) ≡ None
    by None is = refl
    by (Some p) is = cc

pub entries-none : (points : List SweepPoint) (n : ℕ) → length points ≤ no_rank → entries_at points (replicate n no_rank) ≡ replicate n None
entries-none points zero few = refl
entries-none points (suc n) few = (λ i. no-point points no_rank few i ∷ entries-none points n few i)

-- the entry of the point that is laid at a place
pub laid-entry : (points : List SweepPoint) (ranks : List ℕ) (place rank : ℕ) → place < length ranks → rank ≡ get_or ranks place 0 → All (λ (r : ℕ). r < length points) ranks
    → entry_of points rank ≡ Some (point_at (points_of points ranks) place).entry
laid-entry points ranks place rank inside is all =
    ap (entry_of points) is
    ∙ ap (option_map (λ (p : SweepPoint). p.entry)) (slice_get-get_or points (get_or ranks place 0) _ (all place 0 inside))
    ∙ ap (λ (p : SweepPoint). Some p.entry) (sym (get_or-map (λ (r : ℕ). point_at points r) ranks place 0 _ inside))

-- ---- the least rank has the least pair

gt-reversed : (o : Ordering) → is_gt (ordering_reverse o) ≡ is_lt o
gt-reversed Less = refl
gt-reversed Equal = refl
gt-reversed Greater = refl

module _ (points : List SweepPoint) (rising : PairsRise points) (groups : List ℤ) (are : groups ≡ map (λ (p : SweepPoint). p.entry.group) points) where
  abbrev pair_at : ℕ → Pair
  pair_at rank = (point_at points rank).entry.pair

  not-above : (low high : ℕ) → low ≤ high → high < length points → is_gt (pair_cmp (pair_at low) (pair_at high)) ≡ false
  not-above low high order inside =
      ap is_gt (pair_laws.total.antisymm (pair_at low) (pair_at high)) ∙ gt-reversed (pair_cmp (pair_at high) (pair_at low))
      ∙ sorted_far (λ (a b : SweepPoint). is_lt (pair_cmp a.entry.pair b.entry.pair)) (ranks_by pair_laws.total (λ (p : SweepPoint). p.entry.pair)) points rising low high _ order inside

  abbrev rank_of : ℤ → ℕ
  rank_of (pos n) = n
  rank_of (negsuc n) = 0

  -- the pair of the point with the rank that a pair stands for
  abbrev real : Option Pair → Option Pair
  real None = None
  real (Some p) = pair_of points (rank_of p.value)

  -- that of a rank of a point, where it is one
  abbrev Stands : Option Pair → Type 0
  Stands None = Unit {0}
  Stands (Some p) = (rank : ℕ) × (p ≡ rank_pair rank) × (rank < length points)

  lesser-stands : (a b : Option Pair) → Stands a → Stands b → Stands (lesser a b)
  lesser-stands None b x y = y
  lesser-stands (Some p) None x y = x
  lesser-stands (Some p) (Some q) x y = by (is_gt (pair_cmp p q))
    where
      by : (g : Bool) → Stands (cond g (Some q) (Some p))
      by true = y
      by false = x

  pair-there : (rank : ℕ) → rank < length points → pair_of points rank ≡ Some (pair_at rank)
  pair-there rank inside = ap (option_map (λ (p : SweepPoint). p.entry.pair)) (slice_get-get_or points rank _ inside)

  lesser-ranks : (r s : ℕ) → r < length points → s < length points → real (lesser (Some (rank_pair r)) (Some (rank_pair s))) ≡ lesser (pair_of points r) (pair_of points s)
  lesser-ranks r s r-inside s-inside = ⊎_elim
      (λ less.
      ap real (ap (λ (g : Bool). cond g (Some (rank_pair s)) (Some (rank_pair r))) (above r s ∙ lt-ltb s r less)) ∙ pair-there s s-inside
      ∙ sym ((λ i. lesser (pair-there r r-inside i) (pair-there s s-inside i)) ∙ pair_laws.comm (Some (pair_at r)) (Some (pair_at s))
      ∙ lesser-first (pair_at s) (pair_at r) (not-above s r (omega arith) r-inside)))
      (λ most.
      ap real (lesser-first (rank_pair r) (rank_pair s) (above r s ∙ le-ltb s r most)) ∙ pair-there r r-inside
      ∙ sym ((λ i. lesser (pair-there r r-inside i) (pair-there s s-inside i)) ∙ lesser-first (pair_at r) (pair_at s) (not-above r s most s-inside)))
      (cases_lt s r)

  lesser-real : (a b : Option Pair) → Stands a → Stands b → real (lesser a b) ≡ lesser (real a) (real b)
  lesser-real None b x y = refl
  lesser-real (Some p) None x y = sym (pair_laws.none-right (real (Some p)))
  lesser-real (Some p) (Some q) x y =
      (λ i. real (lesser (Some (x.1 i)) (Some (y.1 i)))) ∙ lesser-ranks x.0 y.0 x.2 y.2 ∙ sym (λ i. lesser (real (Some (x.1 i))) (real (Some (y.1 i))))

  module _ (other : Option ℤ) where
    abbrev of_rank : ℕ → Option Pair
    of_rank rank = least_below other (leaf_of (rank_entry groups rank))

    abbrev of_point : ℕ → Option Pair
    of_point rank = least_below other (leaf_of (entry_of points rank))

    same-group : (p : SweepPoint) (rank : ℕ) → is_other_than other (ranked p.entry.group rank) ≡ is_other_than other p.entry
    same-group p rank = by other
      where
        by : (o : Option ℤ) → is_other_than o (ranked p.entry.group rank) ≡ is_other_than o p.entry
        by None = refl
        by (Some g) = refl

    abbrev group_of : Option SweepPoint → Option ℤ
    group_of = option_map (λ (p : SweepPoint). p.entry.group)

    one-rank : (rank : ℕ) → Stands (of_rank rank) × (of_point rank ≡ real (of_rank rank))
    one-rank rank =
        subst (λ (o : Option ℤ). Stands (least_below other (leaf_of (option_map (λ g. ranked g rank) o))) × (of_point rank ≡ real (least_below other (leaf_of (option_map (λ g. ranked g rank) o)))))
        (sym (ap (λ l. slice_get l rank) are ∙ slice_get-map (λ (p : SweepPoint). p.entry.group) points rank))
        (by (slice_get points rank) refl)
      where
        kept : (p : SweepPoint) → slice_get points rank ≡ Some p → (b : Bool)
            → Stands (option_map (λ (e : Entry). e.pair) (cond b (Some (ranked p.entry.group rank)) None))
            × (option_map (λ (e : Entry). e.pair) (cond b (Some p.entry) None) ≡ real (option_map (λ (e : Entry). e.pair) (cond b (Some (ranked p.entry.group rank)) None)))
        kept p at true = ((rank, refl, slice_get_within points rank p at), sym (ap (option_map (λ (q : SweepPoint). q.entry.pair)) at))
        kept p at false = (tt, refl)

        by : (o : Option SweepPoint) → slice_get points rank ≡ o
            → Stands (least_below other (leaf_of (option_map (λ g. ranked g rank) (group_of o)))) × (least_below other (leaf_of (option_map (λ (p : SweepPoint). p.entry) o)) ≡ real (least_below other (leaf_of (option_map (λ g. ranked g rank) (group_of o)))))
        by None at = (tt, refl)
        by (Some p) at = subst (λ (b : Bool). Stands (option_map (λ (e : Entry). e.pair) (cond b (Some (ranked p.entry.group rank)) None))
            × (option_map (λ (e : Entry). e.pair) (cond (is_other_than other p.entry) (Some p.entry) None) ≡ real (option_map (λ (e : Entry). e.pair) (cond b (Some (ranked p.entry.group rank)) None))))
            (sym (same-group p rank)) (kept p at (is_other_than other p.entry))

    all-ranks : (ranks : List ℕ) → Stands (least_at other (rank_entries groups ranks)) × (least_at other (entries_at points ranks) ≡ real (least_at other (rank_entries groups ranks)))
    all-ranks [] = (tt, refl)
    all-ranks (rank ∷ ranks) =
        let first = one-rank rank in
        let later = all-ranks ranks in
        let a = of_rank rank in
        let b = least_at other (rank_entries groups ranks) in
        let is = least-place other (rank_entry groups rank) (rank_entries groups ranks) in (
          subst Stands (sym is) (lesser-stands a b first.0 later.0),
          least-place other (entry_of points rank) (entries_at points ranks) ∙ (λ i. lesser (first.1 i) (later.1 i)) ∙ sym (lesser-real a b first.0 later.0) ∙ ap real (sym is),
        )

    part-points : (ranks : List ℕ) (low high : ℕ) → entries_at points (slice_range ranks low high) ≡ slice_range (entries_at points ranks) low high
    part-points ranks low high = sym (ap (take (high - low)) (drop-map (entry_of points) low ranks) ∙ take-map (entry_of points) (high - low) (drop low ranks))

    rank-real : (rank : ℕ) → length points ≤ no_rank → pair_of points rank ≡ real (pair_of_rank rank)
    rank-real rank few = by (nat_lt rank no_rank) refl
      where
        by : (b : Bool) → nat_lt rank no_rank ≡ b → pair_of points rank ≡ real (cond b (Some (rank_pair rank)) None)
        by true inside = refl
        by false outside = ap (option_map (λ (p : SweepPoint). p.entry.pair)) (slice_get_past points rank (omega (arith, few, ltb-false rank no_rank outside)))

    pub least-real : (ranks : List ℕ) (rank i j : ℕ) → length points ≤ no_rank → pair_of_rank rank ≡ least_between (rank_entries groups ranks) i j other
        → pair_of points rank ≡ least_between (entries_at points ranks) i j other
    least-real ranks rank i j few is =
        rank-real rank few ∙ ap real (is ∙ ap (least_at other) (sym (part-entries groups ranks i (j + 1))))
        ∙ sym (all-ranks (slice_range ranks i (j + 1))).1 ∙ ap (least_at other) (part-points ranks i (j + 1))
