-- Ranks tell whether a second value lies between two bounds.
use Rattle.std.proofs.Common.{◌≡◌, ℕ, ℤ, ◌<◌, ◌≤◌, ◌≤ℤ◌, ◌-◌, drop, ◌&&◌, ◌↔◌, get_or, Bool, cond, nat_le, nat_lt, int_le, List, [], ◌∷◌, length, map, refl, ap, sym, ◌∙◌, true, false, arith}
use Rattle.std.specs.Prelude.{filter, slice_range, All}
use Rattle.std.specs.List.{Contains}
use Rattle.std.proofs.lemmas.Bool.{leb-true, le-leb, lt-ltb, ltb-true}
use Rattle.std.proofs.lemmas.Int.{ints}
use Rattle.std.proofs.lemmas.List.Elements.{All-drop, All-take}
use Rattle.sgl_values.specs.Range.{is_between}
use Rattle.range_aggregate.proofs.Slices.{map-slice_range}
use Rattle.rank_table.proofs.Ranking.{le_true}
use Rattle.rank_table.specs.Laws.{RanksAreBounded, RanksTellFrom, RanksTellTo}
use Rattle.rank_table.specs.Ranks.{count_below, count_through}
use Rattle.row_groups.specs.declared.ranked.Ranked.{Ranked}
use Rattle.row_groups.specs.Across.{rank_in}
use Rattle.row_groups.specs.Ranked.{cut_across}
use Rattle.row_groups.specs.Strips.{is_held, rows_held}
use Rattle.row_groups.proofs.Filters.{filter_agree_on}

-- rows and ranks side by side
pub held-map : (low end : ℕ) (rank : Ranked → ℕ) (all : List Ranked) → rows_held low end (map (λ (r : Ranked). r.row) all) (map rank all) ≡ map (λ (r : Ranked). r.row) (filter (λ r. is_held low end (rank r)) all)
held-map low end rank [] = refl
held-map low end rank (r ∷ rest) = by (is_held low end (rank r)) (held-map low end rank rest)
  where
    by : (b : Bool) → rows_held low end (map (λ (x : Ranked). x.row) rest) (map rank rest) ≡ map (λ (x : Ranked). x.row) (filter (λ x. is_held low end (rank x)) rest)
        → cond b (r.row ∷ rows_held low end (map (λ (x : Ranked). x.row) rest) (map rank rest)) (rows_held low end (map (λ (x : Ranked). x.row) rest) (map rank rest))
        ≡ map (λ (x : Ranked). x.row) (cond b (r ∷ filter (λ x. is_held low end (rank x)) rest) (filter (λ x. is_held low end (rank x)) rest))
    by true h = ap (λ l. r.row ∷ l) h
    by false h = h

-- ---- one rank

both_ways : (b c : Bool) → (b ≡ true → c ≡ true) → (c ≡ true → b ≡ true) → b ≡ c
both_ways true c on back = sym (on refl)
both_ways false true on back = back refl
both_ways false false on back = refl

-- a test of ranks that tells whether two integers are in order
module _ (low high : ℤ) where
  tells : (b : Bool) (N : Type 0) → (b ≡ true → N) → (N → b ≡ true) → ((low ≤ℤ high) ↔ N) → b ≡ int_le low high
  tells b N on back same = both_ways b (int_le low high) (λ h. le_true low high (same.1 (on h))) (λ h. back (same.0 (at_most h)))
    where
      at_most : int_le low high ≡ true → low ≤ℤ high
      at_most h = grind (arith, ints)

  le-tells : (a b : ℕ) → ((low ≤ℤ high) ↔ (a ≤ b)) → nat_le a b ≡ int_le low high
  le-tells a b = tells (nat_le a b) (a ≤ b) (leb-true a b) (le-leb a b)

  lt-tells : (a b : ℕ) → ((low ≤ℤ high) ↔ (a < b)) → nat_lt a b ≡ int_le low high
  lt-tells a b = tells (nat_lt a b) (a < b) (ltb-true a b) (lt-ltb a b)

module _ (table : List ℤ) (few : length table ≤ 65536) (bounded : RanksAreBounded) (from : RanksTellFrom) (to : RanksTellTo) where
  -- one of the numbers of the table has its own rank
  rank-is : (ranked : Ranked) → Contains table ranked.across → rank_in table ranked ≡ count_below ranked.across table
  rank-is ranked among =
      let own : count_below ranked.across table < count_through ranked.across table = (to ranked.across ranked.across table among).0 (le-self ranked.across) in
      let most : count_through ranked.across table ≤ length table = (bounded ranked.across table).1 in
      omega (arith, own, most, few)
    where
      le-self : (x : ℤ) → x ≤ℤ x
      le-self x = omega (arith, ints)

  held-between : (y1 y2 : ℤ) (ranked : Ranked) → Contains table ranked.across
      → is_held (count_below y1 table) (count_through y2 table) (rank_in table ranked) ≡ is_between y1 y2 ranked.across
  held-between y1 y2 ranked among =
      ap (is_held (count_below y1 table) (count_through y2 table)) (rank-is ranked among)
      ∙ ap (λ b. b && nat_lt (count_below ranked.across table) (count_through y2 table)) (le-tells y1 ranked.across (count_below y1 table) (count_below ranked.across table) (from y1 ranked.across table among))
      ∙ ap (λ b. int_le y1 ranked.across && b) (lt-tells ranked.across y2 (count_below ranked.across table) (count_through y2 table) (to y2 ranked.across table among))

  -- of neighbours
  pub strip_cut : (all : List Ranked) (i j : ℕ) (y1 y2 : ℤ) → All (λ ranked. Contains table ranked.across) all
      → rows_held (count_below y1 table) (count_through y2 table) (slice_range (map (λ (r : Ranked). r.row) all) i j) (slice_range (map (rank_in table) all) i j)
      ≡ map (λ (r : Ranked). r.row) (cut_across y1 y2 (slice_range all i j))
  strip_cut all i j y1 y2 among =
      let low = count_below y1 table in
      let end = count_through y2 table in
      let part = slice_range all i j in
      let Among : Ranked → Type 0 = λ r. Contains table r.across in
      ap (λ l. rows_held low end l (slice_range (map (rank_in table) all) i j)) (sym (map-slice_range (λ (r : Ranked). r.row) all i j))
      ∙ ap (rows_held low end (map (λ (r : Ranked). r.row) part)) (sym (map-slice_range (rank_in table) all i j))
      ∙ held-map low end (rank_in table) part
      ∙ ap (map (λ (r : Ranked). r.row)) (filter_agree_on (λ ranked. is_held low end (rank_in table ranked)) (λ ranked. is_between y1 y2 ranked.across) part
      (λ k d inside. held-between y1 y2 (get_or part k d) (All-take Among (j - i) (drop i all) (All-drop Among i all among) k d inside)))
