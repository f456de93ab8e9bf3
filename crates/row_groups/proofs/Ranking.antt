-- Rows by group and value: those between two bounds stand side by side, and are those of the rows of the group.
use Rattle.std.proofs.Common.{◌≡◌, ℕ, ℤ, ◌+◌, ◌<◌, ◌≤◌, ◌≤ℤ◌, ◌⊎◌, inl, inr, Bool, true, false, ◌&&◌, ◌||◌, ◌==◌, nat_lt, int_lt, int_le, cond, max, List, [], ◌∷◌, ◌++◌, length, map, take, get_or, Option, refl, ap, sym, subst, ◌∙◌, arith}
use Rattle.std.specs.Prelude.{filter, slice_range, ◌<ℤ◌}
use Rattle.std.specs.Cmp.{IsTotalOrder}
use Rattle.std.specs.List.Sorted.{IsPermutation, IsPartitionedBy, IsPartitionPoint}
use Rattle.std.specs.Ordering.{MatchOrdering, is_lt, int_cmp, nat_cmp, ordering_then}
use Rattle.std.specs.declared.cmp.Ordering.{Ordering}
use Rattle.std.specs.declared.cmp.Ordering.TheVariants.{Less, Equal, Greater}
use Rattle.std.proofs.lemmas.Bool.{cases_lt, cases_eq, eq-eqb, false≢true, true≢false, lt-ltb, ltb-true, ne_eqb}
use Rattle.std.proofs.lemmas.Bool.Decides.{Decides-eqb}
use Rattle.std.proofs.lemmas.Cmp.{int_cmp_total, int_ranked, nat_cmp_total, on_total, then_total}
use Rattle.std.proofs.lemmas.Int.{ints}
use Rattle.std.proofs.lemmas.List.{get_or_append_left, get_or_past, get_or_push, length-take-le, length_push, map-append, take_all, take_more}
use Rattle.std.proofs.lemmas.List.Elements.{filter-append}
use Rattle.std.proofs.lemmas.List.Sorted.{IsPermutation-map, IsPermutation-sym, ranks_by, sorted_far}
use Rattle.sgl_values.specs.World.{World, row_at}
use Rattle.sgl_values.specs.Range.{is_between}
use Rattle.sgl_values.proofs.Permutations.{IsPermutation-filter}
use Rattle.sgl_typed.specs.declared.script.Attr.{Attr}
use Rattle.range_aggregate.proofs.Slices.{filter_part}
use Rattle.row_groups.specs.declared.ranked.Ranked.{Ranked}
use Rattle.row_groups.specs.Keys.{along}
use Rattle.row_groups.specs.Ranked.{AreInOrder, HoldGroups, cut_across, is_before, is_in_group, is_through, rank_cmp, rank_of, ranked_row, rows_between, rows_valued}
use Rattle.row_groups.proofs.Filters.{filter-map}

-- ---- the order

-- of two rows in order the earlier is in an earlier group, or in the same with no greater value
abbrev pub Goes : (g h : ℕ) (v w : ℤ) → Type 0
Goes g h v w = (g < h) ⊎ ((g ≡ h) × (v ≤ℤ w))

goes-by : (g h : ℕ) (v w : ℤ) (o q : Ordering) → MatchOrdering o (h < g) (h ≡ g) (g < h) → MatchOrdering q (w <ℤ v) (w ≡ v) (v <ℤ w)
    → is_lt (ordering_then o q) ≡ false → Goes g h v w
goes-by g h v w Less q a b e = absurd (true≢false e)
goes-by g h v w Greater q a b e = inl a
goes-by g h v w Equal Less a b e = absurd (true≢false e)
goes-by g h v w Equal Equal a b e = inr (sym a, omega (arith, ints, b))
goes-by g h v w Equal Greater a b e = inr (sym a, omega (arith, ints, b))

nat-ranked : (x y : ℕ) → MatchOrdering (nat_cmp x y) (x < y) (x ≡ y) (y < x)
nat-ranked x y = by (nat_lt x y) (x == y) refl refl
  where
    by : (b c : Bool) → nat_lt x y ≡ b → (x == y) ≡ c → MatchOrdering (cond b Less (cond c Equal Greater)) (x < y) (x ≡ y) (y < x)
    by true c lt eq = ltb-true x y lt
    by false true lt eq = (Decides-eqb x y).0 eq
    by false false lt eq = elim (cases_lt x y) [
      | inl below ↦ absurd (true≢false (sym (lt-ltb x y below) ∙ lt))
      | inr above ↦ elim (cases_eq x y) [
        | inl same ↦ absurd (true≢false (sym (eq-eqb x y same) ∙ eq))
        | inr other ↦ omega (arith, above, other)
      ]
    ]

goes : (g h : ℕ) (v w : ℤ) → is_lt (ordering_then (nat_cmp h g) (int_cmp w v)) ≡ false → Goes g h v w
goes g h v w e = goes-by g h v w (nat_cmp h g) (int_cmp w v) (nat-ranked h g) (int_ranked w v (int_cmp w v) refl) e

-- a test that holds of the values up to some bound holds of an earlier row where it holds of a later one
earlier : (k g h : ℕ) (v w : ℤ) (b c : Bool) → (v ≤ℤ w → c ≡ true → b ≡ true) → Goes g h v w
    → (nat_lt h k || ((h == k) && c)) ≡ true → (nat_lt g k || ((g == k) && b)) ≡ true
earlier k g h v w b c through (inl less) later = by (nat_lt h k) (h == k) refl refl later
  where
    first : g < k → (nat_lt g k || ((g == k) && b)) ≡ true
    first lt = ap (λ d. d || ((g == k) && b)) (lt-ltb g k lt)

    by : (d e : Bool) → nat_lt h k ≡ d → (h == k) ≡ e → (d || (e && c)) ≡ true → (nat_lt g k || ((g == k) && b)) ≡ true
    by true e lt eq t = let below : h < k = ltb-true h k lt in first (omega (arith, below, less))
    by false true lt eq t = let same : h ≡ k = (Decides-eqb h k).0 eq in first (omega (arith, same, less))
    by false false lt eq t = absurd (false≢true t)
earlier k g h v w b c through (inr same) later = by (nat_lt h k) (h == k) refl refl later
  where
    by : (d e : Bool) → nat_lt h k ≡ d → (h == k) ≡ e → (d || (e && c)) ≡ true → (nat_lt g k || ((g == k) && b)) ≡ true
    by true e lt eq t = ap (λ d. d || ((g == k) && b)) (ap (λ n. nat_lt n k) same.0 ∙ lt)
    by false true lt eq t =
        ap (λ d. nat_lt g k || (d && b)) (ap (λ n. n == k) same.0 ∙ eq) ∙ ap (λ d. nat_lt g k || d) (through same.1 t) ∙ or-true (nat_lt g k)
      where
        or-true : (d : Bool) → (d || true) ≡ true
        or-true true = refl
        or-true false = refl
    by false false lt eq t = absurd (false≢true t)

rank_total : IsTotalOrder rank_cmp
rank_total = then_total (on_total (λ (p : ℕ × ℤ). p.0) nat_cmp_total) (on_total (λ (p : ℕ × ℤ). p.1) int_cmp_total)

-- the row is in an earlier group, or in this one with a value that the test passes
abbrev pub is_bounded : (ℤ → ℤ → Bool) → ℕ → ℤ → Ranked → Bool
is_bounded test group t ranked = nat_lt ranked.group group || ((ranked.group == group) && test ranked.value t)

module _ (all : List Ranked) (order : AreInOrder all) where
  pub goes_at : (i j : ℕ) (d : Ranked) → i ≤ j → j < length all → Goes (get_or all i d).group (get_or all j d).group (get_or all i d).value (get_or all j d).value
  goes_at i j d before below =
      goes (get_or all i d).group (get_or all j d).group (get_or all i d).value (get_or all j d).value
      (sorted_far (λ a b. is_lt (rank_cmp (rank_of a) (rank_of b))) (ranks_by rank_total rank_of) all order i j d before below)

  -- a search by halving finds a bound, by a test that passes what is no greater than one that it passes
  pub IsPartitionedBy-bound : (test : ℤ → ℤ → Bool) → ((a b t : ℤ) → a ≤ℤ b → test b t ≡ true → test a t ≡ true) → (group : ℕ) (t : ℤ) → IsPartitionedBy (is_bounded test group t) all
  IsPartitionedBy-bound test falls group t i j d before below later =
      earlier group (get_or all i d).group (get_or all j d).group (get_or all i d).value (get_or all j d).value
      (test (get_or all i d).value t) (test (get_or all j d).value t) (falls (get_or all i d).value (get_or all j d).value t)
      (goes_at i j d before below) later

-- ---- the rows between two bounds

apart : (g k : ℕ) → nat_lt g k ≡ true → (g == k) ≡ false
apart g k lt = ne_eqb g k (λ same. let below : g < k = ltb-true g k lt in omega (arith, below, same))

under : (v low : ℤ) → int_lt v low ≡ true → int_le low v ≡ false
under v low e = grind (arith, ints)

over : (v low : ℤ) → int_lt v low ≡ false → int_le low v ≡ true
over v low e = grind (arith, ints)

not_before : (x e a c b : Bool) → (x ≡ true → e ≡ false) → (a ≡ true → c ≡ false) → (x || (e && a)) ≡ true → (e && (c && b)) ≡ false
not_before x false a c b p q h = refl
not_before true true a c b p q h = absurd (true≢false (p refl))
not_before false true true c b p q h = ap (λ d. d && b) (q refl)
not_before false true false c b p q h = absurd (false≢true h)

not_after : (x e c b : Bool) → (x || (e && b)) ≡ false → (e && (c && b)) ≡ false
not_after x false c b h = refl
not_after true true c b h = absurd (true≢false h)
not_after false true c true h = absurd (true≢false h)
not_after false true true false h = refl
not_after false true false false h = refl

inside : (x e a c b : Bool) → (a ≡ false → c ≡ true) → (x || (e && a)) ≡ false → (x || (e && b)) ≡ true → (e && (c && b)) ≡ true
inside true e a c b p h t = absurd (true≢false h)
inside false false a c b p h t = absurd (false≢true t)
inside false true true c b p h t = absurd (true≢false h)
inside false true false c true p h t = ap (λ d. d && true) (p refl)
inside false true false c false p h t = absurd (false≢true t)

module _ (group : ℕ) (low high : ℤ) (ranked : Ranked) where
  fails_before : is_before group low ranked ≡ true → is_in_group group low high ranked ≡ false
  fails_before h =
      not_before (nat_lt ranked.group group) (ranked.group == group) (int_lt ranked.value low) (int_le low ranked.value) (int_le ranked.value high)
      (apart ranked.group group) (under ranked.value low) h

  fails_after : is_through group high ranked ≡ false → is_in_group group low high ranked ≡ false
  fails_after h = not_after (nat_lt ranked.group group) (ranked.group == group) (int_le low ranked.value) (int_le ranked.value high) h

  passes : is_before group low ranked ≡ false → is_through group high ranked ≡ true → is_in_group group low high ranked ≡ true
  passes h t =
      inside (nat_lt ranked.group group) (ranked.group == group) (int_lt ranked.value low) (int_le low ranked.value) (int_le ranked.value high)
      (over ranked.value low) h t

-- what two searches cut out
pub rows_cut : (all : List Ranked) (group : ℕ) (low high : ℤ) (from to : ℕ) → from ≤ length all → to ≤ length all
    → IsPartitionPoint (λ r. is_before group low r ≡ true) (λ r. is_before group low r ≡ false) all from
    → IsPartitionPoint (λ r. is_through group high r ≡ true) (λ r. is_through group high r ≡ false) all to
    → slice_range all from (max to from) ≡ filter (is_in_group group low high) all
rows_cut all group low high from to from_in to_in first last =
    sym (filter_part (is_in_group group low high) all from (max to from) (omega arith) (omega (arith, from_in, to_in))
    (λ k d at below. fails_before group low high (get_or all k d) (first.0 k d at below))
    (λ k d at below. passes group low high (get_or all k d) (first.1 k d at (omega (arith, below, from_in, to_in))) (last.0 k d (omega arith) (omega (arith, at, below))))
    (λ k d at below. fails_after group low high (get_or all k d) (last.1 k d (omega (arith, at)) below)))

-- ---- the rows of the groups

module _ (axis across : Option Attr) (world : World) where
  pub back : (group : ℕ) (rows : List ℕ) → map (λ (r : Ranked). r.row) (map (ranked_row axis across world group) rows) ≡ rows
  back group [] = refl
  back group (row ∷ rows) = ap (λ l. row ∷ l) (back group rows)

  -- of the rows of one group, by both tests
  of_rows : (k group : ℕ) (x1 x2 y1 y2 : ℤ) (rows : List ℕ) → rows_between (map (ranked_row axis across world k) rows) group x1 x2 y1 y2
      ≡ rows_valued across world y1 y2 (filter (λ row. is_in_group group x1 x2 (ranked_row axis across world k row)) rows)
  of_rows k group x1 x2 y1 y2 rows =
      let first = filter (λ (row : ℕ). is_in_group group x1 x2 (ranked_row axis across world k row)) rows in
      ap (λ (l : List Ranked). map (λ (r : Ranked). r.row) (cut_across y1 y2 l)) (filter-map (ranked_row axis across world k) (is_in_group group x1 x2) rows)
      ∙ ap (map (λ (r : Ranked). r.row)) (filter-map (ranked_row axis across world k) (λ ranked. is_between y1 y2 ranked.across) first)
      ∙ back k (rows_valued across world y1 y2 first)

  -- of the rows of a group
  of_group : (group : ℕ) (x1 x2 y1 y2 : ℤ) (rows : List ℕ) → rows_between (map (ranked_row axis across world group) rows) group x1 x2 y1 y2
      ≡ rows_valued across world y1 y2 (rows_valued axis world x1 x2 rows)
  of_group group x1 x2 y1 y2 rows =
      of_rows group group x1 x2 y1 y2 rows
      ∙ ap (λ b. rows_valued across world y1 y2 (filter (λ row. b && is_between x1 x2 (along axis (row_at world row))) rows)) (eq-eqb group group refl)

  -- of those of another
  of_other : (k group : ℕ) (x1 x2 y1 y2 : ℤ) (rows : List ℕ) → (k ≡ group → ⊥) → rows_between (map (ranked_row axis across world k) rows) group x1 x2 y1 y2 ≡ []
  of_other k group x1 x2 y1 y2 rows other =
      of_rows k group x1 x2 y1 y2 rows
      ∙ ap (λ b. rows_valued across world y1 y2 (filter (λ row. b && is_between x1 x2 (along axis (row_at world row))) rows)) (ne_eqb k group other)
      ∙ ap (rows_valued across world y1 y2) (none rows)
    where
      none : (ns : List ℕ) → filter (λ row. false && is_between x1 x2 (along axis (row_at world row))) ns ≡ []
      none [] = refl
      none (n ∷ ns) = none ns

  rows_between-append : (xs ys : List Ranked) (group : ℕ) (x1 x2 y1 y2 : ℤ) → rows_between (xs ++ ys) group x1 x2 y1 y2 ≡ rows_between xs group x1 x2 y1 y2 ++ rows_between ys group x1 x2 y1 y2
  rows_between-append xs ys group x1 x2 y1 y2 =
      ap (λ (l : List Ranked). map (λ (r : Ranked). r.row) (cut_across y1 y2 l)) (filter-append (is_in_group group x1 x2) xs ys)
      ∙ ap (map (λ (r : Ranked). r.row)) (filter-append (λ (ranked : Ranked). is_between y1 y2 ranked.across) (filter (is_in_group group x1 x2) xs) (filter (is_in_group group x1 x2) ys))
      ∙ map-append (λ (r : Ranked). r.row) (cut_across y1 y2 (filter (is_in_group group x1 x2) xs)) (cut_across y1 y2 (filter (is_in_group group x1 x2) ys))

  -- one group more
  pub hold_more : (all : List Ranked) (lists : List (List ℕ)) (k : ℕ) → k < length lists → HoldGroups all (take k lists) axis across world
      → HoldGroups (all ++ map (ranked_row axis across world k) (get_or lists k [])) (take (k + 1) lists) axis across world
  hold_more all lists k below hold group x1 x2 y1 y2 =
      rows_between-append all (map (ranked_row axis across world k) (get_or lists k [])) group x1 x2 y1 y2
      ∙ ap (λ l. l ++ rows_between (map (ranked_row axis across world k) (get_or lists k [])) group x1 x2 y1 y2) (hold group x1 x2 y1 y2)
      ∙ more (cases_eq k group)
      ∙ ap (λ l. rows_valued across world y1 y2 (rows_valued axis world x1 x2 (get_or l group []))) (sym (take_more lists k [] below))
    where
      long : length (take k lists) ≡ k
      long = length-take-le k lists (omega (arith, below))

      more : (k ≡ group) ⊎ (k ≡ group → ⊥) → rows_valued across world y1 y2 (rows_valued axis world x1 x2 (get_or (take k lists) group [])) ++ rows_between (map (ranked_row axis across world k) (get_or lists k [])) group x1 x2 y1 y2
          ≡ rows_valued across world y1 y2 (rows_valued axis world x1 x2 (get_or (take k lists ++ get_or lists k [] ∷ []) group []))
      more (inl same) =
          ap (λ l. rows_valued across world y1 y2 (rows_valued axis world x1 x2 l) ++ rows_between (map (ranked_row axis across world k) (get_or lists k [])) group x1 x2 y1 y2) (get_or_past (take k lists) group [] (omega (arith, long, same)))
          ∙ ap (λ n. rows_between (map (ranked_row axis across world n) (get_or lists k [])) group x1 x2 y1 y2) same
          ∙ of_group group x1 x2 y1 y2 (get_or lists k [])
          ∙ ap (λ l. rows_valued across world y1 y2 (rows_valued axis world x1 x2 l)) (sym (get_or_push (take k lists) (get_or lists k []) [] group (long ∙ same)))
      more (inr other) =
          ap (λ l. rows_valued across world y1 y2 (rows_valued axis world x1 x2 (get_or (take k lists) group [])) ++ l) (of_other k group x1 x2 y1 y2 (get_or lists k []) other)
          ∙ append-nil (rows_valued across world y1 y2 (rows_valued axis world x1 x2 (get_or (take k lists) group [])))
          ∙ ap (λ l. rows_valued across world y1 y2 (rows_valued axis world x1 x2 l)) (beside (cases_lt group k))
        where
          append-nil : (l : List ℕ) → l ++ [] ≡ l
          append-nil [] = refl
          append-nil (n ∷ l) = ap (λ m. n ∷ m) (append-nil l)

          beside : (group < k) ⊎ (k ≤ group) → get_or (take k lists) group [] ≡ get_or (take k lists ++ get_or lists k [] ∷ []) group []
          beside (inl lt) = sym (get_or_append_left (take k lists) (get_or lists k [] ∷ []) [] group (omega (arith, lt, long)))
          beside (inr le) =
              get_or_past (take k lists) group [] (omega (arith, le, long))
              ∙ sym (get_or_past (take k lists ++ get_or lists k [] ∷ []) group [] (omega (arith, le, other, long, length_push (take k lists) (get_or lists k []))))

  -- all groups
  pub hold_all : (all : List Ranked) (lists : List (List ℕ)) (count : ℕ) → count ≡ length lists → HoldGroups all (take count lists) axis across world → HoldGroups all lists axis across world
  hold_all all lists count is hold group x1 x2 y1 y2 =
      hold group x1 x2 y1 y2 ∙ ap (λ l. rows_valued across world y1 y2 (rows_valued axis world x1 x2 (get_or l group []))) (take_all count lists (omega (arith, is)))

  -- in another order
  pub hold_sorted : (all sorted : List Ranked) (lists : List (List ℕ)) → IsPermutation all sorted → HoldGroups all lists axis across world
      → (group : ℕ) (x1 x2 y1 y2 : ℤ) → IsPermutation (rows_between sorted group x1 x2 y1 y2) (rows_valued across world y1 y2 (rows_valued axis world x1 x2 (get_or lists group [])))
  hold_sorted all sorted lists moved hold group x1 x2 y1 y2 =
      let P : List ℕ → Type 0 = λ l. IsPermutation (rows_between sorted group x1 x2 y1 y2) l in
      let first = IsPermutation-filter (is_in_group group x1 x2) all sorted moved in
      subst P (hold group x1 x2 y1 y2)
      (IsPermutation-sym (rows_between all group x1 x2 y1 y2) (rows_between sorted group x1 x2 y1 y2)
      (IsPermutation-map (λ (r : Ranked). r.row) (cut_across y1 y2 (filter (is_in_group group x1 x2) all)) (cut_across y1 y2 (filter (is_in_group group x1 x2) sorted))
      (IsPermutation-filter (λ (ranked : Ranked). is_between y1 y2 ranked.across) (filter (is_in_group group x1 x2) all) (filter (is_in_group group x1 x2) sorted) first)))
