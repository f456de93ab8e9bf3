-- The rows in a circle are among those in the square around it.
use Rattle.std.proofs.Common.{◌≡◌, ℕ, suc, ℤ, pos, negsuc, ◌+◌, ◌*◌, ◌<◌, ◌≤◌, ◌+ℤ◌, ◌-ℤ◌, ◌≤ℤ◌, Bool, true, false, cond, List, [], ◌∷◌, ◌++◌, map, length, get_or, Some, None, refl, ap, append_assoc, sym, ◌∙◌, subst, arith}
use Rattle.std.proofs.Math.IntN.{pos-*ℤ-pos, negsuc-*ℤ-negsuc}
use Rattle.std.specs.Prelude.{filter, All, unsigned_abs}
use Rattle.std.specs.List.{find}
use Rattle.std.specs.List.Sorted.{IsPermutation}
use Rattle.std.specs.Option.{option_map}
use Rattle.std.proofs.lemmas.Bool.{and_parts, false≢true}
use Rattle.std.proofs.lemmas.Int.{ints}
use Rattle.std.proofs.lemmas.List.{append-nil, length-append, length-map}
use Rattle.std.proofs.lemmas.List.Elements.{All-tail, filter-append}
use Rattle.std.proofs.lemmas.List.Sorted.{IsPermutation-map, length_permutation}
use Rattle.std.proofs.lemmas.Nat.{mul-le}
use Rattle.std.proofs.lemmas.Option.{none-some, same_Some}
use Rattle.sgl_values.specs.Distance.{is_in_circle, square, squared_distance}
use Rattle.sgl_values.specs.Range.{is_between}
use Rattle.sgl_values.specs.Totals.{total}
use Rattle.sgl_values.specs.World.{Row, IsRow, row_at}
use Rattle.sgl_values.specs.declared.fault.Val.TheVariants.{N}
use Rattle.sgl_values.specs.declared.operator.FoldKind.{FoldKind}
use Rattle.sgl_values.specs.declared.operator.FoldKind.TheVariants.{Count, Sum, Min, Max, Lowest, Highest, Nearest}
use Rattle.sgl_values.proofs.Permutations.{total-IsPermutation}
use Rattle.sgl_typed.specs.declared.script.Attr.{Attr}
use Rattle.sgl_typed.specs.declared.script.TAgg.{TAgg}
use Rattle.sgl_typed.specs.declared.script.TTest.{TTest}
use Rattle.sgl_typed.specs.declared.script.TTest.TheVariants.{Compare, Within}
use Rattle.sgl_typed.specs.Aggregate.{distance, made, meets, sum_of}
use Rattle.sgl_typed.specs.Value.{Context, attribute}
use Rattle.sgl_evaluate.specs.Rights.{passes_each, right_of}
use Rattle.battle_algebra.specs.Ways.{is_circle}
use Rattle.group_boxes.specs.Ranged.{is_total}
use Rattle.row_groups.specs.Groups.{IsGroups, number_of, rows_if, rows_in}
use Rattle.row_groups.specs.Keys.{along, four_of, has_key}
use Rattle.row_groups.specs.Places.{places}
use Rattle.row_groups.specs.Ranked.{rows_between, rows_valued}
use Rattle.row_groups.proofs.Placing.{at_places}
use Rattle.test_boxes.specs.Readings.{grouping}
use Rattle.test_boxes.specs.declared.reading.Reading.TheVariants.{Away}
use Rattle.index_set.specs.declared.round.Round.{Round}
use Rattle.index_set.specs.Rounds.{centre_of, IsRound}
use Rattle.index_set.specs.Targets.{passing_rows}
use Rattle.index_set.specs.Walks.{row_passes}
use Rattle.index_set.proofs.Intervals.{bounded_rest, no_strip, strip_is_within}

-- ---- a circle and the square around it

square-is : (z : ℤ) → square z ≡ pos (unsigned_abs z * unsigned_abs z)
square-is (pos n) = pos-*ℤ-pos n n
square-is (negsuc n) = negsuc-*ℤ-negsuc n n

square-lt : (a b : ℕ) → b < a → b * b < a * a
square-lt a b above =
    let more : suc b * suc b ≤ a * a = mul-le (suc b) (suc b) a a (omega (arith, above)) (omega (arith, above)) in
    omega (arith, more)

abs-le : (a b : ℕ) → a * a ≤ b * b → a ≤ b
abs-le a b below = grind (arith, square-lt a b)

-- a number whose distance from a centre has a square of at most that of the radius
near-centre : (centre radius v : ℤ) → pos 0 ≤ℤ radius → square (v -ℤ centre) ≤ℤ square radius → is_between (centre -ℤ radius) (centre +ℤ radius) v ≡ true
near-centre centre radius v low below =
    let d = v -ℤ centre in
    let squares : unsigned_abs d * unsigned_abs d ≤ unsigned_abs radius * unsigned_abs radius = omega (arith, ints, square-is d, square-is radius, below) in
    let abs : unsigned_abs d ≤ unsigned_abs radius = abs-le (unsigned_abs d) (unsigned_abs radius) squares in
    grind (arith, ints, abs, low)

circle-holds : (radius d : ℤ) → is_in_circle radius d ≡ true → (pos 0 ≤ℤ radius) × (d ≤ℤ square radius)
circle-holds radius d holds = (grind (arith, ints, holds), grind (arith, ints, holds))

in-square : (x y radius a b : ℤ) → is_in_circle radius (squared_distance x y a b) ≡ true
    → (is_between (x -ℤ radius) (x +ℤ radius) a ≡ true) × (is_between (y -ℤ radius) (y +ℤ radius) b ≡ true)
in-square x y radius a b holds =
    let held = circle-holds radius (squared_distance x y a b) holds in
    let first = square-is (a -ℤ x) in
    let second = square-is (b -ℤ y) in (
      near-centre x radius a held.0 (omega (arith, ints, held.1, first, second)),
      near-centre y radius b held.0 (omega (arith, ints, held.1, first, second)),
    )

-- ---- a row that passes lies in the first circle

in-circle : (c : Context) (tests : List TTest) (row : Row) (x y : Attr) (radius : ℤ) → option_map centre_of (find is_circle tests) ≡ Some (x, y)
    → option_map (right_of c) (find is_circle tests) ≡ Some radius → passes_each c tests row ≡ true → is_in_circle radius (distance x y c.unit row) ≡ true
in-circle c [] row x y radius centre is passes = absurd (none-some (x, y) centre)
in-circle c (Compare attr op right ∷ tests) row x y radius centre is passes =
    in-circle c tests row x y radius centre is (and_parts (meets c.unit row (Compare attr op right) (right_of c (Compare attr op right))) (passes_each c tests row) passes).1
in-circle c (Within a b right ∷ tests) row x y radius centre is passes =
    let test : TTest = Within a b right in
    let axes = same_Some (a, b) (x, y) centre in
    let same = same_Some (right_of c test) radius is in
    (λ i. is_in_circle (sym same i) (distance (sym axes i).0 (sym axes i).1 c.unit row))
    ∙ (and_parts (meets c.unit row test (right_of c test)) (passes_each c tests row) passes).0

-- ---- counts and sums of rows by their numbers

module _ (c : Context) (tests : List TTest) where
  world-rows : map (row_at c.world) (passing_rows c tests) ≡ filter (passes_each c tests) c.world.rows
  world-rows = at_places (passes_each c tests) [] c.world.rows record { key = 0; values = [] }

  pub count-of : (rows : List ℕ) → IsPermutation (passing_rows c tests) rows → length rows ≡ length (filter (passes_each c tests) c.world.rows)
  count-of rows same = length_permutation (passing_rows c tests) rows same ∙ sym (length-map (passing_rows c tests) (row_at c.world)) ∙ ap length world-rows

  sum-total : (attr : Attr) (rows : List Row) → sum_of attr rows ≡ total ◌+ℤ◌ (pos 0) (attribute attr) rows
  sum-total attr [] = refl
  sum-total attr (row ∷ rows) = ap (λ z. attribute attr row +ℤ z) (sum-total attr rows)

  pub sum-of : (attr : Attr) (rows : List ℕ) → IsPermutation (passing_rows c tests) rows → sum_of attr (map (row_at c.world) rows) ≡ sum_of attr (filter (passes_each c tests) c.world.rows)
  sum-of attr rows same =
      sum-total attr (map (row_at c.world) rows)
      ∙ total-IsPermutation ◌+ℤ◌ (pos 0) (attribute attr) (λ a b d. omega (arith, ints)) (λ a b. omega (arith, ints))
      (map (row_at c.world) (passing_rows c tests)) (map (row_at c.world) rows) (IsPermutation-map (row_at c.world) (passing_rows c tests) rows same)
      ∙ sym (sum-total attr (map (row_at c.world) (passing_rows c tests)))
      ∙ ap (sum_of attr) world-rows

-- ---- the rows of the square

pub fewer : {A : Type 0} (p : A → Bool) (xs : List A) → length (filter p xs) ≤ length xs
fewer p [] = omega arith
fewer p (x ∷ xs) = by (p x) (fewer p xs)
  where
    by : (b : Bool) → length (filter p xs) ≤ length xs → length (cond b (x ∷ filter p xs) (filter p xs)) ≤ suc (length xs)
    by true less = omega (arith, less)
    by false less = omega (arith, less)

places-few : (p : Row → Bool) (rows : List Row) → length (places p rows 0) ≤ length rows
places-few p rows =
    let none : Row = record { key = 0; values = [] } in
    omega (arith, length-map (places p rows 0) (λ n. get_or rows n none), ap length (at_places p [] rows none), fewer p rows)

module _ (c : Context) (round : Round) (agg : TAgg) (width : ℕ) (is : IsRound c.world round agg) (fit : All (IsRow width) c.world.rows) where
  are-groups : IsGroups round.groups round.groups.attrs c.world.rows
  are-groups = subst (λ (attrs : List Attr). IsGroups round.groups attrs c.world.rows) (sym is.groups.by) is.groups

  -- there is no such group, and no row passes
  pub none-pass : number_of round.groups (four_of (map (right_of c) (grouping Away agg.tests))) ≡ None → [] ≡ filter (passes_each c agg.tests) c.world.rows
  none-pass missing =
      ap (map (row_at c.world)) (no_strip c agg.tests width round.groups round.sorted (Some round.x) (Some round.y) fit is.groups.by are-groups missing)
      ∙ world-rows c agg.tests

  module _ (group : ℕ) (there : number_of round.groups (four_of (map (right_of c) (grouping Away agg.tests))) ≡ Some group) where
    pub square-within : (x1 x2 y1 y2 : ℤ) → All (λ row. row < length c.world.rows) (rows_between round.sorted group x1 x2 y1 y2)
    square-within = strip_is_within c agg.tests width round.groups round.sorted (Some round.x) (Some round.y) fit is.groups.by are-groups group there is.sorted

    pub square-few : (x1 x2 y1 y2 : ℤ) → length (rows_between round.sorted group x1 x2 y1 y2) ≤ 65536
    square-few x1 x2 y1 y2 =
        let members = rows_in round.groups group in
        let valued = rows_valued (Some round.x) c.world x1 x2 members in
        let chosen = rows_valued (Some round.y) c.world y1 y2 valued in
        let held = has_key round.groups.attrs (four_of (map (right_of c) (grouping Away agg.tests))) in
        let listed : members ≡ places held c.world.rows 0 = ap (rows_if round.groups.lists) (sym there) ∙ are-groups.held (four_of (map (right_of c) (grouping Away agg.tests))) in
        let strip = rows_between round.sorted group x1 x2 y1 y2 in
        omega (
          arith,
          length_permutation strip chosen (is.sorted.held group x1 x2 y1 y2),
          fewer (λ row. is_between y1 y2 (along (Some round.y) (row_at c.world row))) valued,
          fewer (λ row. is_between x1 x2 (along (Some round.x) (row_at c.world row))) members,
          ap length listed,
          places-few held c.world.rows,
          are-groups.few,
        )

    pub square-rest : (radius : ℤ) → option_map (right_of c) (find is_circle agg.tests) ≡ Some radius
        → IsPermutation (passing_rows c agg.tests) (filter (row_passes c agg.tests) (rows_between round.sorted group
        (attribute round.x c.unit -ℤ radius) (attribute round.x c.unit +ℤ radius) (attribute round.y c.unit -ℤ radius) (attribute round.y c.unit +ℤ radius)))
    square-rest radius same =
        bounded_rest c agg.tests width round.groups round.sorted (Some round.x) (Some round.y) fit is.groups.by are-groups group there is.sorted
        (attribute round.x c.unit -ℤ radius) (attribute round.x c.unit +ℤ radius) (attribute round.y c.unit -ℤ radius) (attribute round.y c.unit +ℤ radius)
        (λ k d inside passes. in-square (attribute round.x c.unit) (attribute round.y c.unit) radius (attribute round.x (get_or c.world.rows k d)) (attribute round.y (get_or c.world.rows k d))
        (in-circle c agg.tests (get_or c.world.rows k d) round.x round.y radius is.centre same passes))

-- ---- one row more

-- the rows are those before and those to come, which are below a bound
pub record AreWalked (bound : ℕ) (rows before rest : List ℕ) : Type 0 where
  pub split : rows ≡ before ++ rest
  pub within : All (λ row. row < bound) rest

pub walked_more : {bound row : ℕ} {rows before rest next : List ℕ} → AreWalked bound rows before rest → rest ≡ row ∷ next → AreWalked bound rows (before ++ row ∷ []) next
walked_more {bound} {row} {rows} {before} {rest} {next} walked steps = record {
  split = walked.split ∙ ap (λ l. before ++ l) steps ∙ sym (append_assoc before (row ∷ []) next);
  within = All-tail (λ n. n < bound) row next (subst (λ (l : List ℕ). All (λ n. n < bound) l) steps walked.within);
}

pub walked_all : {bound : ℕ} {rows before rest : List ℕ} → AreWalked bound rows before rest → rest ≡ [] → rows ≡ before
walked_all {bound} {rows} {before} {rest} walked none = walked.split ∙ ap (λ l. before ++ l) none ∙ append-nil before

-- the rows before and the next one are among all
pub among : {bound row : ℕ} {rows before rest next : List ℕ} → AreWalked bound rows before rest → rest ≡ row ∷ next → length before + 1 ≤ length rows
among {bound} {row} {rows} {before} {rest} {next} walked steps =
    omega (arith, ap length walked.split, ap (λ l. length (before ++ l)) steps, length-append before (row ∷ next))

module _ (c : Context) (tests : List TTest) where
  passed : (before : List ℕ) (row : ℕ) → filter (row_passes c tests) (before ++ row ∷ []) ≡ filter (row_passes c tests) before ++ cond (row_passes c tests row) (row ∷ []) []
  passed before row = filter-append (row_passes c tests) before (row ∷ [])

  pub count-more : (before : List ℕ) (row : ℕ) (b : Bool) → b ≡ row_passes c tests row
      → length (filter (row_passes c tests) (before ++ row ∷ [])) ≡ length (filter (row_passes c tests) before) + cond b 1 0
  count-more before row b is =
      ap length (passed before row) ∙ length-append (filter (row_passes c tests) before) (cond (row_passes c tests row) (row ∷ []) [])
      ∙ ap (λ d. length (filter (row_passes c tests) before) + length (cond d (row ∷ []) [])) (sym is) ∙ by b
    where
      by : (d : Bool) → length (filter (row_passes c tests) before) + length (cond d (row ∷ []) []) ≡ length (filter (row_passes c tests) before) + cond d 1 0
      by true = refl
      by false = refl

  abbrev sum-at : Attr → List ℕ → ℤ
  sum-at attr rows = sum_of attr (map (row_at c.world) rows)

  sum-append : (attr : Attr) (xs ys : List ℕ) → sum-at attr (xs ++ ys) ≡ sum-at attr xs +ℤ sum-at attr ys
  sum-append attr [] ys = omega (arith, ints)
  sum-append attr (x ∷ xs) ys = omega (arith, ints, sum-append attr xs ys)

  pub sum-more : (attr : Attr) (before : List ℕ) (row : ℕ) (b : Bool) → b ≡ row_passes c tests row
      → sum-at attr (filter (row_passes c tests) (before ++ row ∷ [])) ≡ sum-at attr (filter (row_passes c tests) before) +ℤ cond b (attribute attr (row_at c.world row)) (pos 0)
  sum-more attr before row b is =
      ap (sum-at attr) (passed before row) ∙ sum-append attr (filter (row_passes c tests) before) (cond (row_passes c tests row) (row ∷ []) [])
      ∙ ap (λ d. sum-at attr (filter (row_passes c tests) before) +ℤ sum-at attr (cond d (row ∷ []) [])) (sym is) ∙ by b
    where
      by : (d : Bool) → sum-at attr (filter (row_passes c tests) before) +ℤ sum-at attr (cond d (row ∷ []) []) ≡ sum-at attr (filter (row_passes c tests) before) +ℤ cond d (attribute attr (row_at c.world row)) (pos 0)
      by true = omega (arith, ints)
      by false = refl

-- ---- no row

-- what counts and sums make of no row
pub nothing-made : (kind : FoldKind) (agg : TAgg) (unit : Row) (rows : List Row) → is_total kind ≡ true → [] ≡ rows → N (pos 0) ≡ made kind agg unit rows
nothing-made kind agg unit rows total none = by kind total ∙ ap (made kind agg unit) none
  where
    by : (k : FoldKind) → is_total k ≡ true → N (pos 0) ≡ made k agg unit []
    by Count total = refl
    by Sum total = refl
    by Min total = absurd (false≢true total)
    by Max total = absurd (false≢true total)
    by Lowest total = absurd (false≢true total)
    by Highest total = absurd (false≢true total)
    by Nearest total = absurd (false≢true total)
