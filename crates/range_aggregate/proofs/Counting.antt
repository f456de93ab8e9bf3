-- Ranks among rows: of lists joined, by what is below, and between ends near edges.
use Rattle.std.proofs.Common.{◌≡◌, ℕ, ◌+◌, ◌-◌, ◌<◌, ◌≤◌, Bool, true, false, cond, List, [], ◌∷◌, ◌++◌, length, get_or, take, drop, min, refl, sym, ap, ◌∙◌, arith}
use Rattle.std.specs.Prelude.{All, slice_range, filter, nat_le, nat_lt, if◌then◌else◌}
use Rattle.std.proofs.Math.Seq.{take-add}
use Rattle.std.proofs.lemmas.Bool.Decides.{nat_tests}
use Rattle.std.proofs.lemmas.List.{length-append, length-take, length-drop, take_more}
use Rattle.std.proofs.lemmas.List.Elements.{All-head, All-tail, filter-append}
use Rattle.std.proofs.lemmas.List.Sums.{length-filter, count_by-le-length}
use Rattle.range_aggregate.specs.Rows.{count_rows, count_under, is_in_rows}
use Rattle.range_aggregate.proofs.Slices.{slice_range_join}

longer : (b : Bool) (r : ℕ) (rs : List ℕ) → length (cond b (r ∷ rs) rs) ≡ cond b 1 0 + length rs
longer true r rs = omega arith
longer false r rs = omega arith

-- ---- those below a rank

abbrev pub under : ℕ → ℕ → ℕ
under rank other = cond (nat_lt other rank) 1 0

module _ (rank : ℕ) where
  pub under_append : (xs ys : List ℕ) → count_under rank (xs ++ ys) ≡ count_under rank xs + count_under rank ys
  under_append xs ys = ap length (filter-append (λ other. nat_lt other rank) xs ys) ∙ length-append (filter (λ other. nat_lt other rank) xs) (filter (λ other. nat_lt other rank) ys)

  -- of one more
  pub under_more : (rs : List ℕ) (a : ℕ) → a < length rs → count_under rank (take (a + 1) rs) ≡ count_under rank (take a rs) + under rank (get_or rs a 0)
  under_more rs a below =
      ap (count_under rank) (take_more rs a 0 below)
      ∙ under_append (take a rs) (get_or rs a 0 ∷ [])
      ∙ ap (λ n. count_under rank (take a rs) + n) (longer (nat_lt (get_or rs a 0) rank) (get_or rs a 0) [] ∙ omega arith)

  -- of a part and of those before it
  pub under_part : (rs : List ℕ) (a b : ℕ) → a ≤ b → count_under rank (take b rs) ≡ count_under rank (take a rs) + count_under rank (slice_range rs a b)
  under_part rs a b ordered =
      let whole : b ≡ a + (b - a) = omega arith in
      ap (λ n. count_under rank (take n rs)) whole ∙ ap (count_under rank) (take-add a (b - a) rs) ∙ under_append (take a rs) (slice_range rs a b)

  pub under_bound : (rs : List ℕ) → count_under rank rs ≤ length rs
  under_bound rs = omega (arith, length-filter (λ other. nat_lt other rank) rs, count_by-le-length (λ other. nat_lt other rank) rs)

none_under : (r : ℕ) → under 0 r ≡ 0
none_under r = grind (arith, nat_tests)

pub under_none : (rs : List ℕ) → count_under 0 rs ≡ 0
under_none [] = refl
under_none (r ∷ rs) = omega (arith, longer (nat_lt r 0) r (filter (λ other. nat_lt other 0) rs), none_under r, under_none rs)

capped : (end n r : ℕ) → r < n → under (min end n) r ≡ under end r
capped end n r within = grind (arith, nat_tests)

-- of ranks that are below some number, those below an end that goes no farther
pub under_capped : (end n : ℕ) (rs : List ℕ) → All (λ r. r < n) rs → count_under (min end n) rs ≡ count_under end rs
under_capped end n [] within = refl
under_capped end n (r ∷ rs) within =
    let one = capped end n r (All-head (λ r. r < n) r rs within) in
    let rest = under_capped end n rs (All-tail (λ r. r < n) r rs within) in
    omega (arith, one, rest, longer (nat_lt r (min end n)) r (filter (λ other. nat_lt other (min end n)) rs), longer (nat_lt r end) r (filter (λ other. nat_lt other end) rs))

one_rank : (first last r : ℕ) → first ≤ last + 1 → cond (is_in_rows first last r) 1 0 + under first r ≡ under (last + 1) r
one_rank first last r ordered = grind (arith, nat_tests)

-- those among the rows and those below the first are those below the one behind the last
rows_under : (first last : ℕ) → first ≤ last + 1 → (rs : List ℕ) → count_rows first last rs + count_under first rs ≡ count_under (last + 1) rs
rows_under first last ordered [] = refl
rows_under first last ordered (r ∷ rs) =
    let rest = rows_under first last ordered rs in
    let one = one_rank first last r ordered in
    let among = longer (is_in_rows first last r) r (filter (is_in_rows first last) rs) in
    let below = longer (nat_lt r first) r (filter (λ other. nat_lt other first) rs) in
    let through = longer (nat_lt r (last + 1)) r (filter (λ other. nat_lt other (last + 1)) rs) in
    omega (arith, rest, one, among, below, through)

-- those of a part that are among the rows, by what is below before both ends
pub rows_by_corners : (first end : ℕ) → first < end → (rs : List ℕ) (a b : ℕ) → a ≤ b
    → (count_rows first (end - 1) (slice_range rs a b) + count_under end (take a rs)) + count_under first (take b rs) ≡ count_under end (take b rs) + count_under first (take a rs)
rows_by_corners first end some rs a b ordered =
    let last : (end - 1) + 1 ≡ end = omega arith in
    let part = rows_under first (end - 1) (omega arith) (slice_range rs a b) ∙ ap (λ n. count_under n (slice_range rs a b)) last in
    omega (arith, part, under_part end rs a b ordered, under_part first rs a b ordered)

at_most : (a b : ℕ) → nat_le a b ≡ true → a ≤ b
at_most a b test = grind (arith, nat_tests)

above : (a b : ℕ) → nat_le a b ≡ false → b < a
above a b test = grind (arith, nat_tests)

-- a count up to an edge and one up to an end, of which the end is farther or the edge, by what lies between
pub record IsMoved (is_added : Bool) (whole between moved : ℕ) : Type 0 where
  pub added : is_added ≡ true → moved ≡ whole + between
  pub taken : is_added ≡ false → whole ≡ moved + between

IsMoved-by : (a b whole between moved : ℕ) → (a ≤ b → moved ≡ whole + between) → (b ≤ a → whole ≡ moved + between) → IsMoved (nat_le a b) whole between moved
IsMoved-by a b whole between moved added taken = record {
  added = λ test. added (at_most a b test);
  taken = λ test. taken (omega (arith, above a b test));
}

pub moved_is : (is_added : Bool) (whole between moved told : ℕ) → IsMoved is_added whole between moved → told ≡ (if is_added then whole + between else whole - between) → told ≡ moved
moved_is true whole between moved told is told_is = told_is ∙ sym (is.added refl)
moved_is false whole between moved told is told_is = omega (arith, told_is, is.taken refl)

module _ (first last : ℕ) where
  -- ---- of lists joined

  pub count_append : (xs ys : List ℕ) → count_rows first last (xs ++ ys) ≡ count_rows first last xs + count_rows first last ys
  count_append xs ys = ap length (filter-append (is_in_rows first last) xs ys) ∙ length-append (filter (is_in_rows first last) xs) (filter (is_in_rows first last) ys)

  pub count_join : (rs : List ℕ) (a b c : ℕ) → a ≤ b → b ≤ c → count_rows first last (slice_range rs a c) ≡ count_rows first last (slice_range rs a b) + count_rows first last (slice_range rs b c)
  count_join rs a b c one two = ap (count_rows first last) (slice_range_join rs a b c one two) ∙ count_append (slice_range rs a b) (slice_range rs b c)

  -- no more than there are
  pub count_bound : (rs : List ℕ) → count_rows first last rs ≤ length rs
  count_bound rs = omega (arith, length-filter (is_in_rows first last) rs, count_by-le-length (is_in_rows first last) rs)

  pub count_part_bound : (rs : List ℕ) (a b : ℕ) → length rs ≤ 65536 → count_rows first last (slice_range rs a b) ≤ 65536
  count_part_bound rs a b few =
      omega (arith, few, count_bound (slice_range rs a b), length-take (b - a) (drop a rs), length-drop a rs)

  -- ---- between ends near edges: the ranks between the two are added or taken off

  pub moved_behind : (rs : List ℕ) (a edge to whole between : ℕ) → a ≤ edge → a ≤ to → whole ≡ count_rows first last (slice_range rs a edge)
      → (to ≤ edge → between ≡ count_rows first last (slice_range rs to edge)) → (edge ≤ to → between ≡ count_rows first last (slice_range rs edge to))
      → IsMoved (nat_le edge to) whole between (count_rows first last (slice_range rs a to))
  moved_behind rs a edge to whole between one two told taken added =
      IsMoved-by edge to whole between (count_rows first last (slice_range rs a to))
      (λ le. omega (arith, told, added le, count_join rs a edge to one le))
      (λ le. omega (arith, told, taken le, count_join rs a to edge two le))

  pub moved_before : (rs : List ℕ) (edge from c whole between : ℕ) → edge ≤ c → from ≤ c → whole ≡ count_rows first last (slice_range rs edge c)
      → (from ≤ edge → between ≡ count_rows first last (slice_range rs from edge)) → (edge ≤ from → between ≡ count_rows first last (slice_range rs edge from))
      → IsMoved (nat_le from edge) whole between (count_rows first last (slice_range rs from c))
  moved_before rs edge from c whole between one two told added taken =
      IsMoved-by from edge whole between (count_rows first last (slice_range rs from c))
      (λ le. omega (arith, told, added le, count_join rs from edge c le one))
      (λ le. omega (arith, told, taken le, count_join rs edge from c le two))
