-- Sums over one row more, and their texts.
use Rattle.std.proofs.Common.{◌≡◌, ◌∙◌, ◌+◌, ◌*◌, ◌<◌, ◌≤◌, ◌+ℤ◌, ◌++◌, ℕ, ℤ, pos, List, [], ◌∷◌, All, inl, inr, length, take, get_or, set, unsigned_abs, ap, subst, append-nil, arith, get_or-set_same, get_or-set_other}
use Rattle.std.proofs.lemmas.Bool.{cases_lt}
use Rattle.std.specs.Prelude.{map}
use Rattle.std.specs.List.{concat, range_with_len}
use Rattle.std.proofs.lemmas.Int.{ints}
use Rattle.std.proofs.lemmas.List.{take_more}
use Rattle.std.proofs.lemmas.List.Elements.{All-head, All-tail}
use Rattle.std.proofs.lemmas.List.Folds.{concat-append}
use Rattle.std.proofs.lemmas.List.FromFn.{map-range_with_len_more}
use Rattle.sgl_values.specs.World.{IsRow, Row}
use Rattle.sgl_typed.specs.declared.script.Attr.{Attr}
use Rattle.sgl_typed.specs.declared.script.Attr.TheVariants.{Const}
use Rattle.sgl_typed.specs.Value.{attribute}
use Rattle.sgl_typed.specs.Aggregate.{sum_of}
use Rattle.battle_report.specs.RunLines.{sum_text, sums_text}

-- the texts of the sums of one attribute more
pub sums_more : (rows : List Row) (n : ℕ) → sums_text (n + 1) rows ≡ sums_text n rows ++ sum_text rows n
sums_more rows n =
    ap concat (map-range_with_len_more (sum_text rows) 0 n n (omega arith))
    ∙ (concat-append (map (sum_text rows) (range_with_len 0 n)) (sum_text rows n ∷ [])
    ∙ ap (λ zs. sums_text n rows ++ zs) (append-nil (sum_text rows n)))

sum_append : (attr : Attr) (xs ys : List Row) → sum_of attr (xs ++ ys) ≡ sum_of attr xs +ℤ sum_of attr ys
sum_append attr [] ys = omega (arith, ints)
sum_append attr (x ∷ xs) ys = omega (arith, ints, sum_append attr xs ys)

-- the sum over one row more
pub sum_more : (attr : Attr) (rows : List Row) (i : ℕ) (d : Row) → i < length rows
    → sum_of attr (take (i + 1) rows) ≡ sum_of attr (take i rows) +ℤ attribute attr (get_or rows i d)
sum_more attr rows i d inside =
    let one : sum_of attr (get_or rows i d ∷ []) ≡ attribute attr (get_or rows i d) = omega (arith, ints) in
    ap (sum_of attr) (take_more rows i d inside)
    ∙ (sum_append attr (take i rows) (get_or rows i d ∷ []) ∙ ap (λ z. sum_of attr (take i rows) +ℤ z) one)

-- a row adds at most 10^12 to a sum, or takes at most so much from it
pub sum_near : (width attr : ℕ) (rows : List Row) → attr < width → All (IsRow width) rows
    → unsigned_abs (sum_of (Const attr) rows) ≤ length rows * 1000000000000
sum_near width attr [] inside fit = omega (arith, ints)
sum_near width attr (row ∷ rows) inside fit =
    let is = All-head (IsRow width) row rows fit in
    let one : unsigned_abs (get_or row.values attr (pos 0)) ≤ 1000000000000 = is.in_range attr (pos 0) (omega (arith, is.full)) in
    omega (arith, ints, one, sum_near width attr rows inside (All-tail (IsRow width) row rows fit))

-- sums up to which the values of a row are added, and one more
pub one_added : (sums old values : List ℤ) (attr : ℕ) (x : ℤ) → attr < length sums → x ≡ get_or sums attr (pos 0) +ℤ get_or values attr (pos 0)
    → ((k : ℕ) → k < attr → get_or sums k (pos 0) ≡ get_or old k (pos 0) +ℤ get_or values k (pos 0)) → get_or sums attr (pos 0) ≡ get_or old attr (pos 0)
    → (k : ℕ) → k < attr + 1 → get_or (set sums attr x) k (pos 0) ≡ get_or old k (pos 0) +ℤ get_or values k (pos 0)
one_added sums old values attr x inside is before here k below =
    elim (cases_lt k attr) [
      | inl earlier ↦ get_or-set_other sums attr k x (pos 0) (λ same. absurd (omega (arith, earlier, same))) ∙ before k earlier
      | inr past ↦
          let last : attr ≡ k = omega (arith, below, past) in
          subst (λ n. get_or (set sums attr x) n (pos 0) ≡ get_or old n (pos 0) +ℤ get_or values n (pos 0)) last
          (get_or-set_same sums attr x (pos 0) inside ∙ is ∙ ap (λ z. z +ℤ get_or values attr (pos 0)) here)
    ]

pub others_stay : (sums old : List ℤ) (attr : ℕ) (x : ℤ) → ((k : ℕ) → attr ≤ k → get_or sums k (pos 0) ≡ get_or old k (pos 0))
    → (k : ℕ) → attr + 1 ≤ k → get_or (set sums attr x) k (pos 0) ≡ get_or old k (pos 0)
others_stay sums old attr x ahead k past =
    get_or-set_other sums attr k x (pos 0) (λ same. absurd (omega (arith, past, same))) ∙ ahead k (omega (arith, past))
