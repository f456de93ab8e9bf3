-- Cells in a batch: how they rise, where one stands, and what is held with a word more.
use Rattle.std.proofs.Common.{◌≡◌, ℕ, zero, suc, ◌<◌, ◌≤◌, Bool, true, false, cond, nat_lt, ◌&&◌, ◌||◌, List, [], ◌∷◌, ◌++◌, length, get_or, take, drop, refl, sym, ap, ◌∙◌, arith}
use Rattle.std.specs.Prelude.{◌==◌, All}
use Rattle.std.specs.List.{list_any}
use Rattle.std.specs.List.Sorted.{IsPartitionedBy}
use Rattle.std.proofs.Math.ListN.{set}
use Rattle.std.proofs.lemmas.Bool.Decides.{nat_tests}
use Rattle.std.proofs.lemmas.List.Elements.{All-nil, All-cons, All-head, All-tail, All-weaker, All-get_or}
use Rattle.sgl_values.specs.declared.fault.Tag.{Tag}
use Rattle.effect_combine.specs.Words.{merged}
use Rattle.effect_combine.specs.Batch.{is_at, is_before, CellsRise, with_word, held_for}
use Rattle.effect_combine.specs.declared.cell.Cell.{Cell}
use Rattle.effect_combine.proofs.Merging.{merged_assoc, merged_free}

-- ---- rows and attributes in order

abbrev less : ℕ → ℕ → ℕ → ℕ → Bool
less r a s b = nat_lt r s || ((r == s) && nat_lt a b)

less_through : (r a s b t d : ℕ) → less r a s b ≡ true → less s b t d ≡ true → less r a t d ≡ true
less_through r a s b t d h k = grind (arith, nat_tests)

less_apart : (r a s b : ℕ) → less r a s b ≡ true → ((r == s) && (a == b)) ≡ false
less_apart r a s b h = grind (arith, nat_tests)

less_apart_back : (r a s b : ℕ) → less r a s b ≡ true → ((s == r) && (b == a)) ≡ false
less_apart_back r a s b h = grind (arith, nat_tests)

less_back : (r a s b : ℕ) → less r a s b ≡ false → ((r == s) && (a == b)) ≡ false → less s b r a ≡ true
less_back r a s b h k = grind (arith, nat_tests)

same_self : (r a : ℕ) → ((r == r) && (a == a)) ≡ true
same_self r a = grind (arith, nat_tests)

same_row : (r a s b : ℕ) → ((r == s) && (a == b)) ≡ true → r ≡ s
same_row r a s b h = grind (arith, nat_tests)

same_attr : (r a s b : ℕ) → ((r == s) && (a == b)) ≡ true → a ≡ b
same_attr r a s b h = grind (arith, nat_tests)

-- what stands before a later cell stands before an earlier one
pub CellsRise-partitioned : (row attr : ℕ) (cells : List Cell) → CellsRise cells → IsPartitionedBy (λ cell. is_before row attr cell) cells
CellsRise-partitioned row attr [] rise i j d order below before = absurd (omega (arith, below))
CellsRise-partitioned row attr (cell ∷ cells) rise zero zero d order below before = before
CellsRise-partitioned row attr (cell ∷ cells) rise zero (suc j) d order below before =
    let inner : j < length cells = omega (arith, below) in
    let later : Cell = get_or cells j d in
    less_through cell.row cell.attr later.row later.attr row attr
    (All-get_or (λ later. is_before later.row later.attr cell ≡ true) cells j d inner rise.0) before
CellsRise-partitioned row attr (cell ∷ cells) rise (suc i) zero d order below before = absurd (omega (arith, order))
CellsRise-partitioned row attr (cell ∷ cells) rise (suc i) (suc j) d order below before =
    CellsRise-partitioned row attr cells rise.1 i j d (omega (arith, order)) (omega (arith, below)) before

-- ---- the three cases of a word

first_case : {A : Type 0} (b : Bool) (x y : A) → b ≡ true → cond b x y ≡ x
first_case b x y e = ap (λ (t : Bool). cond t x y) e

second_case : {A : Type 0} (b : Bool) (x y : A) → b ≡ false → cond b x y ≡ y
second_case b x y e = ap (λ (t : Bool). cond t x y) e

module _ (tag : Tag) (row attr word : ℕ) where
  abbrev alone : Cell
  alone = record { row = row; attr = attr; word = word }

  abbrev joined : Cell → Cell
  joined cell = record { row = row; attr = attr; word = merged tag word cell.word }

  -- the place of a cell that is not held
  pub with_word-insert : (cells : List Cell) (i : ℕ) → i ≤ length cells
      → ((k : ℕ) (d : Cell) → k < i → is_before row attr (get_or cells k d) ≡ true)
      → ((d : Cell) → i < length cells → is_before row attr (get_or cells i d) ≡ false)
      → ((d : Cell) → i < length cells → is_at row attr (get_or cells i d) ≡ false)
      → take i cells ++ alone ∷ drop i cells ≡ with_word tag row attr word cells
  with_word-insert [] zero bound below here apart = refl
  with_word-insert [] (suc i) bound below here apart = absurd (omega (arith, bound))
  with_word-insert (cell ∷ cells) zero bound below here apart =
      let some : 0 < length (cell ∷ cells) = omega arith in
      sym (second_case (is_before row attr cell) _ _ (here cell some) ∙ second_case (is_at row attr cell) _ _ (apart cell some))
  with_word-insert (cell ∷ cells) (suc i) bound below here apart =
      let inner : i ≤ length cells = omega (arith, bound) in
      ap (λ (rest : List Cell). cell ∷ rest)
      (with_word-insert cells i inner (λ k d less. below (suc k) d (omega (arith, less))) (λ d less. here d (omega (arith, less))) (λ d less. apart d (omega (arith, less))))
      ∙ sym (first_case (is_before row attr cell) _ _ (below 0 cell (omega arith)))

  -- the place of a cell that is held
  pub with_word-set : (cells : List Cell) (i : ℕ) (e : Cell) → i < length cells
      → ((k : ℕ) (d : Cell) → k < i → is_before row attr (get_or cells k d) ≡ true)
      → is_before row attr (get_or cells i e) ≡ false → is_at row attr (get_or cells i e) ≡ true
      → set cells i (joined (get_or cells i e)) ≡ with_word tag row attr word cells
  with_word-set [] i e bound below here at = absurd (omega (arith, bound))
  with_word-set (cell ∷ cells) zero e bound below here at =
      sym (second_case (is_before row attr cell) _ _ here ∙ first_case (is_at row attr cell) _ _ at)
  with_word-set (cell ∷ cells) (suc i) e bound below here at =
      let inner : i < length cells = omega (arith, bound) in
      ap (λ (rest : List Cell). cell ∷ rest) (with_word-set cells i e inner (λ k d less. below (suc k) d (omega (arith, less))) here at)
      ∙ sym (first_case (is_before row attr cell) _ _ (below 0 cell (omega arith)))

  -- ---- what is held

  all_apart : (cells : List Cell) → All (λ later. is_at row attr later ≡ false) cells → list_any (is_at row attr) cells ≡ false
  all_apart [] apart = refl
  all_apart (cell ∷ cells) apart =
      ap (λ (t : Bool). t || list_any (is_at row attr) cells) (All-head (λ later. is_at row attr later ≡ false) cell cells apart)
      ∙ all_apart cells (All-tail (λ later. is_at row attr later ≡ false) cell cells apart)

  -- a cell that is not at its place is not held
  pub none_held : (cells : List Cell) (i : ℕ) → CellsRise cells
      → ((k : ℕ) (d : Cell) → k < i → is_before row attr (get_or cells k d) ≡ true)
      → ((d : Cell) → i < length cells → is_before row attr (get_or cells i d) ≡ false)
      → ((d : Cell) → i < length cells → is_at row attr (get_or cells i d) ≡ false)
      → list_any (is_at row attr) cells ≡ false
  none_held [] i rise below here apart = refl
  none_held (cell ∷ cells) zero rise below here apart =
      let some : 0 < length (cell ∷ cells) = omega arith in
      let behind : is_before cell.row cell.attr alone ≡ true = less_back cell.row cell.attr row attr (here cell some) (apart cell some) in
      all_apart (cell ∷ cells)
      (All-cons (λ later. is_at row attr later ≡ false) cell cells (apart cell some)
      (All-weaker (λ later. is_before later.row later.attr cell ≡ true) (λ later. is_at row attr later ≡ false)
      (λ (later : Cell) (after : is_before later.row later.attr cell ≡ true).
      less_apart_back row attr later.row later.attr (less_through row attr cell.row cell.attr later.row later.attr behind after)) cells rise.0))
  none_held (cell ∷ cells) (suc i) rise below here apart =
      ap (λ (t : Bool). t || list_any (is_at row attr) cells) (less_apart cell.row cell.attr row attr (below 0 cell (omega arith)))
      ∙ none_held cells i rise.1 (λ k d less. below (suc k) d (omega (arith, less))) (λ d less. here d (omega (arith, less))) (λ d less. apart d (omega (arith, less)))

  -- one that is at its place is held
  pub some_held : (cells : List Cell) (i : ℕ) (e : Cell) → i < length cells → is_at row attr (get_or cells i e) ≡ true → list_any (is_at row attr) cells ≡ true
  some_held [] i e bound at = absurd (omega (arith, bound))
  some_held (cell ∷ cells) zero e bound at = ap (λ (t : Bool). t || list_any (is_at row attr) cells) at
  some_held (cell ∷ cells) (suc i) e bound at =
      let inner : i < length cells = omega (arith, bound) in
      ap (λ (t : Bool). is_at row attr cell || t) (some_held cells i e inner at) ∙ or_true (is_at row attr cell)
    where
      or_true : (b : Bool) → (b || true) ≡ true
      or_true true = refl
      or_true false = refl

  -- ---- a fact of each cell stays true

  module _ (P : Cell → Type 0) (new : (w : ℕ) → P record { row = row; attr = attr; word = w }) where
    All-cases : (cell : Cell) (cells more : List Cell) (b d : Bool) → P cell → All P cells → All P more
        → All P (cond b (cell ∷ more) (cond d (joined cell ∷ cells) (alone ∷ cell ∷ cells)))
    All-cases cell cells more true d one all grown = All-cons P cell more one grown
    All-cases cell cells more false true one all grown = All-cons P (joined cell) cells (new (merged tag word cell.word)) all
    All-cases cell cells more false false one all grown = All-cons P alone (cell ∷ cells) (new word) (All-cons P cell cells one all)

    pub All-with_word : (cells : List Cell) → All P cells → All P (with_word tag row attr word cells)
    All-with_word [] all = All-cons P alone [] (new word) (All-nil P)
    All-with_word (cell ∷ cells) all =
        All-cases cell cells (with_word tag row attr word cells) (is_before row attr cell) (is_at row attr cell)
        (All-head P cell cells all) (All-tail P cell cells all) (All-with_word cells (All-tail P cell cells all))

  rise_cases : (cell : Cell) (cells more : List Cell) (b d : Bool) → is_before row attr cell ≡ b → is_at row attr cell ≡ d
      → CellsRise (cell ∷ cells) → CellsRise more → (is_before row attr cell ≡ true → All (λ later. is_before later.row later.attr cell ≡ true) more)
      → CellsRise (cond b (cell ∷ more) (cond d (joined cell ∷ cells) (alone ∷ cell ∷ cells)))
  rise_cases cell cells more true d is at rise grown after = (after is, grown)
  rise_cases cell cells more false true is at rise grown after = (
    All-weaker (λ later. is_before later.row later.attr cell ≡ true) (λ later. is_before later.row later.attr (joined cell) ≡ true)
        (λ (later : Cell) (behind : is_before later.row later.attr cell ≡ true).
        (λ i. less (sym (same_row cell.row cell.attr row attr at) i) (sym (same_attr cell.row cell.attr row attr at) i) later.row later.attr) ∙ behind) cells rise.0,
    rise.1,
  )
  rise_cases cell cells more false false is at rise grown after =
      let behind : is_before cell.row cell.attr alone ≡ true = less_back cell.row cell.attr row attr is at in (
        All-cons (λ later. is_before later.row later.attr alone ≡ true) cell cells behind
            (All-weaker (λ later. is_before later.row later.attr cell ≡ true) (λ later. is_before later.row later.attr alone ≡ true)
            (λ (later : Cell) (back : is_before later.row later.attr cell ≡ true). less_through row attr cell.row cell.attr later.row later.attr behind back) cells rise.0),
        rise,
      )

  -- cells rise with a word more
  pub CellsRise-with_word : (cells : List Cell) → CellsRise cells → CellsRise (with_word tag row attr word cells)
  CellsRise-with_word [] rise = (All-nil (λ later. is_before later.row later.attr alone ≡ true), tt)
  CellsRise-with_word (cell ∷ cells) rise =
      rise_cases cell cells (with_word tag row attr word cells) (is_before row attr cell) (is_at row attr cell) refl refl rise (CellsRise-with_word cells rise.1)
      (λ is. All-with_word (λ later. is_before later.row later.attr cell ≡ true) (λ w. is) cells rise.0)

  -- ---- what is held for a cell

  self_is : {A : Type 0} (x y : A) → cond ((row == row) && (attr == attr)) x y ≡ x
  self_is x y = first_case ((row == row) && (attr == attr)) x y (same_self row attr)

  taken_cases : (cell : Cell) (cells more : List Cell) (b d : Bool) → is_at row attr cell ≡ d
      → held_for tag more row attr ≡ merged tag word (held_for tag cells row attr)
      → held_for tag (cond b (cell ∷ more) (cond d (joined cell ∷ cells) (alone ∷ cell ∷ cells))) row attr ≡ merged tag word (held_for tag (cell ∷ cells) row attr)
  taken_cases cell cells more true true at grown =
      first_case (is_at row attr cell) _ _ at
      ∙ ap (merged tag cell.word) grown ∙ merged_free tag cell.word word (held_for tag cells row attr)
      ∙ ap (merged tag word) (sym (first_case (is_at row attr cell) _ _ at))
  taken_cases cell cells more true false at grown =
      second_case (is_at row attr cell) _ _ at ∙ grown ∙ ap (merged tag word) (sym (second_case (is_at row attr cell) _ _ at))
  taken_cases cell cells more false true at grown =
      self_is _ _ ∙ merged_assoc tag word cell.word (held_for tag cells row attr) ∙ ap (merged tag word) (sym (first_case (is_at row attr cell) _ _ at))
  taken_cases cell cells more false false at grown = self_is _ _

  pub held_for-taken : (cells : List Cell) → held_for tag (with_word tag row attr word cells) row attr ≡ merged tag word (held_for tag cells row attr)
  held_for-taken [] = self_is _ _
  held_for-taken (cell ∷ cells) =
      taken_cases cell cells (with_word tag row attr word cells) (is_before row attr cell) (is_at row attr cell) refl (held_for-taken cells)

  module _ (other : Tag) (r a : ℕ) (apart : ((row == r) && (attr == a)) ≡ false) where
    other_cases : (cell : Cell) (cells more : List Cell) (b d : Bool) → is_at row attr cell ≡ d
        → held_for other more r a ≡ held_for other cells r a
        → held_for other (cond b (cell ∷ more) (cond d (joined cell ∷ cells) (alone ∷ cell ∷ cells))) r a ≡ held_for other (cell ∷ cells) r a
    other_cases cell cells more true d at grown = ap (λ (h : ℕ). cond (is_at r a cell) (merged other cell.word h) h) grown
    other_cases cell cells more false true at grown =
        second_case ((row == r) && (attr == a)) _ _ apart
        ∙ sym (second_case (is_at r a cell) _ _ ((λ i. (same_row cell.row cell.attr row attr at i == r) && (same_attr cell.row cell.attr row attr at i == a)) ∙ apart))
    other_cases cell cells more false false at grown = second_case ((row == r) && (attr == a)) _ _ apart

    pub held_for-others : (cells : List Cell) → held_for other (with_word tag row attr word cells) r a ≡ held_for other cells r a
    held_for-others [] = second_case ((row == r) && (attr == a)) _ _ apart
    held_for-others (cell ∷ cells) =
        other_cases cell cells (with_word tag row attr word cells) (is_before row attr cell) (is_at row attr cell) refl (held_for-others cells)
