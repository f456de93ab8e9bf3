-- What is given for the cells of a batch.
use Rattle.std.proofs.Common.{◌≡◌, ℕ, zero, suc, ◌+◌, ◌*◌, ◌<◌, ◌==◌, ◌&&◌, eq-eqb, cond, Bool, true, false, true≢false, List, [], ◌∷◌, length, map, refl, sym, ap, ◌∙◌, suc-mul, arith}
use Rattle.std.proofs.lemmas.Bool.{ne_eqb}
use Rattle.std.proofs.lemmas.Bool.Decides.{nat_tests}
use Rattle.std.proofs.lemmas.List.Elements.{All-head, All-tail}
use Rattle.sgl_values.specs.Totals.{total}
use Rattle.sgl_values.specs.declared.fault.Tag.{Tag}
use Rattle.effect_combine.specs.Batch.{is_at}
use Rattle.effect_combine.specs.Combined.{tag_at}
use Rattle.effect_combine.specs.Words.{start_of, merged}
use Rattle.tick_core.specs.Core.{word_number}
use Rattle.tick_core.specs.Fair.{gathered, amounts_for}
use Rattle.effect_board.specs.Laws.{CellsGiveWhatIsHeld}
use Rattle.effect_board.specs.Views.{give_of_cell}

-- two cells with one word are one
cell_same : (n r a row attr : ℕ) → a < n → attr < n → r * n + a ≡ row * n + attr → (r ≡ row) × (a ≡ attr)
cell_same n zero a zero attr p q e = (refl, omega (arith, e))
cell_same n zero a (suc row) attr p q e = absurd (omega (arith, p, q, e, suc-mul row n))
cell_same n (suc r) a zero attr p q e = absurd (omega (arith, p, q, e, suc-mul r n))
cell_same n (suc r) a (suc row) attr p q e = let h = cell_same n r a row attr p q (omega (arith, e, suc-mul r n, suc-mul row n)) in (ap suc h.0, h.1)

word_test : (n r a row attr : ℕ) → a < n → attr < n → (x y : Bool) → (r == row) ≡ x → (a == attr) ≡ y → (r * n + a == row * n + attr) ≡ (x && y)
word_test n r a row attr p q true true row_is attr_is =
    let same_row : r ≡ row = grind (arith, nat_tests, row_is) in
    let same_attr : a ≡ attr = grind (arith, nat_tests, attr_is) in
    eq-eqb (r * n + a) (row * n + attr) (λ i. same_row i * n + same_attr i)
word_test n r a row attr p q true false row_is attr_is =
    ne_eqb (r * n + a) (row * n + attr) (λ e. true≢false (sym (eq-eqb a attr (cell_same n r a row attr p q e).1) ∙ attr_is))
word_test n r a row attr p q false y row_is attr_is =
    ne_eqb (r * n + a) (row * n + attr) (λ e. true≢false (sym (eq-eqb r row (cell_same n r a row attr p q e).0) ∙ row_is))

one_more : (tag : Tag) (t : Bool) (amount : ℕ) (amounts : List ℕ)
    → total (merged tag) (start_of tag) (λ (a : ℕ). a) (cond t (amount ∷ amounts) amounts)
    ≡ cond t (merged tag amount (total (merged tag) (start_of tag) (λ (a : ℕ). a) amounts)) (total (merged tag) (start_of tag) (λ (a : ℕ). a) amounts)
one_more tag true amount amounts = refl
one_more tag false amount amounts = refl

pub cells_given : CellsGiveWhatIsHeld
cells_given tags [] row attr each inside = refl
cells_given tags (cell ∷ cells) row attr each inside =
    let tag : Tag = tag_at tags attr in
    let word : ℕ = word_number tags row attr in
    let more : List ℕ = amounts_for word (map (give_of_cell tags) cells) in
    one_more tag (word_number tags cell.row cell.attr == word) cell.word more
    ∙ ap (λ (b : Bool). cond b (merged tag cell.word (gathered tag word (map (give_of_cell tags) cells))) (gathered tag word (map (give_of_cell tags) cells)))
    (word_test (length tags) cell.row cell.attr row attr (All-head (λ c. c.attr < length tags) cell cells each) inside (cell.row == row) (cell.attr == attr) refl refl)
    ∙ ap (λ (z : ℕ). cond (is_at row attr cell) (merged tag cell.word z) z) (cells_given tags cells row attr (All-tail (λ c. c.attr < length tags) cell cells each) inside)
