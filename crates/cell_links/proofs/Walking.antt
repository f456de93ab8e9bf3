-- Walks along the rows of a list.
use Rattle.std.proofs.Common.{◌≡◌, ◌∙◌, ◌+◌, ◌<◌, ◌≤◌, ℕ, suc, List, ◌∷◌, Some, length, drop, sym, ap, arith, add-one, drop-cons}
use Rattle.std.specs.Prelude.{slice_get}
use Rattle.std.proofs.lemmas.List.Elements.{All-contains}
use Rattle.std.proofs.lemmas.Option.{get_or_from_slice_get, slice_get_within}
use Rattle.cell_links.specs.Links.{IsLinks, Links, rows_of}
use Rattle.cell_links.proofs.Rows.{length-Apart}

-- the rows of a list are few
pub few_linked : (links : Links) (list : ℕ) → IsLinks links → length (rows_of links list) ≤ 65536
few_linked links list is =
    let bound = length-Apart (rows_of links list) links.rows (is.once list) (λ x inside. All-contains (λ row. row < links.rows) (rows_of links list) x (is.within list) inside) in
    omega (arith, bound, is.few)

-- what is left from a place on begins with the row that stands there
pub left_at : (rows : List ℕ) (place row : ℕ) → slice_get rows place ≡ Some row → drop place rows ≡ row ∷ drop (place + 1) rows
left_at rows place row at =
    drop-cons rows place row (slice_get_within rows place row at)
    ∙ ap (λ (x : ℕ). x ∷ drop (suc place) rows) (get_or_from_slice_get rows place row row at)
    ∙ ap (λ (n : ℕ). row ∷ drop n rows) (sym (add-one place))
