-- A script that declares nothing besides its `main`, and breaks no rule, is well-formed.
use Rattle.std.proofs.Common.{◌≡◌, ℕ, ◌+◌, ◌&&◌, nat_lt, true, List, [], ◌∷◌, ◌++◌, refl, ap, sym, ◌∙◌, arith}
use Rattle.std.specs.List.{list_all}
use Rattle.sgl_tree.specs.declared.statement.Stmt.{Stmt}
use Rattle.sgl_typed.specs.WellFormed.{Body, Callees, slots_of_all, statements_fit, body_behind}
use Rattle.sgl_types.specs.Statements.{Standing, behind, lets, lets_of, statement_faults, statements_faults, typed_statement, typed_statements}
use Rattle.sgl_types.proofs.Blocks.{Stands, statement-fits, stands-behind}
use Rattle.sgl_types.proofs.Fits.{neither}
use Rattle.sgl_types.proofs.Slots.{numbers, numbers-append, set-statement}
use Rattle.sgl_types.proofs.Walks.{behind-next}

pub list-fits : (callees : Callees) (ss : List Stmt) (t : Standing) (b : Body) → Stands t b callees → statements_faults ss t ≡ [] → statements_fit callees (typed_statements ss t) b ≡ true
list-fits callees [] t b h none = refl
list-fits callees (s ∷ rest) t b h none =
    let parts = neither (statement_faults s t) (statements_faults rest (behind s t)) none in
    λ i. statement-fits callees s t b h parts.0 i && list-fits callees rest (behind s t) (body_behind (typed_statement s t) b) (stands-behind callees s t b h parts.0) parts.1 i

pub list-set : (ss : List Stmt) (t : Standing) → slots_of_all (typed_statements ss t) ≡ numbers t.next (lets ss)
list-set [] t = refl
list-set (s ∷ rest) t =
    (λ i. set-statement s t i ++ list-set rest (behind s t) i)
    ∙ ap (λ n. numbers t.next (lets_of s) ++ numbers n (lets rest)) (behind-next s t)
    ∙ sym (numbers-append t.next (lets_of s) (lets rest))

pub numbers-below : (from many most : ℕ) → from + many ≡ most → list_all (λ n. nat_lt n most) (numbers from many) ≡ true
numbers-below from ℕ.zero most e = refl
numbers-below from (ℕ.suc many) most e =
    let lt : nat_lt from most ≡ true = grind (arith) in
    let next : (1 + from) + many ≡ most = omega arith in
    λ i. lt i && numbers-below (1 + from) many most next i
