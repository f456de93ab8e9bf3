use Rattle.std.proofs.Common.{◌∙◌, ◌∷◌, [], ℤ, List, take, ap, arith}
use Rattle.row_groups.proofs.Alike.{numbered_alike, one_taken}
use Rattle.row_groups.proofs.numbering.numbering_of_one.Goals as goal

pub returns-clause-keys : goal.returns-clause-keys
returns-clause-keys c = λ all count.
    let zero = c.zero.result in
    let key : List ℤ = zero ∷ zero ∷ zero ∷ zero ∷ [] in
    let some = take c.min.result (key ∷ []) in
    let taken = one_taken c.min.result c.args.rows key (omega (arith, c.min.ensures)) in
    numbered_alike c.in_ok-numbers.field-0.numbers some all (omega (arith, taken.0, count))
    (λ more. taken.1 (omega (arith, more, count)) ∙ ap (λ (z : ℤ). (z ∷ z ∷ z ∷ z ∷ []) ∷ []) c.zero.ensures) c.in_ok-numbers.ensures.keys
