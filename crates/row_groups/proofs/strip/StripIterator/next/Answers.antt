-- The row that is told has the first rank that is held, and where no rank is held none was to come.
use Rattle.std.proofs.Common.{◌+◌, ◌∷◌, ℕ, List, length, get_or, refl, ap, sym, ◌∙◌, arith}
use Rattle.std.proofs.lemmas.List.{take_rest}
use Rattle.std.proofs.lemmas.List.Quantifiers.{position-Some}
use Rattle.row_groups.specs.Strips.{is_held, rows_held}
use Rattle.row_groups.proofs.Stripping.{held_from, held_nowhere, none_first}
use Rattle.row_groups.proofs.strip.StripIterator.next.Goals as goal

pub returns-in-Some-clause-steps : goal.returns-in-Some-clause-steps
returns-in-Some-clause-steps c =
    let it = c.self.inside in
    let rows : List ℕ = it.rows.now in
    let ranks : List ℕ = it.ranks.now in
    let end : ℕ = it.last + 1 in
    let place : ℕ = c.in-Some.place in
    let first = position-Some (is_held it.low end) ranks place 0 (sym c.in-Some.ensures) in
    sym c.self.view_is
    ∙ held_from it.low end rows ranks place c.self.invariant first.0 first.2 first.1
    ∙ (λ i. get_or rows place 0 ∷ rows_held it.low end (sym (take_rest rows (place + 1)) i) (sym (take_rest ranks (place + 1)) i))

pub returns-in-Some-clause-goes : goal.returns-in-Some-clause-goes
returns-in-Some-clause-goes c = record {
  on = λ finite. (tt, tt, omega (arith, ap length (returns-in-Some-clause-steps c)));
  keeps = tt;
  rests = λ finite. tt;
}

pub returns-in-None-clause-steps : goal.returns-in-None-clause-steps
returns-in-None-clause-steps c =
    let it = c.self.inside in
    let end : ℕ = it.last + 1 in
    let none = none_first (is_held it.low end) it.ranks.now (sym c.in-None.ensures) in
    (sym c.self.view_is ∙ held_nowhere it.low end it.rows.now it.ranks.now none, refl)
