use Rattle.std.proofs.Common.{◌∷◌, ◌++◌, List, ℕ, Option, subst, sym}
use Rattle.std.specs.Prelude.{option_to_list}
use Rattle.std.specs.List.Sorted.{IsPermutation}
use Rattle.std.proofs.lemmas.List.Sorted.{IsPermutation-to_front}
use Rattle.cell_keep.proofs.placing.row_for.Goals as goal

pub returns-in-None-clause-shared : goal.returns-in-None-clause-shared
returns-in-None-clause-shared c =
    let left = c.take_last.new.self.items in
    subst (λ (o : Option ℕ). IsPermutation (option_to_list o ++ c.args.free.now.items) (c.take_last.result ∷ left)) (sym c.in-None.is)
    (subst (λ (l : List ℕ). IsPermutation l (c.take_last.result ∷ left)) (sym c.take_last.ensures.items) (IsPermutation-to_front left c.take_last.result))
