-- What every schema keeps of the names of its const attributes.
use Rattle.std.proofs.Common.{◌≡◌, ◌≤◌, ◌++◌, ℕ, List, [], ◌∷◌, length, map, true, arith}
use Rattle.std.specs.Prelude.{All, nat_le}
use Rattle.std.specs.List.{list_all}
use Rattle.std.proofs.lemmas.Bool.{and_parts}
use Rattle.std.proofs.lemmas.Bool.Decides.{nat_tests}
use Rattle.std.proofs.lemmas.List.Elements.{All-nil, All-cons}
use Rattle.sgl_typed.specs.SchemaForm.{name_fits}
use Rattle.sgl_typed.specs.declared.schema.Schema.{Schema}

at_most : (n m : ℕ) → nat_le n m ≡ true → n ≤ m
at_most n m e = grind (arith, nat_tests)

-- there are few of them
pub few_consts : (schema : Schema) → length schema.consts ≤ 32
few_consts schema =
    let names = and_parts _ _ (and_parts _ _ schema.fits).0 in
    at_most (length schema.consts) 32 (and_parts _ _ names.0).0

short_first : (names more : List (List ℕ)) → list_all name_fits (names ++ more) ≡ true → All (λ name. length name ≤ 31) names
short_first [] more fits = All-nil (λ name. length name ≤ 31)
short_first (name ∷ names) more fits =
    let parts = and_parts _ _ fits in
    All-cons (λ name. length name ≤ 31) name names (at_most (length name) 31 (and_parts _ _ parts.0).0) (short_first names more parts.1)

-- and they are short
pub short_consts : (schema : Schema) → All (λ name. length name ≤ 31) schema.consts
short_consts schema = short_first schema.consts (map (λ effect. effect.name) schema.effects) (and_parts _ _ (and_parts _ _ schema.fits).0).1
