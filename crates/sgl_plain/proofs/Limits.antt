-- How many attributes a script has, and how long their names are.
use Rattle.std.proofs.Common.{◌≡◌, ℕ, ◌≤◌, true, List, length, map, arith, sym, ◌∙◌}
use Rattle.std.specs.Prelude.{nat_le}
use Rattle.std.specs.List.{All, list_all}
use Rattle.std.proofs.lemmas.Bool.{and_parts}
use Rattle.std.proofs.lemmas.Bool.Decides.{nat_tests}
use Rattle.std.proofs.lemmas.List.Elements.{All-weaker}
use Rattle.std.proofs.lemmas.List.Folds.{list_all-append}
use Rattle.std.proofs.lemmas.List.Sums.{AllPass-from_list_all}
use Rattle.sgl_typed.specs.declared.script.TScript.{TScript}
use Rattle.sgl_typed.specs.SchemaForm.{name_fits, names_of}

at_most : (n m : ℕ) → nat_le n m ≡ true → n ≤ m
at_most n m le = grind (arith, nat_tests)

-- each part of what the schema of a script keeps, but that names differ
record Limits (s : TScript) : Type 0 where
  consts : nat_le (length s.schema.consts) 32 ≡ true
  effects : nat_le (length s.schema.effects) 16 ≡ true
  names : list_all name_fits (names_of s.schema.consts s.schema.effects) ≡ true

limits_of : (s : TScript) → Limits s
limits_of s =
    let all_but_differ = and_parts _ _ s.schema.fits in
    let few = and_parts _ _ all_but_differ.0 in
    let counts = and_parts _ _ few.0 in
    record { consts = counts.0; effects = counts.1; names = few.1 }

pub few_consts : (s : TScript) → length s.schema.consts ≤ 32
few_consts s = at_most (length s.schema.consts) 32 (limits_of s).consts

pub few_effects : (s : TScript) → length s.schema.effects ≤ 16
few_effects s = at_most (length s.schema.effects) 16 (limits_of s).effects

short_name : (name : List ℕ) → name_fits name ≡ true → length name ≤ 31
short_name name fits = at_most (length name) 31 (and_parts _ _ fits).0

pub short_names : (s : TScript) → All (λ name. length name ≤ 31) s.schema.consts
short_names s =
    let fit = and_parts _ _ (sym (list_all-append name_fits s.schema.consts (map (λ effect. effect.name) s.schema.effects)) ∙ (limits_of s).names) in
    All-weaker (λ name. name_fits name ≡ true) (λ name. length name ≤ 31) short_name s.schema.consts (AllPass-from_list_all name_fits s.schema.consts fit.0)
