-- What every schema keeps: few attributes, with names of their own.
use Rattle.std.specs.Prelude.{ℕ, ◌==◌, ◌&&◌, not, nat_eq, nat_le, codes, Bool, true, List, [], ◌∷◌, ◌++◌, map, length}
use Rattle.std.specs.List.{list_any, list_all}
use Rattle.std.specs.Cmp.Lexicographic.{pointwise}
use Rattle.sgl_typed.specs.declared.schema.EffectAttr.{EffectAttr}
use Rattle.sgl_values.specs.declared.limit.TheConstants.{CONSTS_MAX, EFFECTS_MAX, NAME_BYTES_MAX}

-- no element is as an earlier one, by this test
abbrev pub differ_by : {A : Type 0} → (A → A → Bool) → List A → Bool
differ_by same [] = true
differ_by same (x ∷ xs) = not (list_any (same x) xs) && differ_by same xs

abbrev pub differ : List ℕ → Bool
differ = differ_by (λ n m. n == m)

-- two names have the same bytes
abbrev pub is_same_name : List ℕ → List ℕ → Bool
is_same_name = pointwise nat_eq

-- the names of all attributes
abbrev pub names_of : List (List ℕ) → List EffectAttr → List (List ℕ)
names_of consts effects = consts ++ map (λ effect. effect.name) effects

-- a name of at most 31 bytes that is not `key`
abbrev pub name_fits : List ℕ → Bool
name_fits name = nat_le (length name) NAME_BYTES_MAX && not (is_same_name name (codes "key"))

-- few attributes, with names of their own
abbrev pub attributes_fit : List (List ℕ) → List EffectAttr → Bool
attributes_fit consts effects =
    nat_le (length consts) CONSTS_MAX && nat_le (length effects) EFFECTS_MAX
    && list_all name_fits (names_of consts effects) && differ_by is_same_name (names_of consts effects)
