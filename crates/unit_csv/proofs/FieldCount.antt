-- A record has at most one field more than its text has bytes.
use Rattle.std.proofs.Common.{◌≡◌, ◌+◌, ◌≤◌, ◌++◌, ℕ, zero, suc, List, [], ◌∷◌, length, Bool, true, false, cond, Option, None, Some, refl, subst, arith, length-append}
use Rattle.csv.specs.declared.parser.Action.{Action}
use Rattle.csv.specs.declared.parser.Action.TheVariants as act
use Rattle.csv.specs.declared.parser.Config.{Config}
use Rattle.csv.specs.declared.parser.State.{State}
use Rattle.csv.specs.declared.parser.State.TheVariants as st
use Rattle.csv.specs.Machine.{Read, next_record, step, is_end, ends_at_end, fields_after, field_after}
use Rattle.csv.specs.Reading.{default_config, is_bom, records, records_from, records_next, strip_bom}

one_more : (fields : List (List ℕ)) (field : List ℕ) → length (fields ++ (field ∷ [])) ≤ length fields + 1
one_more fields field = omega (arith, length-append fields (field ∷ []))

-- an action adds a field at most
added : (a : Action) (fields : List (List ℕ)) (field : List ℕ) → length (fields_after a fields field) ≤ length fields + 1
added act.EndField fields field = one_more fields field
added act.Skip fields field = omega arith
added act.Copy fields field = omega arith
added act.EndRecord fields field = one_more fields field

at_end : (b : Bool) (q p : Read) → cond b (Some q) None ≡ Some p → q ≡ p
at_end true q p e = cc e
at_end false q p e = cc e

at_byte : (b : Bool) (q p : Read) (o : Option Read) (n : ℕ) → length q.0 ≤ n → (o ≡ Some p → length p.0 ≤ n) → cond b (Some q) o ≡ Some p → length p.0 ≤ n
at_byte true q p o n few rest e = let same : q ≡ p = cc e in subst (λ (r : Read). length r.0 ≤ n) same few
at_byte false q p o n few rest e = rest e

few_fields : (cfg : Config) (s : State) (fields : List (List ℕ)) (field xs : List ℕ) (p : Read) → next_record cfg s fields field xs ≡ Some p → length p.0 ≤ length fields + length xs + 1
unfolding next_record
few_fields cfg s fields field [] p e =
    subst (λ (r : Read). length r.0 ≤ length fields + 0 + 1) (at_end (ends_at_end s) (fields ++ (field ∷ []), st.StartRecord, []) p e) (omega (arith, one_more fields field))
few_fields cfg s fields field (c ∷ rest) p e =
    let more = added (step cfg s c).1 fields field in
    at_byte (is_end (step cfg s c).1) (fields_after (step cfg s c).1 fields field, (step cfg s c).0, rest) p
    (next_record cfg (step cfg s c).0 (fields_after (step cfg s c).1 fields field) (field_after (step cfg s c).1 c field) rest)
    (length fields + length (c ∷ rest) + 1)
    (omega (arith, more))
    (λ h. let less = few_fields cfg (step cfg s c).0 (fields_after (step cfg s c).1 fields field) (field_after (step cfg s c).1 c field) rest p h in omega (arith, less, more))
    e

first_is : (more : State → List ℕ → List (List (List ℕ))) (o : Option Read) (fields : List (List ℕ)) (rest : List (List (List ℕ))) (n : ℕ)
    → records_next more o ≡ fields ∷ rest → ((p : Read) → o ≡ Some p → length p.0 ≤ n) → length fields ≤ n
first_is more None fields rest n e each = absurd (cc e)
first_is more (Some p) fields rest n e each = let same : p.0 ≡ fields = cc e in subst (λ (fs : List (List ℕ)). length fs ≤ n) same (each p refl)

first_few : (cfg : Config) (n : ℕ) (s : State) (xs : List ℕ) (fields : List (List ℕ)) (rest : List (List (List ℕ))) → records_from cfg n s xs ≡ fields ∷ rest → length fields ≤ length xs + 1
unfolding records_from
first_few cfg zero s xs fields rest e = absurd (cc e)
first_few cfg (suc n) s xs fields rest e = first_is (records_from cfg n) (next_record cfg s [] [] xs) fields rest (length xs + 1) e (λ p h. let few = few_fields cfg s [] [] xs p h in omega (arith, few))

shorter_if : (b : Bool) (xs ys : List ℕ) → length xs ≤ length ys → length (cond b xs ys) ≤ length ys
shorter_if true xs ys less = less
shorter_if false xs ys less = omega arith

no_longer : (text : List ℕ) → length (strip_bom text) ≤ length text
unfolding strip_bom
no_longer [] = omega arith
no_longer (a ∷ []) = omega arith
no_longer (a ∷ b ∷ []) = omega arith
no_longer (a ∷ b ∷ c ∷ rest) = shorter_if (is_bom a b c) rest (a ∷ b ∷ c ∷ rest) (omega arith)

-- the first record of a text
pub few_columns : (text : List ℕ) (fields : List (List ℕ)) (rest : List (List (List ℕ))) → records default_config (strip_bom text) ≡ fields ∷ rest → length fields ≤ length text + 1
few_columns text fields rest e =
    let few = first_few default_config (length (strip_bom text) + 1) st.StartRecord (strip_bom text) fields rest e in
    let less = no_longer text in omega (arith, few, less)
