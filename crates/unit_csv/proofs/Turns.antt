-- Records that are read one after the other.
use Rattle.std.proofs.Common.{◌≡◌, ◌∙◌, ◌+◌, ℕ, zero, suc, ℤ, pos, negsuc, List, [], ◌∷◌, ◌++◌, length, take, drop, map, Bool, true, false, ◌||◌, Option, None, Some, refl, sym, ap, ap₂, arith, append-nil, add-one, ◌≤◌, take-append-drop}
use Rattle.std.specs.Prelude.{◌==◌, if◌then◌else◌, unsigned_abs}
use Rattle.std.specs.Bool.{one_answer}
use Rattle.std.specs.Ordering.{int_eq}
use Rattle.std.proofs.lemmas.Bool.Decides.{Decides-int_eq, nat_tests}
use Rattle.std.proofs.lemmas.List.{length_push, map-append}
use Rattle.std.proofs.lemmas.List.Folds.{list_any-append}
use Rattle.std.proofs.lemmas.List.Sums.{fold_push}
use Rattle.sgl_values.specs.World.{Row}
use Rattle.unit_csv.specs.declared.faults.UnitFault.{UnitFault}
use Rattle.unit_csv.specs.Units.{by_key, field_faults, first_of, has_key, is_key, placed, record_faults, records_faults, told, unit_of, value_at}
use Rattle.unit_csv.specs.declared.faults.UnitFault.TheVariants.{Ragged, TooMany}

abbrev Fields : Type 0
Fields = List (List ℕ)

-- ---- lists of faults

first_of-append_none : (xs ys : List UnitFault) → first_of xs ≡ None → first_of (xs ++ ys) ≡ first_of ys
first_of-append_none [] ys e = refl
first_of-append_none (x ∷ xs) ys e = absurd (cc e)

first_of-append_some : (xs ys : List UnitFault) (fault : UnitFault) → first_of xs ≡ Some fault → first_of (xs ++ ys) ≡ Some fault
first_of-append_some [] ys fault e = absurd (cc e)
first_of-append_some (x ∷ xs) ys fault e = e

-- ---- the keys of records

same_number : (n k : ℕ) → (k == n) ≡ true → n ≡ k
same_number n k e = grind (arith, nat_tests)

same_test : (n k : ℕ) → n ≡ k → (k == n) ≡ true
same_test n k e = grind (arith, nat_tests)

same_key : (z : ℤ) (k : ℕ) → is_key z ≡ true → int_eq z (pos k) ≡ (k == unsigned_abs z)
same_key (pos n) k e = one_answer (int_eq (pos n) (pos k)) (k == n) (Decides-int_eq (pos n) (pos k)) (λ t. ap pos (same_number n k t), λ p. same_test n k (cc p))
same_key (negsuc n) k e = absurd (cc e)

or_swap : (a b : Bool) → (a || b) ≡ (b || a)
or_swap true true = refl
or_swap true false = refl
or_swap false true = refl
or_swap false false = refl

or_false : (a : Bool) → (a || false) ≡ a
or_false true = refl
or_false false = refl

-- the keys with one record more
has_key-more : (key : ℕ) (before : List Fields) (fields : Fields) (k : ℕ) (known more : Bool) → is_key (value_at fields key) ≡ true
    → has_key key before k ≡ known → more ≡ ((k == unsigned_abs (value_at fields key)) || known) → has_key key (before ++ fields ∷ []) k ≡ more
has_key-more key before fields k known more good so_far added =
    list_any-append (λ (fs : Fields). int_eq (value_at fs key) (pos k)) before (fields ∷ [])
    ∙ (ap₂ (λ (a b : Bool). a || b) so_far (or_false (int_eq (value_at fields key) (pos k)) ∙ same_key (value_at fields key) k good)
    ∙ (or_swap known (k == unsigned_abs (value_at fields key)) ∙ sym added))

-- ---- one record more

taken_suc : {X : Type 0} (n : ℕ) (xs : List X) (x : X) (ys : List X) → drop n xs ≡ x ∷ ys → take (suc n) xs ≡ take n xs ++ x ∷ []
taken_suc zero [] x ys e = absurd (cc e)
taken_suc zero (z ∷ xs) x ys e = let same : z ≡ x = cc e in ap (λ y. y ∷ []) same
taken_suc (suc n) [] x ys e = absurd (cc e)
taken_suc (suc n) (z ∷ xs) x ys e = ap (λ l. z ∷ l) (taken_suc n xs x ys e)

taken_more : {X : Type 0} (n : ℕ) (xs : List X) (x : X) (ys : List X) → drop n xs ≡ x ∷ ys → take (n + 1) xs ≡ take n xs ++ x ∷ []
taken_more n xs x ys e = rw add-one (taken_suc n xs x ys e)

dropped_suc : {X : Type 0} (n : ℕ) (xs : List X) (x : X) (ys : List X) → drop n xs ≡ x ∷ ys → drop (suc n) xs ≡ ys
dropped_suc zero [] x ys e = absurd (cc e)
dropped_suc zero (z ∷ xs) x ys e = cc e
dropped_suc (suc n) [] x ys e = absurd (cc e)
dropped_suc (suc n) (z ∷ xs) x ys e = dropped_suc n xs x ys e

pub dropped_more : {X : Type 0} (n : ℕ) (xs : List X) (x : X) (ys : List X) → drop n xs ≡ x ∷ ys → drop (n + 1) xs ≡ ys
dropped_more n xs x ys e = rw add-one (dropped_suc n xs x ys e)

pub taken_all : {X : Type 0} (n : ℕ) (xs : List X) → drop n xs ≡ [] → take n xs ≡ xs
taken_all n xs e = sym (append-nil (take n xs)) ∙ (ap (λ ys. take n xs ++ ys) (sym e) ∙ take-append-drop n xs)

pub counted_more : {X : Type 0} (n : ℕ) (xs : List X) (x : X) (ys : List X) → drop n xs ≡ x ∷ ys → length (take n xs) ≡ n → length (take (n + 1) xs) ≡ n + 1
counted_more n xs x ys e counted = ap length (taken_more n xs x ys e) ∙ (length_push (take n xs) x ∙ ap (λ m. m + 1) counted)

not_last : (b : Bool) (m : ℕ) (faults : List UnitFault) → (m == 65537) ≡ b → m ≤ 65537 → first_of (told (if b then Some TooMany else None) faults) ≡ None → m ≤ 65536
not_last true m faults last most sound = absurd (cc sound)
not_last false m faults last most sound = grind (arith, nat_tests)

-- a record without a fault is not past the limit
pub within_limit : (count key m : ℕ) (known : ℕ → Bool) (fields : Fields) → m ≤ 65537 → first_of (record_faults count key known m fields) ≡ None → m ≤ 65536
within_limit count key m known fields most sound =
    not_last (m == 65537) m (if length fields == count then field_faults key known m 0 fields else Ragged m ∷ []) refl most sound

-- the faults of a record, by the keys that the code knows
record_faults-known : (count key n : ℕ) (before : List Fields) (fields : Fields) (known : ℕ → Bool) → length before ≡ n → ((k : ℕ) → has_key key before k ≡ known k)
    → record_faults count key (has_key key before) (length before + 1) fields ≡ record_faults count key known (n + 1) fields
record_faults-known count key n before fields known counted same =
    let tests : has_key key before ≡ known = λ i. λ k. same k i in
    ap₂ (λ (t : ℕ → Bool) (m : ℕ). record_faults count key t (m + 1) fields) tests counted

sound_more : (count key n : ℕ) (before rest : List Fields) (fields : Fields) (known : ℕ → Bool) → length before ≡ n → ((k : ℕ) → has_key key before k ≡ known k)
    → first_of (record_faults count key known (n + 1) fields) ≡ None
    → first_of (records_faults count key before (fields ∷ rest)) ≡ first_of (records_faults count key (before ++ fields ∷ []) rest)
sound_more count key n before rest fields known counted same sound =
    first_of-append_none (record_faults count key (has_key key before) (length before + 1) fields) (records_faults count key (before ++ fields ∷ []) rest)
    (ap first_of (record_faults-known count key n before fields known counted same) ∙ sound)

-- a record without a fault leaves the first fault to the records behind it
pub sound_turn : (count key n : ℕ) (every left rest : List Fields) (fields : Fields) (known : ℕ → Bool) (whole : Option UnitFault) → drop n every ≡ left → left ≡ fields ∷ rest
    → length (take n every) ≡ n → ((k : ℕ) → has_key key (take n every) k ≡ known k) → first_of (record_faults count key known (n + 1) fields) ≡ None
    → first_of (records_faults count key (take n every) left) ≡ whole → first_of (records_faults count key (take (n + 1) every) rest) ≡ whole
sound_turn count key n every left rest fields known whole dropped split counted same sound so_far =
    ap (λ (before : List Fields). first_of (records_faults count key before rest)) (taken_more n every fields rest (dropped ∙ split))
    ∙ (sym (sound_more count key n (take n every) rest fields known counted same sound)
    ∙ (ap (λ (rows : List Fields). first_of (records_faults count key (take n every) rows)) (sym split) ∙ so_far))

-- the first fault of a record is that of all
pub fault_turn : (count key n : ℕ) (every left rest : List Fields) (fields : Fields) (known : ℕ → Bool) (whole : Option UnitFault) (fault : UnitFault) → left ≡ fields ∷ rest
    → length (take n every) ≡ n → ((k : ℕ) → has_key key (take n every) k ≡ known k) → first_of (record_faults count key known (n + 1) fields) ≡ Some fault
    → first_of (records_faults count key (take n every) left) ≡ whole → whole ≡ Some fault
fault_turn count key n every left rest fields known whole fault split counted same first so_far =
    sym so_far
    ∙ (ap (λ (rows : List Fields). first_of (records_faults count key (take n every) rows)) split
    ∙ first_of-append_some (record_faults count key (has_key key (take n every)) (length (take n every) + 1) fields) (records_faults count key (take n every ++ fields ∷ []) rest) fault
    (ap first_of (record_faults-known count key n (take n every) fields known counted same) ∙ first))

by_key-more : (key : ℕ) (places : List ℕ) (before : List Fields) (fields : Fields)
    → by_key (map (unit_of key places) (before ++ fields ∷ [])) ≡ placed (by_key (map (unit_of key places) before)) (unit_of key places fields)
by_key-more key places before fields =
    ap by_key (map-append (unit_of key places) before (fields ∷ []))
    ∙ fold_push placed [] (map (unit_of key places) before) (unit_of key places fields)

-- the rows with one record more
pub rows_turn : (key n : ℕ) (places : List ℕ) (every rest : List Fields) (fields : Fields) (old new : List Row) → drop n every ≡ fields ∷ rest
    → new ≡ placed old (unit_of key places fields) → old ≡ by_key (map (unit_of key places) (take n every)) → new ≡ by_key (map (unit_of key places) (take (n + 1) every))
rows_turn key n places every rest fields old new dropped added so_far =
    added
    ∙ (ap (λ (rows : List Row). placed rows (unit_of key places fields)) so_far
    ∙ (sym (by_key-more key places (take n every) fields) ∙ ap (λ (before : List Fields). by_key (map (unit_of key places) before)) (sym (taken_more n every fields rest dropped))))

-- the keys with one record more
pub known_turn : (key n k : ℕ) (every rest : List Fields) (fields : Fields) (known more : Bool) → drop n every ≡ fields ∷ rest → is_key (value_at fields key) ≡ true
    → more ≡ ((k == unsigned_abs (value_at fields key)) || known) → has_key key (take n every) k ≡ known → has_key key (take (n + 1) every) k ≡ more
known_turn key n k every rest fields known more dropped good added so_far =
    ap (λ (before : List Fields). has_key key before k) (taken_more n every fields rest dropped) ∙ has_key-more key (take n every) fields k known more good so_far added
