-- Lists whose elements differ, put together.
use Rattle.std.proofs.Common.{◌≡◌, ◌&&◌, ◌||◌, not, Bool, true, false, List, [], ◌∷◌, ◌++◌, refl, ap, sym, ◌∙◌}
use Rattle.std.specs.List.{list_all, list_any}
use Rattle.std.proofs.lemmas.List.Folds.{list_all-append, list_any-append}
use Rattle.sgl_typed.specs.SchemaForm.{differ_by}

-- no element of the first list is as one of the second, by this test
abbrev pub apart : {A : Type 0} → (A → A → Bool) → List A → List A → Bool
apart same xs ys = list_all (λ x. not (list_any (same x) ys)) xs

regroup : (a b c d e : Bool) → (not (a || b) && ((c && d) && e)) ≡ (((not a && c) && (not b && d)) && e)
regroup true b c d e = refl
regroup false true true d e = refl
regroup false true false d e = refl
regroup false false true d e = refl
regroup false false false d e = refl

pub differ_by-append : {A : Type 0} (same : A → A → Bool) (xs ys : List A) → differ_by same (xs ++ ys) ≡ ((differ_by same xs && apart same xs ys) && differ_by same ys)
differ_by-append same [] ys = refl
differ_by-append same (x ∷ xs) ys =
    (λ i. not (list_any-append (same x) xs ys i) && differ_by-append same xs ys i)
    ∙ regroup (list_any (same x) xs) (list_any (same x) ys) (differ_by same xs) (apart same xs ys) (differ_by same ys)

pub and-left : (a b : Bool) → (a && b) ≡ true → a ≡ true
and-left true b e = refl
and-left false b e = absurd (cc)

pub and-right : (a b : Bool) → (a && b) ≡ true → b ≡ true
and-right true b e = e
and-right false b e = absurd (cc)

both-not : (a b : Bool) → not a ≡ true → not b ≡ true → not (a || b) ≡ true
both-not true b p q = p
both-not false b p q = q

pub apart-right : {A : Type 0} (same : A → A → Bool) (xs ys zs : List A) → apart same xs ys ≡ true → apart same xs zs ≡ true → apart same xs (ys ++ zs) ≡ true
apart-right same [] ys zs p q = refl
apart-right same (x ∷ xs) ys zs p q =
    λ i. (ap not (list_any-append (same x) ys zs) ∙ both-not (list_any (same x) ys) (list_any (same x) zs) (and-left _ _ p) (and-left _ _ q)) i && apart-right same xs ys zs (and-right _ _ p) (and-right _ _ q) i

-- a list put between two
pub inserted : {A : Type 0} (same : A → A → Bool) (xs zs ys : List A) → differ_by same (xs ++ ys) ≡ true → differ_by same zs ≡ true → apart same xs zs ≡ true → apart same zs ys ≡ true
    → differ_by same ((xs ++ zs) ++ ys) ≡ true
inserted same xs zs ys p q r s =
    let whole : ((differ_by same xs && apart same xs ys) && differ_by same ys) ≡ true = sym (differ_by-append same xs ys) ∙ p in
    let front = and-left (differ_by same xs && apart same xs ys) (differ_by same ys) whole in
    differ_by-append same (xs ++ zs) ys
    ∙ (λ i. ((differ_by-append same xs zs ∙ (λ j. (and-left (differ_by same xs) (apart same xs ys) front j && r j) && q j)) i
    && (list_all-append (λ x. not (list_any (same x) ys)) xs zs ∙ (λ j. and-right (differ_by same xs) (apart same xs ys) front j && s j)) i)
    && and-right (differ_by same xs && apart same xs ys) (differ_by same ys) whole i)
