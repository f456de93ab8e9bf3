-- Truths, and what they choose.
use Rattle.std.proofs.Common.{◌≡◌, Bool, true, false, refl, sym}
use Rattle.std.specs.Prelude.{◌&&◌, ◌||◌, not, if◌then◌else◌}
use Rattle.std.proofs.lemmas.Bool.{false≢true}

pub both_true : (x y : Bool) → x ≡ true → y ≡ true → (x && y) ≡ true
both_true x y p q = λ i. p i && q i

pub and_swap : (x y z : Bool) → (x && (y && z)) ≡ (y && (x && z))
and_swap true y z = refl
and_swap false true z = refl
and_swap false false z = refl

pub or_swap : (x y z : Bool) → (x || (y || z)) ≡ (y || (x || z))
or_swap true true z = refl
or_swap true false z = refl
or_swap false y z = refl

pub and_push : (x y z : Bool) → ((x && y) && z) ≡ (x && (y && z))
and_push true y z = refl
and_push false y z = refl

pub or_right : (x y : Bool) → y ≡ true → (x || y) ≡ true
or_right true y h = refl
or_right false y h = h

pub or_parts : (x y : Bool) (P : Type 0) → (x ≡ true → P) → (y ≡ true → P) → (x || y) ≡ true → P
or_parts true y P first second h = first refl
or_parts false y P first second h = second h

pub from_not : (x : Bool) → not x ≡ true → x ≡ false
from_not true h = absurd (false≢true h)
from_not false h = refl

pub to_not : (x : Bool) → x ≡ false → not x ≡ true
to_not true h = λ i. not (h i)
to_not false h = refl

pub not_and : (x y : Bool) → not y ≡ true → not (x && y) ≡ true
not_and true y h = h
not_and false y h = refl

pub not_and_left : (x y : Bool) → not x ≡ true → not (x && y) ≡ true
not_and_left true y h = absurd (false≢true h)
not_and_left false y h = refl

-- what is not all true, though the first is
pub past_true : (x y : Bool) → x ≡ true → not (x && y) ≡ true → not y ≡ true
past_true true y own h = h
past_true false y own h = absurd (false≢true own)

-- a choice between a truth and `true`
pub if_true : (b x : Bool) → x ≡ true → (if b then x else true) ≡ true
if_true true x h = h
if_true false x h = refl

pub if_false : (b x : Bool) → (if b then x else true) ≡ false → (b ≡ true) × (x ≡ false)
if_false true x h = (refl, h)
if_false false x h = absurd (false≢true (sym h))

-- what a test chooses
pub if_way : {A : Type 0} (b : Bool) (t u : A) (P : A → Type 0) → (b ≡ true → P t) → (b ≡ false → P u) → P (if b then t else u)
if_way true t u P first second = first refl
if_way false t u P first second = second refl

pub by_cases : (b : Bool) (P : Type 0) → (b ≡ true → P) → (b ≡ false → P) → P
by_cases true P first second = first refl
by_cases false P first second = second refl

pub true_of : (x : Bool) → not x ≡ false → x ≡ true
true_of true h = refl
true_of false h = absurd (false≢true (sym h))

pub bool_by : (r s : Bool) → (r ≡ true → s ≡ true) → (s ≡ true → r ≡ true) → r ≡ s
bool_by true s there back = sym (there refl)
bool_by false true there back = back refl
bool_by false false there back = refl
