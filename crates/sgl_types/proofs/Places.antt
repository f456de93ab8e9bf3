-- An index of names tells their places.
use Rattle.std.proofs.Common.{◌≡◌, ℕ, ◌+◌, Bool, true, false, cond, List, [], ◌∷◌, ◌++◌, length, is_some, slice_get, bytes_eq, Option, Some, None, if◌then◌else◌, suc, refl, ap, sym, subst, ◌∙◌, arith, add-zero, Result, Ok, Err, OnOk, OnErr}
use Rattle.std.proofs.lemmas.Slice.Eq.{bytes_eq-Decides}
use Rattle.std.specs.Map.{update}
use Rattle.sgl_types.specs.Index.{stands_at}
use Rattle.sgl_types.specs.Index.{position_from, position}

-- what an index tells has the place of each name
abbrev pub Tells : (List ℕ → Option ℕ) → List (List ℕ) → Type 0
Tells g names = (name : List ℕ) (at : ℕ) → position name names ≡ Some at → g name ≡ Some at

-- ---- where a name stands

some-if : (b : Bool) (n : ℕ) (rest : Option ℕ) → (b ≡ false → is_some rest ≡ true) → is_some (if b then Some n else rest) ≡ true
some-if true n rest h = refl
some-if false n rest h = h refl

is-there : (n at : ℕ) (name : List ℕ) (names : List (List ℕ)) → stands_at (slice_get names at) name ≡ true → is_some (position_from n name names) ≡ true
is-there n at name [] e = absurd (cc)
is-there n ℕ.zero name (x ∷ names) e = some-if (bytes_eq x name) n (position_from (n + 1) name names) (λ f. absurd (let no : true ≡ false = sym e ∙ f in cc))
is-there n (ℕ.suc at) name (x ∷ names) e = some-if (bytes_eq x name) n (position_from (n + 1) name names) (λ f. is-there (n + 1) at name names e)

-- at its place it stands
record StandsBehind (n i : ℕ) (name : List ℕ) (names : List (List ℕ)) : Type 0 where
  at : ℕ
  is : i ≡ n + at
  stands : stands_at (slice_get names at) name ≡ true

stands-if : (b : Bool) (n i : ℕ) (name x : List ℕ) (names : List (List ℕ)) (rest : Option ℕ) → bytes_eq x name ≡ b → (rest ≡ Some i → StandsBehind (n + 1) i name names)
    → (if b then Some n else rest) ≡ Some i → StandsBehind n i name (x ∷ names)
stands-if true n i name x names rest is h e = record { at = 0; is = (let same : n ≡ i = cc in omega arith); stands = is }
stands-if false n i name x names rest is h e =
    let s = h e in
    record { at = suc s.at; is = (let place : i ≡ (n + 1) + s.at = s.is in omega arith); stands = s.stands }

stands-behind : (n i : ℕ) (name : List ℕ) (names : List (List ℕ)) → position_from n name names ≡ Some i → StandsBehind n i name names
stands-behind n i name [] e = absurd (cc)
stands-behind n i name (x ∷ names) e =
    stands-if (bytes_eq x name) n i name x names (position_from (n + 1) name names) refl (stands-behind (n + 1) i name names) e

stands-there : (i : ℕ) (name : List ℕ) (names : List (List ℕ)) → position name names ≡ Some i → stands_at (slice_get names i) name ≡ true
stands-there i name names e =
    let s = stands-behind 0 i name names e in
    let same : i ≡ s.at = omega (arith, s.is) in
    ap (λ j. stands_at (slice_get names j) name) same ∙ s.stands

-- ---- what a look-up answers

from-some : (place : Option ℕ) (at : ℕ) (told : Option ℕ) → is_some place ≡ true → ((i : ℕ) → place ≡ Some i → told ≡ Some i) → told ≡ Some at → Some at ≡ place
from-some None at told e h told-is = absurd (cc)
from-some (Some i) at told e h told-is = sym told-is ∙ h i refl

from-none : (place told : Option ℕ) → ((i : ℕ) → place ≡ Some i → told ≡ Some i) → told ≡ None → None ≡ place
from-none None told h told-is = refl
from-none (Some i) told h told-is = absurd (let no : None ≡ Some i = sym told-is ∙ h i refl in cc)

pub told-nothing : (g : List ℕ → Option ℕ) (names : List (List ℕ)) (name : List ℕ) → Tells g names → g name ≡ None → None ≡ position name names
told-nothing g names name tells e = from-none (position name names) (g name) (tells name) e

pub told-place : (g : List ℕ → Option ℕ) (names : List (List ℕ)) (name : List ℕ) (at : ℕ) → Tells g names → g name ≡ Some at → stands_at (slice_get names at) name ≡ true → Some at ≡ position name names
told-place g names name at tells e stands = from-some (position name names) at (g name) (is-there 0 at name names stands) (tells name) e

from-stale : (place : Option ℕ) (told : Option ℕ) (at : ℕ) (stands : ℕ → Bool) → ((i : ℕ) → place ≡ Some i → told ≡ Some i) → ((i : ℕ) → place ≡ Some i → stands i ≡ true) → told ≡ Some at → stands at ≡ false → None ≡ place
from-stale None told at stands h there told-is stale = refl
from-stale (Some i) told at stands h there told-is stale =
    let same : Some i ≡ Some at = sym (h i refl) ∙ told-is in
    let at-i : i ≡ at = cc in
    absurd (let no : true ≡ false = sym (there i refl) ∙ ap stands at-i ∙ stale in cc)

pub told-stale : (g : List ℕ → Option ℕ) (names : List (List ℕ)) (name : List ℕ) (at : ℕ) → Tells g names → g name ≡ Some at → stands_at (slice_get names at) name ≡ false → None ≡ position name names
told-stale g names name at tells e stale =
    from-stale (position name names) (g name) at (λ i. stands_at (slice_get names i) name) (tells name) (λ i p. stands-there i name names p) e stale

-- ---- one more name

next-place : (n m : ℕ) → (n + 1) + m ≡ n + suc m
next-place n m = omega arith

push-if : (b : Bool) (n m : ℕ) (rest rest' : Option ℕ) (last : Bool) → rest' ≡ (if is_some rest then rest else if last then Some ((n + 1) + m) else None)
    → (if b then Some n else rest') ≡ (if is_some (if b then Some n else rest) then (if b then Some n else rest) else if last then Some (n + suc m) else None)
push-if true n m rest rest' last e = refl
push-if false n m rest rest' last e = e ∙ ap (λ k. if is_some rest then rest else if last then Some k else None) (next-place n m)

push-place : (n : ℕ) (name last : List ℕ) (names : List (List ℕ))
    → position_from n name (names ++ last ∷ []) ≡ (if is_some (position_from n name names) then position_from n name names else if bytes_eq last name then Some (n + length names) else None)
push-place n name last [] = ap (λ k. if bytes_eq last name then Some k else None) (sym (add-zero n))
push-place n name last (x ∷ names) =
    push-if (bytes_eq x name) n (length names) (position_from (n + 1) name names) (position_from (n + 1) name (names ++ last ∷ [])) (bytes_eq last name) (push-place (n + 1) name last names)

known-last : (place told : Option ℕ) (last : Bool) (k at : ℕ) → ((i : ℕ) → place ≡ Some i → told ≡ Some i) → (last ≡ true → is_some place ≡ true)
    → (if is_some place then place else if last then Some k else None) ≡ Some at → told ≡ Some at
known-last (Some i) told last k at h there e = h i refl ∙ e
known-last None told true k at h there e = absurd (let no : false ≡ true = there refl in cc)
known-last None told false k at h there e = absurd (cc)

-- a name that is there already
pub push-known : (g : List ℕ → Option ℕ) (names : List (List ℕ)) (last : List ℕ) → Tells g names → is_some (position last names) ≡ true → Tells g (names ++ last ∷ [])
push-known g names last tells known name at e =
    known-last (position name names) (g name) (bytes_eq last name) (0 + length names) at (tells name)
    (λ same. ap (λ n. is_some (position n names)) (sym ((bytes_eq-Decides last name).0 same)) ∙ known)
    (sym (push-place 0 name last names) ∙ e)

new-last : (place told now : Option ℕ) (last : Bool) (k k' at : ℕ) → ((i : ℕ) → place ≡ Some i → told ≡ Some i) → (last ≡ true → is_some place ≡ false) → k ≡ k' → now ≡ cond last (Some k') told
    → (if is_some place then place else if last then Some k else None) ≡ Some at → now ≡ Some at
new-last (Some i) told now true k k' at h new same now-is e = absurd (let no : true ≡ false = new refl in cc)
new-last (Some i) told now false k k' at h new same now-is e = now-is ∙ h i refl ∙ e
new-last None told now true k k' at h new same now-is e = now-is ∙ ap (λ n. Some n) (sym same) ∙ e
new-last None told now false k k' at h new same now-is e = absurd (cc)

none-plus : (n : ℕ) → 0 + n ≡ n
none-plus n = omega arith

-- a name that is not there yet, with its place set
pub push-new : (g now : List ℕ → Option ℕ) (names : List (List ℕ)) (last : List ℕ) → Tells g names → is_some (position last names) ≡ false
    → ((q : List ℕ) → now q ≡ update bytes_eq g last (Some (length names)) q) → Tells now (names ++ last ∷ [])
push-new g now names last tells new now-is name at e =
    new-last (position name names) (g name) (now name) (bytes_eq last name) (0 + length names) (length names) at (tells name)
    (λ same. ap (λ n. is_some (position n names)) (sym ((bytes_eq-Decides last name).0 same)) ∙ new) (none-plus (length names)) (now-is name)
    (sym (push-place 0 name last names) ∙ e)

kept-place : (place told now : Option ℕ) (last : Bool) (k at : ℕ) → (place ≡ Some at → told ≡ Some at) → (last ≡ true → is_some place ≡ false) → now ≡ cond last (Some k) told → place ≡ Some at → now ≡ Some at
kept-place (Some i) told now true k at h new now-is e = absurd (let no : true ≡ false = new refl in cc)
kept-place None told now true k at h new now-is e = absurd (cc)
kept-place place told now false k at h new now-is e = now-is ∙ h e

-- with the place of a name set that does not follow
pub set-new : (g now : List ℕ → Option ℕ) (names : List (List ℕ)) (last : List ℕ) (k : ℕ) → Tells g names → is_some (position last names) ≡ false
    → ((q : List ℕ) → now q ≡ update bytes_eq g last (Some k) q) → Tells now names
set-new g now names last k tells new now-is name at e =
    kept-place (position name names) (g name) (now name) (bytes_eq last name) k at (tells name at)
    (λ same. ap (λ n. is_some (position n names)) (sym ((bytes_eq-Decides last name).0 same)) ∙ new) (now-is name) e

-- ---- fewer names

fewer-if : (b : Bool) (n at : ℕ) (rest rest' : Option ℕ) → (rest' ≡ Some at → rest ≡ Some at) → (if b then Some n else rest') ≡ Some at → (if b then Some n else rest) ≡ Some at
fewer-if true n at rest rest' h e = e
fewer-if false n at rest rest' h e = h e

fewer-place : (n at : ℕ) (name : List ℕ) (names more : List (List ℕ)) → position_from n name names ≡ Some at → position_from n name (names ++ more) ≡ Some at
fewer-place n at name [] more e = absurd (cc)
fewer-place n at name (x ∷ names) more e =
    fewer-if (bytes_eq x name) n at (position_from (n + 1) name (names ++ more)) (position_from (n + 1) name names) (fewer-place (n + 1) at name names more) e

-- the first of the names
pub fewer : (g : List ℕ → Option ℕ) (names few more : List (List ℕ)) → names ≡ few ++ more → Tells g names → Tells g few
fewer g names few more e tells name at is = tells name at (ap (position name) e ∙ fewer-place 0 at name few more is)

-- a push that may be refused
pub pushed : {E : Type 0} (r : Result Unit E) (g : List ℕ → Option ℕ) (names now : List (List ℕ)) (last : List ℕ) → OnOk r (now ≡ names ++ last ∷ []) → OnErr r (now ≡ names)
    → Tells g names → Tells g (names ++ last ∷ []) → Tells g now
pushed (Ok u) g names now last ok err kept next = subst (Tells g) (sym ok) next
pushed (Err e) g names now last ok err kept next = subst (Tells g) (sym err) kept

-- what holds where a call succeeds
pub on-ok : {E : Type 0} {A B : Type 0} (r : Result Unit E) → (A → B) → OnOk r A → OnOk r B
on-ok (Ok u) f a = f a
on-ok (Err e) f a = tt
