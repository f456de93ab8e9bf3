-- What stands at the place of a name in a list of definitions or locals.
use Rattle.std.proofs.Common.{◌≡◌, ℕ, ◌+◌, ◌<◌, ◌≤◌, Bool, true, false, List, [], ◌∷◌, length, map, slice_get, bytes_eq, Option, Some, None, if◌then◌else◌, suc, refl, ap, sym, subst, ◌∙◌, arith}
use Rattle.sgl_types.specs.declared.bodies.Local.{Local}
use Rattle.sgl_types.specs.declared.declared.Definition.{Definition}
use Rattle.sgl_types.specs.Index.{position_from, position}
use Rattle.sgl_types.specs.Scope.{definition_from, definition_of, find_local}
use Rattle.sgl_types.proofs.Fronts.{position-below}
use Rattle.sgl_types.proofs.PostFits.{above_itself, position_from-low}

first-only : (n k : ℕ) → n + suc k ≡ n → ⊥
first-only n k e = omega arith

-- ---- entries of any sort

-- what is made of the first entry of a name and its number; the first entry has this number
abbrev first_named : {A B : Type 0} → (A → List ℕ) → (ℕ → A → B) → ℕ → List ℕ → List A → Option B
first_named name_of make n name [] = None
first_named name_of make n name (x ∷ xs) = if bytes_eq (name_of x) name then Some (make n x) else first_named name_of make (n + 1) name xs

none-if : {B : Type 0} (b : Bool) (n : ℕ) (made : B) (place : Option ℕ) (rest : Option B) → (place ≡ None → rest ≡ None) → (if b then Some n else place) ≡ None → (if b then Some made else rest) ≡ None
none-if true n made place rest h e = absurd (cc)
none-if false n made place rest h e = h e

none-named : {A B : Type 0} (name_of : A → List ℕ) (make : ℕ → A → B) (n : ℕ) (name : List ℕ) (xs : List A) → position_from n name (map name_of xs) ≡ None → first_named name_of make n name xs ≡ None
none-named name_of make n name [] e = refl
none-named name_of make n name (x ∷ xs) e =
    none-if (bytes_eq (name_of x) name) n (make n x) (position_from (n + 1) name (map name_of xs)) (first_named name_of make (n + 1) name xs) (none-named name_of make (n + 1) name xs) e

here-if : {A B : Type 0} (make : ℕ → A → B) (b : Bool) (n i : ℕ) (x found : A) (place : Option ℕ) (rest : Option B) → i ≡ n + 0 → x ≡ found → (place ≡ Some i → n + 1 ≤ i)
    → (if b then Some n else place) ≡ Some i → (if b then Some (make n x) else rest) ≡ Some (make i found)
here-if make true n i x found place rest is same low e = let first : n ≡ i = cc in λ j. Some (make (first j) (same j))
here-if make false n i x found place rest is same low e = absurd (let first : n ≡ i = omega arith in above_itself n i first (low e))

there-if : {A B : Type 0} (make : ℕ → A → B) (b : Bool) (n i k : ℕ) (x found : A) (place : Option ℕ) (rest : Option B) → i ≡ n + suc k → (place ≡ Some i → rest ≡ Some (make i found))
    → (if b then Some n else place) ≡ Some i → (if b then Some (make n x) else rest) ≡ Some (make i found)
there-if make true n i k x found place rest is h e = absurd (let first : n ≡ i = cc in first-only n k (sym is ∙ sym first))
there-if make false n i k x found place rest is h e = h e

some-named : {A B : Type 0} (name_of : A → List ℕ) (make : ℕ → A → B) (n i k : ℕ) (name : List ℕ) (xs : List A) (found : A) → i ≡ n + k → slice_get xs k ≡ Some found
    → position_from n name (map name_of xs) ≡ Some i → first_named name_of make n name xs ≡ Some (make i found)
some-named name_of make n i k name [] found is here e = absurd (cc)
some-named name_of make n i ℕ.zero name (x ∷ xs) found is here e =
    here-if make (bytes_eq (name_of x) name) n i x found (position_from (n + 1) name (map name_of xs)) (first_named name_of make (n + 1) name xs) is (cc) (position_from-low (n + 1) name (map name_of xs) i) e
some-named name_of make n i (ℕ.suc k) name (x ∷ xs) found is here e =
    let next : i ≡ (n + 1) + k = omega arith in
    there-if make (bytes_eq (name_of x) name) n i k x found (position_from (n + 1) name (map name_of xs)) (first_named name_of make (n + 1) name xs) is (some-named name_of make (n + 1) i k name xs found next here) e

long : {A B : Type 0} (f : A → B) (xs : List A) → length (map f xs) ≡ length xs
long f [] = refl
long f (x ∷ xs) = ap suc (long f xs)

past : {A : Type 0} (xs : List A) (k : ℕ) → slice_get xs k ≡ None → length xs ≤ k
past [] k e = omega arith
past (x ∷ xs) ℕ.zero e = absurd (cc)
past (x ∷ xs) (ℕ.suc k) e = let le : length xs ≤ k = past xs k e in omega arith

not-both : (a b : ℕ) → a < b → b ≤ a → ⊥
not-both a b lt le = omega arith

-- an entry stands at the place of a name
some-stands : {A : Type 0} (name_of : A → List ℕ) (at : ℕ) (name : List ℕ) (xs : List A) → slice_get xs at ≡ None → position name (map name_of xs) ≡ Some at → ⊥
some-stands name_of at name xs none e = not-both at (length xs) (subst (λ n. at < n) (long name_of xs) (position-below name (map name_of xs) at e)) (past xs at none)

-- ---- definitions

definition-named : (n : ℕ) (name : List ℕ) (ds : List Definition) → first_named (λ d. d.name) (λ number d. (number, d.params)) n name ds ≡ definition_from n name ds
definition-named n name [] = refl
definition-named n name (d ∷ ds) = ap (λ rest. if bytes_eq d.name name then Some (n, d.params) else rest) (definition-named (n + 1) name ds)

pub no-definition : (name : List ℕ) (ds : List Definition) → position name (map (λ d. d.name) ds) ≡ None → definition_of name ds ≡ None
no-definition name ds e = sym (definition-named 0 name ds) ∙ none-named (λ d. d.name) (λ number d. (number, d.params)) 0 name ds e

pub definition-at : (at : ℕ) (name : List ℕ) (ds : List Definition) (found : Definition) → slice_get ds at ≡ Some found → position name (map (λ d. d.name) ds) ≡ Some at → definition_of name ds ≡ Some (at, found.params)
definition-at at name ds found here e = sym (definition-named 0 name ds) ∙ some-named (λ d. d.name) (λ number d. (number, d.params)) 0 at at name ds found (omega arith) here e

pub some-definition : (at : ℕ) (name : List ℕ) (ds : List Definition) → slice_get ds at ≡ None → position name (map (λ d. d.name) ds) ≡ Some at → ⊥
some-definition = some-stands (λ d. d.name)

-- ---- locals

local-named : (n : ℕ) (name : List ℕ) (ls : List Local) → first_named (λ l. l.name) (λ number l. l) n name ls ≡ find_local name ls
local-named n name [] = refl
local-named n name (l ∷ ls) = ap (λ rest. if bytes_eq l.name name then Some l else rest) (local-named (n + 1) name ls)

pub no-local : (name : List ℕ) (ls : List Local) → position name (map (λ l. l.name) ls) ≡ None → find_local name ls ≡ None
no-local name ls e = sym (local-named 0 name ls) ∙ none-named (λ l. l.name) (λ number l. l) 0 name ls e

pub local-at : (at : ℕ) (name : List ℕ) (ls : List Local) → position name (map (λ l. l.name) ls) ≡ Some at → slice_get ls at ≡ find_local name ls
local-at at name ls e = step (slice_get ls at) refl
  where
    step : (o : Option Local) → slice_get ls at ≡ o → o ≡ find_local name ls
    step None none = absurd (some-stands (λ l. l.name) at name ls none e)
    step (Some found) here = sym (some-named (λ l. l.name) (λ number l. l) 0 at at name ls found (omega arith) here e) ∙ local-named 0 name ls
