-- Totals of lists, by an operation on any type.
use Rattle.std.specs.Prelude.{◌≡◌, List, [], ◌∷◌}

abbrev pub IsAssociative : {B : Type 0} → (B → B → B) → Type 0
IsAssociative {B} op = (a b c : B) → op (op a b) c ≡ op a (op b c)

abbrev pub IsCommutative : {B : Type 0} → (B → B → B) → Type 0
IsCommutative {B} op = (a b : B) → op a b ≡ op b a

-- what the elements come to, each joined by the operation, with a value at the end
abbrev pub total : {A B : Type 0} → (B → B → B) → B → (A → B) → List A → B
total op end worth [] = end
total op end worth (x ∷ xs) = op (worth x) (total op end worth xs)
