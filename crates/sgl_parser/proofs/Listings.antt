-- Lists that are read part by part.
use Rattle.std.proofs.Common.{◌≡◌, List, [], ◌∷◌, ◌++◌, ap, ◌∙◌, append_assoc}
use Rattle.sgl_lexer.specs.declared.lexeme.Token.{Token}
use Rattle.sgl_parser.specs.Scripts.{Listing, none, more}

-- one part more at the end
pub listing_more : {A : Type 0} {Part : List Token → List Token → A → Type 0} {ts us vs : List Token} {xs : List A} {x : A} → Listing Part ts us xs → Part us vs x → Listing Part ts vs (xs ++ x ∷ [])
listing_more none p = more p none
listing_more (more q qs) p = more q (listing_more qs p)

-- a list that went on by one, behind what was there before
pub list_more : {A : Type 0} {now new : List A} (before read : List A) (x : A) → now ≡ before ++ read → new ≡ now ++ x ∷ [] → new ≡ before ++ (read ++ x ∷ [])
list_more before read x e f = f ∙ ap (λ l. l ++ x ∷ []) e ∙ append_assoc before read (x ∷ [])

-- a list that begins with one element
pub first_and_more : {A : Type 0} {empty first all read : List A} {x : A} → empty ≡ [] → first ≡ empty ++ x ∷ [] → all ≡ first ++ read → all ≡ x ∷ read
first_and_more {read = read} {x = x} e f g = g ∙ ap (λ l. l ++ read) (f ∙ ap (λ l. l ++ x ∷ []) e)

-- a list that begins empty
pub only_more : {A : Type 0} {empty all read : List A} → empty ≡ [] → all ≡ empty ++ read → all ≡ read
only_more {read = read} e g = g ∙ ap (λ l. l ++ read) e
