-- The table of signs has each of them once, the longer ones first.
use Rattle.std.proofs.Common.{◌≡◌, ℕ, ◌<◌, ◌≤◌, List, [], ◌∷◌, length, get_or, refl, subst, false, arith}
use Rattle.std.proofs.lemmas.Grind.{common_steps}
use Rattle.std.specs.Prelude.{slice_index}
use Rattle.std.specs.Char.{is_ascii_digit}
use Rattle.sgl_lexer.specs.declared.vocabulary.Sign.{Sign}
use Rattle.sgl_lexer.specs.declared.vocabulary.Sign.TheVariants.{ParenOpen, ParenClose, BraceOpen, BraceClose, Comma, Semicolon, Dot, Plus, Minus, Star, Slash, Percent, Equal, NotEqual, Less, LessEqual, Greater, GreaterEqual, Arrow}
use Rattle.sgl_lexer.specs.Kinds.{sign_text, begins_name}
use Rattle.sgl_lexer.proofs.Finding.{place, Stands, nonempty, begins_otherwise, one_entry, falls_at}

-- the table of the code
abbrev pub all_signs : List Sign
all_signs = NotEqual ∷ LessEqual ∷ GreaterEqual ∷ Arrow ∷ ParenOpen ∷ ParenClose ∷ BraceOpen ∷ BraceClose ∷ Comma ∷ Semicolon ∷ Dot ∷ Plus ∷ Minus ∷ Star ∷ Slash ∷ Percent ∷ Equal ∷ Less ∷ Greater ∷ []

-- each sign stands in it
pub sign_at : (s : Sign) → Stands sign_text NotEqual all_signs s
sign_at s = (grind (arith, common_steps), grind (arith, common_steps))

-- a sign begins no name
pub sign_begins : (s : Sign) → begins_name (slice_index (sign_text s) 0) ≡ false
sign_begins = begins_otherwise sign_text NotEqual all_signs sign_at begins_name refl

-- a sign begins with no digit
pub sign_no_digit : (s : Sign) → is_ascii_digit (slice_index (sign_text s) 0) ≡ false
sign_no_digit = begins_otherwise sign_text NotEqual all_signs sign_at is_ascii_digit refl

-- a sign has a byte
pub sign_nonempty : (s : Sign) → 0 < length (sign_text s)
sign_nonempty = nonempty sign_text NotEqual all_signs sign_at refl

-- signs with one text are one
pub one_sign : (bytes : List ℕ) (s r : Sign) → bytes ≡ sign_text s → bytes ≡ sign_text r → s ≡ r
one_sign = one_entry sign_text NotEqual all_signs sign_at

-- no sign is longer than one before it
pub falling : (t : Sign) (i : ℕ) → i ≤ place sign_text all_signs t → length (sign_text t) ≤ length (sign_text (get_or all_signs i ParenOpen))
falling t i h = subst (λ s. length (sign_text s) ≤ length (sign_text (get_or all_signs i ParenOpen))) (sign_at t).0 (falls_at sign_text all_signs NotEqual ParenOpen refl i (place sign_text all_signs t) h (sign_at t).1)
