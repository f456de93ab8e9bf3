-- The text of a name is text.
use Rattle.std.proofs.Common.{◌≡◌, ℕ, ◌-◌, ◌<◌, true, List, length, take, drop, get_or, arith, subst}
use Rattle.std.proofs.lemmas.Bool.Decides.{nat_tests}
use Rattle.std.proofs.lemmas.Str.{IsUtf8-from_ascii}
use Rattle.std.proofs.lemmas.Str.Ascii.{IsAscii-from_reads}
use Rattle.std.specs.Str.{IsUtf8}
use Rattle.sgl_lexer.specs.Kinds.{continues_name, IsNameText, IsOfKind}
use Rattle.sgl_lexer.specs.Slices.{IsSliceOf}
use Rattle.sgl_lexer.specs.declared.lexeme.Token.{Token}
use Rattle.sgl_lexer.specs.declared.lexeme.TokenKind.TheVariants as kinds

continues_ascii : (b : ℕ) → continues_name b ≡ true → b < 128
continues_ascii b h = grind (arith, nat_tests)

name_text_is_text : (bytes : List ℕ) → IsNameText bytes → IsUtf8 bytes
name_text_is_text bytes h = IsUtf8-from_ascii bytes (IsAscii-from_reads bytes (length bytes) (omega arith) (λ k lt. continues_ascii (get_or bytes k 0) (h.2 k 0 lt)))

-- the bytes of a name are text
pub name_is_text : {text : List ℕ} {t : Token} → IsSliceOf text t → t.kind ≡ kinds.Name → IsUtf8 (take (t.end - t.start) (drop t.start text))
name_is_text {text} {t} s kind = name_text_is_text (take (t.end - t.start) (drop t.start text)) (subst (IsOfKind (take (t.end - t.start) (drop t.start text))) kind s.kind).0
