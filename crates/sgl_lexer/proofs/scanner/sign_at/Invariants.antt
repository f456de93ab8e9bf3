use Rattle.std.proofs.Common.{ℕ, ◌<◌, get_or}
use Rattle.sgl_lexer.specs.Kinds.{sign_text, Begins}
use Rattle.sgl_lexer.specs.declared.vocabulary.Sign.TheVariants.{NotEqual}
use Rattle.sgl_lexer.proofs.scanner.sign_at.Given as goal

abbrev pub invariant-loop-sign : goal.invariant-loop-sign
invariant-loop-sign l = (k : ℕ) → k < l.sign-index → Begins (sign_text (get_or l.sign-items k NotEqual)) l.text → ⊥
