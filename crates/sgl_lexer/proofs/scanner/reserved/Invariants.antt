use Rattle.std.proofs.Common.{◌≡◌, ℕ, ◌<◌, get_or}
use Rattle.sgl_lexer.specs.Kinds.{word_text}
use Rattle.sgl_lexer.specs.declared.vocabulary.Word.TheVariants.{Attr}
use Rattle.sgl_lexer.proofs.scanner.reserved.Given as goal

abbrev pub invariant-loop-word : goal.invariant-loop-word
invariant-loop-word l = (k : ℕ) → k < l.word-index → l.name ≡ word_text (get_or l.word-items k Attr) → ⊥
