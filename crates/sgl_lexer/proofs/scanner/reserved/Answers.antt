use Rattle.std.proofs.Common.{◌∙◌, ap, sym, arith}
use Rattle.sgl_lexer.specs.Kinds.{word_text}
use Rattle.sgl_lexer.proofs.Finding.{place}
use Rattle.sgl_lexer.proofs.WordTable.{all_words, word_at}
use Rattle.sgl_lexer.proofs.scanner.reserved.Goals as goal

pub returns-clause-none : goal.returns-clause-none
returns-clause-none c = λ w same.
    let stands = word_at w in
    c.loop-word.invariant (place word_text all_words w) (omega arith) (same ∙ ap word_text (sym stands.0))
