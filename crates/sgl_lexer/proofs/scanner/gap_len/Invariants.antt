use Rattle.std.proofs.Common.{◌≡◌, ◌+◌, drop, cond}
use Rattle.sgl_lexer.specs.Lexing.{gap_len, comment_len}
use Rattle.sgl_lexer.proofs.scanner.gap_len.Given as goal

abbrev pub invariant-loop-len : goal.invariant-loop-len
invariant-loop-len l = l.len + cond l.in_comment (comment_len (drop l.len l.text)) (gap_len (drop l.len l.text)) ≡ gap_len l.text
