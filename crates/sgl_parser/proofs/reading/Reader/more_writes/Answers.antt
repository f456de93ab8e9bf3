use Rattle.sgl_parser.proofs.Returns.{part_broken}
use Rattle.std.proofs.Common.{arith}
use Rattle.sgl_parser.proofs.Sequences.{many_breaks}
use Rattle.sgl_parser.proofs.Parts.{anywhere, goes_here, at_none}
use Rattle.sgl_parser.proofs.SoFar.{none_read, more_read, all_read}
use Rattle.sgl_parser.specs.Shape.{kinds_of}
use Rattle.sgl_lexer.specs.declared.lexeme.TokenKind.TheVariants as kinds
use Rattle.sgl_parser.proofs.reading.Reader.more_writes.Goals as goal

pub writes-init : goal.writes-init
writes-init c = none_read c.requires

pub writes-preserved : goal.writes-preserved
writes-preserved c =
    more_read c.writes.invariant (anywhere _ _)
    (goes_here kinds.Name c.writes.rest.now (c.stands_at.ensures.here c.writes-test.true))
    c.in_ok-write.ensures.passes
    c.in_ok-write.ensures.spells
    (omega (arith, c.in_ok-write.ensures.shorter)) c.in_ok-write.ensures.of c.in_ok-push.ensures.ok

pub returns : goal.returns
returns c = all_read c.writes.invariant (at_none kinds.Name _ (kinds_of c.writes.rest.now) (c.stands_at.ensures.not_here c.writes-test.false))

pub returns-in_err-write : goal.returns-in_err-write
returns-in_err-write c = part_broken c.from_residual.result _ _ c.from_residual.ensures.1 (λ n f. many_breaks (anywhere _ _) c.writes.invariant.threads (goes_here kinds.Name c.writes.rest.now (c.stands_at.ensures.here c.writes-test.true)) n f) c.in_err-write.ensures
