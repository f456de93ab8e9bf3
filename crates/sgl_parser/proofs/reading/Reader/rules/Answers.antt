use Rattle.sgl_parser.proofs.Returns.{part_broken}
use Rattle.std.proofs.Common.{arith}
use Rattle.sgl_parser.proofs.Sequences.{many_breaks}
use Rattle.sgl_parser.proofs.Parts.{anywhere, goes_here, at_none}
use Rattle.sgl_parser.proofs.SoFar.{none_read, more_read, all_read}
use Rattle.sgl_parser.specs.Shape.{kinds_of}
use Rattle.sgl_lexer.specs.declared.lexeme.TokenKind.TheVariants as kinds
use Rattle.sgl_parser.proofs.reading.Reader.rules.Goals as goal

pub rules-init : goal.rules-init
rules-init c = rw c.new-rules.ensures (none_read c.requires)

pub rules-preserved : goal.rules-preserved
rules-preserved c =
    more_read c.rules.invariant (anywhere _ _)
    (goes_here kinds.Name c.rules.rest.now (c.stands_at.ensures.here c.rules-test.true))
    c.in_ok-assigned.ensures.passes
    c.in_ok-assigned.ensures.spells.1
    (omega (arith, c.in_ok-assigned.ensures.shorter)) c.in_ok-assigned.ensures.of c.in_ok-push.ensures.ok

pub returns : goal.returns
returns c =
    let all = all_read c.rules.invariant (at_none kinds.Name _ (kinds_of c.rules.rest.now) (c.stands_at.ensures.not_here c.rules-test.false)) in
    record { passes = all.passes; spells = rw c.rules.invariant.is c.rules.invariant.spelt; shorter = all.shorter; of = all.of }

pub returns-in_err-assigned : goal.returns-in_err-assigned
returns-in_err-assigned c = part_broken c.from_residual.result _ _ c.from_residual.ensures.1 (λ n f. many_breaks (anywhere _ _) c.rules.invariant.threads (goes_here kinds.Name c.rules.rest.now (c.stands_at.ensures.here c.rules-test.true)) n f) c.in_err-assigned.ensures
