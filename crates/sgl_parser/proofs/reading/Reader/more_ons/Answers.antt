use Rattle.sgl_parser.proofs.Returns.{part_broken}
use Rattle.std.proofs.Common.{refl, arith}
use Rattle.sgl_parser.proofs.Parts.{anywhere, not_here}
use Rattle.sgl_parser.proofs.SoFar.{none_read, more_behind, breaks_behind, all_read}
use Rattle.sgl_parser.specs.Scripts.{one_on}
use Rattle.sgl_parser.proofs.reading.Reader.more_ons.Goals as goal

pub clauses-init : goal.clauses-init
clauses-init c = none_read c.requires

pub clauses-preserved : goal.clauses-preserved
clauses-preserved c =
    more_behind c.clauses.invariant (anywhere _ _) (λ zs s. s refl) c.in-Some.ensures.list c.in-Some.ensures.kind c.in_ok-on.ensures.passes
    (one_on c.in-Some.ensures.kind c.in_ok-on.ensures.spells) (omega (arith, c.in_ok-on.ensures.shorter)) c.in_ok-on.ensures.of c.in_ok-push.ensures.ok

pub returns : goal.returns
returns c = all_read c.clauses.invariant (not_here c.clauses.rest.now c.in_default.ensures.none)

pub returns-in_err-on : goal.returns-in_err-on
returns-in_err-on c = part_broken c.from_residual.result _ _ c.from_residual.ensures.1 (breaks_behind c.clauses.invariant (anywhere _ _) (λ zs s. s refl) c.in-Some.ensures.list c.in-Some.ensures.kind) c.in_err-on.ensures
