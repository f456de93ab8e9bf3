use Rattle.sgl_parser.proofs.Returns.{token_missing}
use Rattle.std.proofs.Common.{ap, length, arith}
use Rattle.sgl_parser.proofs.Sequences.{done_finishes, done_passes}
use Rattle.sgl_parser.proofs.Parts.{pass_behind, absent, anywhere, not_here}
use Rattle.sgl_parser.proofs.SoFar.{none_read, more_behind, breaks_behind, all_read}
use Rattle.sgl_parser.specs.Shape.{kinds_of}
use Rattle.sgl_parser.specs.Scripts.{one_name}
use Rattle.sgl_parser.proofs.reading.Reader.more_names.Goals as goal

pub names-init : goal.names-init
names-init c = none_read c.requires

pub names-preserved : goal.names-preserved
names-preserved c =
    more_behind c.names.invariant (anywhere _ _) (λ zs e. cc) c.in-Some.ensures.list c.in-Some.ensures.kind
    (pass_behind c.in_ok-name.ensures.list c.in_ok-name.ensures.kind (done_passes (kinds_of c.in_ok-name.behind.now)))
    (rw (c.in_ok-name.ensures.list, c.in_ok-name-2.ensures.name) (one_name c.in-Some.ensures.kind c.in_ok-name.ensures.kind))
    (omega (arith, ap length c.in_ok-name.ensures.list)) (rw c.in_ok-name.ensures.list at (rw c.in-Some.ensures.list at c.names.invariant.of).1).1 c.in_ok-push.ensures.ok

pub returns : goal.returns
returns c = all_read c.names.invariant (not_here c.names.rest.now c.in_default.ensures.none)

pub returns-in_err-name : goal.returns-in_err-name
returns-in_err-name c = token_missing c.from_residual.result _ c.from_residual.ensures.1 c.in_err-name.ensures.err.0 (breaks_behind c.names.invariant (anywhere _ _) (λ zs e. cc) c.in-Some.ensures.list c.in-Some.ensures.kind _ (absent c.in-Some.after.now done_finishes c.in_err-name.ensures.err.1))
