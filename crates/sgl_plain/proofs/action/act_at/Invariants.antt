use Rattle.std.proofs.Common.{drop}
use Rattle.sgl_typed.specs.Items.{writes}
use Rattle.sgl_evaluate.specs.Frame.{context_of}
use Rattle.sgl_plain.specs.Leads.{Leads}
use Rattle.sgl_plain.proofs.action.act_at.Given as goal

abbrev pub invariant-loop-write : goal.invariant-loop-write
invariant-loop-write l =
    Leads l.initial.out l.out (writes (context_of l.frame) l.frame.target (drop l.write-index l.writes)) (writes (context_of l.frame) l.frame.target l.writes)
