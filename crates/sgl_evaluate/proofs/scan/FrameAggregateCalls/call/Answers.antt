use Rattle.sgl_evaluate.specs.Frame.{context_of}
use Rattle.sgl_evaluate.proofs.Sixteen.{calls_read_sixteen}
use Rattle.sgl_evaluate.proofs.scan.FrameAggregateCalls.call.Goals as goal

pub returns-in-Some-clause-sixteen : goal.returns-in-Some-clause-sixteen
returns-in-Some-clause-sixteen c given = calls_read_sixteen (context_of c.args.self.now) c.args.agg given
