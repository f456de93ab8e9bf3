use Rattle.sgl_evaluate.specs.Rights.{right_of}
use Rattle.sgl_evaluate.proofs.Steps.{filled_at}
use Rattle.sgl_evaluate.proofs.rights.Rights.one.Goals as goal

pub returns : goal.returns
returns c = λ context tests test rights inside.
    filled_at (right_of context) tests c.args.self.now.numbers c.args.number test c.index-self-number.result rights c.requires inside
