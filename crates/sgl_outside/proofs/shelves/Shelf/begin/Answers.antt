use Rattle.sgl_outside.proofs.LeftBytes.{begins_at}
use Rattle.std.proofs.Common.{rules}
use Rattle.sgl_outside.proofs.shelves.Shelf.begin.Goals as goal

pub returns-in-Some-clause-found : goal.returns-in-Some-clause-found
returns-in-Some-clause-found c = λ _. begins_at c.args.self.now.files c.args.name.now c.in-Some.place (search rules)
