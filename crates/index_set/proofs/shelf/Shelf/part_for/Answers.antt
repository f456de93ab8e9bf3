use Rattle.std.proofs.lemmas.Result.{on_ok_weaker}
use Rattle.index_set.proofs.Shelving.{grows_on, part_found}
use Rattle.index_set.proofs.shelf.Shelf.part_for.Goals as goal

pub returns-in-Some-clause-part : goal.returns-in-Some-clause-part
returns-in-Some-clause-part g c =
    part_found c.args.self.now c.in-Some.number c.args.attrs.now c.args.axes c.args.world.now.world.rows c.requires.shelf c.in-Some.ensures

pub returns-clause-grows : goal.returns-clause-grows
returns-clause-grows g c =
    on_ok_weaker c.add_part.result (grows_on c.args.self.now c.groups_for.new.self c.add_part.new.self c.in_ok-groups.ensures.grows) c.add_part.ensures.grows
