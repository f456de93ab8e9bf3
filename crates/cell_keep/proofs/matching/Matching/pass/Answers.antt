use Rattle.std.proofs.Common.{refl}
use Rattle.cell_keep.proofs.Sharing.{gone_one, taken_one}
use Rattle.cell_keep.proofs.matching.Matching.pass.Goals as goal

pub returns-then-is_next-clause-shared : goal.returns-then-is_next-clause-shared
returns-then-is_next-clause-shared c =
    taken_one c.args.self.now.taken.items c.push_reserved.new.self.items c.args.self.now.gone.items c.args.self.now.gone.items c.args.row c.push_reserved.ensures.items refl

pub returns-else-is_next-clause-shared : goal.returns-else-is_next-clause-shared
returns-else-is_next-clause-shared c =
    gone_one c.args.self.now.taken.items c.args.self.now.taken.items c.args.self.now.gone.items c.push_reserved-else-is_next.new.self.items c.args.row refl c.push_reserved-else-is_next.ensures.items
