use Rattle.sgl_values.specs.declared.fault.Tag.TheVariants.{Sum, Min, Max, Top}
use Rattle.effect_board.proofs.Giving.{gives_at}
use Rattle.effect_board.proofs.handles.EffectBoard.share.Goals as goal

pub fetch_add-requires : goal.fetch_add-requires
fetch_add-requires c = gives_at c.args.self.now c.args.seat.now c.args.word c.args.amount Sum c.args.tag c.requires.of c.requires.inside c.requires.not_own c.requires.tag c.in-Sum.is

pub fetch_min-requires : goal.fetch_min-requires
fetch_min-requires c = gives_at c.args.self.now c.args.seat.now c.args.word c.args.amount Min c.args.tag c.requires.of c.requires.inside c.requires.not_own c.requires.tag c.in-Min.is

pub fetch_max-requires : goal.fetch_max-requires
fetch_max-requires c = gives_at c.args.self.now c.args.seat.now c.args.word c.args.amount Max c.args.tag c.requires.of c.requires.inside c.requires.not_own c.requires.tag c.in-Max.is

pub fetch_max-requires-in-Top : goal.fetch_max-requires-in-Top
fetch_max-requires-in-Top c = gives_at c.args.self.now c.args.seat.now c.args.word c.args.amount Top c.args.tag c.requires.of c.requires.inside c.requires.not_own c.requires.tag c.in-Top.is
