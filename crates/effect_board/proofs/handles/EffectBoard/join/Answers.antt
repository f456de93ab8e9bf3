use Rattle.std.proofs.Common.{arith}
use Rattle.effect_board.specs.Views.{table_rows}
use Rattle.effect_board.proofs.Keeping.{joins}
use Rattle.effect_board.proofs.handles.EffectBoard.join.Goals as goal

pub join_seat-requires : goal.join_seat-requires
join_seat-requires c =
    let key = c.args.self.now.table.shared.key in
    let into = c.args.into.now in
    let from = c.args.from in
    let counts = c.args.self.now.words in (
      c.requires.of.0.table,
      c.requires.of.1.table,
      from.bare,
      omega (arith, counts),
      joins key.tasks (table_rows key.alone key.rows) key.tags.items into.place.id into.place.me.0 from.place.id from.place.me.0 into.lives from.lives c.requires.later,
    )
