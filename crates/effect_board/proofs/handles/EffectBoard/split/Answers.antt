use Rattle.std.proofs.Common.{arith}
use Rattle.effect_board.specs.Views.{table_rows}
use Rattle.effect_board.proofs.Keeping.{splits}
use Rattle.effect_board.proofs.handles.EffectBoard.split.Goals as goal

pub split_seat-place-requires : goal.split_seat-place-requires
split_seat-place-requires c =
    let key = c.args.self.now.table.shared.key in
    let place = c.args.seat.now.place in
    let counts = c.args.self.now.words in (
      c.requires.of.table,
      omega (arith, counts),
      splits key.tasks (table_rows key.alone key.rows) key.tags.items place.id place.me.0 c.args.seat.now.lives c.requires.may,
    )
