use Rattle.std.proofs.Common.{arith}
use mathlib.Core.Option.{none}
use Rattle.atomic_table.specs.Table.{step}
use Rattle.effect_board.specs.Views.{table_rows}
use Rattle.effect_board.proofs.Keeping.{claims}
use Rattle.effect_board.proofs.handles.EffectBoard.claim.Goals as goal

pub fetch_add-found-requires : goal.fetch_add-found-requires
fetch_add-found-requires c =
    let shared = c.args.self.now.table.shared in
    let place = c.args.seat.now.place in
    let counts = c.args.self.now.words in (
      c.requires.of.table,
      omega (arith, counts),
      claims shared.key.tasks (table_rows shared.key.alone shared.key.rows) shared.key.tags.items shared.table_id.slots place.id place.me.0 place.me.1 (step shared.table_id.slots 0 1 0 none) c.args.seat.now.lives c.requires.not_done,
    )
