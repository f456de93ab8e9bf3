use Rattle.std.proofs.Common.{◌++◌}
use Rattle.sgl_outside.proofs.Writes.{writes_cut}
use Rattle.unit_csv.specs.Lines.{header_text, rows_text, tick_text}
use Rattle.unit_csv.proofs.WorldLines.{second_of_three, three_texts}
use Rattle.unit_csv.proofs.write.write_world.Goals as goal

pub returns-in-Ok-write_header : goal.returns-in-Ok-write_header
returns-in-Ok-write_header g c =
    three_texts _ _ _ _ _ _ _ _ (tick_text c.args.world.now.world.tick) (header_text c.args.schema.now.consts) (rows_text c.args.world.now.world.rows) _ _ _
    c.in-Ok.ensures c.in-Ok-write_header.ensures c.write_rows.ensures

pub returns-in-Err-write_header : goal.returns-in-Err-write_header
returns-in-Err-write_header g c =
    second_of_three _ _ _ _ _ _ (tick_text c.args.world.now.world.tick) (header_text c.args.schema.now.consts) (rows_text c.args.world.now.world.rows) _ _
    c.in-Ok.ensures c.in-Err-write_header.ensures

pub returns-in-Err : goal.returns-in-Err
returns-in-Err g c =
    writes_cut _ _ _ _ (tick_text c.args.world.now.world.tick) (header_text c.args.schema.now.consts ++ rows_text c.args.world.now.world.rows) _ _ c.in-Err.ensures
