use Rattle.std.proofs.Common.{arith}
use Rattle.sgl_outside.proofs.Writes.{rose_later}
use Rattle.unit_csv.specs.Lines.{row_text}
use Rattle.unit_csv.proofs.WorldLines.{cut_more, wrote_more}
use Rattle.unit_csv.proofs.write.write_rows.Goals as goal

pub returns-in-Err : goal.returns-in-Err
returns-in-Err g c =
    let held = c.loop-row.invariant in
    let cut = c.in-Err.ensures.cut in
    record {
      later = omega (arith, held.later, c.in-Err.ensures.later);
      whole = tt;
      cut = (rose_later _ _ _ held.later cut.0, cut_more row_text c.args.world.now.world.rows _ _ _ c.loop-row.row _ (omega arith) held.wrote cut.1);
    }

pub loop-row-preserved : goal.loop-row-preserved
loop-row-preserved g c =
    let held = c.loop-row.invariant in
    record {
      wrote = wrote_more row_text c.args.world.now.world.rows _ _ _ c.loop-row.row _ (omega arith) held.wrote c.in-Ok.ensures.whole;
      later = omega (arith, held.later, c.in-Ok.ensures.later);
    }
