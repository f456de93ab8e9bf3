use Rattle.std.proofs.Common.{◌∙◌, length, arith}
use Rattle.env_table.proofs.Columns.{column_more}
use Rattle.env_table.proofs.arrays.put_rows_of.Goals as goal

pub loop-attr-preserved : goal.loop-attr-preserved
loop-attr-preserved c =
    let inv = c.loop-attr.invariant in
    let put = c.put_each.ensures in
    let columns = c.args.columns.now in
    record {
      long = put.length ∙ inv.long;
      before = λ i d lt. put.other i d (λ k below same. absurd (omega (arith, lt, same))) ∙ inv.before i d lt;
      put =
          column_more c.loop-attr.values c.put_each.new.values columns c.index-columns-attr.result c.args.from (length columns) c.args.lane c.args.count c.loop-attr.attr
          c.loop-attr-test.true c.loop-attr-test.true c.index-columns-attr.is put.put put.other inv.put;
    }
