use Rattle.std.proofs.Common.{arith}
use Rattle.env_table.proofs.Rows.{length-rows_of}
use Rattle.env_table.proofs.table.World.len.Goals as goal

pub returns-clause-value : goal.returns-clause-value
returns-clause-value c =
    let a = c.self.inside.arrays in
    rw (← c.self.view_is) (omega (arith, length-rows_of a.keys.items a.width a.values.items))
