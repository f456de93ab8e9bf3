use Rattle.std.proofs.Common.{arith, []}
use Rattle.std.proofs.lemmas.List.{get_or_read}
use Rattle.env_table.proofs.Rows.{length-rows_of, key-rows_of}
use Rattle.env_table.proofs.table.World.key.Goals as goal

pub index-requires : goal.index-requires
index-requires c =
    let a = c.self.inside.arrays in
    let inside = rw (← c.self.view_is) at c.requires in
    omega (arith, inside, length-rows_of a.keys.items a.width a.values.items)

pub returns : goal.returns
returns c =
    let a = c.self.inside.arrays in
    let inside = rw (← c.self.view_is) at c.requires in
    rw (← c.self.view_is, key-rows_of a.keys.items a.width a.values.items c.args.row record { key = 0; values = [] })
    (get_or_read a.keys.items c.args.row _ (omega (arith, inside, length-rows_of a.keys.items a.width a.values.items)) c.index.ensures 0)
