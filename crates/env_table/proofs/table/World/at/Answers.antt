use Rattle.std.proofs.Common.{◌<◌, ◌+◌, ◌*◌, arith, length, [], pos}
use Rattle.std.proofs.lemmas.List.{get_or_read}
use Rattle.std.proofs.lemmas.Nat.{mul-add-lt}
use Rattle.env_table.proofs.Rows.{length-rows_of, value-rows_of}
use Rattle.env_table.proofs.table.World.at.Goals as goal

pub index-requires : goal.index-requires
index-requires c =
    let a = c.self.inside.arrays in
    let row = rw (← c.self.view_is) at c.requires.row in
    let attr = rw (← c.self.view_is) at c.requires.attr in
    let inside : c.args.row < length a.keys.items = omega (arith, row, length-rows_of a.keys.items a.width a.values.items) in
    omega (arith, c.self.invariant.full, mul-add-lt c.args.row a.width c.args.attr (length a.keys.items) inside attr)

pub returns : goal.returns
returns c =
    let a = c.self.inside.arrays in
    let row = rw (← c.self.view_is) at c.requires.row in
    let attr = rw (← c.self.view_is) at c.requires.attr in
    let inside : c.args.row < length a.keys.items = omega (arith, row, length-rows_of a.keys.items a.width a.values.items) in
    let place : c.args.row * a.width + c.args.attr < length a.values.items =
    omega (arith, c.self.invariant.full, mul-add-lt c.args.row a.width c.args.attr (length a.keys.items) inside attr) in
    rw (← c.self.view_is)
    (rw (value-rows_of a.keys.items a.width a.values.items c.args.row record { key = 0; values = [] } c.args.attr (pos 0) inside attr)
    (get_or_read a.values.items _ _ place c.index.ensures (pos 0)))
