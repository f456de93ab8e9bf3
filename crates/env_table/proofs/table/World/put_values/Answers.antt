use Rattle.std.proofs.Common.{◌<◌, ◌*◌, ◌∙◌, arith, length, [], ap, sym}
use Rattle.env_table.proofs.Rows.{length-rows_of, part_of, row_ends, values-rows_of}
use Rattle.env_table.proofs.table.World.put_values.Goals as goal

pub slice_bounds-copy_from_slice-end : goal.slice_bounds-copy_from_slice-end
slice_bounds-copy_from_slice-end c =
    let a = c.self.inside.arrays in
    let row = rw (← c.self.view_is) at c.requires.row in
    let inside : c.args.row < length a.keys.items = omega (arith, row, length-rows_of a.keys.items a.width a.values.items) in
    let ends = row_ends (length a.keys.items) a.width c.args.row inside in
    omega (arith, c.self.invariant.full, ends, ap length c.deref.ensures.value)

pub returns : goal.returns
returns c =
    let a = c.self.inside.arrays in
    let row = rw (← c.self.view_is) at c.requires.row in
    let inside : c.args.row < length a.keys.items = omega (arith, row, length-rows_of a.keys.items a.width a.values.items) in
    rw (← c.self.view_is)
    (c.copy_from_slice.ensures.after
    ∙ part_of (c.args.row * a.width) a.width c.deref.result.now a.values.items c.deref.ensures.value
    ∙ sym (values-rows_of a.keys.items a.width a.values.items c.args.row record { key = 0; values = [] } inside))
