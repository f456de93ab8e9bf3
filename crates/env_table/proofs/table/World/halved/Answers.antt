use Rattle.std.proofs.Common.{arith, [], Ok, Err}
use Rattle.std.proofs.lemmas.List.Sorted.{searched}
use Rattle.env_table.proofs.Rows.{length-rows_of, key-rows_of, keys_ascend, none_has_key, none_is}
use Rattle.env_table.proofs.table.World.halved.Goals as goal

pub returns-in-Ok-clause-inside : goal.returns-in-Ok-clause-inside
returns-in-Ok-clause-inside c =
    let a = c.self.inside.arrays in
    let bound = rw c.as_slice.ensures.value at c.in-Ok.ensures.bound in
    rw (← c.self.view_is) (omega (arith, bound, length-rows_of a.keys.items a.width a.values.items))

pub returns-in-Ok-clause-found : goal.returns-in-Ok-clause-found
returns-in-Ok-clause-found c =
    let a = c.self.inside.arrays in
    let result = rw c.as_slice.ensures.value at c.in-Ok.ensures.position in
    let ascend = keys_ascend a.keys.items a.width a.values.items 0 c.self.invariant.table.fits.rising in
    rw (← c.self.view_is, key-rows_of a.keys.items a.width a.values.items c.in-Ok.row record { key = 0; values = [] })
    (searched a.keys.items c.args.key (Ok c.in-Ok.row) result ascend).1

pub returns-in-Err-clause-missing : goal.returns-in-Err-clause-missing
returns-in-Err-clause-missing c =
    let a = c.self.inside.arrays in
    let result = rw c.as_slice.ensures.value at c.in-Err.ensures.position in
    let ascend = keys_ascend a.keys.items a.width a.values.items 0 c.self.invariant.table.fits.rising in
    let between = searched a.keys.items c.args.key (Err c.in-Err.field-0) result ascend in
    rw (← c.self.view_is) (none_has_key a.keys.items a.width a.values.items c.args.key
    (none_is a.keys.items c.args.key c.in-Err.field-0 between.1 between.2))
