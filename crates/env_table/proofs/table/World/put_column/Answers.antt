use Rattle.std.proofs.Common.{◌≡◌, ◌<◌, ◌+◌, ◌*◌, ◌∙◌, pos, length, get_or, [], ap, sym, arith}
use Rattle.std.proofs.Math.Nat.{add-mul}
use Rattle.std.proofs.lemmas.List.{get_or_append_left, length-take-le}
use Rattle.std.proofs.lemmas.Nat.{mul-add-lt}
use Rattle.env_table.proofs.Rows.{length-rows_of, value-rows_of}
use Rattle.env_table.proofs.table.World.put_column.Goals as goal

pub take_each-requires-clause-inside : goal.take_each-requires-clause-inside
take_each-requires-clause-inside c k lt =
    let a = c.self.inside.arrays in
    let rows = rw (← c.self.view_is) at c.len.ensures.value in
    let attr = rw (← c.self.view_is) at c.requires in
    let below : k < c.min-count.result = omega (arith, lt, c.min-count.ensures, length-take-le c.min-count.result c.args.column.now (omega (arith, c.min-count.ensures))) in
    let inside : c.args.first + k < length a.keys.items =
    omega (arith, below, c.min-count.ensures, c.saturating_sub-rows.ensures, rows, length-rows_of a.keys.items a.width a.values.items) in
    omega (arith, c.self.invariant.full, mul-add-lt (c.args.first + k) a.width c.args.attr (length a.keys.items) inside attr, add-mul c.args.first k a.width, ap length c.as_slice.ensures.value)

pub returns-clause-put : goal.returns-clause-put
returns-clause-put c k lt row =
    let a = c.self.inside.arrays in
    let column = c.args.column.now in
    let attr = rw (← c.self.view_is) at c.requires in
    let rows = rw (← c.self.view_is) at row in
    let count = rw (← c.self.view_is) at c.len.ensures.value in
    let inside : c.args.first + k < length a.keys.items = omega (arith, rows, length-rows_of a.keys.items a.width a.values.items) in
    let below : k < c.min-count.result = omega (arith, lt, rows, count, c.min-count.ensures, c.saturating_sub-rows.ensures) in
    let front : k < length c.take_each.new.out = omega (arith, below, c.take_each.ensures.length, length-take-le c.min-count.result column (omega (arith, c.min-count.ensures))) in
    let place : c.args.first * a.width + c.args.attr + k * a.width ≡ (c.args.first + k) * a.width + c.args.attr = omega (arith, add-mul c.args.first k a.width) in
    rw (← c.self.view_is)
    (get_or_append_left c.take_each.new.out _ (pos 0) k front
    ∙ c.take_each.ensures.put k (pos 0) (omega (arith, front, c.take_each.ensures.length))
    ∙ ap (λ vs. get_or vs (c.args.first * a.width + c.args.attr + k * a.width) (pos 0)) c.as_slice.ensures.value
    ∙ ap (λ n. get_or a.values.items n (pos 0)) place
    ∙ sym (value-rows_of a.keys.items a.width a.values.items (c.args.first + k) record { key = 0; values = [] } c.args.attr (pos 0) inside attr))
