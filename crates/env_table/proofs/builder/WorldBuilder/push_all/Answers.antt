use Rattle.std.proofs.Common.{◌≡◌, ◌≤◌, ◌-◌, ◌∙◌, ◌*◌, length, sym, ap, arith}
use Rattle.env_table.specs.Arrays.{table_of}
use Rattle.env_table.proofs.Rows.{length-rows_of}
use Rattle.env_table.proofs.Storing.{fits_append, room_append, stored_append, table_of-append}
use Rattle.env_table.proofs.builder.WorldBuilder.push_all.Goals as goal

pub put_rows-requires : goal.put_rows-requires
put_rows-requires c =
    let a = c.self.inside.arrays in
    let m = c.more.inside.arrays in
    let same : m.width ≡ a.width = sym (rw (← c.self.view_is, ← c.more.view_is) at c.requires.width) in
    let few = rw (← c.self.view_is, ← c.more.view_is) at c.requires.room in
    let fits : length m.keys.items ≤ c.self.inside.room = omega (arith, few, length-rows_of m.keys.items m.width m.values.items) in
    let has = fits_append a m c.self.inside.room c.more.invariant same fits c.self.invariant.1 in
    let full : length m.values.items ≡ length m.keys.items * a.width = c.more.invariant.full ∙ ap (λ w. length m.keys.items * w) same in
    record { keys = has.keys_fit; values = omega (arith, has.values_fit, full) }

pub invariant_of-self : goal.invariant_of-self
invariant_of-self c =
    let a = c.self.inside.arrays in
    let m = c.more.inside.arrays in
    let n = c.put_rows.new.self in
    let same : m.width ≡ a.width = sym (rw (← c.self.view_is, ← c.more.view_is) at c.requires.width) in
    let few = rw (← c.self.view_is, ← c.more.view_is) at c.requires.few in
    let room = rw (← c.self.view_is, ← c.more.view_is) at c.requires.room in
    let rising = rw (← c.self.view_is, ← c.more.view_is) at c.requires.rising in
    let below = rw (← c.self.view_is, ← c.more.view_is) at c.requires.below in
    let count = rw (← c.more.view_is) at c.len-count.ensures.value in
    let rows = length-rows_of a.keys.items a.width a.values.items in
    let others = length-rows_of m.keys.items m.width m.values.items in
    let fits : length m.keys.items ≤ c.self.inside.room = omega (arith, room, others) in
    let left : c.saturating_sub-self-inside.result ≡ c.self.inside.room - length m.keys.items = c.saturating_sub-self-inside.ensures ∙ ap (λ k. c.self.inside.room - k) (count ∙ others) in (
      stored_append a n m c.self.invariant.0 c.more.invariant same c.put_rows.ensures.added (omega (arith, few, rows, others)) rising below,
      rw left (room_append a n m c.self.inside.room c.more.invariant same c.put_rows.ensures.added c.put_rows.ensures.no_less fits c.self.invariant.1),
    )

pub returns : goal.returns
returns c =
    let a = c.self.inside.arrays in
    let m = c.more.inside.arrays in
    let same : m.width ≡ a.width = sym (rw (← c.self.view_is, ← c.more.view_is) at c.requires.width) in
    let count = rw (← c.more.view_is) at c.len-count.ensures.value in
    let left = c.saturating_sub-self-inside.ensures ∙ ap (λ k. c.self.inside.room - k) count in
    rw (← c.self.view_is, ← c.more.view_is, left)
    (ap (λ t. record { table = t; room = c.self.inside.room - length (table_of m).world.rows }) (table_of-append a c.put_rows.new.self m c.self.invariant.0 same c.put_rows.ensures.added))
