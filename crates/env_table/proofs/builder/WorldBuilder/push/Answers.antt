use Rattle.std.proofs.Common.{◌≡◌, ◌<◌, ◌-◌, refl, ap, arith, length}
use Rattle.env_table.proofs.Rows.{length-rows_of}
use Rattle.env_table.proofs.Storing.{no_room, room_push, stored_push, table_of-push}
use Rattle.env_table.proofs.builder.WorldBuilder.push.Goals as goal

pub returns-then-len-clause-refused : goal.returns-then-len-clause-refused
returns-then-len-clause-refused c =
    let a = c.self.inside.arrays in
    rw (← c.self.view_is) (omega (arith, c.self.invariant.0.few, length-rows_of a.keys.items a.width a.values.items))

pub returns-then-key-last-clause-refused : goal.returns-then-key-last-clause-refused
returns-then-key-last-clause-refused c =
    let a = c.self.inside.arrays in
    rw (← c.self.view_is) record {
      few = omega (arith, length-rows_of a.keys.items a.width a.values.items);
      told = refl;
      not_above = c.if-key-last.true;
    }

pub returns-in-Err-clause-refused : goal.returns-in-Err-clause-refused
returns-in-Err-clause-refused c =
    let a = c.self.inside.arrays in
    rw (← c.self.view_is) (
      record {
        few = omega (arith, length-rows_of a.keys.items a.width a.values.items);
        above = omega arith;
      },
      no_room a c.self.inside.room c.self.invariant.1 c.in-Err.ensures.err,
    )

pub invariant_of-self-2 : goal.invariant_of-self-2
invariant_of-self-2 c =
    let a = c.self.inside.arrays in
    let same : length c.args.vals.now ≡ a.width = rw (← c.self.view_is) at c.requires in
    let below : a.last_key < c.args.key = omega arith in (
      stored_push a c.reserve_row.new.self c.put_row.new.self c.args.key c.args.vals.now c.self.invariant.0 same
          c.reserve_row.ensures.same c.put_row.ensures.added (omega arith) (omega (arith, c.ranges.key)) below,
      rw c.saturating_sub-self-inside.ensures (room_push a c.reserve_row.new.self c.put_row.new.self c.args.key c.self.inside.room c.args.vals.now same
          c.reserve_row.ensures.same c.reserve_row.ensures.no_less c.put_row.ensures.added c.put_row.ensures.no_less c.self.invariant.1),
    )

pub returns-clause-ok : goal.returns-clause-ok
returns-clause-ok c =
    let a = c.self.inside.arrays in
    let same : length c.args.vals.now ≡ a.width = rw (← c.self.view_is) at c.requires in
    rw (← c.self.view_is, c.saturating_sub-self-inside.ensures)
    (ap (λ t. record { table = t; room = c.self.inside.room - 1 })
    (table_of-push a c.reserve_row.new.self c.put_row.new.self c.args.key c.args.vals.now c.self.invariant.0 same c.reserve_row.ensures.same c.put_row.ensures.added))

pub returns-clause-accepted : goal.returns-clause-accepted
returns-clause-accepted c =
    let a = c.self.inside.arrays in
    rw (← c.self.view_is) record {
      few = omega (arith, length-rows_of a.keys.items a.width a.values.items);
      above = omega arith;
    }
