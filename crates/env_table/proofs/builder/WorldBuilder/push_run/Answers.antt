use Rattle.std.proofs.Common.{◌≡◌, ◌+◌, ◌-◌, ◌∙◌, ℕ, List, length, take, drop, ap, sym, subst, arith}
use Rattle.std.proofs.Math.Nat.{mul-le-mul_right}
use Rattle.env_table.specs.Arrays.{table_of, HasRoomFor}
use Rattle.env_table.specs.Pushes.{CanPushLanes}
use Rattle.env_table.specs.Table.{with_run, Building}
use Rattle.env_table.proofs.Rows.{length-rows_of}
use Rattle.env_table.proofs.LaneRows.{room_run, run_count, run_for, run_room, stored_run, table_of-run}
use Rattle.env_table.proofs.builder.WorldBuilder.push_run.Goals as goal

-- the part of the keys
part_is : (first lane end : ℕ) (keys others : List ℕ) → keys ≡ others → take (first + lane + (end - lane) - (first + lane)) (drop (first + lane) keys) ≡ take (end - lane) (drop (first + lane) others)
part_is first lane end keys others same = ap (λ n. take n (drop (first + lane) keys)) (omega arith) ∙ ap (λ ks. take (end - lane) (drop (first + lane) ks)) same

pub slice_bounds-keys-end : goal.slice_bounds-keys-end
slice_bounds-keys-end c =
    let m = c.world.inside.arrays in
    let inside = rw (← c.world.view_is) at c.requires.can.inside in
    omega (arith, inside, c.requires.some, length-rows_of m.keys.items m.width m.values.items, ap length c.deref.ensures.value)

pub put_lanes-requires : goal.put_lanes-requires
put_lanes-requires c =
    let a = c.self.inside.arrays in
    let m = c.world.inside.arrays in
    let some = c.requires.some in
    let can : CanPushLanes record { table = table_of a; room = c.self.inside.room } (table_of m) c.args.first c.args.lane c.args.end (length c.args.columns.now) =
    rw (c.self.view_is, c.world.view_is) c.requires.can in
    let few = can.room in
    let lanes = can.lanes in
    let inside = can.inside in
    let are = part_is c.args.first c.args.lane c.args.end c.deref.result.now m.keys.items c.deref.ensures.value in
    let keys = take (c.args.first + c.args.lane + (c.args.end - c.args.lane) - (c.args.first + c.args.lane)) (drop (c.args.first + c.args.lane) c.deref.result.now) in
    let count : length keys ≡ c.args.end - c.args.lane =
    run_count m c.args.first c.args.lane c.args.end keys (omega (arith, inside, length-rows_of m.keys.items m.width m.values.items)) are in
    let has : HasRoomFor a c.self.inside.room = c.self.invariant.1 in
    let more = mul-le-mul_right {m = length keys} {n = c.self.inside.room} a.width (omega (arith, count, few, some)) in
    record {
      some = omega (arith, count, some);
      lanes = omega (arith, count, some, lanes);
      narrow = c.self.invariant.0.table.narrow;
      width = sym can.wide;
      keys = omega (arith, count, some, few, has.keys_fit);
      values = omega (arith, more, has.values_fit);
    }

pub invariant_of-self : goal.invariant_of-self
invariant_of-self c =
    let a = c.self.inside.arrays in
    let m = c.world.inside.arrays in
    let n = c.put_lanes.new.self in
    let some = c.requires.some in
    let can : CanPushLanes record { table = table_of a; room = c.self.inside.room } (table_of m) c.args.first c.args.lane c.args.end (length c.args.columns.now) =
    rw (c.self.view_is, c.world.view_is) c.requires.can in
    let few = can.room in
    let are = part_is c.args.first c.args.lane c.args.end c.deref.result.now m.keys.items c.deref.ensures.value in
    let keys = take (c.args.first + c.args.lane + (c.args.end - c.args.lane) - (c.args.first + c.args.lane)) (drop (c.args.first + c.args.lane) c.deref.result.now) in
    let for = run_for a n m c.self.inside.room c.args.first c.args.lane c.args.end c.args.columns.now keys c.self.invariant.0 c.world.invariant some can are c.put_lanes.ensures.added in
    let inside = can.inside in
    let count : length keys ≡ c.args.end - c.args.lane =
    run_count m c.args.first c.args.lane c.args.end keys (omega (arith, inside, length-rows_of m.keys.items m.width m.values.items)) are in (
      stored_run a n (table_of m).world c.args.first c.args.columns.now keys c.args.lane for (omega (arith, count, some)),
      subst (HasRoomFor n) (ap (λ k. c.self.inside.room - k) count ∙ sym c.saturating_sub-self-inside.ensures)
          (room_run a n c.self.inside.room c.args.columns.now keys c.args.lane c.put_lanes.ensures.added c.put_lanes.ensures.no_less (omega (arith, count, few, some)) c.self.invariant.1),
    )

pub returns : goal.returns
returns c =
    let a = c.self.inside.arrays in
    let m = c.world.inside.arrays in
    let n = c.put_lanes.new.self in
    let some = c.requires.some in
    let can : CanPushLanes record { table = table_of a; room = c.self.inside.room } (table_of m) c.args.first c.args.lane c.args.end (length c.args.columns.now) =
    rw (c.self.view_is, c.world.view_is) c.requires.can in
    let are = part_is c.args.first c.args.lane c.args.end c.deref.result.now m.keys.items c.deref.ensures.value in
    let keys = take (c.args.first + c.args.lane + (c.args.end - c.args.lane) - (c.args.first + c.args.lane)) (drop (c.args.first + c.args.lane) c.deref.result.now) in
    let for = run_for a n m c.self.inside.room c.args.first c.args.lane c.args.end c.args.columns.now keys c.self.invariant.0 c.world.invariant some can are c.put_lanes.ensures.added in
    let inside = can.inside in
    let count : length keys ≡ c.args.end - c.args.lane =
    run_count m c.args.first c.args.lane c.args.end keys (omega (arith, inside, length-rows_of m.keys.items m.width m.values.items)) are in
    let b : Building = record { table = table_of a; room = c.self.inside.room } in
    let run = with_run b (table_of m).world c.args.first c.args.columns.now c.args.lane in
    let table : table_of n ≡ (run (c.args.end - c.args.lane)).table =
    table_of-run a n c.self.inside.room (table_of m).world c.args.first c.args.columns.now keys c.args.lane for (omega (arith, count, some)) ∙ ap (λ k. (run k).table) count in
    let room = c.saturating_sub-self-inside.ensures ∙ sym (run_room b (table_of m).world c.args.first c.args.columns.now c.args.lane (c.args.end - c.args.lane)) in
    rw (← c.self.view_is, ← c.world.view_is) (λ i. record { table = table i; room = room i })
