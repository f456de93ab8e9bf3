use Rattle.std.proofs.Common.{◌≡◌, ◌+◌, ◌-◌, ℕ, take, ap, sym, subst, arith}
use Rattle.env_table.specs.Table.{with_lanes, Building}
use Rattle.tick_postprocess.specs.Runs.{RunsOn}
use Rattle.tick_postprocess.proofs.RunsOn.{can_lanes, lanes_count, lanes_on, lanes_room}
use Rattle.tick_postprocess.proofs.next_world.put_lanes.Goals as goal

pub push_lanes-requires : goal.push_lanes-requires
push_lanes-requires c =
    let b = c.args.block.now in
    can_lanes c.args.ending.now.tick.world.now b.first b.end c.args.out.now c.len-few.ensures.table (omega (arith, c.requires.some)) c.requires.block.few c.requires.block.inside c.requires.out

pub overflow_sub-result : goal.overflow_sub-result
overflow_sub-result c =
    let b = c.args.block.now in
    let columns = take c.args.ending.now.tick.world.now.width b.changed in
    let room = lanes_room c.args.out.now c.args.ending.now.tick.world.now.world b.first columns c.args.lanes (b.end - b.first) (omega (arith, c.requires.out.room)) in
    omega (arith, room, c.room-room.ensures.value, c.room.ensures.value, ap (λ (out : Building). out.room) c.push_lanes.ensures)

pub returns : goal.returns
returns c =
    let e = c.args.ending.now in
    let b = c.args.block.now in
    let count = b.end - b.first in
    let columns = take e.tick.world.now.width b.changed in
    let world = e.tick.world.now.world in
    let room = lanes_room c.args.out.now world b.first columns c.args.lanes count (omega (arith, c.requires.out.room)) in
    let stay : lanes_count c.args.lanes count ≡ c.room-room.result - c.room.result =
    omega (arith, room, c.room-room.ensures.value, c.room.ensures.value, ap (λ (out : Building). out.room) c.push_lanes.ensures) in
    let last : b.first + count ≡ b.end = omega (arith, c.requires.some) in
    let runs = lanes_on e b c.args.lanes c.args.out.now c.len-few.ensures.table c.requires.block.inside c.requires.out c.requires.stays count (omega (arith, last)) in
    subst (λ (out : Building). RunsOn e b.first b.end c.args.out.now record { stay = c.room-room.result - c.room.result; children = 0 } out) (sym c.push_lanes.ensures)
    (subst (λ (n : ℕ). RunsOn e b.first n c.args.out.now record { stay = c.room-room.result - c.room.result; children = 0 } (with_lanes c.args.out.now world b.first columns c.args.lanes count)) last
    (subst (λ (n : ℕ). RunsOn e b.first (b.first + count) c.args.out.now record { stay = n; children = 0 } (with_lanes c.args.out.now world b.first columns c.args.lanes count)) stay runs))
