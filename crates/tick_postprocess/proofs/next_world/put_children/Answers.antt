use Rattle.std.proofs.Common.{◌<◌, ◌≤◌, length, map, ap, subst, sym, ◌∙◌, arith}
use Rattle.sgl_typed.specs.Tick.{combined_from, posted}
use Rattle.env_table.specs.Table.{Building}
use Rattle.tick_postprocess.specs.Blocks.{IsBlock}
use Rattle.tick_postprocess.proofs.BlockSteps.{empty_block}
use Rattle.tick_postprocess.proofs.RowSteps.{all_length, bit_le, born_end, born_more, born_none, born_skip, born_start, IsBornSoFar, combined_row, no_fault_at, none_at, posted_at}
use Rattle.tick_postprocess.proofs.next_world.put_children.Goals.{then-left-gt0, else-left-gt0}
use Rattle.tick_postprocess.proofs.next_world.put_children.Goals as goal

pub returns-then-children-eq0-clause-put : goal.returns-then-children-eq0-clause-put
returns-then-children-eq0-clause-put c items words none faults count =
    let world = c.args.ending.now.tick.world.now.world in
    let all = map (posted c.args.ending.now.tick.script.now world c.args.ending.now.tick.seed) (combined_from c.args.ending.now.tick.script.now items 0 world.rows) in
    born_none all world.last_key c.args.out.now.table.world.rows (sym count ∙ c.if-children-eq0.true)

pub loop-row-init : goal.loop-row-init
loop-row-init c = record {
  block = empty_block c.args.ending.now c.before-block.result (c.before-block.ensures.end ∙ sym c.before-block.ensures.first) (omega (arith, c.before-block.ensures.end));
  width = c.requires.width;
  tick = omega arith;
  few = c.requires.few;
  room = c.requires.room;
  above = omega (arith, c.requires.above, c.last_key-last.ensures.value);
  keys = omega (arith, c.last_key-last.ensures.value);
  rows = λ items words none faults count.
      let world = c.args.ending.now.tick.world.now.world in
      let all = map (posted c.args.ending.now.tick.script.now world c.args.ending.now.tick.seed) (combined_from c.args.ending.now.tick.script.now items 0 world.rows) in
      subst (λ n. IsBornSoFar all 0 world.last_key n c.args.children c.args.out.now.table.world.rows c.args.out.now.table.world.rows) (sym c.last_key-last.ensures.value)
      (born_start all world.last_key c.args.children c.args.out.now.table.world.rows count);
}

pub loop-row-preserved : goal.loop-row-preserved
loop-row-preserved c =
    let script = c.args.ending.now.tick.script.now in
    let world = c.args.ending.now.tick.world.now.world in
    let seed = c.args.ending.now.tick.seed in
    let i = c.loop-row.row in
    let inv = c.loop-row.invariant in
    let lt : i < length world.rows = omega (arith, c.loop-row-test.true, c.len-rows.ensures.value) in
    elim c.if-left-gt0.branch [
      | then-left-gt0 w ↦
          let grows = w.put_child.ensures.grows in
          let one = bit_le w.put_child.result in
          let born = w.one_if-born.ensures in
          record {
            block = subst (IsBlock c.args.ending.now) (sym w.block-is) w.turn_again_to.ensures.block;
            width = ap (λ (b : Building). b.table.width) w.out-is ∙ grows.width ∙ inv.width;
            tick = ap (λ (b : Building). b.table.world.tick) w.out-is ∙ grows.tick ∙ inv.tick;
            few = omega (arith, ap (λ (b : Building). length b.table.world.rows) w.out-is, grows.rows, born, one, w.left-is, w.if-left-gt0.true, inv.few);
            room = omega (arith, ap (λ (b : Building). b.room) w.out-is, grows.room, born, one, w.left-is, w.if-left-gt0.true, inv.room);
            above = omega (arith, ap (λ (b : Building). b.table.world.last_key) w.out-is, grows.last, born, one, w.last-is, inv.above);
            keys = omega (arith, w.last-is, w.left-is, born, one, w.if-left-gt0.true, inv.keys);
            rows = λ items words none faults count.
                let all = map (posted script world seed) (combined_from script items 0 world.rows) in
                let p = posted script world seed (combined_row script items world i) in
                let inside : i < length all = omega (arith, lt, all_length script items world seed) in
                let is = posted_at script items world seed i p lt in
                let bears = w.put_child.ensures.put items words (none_at script items world i lt none) (no_fault_at all i p inside faults is) in
                born_more all i world.last_key c.loop-row.last c.loop-row.left c.if-left-gt0.last c.if-left-gt0.left p c.args.out.now.table.world.rows c.loop-row.out c.if-left-gt0.out w.put_child.result
                inside is (omega (arith, w.last-is, born)) (omega (arith, w.left-is, born, one, w.if-left-gt0.true))
                (inv.rows items words none faults count) (bears.0, w.out-is ∙ bears.1);
          }
      | else-left-gt0 w ↦
          record {
            block = subst (IsBlock c.args.ending.now) (sym w.block-is) inv.block;
            width = ap (λ (b : Building). b.table.width) w.out-is ∙ inv.width;
            tick = ap (λ (b : Building). b.table.world.tick) w.out-is ∙ inv.tick;
            few = omega (arith, ap (λ (b : Building). length b.table.world.rows) w.out-is, w.left-is, inv.few);
            room = omega (arith, ap (λ (b : Building). b.room) w.out-is, w.left-is, inv.room);
            above = omega (arith, ap (λ (b : Building). b.table.world.last_key) w.out-is, w.last-is, inv.above);
            keys = omega (arith, w.last-is, w.left-is, inv.keys);
            rows = λ items words none faults count.
                let all = map (posted script world seed) (combined_from script items 0 world.rows) in
                let p = posted script world seed (combined_row script items world i) in
                born_skip all i world.last_key c.loop-row.last c.loop-row.left c.if-left-gt0.last c.if-left-gt0.left p c.args.out.now.table.world.rows c.loop-row.out.table.world.rows c.if-left-gt0.out.table.world.rows
                (omega (arith, lt, all_length script items world seed)) (posted_at script items world seed i p lt) (omega (arith, w.if-left-gt0.false))
                w.last-is w.left-is (ap (λ (b : Building). b.table.world.rows) w.out-is) (inv.rows items words none faults count);
          }
    ]

pub returns-clause-put : goal.returns-clause-put
returns-clause-put c items words none faults count =
    let script = c.args.ending.now.tick.script.now in
    let world = c.args.ending.now.tick.world.now.world in
    let seed = c.args.ending.now.tick.seed in
    let past : length world.rows ≤ c.loop-row.row = omega (arith, c.loop-row-test.false, c.len-rows.ensures.value) in
    let all = map (posted script world seed) (combined_from script items 0 world.rows) in
    born_end all c.loop-row.row world.last_key c.loop-row.last c.loop-row.left c.args.out.now.table.world.rows c.loop-row.out.table.world.rows (omega (arith, past, all_length script items world seed))
    (c.loop-row.invariant.rows items words none faults count)
