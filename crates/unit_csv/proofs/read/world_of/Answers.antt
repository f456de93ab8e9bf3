use Rattle.std.proofs.Common.{◌∙◌, ◌++◌, ◌∷◌, List, ℤ, ap, arith, length, map, rules, sym}
use Rattle.std.proofs.lemmas.List.{length_push}
use Rattle.std.proofs.lemmas.List.Elements.{All-rest}
use Rattle.env_table.specs.Table.{Building}
use Rattle.sgl_values.specs.World.{Row}
use Rattle.unit_csv.specs.Kept.{row_of, rows_of}
use Rattle.unit_csv.specs.Units.{last_of}
use Rattle.unit_csv.proofs.Building.{rising_first}
use Rattle.unit_csv.proofs.Entries.{Entry, IsWide, rows_more}
use Rattle.unit_csv.proofs.read.world_of.Goals as goal

pub loop-key-preserved-in-Ok : goal.loop-key-preserved-in-Ok
loop-key-preserved-in-Ok c =
    let held = c.loop-key.invariant in
    let old = c.loop-key.builder in
    let rest = c.next.new.self in
    let lent = c.in-Some.ensures.steps ∙ ap (λ (v : List ℤ). (c.in-Some.key.now, v) ∷ rest) (sym c.as_slice.ensures) in
    let pushed = c.in-Ok.ensures.ok in
    let fewer = ap (λ (es : List Entry). length es) lent in
    let row : Row = record { key = c.in-Some.key.now; values = c.as_slice.result.now } in
    record {
      can_next = search rules;
      is_finite = search rules;
      tick = ap (λ (b : Building). b.table.world.tick) pushed ∙ held.tick;
      width = ap (λ (b : Building). b.table.width) pushed ∙ held.width;
      rows = ap (λ (b : Building). b.table.world.rows ++ map row_of rest) pushed
          ∙ rows_more old.table.world.rows c.loop-key.key-iterator rest c.in-Some.key.now c.as_slice.result.now (rows_of c.args.units.now) lent held.rows;
      room = omega (arith, held.room, fewer, ap (λ (b : Building). b.room) pushed);
      few = omega (arith, held.few, fewer, ap (λ (b : Building). length b.table.world.rows) pushed, length_push old.table.world.rows row);
      last = ap (λ (b : Building). b.table.world.last_key) pushed;
      ends = sym (ap (λ (es : List Entry). last_of c.loop-key.last (map row_of es)) lent) ∙ held.ends;
      rising = (rising_first c.loop-key.last c.in-Some.key.now c.as_slice.result.now c.loop-key.key-iterator rest lent held.rising).1;
      wide = All-rest (IsWide c.args.width) _ rest c.loop-key.key-iterator c.in-Some.ensures.steps held.wide;
    }
