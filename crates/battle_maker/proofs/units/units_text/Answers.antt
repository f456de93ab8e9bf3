use Rattle.std.proofs.Common.{ap, arith, length, length-append, sym}
use Rattle.battle_maker.proofs.Lines.{units_more, units_none}
use Rattle.battle_maker.proofs.units.units_text.Goals as goal

pub loop-before-init : goal.loop-before-init
loop-before-init c = record {
  text = rw (c.in_ok-extend_from_slice.ensures.items, c.in_ok-text.ensures.items) (sym (units_none c.args.number));
  short = rw (c.in_ok-extend_from_slice.ensures.items, c.in_ok-text.ensures.items) (omega arith);
}

pub loop-before-preserved : goal.loop-before-preserved
loop-before-preserved c =
    let more = units_more c.loop-before.before c.args.number in
    let items = c.in_ok-extend_from_slice-2.ensures.items in
    let line = c.deref.ensures.0 in
    record {
      text = cc;
      short = omega (arith, simp length-append at (ap length items), c.loop-before.invariant.short, c.unit_line.ensures.length, ap length line);
    }
