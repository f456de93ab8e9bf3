use Rattle.std.proofs.Common.{◌+◌, ◌*◌, ◌<◌, arith, List, length, slice_index_or, sym, subst}
use Rattle.sgl_values.specs.declared.fault.Tag.{Tag}
use Rattle.effect_board.proofs.Giving.{own_inside}
use Rattle.effect_board.proofs.handles.EffectBoard.give_tagged.Goals as goal

pub keep_lanes-requires-clause-inside : goal.keep_lanes-requires-clause-inside
keep_lanes-requires-clause-inside c lane own =
    let a = c.args in
    let seat = a.seat.now in
    let row = slice_index_or a.rows.now lane 0 in
    let some : 0 < length seat.own.items = grind (arith, c.is_empty.ensures, c.if-is_empty.false) in
    subst (λ (l : List Tag). row * length l + a.attr < length seat.own.items) (sym c.as_slice.ensures.value) (own_inside a.self.now seat row a.attr c.requires.of some (c.requires.rows lane own) c.requires.attr)
