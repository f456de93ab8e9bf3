use Rattle.std.proofs.Common.{refl, ap, ◌∙◌}
use Rattle.sgl_types.specs.Walk.{after_items}
use Rattle.sgl_types.proofs.Whole.{walk-of}
use Rattle.sgl_types.proofs.script_check.walk.Goals as goal

pub returns : goal.returns
returns c =
    let checked = c.in_ok-check_items.ensures ∙ ap (λ all. after_items all c.as_slice-items.result.now c.new-checking.result.typed) c.new-checking.ensures.all in
    walk-of c.args.script.now c.as_slice-items.result.now c.in_ok-all.all c.new-checking.result.typed c.check_items.new.self.typed _ c.note_unless.new.found
    c.as_slice-items.ensures c.in_ok-all.ensures c.new-checking.ensures.typed checked c.note_unless.ensures refl
