use Rattle.std.proofs.Common.{[], ◌∷◌, ◌++◌, ◌∙◌, ap, map}
use Rattle.sgl_typed.specs.declared.script.TStmt.TheVariants.{Let}
use Rattle.sgl_expand.specs.Written.{argument_lets, renumbered}
use Rattle.sgl_expand.proofs.Stepping.{argument-step, fewer}
use Rattle.sgl_expand.proofs.write.Writing.write_arguments.Goals as goal

pub loop-i-preserved : goal.loop-i-preserved
loop-i-preserved c =
    let known = c.args.self.now.numbering.known.items in
    let here = ap (λ v. v.items) c.loop-i.invariant.2 in (
      argument-step known c.args.args.now c.args.places.now c.loop-i.i c.loop-i.self.numbering.next c.take_number.new.self.next c.index-args-i.result c.in_ok-value.value c.place_at.result
          c.loop-i.self.made c.push.new.self (c.args.self.now.made ++ argument_lets c.args.places.now c.args.self.now.numbering.next (map (renumbered known) c.args.args.now))
          c.loop-i-test.true c.index-args-i.is
          (c.in_ok-value.ensures ∙ (λ i. renumbered (here i) c.index-args-i.result))
          c.place_at.ensures
          (c.in_ok-push.ensures.ok ∙ ap (λ slot. c.loop-i.self.made ++ Let slot c.in_ok-value.value c.place_at.result ∷ []) c.in_ok-slot.ensures.number)
          c.in_ok-slot.ensures.next c.loop-i.invariant.0,
      fewer c.args.args.now c.loop-i.i c.loop-i.self.numbering.next c.take_number.new.self.next _ c.index-args-i.result c.loop-i-test.true c.index-args-i.is c.in_ok-slot.ensures.next c.loop-i.invariant.1,
      c.in_ok-slot.ensures.known ∙ c.loop-i.invariant.2,
      c.loop-i.invariant.3,
    )
