use Rattle.std.proofs.Common.{◌≡◌, ◌+◌, [], ◌∙◌, ap, sym, subst}
use Rattle.sgl_expand.specs.Pruned.{pruned_all, pruned_routines}
use Rattle.sgl_expand.specs.Steps.{IsClosed}
use Rattle.sgl_expand.specs.Expand.{main_of}
use Rattle.sgl_expand.specs.Written.{lets, written_all, writers_of}
use Rattle.sgl_expand.proofs.Counted.{zero-sum}
use Rattle.sgl_expand.proofs.Pruning.{pruned-closed, pruned-main}
use Rattle.sgl_expand.proofs.Whole.{each-below}
use Rattle.sgl_expand.proofs.script.write_main.Goals as goal

pub write_block-requires : goal.write_block-requires
write_block-requires c =
    let script = c.args.script.now in
    subst IsClosed (sym (c.as_slice-4.ensures ∙ c.in_ok-routines.ensures ∙ ap (pruned_routines []) c.as_slice.ensures)) (pruned-closed script.routines (each-below script))

pub returns-clause-main : goal.returns-clause-main
returns-clause-main c =
    let script = c.args.script.now in
    let done = c.in_ok-routines.ensures ∙ ap (pruned_routines []) c.as_slice.ensures in
    c.in_ok-made.ensures.made
    ∙ (λ i. written_all (writers_of [] ((c.as_slice-4.ensures ∙ done) i))
    ((c.as_slice-5.ensures ∙ c.in_ok-main.ensures ∙ (λ j. pruned_all ((c.as_slice-2.ensures ∙ done) j) (c.as_slice-3.ensures j))) i) (c.new-writing.ensures.known i) (c.new-writing.ensures.next i))
    ∙ pruned-main script.routines script.main (each-below script)

pub returns-clause-slots : goal.returns-clause-slots
returns-clause-slots c =
    let script = c.args.script.now in
    let done = c.in_ok-routines.ensures ∙ ap (pruned_routines []) c.as_slice.ensures in
    let made : c.in_ok-made.made ≡ main_of script =
    c.in_ok-made.ensures.made
    ∙ (λ i. written_all (writers_of [] ((c.as_slice-4.ensures ∙ done) i))
    ((c.as_slice-5.ensures ∙ c.in_ok-main.ensures ∙ (λ j. pruned_all ((c.as_slice-2.ensures ∙ done) j) (c.as_slice-3.ensures j))) i) (c.new-writing.ensures.known i) (c.new-writing.ensures.next i))
    ∙ pruned-main script.routines script.main (each-below script) in
    c.in_ok-made.ensures.next ∙ ap (λ n. n + lets c.in_ok-made.made) c.new-writing.ensures.next ∙ zero-sum (lets c.in_ok-made.made) ∙ ap lets made
