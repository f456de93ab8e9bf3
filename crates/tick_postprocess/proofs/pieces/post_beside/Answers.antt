use Rattle.std.proofs.Common.{ap, sym, ◌∙◌}
use Rattle.std.proofs.lemmas.Result.{err_from_is_err_and}
use Rattle.sgl_typed.specs.Tick.{after_post, after_rows, children_behind, rows_left, unless}
use Rattle.tick_postprocess.specs.Runs.{posted_rows}
use Rattle.tick_postprocess.proofs.PieceSteps.{done_of}
use Rattle.tick_postprocess.proofs.pieces.post_beside.Goals as goal

pub returns-in-Some-clause-told : goal.returns-in-Some-clause-told
returns-in-Some-clause-told r c items words =
    let a = c.args in
    let done = done_of a.script.now a.world.now a.combined.now a.seed a.pieces.now c.run_beside.new.pieces c.requires.pieces c.run_beside.ensures.long c.run_beside.ensures.same c.run_beside.ensures.done in
    ap (λ f. unless f (after_post a.world.now.world (posted_rows a.script.now a.world.now.world a.seed items)))
    (c.in-Some.ensures a.script.now a.world.now a.combined.now a.seed done items words)

pub join_pieces-requires-clause-pieces : goal.join_pieces-requires-clause-pieces
join_pieces-requires-clause-pieces r c =
    let a = c.args in
    done_of a.script.now a.world.now a.combined.now a.seed a.pieces.now c.run_beside.new.pieces c.requires.pieces c.run_beside.ensures.long c.run_beside.ensures.same c.run_beside.ensures.done

pub returns-in_err-counts-clause-told : goal.returns-in_err-counts-clause-told
returns-in_err-counts-clause-told r c items words =
    let a = c.args in
    let all = posted_rows a.script.now a.world.now.world a.seed items in
    let done = done_of a.script.now a.world.now a.combined.now a.seed a.pieces.now c.run_beside.new.pieces c.requires.pieces c.run_beside.ensures.long c.run_beside.ensures.same c.run_beside.ensures.done in
    let none = c.in_default.ensures a.script.now a.world.now a.combined.now a.seed done items words in
    let told = err_from_is_err_and c.from_residual.result c.from_residual.ensures.1 in
    rw (told.1, told.2)
    (sym (ap (λ f. unless f (after_rows a.world.now.world (rows_left all) (children_behind a.world.now.world.last_key all))) (c.in_err-counts.ensures.put items words (sym none)))
    ∙ ap (λ f. unless f (after_post a.world.now.world all)) none)

pub returns-clause-told : goal.returns-clause-told
returns-clause-told r c items words =
    let a = c.args in
    let done = done_of a.script.now a.world.now a.combined.now a.seed a.pieces.now c.run_beside.new.pieces c.requires.pieces c.run_beside.ensures.long c.run_beside.ensures.same c.run_beside.ensures.done in
    let none = c.in_default.ensures a.script.now a.world.now a.combined.now a.seed done items words in
    c.close_rows.ensures.told items words (sym none) (c.in_ok-counts.ensures.put items words (sym none))
    ∙ ap (λ f. unless f (after_post a.world.now.world (posted_rows a.script.now a.world.now.world a.seed items))) none
