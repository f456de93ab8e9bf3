use Rattle.std.proofs.lemmas.Result.{IfOk-weaker, IfErr-weaker, err_from_is_err_and}
use Rattle.std.proofs.Common.{ap, ◌∷◌}
use Rattle.sgl_parser.proofs.Sequences.{done_finishes, then_finishes, one_finishes, done_passes}
use Rattle.sgl_parser.proofs.Parts.{behind, pass_behind, absent, behind_one, pass_one, absent_one, some_number}
use Rattle.sgl_parser.proofs.Randoms.{random_breaks, random_passed}
use Rattle.sgl_parser.proofs.Exits.{alone_stops}
use Rattle.sgl_parser.specs.Operators.{is_number}
use Rattle.sgl_parser.specs.Shape.{kinds_of}
use Rattle.sgl_parser.specs.Grammar.{a_random, Spells, Primary}
use Rattle.sgl_tree.specs.declared.expression.Expr.TheVariants as trees
use Rattle.sgl_parser.proofs.expressions.random.Goals as goal

pub returns-in_err-rest-clause-fails : goal.returns-in_err-rest-clause-fails
returns-in_err-rest-clause-fails c =
    let p = err_from_is_err_and c.from_residual.result c.from_residual.ensures.1 in
    rw (p.1, p.2, c.in_err-rest.ensures.err.0) (random_breaks c.args.word.now c.args.tokens.now c.requires _ (absent c.args.tokens.now (one_finishes some_number (then_finishes done_finishes)) c.in_err-rest.ensures.err.1))

pub returns-in_err-token-clause-fails : goal.returns-in_err-token-clause-fails
returns-in_err-token-clause-fails c =
    let p = err_from_is_err_and c.from_residual-in_err-token.result c.from_residual-in_err-token.ensures.1 in
    rw (p.1, p.2, c.in_err-token.ensures.err.0) (random_breaks c.args.word.now c.args.tokens.now c.requires _ (behind _ c.in_ok-rest.ensures.list c.in_ok-rest.ensures.kind (absent_one c.in_ok-rest.rest.now some_number (then_finishes done_finishes) c.in_err-token.ensures.err.1)))

pub returns-in_err-rest-2-clause-fails : goal.returns-in_err-rest-2-clause-fails
returns-in_err-rest-2-clause-fails c =
    let p = err_from_is_err_and c.from_residual-in_err-rest-2.result c.from_residual-in_err-rest-2.ensures.1 in
    rw (p.1, p.2, c.in_err-rest-2.ensures.err.0) (random_breaks c.args.word.now c.args.tokens.now c.requires _ (behind _ c.in_ok-rest.ensures.list c.in_ok-rest.ensures.kind (behind_one _ c.in_ok-token.ensures.list (ap is_number c.in_ok-token.ensures.kind) (absent c.in_ok-token.rest.now done_finishes c.in_err-rest-2.ensures.err.1))))

pub returns-clause-spells : goal.returns-clause-spells
returns-clause-spells c =
    λ text.
    let spelled : Spells text Primary (c.args.word.now ∷ c.args.tokens.now) c.in_ok-rest-2.rest.now (trees.Random c.args.word.now.place c.in_ok-token.index c.in_ok-token.token.now.place) =
    rw (c.in_ok-rest.ensures.list, c.in_ok-token.ensures.list, c.in_ok-rest-2.ensures.list) (a_random c.requires c.in_ok-rest.ensures.kind c.in_ok-token.ensures.kind c.in_ok-rest-2.ensures.kind) in
    IfOk-weaker c.alone.result _ _ (λ found h. rw (h.0, h.1) spelled) c.alone.ensures.same

pub returns-clause-fails : goal.returns-clause-fails
returns-clause-fails c = IfErr-weaker c.alone.result _ _ (λ stop h. rw h.0 (alone_stops c.in_ok-rest-2.rest.now (random_passed c.args.word.now c.args.tokens.now c.requires (pass_behind c.in_ok-rest.ensures.list c.in_ok-rest.ensures.kind (pass_one c.in_ok-token.ensures.list (ap is_number c.in_ok-token.ensures.kind) (pass_behind c.in_ok-rest-2.ensures.list c.in_ok-rest-2.ensures.kind (done_passes (kinds_of c.in_ok-rest-2.rest.now)))))) h.1)) c.alone.ensures.err
