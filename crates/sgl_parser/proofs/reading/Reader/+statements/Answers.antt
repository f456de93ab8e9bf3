use Rattle.sgl_parser.proofs.Returns.{token_missing, part_broken}
use Rattle.std.proofs.Common.{ap, sym, subst, refl, ◌∙◌, ◌++◌, ◌∷◌, [], append-nil, append_assoc, arith, rules}
use Rattle.sgl_parser.proofs.Sequences.{done_finishes, then_finishes, before_finishes, before_breaks, behind_breaks, before_passes, done_passes, given_breaks, given_passes, omitted_passes, many_passes, many_breaks, threads_none, threads_more, same_breaks, same_passes, narrower_breaks, narrower_passes, absent_breaks, word_finishes}
use Rattle.sgl_parser.proofs.Parts.{behind, pass_behind, absent, block_finishes, anywhere, shut_follows, goes_at, goes_in_block, not_here}
use Rattle.sgl_parser.proofs.Blocks.{statement_same, statement_returns, block_same, statements_same, branch_same, statements_finish, branch_finishes, condition_follows, statement_follows, ends_excludes, words_exclude, let_finishes}
use Rattle.sgl_parser.proofs.Fronts.{part_passed}
use Rattle.sgl_parser.proofs.TokenKinds.{kinds-length}
use Rattle.sgl_parser.specs.Shape.{kinds_of}
use Rattle.sgl_parser.specs.Breaks.{NotAt, Breaks}
use Rattle.sgl_parser.specs.StatementShape.{StatementShape}
use Rattle.sgl_parser.specs.Statements.{SpellsLet, SpellsPerform, SpellsStatements, SpellsIf, a_block, no_statements, more_statements, by_let, by_if, by_perform, an_if, no_else, an_else}
use Rattle.sgl_lexer.specs.declared.lexeme.TokenKind.TheVariants as kinds
use Rattle.sgl_lexer.specs.declared.vocabulary.Word.TheVariants as words
use Rattle.sgl_parser.proofs.reading.Reader.+statements.Goals as goal

pub block-returns : goal.block-returns
block-returns t c = record {
  passes = same_passes (block_same (kinds_of c.args.tokens.now)) (pass_behind c.in_ok-rest.ensures.list c.in_ok-rest.ensures.kind (before_passes (shut_follows _ _ _) c.in_ok-statements.ensures.passes (pass_behind c.in_ok-rest-2.ensures.list c.in_ok-rest-2.ensures.kind (done_passes (kinds_of c.in_ok-rest-2.rest.now)))));
  spells = rw c.in_ok-rest.ensures.list (a_block c.in_ok-rest.ensures.kind (rw c.in_ok-rest-2.ensures.list at c.in_ok-statements.ensures.spells) c.in_ok-rest-2.ensures.kind);
  shorter = search rules;
  of = search rules;
}

pub block-returns-in_err-rest : goal.block-returns-in_err-rest
block-returns-in_err-rest t c = token_missing c.from_residual.result _ c.from_residual.ensures.1 c.in_err-rest.ensures.err.0 (same_breaks (block_same (kinds_of c.args.tokens.now)) _ (absent c.args.tokens.now (before_finishes statements_finish (then_finishes done_finishes)) c.in_err-rest.ensures.err.1))

pub block-returns-in_err-statements : goal.block-returns-in_err-statements
block-returns-in_err-statements t c = part_broken c.from_residual-in_err-statements.result _ _ c.from_residual-in_err-statements.ensures.1 (λ n f. (same_breaks (block_same (kinds_of c.args.tokens.now)) n (behind n c.in_ok-rest.ensures.list c.in_ok-rest.ensures.kind (before_breaks (shut_follows _ _ _) (then_finishes done_finishes) n f)))) c.in_err-statements.ensures

pub block-returns-in_err-rest-2 : goal.block-returns-in_err-rest-2
block-returns-in_err-rest-2 t c = token_missing c.from_residual-in_err-rest-2.result _ c.from_residual-in_err-rest-2.ensures.1 c.in_err-rest-2.ensures.err.0 (same_breaks (block_same (kinds_of c.args.tokens.now)) _ (behind _ c.in_ok-rest.ensures.list c.in_ok-rest.ensures.kind (behind_breaks (shut_follows _ _ _) c.in_ok-statements.ensures.passes _ (absent c.in_ok-statements.rest.now done_finishes c.in_err-rest-2.ensures.err.1))))

pub statements-statements-init : goal.statements-statements-init
statements-statements-init t c = record {
  spelt = λ vs more h. rw c.new-statements.ensures h;
  threads = threads_none (kinds_of c.args.tokens.now);
  shorter = omega arith;
  of = c.requires;
}

pub statements-statements-preserved : goal.statements-statements-preserved
statements-statements-preserved t c = record {
  spelt = λ vs more h. subst (λ l. SpellsStatements c.args.self.now.text.now c.args.tokens.now vs l) (sym (ap (λ l. l ++ more) c.in_ok-push.ensures.ok ∙ append_assoc c.statements.statements (c.in_ok-statement.statement ∷ []) more)) (c.statements.invariant.spelt vs (c.in_ok-statement.statement ∷ more) (more_statements c.in_ok-statement.ensures.spells h));
  threads = threads_more statement_follows c.statements.invariant.threads (goes_in_block c.statements.rest.now (c.ends_block.ensures.not_here c.statements-test.true)) c.in_ok-statement.ensures.passes;
  shorter = omega (arith, c.statements.invariant.shorter, c.in_ok-statement.ensures.shorter);
  of = c.in_ok-statement.ensures.of;
}

pub statements-returns : goal.statements-returns
statements-returns t c = record {
  passes = same_passes (statements_same (kinds_of c.args.tokens.now)) (many_passes (ends_excludes (kinds_of c.statements.rest.now) (c.ends_block.ensures.here c.statements-test.false)) c.statements.invariant.threads);
  spells = subst (λ l. SpellsStatements c.args.self.now.text.now c.args.tokens.now c.statements.rest.now l) (append-nil c.statements.statements) (c.statements.invariant.spelt c.statements.rest.now [] no_statements);
  shorter = search rules;
  of = search rules;
}

pub statements-returns-in_err-statement : goal.statements-returns-in_err-statement
statements-returns-in_err-statement t c = part_broken c.from_residual.result _ _ c.from_residual.ensures.1 (λ n f. same_breaks (statements_same (kinds_of c.args.tokens.now)) n (many_breaks statement_follows c.statements.invariant.threads (goes_in_block c.statements.rest.now (c.ends_block.ensures.not_here c.statements-test.true)) n f)) c.in_err-statement.ensures

pub statement-returns-in-Some : goal.statement-returns-in-Some
statement-returns-in-Some t c = statement_returns words.Let (λ to s. tt) c.in-Some.ensures.list c.in-Some.ensures.kind (SpellsLet c.args.self.now.text.now) (λ rest x h. by_let c.in-Some.ensures.kind h) c.let_behind.result c.let_behind.ensures

pub statement-returns-in-Some-eat : goal.statement-returns-in-Some-eat
statement-returns-in-Some-eat t c = statement_returns words.If (λ to s. s) c.in-Some-eat.ensures.list c.in-Some-eat.ensures.kind (SpellsIf c.args.self.now.text.now) (λ rest x h. by_if c.in-Some-eat.ensures.kind h) c.if_behind.result c.if_behind.ensures

pub statement-returns-in-Some-eat-2 : goal.statement-returns-in-Some-eat-2
statement-returns-in-Some-eat-2 t c = statement_returns words.Perform (λ to s. tt) c.in-Some-eat-2.ensures.list c.in-Some-eat-2.ensures.kind (SpellsPerform c.args.self.now.text.now c.in-Some-eat-2.word.now.place) (λ rest x h. by_perform c.in-Some-eat-2.ensures.kind h) c.perform.result c.perform.ensures

pub statement-returns : goal.statement-returns
statement-returns t c =
    subst (Breaks StatementShape (NotAt (kinds.Word words.Else)) (kinds_of c.args.tokens.now)) (kinds-length c.args.tokens.now)
    (same_breaks (statement_same (kinds_of c.args.tokens.now)) _ (absent_breaks (word_finishes words.Let let_finishes) (words_exclude c.args.tokens.now c.in_default.ensures.none c.in_default-eat.ensures.none c.in_default-eat-2.ensures.none)))

pub if_behind-returns : goal.if_behind-returns
if_behind-returns t c = record {
  passes = before_passes (condition_follows _) (part_passed c.in_ok-cond.ensures) (before_passes (anywhere _ _) c.in_ok-yes.ensures.passes c.in_ok-no.ensures.passes);
  spells = an_if c.in_ok-cond.ensures.spells c.in_ok-yes.ensures.spells c.in_ok-no.ensures.spells;
  shorter = search rules;
  of = search rules;
}

pub if_behind-returns-in_err-cond : goal.if_behind-returns-in_err-cond
if_behind-returns-in_err-cond t c = part_broken c.from_residual.result _ _ c.from_residual.ensures.1 (λ n f. (before_breaks (condition_follows _) (before_finishes block_finishes branch_finishes) n f)) c.in_err-cond.ensures

pub if_behind-returns-in_err-yes : goal.if_behind-returns-in_err-yes
if_behind-returns-in_err-yes t c = part_broken c.from_residual-in_err-yes.result _ _ c.from_residual-in_err-yes.ensures.1 (λ n f. (behind_breaks (condition_follows _) (part_passed c.in_ok-cond.ensures) n (before_breaks (anywhere _ _) branch_finishes n f))) c.in_err-yes.ensures

pub if_behind-returns-in_err-no : goal.if_behind-returns-in_err-no
if_behind-returns-in_err-no t c = part_broken c.from_residual-in_err-no.result _ _ c.from_residual-in_err-no.ensures.1 (λ n f. (behind_breaks (condition_follows _) (part_passed c.in_ok-cond.ensures) n (behind_breaks (anywhere _ _) c.in_ok-yes.ensures.passes n f))) c.in_err-no.ensures

pub branch-returns : goal.branch-returns
branch-returns t c = record {
  passes = same_passes (branch_same (kinds_of c.args.tokens.now)) (given_passes (goes_at (NotAt (kinds.Word words.Else)) (kinds.Word words.Else) (λ zs s. s refl) c.in-Some.ensures.list c.in-Some.ensures.kind) (pass_behind c.in-Some.ensures.list c.in-Some.ensures.kind (narrower_passes (λ to s. tt) c.in_ok-block.ensures.passes)));
  spells = rw c.in-Some.ensures.list (an_else c.in-Some.ensures.kind c.in_ok-block.ensures.spells);
  shorter = search rules;
  of = search rules;
}

pub branch-returns-in_default : goal.branch-returns-in_default
branch-returns-in_default t c = record {
  passes = same_passes (branch_same (kinds_of c.args.tokens.now)) (omitted_passes (not_here c.args.tokens.now c.in_default.ensures.none));
  spells = rw c.new.ensures no_else;
  shorter = search rules;
  of = search rules;
}

pub branch-returns-in_err-block : goal.branch-returns-in_err-block
branch-returns-in_err-block t c = part_broken c.from_residual.result _ _ c.from_residual.ensures.1 (λ n f. (same_breaks (branch_same (kinds_of c.args.tokens.now)) n (given_breaks (goes_at (NotAt (kinds.Word words.Else)) (kinds.Word words.Else) (λ zs s. s refl) c.in-Some.ensures.list c.in-Some.ensures.kind) n (behind n c.in-Some.ensures.list c.in-Some.ensures.kind (narrower_breaks (λ to s. tt) n f))))) c.in_err-block.ensures
