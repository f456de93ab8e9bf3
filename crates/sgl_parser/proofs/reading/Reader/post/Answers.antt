use Rattle.std.proofs.Common.{rules}
use Rattle.sgl_parser.proofs.Returns.{token_missing, part_broken}
use Rattle.sgl_parser.proofs.Sequences.{done_finishes, then_finishes, before_finishes, maybe_finishes, many_finishes, before_breaks, behind_breaks, before_passes, done_passes}
use Rattle.sgl_parser.proofs.Parts.{behind, pass_behind, absent, spawn_follows, rules_follow, shut_follows}
use Rattle.sgl_parser.specs.Shape.{kinds_of}
use Rattle.sgl_parser.specs.Scripts.{a_post}
use Rattle.sgl_parser.proofs.reading.Reader.post.Goals as goal

pub returns : goal.returns
returns c = record {
  passes = pass_behind c.in_ok-rest.ensures.list c.in_ok-rest.ensures.kind (before_passes (rules_follow _) c.in_ok-rules.ensures.passes (before_passes (spawn_follows _) c.in_ok-spawn.ensures.passes (before_passes (shut_follows _ _ _) c.in_ok-removal.ensures.passes (pass_behind c.in_ok-rest-2.ensures.list c.in_ok-rest-2.ensures.kind (done_passes (kinds_of c.in_ok-rest-2.rest.now))))));
  spells = rw c.in_ok-rest.ensures.list (a_post c.in_ok-rest.ensures.kind c.in_ok-rules.ensures.spells c.in_ok-spawn.ensures.spells (rw c.in_ok-rest-2.ensures.list at c.in_ok-removal.ensures.spells) c.in_ok-rest-2.ensures.kind);
  shorter = search rules;
  of = search rules;
}

pub returns-in_err-rest : goal.returns-in_err-rest
returns-in_err-rest c = token_missing c.from_residual.result _ c.from_residual.ensures.1 c.in_err-rest.ensures.err.0 (absent c.args.tokens.now (before_finishes many_finishes (before_finishes maybe_finishes (before_finishes maybe_finishes (then_finishes done_finishes)))) c.in_err-rest.ensures.err.1)

pub returns-in_err-rules : goal.returns-in_err-rules
returns-in_err-rules c = part_broken c.from_residual-in_err-rules.result _ _ c.from_residual-in_err-rules.ensures.1 (λ n f. (behind n c.in_ok-rest.ensures.list c.in_ok-rest.ensures.kind (before_breaks (rules_follow _) (before_finishes maybe_finishes (before_finishes maybe_finishes (then_finishes done_finishes))) n f))) c.in_err-rules.ensures

pub returns-in_err-spawn : goal.returns-in_err-spawn
returns-in_err-spawn c = part_broken c.from_residual-in_err-spawn.result _ _ c.from_residual-in_err-spawn.ensures.1 (λ n f. (behind n c.in_ok-rest.ensures.list c.in_ok-rest.ensures.kind (behind_breaks (rules_follow _) c.in_ok-rules.ensures.passes n (before_breaks (spawn_follows _) (before_finishes maybe_finishes (then_finishes done_finishes)) n f)))) c.in_err-spawn.ensures

pub returns-in_err-removal : goal.returns-in_err-removal
returns-in_err-removal c = part_broken c.from_residual-in_err-removal.result _ _ c.from_residual-in_err-removal.ensures.1 (λ n f. (behind n c.in_ok-rest.ensures.list c.in_ok-rest.ensures.kind (behind_breaks (rules_follow _) c.in_ok-rules.ensures.passes n (behind_breaks (spawn_follows _) c.in_ok-spawn.ensures.passes n (before_breaks (shut_follows _ _ _) (then_finishes done_finishes) n f))))) c.in_err-removal.ensures

pub returns-in_err-rest-2 : goal.returns-in_err-rest-2
returns-in_err-rest-2 c = token_missing c.from_residual-in_err-rest-2.result _ c.from_residual-in_err-rest-2.ensures.1 c.in_err-rest-2.ensures.err.0 (behind _ c.in_ok-rest.ensures.list c.in_ok-rest.ensures.kind (behind_breaks (rules_follow _) c.in_ok-rules.ensures.passes _ (behind_breaks (spawn_follows _) c.in_ok-spawn.ensures.passes _ (behind_breaks (shut_follows _ _ _) c.in_ok-removal.ensures.passes _ (absent c.in_ok-removal.rest.now done_finishes c.in_err-rest-2.ensures.err.1)))))
