use Rattle.std.proofs.Common.{rules}
use Rattle.sgl_parser.proofs.Returns.{token_missing, part_broken}
use Rattle.sgl_parser.proofs.Sequences.{done_finishes, then_finishes, before_finishes, many_finishes, before_breaks, behind_breaks, before_passes, done_passes}
use Rattle.sgl_parser.proofs.Parts.{behind, pass_behind, absent, shut_follows}
use Rattle.sgl_parser.proofs.Listings.{first_and_more}
use Rattle.sgl_parser.specs.Shape.{kinds_of}
use Rattle.sgl_parser.specs.Scripts.{parameters}
use Rattle.sgl_parser.proofs.reading.Reader.parameters.Goals as goal

pub returns : goal.returns
returns c =
    let found = c.in_ok-names.ensures.spells in
    let all = first_and_more c.new-first.ensures c.in_ok-push.ensures.ok found.1 in
    record {
      passes = pass_behind c.in_ok-rest.ensures.list c.in_ok-rest.ensures.kind (pass_behind c.in_ok-unit.ensures.list c.in_ok-unit.ensures.kind (before_passes (shut_follows _ _ _) c.in_ok-names.ensures.passes (pass_behind c.in_ok-rest-2.ensures.list c.in_ok-rest-2.ensures.kind (done_passes (kinds_of c.in_ok-rest-2.rest.now)))));
      spells = rw (c.in_ok-rest.ensures.list, c.in_ok-unit.ensures.list, all, c.in_ok-unit-2.ensures.name) (parameters c.in_ok-rest.ensures.kind c.in_ok-unit.ensures.kind (rw c.in_ok-rest-2.ensures.list at found.2) c.in_ok-rest-2.ensures.kind);
      shorter = search rules;
      of = search rules;
    }

pub returns-in_err-rest : goal.returns-in_err-rest
returns-in_err-rest c = token_missing c.from_residual.result _ c.from_residual.ensures.1 c.in_err-rest.ensures.err.0 (absent c.args.tokens.now (then_finishes (before_finishes many_finishes (then_finishes done_finishes))) c.in_err-rest.ensures.err.1)

pub returns-in_err-unit : goal.returns-in_err-unit
returns-in_err-unit c = token_missing c.from_residual-in_err-unit.result _ c.from_residual-in_err-unit.ensures.1 c.in_err-unit.ensures.err.0 (behind _ c.in_ok-rest.ensures.list c.in_ok-rest.ensures.kind (absent c.in_ok-rest.rest.now (before_finishes many_finishes (then_finishes done_finishes)) c.in_err-unit.ensures.err.1))

pub returns-in_err-names : goal.returns-in_err-names
returns-in_err-names c = part_broken c.from_residual-in_err-names.result _ _ c.from_residual-in_err-names.ensures.1 (λ n f. (behind n c.in_ok-rest.ensures.list c.in_ok-rest.ensures.kind (behind n c.in_ok-unit.ensures.list c.in_ok-unit.ensures.kind (before_breaks (shut_follows _ _ _) (then_finishes done_finishes) n f)))) c.in_err-names.ensures

pub returns-in_err-rest-2 : goal.returns-in_err-rest-2
returns-in_err-rest-2 c = token_missing c.from_residual-in_err-rest-2.result _ c.from_residual-in_err-rest-2.ensures.1 c.in_err-rest-2.ensures.err.0 (behind _ c.in_ok-rest.ensures.list c.in_ok-rest.ensures.kind (behind _ c.in_ok-unit.ensures.list c.in_ok-unit.ensures.kind (behind_breaks (shut_follows _ _ _) c.in_ok-names.ensures.passes _ (absent c.in_ok-names.rest.now done_finishes c.in_err-rest-2.ensures.err.1))))
