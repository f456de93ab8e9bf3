use Rattle.std.proofs.Common.{rules}
use Rattle.sgl_parser.proofs.Returns.{token_missing, stopped}
use Rattle.sgl_parser.proofs.Sequences.{done_finishes, then_finishes, before_finishes, before_breaks, behind_breaks, before_passes, done_passes}
use Rattle.sgl_parser.proofs.Parts.{behind, pass_behind, absent, shut_follows}
use Rattle.sgl_parser.proofs.Blocks.{listed_passes, list_broken, arguments_finish}
use Rattle.sgl_parser.specs.Shape.{kinds_of}
use Rattle.sgl_parser.specs.Statements.{a_perform}
use Rattle.sgl_parser.proofs.reading.Reader.perform.Goals as goal

pub returns : goal.returns
returns c = record {
  passes = pass_behind c.in_ok-name.ensures.list c.in_ok-name.ensures.kind (pass_behind c.in_ok-rest.ensures.list c.in_ok-rest.ensures.kind (pass_behind c.in_ok-unit.ensures.list c.in_ok-unit.ensures.kind (before_passes (shut_follows _ _ _) (listed_passes c.in_ok-args.rest.now c.in_ok-args.ensures.listed c.in_ok-args.ensures.stops) (pass_behind c.in_ok-rest-2.ensures.list c.in_ok-rest-2.ensures.kind (pass_behind c.in_ok-rest-3.ensures.list c.in_ok-rest-3.ensures.kind (done_passes (kinds_of c.in_ok-rest-3.rest.now)))))));
  spells = rw (c.in_ok-name.ensures.list, c.in_ok-rest.ensures.list, c.in_ok-unit.ensures.list, c.in_ok-name-2.ensures.name, c.in_ok-unit-2.ensures.name) (a_perform c.in_ok-name.ensures.kind c.in_ok-rest.ensures.kind c.in_ok-unit.ensures.kind (rw (c.in_ok-rest-2.ensures.list, c.in_ok-rest-3.ensures.list) at c.in_ok-args.ensures.spells) c.in_ok-rest-2.ensures.kind c.in_ok-rest-3.ensures.kind);
  shorter = search rules;
  of = search rules;
}

pub returns-in_err-name : goal.returns-in_err-name
returns-in_err-name c = token_missing c.from_residual.result _ c.from_residual.ensures.1 c.in_err-name.ensures.err.0 (absent c.args.tokens.now (then_finishes (then_finishes (before_finishes arguments_finish (then_finishes (then_finishes done_finishes))))) c.in_err-name.ensures.err.1)

pub returns-in_err-rest : goal.returns-in_err-rest
returns-in_err-rest c = token_missing c.from_residual-in_err-rest.result _ c.from_residual-in_err-rest.ensures.1 c.in_err-rest.ensures.err.0 (behind _ c.in_ok-name.ensures.list c.in_ok-name.ensures.kind (absent c.in_ok-name.rest.now (then_finishes (before_finishes arguments_finish (then_finishes (then_finishes done_finishes)))) c.in_err-rest.ensures.err.1))

pub returns-in_err-unit : goal.returns-in_err-unit
returns-in_err-unit c = token_missing c.from_residual-in_err-unit.result _ c.from_residual-in_err-unit.ensures.1 c.in_err-unit.ensures.err.0 (behind _ c.in_ok-name.ensures.list c.in_ok-name.ensures.kind (behind _ c.in_ok-rest.ensures.list c.in_ok-rest.ensures.kind (absent c.in_ok-rest.rest.now (before_finishes arguments_finish (then_finishes (then_finishes done_finishes))) c.in_err-unit.ensures.err.1)))

pub returns-in_err-args : goal.returns-in_err-args
returns-in_err-args c = stopped c.from_residual-in_err-args.result _ _ _ c.from_residual-in_err-args.ensures.1 (list_broken c.in_err-args.field-0.0 (λ n f. (behind n c.in_ok-name.ensures.list c.in_ok-name.ensures.kind (behind n c.in_ok-rest.ensures.list c.in_ok-rest.ensures.kind (behind n c.in_ok-unit.ensures.list c.in_ok-unit.ensures.kind (before_breaks (shut_follows _ _ _) (then_finishes (then_finishes done_finishes)) n f))))) c.in_err-args.ensures.fails)

pub returns-in_err-rest-2 : goal.returns-in_err-rest-2
returns-in_err-rest-2 c = token_missing c.from_residual-in_err-rest-2.result _ c.from_residual-in_err-rest-2.ensures.1 c.in_err-rest-2.ensures.err.0 (behind _ c.in_ok-name.ensures.list c.in_ok-name.ensures.kind (behind _ c.in_ok-rest.ensures.list c.in_ok-rest.ensures.kind (behind _ c.in_ok-unit.ensures.list c.in_ok-unit.ensures.kind (behind_breaks (shut_follows _ _ _) (listed_passes c.in_ok-args.rest.now c.in_ok-args.ensures.listed c.in_ok-args.ensures.stops) _ (absent c.in_ok-args.rest.now (then_finishes done_finishes) c.in_err-rest-2.ensures.err.1)))))

pub returns-in_err-rest-3 : goal.returns-in_err-rest-3
returns-in_err-rest-3 c = token_missing c.from_residual-in_err-rest-3.result _ c.from_residual-in_err-rest-3.ensures.1 c.in_err-rest-3.ensures.err.0 (behind _ c.in_ok-name.ensures.list c.in_ok-name.ensures.kind (behind _ c.in_ok-rest.ensures.list c.in_ok-rest.ensures.kind (behind _ c.in_ok-unit.ensures.list c.in_ok-unit.ensures.kind (behind_breaks (shut_follows _ _ _) (listed_passes c.in_ok-args.rest.now c.in_ok-args.ensures.listed c.in_ok-args.ensures.stops) _ (behind _ c.in_ok-rest-2.ensures.list c.in_ok-rest-2.ensures.kind (absent c.in_ok-rest-2.rest.now done_finishes c.in_err-rest-3.ensures.err.1))))))
