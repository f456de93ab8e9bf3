use Rattle.std.proofs.Common.{rules}
use Rattle.sgl_parser.proofs.Returns.{token_missing, part_broken}
use Rattle.sgl_parser.proofs.Sequences.{then_finishes}
use Rattle.sgl_parser.proofs.Parts.{behind, pass_behind, absent, block_finishes}
use Rattle.sgl_parser.specs.Scripts.{a_main}
use Rattle.sgl_parser.proofs.reading.Reader.main.Goals as goal

pub returns : goal.returns
returns c = record {
  passes = pass_behind c.in_ok-rest.ensures.list c.in_ok-rest.ensures.kind (pass_behind c.in_ok-unit.ensures.list c.in_ok-unit.ensures.kind (pass_behind c.in_ok-rest-2.ensures.list c.in_ok-rest-2.ensures.kind c.in_ok-body.ensures.passes));
  spells = rw (c.in_ok-rest.ensures.list, c.in_ok-unit.ensures.list, c.in_ok-rest-2.ensures.list, c.in_ok-unit-2.ensures.name) (a_main c.in_ok-rest.ensures.kind c.in_ok-unit.ensures.kind c.in_ok-rest-2.ensures.kind c.in_ok-body.ensures.spells);
  shorter = search rules;
  of = search rules;
}

pub returns-in_err-rest : goal.returns-in_err-rest
returns-in_err-rest c = token_missing c.from_residual.result _ c.from_residual.ensures.1 c.in_err-rest.ensures.err.0 (absent c.args.tokens.now (then_finishes (then_finishes block_finishes)) c.in_err-rest.ensures.err.1)

pub returns-in_err-unit : goal.returns-in_err-unit
returns-in_err-unit c = token_missing c.from_residual-in_err-unit.result _ c.from_residual-in_err-unit.ensures.1 c.in_err-unit.ensures.err.0 (behind _ c.in_ok-rest.ensures.list c.in_ok-rest.ensures.kind (absent c.in_ok-rest.rest.now (then_finishes block_finishes) c.in_err-unit.ensures.err.1))

pub returns-in_err-rest-2 : goal.returns-in_err-rest-2
returns-in_err-rest-2 c = token_missing c.from_residual-in_err-rest-2.result _ c.from_residual-in_err-rest-2.ensures.1 c.in_err-rest-2.ensures.err.0 (behind _ c.in_ok-rest.ensures.list c.in_ok-rest.ensures.kind (behind _ c.in_ok-unit.ensures.list c.in_ok-unit.ensures.kind (absent c.in_ok-unit.rest.now block_finishes c.in_err-rest-2.ensures.err.1)))

pub returns-in_err-body : goal.returns-in_err-body
returns-in_err-body c = part_broken c.from_residual-in_err-body.result _ _ c.from_residual-in_err-body.ensures.1 (λ n f. (behind n c.in_ok-rest.ensures.list c.in_ok-rest.ensures.kind (behind n c.in_ok-unit.ensures.list c.in_ok-unit.ensures.kind (behind n c.in_ok-rest-2.ensures.list c.in_ok-rest-2.ensures.kind f)))) c.in_err-body.ensures
