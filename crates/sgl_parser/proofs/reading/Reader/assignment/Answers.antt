use Rattle.std.proofs.Common.{rules}
use Rattle.sgl_parser.proofs.Returns.{token_missing, part_broken}
use Rattle.sgl_parser.proofs.Sequences.{then_finishes}
use Rattle.sgl_parser.proofs.Parts.{behind, pass_behind, absent, value_finishes}
use Rattle.sgl_parser.specs.Scripts.{a_rule}
use Rattle.sgl_parser.specs.Statements.{a_let}
use Rattle.sgl_parser.proofs.reading.Reader.assignment.Goals as goal

pub returns : goal.returns
returns c = record {
  passes = pass_behind c.in_ok-name.ensures.list c.in_ok-name.ensures.kind (pass_behind c.in_ok-rest.ensures.list c.in_ok-rest.ensures.kind c.in_ok-value.ensures.passes);
  spells = (rw (c.in_ok-name.ensures.list, c.in_ok-rest.ensures.list, c.in_ok-name-2.ensures.name) (a_let c.in_ok-name.ensures.kind c.in_ok-rest.ensures.kind c.in_ok-value.ensures.spells), rw (c.in_ok-name.ensures.list, c.in_ok-rest.ensures.list, c.in_ok-name-2.ensures.name) (a_rule c.in_ok-name.ensures.kind c.in_ok-rest.ensures.kind c.in_ok-value.ensures.spells));
  shorter = search rules;
  of = search rules;
}

pub returns-in_err-name : goal.returns-in_err-name
returns-in_err-name c = token_missing c.from_residual.result _ c.from_residual.ensures.1 c.in_err-name.ensures.err.0 (absent c.args.tokens.now (then_finishes value_finishes) c.in_err-name.ensures.err.1)

pub returns-in_err-rest : goal.returns-in_err-rest
returns-in_err-rest c = token_missing c.from_residual-in_err-rest.result _ c.from_residual-in_err-rest.ensures.1 c.in_err-rest.ensures.err.0 (behind _ c.in_ok-name.ensures.list c.in_ok-name.ensures.kind (absent c.in_ok-name.rest.now value_finishes c.in_err-rest.ensures.err.1))

pub returns-in_err-value : goal.returns-in_err-value
returns-in_err-value c = part_broken c.from_residual-in_err-value.result _ _ c.from_residual-in_err-value.ensures.1 (λ n f. (behind n c.in_ok-name.ensures.list c.in_ok-name.ensures.kind (behind n c.in_ok-rest.ensures.list c.in_ok-rest.ensures.kind f))) c.in_err-value.ensures
