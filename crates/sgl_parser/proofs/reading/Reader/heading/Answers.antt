use Rattle.sgl_parser.proofs.Returns.{token_missing, part_broken, then_reads}
use Rattle.sgl_parser.proofs.Parts.{behind, absent, parameters_finish}
use Rattle.sgl_parser.specs.Scripts.{a_heading}
use Rattle.sgl_parser.proofs.reading.Reader.heading.Goals as goal

pub returns : goal.returns
returns c = then_reads c.in_ok-name.ensures.list c.in_ok-name.ensures.kind c.in_ok-params.ensures (rw (c.in_ok-name.ensures.list, c.in_ok-name-2.ensures.name) (a_heading c.in_ok-name.ensures.kind c.in_ok-params.ensures.spells))

pub returns-in_err-name : goal.returns-in_err-name
returns-in_err-name c = token_missing c.from_residual.result _ c.from_residual.ensures.1 c.in_err-name.ensures.err.0 (absent c.args.tokens.now parameters_finish c.in_err-name.ensures.err.1)

pub returns-in_err-params : goal.returns-in_err-params
returns-in_err-params c = part_broken c.from_residual-in_err-params.result _ _ c.from_residual-in_err-params.ensures.1 (λ n f. (behind n c.in_ok-name.ensures.list c.in_ok-name.ensures.kind f)) c.in_err-params.ensures
