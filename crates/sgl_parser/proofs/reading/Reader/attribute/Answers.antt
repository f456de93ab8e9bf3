use Rattle.std.proofs.Common.{rules}
use Rattle.sgl_parser.proofs.Returns.{token_missing, part_broken}
use Rattle.sgl_parser.proofs.Parts.{behind, pass_behind, absent, sort_finishes}
use Rattle.sgl_parser.specs.Scripts.{an_attribute}
use Rattle.sgl_parser.proofs.reading.Reader.attribute.Goals as goal

pub returns : goal.returns
returns c = record {
  passes = pass_behind c.in_ok-name.ensures.list c.in_ok-name.ensures.kind c.in_ok-sort.ensures.passes;
  spells = rw (c.in_ok-name.ensures.list, c.in_ok-name-2.ensures.name) (an_attribute c.in_ok-name.ensures.kind c.in_ok-sort.ensures.spells);
  shorter = search rules;
  of = search rules;
}

pub returns-in_err-name : goal.returns-in_err-name
returns-in_err-name c = token_missing c.from_residual.result _ c.from_residual.ensures.1 c.in_err-name.ensures.err.0 (absent c.args.tokens.now sort_finishes c.in_err-name.ensures.err.1)

pub returns-in_err-sort : goal.returns-in_err-sort
returns-in_err-sort c = part_broken c.from_residual-in_err-sort.result _ _ c.from_residual-in_err-sort.ensures.1 (λ n f. (behind n c.in_ok-name.ensures.list c.in_ok-name.ensures.kind f)) c.in_err-sort.ensures
