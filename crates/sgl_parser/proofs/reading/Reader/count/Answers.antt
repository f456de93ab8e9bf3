use Rattle.std.proofs.Common.{rules}
use Rattle.sgl_parser.proofs.Returns.{token_missing}
use Rattle.sgl_parser.proofs.Sequences.{done_finishes, done_passes}
use Rattle.sgl_parser.proofs.Parts.{pass_behind, absent}
use Rattle.sgl_parser.specs.Shape.{kinds_of}
use Rattle.sgl_parser.specs.Scripts.{a_count}
use Rattle.sgl_parser.proofs.reading.Reader.count.Goals as goal

pub returns : goal.returns
returns c = record {
  passes = pass_behind c.in_ok-row.ensures.list c.in_ok-row.ensures.kind (done_passes (kinds_of c.in_ok-row.rest.now));
  spells = rw (c.in_ok-row.ensures.list, c.in_ok-row-2.ensures.name) (a_count c.in_ok-row.ensures.kind);
  shorter = search rules;
  of = search rules;
}

pub returns-in_err-row : goal.returns-in_err-row
returns-in_err-row c = token_missing c.from_residual.result _ c.from_residual.ensures.1 c.in_err-row.ensures.err.0 (absent c.args.tokens.now done_finishes c.in_err-row.ensures.err.1)
