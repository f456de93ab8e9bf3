use Rattle.std.proofs.Common.{rules}
use Rattle.sgl_parser.proofs.Returns.{token_missing, part_broken}
use Rattle.sgl_parser.proofs.Sequences.{done_finishes, then_finishes, before_finishes, maybe_finishes, many_finishes, before_breaks, behind_breaks, before_passes, done_passes}
use Rattle.sgl_parser.proofs.Parts.{behind, pass_behind, absent, write_finishes, anywhere, clause_follows, writes_follow}
use Rattle.sgl_parser.proofs.Listings.{first_and_more}
use Rattle.sgl_parser.specs.Shape.{kinds_of}
use Rattle.sgl_parser.specs.Scripts.{a_clause}
use Rattle.sgl_parser.proofs.reading.Reader.on.Goals as goal

pub returns : goal.returns
returns c =
    let found = c.in_ok-writes.ensures.spells in
    record {
      passes = pass_behind c.in_ok-row.ensures.list c.in_ok-row.ensures.kind (before_passes (clause_follows _ _) c.in_ok-tests.ensures.passes (pass_behind c.in_ok-rest.ensures.list c.in_ok-rest.ensures.kind (before_passes (anywhere _ _) c.in_ok-first.ensures.passes (before_passes (writes_follow _) c.in_ok-writes.ensures.passes (pass_behind c.in_ok-rest-2.ensures.list c.in_ok-rest-2.ensures.kind (done_passes (kinds_of c.in_ok-rest-2.rest.now)))))));
      spells = rw (c.in_ok-row.ensures.list, c.in_ok-row-2.ensures.name, first_and_more c.new-before.ensures c.in_ok-push.ensures.ok found.1) (a_clause c.in_ok-row.ensures.kind (rw c.in_ok-rest.ensures.list at c.in_ok-tests.ensures.spells) c.in_ok-rest.ensures.kind c.in_ok-first.ensures.spells (rw c.in_ok-rest-2.ensures.list at found.2) c.in_ok-rest-2.ensures.kind);
      shorter = search rules;
      of = search rules;
    }

pub returns-in_err-row : goal.returns-in_err-row
returns-in_err-row c = token_missing c.from_residual.result _ c.from_residual.ensures.1 c.in_err-row.ensures.err.0 (absent c.args.tokens.now (before_finishes maybe_finishes (then_finishes (before_finishes write_finishes (before_finishes many_finishes (then_finishes done_finishes))))) c.in_err-row.ensures.err.1)

pub returns-in_err-tests : goal.returns-in_err-tests
returns-in_err-tests c = part_broken c.from_residual-in_err-tests.result _ _ c.from_residual-in_err-tests.ensures.1 (λ n f. (behind n c.in_ok-row.ensures.list c.in_ok-row.ensures.kind (before_breaks (clause_follows _ _) (then_finishes (before_finishes write_finishes (before_finishes many_finishes (then_finishes done_finishes)))) n f))) c.in_err-tests.ensures

pub returns-in_err-rest : goal.returns-in_err-rest
returns-in_err-rest c = token_missing c.from_residual-in_err-rest.result _ c.from_residual-in_err-rest.ensures.1 c.in_err-rest.ensures.err.0 (behind _ c.in_ok-row.ensures.list c.in_ok-row.ensures.kind (behind_breaks (clause_follows _ _) c.in_ok-tests.ensures.passes _ (absent c.in_ok-tests.rest.now (before_finishes write_finishes (before_finishes many_finishes (then_finishes done_finishes))) c.in_err-rest.ensures.err.1)))

pub returns-in_err-first : goal.returns-in_err-first
returns-in_err-first c = part_broken c.from_residual-in_err-first.result _ _ c.from_residual-in_err-first.ensures.1 (λ n f. (behind n c.in_ok-row.ensures.list c.in_ok-row.ensures.kind (behind_breaks (clause_follows _ _) c.in_ok-tests.ensures.passes n (behind n c.in_ok-rest.ensures.list c.in_ok-rest.ensures.kind (before_breaks (anywhere _ _) (before_finishes many_finishes (then_finishes done_finishes)) n f))))) c.in_err-first.ensures

pub returns-in_err-writes : goal.returns-in_err-writes
returns-in_err-writes c = part_broken c.from_residual-in_err-writes.result _ _ c.from_residual-in_err-writes.ensures.1 (λ n f. (behind n c.in_ok-row.ensures.list c.in_ok-row.ensures.kind (behind_breaks (clause_follows _ _) c.in_ok-tests.ensures.passes n (behind n c.in_ok-rest.ensures.list c.in_ok-rest.ensures.kind (behind_breaks (anywhere _ _) c.in_ok-first.ensures.passes n (before_breaks (writes_follow _) (then_finishes done_finishes) n f)))))) c.in_err-writes.ensures

pub returns-in_err-rest-2 : goal.returns-in_err-rest-2
returns-in_err-rest-2 c = token_missing c.from_residual-in_err-rest-2.result _ c.from_residual-in_err-rest-2.ensures.1 c.in_err-rest-2.ensures.err.0 (behind _ c.in_ok-row.ensures.list c.in_ok-row.ensures.kind (behind_breaks (clause_follows _ _) c.in_ok-tests.ensures.passes _ (behind _ c.in_ok-rest.ensures.list c.in_ok-rest.ensures.kind (behind_breaks (anywhere _ _) c.in_ok-first.ensures.passes _ (behind_breaks (writes_follow _) c.in_ok-writes.ensures.passes _ (absent c.in_ok-writes.rest.now done_finishes c.in_err-rest-2.ensures.err.1))))))
