use Rattle.std.proofs.Common.{rules}
use Rattle.sgl_parser.proofs.Returns.{token_missing, part_broken}
use Rattle.sgl_parser.proofs.Sequences.{then_finishes, before_finishes, many_finishes, before_breaks, behind_breaks, before_passes}
use Rattle.sgl_parser.proofs.Parts.{behind, pass_behind, absent, on_finishes, anywhere}
use Rattle.sgl_parser.proofs.Listings.{first_and_more}
use Rattle.sgl_parser.specs.Scripts.{one_on, an_action}
use Rattle.sgl_parser.proofs.reading.Reader.action.Goals as goal

pub returns : goal.returns
returns c =
    let found = c.in_ok-ons.ensures.spells in
    record {
      passes = before_passes (anywhere _ _) c.in_ok-heading.ensures.passes (pass_behind c.in_ok-word.ensures.list c.in_ok-word.ensures.kind (before_passes (anywhere _ _) c.in_ok-first.ensures.passes c.in_ok-ons.ensures.passes));
      spells = rw (first_and_more c.new-before.ensures c.in_ok-push.ensures.ok found.1) (an_action {vs = c.in_ok-first.rest.now} {x = c.in_ok-first.first} c.in_ok-heading.ensures.spells (rw c.in_ok-word.ensures.list (one_on c.in_ok-word.ensures.kind c.in_ok-first.ensures.spells)) found.2);
      shorter = search rules;
      of = search rules;
    }

pub returns-in_err-heading : goal.returns-in_err-heading
returns-in_err-heading c = part_broken c.from_residual.result _ _ c.from_residual.ensures.1 (λ n f. (before_breaks (anywhere _ _) (then_finishes (before_finishes on_finishes many_finishes)) n f)) c.in_err-heading.ensures

pub returns-in_err-word : goal.returns-in_err-word
returns-in_err-word c = token_missing c.from_residual-in_err-word.result _ c.from_residual-in_err-word.ensures.1 c.in_err-word.ensures.err.0 (behind_breaks (anywhere _ _) c.in_ok-heading.ensures.passes _ (absent c.in_ok-heading.rest.now (before_finishes on_finishes many_finishes) c.in_err-word.ensures.err.1))

pub returns-in_err-first : goal.returns-in_err-first
returns-in_err-first c = part_broken c.from_residual-in_err-first.result _ _ c.from_residual-in_err-first.ensures.1 (λ n f. (behind_breaks (anywhere _ _) c.in_ok-heading.ensures.passes n (behind n c.in_ok-word.ensures.list c.in_ok-word.ensures.kind (before_breaks (anywhere _ _) many_finishes n f)))) c.in_err-first.ensures

pub returns-in_err-ons : goal.returns-in_err-ons
returns-in_err-ons c = part_broken c.from_residual-in_err-ons.result _ _ c.from_residual-in_err-ons.ensures.1 (λ n f. (behind_breaks (anywhere _ _) c.in_ok-heading.ensures.passes n (behind n c.in_ok-word.ensures.list c.in_ok-word.ensures.kind (behind_breaks (anywhere _ _) c.in_ok-first.ensures.passes n f)))) c.in_err-ons.ensures
