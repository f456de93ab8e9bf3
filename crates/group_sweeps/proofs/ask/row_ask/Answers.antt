use Rattle.std.proofs.Common.{List, [], ◌∙◌, ap, sym, length, refl, subst}
use Rattle.sgl_values.specs.declared.fault.Val.{Val}
use Rattle.sgl_typed.specs.Aggregate.{simple_value}
use Rattle.sgl_typed.specs.Value.{Context}
use Rattle.sgl_evaluate.specs.Forms.{HaveLiterals}
use Rattle.sgl_evaluate.proofs.Forming.{HaveLiterals-values}
use Rattle.group_sweeps.specs.Acting.{row_context}
use Rattle.group_sweeps.specs.Asks.{IsRowAsk}
use Rattle.group_sweeps.proofs.Asking.{filled}
use Rattle.group_sweeps.proofs.ask.row_ask.Goals as goal

pub frame_ask-requires-clause-forms : goal.frame_ask-requires-clause-forms
frame_ask-requires-clause-forms c = λ forms is.
    let a = c.args.of.now in
    let before = row_context a.tick.script.now a.tick.world.now.world a.tick.seed c.args.row [] in
    record {
      args = a.args.now;
      are = c.requires.forms forms is;
      literals = subst (HaveLiterals a.args.now)
          (sym (ap (λ (x : Context). x.slots) c.with_slots.ensures.context ∙ filled (simple_value before) a.args.now c.evaluate_args.new.buffer (length a.args.now) refl c.requires.few c.evaluate_args.ensures.values))
          (HaveLiterals-values before a.args.now);
    }

pub returns : goal.returns
returns c =
    let a = c.args.of.now in
    let P : Context → Type 0 = λ x. IsRowAsk x a.tests.now a.groups.now c.frame_ask.result in
    subst P (c.with_slots.ensures.context ∙ ap (λ (s : List Val). row_context a.tick.script.now a.tick.world.now.world a.tick.seed c.args.row s)
    (filled (simple_value (row_context a.tick.script.now a.tick.world.now.world a.tick.seed c.args.row [])) a.args.now c.evaluate_args.new.buffer (length a.args.now) refl c.requires.few c.evaluate_args.ensures.values)) c.frame_ask.ensures
