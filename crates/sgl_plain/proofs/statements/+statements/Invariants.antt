use Rattle.std.proofs.Common.{drop}
use Rattle.sgl_typed.specs.Items.{items}
use Rattle.sgl_plain.specs.Acting.{acting_context}
use Rattle.sgl_plain.specs.Leads.{Leads}
use Rattle.sgl_plain.specs.Restored.{IsLogged}
use Rattle.sgl_plain.proofs.statements.+statements.Given as goal

abbrev pub invariant-block-loop-statement : goal.invariant-block-loop-statement
invariant-block-loop-statement l = record {
  adds : Leads l.initial.out l.out (items (drop l.statement-index l.statements) (acting_context l.acting l.slots.values.items)) (items l.statements (acting_context l.acting l.initial.slots.values.items));
  behind : IsLogged l.initial.slots l.slots;
}
