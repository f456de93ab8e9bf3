-- Rows that go to themselves.
use Rattle.std.proofs.Common.{ap, pos, refl, subst, sym, ◌∙◌, ◌<◌, ℕ, length}
use Rattle.std.proofs.lemmas.Bool.{false≢true}
use Rattle.sgl_typed.specs.declared.script.Attr.TheVariants.{Key}
use Rattle.sgl_typed.specs.declared.script.TExpr.TheVariants.{Unit as OfUnit}
use Rattle.sgl_values.specs.World.{row_at}
use Rattle.plan_executor.specs.Clauses.{aims_of, AreAims}
use Rattle.plan_executor.specs.Frames.{with_slots, Slots}
use Rattle.plan_executor.specs.Running.{base_of, IsInside}
use Rattle.plan_executor.specs.declared.run.Run.{Run}

-- those of a task do by their own keys
pub own_aims : (run : Run) (mask : ℕ) (slots : Slots) → IsInside run mask
    → AreAims run.tick.world.now.world (with_slots (base_of run) slots) (OfUnit Key) mask (aims_of mask run.own.now)
own_aims run mask slots inside = record {
  part = λ k own. own;
  key = λ k. pos (base_of run k).unit.key;
  asked = λ k own. refl;
  found = λ k own.
      let row = inside.is k own in
      let same = run.own_is k (inside.below k own) row in
      record {
        within = λ goes. subst (λ n. n < length run.tick.world.now.world.rows) (sym same) row;
        hit = λ goes. ap (λ n. pos (row_at run.tick.world.now.world n).key) same;
        miss = λ stays. absurd (false≢true (sym stays ∙ own));
      };
}
