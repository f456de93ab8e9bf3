use Rattle.std.proofs.Common.{List, ℕ, Some, inr, subst, sym, ◌∙◌}
use Rattle.battle_host.specs.Start.{PassesScript, UnitTextRefused}
use Rattle.battle_host.proofs.start.start_sample.Goals as goal

pub returns-clause-refused : goal.returns-clause-refused
returns-clause-refused c =
    let script = c.in-Ok-script_of.compiled.script in
    let e = c.without_units.result in
    inr (
      script,
      subst (λ (text : List ℕ). PassesScript (Some text) script) (c.as_slice.ensures ∙ c.in-Ok.ensures.script) c.in-Ok-script_of.ensures.passes,
      subst (λ (text : List ℕ). UnitTextRefused script.schema text e.status) (c.as_slice-2.ensures ∙ c.in-Ok.ensures.units)
          (subst (UnitTextRefused script.schema c.as_slice-2.result.now) (sym c.without_units.ensures.status) c.in-Err-table_of.ensures.refused),
      c.without_units.ensures.schema,
    )
