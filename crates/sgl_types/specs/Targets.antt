-- The attribute that a write or an assignment goes to: its number, and the rules that its name breaks.
use Rattle.std.specs.Prelude.{ℕ, List}
use Rattle.sgl_values.specs.declared.place.Place.{Place}
use Rattle.sgl_types.specs.declared.declared.AttrName.{AttrName}
use Rattle.sgl_types.specs.declared.finding.Finding.{Finding}
use Rattle.sgl_types.specs.declared.targets.Target.{Target}
use Rattle.sgl_types.specs.declared.targets.Target.TheVariants as targets
use Rattle.sgl_types.specs.Items.{written_faults, assigned_faults}
use Rattle.sgl_types.specs.TypedItems.{effect_number, const_number}

-- the number of the attribute, or 0 where the name stands for none of this sort
abbrev pub target_number : Target → AttrName → ℕ
target_number targets.Effect name = effect_number name
target_number targets.Const name = const_number name

abbrev pub target_faults : Target → AttrName → Place → List Finding
target_faults targets.Effect name place = written_faults name place
target_faults targets.Const name place = assigned_faults name place
