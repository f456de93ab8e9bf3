use Rattle.std.proofs.Common.{◌∙◌, length, ap, arith}
use Rattle.std.proofs.lemmas.List.{length-map}
use Rattle.sgl_values.specs.World.{Row}
use Rattle.row_groups.specs.Keys.{four_of, row_values}
use Rattle.row_groups.proofs.numbering.number_rows.Goals as goal

pub number_keys-requires : goal.number_keys-requires
number_keys-requires g c =
    omega (arith, c.requires, ap length (c.as_slice.ensures.value ∙ c.in_ok-keys.ensures), length-map c.args.world.now.world.rows (λ (row : Row). four_of (row_values c.args.attrs.now row)))
