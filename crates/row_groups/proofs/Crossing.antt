-- The second values of rows are among those of all rows.
use Rattle.std.proofs.Common.{◌≡◌, ℤ, Option, List, [], get_or, sym, ◌∙◌, subst, arith}
use Rattle.std.specs.Prelude.{All}
use Rattle.std.specs.List.{Contains}
use Rattle.std.specs.List.Sorted.{IsPermutation}
use Rattle.std.proofs.lemmas.List.{get_or-map, length-map}
use Rattle.std.proofs.lemmas.List.Elements.{Contains-get_or}
use Rattle.std.proofs.lemmas.List.Sorted.{Contains-permutation}
use Rattle.sgl_values.specs.World.{Row, World, row_at}
use Rattle.sgl_typed.specs.declared.script.Attr.{Attr}
use Rattle.row_groups.specs.declared.ranked.Ranked.{Ranked}
use Rattle.row_groups.specs.Across.{values_across}
use Rattle.row_groups.specs.Keys.{along}
use Rattle.row_groups.specs.Ranked.{IsAcross}

module _ (across : Option Attr) (world : World) where
  -- that of one row
  one-among : (ranked : Ranked) → IsAcross across world ranked → Contains (values_across across world) ranked.across
  one-among ranked is =
      let none : Row = record { key = 0; values = [] } in
      let at : get_or (values_across across world) ranked.row (along across none) ≡ along across (row_at world ranked.row) =
      get_or-map (along across) world.rows ranked.row none (along across none) is.0 in
      subst (Contains (values_across across world)) (at ∙ sym is.1)
      (Contains-get_or (values_across across world) ranked.row (along across none) (omega (arith, is.0, length-map world.rows (along across))))

  -- those of rows, among values in another order
  pub all-among : (rows : List Ranked) (table : List ℤ) → All (IsAcross across world) rows → IsPermutation (values_across across world) table
      → All (λ ranked. Contains table ranked.across) rows
  all-among rows table each values k d inside =
      let ranked = get_or rows k d in
      Contains-permutation (values_across across world) table ranked.across values (one-among ranked (each k d inside))
