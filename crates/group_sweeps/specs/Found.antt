-- What sweeps find.
use Rattle.std.specs.Prelude.{◌≡◌, ℤ, pos, List, Contains, slice_get, Option, None, Some}
use Rattle.sgl_values.specs.World.{Row, World, row_at}
use Rattle.sgl_values.specs.declared.fault.Fault.{Fault as AFault}
use Rattle.sgl_values.specs.declared.fault.Val.{Val}
use Rattle.sgl_values.specs.declared.fault.Val.TheVariants.{N, F}
use Rattle.sgl_typed.specs.declared.script.Attr.{Attr}
use Rattle.sgl_typed.specs.Value.{attribute}
use Rattle.extreme_sweep.specs.declared.pair.Pair.{Pair}
use Rattle.group_sweeps.specs.declared.found.Found.{Found}
use Rattle.group_sweeps.specs.declared.found.Found.TheVariants.{Row as ARow, Nothing, Fault}

-- the row is what was found
abbrev pub IsRowOf : World → Found → Row → Type 0
IsRowOf world (ARow number) row = row_at world number ≡ row
IsRowOf world Nothing row = ⊥
IsRowOf world (Fault number) row = ⊥

-- nothing for no pair, and else each row of the world that has the key of the pair
abbrev pub IsFoundOf : World → Option Pair → Found → Type 0
IsFoundOf world None found = found ≡ Nothing
IsFoundOf world (Some pair) found = (row : Row) → Contains world.rows row → row.key ≡ pair.key → IsRowOf world found row

-- no fault past the end is asked for
abbrev pub fault_at : Option AFault → Val
fault_at None = N (pos 0)
fault_at (Some fault) = F fault

-- the value for what was found: an attribute of the row, what stands behind `else`, or the fault
abbrev pub found_value : World → Attr → ℤ → List AFault → Found → Val
found_value world target otherwise faults (ARow number) = N (attribute target (row_at world number))
found_value world target otherwise faults Nothing = N otherwise
found_value world target otherwise faults (Fault number) = fault_at (slice_get faults number)

-- the fault stands under the number that was found
abbrev pub IsFaultOf : List AFault → AFault → Found → Type 0
IsFaultOf faults fault (Fault number) = slice_get faults number ≡ Some fault
IsFaultOf faults fault (ARow number) = ⊥
IsFaultOf faults fault Nothing = ⊥

-- a fault takes the place of what was found, and nothing else does
abbrev pub IsPut : Option AFault → List AFault → Found → Found → Type 0
IsPut None faults old new = new ≡ old
IsPut (Some fault) faults old new = IsFaultOf faults fault new
