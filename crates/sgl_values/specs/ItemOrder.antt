-- The orders of faults.
use Rattle.std.specs.Prelude.{ℕ}
use Rattle.std.specs.Ordering.{nat_cmp, on, then_cmp}
use Rattle.std.specs.declared.cmp.Ordering.{Ordering}
use Rattle.sgl_values.specs.declared.fault.ArithFault.{ArithFault}
use Rattle.sgl_values.specs.declared.fault.ArithFault.TheVariants.{Overflow, ZeroDivisor, Priority}
use Rattle.sgl_values.specs.declared.fault.Fault.{Fault}
use Rattle.sgl_values.specs.declared.item.ItemFault.{ItemFault}
use Rattle.sgl_values.specs.declared.place.Place.{Place}

-- an overflow stands before a zero divisor, and that before a priority
abbrev pub kind_number : ArithFault → ℕ
kind_number Overflow = 0
kind_number ZeroDivisor = 1
kind_number Priority = 2

-- by line, and then by column
abbrev pub place_cmp : Place → Place → Ordering
place_cmp = then_cmp (on (λ place. place.line) nat_cmp) (on (λ place. place.col) nat_cmp)

-- faults go by place, and then by kind
abbrev pub fault_cmp : Fault → Fault → Ordering
fault_cmp = then_cmp (on (λ fault. fault.place) place_cmp) (on (λ fault. kind_number fault.kind) nat_cmp)

-- faults of items go by the key of the unit, the place, the key of the target, and then by kind
abbrev pub item_fault_cmp : ItemFault → ItemFault → Ordering
item_fault_cmp =
    then_cmp (on (λ item. item.key) nat_cmp)
    (then_cmp (on (λ item. item.fault.place) place_cmp)
    (then_cmp (on (λ item. item.target) nat_cmp) (on (λ item. kind_number item.fault.kind) nat_cmp)))
