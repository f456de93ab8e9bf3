-- What stands in a column of slots, and the rows that columns make.
use Rattle.std.specs.Prelude.{ℕ, ℤ, pos, Bool, true, false, List, map, slice_index_or}
use Rattle.std.specs.List.{range_with_len}
use Rattle.std.specs.Ordering.{int_eq}
use Rattle.sgl_values.specs.declared.fault.ArithFault.TheVariants.{Overflow}
use Rattle.sgl_values.specs.declared.fault.Fault.{Fault}
use Rattle.sgl_values.specs.declared.fault.Val.{Val}
use Rattle.sgl_values.specs.declared.fault.Val.TheVariants.{N, B, F}
use Rattle.sgl_lanes.specs.Lanes.{has, lane_of}
use Rattle.task_scratch.specs.declared.slot_column.SlotColumn.{SlotColumn}

-- by whether a row is among the faulty and among the truths: its fault, or the value for which its number stands
abbrev pub value_by : Bool → Bool → ℤ → Fault → Val
value_by true truth z f = F f
value_by false true z f = B (int_eq z (pos 1))
value_by false false z f = N z

-- what is read past the last fault
abbrev pub fault_past : Fault
fault_past = record { kind = Overflow; place = record { line = 1; col = 1 } }

-- the value of a row
abbrev pub value_in : SlotColumn → ℕ → Val
value_in column row =
    value_by (has column.faulty row) (has column.truths row) (lane_of column.numbers row) (slice_index_or column.faults row fault_past)

-- the values of a row in each of the columns
abbrev pub row_in : List SlotColumn → ℕ → List Val
row_in columns row = map (λ column. value_in column row) columns

-- the 64 rows of the columns
unfoldable pub rows_in : List SlotColumn → List (List Val)
rows_in columns = map (row_in columns) (range_with_len 0 64)
