-- Scripts in which all routines are written out.
use Rattle.std.specs.Prelude.{◌==◌, ◌&&◌, nat_le, Bool, true, false, List, [], ◌∷◌, length}
use Rattle.sgl_typed.specs.declared.script.TScript.{TScript}
use Rattle.sgl_typed.specs.declared.script.TStmt.{TStmt, Row_of-TStmt, end_of-TStmt, more_of-TStmt}
use Rattle.sgl_typed.specs.declared.script.TStmt.TheVariants.{Let, If', Act, Call}
use Rattle.sgl_typed.specs.Sizes.{written_nodes, written_depth}
use Rattle.sgl_typed.specs.WellFormed.{slots_of_all}
use Rattle.sgl_values.specs.declared.limit.TheConstants.{DEPTH_MAX, NODES_MAX}

-- no routine is called in a statement
abbrev mutual
  pub calls_none : TStmt → Bool
  calls_none (Let slot e place) = true
  calls_none (If' cond place shape taken shape' other) = block_calls_none taken && block_calls_none other
  calls_none (Act action args place) = true
  calls_none (Call routine args places) = false

  pub block_calls_none : {m : _} → Row_of-TStmt m → Bool
  block_calls_none end_of-TStmt = true
  block_calls_none (more_of-TStmt statement rest) = calls_none statement && block_calls_none rest

-- no routine is called in a list of statements
abbrev pub all_call_none : List TStmt → Bool
all_call_none [] = true
all_call_none (statement ∷ rest) = calls_none statement && all_call_none rest

-- no routines and no calls, a slot for each `let`, at most 20,000 nodes and blocks at most 256 deep
unfoldable pub is_written_out : TScript → Bool
is_written_out script =
    (length script.routines == 0)
    && all_call_none script.main
    && (script.slots == length (slots_of_all script.main))
    && nat_le (written_nodes script.routines script.main) NODES_MAX
    && nat_le (written_depth script.routines script.main) DEPTH_MAX
