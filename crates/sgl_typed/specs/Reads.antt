-- The slots that are read and set, by a test that each of them passes.
use Rattle.std.specs.Prelude.{ℕ, nat_lt, ◌&&◌, Bool, true, List, [], ◌∷◌}
use Rattle.sgl_typed.specs.declared.script.TExpr.{TExpr, Row_of-TExpr, end_of-TExpr, more_of-TExpr}
use Rattle.sgl_typed.specs.declared.script.TExpr.TheVariants.{Slot, Agg', Neg', Not', Binary'}
use Rattle.sgl_typed.specs.declared.script.TStmt.{TStmt, Row_of-TStmt, end_of-TStmt, more_of-TStmt}
use Rattle.sgl_typed.specs.declared.script.TStmt.TheVariants.{Let, If', Act, Call}

-- the slots below a number
abbrev pub below : ℕ → ℕ → Bool
below bound slot = nat_lt slot bound

-- each slot that an expression reads passes
abbrev mutual
  pub reads_only : TExpr → (ℕ → Bool) → Bool
  reads_only (Slot slot) passes = passes slot
  reads_only (Agg' agg shape args place) passes = all_read_only args passes
  reads_only (Neg' shape (more_of-TExpr inner end_of-TExpr)) passes = reads_only inner passes
  reads_only (Not' shape (more_of-TExpr inner end_of-TExpr)) passes = reads_only inner passes
  reads_only (Binary' op shape (more_of-TExpr left end_of-TExpr) shape' (more_of-TExpr right end_of-TExpr) place) passes =
      reads_only left passes && reads_only right passes
  reads_only e passes = true

  pub all_read_only : {m : _} → Row_of-TExpr m → (ℕ → Bool) → Bool
  all_read_only end_of-TExpr passes = true
  all_read_only (more_of-TExpr e rest) passes = reads_only e passes && all_read_only rest passes

-- each slot that a list of expressions reads passes
abbrev pub list_reads_only : List TExpr → (ℕ → Bool) → Bool
list_reads_only [] passes = true
list_reads_only (e ∷ rest) passes = reads_only e passes && list_reads_only rest passes

-- each slot that a statement reads or sets passes; of a call, each that an argument reads
abbrev mutual
  pub statement_uses : TStmt → (ℕ → Bool) → Bool
  statement_uses (Let slot e place) passes = reads_only e passes && passes slot
  statement_uses (If' cond place shape taken shape' other) passes =
      reads_only cond passes && block_uses taken passes && block_uses other passes
  statement_uses (Act action args place) passes = list_reads_only args passes
  statement_uses (Call routine args places) passes = list_reads_only args passes

  pub block_uses : {m : _} → Row_of-TStmt m → (ℕ → Bool) → Bool
  block_uses end_of-TStmt passes = true
  block_uses (more_of-TStmt statement rest) passes = statement_uses statement passes && block_uses rest passes

-- each slot that a list of statements reads or sets passes
abbrev pub all_use : List TStmt → (ℕ → Bool) → Bool
all_use [] passes = true
all_use (statement ∷ rest) passes = statement_uses statement passes && all_use rest passes
