-- The sizes that a script has once its routines are written out.
use Rattle.std.specs.Prelude.{ℕ, ◌+◌, max, List, [], ◌∷◌, ◌++◌, slice_index_or}
use Rattle.sgl_typed.specs.declared.script.TExpr.{TExpr, Row_of-TExpr, end_of-TExpr, more_of-TExpr}
use Rattle.sgl_typed.specs.declared.script.TExpr.TheVariants.{Agg', Neg', Not', Binary'}
use Rattle.sgl_typed.specs.declared.script.TRoutine.{TRoutine}
use Rattle.sgl_typed.specs.declared.script.TStmt.{TStmt, Row_of-TStmt, end_of-TStmt, more_of-TStmt}
use Rattle.sgl_typed.specs.declared.script.TStmt.TheVariants.{Let, If', Act, Call}

-- the nodes of an expression; a call of an aggregate counts one and its arguments
abbrev mutual
  pub nodes_of : TExpr → ℕ
  nodes_of (Agg' agg shape args place) = 1 + nodes_in args
  nodes_of (Neg' shape (more_of-TExpr inner end_of-TExpr)) = 1 + nodes_of inner
  nodes_of (Not' shape (more_of-TExpr inner end_of-TExpr)) = 1 + nodes_of inner
  nodes_of (Binary' op shape (more_of-TExpr left end_of-TExpr) shape' (more_of-TExpr right end_of-TExpr) place) =
      1 + (nodes_of left + nodes_of right)
  nodes_of e = 1

  pub nodes_in : {m : _} → Row_of-TExpr m → ℕ
  nodes_in end_of-TExpr = 0
  nodes_in (more_of-TExpr e rest) = nodes_of e + nodes_in rest

-- the nodes of a list of expressions
abbrev pub nodes_of_all : List TExpr → ℕ
nodes_of_all [] = 0
nodes_of_all (e ∷ rest) = nodes_of e + nodes_of_all rest

-- the nodes of a `let` for each argument
abbrev pub argument_nodes : List TExpr → ℕ
argument_nodes [] = 0
argument_nodes (e ∷ rest) = (1 + nodes_of e) + argument_nodes rest

-- the nodes of a statement, given those of the bodies of routines
abbrev mutual
  pub statement_nodes : List ℕ → TStmt → ℕ
  statement_nodes sizes (Let slot e place) = 1 + nodes_of e
  statement_nodes sizes (If' cond place shape taken shape' other) = (1 + nodes_of cond) + (block_nodes sizes taken + block_nodes sizes other)
  statement_nodes sizes (Act action args place) = 1 + nodes_of_all args
  statement_nodes sizes (Call routine args places) = argument_nodes args + slice_index_or sizes routine 0

  pub block_nodes : {m : _} → List ℕ → Row_of-TStmt m → ℕ
  block_nodes sizes end_of-TStmt = 0
  block_nodes sizes (more_of-TStmt statement rest) = statement_nodes sizes statement + block_nodes sizes rest

-- the nodes of a list of statements, given those of the bodies of routines
abbrev pub statements_nodes : List ℕ → List TStmt → ℕ
statements_nodes sizes [] = 0
statements_nodes sizes (statement ∷ rest) = statement_nodes sizes statement + statements_nodes sizes rest

-- the nodes of the body of each routine, behind those of the routines before
abbrev pub routines_nodes : List ℕ → List TRoutine → List ℕ
routines_nodes sizes [] = sizes
routines_nodes sizes (routine ∷ rest) = routines_nodes (sizes ++ statements_nodes sizes routine.body ∷ []) rest

-- the nodes of `main`
abbrev pub written_nodes : List TRoutine → List TStmt → ℕ
written_nodes routines main = statements_nodes (routines_nodes [] routines) main

-- how many blocks of an `if` stand in one another in a statement, given the same for the bodies of routines
abbrev mutual
  pub statement_depth : List ℕ → TStmt → ℕ
  statement_depth depths (Let slot e place) = 0
  statement_depth depths (If' cond place shape taken shape' other) = 1 + max (block_depth depths taken) (block_depth depths other)
  statement_depth depths (Act action args place) = 0
  statement_depth depths (Call routine args places) = slice_index_or depths routine 0

  pub block_depth : {m : _} → List ℕ → Row_of-TStmt m → ℕ
  block_depth depths end_of-TStmt = 0
  block_depth depths (more_of-TStmt statement rest) = max (statement_depth depths statement) (block_depth depths rest)

-- the same for a list of statements
abbrev pub statements_depth : List ℕ → List TStmt → ℕ
statements_depth depths [] = 0
statements_depth depths (statement ∷ rest) = max (statement_depth depths statement) (statements_depth depths rest)

-- the same for the body of each routine, behind those of the routines before
abbrev pub routines_depth : List ℕ → List TRoutine → List ℕ
routines_depth depths [] = depths
routines_depth depths (routine ∷ rest) = routines_depth (depths ++ statements_depth depths routine.body ∷ []) rest

-- the depth of blocks; the block of `main` has depth 1
abbrev pub written_depth : List TRoutine → List TStmt → ℕ
written_depth routines main = 1 + statements_depth (routines_depth [] routines) main
