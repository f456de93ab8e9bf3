-- Counts up to the greatest number of 64 bits.
use Rattle.std.proofs.Common.{◌≡◌, ℕ, ◌+◌, ◌≤◌, max, List, [], ◌∷◌, ◌++◌, map, slice_index_or, refl, ap, sym, ◌∙◌, arith}
use Rattle.sgl_typed.specs.declared.script.TRoutine.{TRoutine}
use Rattle.sgl_typed.specs.declared.script.TStmt.{TStmt, Row_of-TStmt, end_of-TStmt, more_of-TStmt}
use Rattle.sgl_typed.specs.declared.script.TStmt.TheVariants.{Let, If', Act, Call}
use Rattle.sgl_typed.specs.Sizes.{nodes_of, argument_nodes, statement_nodes, block_nodes, statements_nodes, routines_nodes, written_nodes, statement_depth, block_depth, statements_depth, routines_depth, written_depth}
use Rattle.sgl_typed.proofs.Equations.{nodes-Neg, nodes-Not, nodes-Binary, nodes-Agg, nodes-If, depth-If}
use Rattle.sgl_expand.specs.Sizes.{capped, capped_nodes, capped_depths}

pub capped-sum : (a b : ℕ) → capped (capped a + capped b) ≡ capped (a + b)
capped-sum a b = grind (arith)

pub capped-left : (a b : ℕ) → capped (capped a + b) ≡ capped (a + b)
capped-left a b = grind (arith)

pub capped-right : (a b : ℕ) → capped (a + capped b) ≡ capped (a + b)
capped-right a b = grind (arith)

pub capped-max : (a b : ℕ) → max (capped a) (capped b) ≡ capped (max a b)
capped-max a b = grind (arith)

pub capped-twice : (a : ℕ) → capped (capped a) ≡ capped a
capped-twice a = grind (arith)

pub ruleset size_equations = (capped-sum, capped-left, capped-right, capped-max, nodes-Neg, nodes-Not, nodes-Binary, nodes-Agg, nodes-If, depth-If)

-- one node more than two parts have
pub one-and-two : (m n x y s r : ℕ) → x ≡ capped m → y ≡ capped n → s ≡ capped (x + y) → r ≡ capped (1 + s) → r ≡ capped (1 + (m + n))
one-and-two m n x y s r x-is y-is s-is r-is = grind (arith)

-- the nodes of an `if`, by those of its condition and of its blocks
pub of-if : (c m n k x y q s r : ℕ) → k ≡ capped c → x ≡ capped m → y ≡ capped n → q ≡ capped (1 + k) → s ≡ capped (x + y) → r ≡ capped (q + s) → r ≡ capped ((1 + c) + (m + n))
of-if c m n k x y q s r k-is x-is y-is q-is s-is r-is =
    let front : q ≡ capped (1 + c) = q-is ∙ ap (λ n. capped (1 + n)) k-is ∙ capped-right 1 c in
    let back : s ≡ capped (m + n) = s-is ∙ (λ i. capped (x-is i + y-is i)) ∙ capped-sum m n in
    r-is ∙ (λ i. capped (front i + back i)) ∙ capped-sum (1 + c) (m + n)

-- one block more than the deeper of two parts has
pub one-and-deeper : (m n x y s r : ℕ) → x ≡ capped m → y ≡ capped n → s ≡ max x y → r ≡ capped (1 + s) → r ≡ capped (1 + max m n)
one-and-deeper m n x y s r x-is y-is s-is r-is =
    let inner : s ≡ capped (max m n) = s-is ∙ (λ i. max (x-is i) (y-is i)) ∙ capped-max m n in
    r-is ∙ ap (λ n. capped (1 + n)) inner ∙ capped-right 1 (max m n)

-- ---- counts by capped sizes

capped-index : (ns : List ℕ) (k : ℕ) → slice_index_or (map capped ns) k 0 ≡ capped (slice_index_or ns k 0)
capped-index [] k = refl
capped-index (n ∷ ns) ℕ.zero = refl
capped-index (n ∷ ns) (ℕ.suc k) = capped-index ns k

sum-of : (a b c d : ℕ) → capped a ≡ capped b → capped c ≡ capped d → capped (a + c) ≡ capped (b + d)
sum-of a b c d e f = sym (capped-sum a c) ∙ (λ i. capped (e i + f i)) ∙ capped-sum b d

greater-of : (a b c d : ℕ) → capped a ≡ capped b → capped c ≡ capped d → capped (max a c) ≡ capped (max b d)
greater-of a b c d e f = sym (capped-max a c) ∙ (λ i. max (e i) (f i)) ∙ capped-max b d

mutual
  capped-statement : (ns : List ℕ) (s : TStmt) → capped (statement_nodes (map capped ns) s) ≡ capped (statement_nodes ns s)
  capped-statement ns (Let slot e place) = refl
  capped-statement ns (If' cond place shape taken shape' other) =
      sum-of (1 + nodes_of cond) (1 + nodes_of cond) (block_nodes (map capped ns) taken + block_nodes (map capped ns) other) (block_nodes ns taken + block_nodes ns other) refl
      (sum-of (block_nodes (map capped ns) taken) (block_nodes ns taken) (block_nodes (map capped ns) other) (block_nodes ns other) (capped-block ns taken) (capped-block ns other))
  capped-statement ns (Act action args place) = refl
  capped-statement ns (Call routine args places) = ap (λ n. capped (argument_nodes args + n)) (capped-index ns routine) ∙ capped-right (argument_nodes args) (slice_index_or ns routine 0)

  capped-block : {m : _} → (ns : List ℕ) (row : Row_of-TStmt m) → capped (block_nodes (map capped ns) row) ≡ capped (block_nodes ns row)
  capped-block ns end_of-TStmt = refl
  capped-block ns (more_of-TStmt s rest) = sum-of (statement_nodes (map capped ns) s) (statement_nodes ns s) (block_nodes (map capped ns) rest) (block_nodes ns rest) (capped-statement ns s) (capped-block ns rest)

pub capped-statements : (ns : List ℕ) (ss : List TStmt) → capped (statements_nodes (map capped ns) ss) ≡ capped (statements_nodes ns ss)
capped-statements ns [] = refl
capped-statements ns (s ∷ rest) = sum-of (statement_nodes (map capped ns) s) (statement_nodes ns s) (statements_nodes (map capped ns) rest) (statements_nodes ns rest) (capped-statement ns s) (capped-statements ns rest)

mutual
  capped-depth : (ns : List ℕ) (s : TStmt) → capped (statement_depth (map capped ns) s) ≡ capped (statement_depth ns s)
  capped-depth ns (Let slot e place) = refl
  capped-depth ns (If' cond place shape taken shape' other) =
      sum-of 1 1 (max (block_depth (map capped ns) taken) (block_depth (map capped ns) other)) (max (block_depth ns taken) (block_depth ns other)) refl
      (greater-of (block_depth (map capped ns) taken) (block_depth ns taken) (block_depth (map capped ns) other) (block_depth ns other) (capped-block-depth ns taken) (capped-block-depth ns other))
  capped-depth ns (Act action args place) = refl
  capped-depth ns (Call routine args places) = ap capped (capped-index ns routine) ∙ capped-twice (slice_index_or ns routine 0)

  capped-block-depth : {m : _} → (ns : List ℕ) (row : Row_of-TStmt m) → capped (block_depth (map capped ns) row) ≡ capped (block_depth ns row)
  capped-block-depth ns end_of-TStmt = refl
  capped-block-depth ns (more_of-TStmt s rest) = greater-of (statement_depth (map capped ns) s) (statement_depth ns s) (block_depth (map capped ns) rest) (block_depth ns rest) (capped-depth ns s) (capped-block-depth ns rest)

pub capped-all-depth : (ns : List ℕ) (ss : List TStmt) → capped (statements_depth (map capped ns) ss) ≡ capped (statements_depth ns ss)
capped-all-depth ns [] = refl
capped-all-depth ns (s ∷ rest) = greater-of (statement_depth (map capped ns) s) (statement_depth ns s) (statements_depth (map capped ns) rest) (statements_depth ns rest) (capped-depth ns s) (capped-all-depth ns rest)

map-join : (ns : List ℕ) (n : ℕ) → map capped ns ++ capped n ∷ [] ≡ map capped (ns ++ n ∷ [])
map-join [] n = refl
map-join (m ∷ ns) n = ap (λ rest. capped m ∷ rest) (map-join ns n)

pub capped-routines : (routines : List TRoutine) (ns : List ℕ) → capped_nodes (map capped ns) routines ≡ map capped (routines_nodes ns routines)
capped-routines [] ns = refl
capped-routines (routine ∷ rest) ns =
    ap (λ sizes. capped_nodes sizes rest) (ap (λ n. map capped ns ++ n ∷ []) (capped-statements ns routine.body) ∙ map-join ns (statements_nodes ns routine.body))
    ∙ capped-routines rest (ns ++ statements_nodes ns routine.body ∷ [])

pub capped-routine-depths : (routines : List TRoutine) (ns : List ℕ) → capped_depths (map capped ns) routines ≡ map capped (routines_depth ns routines)
capped-routine-depths [] ns = refl
capped-routine-depths (routine ∷ rest) ns =
    ap (λ depths. capped_depths depths rest) (ap (λ n. map capped ns ++ n ∷ []) (capped-all-depth ns routine.body) ∙ map-join ns (statements_depth ns routine.body))
    ∙ capped-routine-depths rest (ns ++ statements_depth ns routine.body ∷ [])

-- ---- blocks and nodes

-- no depth is above the size
abbrev AllLess : List ℕ → List ℕ → Type 0
AllLess [] [] = Unit {0}
AllLess [] (n ∷ ns) = ⊥
AllLess (d ∷ ds) [] = ⊥
AllLess (d ∷ ds) (n ∷ ns) = (d ≤ n) × AllLess ds ns

less-get : (ds ns : List ℕ) → AllLess ds ns → (k : ℕ) → slice_index_or ds k 0 ≤ slice_index_or ns k 0
less-get [] [] all k = omega arith
less-get [] (n ∷ ns) all k = absurd all
less-get (d ∷ ds) [] all k = absurd all
less-get (d ∷ ds) (n ∷ ns) all ℕ.zero = all.0
less-get (d ∷ ds) (n ∷ ns) all (ℕ.suc k) = less-get ds ns all.1 k

less-more : (ds ns : List ℕ) (d n : ℕ) → AllLess ds ns → d ≤ n → AllLess (ds ++ d ∷ []) (ns ++ n ∷ [])
less-more [] [] d n all le = (le, tt)
less-more [] (m ∷ ns) d n all le = absurd all
less-more (c ∷ ds) [] d n all le = absurd all
less-more (c ∷ ds) (m ∷ ns) d n all le = (all.0, less-more ds ns d n all.1 le)

max-within : (a b m n : ℕ) → a ≤ m → b ≤ n → max a b ≤ m + n
max-within a b m n p q = grind (arith)

one-within : (c d n : ℕ) → d ≤ n → 1 + d ≤ (1 + c) + n
one-within c d n p = omega arith

mutual
  depth-within : (ds ns : List ℕ) → AllLess ds ns → (s : TStmt) → statement_depth ds s ≤ statement_nodes ns s
  depth-within ds ns all (Let slot e place) = omega arith
  depth-within ds ns all (If' cond place shape taken shape' other) =
      one-within (nodes_of cond) (max (block_depth ds taken) (block_depth ds other)) (block_nodes ns taken + block_nodes ns other)
      (max-within (block_depth ds taken) (block_depth ds other) (block_nodes ns taken) (block_nodes ns other) (block-within ds ns all taken) (block-within ds ns all other))
  depth-within ds ns all (Act action args place) = omega arith
  depth-within ds ns all (Call routine args places) = let le = less-get ds ns all routine in omega arith

  block-within : {m : _} → (ds ns : List ℕ) → AllLess ds ns → (row : Row_of-TStmt m) → block_depth ds row ≤ block_nodes ns row
  block-within ds ns all end_of-TStmt = omega arith
  block-within ds ns all (more_of-TStmt s rest) = max-within (statement_depth ds s) (block_depth ds rest) (statement_nodes ns s) (block_nodes ns rest) (depth-within ds ns all s) (block-within ds ns all rest)

all-within : (ds ns : List ℕ) → AllLess ds ns → (ss : List TStmt) → statements_depth ds ss ≤ statements_nodes ns ss
all-within ds ns all [] = omega arith
all-within ds ns all (s ∷ rest) = max-within (statement_depth ds s) (statements_depth ds rest) (statement_nodes ns s) (statements_nodes ns rest) (depth-within ds ns all s) (all-within ds ns all rest)

routines-within : (routines : List TRoutine) (ds ns : List ℕ) → AllLess ds ns → AllLess (routines_depth ds routines) (routines_nodes ns routines)
routines-within [] ds ns all = all
routines-within (routine ∷ rest) ds ns all =
    routines-within rest (ds ++ statements_depth ds routine.body ∷ []) (ns ++ statements_nodes ns routine.body ∷ [])
    (less-more ds ns (statements_depth ds routine.body) (statements_nodes ns routine.body) all (all-within ds ns all routine.body))

-- a script has no more blocks in one another than nodes
pub main-within : (routines : List TRoutine) (main : List TStmt) → written_depth routines main ≤ 1 + written_nodes routines main
main-within routines main =
    let le = all-within (routines_depth [] routines) (routines_nodes [] routines) (routines-within routines [] [] tt) main in omega arith
