-- What is written out has as many nodes and blocks in one another as are counted without writing it, no calls, and its lets in order.
use Rattle.std.proofs.Common.{◌≡◌, ℕ, ◌+◌, max, Bool, true, List, [], ◌∷◌, ◌++◌, map, length, drop, slice_get, slice_index_or, refl, ap, sym, ◌∙◌, arith, subst}
use Rattle.std.specs.Prelude.{◌&&◌}
use Rattle.sgl_values.specs.declared.place.Place.{Place}
use Rattle.sgl_typed.specs.declared.script.TExpr.{TExpr, Row_of-TExpr, end_of-TExpr, more_of-TExpr}
use Rattle.sgl_typed.specs.declared.script.TExpr.TheVariants.{Slot, Agg', Neg', Not', Binary'}
use Rattle.sgl_typed.specs.declared.script.TRoutine.{TRoutine}
use Rattle.sgl_typed.specs.declared.script.TStmt.{TStmt, Row_of-TStmt, end_of-TStmt, more_of-TStmt}
use Rattle.sgl_typed.specs.declared.script.TStmt.TheVariants.{Let, If, If', Act, Call}
use Rattle.sgl_typed.specs.Sizes.{nodes_of, nodes_in, nodes_of_all, argument_nodes, statement_nodes, block_nodes, statements_nodes, routines_nodes, written_nodes, statement_depth, block_depth, statements_depth, routines_depth}
use Rattle.sgl_typed.specs.WellFormed.{slots_set, slots_of_all}
use Rattle.sgl_typed.specs.WrittenOut.{calls_none, all_call_none}
use Rattle.sgl_typed.proofs.Equations.{nodes-Neg, nodes-Not, nodes-Binary, nodes-Agg, nodes-If, depth-If, slots-If, calls-If}
use Rattle.sgl_expand.specs.declared.numbers.Numbered.{Numbered}
use Rattle.sgl_typed.specs.Renamed.{renamed, all_renamed}
use Rattle.sgl_expand.specs.Written.{number_of, renumbered, lets, argument_lets, first_place, Writer, written_call, known_behind, numbered_from, written, written_block, written_all, writer_of, writers_of, written_main}

-- ---- numbers and lists

pub assoc : (a b c : ℕ) → a + (b + c) ≡ (a + b) + c
assoc a b c = omega arith

pub zero-sum : (n : ℕ) → 0 + n ≡ n
zero-sum n = omega arith

pub zero-behind : (n : ℕ) → n + 0 ≡ n
zero-behind n = omega arith

max-zero : (n : ℕ) → max n 0 ≡ n
max-zero n = grind (arith)

zero-max : (n : ℕ) → max 0 n ≡ n
zero-max n = grind (arith)

max-assoc : (a b c : ℕ) → max (max a b) c ≡ max a (max b c)
max-assoc a b c = grind (arith)

pub and-assoc : (a b c : Bool) → ((a && b) && c) ≡ (a && (b && c))
and-assoc a b c = grind (arith)

pub length-join : {A : Type 0} → (xs ys : List A) → length (xs ++ ys) ≡ length xs + length ys
length-join [] ys = sym (zero-sum (length ys))
length-join (x ∷ xs) ys = ap (λ n. ℕ.suc n) (length-join xs ys) ∙ more (length xs) (length ys)
  where
    more : (m n : ℕ) → ℕ.suc (m + n) ≡ ℕ.suc m + n
    more m n = omega arith

pub join-assoc : {A : Type 0} → (xs ys zs : List A) → (xs ++ ys) ++ zs ≡ xs ++ (ys ++ zs)
join-assoc [] ys zs = refl
join-assoc (x ∷ xs) ys zs = ap (λ rest. x ∷ rest) (join-assoc xs ys zs)

-- so many numbers from one on
abbrev pub numbers : ℕ → ℕ → List ℕ
numbers next ℕ.zero = []
numbers next (ℕ.suc n) = next ∷ numbers (next + 1) n

pub numbers-sum : (m n next : ℕ) → numbers next (m + n) ≡ numbers next m ++ numbers (next + m) n
numbers-sum ℕ.zero n next = λ i. numbers (sym (zero-behind next) i) (zero-sum n i)
numbers-sum (ℕ.suc m) n next =
    ap (numbers next) (more m n) ∙ ap (λ rest. next ∷ rest) (numbers-sum m n (next + 1) ∙ ap (λ from. numbers (next + 1) m ++ numbers from n) (less m next))
  where
    more : (m n : ℕ) → ℕ.suc m + n ≡ ℕ.suc (m + n)
    more m n = omega arith

    less : (m next : ℕ) → (next + 1) + m ≡ next + ℕ.suc m
    less m next = omega arith

-- ---- joined statements

pub nodes-join : (sizes : List ℕ) (xs ys : List TStmt) → statements_nodes sizes (xs ++ ys) ≡ statements_nodes sizes xs + statements_nodes sizes ys
nodes-join sizes [] ys = sym (zero-sum (statements_nodes sizes ys))
nodes-join sizes (x ∷ xs) ys = ap (λ n. statement_nodes sizes x + n) (nodes-join sizes xs ys) ∙ assoc (statement_nodes sizes x) (statements_nodes sizes xs) (statements_nodes sizes ys)

pub depth-join : (depths : List ℕ) (xs ys : List TStmt) → statements_depth depths (xs ++ ys) ≡ max (statements_depth depths xs) (statements_depth depths ys)
depth-join depths [] ys = sym (zero-max (statements_depth depths ys))
depth-join depths (x ∷ xs) ys =
    ap (λ n. max (statement_depth depths x) n) (depth-join depths xs ys)
    ∙ sym (max-assoc (statement_depth depths x) (statements_depth depths xs) (statements_depth depths ys))

pub calls-join : (xs ys : List TStmt) → all_call_none (xs ++ ys) ≡ (all_call_none xs && all_call_none ys)
calls-join [] ys = refl
calls-join (x ∷ xs) ys = ap (λ rest. calls_none x && rest) (calls-join xs ys) ∙ sym (and-assoc (calls_none x) (all_call_none xs) (all_call_none ys))

pub slots-join : (xs ys : List TStmt) → slots_of_all (xs ++ ys) ≡ slots_of_all xs ++ slots_of_all ys
slots-join [] ys = refl
slots-join (x ∷ xs) ys = ap (λ rest. slots_set x ++ rest) (slots-join xs ys) ∙ sym (join-assoc (slots_set x) (slots_of_all xs) (slots_of_all ys))

pub lets-join : (xs ys : List TStmt) → lets (xs ++ ys) ≡ lets xs + lets ys
lets-join xs ys = ap length (slots-join xs ys) ∙ length-join (slots_of_all xs) (slots_of_all ys)

-- ---- what is counted of statements without calls

-- so many nodes and blocks in one another, no calls, and lets numbered in their order
pub record IsCounted (ss : List TStmt) (next size blocks : ℕ) : Type 0 where
  pub nodes : statements_nodes [] ss ≡ size
  pub depth : statements_depth [] ss ≡ blocks
  pub none : all_call_none ss ≡ true
  pub numbered : slots_of_all ss ≡ numbers next (lets ss)

pub nothing : (next : ℕ) → IsCounted [] next 0 0
nothing next = record { nodes = refl; depth = refl; none = refl; numbered = refl }

pub joined : (xs ys : List TStmt) (next m n d e : ℕ) → IsCounted xs next m d → IsCounted ys (next + lets xs) n e → IsCounted (xs ++ ys) next (m + n) (max d e)
joined xs ys next m n d e x y = record {
  nodes = nodes-join [] xs ys ∙ (λ i. x.nodes i + y.nodes i);
  depth = depth-join [] xs ys ∙ (λ i. max (x.depth i) (y.depth i));
  none = calls-join xs ys ∙ (λ i. x.none i && y.none i);
  numbered =
      slots-join xs ys ∙ (λ i. x.numbered i ++ y.numbered i)
      ∙ sym (numbers-sum (lets xs) (lets ys) next) ∙ ap (numbers next) (sym (lets-join xs ys));
}

one-let : (e : TExpr) (place : Place) (next nodes : ℕ) → nodes_of e ≡ nodes → IsCounted (Let next e place ∷ []) next (1 + nodes) 0
one-let e place next nodes is = record {
  nodes = zero-behind (1 + nodes_of e) ∙ ap (λ n. 1 + n) is;
  depth = max-zero 0;
  none = refl;
  numbered = refl;
}

one-act : (action : ℕ) (args : List TExpr) (place : Place) (next nodes : ℕ) → nodes_of_all args ≡ nodes → IsCounted (Act action args place ∷ []) next (1 + nodes) 0
one-act action args place next nodes is = record {
  nodes = zero-behind (1 + nodes_of_all args) ∙ ap (λ n. 1 + n) is;
  depth = max-zero 0;
  none = refl;
  numbered = refl;
}

pub nil-behind : {A : Type 0} → (xs : List A) → xs ++ [] ≡ xs
nil-behind [] = refl
nil-behind (x ∷ xs) = ap (λ rest. x ∷ rest) (nil-behind xs)

one-if : (cond : TExpr) (place : Place) (first second : List TStmt) (next k m n d e : ℕ) → nodes_of cond ≡ k → IsCounted first next m d → IsCounted second (next + lets first) n e
    → IsCounted (If cond place first second ∷ []) next ((1 + k) + (m + n)) (1 + max d e)
one-if cond place first second next k m n d e is x y =
    let both = joined first second next m n d e x y in
    let slots : slots_of_all (If cond place first second ∷ []) ≡ slots_of_all (first ++ second) = nil-behind (slots_set (If cond place first second)) ∙ slots-If cond place first second ∙ sym (slots-join first second) in
    record {
      nodes = zero-behind (statement_nodes [] (If cond place first second)) ∙ nodes-If [] cond place first second ∙ (λ i. (1 + is i) + (x.nodes i + y.nodes i));
      depth = max-zero (statement_depth [] (If cond place first second)) ∙ depth-If [] cond place first second ∙ (λ i. 1 + max (x.depth i) (y.depth i));
      none = (λ i. calls-If cond place first second i && true) ∙ (λ i. (x.none i && y.none i) && true);
      numbered = slots ∙ both.numbered ∙ ap (λ list. numbers next (length list)) (sym slots);
    }

-- ---- expressions

mutual
  pub same_nodes : (to : ℕ → ℕ) (e : TExpr) → nodes_of (renamed to e) ≡ nodes_of e
  same_nodes to (Slot slot) = refl
  same_nodes to (Agg' agg shape args place) =
      nodes-Agg record { agg = agg; args = all_renamed to args; place = place } ∙ ap (λ n. 1 + n) (same_in to args)
  same_nodes to (Neg' shape (more_of-TExpr inner end_of-TExpr)) = nodes-Neg (renamed to inner) ∙ ap (λ n. 1 + n) (same_nodes to inner)
  same_nodes to (Not' shape (more_of-TExpr inner end_of-TExpr)) = nodes-Not (renamed to inner) ∙ ap (λ n. 1 + n) (same_nodes to inner)
  same_nodes to (Binary' op shape (more_of-TExpr left end_of-TExpr) shape' (more_of-TExpr right end_of-TExpr) place) =
      nodes-Binary op (renamed to left) (renamed to right) place ∙ (λ i. 1 + (same_nodes to left i + same_nodes to right i))
  same_nodes to e = refl

  same_in : {m : _} → (to : ℕ → ℕ) (row : Row_of-TExpr m) → nodes_of_all (all_renamed to row) ≡ nodes_in row
  same_in to end_of-TExpr = refl
  same_in to (more_of-TExpr e rest) = λ i. same_nodes to e i + same_in to rest i

same_all : (to : ℕ → ℕ) (es : List TExpr) → nodes_of_all (map (renamed to) es) ≡ nodes_of_all es
same_all to [] = refl
same_all to (e ∷ es) = λ i. same_nodes to e i + same_all to es i

same_arguments : (to : ℕ → ℕ) (es : List TExpr) → argument_nodes (map (renamed to) es) ≡ argument_nodes es
same_arguments to [] = refl
same_arguments to (e ∷ es) = λ i. (1 + same_nodes to e i) + same_arguments to es i

pub length-map : {A B : Type 0} → (f : A → B) (xs : List A) → length (map f xs) ≡ length xs
length-map f [] = refl
length-map f (x ∷ xs) = ap (λ n. ℕ.suc n) (length-map f xs)

-- ---- calls

pub lets-arguments : (places : List Place) (next : ℕ) (es : List TExpr) → lets (argument_lets places next es) ≡ length es
lets-arguments places next [] = refl
lets-arguments places next (e ∷ es) = ap (λ n. ℕ.suc n) (lets-arguments (drop 1 places) (next + 1) es)

pub arguments-counted : (places : List Place) (next : ℕ) (es : List TExpr) → IsCounted (argument_lets places next es) next (argument_nodes es) 0
arguments-counted places next [] = nothing next
arguments-counted places next (e ∷ es) =
    subst (λ d. IsCounted (argument_lets places next (e ∷ es)) next ((1 + nodes_of e) + argument_nodes es) d) (max-zero 0)
    (joined (Let next e (first_place places) ∷ []) (argument_lets (drop 1 places) (next + 1) es) next (1 + nodes_of e) (argument_nodes es) 0 0
    (one-let e (first_place places) next (nodes_of e) refl)
    (arguments-counted (drop 1 places) (next + 1) es))

-- each writer writes as many nodes, and blocks in one another, as is said of its routine
abbrev pub Sized : List Writer → List ℕ → List ℕ → Type 0
Sized writers sizes depths = (routine : ℕ) (known : List Numbered) (first next : ℕ)
    → IsCounted (written_call (slice_get writers routine) known first next) next (slice_index_or sizes routine 0) (slice_index_or depths routine 0)

call-counted : (writers : List Writer) (sizes depths : List ℕ) → Sized writers sizes depths → (routine : ℕ) (args : List TExpr) (places : List Place) (known : List Numbered) (next : ℕ)
    → IsCounted (written writers (Call routine args places) known next) next (argument_nodes args + slice_index_or sizes routine 0) (slice_index_or depths routine 0)
call-counted writers sizes depths fit routine args places known next =
    let made = map (renumbered known) args in
    let front = argument_lets places next made in
    let back = written_call (slice_get writers routine) known next (next + length args) in
    let many : lets front ≡ length args = lets-arguments places next made ∙ length-map (renumbered known) args in
    let rest : IsCounted back (next + lets front) (slice_index_or sizes routine 0) (slice_index_or depths routine 0) =
    subst (λ n. IsCounted back (next + n) (slice_index_or sizes routine 0) (slice_index_or depths routine 0)) (sym many) (fit routine known next (next + length args)) in
    let both = joined front back next (argument_nodes made) (slice_index_or sizes routine 0) 0 (slice_index_or depths routine 0) (arguments-counted places next made) rest in
    subst (λ n. IsCounted (front ++ back) next (n + slice_index_or sizes routine 0) (slice_index_or depths routine 0)) (same_arguments (number_of known) args)
    (subst (λ d. IsCounted (front ++ back) next (argument_nodes made + slice_index_or sizes routine 0) d) (zero-max (slice_index_or depths routine 0)) both)

mutual
  pub counted : (writers : List Writer) (sizes depths : List ℕ) → Sized writers sizes depths → (s : TStmt) (known : List Numbered) (next : ℕ)
      → IsCounted (written writers s known next) next (statement_nodes sizes s) (statement_depth depths s)
  counted writers sizes depths fit (Let slot e place) known next = one-let (renumbered known e) place next (nodes_of e) (same_nodes (number_of known) e)
  counted writers sizes depths fit (If' cond place shape taken shape' other) known next =
      let first = written_block writers taken known next in
      one-if (renumbered known cond) place first (written_block writers other known (next + lets first)) next
      (nodes_of cond) (block_nodes sizes taken) (block_nodes sizes other) (block_depth depths taken) (block_depth depths other) (same_nodes (number_of known) cond)
      (counted_block writers sizes depths fit taken known next)
      (counted_block writers sizes depths fit other known (next + lets first))
  counted writers sizes depths fit (Act action args place) known next = one-act action (map (renumbered known) args) place next (nodes_of_all args) (same_all (number_of known) args)
  counted writers sizes depths fit (Call routine args places) known next = call-counted writers sizes depths fit routine args places known next

  pub counted_block : {m : _} → (writers : List Writer) (sizes depths : List ℕ) → Sized writers sizes depths → (row : Row_of-TStmt m) (known : List Numbered) (next : ℕ)
      → IsCounted (written_block writers row known next) next (block_nodes sizes row) (block_depth depths row)
  counted_block writers sizes depths fit end_of-TStmt known next = nothing next
  counted_block writers sizes depths fit (more_of-TStmt s rest) known next =
      let first = written writers s known next in
      joined first (written_block writers rest (known_behind s known next) (next + lets first)) next (statement_nodes sizes s) (block_nodes sizes rest) (statement_depth depths s) (block_depth depths rest)
      (counted writers sizes depths fit s known next)
      (counted_block writers sizes depths fit rest (known_behind s known next) (next + lets first))

pub counted_all : (writers : List Writer) (sizes depths : List ℕ) → Sized writers sizes depths → (ss : List TStmt) (known : List Numbered) (next : ℕ)
    → IsCounted (written_all writers ss known next) next (statements_nodes sizes ss) (statements_depth depths ss)
counted_all writers sizes depths fit [] known next = nothing next
counted_all writers sizes depths fit (s ∷ rest) known next =
    let first = written writers s known next in
    joined first (written_all writers rest (known_behind s known next) (next + lets first)) next (statement_nodes sizes s) (statements_nodes sizes rest) (statement_depth depths s) (statements_depth depths rest)
    (counted writers sizes depths fit s known next)
    (counted_all writers sizes depths fit rest (known_behind s known next) (next + lets first))

-- ---- all routines

abbrev pub AllSized : List Writer → List ℕ → List ℕ → Type 0
AllSized [] [] [] = Unit {0}
AllSized [] [] (d ∷ ds) = ⊥
AllSized [] (n ∷ ns) ds = ⊥
AllSized (w ∷ ws) [] ds = ⊥
AllSized (w ∷ ws) (n ∷ ns) [] = ⊥
AllSized (w ∷ ws) (n ∷ ns) (d ∷ ds) = ((known : List Numbered) (first next : ℕ) → IsCounted (w known first next) next n d) × AllSized ws ns ds

pub sized : (ws : List Writer) (ns ds : List ℕ) → AllSized ws ns ds → Sized ws ns ds
sized [] [] [] all routine known first next = nothing next
sized [] [] (d ∷ ds) all routine known first next = absurd all
sized [] (n ∷ ns) ds all routine known first next = absurd all
sized (w ∷ ws) [] ds all routine known first next = absurd all
sized (w ∷ ws) (n ∷ ns) [] all routine known first next = absurd all
sized (w ∷ ws) (n ∷ ns) (d ∷ ds) all ℕ.zero known first next = all.0 known first next
sized (w ∷ ws) (n ∷ ns) (d ∷ ds) all (ℕ.suc routine) known first next = sized ws ns ds all.1 routine known first next

sized-more : (ws : List Writer) (ns ds : List ℕ) (w : Writer) (n d : ℕ) → AllSized ws ns ds → ((known : List Numbered) (first next : ℕ) → IsCounted (w known first next) next n d)
    → AllSized (ws ++ w ∷ []) (ns ++ n ∷ []) (ds ++ d ∷ [])
sized-more [] [] [] w n d all one = (one, tt)
sized-more [] [] (e ∷ ds) w n d all one = absurd all
sized-more [] (m ∷ ns) ds w n d all one = absurd all
sized-more (v ∷ ws) [] ds w n d all one = absurd all
sized-more (v ∷ ws) (m ∷ ns) [] w n d all one = absurd all
sized-more (v ∷ ws) (m ∷ ns) (e ∷ ds) w n d all one = (all.0, sized-more ws ns ds w n d all.1 one)

pub all-sized : (routines : List TRoutine) (ws : List Writer) (ns ds : List ℕ) → AllSized ws ns ds → AllSized (writers_of ws routines) (routines_nodes ns routines) (routines_depth ds routines)
all-sized [] ws ns ds all = all
all-sized (routine ∷ rest) ws ns ds all =
    all-sized rest (ws ++ writer_of ws routine ∷ []) (ns ++ statements_nodes ns routine.body ∷ []) (ds ++ statements_depth ds routine.body ∷ [])
    (sized-more ws ns ds (writer_of ws routine) (statements_nodes ns routine.body) (statements_depth ds routine.body) all
    (λ known first next. counted_all ws ns ds (sized ws ns ds all) routine.body (known ++ numbered_from first routine.params) next))

-- `main` written out, as it is counted without writing it
pub main-counted : (routines : List TRoutine) (main : List TStmt)
    → IsCounted (written_main routines main) 0 (written_nodes routines main) (statements_depth (routines_depth [] routines) main)
main-counted routines main =
    counted_all (writers_of [] routines) (routines_nodes [] routines) (routines_depth [] routines)
    (sized (writers_of [] routines) (routines_nodes [] routines) (routines_depth [] routines) (all-sized routines [] [] [] tt)) main [] 0
