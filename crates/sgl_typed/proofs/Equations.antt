-- Definitions by the variants of expressions and statements, over plain lists.
use Rattle.std.proofs.Common.{◌≡◌, ℕ, ◌+◌, max, Bool, List, [], ◌∷◌, ◌++◌, map, refl, ap}
use Rattle.std.specs.Prelude.{◌&&◌, slice_get}
use denote.Hole.Carrier.{hidden}
use Rattle.sgl_values.specs.declared.place.Place.{Place}
use Rattle.sgl_values.specs.declared.operator.BinOp.{BinOp}
use Rattle.sgl_typed.specs.declared.script.AggUse.{AggUse}
use Rattle.sgl_typed.specs.declared.script.Kind.TheVariants.{Numeric, Logical}
use Rattle.sgl_typed.specs.declared.script.TExpr.{TExpr}
use Rattle.sgl_typed.specs.declared.script.TExpr.TheVariants.{Agg, Neg, Not, Binary}
use Rattle.sgl_typed.specs.declared.script.TExpr.TheBlock.{shape-the_row-TExpr-0, hidden-the_row-TExpr-0, shape-the_row-TExpr-1, hidden-the_row-TExpr-1}
use Rattle.sgl_typed.specs.declared.script.TStmt.{TStmt}
use Rattle.sgl_typed.specs.declared.script.TStmt.TheVariants.{If}
use Rattle.sgl_typed.specs.declared.script.TStmt.TheBlock.{shape-the_row-TStmt-0, hidden-the_row-TStmt-0}
use Rattle.sgl_typed.specs.Aggregate.{value}
use Rattle.sgl_typed.specs.Items.{statement_items, block_items, items, after, chosen}
use Rattle.sgl_typed.specs.Reads.{reads_only, all_read_only, list_reads_only, statement_uses, block_uses, all_use}
use Rattle.sgl_typed.specs.Sizes.{nodes_of, nodes_in, nodes_of_all, statement_nodes, block_nodes, statements_nodes, statement_depth, block_depth, statements_depth}
use Rattle.sgl_typed.specs.Value.{Context, Calls, value_with, values_with, operated, negated, inverted}
use Rattle.sgl_typed.specs.WellFormed.{Body, Callees, kind_of, kinds_of, kind_if, is_number, is_truth, operation_kind, fit, body_behind, statement_fits, block_fits, statements_fit, slots_set, slots_set_in, slots_of_all}
use Rattle.sgl_typed.specs.WrittenOut.{calls_none, block_calls_none, all_call_none}

-- ---- the value of an expression

pub value-Neg : (calls : Calls) (c : Context) (e : TExpr) → value_with calls c (Neg e) ≡ negated (value_with calls c e)
unfolding shape-the_row-TExpr-0 hidden-the_row-TExpr-0 shape-the_row-TExpr-1 hidden-the_row-TExpr-1 hidden
value-Neg calls c e = refl

pub value-Not : (calls : Calls) (c : Context) (e : TExpr) → value_with calls c (Not e) ≡ inverted (value_with calls c e)
unfolding shape-the_row-TExpr-0 hidden-the_row-TExpr-0 shape-the_row-TExpr-1 hidden-the_row-TExpr-1 hidden
value-Not calls c e = refl

pub value-Binary : (calls : Calls) (c : Context) (op : BinOp) (l r : TExpr) (place : Place) → value_with calls c (Binary op l r place) ≡ operated op place (value_with calls c l) (value_with calls c r)
unfolding shape-the_row-TExpr-0 hidden-the_row-TExpr-0 shape-the_row-TExpr-1 hidden-the_row-TExpr-1 hidden
value-Binary calls c op l r place = refl

pub values-hidden : (calls : Calls) (c : Context) (es : List TExpr) → values_with calls c (hidden-the_row-TExpr-0 es) ≡ map (value_with calls c) es
unfolding shape-the_row-TExpr-0 hidden-the_row-TExpr-0 hidden
values-hidden calls c [] = refl
values-hidden calls c (e ∷ es) = ap (λ vs. value_with calls c e ∷ vs) (values-hidden calls c es)

pub value-Agg : (calls : Calls) (c : Context) (use' : AggUse) → value_with calls c (Agg use') ≡ calls use'.agg (map (value_with calls c) use'.args)
unfolding shape-the_row-TExpr-0 hidden-the_row-TExpr-0 shape-the_row-TExpr-1 hidden-the_row-TExpr-1 hidden
value-Agg calls c use' = ap (calls use'.agg) (values-hidden calls c use'.args)

-- ---- the kind of an expression

pub kind-Neg : (b : Body) (e : TExpr) → kind_of b (Neg e) ≡ kind_if (is_number (kind_of b e)) Numeric
unfolding shape-the_row-TExpr-0 hidden-the_row-TExpr-0 shape-the_row-TExpr-1 hidden-the_row-TExpr-1 hidden
kind-Neg b e = refl

pub kind-Not : (b : Body) (e : TExpr) → kind_of b (Not e) ≡ kind_if (is_truth (kind_of b e)) Logical
unfolding shape-the_row-TExpr-0 hidden-the_row-TExpr-0 shape-the_row-TExpr-1 hidden-the_row-TExpr-1 hidden
kind-Not b e = refl

pub kind-Binary : (b : Body) (op : BinOp) (l r : TExpr) (place : Place) → kind_of b (Binary op l r place) ≡ operation_kind op (kind_of b l) (kind_of b r)
unfolding shape-the_row-TExpr-0 hidden-the_row-TExpr-0 shape-the_row-TExpr-1 hidden-the_row-TExpr-1 hidden
kind-Binary b op l r place = refl

pub kinds-hidden : (b : Body) (es : List TExpr) → kinds_of b (hidden-the_row-TExpr-0 es) ≡ map (kind_of b) es
unfolding shape-the_row-TExpr-0 hidden-the_row-TExpr-0 hidden
kinds-hidden b [] = refl
kinds-hidden b (e ∷ es) = ap (λ ks. kind_of b e ∷ ks) (kinds-hidden b es)

pub kind-Agg : (b : Body) (use' : AggUse) → kind_of b (Agg use') ≡ kind_if (fit (slice_get b.aggs use'.agg) (map (kind_of b) use'.args)) Numeric
unfolding shape-the_row-TExpr-0 hidden-the_row-TExpr-0 shape-the_row-TExpr-1 hidden-the_row-TExpr-1 hidden
kind-Agg b use' = ap (λ ks. kind_if (fit (slice_get b.aggs use'.agg) ks) Numeric) (kinds-hidden b use'.args)

-- ---- the slots that an expression reads

pub reads-Neg : (e : TExpr) (passes : ℕ → Bool) → reads_only (Neg e) passes ≡ reads_only e passes
unfolding shape-the_row-TExpr-0 hidden-the_row-TExpr-0 shape-the_row-TExpr-1 hidden-the_row-TExpr-1 hidden
reads-Neg e passes = refl

pub reads-Not : (e : TExpr) (passes : ℕ → Bool) → reads_only (Not e) passes ≡ reads_only e passes
unfolding shape-the_row-TExpr-0 hidden-the_row-TExpr-0 shape-the_row-TExpr-1 hidden-the_row-TExpr-1 hidden
reads-Not e passes = refl

pub reads-Binary : (op : BinOp) (l r : TExpr) (place : Place) (passes : ℕ → Bool) → reads_only (Binary op l r place) passes ≡ (reads_only l passes && reads_only r passes)
unfolding shape-the_row-TExpr-0 hidden-the_row-TExpr-0 shape-the_row-TExpr-1 hidden-the_row-TExpr-1 hidden
reads-Binary op l r place passes = refl

pub all-read-hidden : (es : List TExpr) (passes : ℕ → Bool) → all_read_only (hidden-the_row-TExpr-0 es) passes ≡ list_reads_only es passes
unfolding shape-the_row-TExpr-0 hidden-the_row-TExpr-0 hidden
all-read-hidden [] passes = refl
all-read-hidden (e ∷ es) passes = ap (λ more. reads_only e passes && more) (all-read-hidden es passes)

pub reads-Agg : (use' : AggUse) (passes : ℕ → Bool) → reads_only (Agg use') passes ≡ list_reads_only use'.args passes
unfolding shape-the_row-TExpr-0 hidden-the_row-TExpr-0 shape-the_row-TExpr-1 hidden-the_row-TExpr-1 hidden
reads-Agg use' passes = all-read-hidden use'.args passes

-- ---- the nodes of an expression

pub nodes-Neg : (e : TExpr) → nodes_of (Neg e) ≡ 1 + nodes_of e
unfolding shape-the_row-TExpr-0 hidden-the_row-TExpr-0 shape-the_row-TExpr-1 hidden-the_row-TExpr-1 hidden
nodes-Neg e = refl

pub nodes-Not : (e : TExpr) → nodes_of (Not e) ≡ 1 + nodes_of e
unfolding shape-the_row-TExpr-0 hidden-the_row-TExpr-0 shape-the_row-TExpr-1 hidden-the_row-TExpr-1 hidden
nodes-Not e = refl

pub nodes-Binary : (op : BinOp) (l r : TExpr) (place : Place) → nodes_of (Binary op l r place) ≡ 1 + (nodes_of l + nodes_of r)
unfolding shape-the_row-TExpr-0 hidden-the_row-TExpr-0 shape-the_row-TExpr-1 hidden-the_row-TExpr-1 hidden
nodes-Binary op l r place = refl

pub nodes-hidden : (es : List TExpr) → nodes_in (hidden-the_row-TExpr-0 es) ≡ nodes_of_all es
unfolding shape-the_row-TExpr-0 hidden-the_row-TExpr-0 hidden
nodes-hidden [] = refl
nodes-hidden (e ∷ es) = ap (λ n. nodes_of e + n) (nodes-hidden es)

pub nodes-Agg : (use' : AggUse) → nodes_of (Agg use') ≡ 1 + nodes_of_all use'.args
unfolding shape-the_row-TExpr-0 hidden-the_row-TExpr-0 shape-the_row-TExpr-1 hidden-the_row-TExpr-1 hidden
nodes-Agg use' = ap (λ n. 1 + n) (nodes-hidden use'.args)

-- ---- blocks, as lists of statements

pub block-hidden : (block : List TStmt) (c : Context) → block_items (hidden-the_row-TStmt-0 block) c ≡ items block c
unfolding shape-the_row-TStmt-0 hidden-the_row-TStmt-0 hidden
block-hidden [] c = refl
block-hidden (statement ∷ rest) c = ap (λ more. statement_items statement c ++ more) (block-hidden rest (after statement c))

pub items-If : (c : Context) (cond : TExpr) (place : Place) (taken other : List TStmt) → statement_items (If cond place taken other) c ≡ chosen c (value c cond) (items taken c) (items other c)
unfolding shape-the_row-TStmt-0 hidden-the_row-TStmt-0 hidden
items-If c cond place taken other = λ i. chosen c (value c cond) (block-hidden taken c i) (block-hidden other c i)

pub fits-hidden : (callees : Callees) (block : List TStmt) (b : Body) → block_fits callees (hidden-the_row-TStmt-0 block) b ≡ statements_fit callees block b
unfolding shape-the_row-TStmt-0 hidden-the_row-TStmt-0 hidden
fits-hidden callees [] b = refl
fits-hidden callees (statement ∷ rest) b = ap (λ more. statement_fits callees statement b && more) (fits-hidden callees rest (body_behind statement b))

pub fits-If : (callees : Callees) (b : Body) (cond : TExpr) (place : Place) (taken other : List TStmt) → statement_fits callees (If cond place taken other) b
    ≡ (is_truth (kind_of b cond) && statements_fit callees taken b && statements_fit callees other b)
unfolding shape-the_row-TStmt-0 hidden-the_row-TStmt-0 hidden
fits-If callees b cond place taken other = λ i. is_truth (kind_of b cond) && fits-hidden callees taken b i && fits-hidden callees other b i

pub slots-hidden : (block : List TStmt) → slots_set_in (hidden-the_row-TStmt-0 block) ≡ slots_of_all block
unfolding shape-the_row-TStmt-0 hidden-the_row-TStmt-0 hidden
slots-hidden [] = refl
slots-hidden (statement ∷ rest) = ap (λ more. slots_set statement ++ more) (slots-hidden rest)

pub slots-If : (cond : TExpr) (place : Place) (taken other : List TStmt) → slots_set (If cond place taken other) ≡ slots_of_all taken ++ slots_of_all other
unfolding shape-the_row-TStmt-0 hidden-the_row-TStmt-0 hidden
slots-If cond place taken other = λ i. slots-hidden taken i ++ slots-hidden other i

pub uses-hidden : (block : List TStmt) (passes : ℕ → Bool) → block_uses (hidden-the_row-TStmt-0 block) passes ≡ all_use block passes
unfolding shape-the_row-TStmt-0 hidden-the_row-TStmt-0 hidden
uses-hidden [] passes = refl
uses-hidden (statement ∷ rest) passes = ap (λ more. statement_uses statement passes && more) (uses-hidden rest passes)

pub uses-If : (cond : TExpr) (place : Place) (taken other : List TStmt) (passes : ℕ → Bool) → statement_uses (If cond place taken other) passes ≡ (reads_only cond passes && all_use taken passes && all_use other passes)
unfolding shape-the_row-TStmt-0 hidden-the_row-TStmt-0 hidden
uses-If cond place taken other passes = λ i. reads_only cond passes && uses-hidden taken passes i && uses-hidden other passes i

pub block_nodes-hidden : (sizes : List ℕ) (block : List TStmt) → block_nodes sizes (hidden-the_row-TStmt-0 block) ≡ statements_nodes sizes block
unfolding shape-the_row-TStmt-0 hidden-the_row-TStmt-0 hidden
block_nodes-hidden sizes [] = refl
block_nodes-hidden sizes (statement ∷ rest) = ap (λ n. statement_nodes sizes statement + n) (block_nodes-hidden sizes rest)

pub nodes-If : (sizes : List ℕ) (cond : TExpr) (place : Place) (taken other : List TStmt) → statement_nodes sizes (If cond place taken other) ≡ (1 + nodes_of cond) + (statements_nodes sizes taken + statements_nodes sizes other)
unfolding shape-the_row-TStmt-0 hidden-the_row-TStmt-0 hidden
nodes-If sizes cond place taken other = λ i. (1 + nodes_of cond) + (block_nodes-hidden sizes taken i + block_nodes-hidden sizes other i)

pub depth-hidden : (depths : List ℕ) (block : List TStmt) → block_depth depths (hidden-the_row-TStmt-0 block) ≡ statements_depth depths block
unfolding shape-the_row-TStmt-0 hidden-the_row-TStmt-0 hidden
depth-hidden depths [] = refl
depth-hidden depths (statement ∷ rest) = ap (λ n. max (statement_depth depths statement) n) (depth-hidden depths rest)

pub depth-If : (depths : List ℕ) (cond : TExpr) (place : Place) (taken other : List TStmt) → statement_depth depths (If cond place taken other) ≡ 1 + max (statements_depth depths taken) (statements_depth depths other)
unfolding shape-the_row-TStmt-0 hidden-the_row-TStmt-0 hidden
depth-If depths cond place taken other = λ i. 1 + max (depth-hidden depths taken i) (depth-hidden depths other i)

pub calls-hidden : (block : List TStmt) → block_calls_none (hidden-the_row-TStmt-0 block) ≡ all_call_none block
unfolding shape-the_row-TStmt-0 hidden-the_row-TStmt-0 hidden
calls-hidden [] = refl
calls-hidden (statement ∷ rest) = ap (λ more. calls_none statement && more) (calls-hidden rest)

pub calls-If : (cond : TExpr) (place : Place) (taken other : List TStmt) → calls_none (If cond place taken other) ≡ (all_call_none taken && all_call_none other)
unfolding shape-the_row-TStmt-0 hidden-the_row-TStmt-0 hidden
calls-If cond place taken other = λ i. calls-hidden taken i && calls-hidden other i

-- ---- sets of equations

-- values of expressions
pub ruleset value_equations = (value-Neg, value-Not, value-Binary, value-Agg)

-- kinds of expressions
pub ruleset kind_equations = (kind-Neg, kind-Not, kind-Binary, kind-Agg)

-- slots that expressions read
pub ruleset read_equations = (reads-Neg, reads-Not, reads-Binary, reads-Agg)

-- nodes of expressions
pub ruleset node_equations = (nodes-Neg, nodes-Not, nodes-Binary, nodes-Agg)

-- items of statements
pub ruleset statement_equations = items-If

-- what else is said of statements
pub ruleset block_equations = (fits-If, slots-If, uses-If, nodes-If, depth-If, calls-If)
