-- The broken rules of small scripts, computed.
use Rattle.std.specs.Prelude.{codes}
use Rattle.std.proofs.Common.{◌≡◌, ℕ, ◌+◌, List, [], ◌∷◌, ◌++◌, Option, Some, None, pos, refl, true, false}
use denote.Hole.Carrier.{hidden}
use Rattle.sgl_values.specs.declared.place.Place.{Place}
use Rattle.sgl_values.specs.declared.fault.Tag.{Tag}
use Rattle.sgl_values.specs.declared.fault.Tag.TheVariants.{Sum, Top}
use Rattle.sgl_values.specs.declared.operator.BinOp.TheVariants.{Add, Cmp}
use Rattle.sgl_values.specs.declared.operator.CmpOp.TheVariants.{Gt, Eq}
use Rattle.sgl_tree.specs.declared.expression.Expr.{Expr}
use Rattle.sgl_tree.specs.declared.expression.Expr.TheVariants.{Number, Truth, Local, Field, Binary}
use Rattle.sgl_tree.specs.declared.expression.Expr.TheBlock.{shape-the_row-Expr-0, hidden-the_row-Expr-0, shape-the_row-Expr-1, hidden-the_row-Expr-1}
use Rattle.sgl_tree.specs.declared.item.Item.{Item}
use Rattle.sgl_tree.specs.declared.item.Item.TheVariants.{Attr, Aggregate, Action, Routine, Main, Post}
use Rattle.sgl_tree.specs.declared.item.Literal.{Literal}
use Rattle.sgl_values.specs.declared.operator.FoldKind.{FoldKind}
use Rattle.sgl_values.specs.declared.operator.FoldKind.TheVariants.{Count, Min, Nearest, Sum as SumOf}
use Rattle.sgl_tree.specs.declared.expression.Name.{Name}
use Rattle.sgl_tree.specs.declared.item.Fold.{Fold}
use Rattle.sgl_tree.specs.declared.item.Rule.{Rule}
use Rattle.sgl_tree.specs.declared.item.Script.{Script}
use Rattle.sgl_tree.specs.declared.item.Spawn.{Spawn}
use Rattle.sgl_tree.specs.declared.item.Test.TheVariants.{Compare, Within}
use Rattle.sgl_tree.specs.declared.item.Write.{Write}
use Rattle.sgl_tree.specs.declared.statement.Stmt.TheVariants.{Let, If, Perform}
use Rattle.sgl_tree.specs.declared.statement.Stmt.TheBlock.{shape-the_row-Stmt-0, hidden-the_row-Stmt-0}
use Rattle.sgl_types.specs.declared.finding.TypeKind.TheVariants.{UnknownName, UsedBeforeDefined, Twice, WrongCount, WantsNumber, WantsTruth, EffectRead, ConstWritten, NotConstTarget, NoMain, TwoMains, ElseMissing, ElseUnwanted, LiteralRange, TooMany, ByMissing, ByUnwanted}
use Rattle.sgl_types.specs.Findings.{finding, noted}
use Rattle.sgl_typed.specs.declared.script.TExpr.TheVariants as exprs
use Rattle.sgl_typed.specs.declared.script.TStmt.TheVariants as made
use Rattle.sgl_types.specs.TypedItems.{mains_of, routines_of}
use Rattle.sgl_types.specs.Items.{in_script, type_faults}

-- a place in the one line of a script
abbrev at : ℕ → Place
at col = record { line = 1; col = col }

-- names of one letter
abbrev name : ℕ → ℕ → Name
name letter col = record { text = letter ∷ []; place = at col }

abbrev word : List ℕ → ℕ → Name
word text col = record { text = text; place = at col }

abbrev script : List Item → ℕ → Script
script items col = record { items = items; end = at col }

-- `attr d sum = 0; main(u) { if u.d > 0 { } }`
abbrev reads_effect : Script
reads_effect = script (Attr (name 100 6) (Some Sum) (Some record { negative = false; value = 0; place = at 14 })
    ∷ Main (at 17) (name 117 22) (If (Binary (Cmp Gt) (Field (name 117 30) (name 100 32)) (Number 0 (at 36)) (at 34)) [] [] ∷ []) ∷ []) 43

reads_effect_faults : type_faults reads_effect ≡ finding EffectRead (at 32) ∷ []
unfolding shape-the_row-Expr-0 hidden-the_row-Expr-0 shape-the_row-Expr-1 hidden-the_row-Expr-1 shape-the_row-Stmt-0 hidden-the_row-Stmt-0 hidden
reads_effect_faults = refl

-- `main(u) { let a = b + c; }`
abbrev two_unknown : Script
two_unknown = script (Main (at 1) (name 117 6) (Let (name 97 15) (Binary Add (Local (name 98 19)) (Local (name 99 23)) (at 21)) ∷ []) ∷ []) 27

two_unknown_faults : type_faults two_unknown ≡ finding UnknownName (at 19) ∷ finding UnknownName (at 23) ∷ []
unfolding shape-the_row-Expr-0 hidden-the_row-Expr-0 shape-the_row-Expr-1 hidden-the_row-Expr-1 shape-the_row-Stmt-0 hidden-the_row-Stmt-0 hidden
two_unknown_faults = refl

-- `main(u) { let a = 1000000000001; }`
abbrev out_of_range : Script
out_of_range = script (Main (at 1) (name 117 6) (Let (name 97 15) (Number 1000000000001 (at 19)) ∷ []) ∷ []) 35

out_of_range_faults : type_faults out_of_range ≡ finding LiteralRange (at 19) ∷ []
unfolding shape-the_row-Expr-0 hidden-the_row-Expr-0 shape-the_row-Expr-1 hidden-the_row-Expr-1 shape-the_row-Stmt-0 hidden-the_row-Stmt-0 hidden
out_of_range_faults = refl

-- a routine that performs itself, and no main: `routine r(u) { perform r(u); }`
abbrev performs_itself : Script
performs_itself = script (Routine (name 114 9) (name 117 11 ∷ []) (Perform (at 16) (name 114 24) (name 117 26) [] ∷ []) ∷ []) 31

performs_itself_faults : type_faults performs_itself ≡ finding UsedBeforeDefined (at 24) ∷ finding NoMain (at 31) ∷ []
unfolding shape-the_row-Expr-0 hidden-the_row-Expr-0 shape-the_row-Expr-1 hidden-the_row-Expr-1 shape-the_row-Stmt-0 hidden-the_row-Stmt-0 hidden
performs_itself_faults = refl

-- the operator stands behind its left operand, and is a number where a truth is wanted: `main(u) { if a + 1 { } }`
abbrev number_condition : Script
number_condition = script (Main (at 1) (name 117 6) (If (Binary Add (Local (name 97 14)) (Number 1 (at 18)) (at 16)) [] [] ∷ []) ∷ []) 25

number_condition_first : noted None (type_faults number_condition) ≡ Some (finding UnknownName (at 14))
unfolding shape-the_row-Expr-0 hidden-the_row-Expr-0 shape-the_row-Expr-1 hidden-the_row-Expr-1 shape-the_row-Stmt-0 hidden-the_row-Stmt-0 hidden
number_condition_first = refl

-- slots are numbered in the order of the text: `routine r(u, p) { let a = p; } main(u) { perform r(u, 1); let b = 2; }`
abbrev two_bodies : Script
two_bodies = script (Routine (name 114 9) (name 117 11 ∷ name 112 14 ∷ []) (Let (name 97 23) (Local (name 112 27)) ∷ [])
    ∷ Main (at 32) (name 117 37) (Perform (at 42) (name 114 50) (name 117 52) (Number 1 (at 55) ∷ []) ∷ Let (name 98 63) (Number 2 (at 67)) ∷ []) ∷ []) 71

two_bodies_faults : type_faults two_bodies ≡ []
unfolding shape-the_row-Expr-0 hidden-the_row-Expr-0 shape-the_row-Expr-1 hidden-the_row-Expr-1 shape-the_row-Stmt-0 hidden-the_row-Stmt-0 hidden
two_bodies_faults = refl

two_bodies_main : in_script mains_of two_bodies ≡ (made.Call 0 (exprs.Number (pos 1) ∷ []) (at 55 ∷ []) ∷ made.Let 2 (exprs.Number (pos 2)) (at 67) ∷ []) ∷ []
unfolding shape-the_row-Expr-0 hidden-the_row-Expr-0 shape-the_row-Expr-1 hidden-the_row-Expr-1 shape-the_row-Stmt-0 hidden-the_row-Stmt-0 hidden
two_bodies_main = refl

two_bodies_routines : in_script routines_of two_bodies ≡ record { params = 0 ∷ []; body = made.Let 1 (exprs.Slot 0) (at 27) ∷ [] } ∷ []
unfolding shape-the_row-Expr-0 hidden-the_row-Expr-0 shape-the_row-Expr-1 hidden-the_row-Expr-1 shape-the_row-Stmt-0 hidden-the_row-Stmt-0 hidden
two_bodies_routines = refl

-- ---- one script for each other kind

abbrev no_literal : Option Literal
no_literal = None

abbrev zero_at : ℕ → Literal
zero_at col = record { negative = false; value = 0; place = at col }

abbrev const_x : Item
const_x = Attr (name 120 6) None no_literal

abbrev effect : Name → Tag → ℕ → Item
effect name tag col = Attr name (Some tag) (Some (zero_at col))

abbrev no_spawn : Option Spawn
no_spawn = None

abbrev no_priority : Option (Place × Expr)
no_priority = None

abbrev write : Name → Expr → Option (Place × Expr) → Write
write attr value by = record { attr = attr; value = value; by = by }

abbrev assignment : Name → Expr → Rule
assignment attr value = record { attr = attr; value = value }

abbrev fold : FoldKind → ℕ → Name → Option Name → Option Name → Fold
fold kind col row attr second = record { kind = kind; place = at col; row = row; attr = attr; second = second }

abbrev empty_main : ℕ → Item
empty_main col = Main (at col) (name 117 (col + 5)) []

-- `attr x const; attr x const; main(u) { }`
declared_twice : type_faults (script (const_x ∷ Attr (name 120 20) None no_literal ∷ empty_main 29 ∷ []) 40) ≡ finding Twice (at 20) ∷ []
declared_twice = refl

-- `main(u) { } main(u) { }`
two_mains_found : type_faults (script (empty_main 1 ∷ empty_main 13 ∷ []) 24) ≡ finding TwoMains (at 13) ∷ []
two_mains_found = refl

-- `main(u) { } post { } post { }`
second_post : type_faults (script (empty_main 1 ∷ Post (at 13) [] None None ∷ Post (at 22) [] None None ∷ []) 30) ≡ finding Twice (at 22) ∷ []
second_post = refl

-- `main(u) { } post { key = 1; remove when 1; }`
key_assigned : type_faults (script (empty_main 1 ∷ Post (at 13) (assignment (word (codes "key") 20) (Number 1 (at 26)) ∷ []) no_spawn (Some (Number 1 (at 41))) ∷ []) 45)
    ≡ finding NotConstTarget (at 20) ∷ finding WantsTruth (at 41) ∷ []
key_assigned = refl

-- an aggregate of this fold over x, behind `attr x const; `
abbrev fold_x : FoldKind → Option (Place × Literal) → Script
fold_x kind otherwise =
    script (const_x ∷ Aggregate (name 65 25) (name 117 27 ∷ []) (fold kind 32 (name 101 36) (Some (name 120 38)) None) [] otherwise ∷ empty_main 60 ∷ []) 71

-- `.. aggregate A(u) = min e.x; ..`
without_else : type_faults (fold_x Min None) ≡ finding ElseMissing (at 32) ∷ []
without_else = refl

-- `.. aggregate A(u) = sum e.x else 0; ..`
with_else : type_faults (fold_x SumOf (Some (at 40, zero_at 45))) ≡ finding ElseUnwanted (at 40) ∷ []
with_else = refl

-- `attr x const; action A(u) on e { x <- true; } main(u) { }`
writes_const : type_faults (script (const_x ∷ Action (name 65 22) (name 117 24 ∷ []) (record { place = at 27; row = name 101 30; tests = []; writes = write (name 120 34) (Truth true (at 39)) no_priority ∷ [] } ∷ []) ∷ empty_main 47 ∷ []) 58)
    ≡ finding ConstWritten (at 34) ∷ finding WantsNumber (at 39) ∷ []
writes_const = refl

-- `routine R(u) { } main(u) { perform R(v, 1); }`
counts_wrong : type_faults (script (Routine (name 82 9) (name 117 11 ∷ []) [] ∷ Main (at 18) (name 117 23) (Perform (at 28) (name 82 36) (name 118 38) (Number 1 (at 41) ∷ []) ∷ []) ∷ []) 46)
    ≡ finding WrongCount (at 36) ∷ finding UnknownName (at 38) ∷ []
unfolding shape-the_row-Stmt-0 hidden-the_row-Stmt-0 hidden
counts_wrong = refl

-- names of two letters that differ, each behind the other
abbrev many : ℕ → List Item
many ℕ.zero = []
many (ℕ.suc n) = Attr (record { text = 97 ∷ n ∷ []; place = at n }) None no_literal ∷ many n

-- the last of 33 const attributes, and none of 32
one_too_many : type_faults (script (many 33 ++ empty_main 40 ∷ []) 50) ≡ finding TooMany (at 0) ∷ []
one_too_many = refl

just_many : type_faults (script (many 32 ++ empty_main 40 ∷ []) 50) ≡ []
just_many = refl

-- ---- priorities, spawning, the nearest and circles

-- `attr g const; attr goal top = 7; action Go(u, v, p) on e where e.key = u.key { goal <- v; } main(u) { }`
without_priority : type_faults (script (Attr (name 103 6) None no_literal ∷ effect (word (codes "goal") 20) Top 31
    ∷ Action (word (codes "Go") 41) (name 117 44 ∷ name 118 47 ∷ name 112 50 ∷ []) (record {
      place = at 53;
      row = name 101 56;
      tests = Compare (name 101 64) (word (codes "key") 66) Eq (Field (name 117 72) (word (codes "key") 74)) ∷ [];
      writes = write (word (codes "goal") 80) (Local (name 118 88)) no_priority ∷ [];
    } ∷ [])
    ∷ empty_main 93 ∷ []) 104)
    ≡ finding ByMissing (at 80) ∷ []
without_priority = refl

-- `attr a TAG = 0; action A(u) on e { a <- 1 by 2; } main(u) { }`
abbrev with_priority : Tag → Script
with_priority tag = script (effect (name 97 6) tag 14
    ∷ Action (name 65 24) (name 117 26 ∷ []) (record { place = at 29; row = name 101 32; tests = []; writes = write (name 97 36) (Number 1 (at 41)) (Some (at 43, Number 2 (at 46))) ∷ [] } ∷ [])
    ∷ empty_main 51 ∷ []) 62

sum_with_priority : type_faults (with_priority Sum) ≡ finding ByUnwanted (at 43) ∷ []
sum_with_priority = refl

top_with_priority : type_faults (with_priority Top) ≡ []
top_with_priority = refl

-- `attr x const; action A(u) on e { x <- 1 by 2; w <- 1 by true; d <- 1; } attr d top = 0; main(u) { }`
other_priorities : type_faults (script (const_x ∷ Action (name 65 22) (name 117 24 ∷ []) (record {
  place = at 27;
  row = name 101 30;
  tests = [];
  writes = write (name 120 34) (Number 1 (at 39)) (Some (at 41, Number 2 (at 44)))
      ∷ write (name 119 47) (Number 1 (at 52)) (Some (at 54, Truth true (at 57))) ∷ write (name 100 63) (Number 1 (at 68)) no_priority ∷ [];
} ∷ [])
    ∷ effect (name 100 78) Top 86 ∷ empty_main 89 ∷ []) 100)
    ≡ finding ConstWritten (at 34) ∷ finding UnknownName (at 47) ∷ finding WantsNumber (at 57) ∷ finding UsedBeforeDefined (at 63) ∷ []
other_priorities = refl

-- `attr x const; main(u) { } post { x = 1; spawn when 1 { x = 2; x = true; } }`
spawns : type_faults (script (const_x ∷ empty_main 15 ∷ Post (at 27) (assignment (name 120 34) (Number 1 (at 38)) ∷ [])
    (Some record { cond = Number 1 (at 52); rules = assignment (name 120 56) (Number 2 (at 60)) ∷ assignment (name 120 63) (Truth true (at 67)) ∷ [] }) None ∷ []) 76)
    ≡ finding WantsTruth (at 52) ∷ finding Twice (at 63) ∷ finding WantsNumber (at 67) ∷ []
spawns = refl

-- `attr x const; attr d sum = 0; aggregate N(u) = nearest e (x, d); main(u) { }`
nearest_of_effect : type_faults (script (const_x ∷ effect (name 100 20) Sum 28
    ∷ Aggregate (name 78 41) (name 117 43 ∷ []) (fold Nearest 48 (name 101 56) (Some (name 120 59)) (Some (name 100 62))) [] None ∷ empty_main 66 ∷ []) 77)
    ≡ finding EffectRead (at 62) ∷ finding ElseMissing (at 48) ∷ []
nearest_of_effect = refl

-- `aggregate C(u) = count e where within(y, key, true); main(u) { }`
within_unknown : type_faults (script (Aggregate (name 67 11) (name 117 13 ∷ []) (fold Count 18 (name 101 24) None None)
    (Within (at 32) (name 121 39) (word (codes "key") 42) (Truth true (at 47)) ∷ []) None ∷ empty_main 54 ∷ []) 65)
    ≡ finding UnknownName (at 39) ∷ finding WantsNumber (at 47) ∷ []
within_unknown = refl
