-- Runs of small scripts, computed from the definitions.
use Rattle.std.proofs.Common.{◌≡◌, ℕ, ℤ, pos, negsuc, List, [], ◌∷◌, Some, None, Ok, Err, refl, true, false}
use Rattle.std.specs.Prelude.{codes}
use denote.Hole.Carrier.{hidden}
use Rattle.sgl_values.specs.World.{Row}
use Rattle.sgl_values.specs.declared.fault.Tag.TheVariants.{Sum, Min, Max, Top}
use Rattle.sgl_values.specs.declared.fault.ArithFault.TheVariants.{Overflow, ZeroDivisor, Priority}
use Rattle.sgl_values.specs.declared.operator.BinOp.TheVariants.{Add, Sub, Mul, Div, Rem, Cmp, And}
use Rattle.sgl_values.specs.declared.operator.CmpOp.TheVariants.{Eq, Ne, Le, Gt, Ge}
use Rattle.sgl_values.specs.declared.operator.FoldKind.TheVariants.{Count, Sum as SumOf, Lowest, Nearest}
use Rattle.sgl_typed.specs.declared.script.Attr.TheVariants.{Key, Const}
use Rattle.sgl_typed.specs.declared.script.TAction.{TAction}
use Rattle.sgl_typed.specs.declared.script.TAgg.{TAgg}
use Rattle.sgl_typed.specs.declared.script.TExpr.{TExpr}
use Rattle.sgl_typed.specs.declared.script.TExpr.TheVariants.{Truth, Slot, Unit as OfUnit, Combined, Random, Neg, Binary}
use Rattle.sgl_typed.specs.declared.script.TExpr.TheBlock.{shape-the_row-TExpr-0, hidden-the_row-TExpr-0, shape-the_row-TExpr-1, hidden-the_row-TExpr-1}
use Rattle.sgl_typed.specs.declared.script.TRoutine.{TRoutine}
use Rattle.sgl_typed.specs.declared.script.TStmt.{TStmt}
use Rattle.sgl_typed.specs.declared.script.TStmt.TheVariants.{Let, Call}
use Rattle.sgl_typed.specs.declared.script.TStmt.TheBlock.{shape-the_row-TStmt-0, hidden-the_row-TStmt-0}
use Rattle.sgl_typed.specs.declared.script.TTest.{TTest}
use Rattle.sgl_typed.specs.declared.script.TTest.TheVariants.{Within}
use Rattle.sgl_typed.specs.declared.script.TWrite.{TWrite}
use Rattle.sgl_typed.specs.declared.tick_fault.TickFault.TheVariants.{Items, Script, Cell}
use Rattle.sgl_typed.specs.Draw.{split, draw}
use Rattle.sgl_typed.specs.Sizes.{written_nodes}
use Rattle.sgl_typed.specs.Tick.{tick, worlds}
use Rattle.sgl_typed.specs.WellFormed.{is_well_formed}
use Rattle.sgl_typed.specs.WrittenOut.{is_written_out}
use Rattle.sgl_typed.proofs.ExampleWords.{at, number, calc, u, call, test, fold, write, on_rows, perform, choose, assign, effect, unit, world, through, parts, Parts, Example}

-- ---- units hit the weakest of another player, where one is near

abbrev other_player : TTest
other_player = test (Const 0) Ne (u 0)

-- how many rows of other players are at most so far away
abbrev near : TAgg
near = fold Count Key 1 (other_player ∷ test (Const 1) Ge (calc Sub (u 1) (Slot 0)) ∷ test (Const 1) Le (calc Add (u 1) (Slot 0)) ∷ [])

abbrev weakest : TAgg
weakest = fold Lowest (Const 2) 0 (other_player ∷ [])

abbrev hit : TAction
hit = on_rows 2 (test Key Eq (Slot 0) ∷ []) (write 0 (Slot 1) ∷ [])

abbrev battle_of : List TStmt → Parts
battle_of main = parts (codes "player" ∷ codes "x" ∷ codes "health" ∷ []) (effect (codes "damage") Sum (pos 0) ∷ []) (near ∷ weakest ∷ []) (hit ∷ []) main 0
    (assign 2 (calc Sub (u 2) (Combined 0)) ∷ []) (Some (calc (Cmp Le) (u 2) (number 0)))

abbrev hit_weakest : TStmt
hit_weakest = perform 0 (call 1 [] ∷ number 3 ∷ [])

abbrev battle_parts : Parts
battle_parts = battle_of (choose (calc (Cmp Gt) (call 0 (number 5 ∷ [])) (number 0)) (hit_weakest ∷ []) [] ∷ [])

abbrev three_units : List Row
three_units = unit 1 (pos 1 ∷ pos 0 ∷ pos 10 ∷ []) ∷ unit 2 (pos 2 ∷ pos 3 ∷ pos 5 ∷ []) ∷ unit 3 (pos 2 ∷ pos 100 ∷ pos 2 ∷ []) ∷ []

-- a unit that reaches 0 is removed
hits_the_weakest : Example battle_parts (λ script. tick script (world 0 three_units) 0 8000000 ≡ Ok (world 1 (unit 1 (pos 1 ∷ pos 0 ∷ pos 7 ∷ []) ∷ unit 2 (pos 2 ∷ pos 3 ∷ pos 5 ∷ []) ∷ [])))
unfolding shape-the_row-TExpr-0 hidden-the_row-TExpr-0 shape-the_row-TExpr-1 hidden-the_row-TExpr-1 shape-the_row-TStmt-0 hidden-the_row-TStmt-0 hidden is_well_formed
hits_the_weakest = record { fit = record { names = refl; rest = refl }; so = refl }

-- the limit on items may be reached
allows_two_items : Example battle_parts (λ script. tick script (world 0 three_units) 0 2 ≡ tick script (world 0 three_units) 0 8000000)
unfolding shape-the_row-TExpr-0 hidden-the_row-TExpr-0 shape-the_row-TExpr-1 hidden-the_row-TExpr-1 shape-the_row-TStmt-0 hidden-the_row-TStmt-0 hidden is_well_formed
allows_two_items = record { fit = record { names = refl; rest = refl }; so = refl }

refuses_a_second_item : Example battle_parts (λ script. tick script (world 0 three_units) 0 1 ≡ Err (Items 1))
unfolding shape-the_row-TExpr-0 hidden-the_row-TExpr-0 shape-the_row-TExpr-1 hidden-the_row-TExpr-1 shape-the_row-TStmt-0 hidden-the_row-TStmt-0 hidden is_well_formed
refuses_a_second_item = record { fit = record { names = refl; rest = refl }; so = refl }

-- of equal rows the least key is the lowest
breaks_a_tie_by_key : Example battle_parts (λ script. tick script (world 0 (unit 1 (pos 1 ∷ pos 0 ∷ pos 50 ∷ []) ∷ unit 4 (pos 2 ∷ pos 1 ∷ pos 5 ∷ []) ∷ unit 9 (pos 2 ∷ pos 2 ∷ pos 5 ∷ []) ∷ [])) 0 8000000
    ≡ Ok (world 1 (unit 1 (pos 1 ∷ pos 0 ∷ pos 44 ∷ []) ∷ unit 4 (pos 2 ∷ pos 1 ∷ pos 2 ∷ []) ∷ unit 9 (pos 2 ∷ pos 2 ∷ pos 5 ∷ []) ∷ [])))
unfolding shape-the_row-TExpr-0 hidden-the_row-TExpr-0 shape-the_row-TExpr-1 hidden-the_row-TExpr-1 shape-the_row-TStmt-0 hidden-the_row-TStmt-0 hidden is_well_formed
breaks_a_tie_by_key = record { fit = record { names = refl; rest = refl }; so = refl }

-- without a row that passes, `lowest` is what stands behind `else`, which is no key
abbrev lone_parts : Parts
lone_parts = battle_of (hit_weakest ∷ [])

hits_no_unit : Example lone_parts (λ script. tick script (world 0 (unit 7 (pos 1 ∷ pos 0 ∷ pos 5 ∷ []) ∷ [])) 0 8000000 ≡ Ok (world 1 (unit 7 (pos 1 ∷ pos 0 ∷ pos 5 ∷ []) ∷ [])))
unfolding shape-the_row-TExpr-0 hidden-the_row-TExpr-0 shape-the_row-TExpr-1 hidden-the_row-TExpr-1 shape-the_row-TStmt-0 hidden-the_row-TStmt-0 hidden is_well_formed
hits_no_unit = record { fit = record { names = refl; rest = refl }; so = refl }

-- a run goes on without units
runs_on_without_units : Example battle_parts (λ script. worlds script (world 0 (unit 1 (pos 1 ∷ pos 0 ∷ pos 3 ∷ []) ∷ unit 2 (pos 2 ∷ pos 1 ∷ pos 3 ∷ []) ∷ [])) 0 8000000 2
    ≡ through (world 0 (unit 1 (pos 1 ∷ pos 0 ∷ pos 3 ∷ []) ∷ unit 2 (pos 2 ∷ pos 1 ∷ pos 3 ∷ []) ∷ []) ∷ world 1 [] ∷ world 2 [] ∷ []))
unfolding shape-the_row-TExpr-0 hidden-the_row-TExpr-0 shape-the_row-TExpr-1 hidden-the_row-TExpr-1 shape-the_row-TStmt-0 hidden-the_row-TStmt-0 hidden is_well_formed
runs_on_without_units = record { fit = record { names = refl; rest = refl }; so = refl }

-- ---- amounts are added exactly

abbrev add_to_itself : TAction
add_to_itself = on_rows 1 (test Key Eq (OfUnit Key) ∷ []) (write 0 (Slot 0) ∷ [])

abbrev adding : List TStmt → Parts
adding main = parts (codes "n" ∷ []) (effect (codes "a") Sum (pos 0) ∷ []) [] (add_to_itself ∷ []) main 0 (assign 0 (Combined 0) ∷ []) None

abbrev add_most : TStmt
add_most = perform 0 (number 1000000000000 ∷ [])

abbrev adds_three_parts : Parts
adds_three_parts = adding (add_most ∷ add_most ∷ perform 0 (Neg (number 1000000000000) ∷ []) ∷ [])

-- the sum passes the range midway
passes_the_range_midway : Example adds_three_parts (λ script. tick script (world 0 (unit 1 (pos 0 ∷ []) ∷ [])) 0 8000000 ≡ Ok (world 1 (unit 1 (pos 1000000000000 ∷ []) ∷ [])))
unfolding shape-the_row-TExpr-0 hidden-the_row-TExpr-0 shape-the_row-TExpr-1 hidden-the_row-TExpr-1 shape-the_row-TStmt-0 hidden-the_row-TStmt-0 hidden is_well_formed
passes_the_range_midway = record { fit = record { names = refl; rest = refl }; so = refl }

abbrev adds_two_parts : Parts
adds_two_parts = adding (add_most ∷ add_most ∷ [])

-- the sum ends outside the range
refuses_a_wide_cell : Example adds_two_parts (λ script. tick script (world 0 (unit 1 (pos 0 ∷ []) ∷ [])) 0 8000000 ≡ Err (Cell 1 0))
unfolding shape-the_row-TExpr-0 hidden-the_row-TExpr-0 shape-the_row-TExpr-1 hidden-the_row-TExpr-1 shape-the_row-TStmt-0 hidden-the_row-TStmt-0 hidden is_well_formed
refuses_a_wide_cell = record { fit = record { names = refl; rest = refl }; so = refl }

-- ---- faults are values

abbrev squared : TExpr
squared = Binary Mul (u 0) (u 0) (at 37)

abbrev squares_parts : Parts
squares_parts = parts (codes "x" ∷ []) [] [] [] (Let 0 squared (at 1) ∷ []) 1 [] None

-- a fault that nothing uses refuses nothing
sets_a_fault : Example squares_parts (λ script. tick script (world 0 (unit 1 (pos 1000000000000 ∷ []) ∷ [])) 0 8000000 ≡ Ok (world 1 (unit 1 (pos 1000000000000 ∷ []) ∷ [])))
unfolding shape-the_row-TExpr-0 hidden-the_row-TExpr-0 shape-the_row-TExpr-1 hidden-the_row-TExpr-1 shape-the_row-TStmt-0 hidden-the_row-TStmt-0 hidden is_well_formed
sets_a_fault = record { fit = record { names = refl; rest = refl }; so = refl }

abbrev tests_a_square_parts : Parts
tests_a_square_parts = parts (codes "x" ∷ []) [] [] [] (Let 0 squared (at 1) ∷ choose (calc (Cmp Gt) (Slot 0) (number 0)) [] [] ∷ []) 1 [] None

-- a fault in a condition refuses
refuses_an_overflow : Example tests_a_square_parts (λ script. tick script (world 0 (unit 1 (pos 1000000000000 ∷ []) ∷ [])) 0 8000000 ≡ Err (Script 1 record { kind = Overflow; place = at 37 }))
unfolding shape-the_row-TExpr-0 hidden-the_row-TExpr-0 shape-the_row-TExpr-1 hidden-the_row-TExpr-1 shape-the_row-TStmt-0 hidden-the_row-TStmt-0 hidden is_well_formed
refuses_an_overflow = record { fit = record { names = refl; rest = refl }; so = refl }

abbrev tests_a_sum_parts : Parts
tests_a_sum_parts = parts (codes "x" ∷ []) [] (fold SumOf (Const 0) 0 [] ∷ []) [] (choose (calc (Cmp Gt) (call 0 []) (number 0)) [] [] ∷ []) 0 [] None

-- a sum outside the range is a fault at its word
refuses_a_wide_sum : Example tests_a_sum_parts (λ script. tick script (world 0 (unit 1 (pos 1000000000000 ∷ []) ∷ unit 2 (pos 1000000000000 ∷ []) ∷ [])) 0 8000000 ≡ Err (Script 1 record { kind = Overflow; place = at 34 }))
unfolding shape-the_row-TExpr-0 hidden-the_row-TExpr-0 shape-the_row-TExpr-1 hidden-the_row-TExpr-1 shape-the_row-TStmt-0 hidden-the_row-TStmt-0 hidden is_well_formed
refuses_a_wide_sum = record { fit = record { names = refl; rest = refl }; so = refl }

abbrev five_by_zero : TExpr
five_by_zero = calc (Cmp Gt) (Binary Div (number 5) (calc Sub (u 0) (u 0)) (at 44)) (number 0)

abbrev divides_parts : Parts
divides_parts = parts (codes "a" ∷ codes "b" ∷ []) [] [] [] (choose (calc And (Truth false) five_by_zero) [] [] ∷ []) 0
    (assign 0 (calc Div (Neg (number 7)) (number 2)) ∷ assign 1 (calc Rem (Neg (number 7)) (number 2)) ∷ []) None

-- division truncates toward zero, and `and` goes by its left side
divides_toward_zero : Example divides_parts (λ script. tick script (world 0 (unit 1 (pos 0 ∷ pos 0 ∷ []) ∷ [])) 0 8000000 ≡ Ok (world 1 (unit 1 (negsuc 2 ∷ negsuc 0 ∷ []) ∷ [])))
unfolding shape-the_row-TExpr-0 hidden-the_row-TExpr-0 shape-the_row-TExpr-1 hidden-the_row-TExpr-1 shape-the_row-TStmt-0 hidden-the_row-TStmt-0 hidden is_well_formed
divides_toward_zero = record { fit = record { names = refl; rest = refl }; so = refl }

abbrev divides_by_zero_parts : Parts
divides_by_zero_parts = parts (codes "a" ∷ codes "b" ∷ []) [] [] [] (choose five_by_zero [] [] ∷ []) 0 [] None

refuses_a_zero_divisor : Example divides_by_zero_parts (λ script. tick script (world 0 (unit 1 (pos 0 ∷ pos 0 ∷ []) ∷ [])) 0 8000000 ≡ Err (Script 1 record { kind = ZeroDivisor; place = at 44 }))
unfolding shape-the_row-TExpr-0 hidden-the_row-TExpr-0 shape-the_row-TExpr-1 hidden-the_row-TExpr-1 shape-the_row-TStmt-0 hidden-the_row-TStmt-0 hidden is_well_formed
refuses_a_zero_divisor = record { fit = record { names = refl; rest = refl }; so = refl }

-- ---- random numbers

-- the first word of SplitMix64 from the state 0
splits_the_state_zero : split 0 ≡ 0xE220A8397B1DCDAF
unfolding shape-the_row-TExpr-0 hidden-the_row-TExpr-0 shape-the_row-TExpr-1 hidden-the_row-TExpr-1 shape-the_row-TStmt-0 hidden-the_row-TStmt-0 hidden split
splits_the_state_zero = refl

abbrev draws_one_parts : Parts
draws_one_parts = parts (codes "v" ∷ []) [] [] [] [] 0 (assign 0 (Random 0) ∷ []) None

-- the seed, the tick, the key and the index make the state 0 here
draws : Example draws_one_parts (λ script. tick script (world 0 (unit 1 (pos 0 ∷ []) ∷ [])) 65536 8000000 ≡ Ok (world 1 (unit 1 (pos 1896895516 ∷ []) ∷ [])))
unfolding shape-the_row-TExpr-0 hidden-the_row-TExpr-0 shape-the_row-TExpr-1 hidden-the_row-TExpr-1 shape-the_row-TStmt-0 hidden-the_row-TStmt-0 hidden split draw is_well_formed
draws = record { fit = record { names = refl; rest = refl }; so = refl }

-- ---- the least and the greatest of amounts, with their starting values

abbrev sets_parts : Parts
sets_parts = parts (codes "n" ∷ []) (effect (codes "lo") Min (pos 5) ∷ effect (codes "hi") Max (pos 5) ∷ []) []
    (on_rows 1 (test Key Eq (OfUnit Key) ∷ []) (write 0 (Slot 0) ∷ write 1 (Slot 0) ∷ []) ∷ [])
    (choose (calc (Cmp Gt) (u 0) (number 0)) (perform 0 (u 0 ∷ []) ∷ []) [] ∷ []) 0
    (assign 0 (calc Add (calc Mul (Combined 0) (number 100)) (Combined 1)) ∷ []) None

keeps_starting_values : Example sets_parts (λ script. tick script (world 0 (unit 1 (pos 0 ∷ []) ∷ unit 2 (pos 9 ∷ []) ∷ unit 3 (pos 2 ∷ []) ∷ [])) 0 8000000
    ≡ Ok (world 1 (unit 1 (pos 505 ∷ []) ∷ unit 2 (pos 509 ∷ []) ∷ unit 3 (pos 205 ∷ []) ∷ [])))
unfolding shape-the_row-TExpr-0 hidden-the_row-TExpr-0 shape-the_row-TExpr-1 hidden-the_row-TExpr-1 shape-the_row-TStmt-0 hidden-the_row-TStmt-0 hidden is_well_formed
keeps_starting_values = record { fit = record { names = refl; rest = refl }; so = refl }

-- ---- a routine and what it is written out to

-- a routine that adds its parameter twice
abbrev adds_twice : TRoutine
adds_twice = record { params = 0 ∷ []; body = perform 0 (Slot 0 ∷ []) ∷ perform 0 (Slot 0 ∷ []) ∷ [] }

calls_a_routine : is_well_formed record { consts = codes "n" ∷ []; effects = effect (codes "a") Sum (pos 0) ∷ []; fits = refl } [] (add_to_itself ∷ []) (adds_twice ∷ [])
    (Call 0 (u 0 ∷ []) (at 1 ∷ []) ∷ []) 1 (assign 0 (calc Add (u 0) (Combined 0)) ∷ []) None None ≡ true
unfolding shape-the_row-TExpr-0 hidden-the_row-TExpr-0 shape-the_row-TExpr-1 hidden-the_row-TExpr-1 shape-the_row-TStmt-0 hidden-the_row-TStmt-0 hidden is_well_formed
calls_a_routine = refl

-- each argument has its place
places_each_argument : is_well_formed record { consts = codes "n" ∷ []; effects = effect (codes "a") Sum (pos 0) ∷ []; fits = refl } [] (add_to_itself ∷ []) (adds_twice ∷ [])
    (Call 0 (u 0 ∷ []) [] ∷ []) 1 [] None None ≡ false
unfolding shape-the_row-TExpr-0 hidden-the_row-TExpr-0 shape-the_row-TExpr-1 hidden-the_row-TExpr-1 shape-the_row-TStmt-0 hidden-the_row-TStmt-0 hidden is_well_formed
places_each_argument = refl

abbrev written_out_parts : Parts
written_out_parts = parts (codes "n" ∷ []) (effect (codes "a") Sum (pos 0) ∷ []) [] (add_to_itself ∷ [])
    (Let 0 (u 0) (at 1) ∷ perform 0 (Slot 0 ∷ []) ∷ perform 0 (Slot 0 ∷ []) ∷ []) 1 (assign 0 (calc Add (u 0) (Combined 0)) ∷ []) None

-- each of its three statements has one expression
counts_six_nodes : Example written_out_parts (λ script. written_nodes [] script.main ≡ 6)
unfolding shape-the_row-TExpr-0 hidden-the_row-TExpr-0 shape-the_row-TExpr-1 hidden-the_row-TExpr-1 shape-the_row-TStmt-0 hidden-the_row-TStmt-0 hidden is_well_formed
counts_six_nodes = record { fit = record { names = refl; rest = refl }; so = refl }

-- the call and the routine count the same
counts_six_nodes_of_a_call : written_nodes (adds_twice ∷ []) (Call 0 (u 0 ∷ []) (at 1 ∷ []) ∷ []) ≡ 6
unfolding shape-the_row-TExpr-0 hidden-the_row-TExpr-0 shape-the_row-TExpr-1 hidden-the_row-TExpr-1 shape-the_row-TStmt-0 hidden-the_row-TStmt-0 hidden
counts_six_nodes_of_a_call = refl

has_no_calls : Example written_out_parts (λ script. is_written_out script ≡ true)
unfolding shape-the_row-TExpr-0 hidden-the_row-TExpr-0 shape-the_row-TExpr-1 hidden-the_row-TExpr-1 shape-the_row-TStmt-0 hidden-the_row-TStmt-0 hidden is_written_out is_well_formed
has_no_calls = record { fit = record { names = refl; rest = refl }; so = refl }

adds_by_a_routine : Example written_out_parts (λ script. tick script (world 0 (unit 1 (pos 5 ∷ []) ∷ [])) 0 8000000 ≡ Ok (world 1 (unit 1 (pos 15 ∷ []) ∷ [])))
unfolding shape-the_row-TExpr-0 hidden-the_row-TExpr-0 shape-the_row-TExpr-1 hidden-the_row-TExpr-1 shape-the_row-TStmt-0 hidden-the_row-TStmt-0 hidden is_well_formed
adds_by_a_routine = record { fit = record { names = refl; rest = refl }; so = refl }

-- ---- the sample script: two players, who fight the few and flee from the many

abbrev within : TExpr → List TTest
within distance =
    test (Const 1) Ge (calc Sub (u 1) distance) ∷ test (Const 1) Le (calc Add (u 1) distance)
    ∷ test (Const 2) Ge (calc Sub (u 2) distance) ∷ test (Const 2) Le (calc Add (u 2) distance) ∷ []

abbrev foes : TAgg
foes = fold Count Key 1 (other_player ∷ within (Slot 0))

abbrev friends : TAgg
friends = fold Count Key 1 (test (Const 0) Eq (u 0) ∷ within (Slot 0))

abbrev weak : TAgg
weak = fold Lowest (Const 3) 0 (other_player ∷ within (number 20))

abbrev move : TAction
move = on_rows 2 (test Key Eq (OfUnit Key) ∷ []) (write 1 (Slot 0) ∷ write 2 (Slot 1) ∷ [])

abbrev scare : TAction
scare = on_rows 1 (other_player ∷ within (Slot 0)) (write 3 (number 1) ∷ [])

-- a step of -1, 0 or 1
abbrev step : ℕ → TExpr
step index = calc Sub (calc Rem (Random index) (number 3)) (number 1)

abbrev sample_parts : Parts
sample_parts = parts (codes "player" ∷ codes "x" ∷ codes "y" ∷ codes "health" ∷ [])
    (effect (codes "damage") Sum (pos 0) ∷ effect (codes "dx") Sum (pos 0) ∷ effect (codes "dy") Sum (pos 0) ∷ effect (codes "fear") Max (pos 0) ∷ [])
    (foes ∷ friends ∷ weak ∷ []) (hit ∷ move ∷ scare ∷ [])
    (Let 0 (call 0 (number 20 ∷ [])) (at 1)
    ∷ choose (calc (Cmp Eq) (Slot 0) (number 0)) (perform 1 (step 1 ∷ step 2 ∷ []) ∷ [])
    (choose (calc (Cmp Gt) (Slot 0) (calc Add (call 1 (number 20 ∷ [])) (number 2)))
    (perform 1 (number 2 ∷ number 2 ∷ []) ∷ [])
    (perform 0 (call 2 [] ∷ number 4 ∷ []) ∷ perform 2 (number 4 ∷ []) ∷ [])
    ∷ [])
    ∷ []) 1
    (assign 1 (calc Add (u 1) (Combined 1)) ∷ assign 2 (calc Add (u 2) (Combined 2)) ∷ assign 3 (calc Sub (calc Sub (u 3) (Combined 0)) (Combined 3)) ∷ [])
    (Some (calc (Cmp Le) (u 3) (number 0)))

abbrev two_players : List Row
two_players = unit 1 (pos 1 ∷ pos 0 ∷ pos 0 ∷ pos 50 ∷ []) ∷ unit 2 (pos 2 ∷ pos 3 ∷ pos 0 ∷ pos 50 ∷ []) ∷ unit 4 (pos 2 ∷ pos 10 ∷ pos 10 ∷ pos 40 ∷ []) ∷ []

-- all three fight, with five items
fights_the_few : Example sample_parts (λ script. tick script (world 0 two_players) 0 5 ≡ Ok (world 1 (unit 1 (pos 1 ∷ pos 0 ∷ pos 0 ∷ pos 41 ∷ []) ∷ unit 2 (pos 2 ∷ pos 3 ∷ pos 0 ∷ pos 49 ∷ []) ∷ unit 4 (pos 2 ∷ pos 10 ∷ pos 10 ∷ pos 36 ∷ []) ∷ [])))
unfolding shape-the_row-TExpr-0 hidden-the_row-TExpr-0 shape-the_row-TExpr-1 hidden-the_row-TExpr-1 shape-the_row-TStmt-0 hidden-the_row-TStmt-0 hidden is_well_formed
fights_the_few = record { fit = record { names = refl; rest = refl }; so = refl }

refuses_the_fifth_item : Example sample_parts (λ script. tick script (world 0 two_players) 0 4 ≡ Err (Items 4))
unfolding shape-the_row-TExpr-0 hidden-the_row-TExpr-0 shape-the_row-TExpr-1 hidden-the_row-TExpr-1 shape-the_row-TStmt-0 hidden-the_row-TStmt-0 hidden is_well_formed
refuses_the_fifth_item = record { fit = record { names = refl; rest = refl }; so = refl }

-- ---- the greatest priority wins

abbrev write_by : ℕ → TExpr → TExpr → TWrite
write_by effect amount priority = record { effect = effect; amount = amount; by = Some (at 90, priority) }

abbrev go : TAction
go = on_rows 2 (test Key Eq (OfUnit Key) ∷ []) (write_by 0 (Slot 0) (Slot 1) ∷ [])

abbrev goals_parts : Parts
goals_parts = parts (codes "g" ∷ []) (effect (codes "goal") Top (pos 7) ∷ []) [] (go ∷ [])
    (choose (calc (Cmp Gt) (u 0) (number 0)) (perform 0 (number 3 ∷ u 0 ∷ []) ∷ perform 0 (Neg (number 4) ∷ number 2 ∷ []) ∷ []) [] ∷ []) 0
    (assign 0 (Combined 0) ∷ []) None

-- without an amount the starting value holds; of equal priorities the greater value wins
takes_the_greatest_priority : Example goals_parts (λ script. tick script (world 0 (unit 1 (pos 0 ∷ []) ∷ unit 2 (pos 1 ∷ []) ∷ unit 3 (pos 2 ∷ []) ∷ unit 4 (pos 5 ∷ []) ∷ [])) 0 8000000
    ≡ Ok (world 1 (unit 1 (pos 7 ∷ []) ∷ unit 2 (negsuc 3 ∷ []) ∷ unit 3 (pos 3 ∷ []) ∷ unit 4 (pos 3 ∷ []) ∷ [])))
unfolding shape-the_row-TExpr-0 hidden-the_row-TExpr-0 shape-the_row-TExpr-1 hidden-the_row-TExpr-1 shape-the_row-TStmt-0 hidden-the_row-TStmt-0 hidden is_well_formed
takes_the_greatest_priority = record { fit = record { names = refl; rest = refl }; so = refl }

refuses_a_priority : Example goals_parts (λ script. tick script (world 0 (unit 1 (pos 1000001 ∷ []) ∷ [])) 0 8000000 ≡ Err (Script 1 record { kind = Priority; place = at 90 }))
unfolding shape-the_row-TExpr-0 hidden-the_row-TExpr-0 shape-the_row-TExpr-1 hidden-the_row-TExpr-1 shape-the_row-TStmt-0 hidden-the_row-TStmt-0 hidden is_well_formed
refuses_a_priority = record { fit = record { names = refl; rest = refl }; so = refl }

-- ---- near units

abbrev set_own : TAction
set_own = on_rows 1 (test Key Eq (OfUnit Key) ∷ []) (write 0 (Slot 0) ∷ [])

-- each unit sets its third attribute to what this aggregate gives
abbrev looking : TAgg → Parts
looking agg = parts (codes "x" ∷ codes "y" ∷ codes "n" ∷ []) (effect (codes "c") Sum (pos 0) ∷ []) (agg ∷ []) (set_own ∷ []) (perform 0 (call 0 [] ∷ []) ∷ []) 0
    (assign 2 (Combined 0) ∷ []) None

abbrev at_point : ℕ → ℤ → ℤ → ℤ → Row
at_point key x y n = unit key (x ∷ y ∷ n ∷ [])

abbrev nearest_other : TAgg
nearest_other = record (fold Nearest (Const 0) 0 (test Key Ne (OfUnit Key) ∷ [])) { second = Const 1 }

-- of units as near the least key
finds_the_nearest : Example (looking nearest_other) (λ script. tick script (world 0 (at_point 1 (pos 0) (pos 0) (pos 0) ∷ at_point 2 (pos 3) (pos 4) (pos 0) ∷ at_point 3 (negsuc 2) (pos 4) (pos 0) ∷ [])) 0 8000000
    ≡ Ok (world 1 (at_point 1 (pos 0) (pos 0) (pos 2) ∷ at_point 2 (pos 3) (pos 4) (pos 1) ∷ at_point 3 (negsuc 2) (pos 4) (pos 1) ∷ [])))
unfolding shape-the_row-TExpr-0 hidden-the_row-TExpr-0 shape-the_row-TExpr-1 hidden-the_row-TExpr-1 shape-the_row-TStmt-0 hidden-the_row-TStmt-0 hidden is_well_formed
finds_the_nearest = record { fit = record { names = refl; rest = refl }; so = refl }

finds_no_other : Example (looking nearest_other) (λ script. tick script (world 0 (at_point 1 (pos 0) (pos 0) (pos 0) ∷ [])) 0 8000000 ≡ Ok (world 1 (at_point 1 (pos 0) (pos 0) (pos 0) ∷ [])))
unfolding shape-the_row-TExpr-0 hidden-the_row-TExpr-0 shape-the_row-TExpr-1 hidden-the_row-TExpr-1 shape-the_row-TStmt-0 hidden-the_row-TStmt-0 hidden is_well_formed
finds_no_other = record { fit = record { names = refl; rest = refl }; so = refl }

abbrev around : TExpr → TAgg
around radius = fold Count Key 0 (Within (Const 0) (Const 1) radius ∷ [])

-- the edge of a circle lies in it
counts_in_circles : Example (looking (around (number 5))) (λ script. tick script (world 0 (at_point 1 (pos 0) (pos 0) (pos 0) ∷ at_point 2 (pos 3) (pos 4) (pos 0) ∷ at_point 3 (pos 3) (pos 5) (pos 0) ∷ [])) 0 8000000
    ≡ Ok (world 1 (at_point 1 (pos 0) (pos 0) (pos 2) ∷ at_point 2 (pos 3) (pos 4) (pos 3) ∷ at_point 3 (pos 3) (pos 5) (pos 2) ∷ [])))
unfolding shape-the_row-TExpr-0 hidden-the_row-TExpr-0 shape-the_row-TExpr-1 hidden-the_row-TExpr-1 shape-the_row-TStmt-0 hidden-the_row-TStmt-0 hidden is_well_formed
counts_in_circles = record { fit = record { names = refl; rest = refl }; so = refl }

-- a radius below 0 has no circle
counts_in_no_circle : Example (looking (around (Neg (number 1)))) (λ script. tick script (world 0 (at_point 1 (pos 0) (pos 0) (pos 9) ∷ [])) 0 8000000 ≡ Ok (world 1 (at_point 1 (pos 0) (pos 0) (pos 0) ∷ [])))
unfolding shape-the_row-TExpr-0 hidden-the_row-TExpr-0 shape-the_row-TExpr-1 hidden-the_row-TExpr-1 shape-the_row-TStmt-0 hidden-the_row-TStmt-0 hidden is_well_formed
counts_in_no_circle = record { fit = record { names = refl; rest = refl }; so = refl }
