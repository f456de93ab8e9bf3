-- What no script is, computed from the definitions.
use Rattle.std.proofs.Common.{◌≡◌, pos, [], ◌∷◌, Some, None, refl, true, false}
use Rattle.std.specs.Prelude.{codes}
use denote.Hole.Carrier.{hidden}
use Rattle.sgl_values.specs.declared.fault.Tag.TheVariants.{Sum}
use Rattle.sgl_values.specs.declared.operator.BinOp.TheVariants.{Cmp}
use Rattle.sgl_values.specs.declared.operator.CmpOp.TheVariants.{Eq, Gt}
use Rattle.sgl_values.specs.declared.operator.FoldKind.TheVariants.{Count}
use Rattle.sgl_typed.specs.declared.script.Attr.TheVariants.{Key, Const}
use Rattle.sgl_typed.specs.declared.schema.Schema.{Schema}
use Rattle.sgl_typed.specs.declared.script.TExpr.TheVariants.{Truth, Slot}
use Rattle.sgl_typed.specs.declared.script.TExpr.TheBlock.{shape-the_row-TExpr-0, hidden-the_row-TExpr-0, shape-the_row-TExpr-1, hidden-the_row-TExpr-1}
use Rattle.sgl_typed.specs.declared.script.TStmt.TheVariants.{Let}
use Rattle.sgl_typed.specs.declared.script.TStmt.TheBlock.{shape-the_row-TStmt-0, hidden-the_row-TStmt-0}
use Rattle.sgl_typed.specs.SchemaForm.{attributes_fit}
use Rattle.sgl_typed.specs.WellFormed.{is_well_formed}
use Rattle.sgl_typed.proofs.ExampleWords.{at, number, calc, call, test, fold, choose, assign, effect}

abbrev no_schema : Schema
no_schema = record { consts = []; effects = []; fits = refl }

-- a slot is read behind its `let`
reads_a_slot : is_well_formed no_schema [] [] [] (Let 0 (number 1) (at 1) ∷ choose (calc (Cmp Gt) (Slot 0) (number 0)) [] [] ∷ []) 1 [] None None ≡ true
unfolding shape-the_row-TExpr-0 hidden-the_row-TExpr-0 shape-the_row-TExpr-1 hidden-the_row-TExpr-1 shape-the_row-TStmt-0 hidden-the_row-TStmt-0 hidden is_well_formed
reads_a_slot = refl

-- no `let` sets this slot
reads_no_slot : is_well_formed no_schema [] [] [] (choose (calc (Cmp Gt) (Slot 0) (number 0)) [] [] ∷ []) 1 [] None None ≡ false
unfolding shape-the_row-TExpr-0 hidden-the_row-TExpr-0 shape-the_row-TExpr-1 hidden-the_row-TExpr-1 shape-the_row-TStmt-0 hidden-the_row-TStmt-0 hidden is_well_formed
reads_no_slot = refl

-- a slot that is set in a block is not read behind it
reads_no_inner_slot : is_well_formed no_schema [] [] []
    (choose (Truth true) (Let 0 (number 1) (at 1) ∷ []) [] ∷ choose (calc (Cmp Gt) (Slot 0) (number 0)) [] [] ∷ []) 1 [] None None ≡ false
unfolding shape-the_row-TExpr-0 hidden-the_row-TExpr-0 shape-the_row-TExpr-1 hidden-the_row-TExpr-1 shape-the_row-TStmt-0 hidden-the_row-TStmt-0 hidden is_well_formed
reads_no_inner_slot = refl

-- no slot is set twice
sets_no_slot_twice : is_well_formed no_schema [] [] [] (Let 0 (number 1) (at 1) ∷ Let 0 (number 2) (at 1) ∷ []) 1 [] None None ≡ false
unfolding shape-the_row-TExpr-0 hidden-the_row-TExpr-0 shape-the_row-TExpr-1 hidden-the_row-TExpr-1 shape-the_row-TStmt-0 hidden-the_row-TStmt-0 hidden is_well_formed
sets_no_slot_twice = refl

-- a condition is a truth
tests_no_number : is_well_formed no_schema [] [] [] (choose (number 1) [] [] ∷ []) 0 [] None None ≡ false
unfolding shape-the_row-TExpr-0 hidden-the_row-TExpr-0 shape-the_row-TExpr-1 hidden-the_row-TExpr-1 shape-the_row-TStmt-0 hidden-the_row-TStmt-0 hidden is_well_formed
tests_no_number = refl

-- names of attributes differ
names_none_twice : attributes_fit (codes "a" ∷ []) (effect (codes "a") Sum (pos 0) ∷ []) ≡ false
names_none_twice = refl

-- no attribute is named `key`
names_none_key : attributes_fit (codes "key" ∷ []) [] ≡ false
names_none_key = refl

-- a count reads no attribute
counts_no_attribute : is_well_formed record { consts = codes "a" ∷ []; effects = []; fits = refl } (fold Count (Const 0) 0 [] ∷ []) [] [] [] 0 [] None None ≡ false
unfolding shape-the_row-TExpr-0 hidden-the_row-TExpr-0 shape-the_row-TExpr-1 hidden-the_row-TExpr-1 shape-the_row-TStmt-0 hidden-the_row-TStmt-0 hidden is_well_formed
counts_no_attribute = refl

-- no call stands in a test
calls_in_no_test : is_well_formed no_schema (fold Count Key 0 [] ∷ fold Count Key 0 (test Key Eq (call 0 []) ∷ []) ∷ []) [] [] [] 0 [] None None ≡ false
unfolding shape-the_row-TExpr-0 hidden-the_row-TExpr-0 shape-the_row-TExpr-1 hidden-the_row-TExpr-1 shape-the_row-TStmt-0 hidden-the_row-TStmt-0 hidden is_well_formed
calls_in_no_test = refl

-- an action has a clause
performs_no_nothing : is_well_formed no_schema [] (record { name = []; params = 0; ons = [] } ∷ []) [] [] 0 [] None None ≡ false
unfolding shape-the_row-TExpr-0 hidden-the_row-TExpr-0 shape-the_row-TExpr-1 hidden-the_row-TExpr-1 shape-the_row-TStmt-0 hidden-the_row-TStmt-0 hidden is_well_formed
performs_no_nothing = refl

-- the block counts apart from the rules of `post`, and assigns none twice
blocks_assign_none_twice : is_well_formed record { consts = codes "a" ∷ []; effects = []; fits = refl } [] [] [] [] 0 (assign 0 (number 1) ∷ [])
    (Some record { cond = Truth true; rules = assign 0 (number 1) ∷ assign 0 (number 2) ∷ [] }) None ≡ false
unfolding shape-the_row-TExpr-0 hidden-the_row-TExpr-0 shape-the_row-TExpr-1 hidden-the_row-TExpr-1 shape-the_row-TStmt-0 hidden-the_row-TStmt-0 hidden is_well_formed
blocks_assign_none_twice = refl

-- `spawn when` is a truth
spawns_by_no_number : is_well_formed no_schema [] [] [] [] 0 [] (Some record { cond = number 1; rules = [] }) None ≡ false
unfolding shape-the_row-TExpr-0 hidden-the_row-TExpr-0 shape-the_row-TExpr-1 hidden-the_row-TExpr-1 shape-the_row-TStmt-0 hidden-the_row-TStmt-0 hidden is_well_formed
spawns_by_no_number = refl
