-- What statements with calls give: a call gives what the statements of the routine give, with the values of the arguments in the slots of its parameters.
use Rattle.std.specs.Prelude.{◌≡◌, ℕ, pos, List, [], ◌∷◌, ◌++◌, map, replicate, slice_get, slice_set, Option, Some, None}
use Rattle.sgl_values.specs.declared.fault.Val.{Val}
use Rattle.sgl_values.specs.declared.fault.Val.TheVariants.{N}
use Rattle.sgl_values.specs.declared.item.Item.{Item}
use Rattle.sgl_typed.specs.declared.script.TRoutine.{TRoutine}
use Rattle.sgl_typed.specs.declared.script.TScript.{TScript}
use Rattle.sgl_typed.specs.declared.script.TStmt.{TStmt, Row_of-TStmt, end_of-TStmt, more_of-TStmt}
use Rattle.sgl_typed.specs.declared.script.TStmt.TheVariants.{Let, If', Act, Call}
use Rattle.sgl_typed.specs.Aggregate.{value}
use Rattle.sgl_typed.specs.Items.{items, after, chosen, action_items}
use Rattle.sgl_typed.specs.Value.{Context}
use Rattle.sgl_expand.specs.Expand.{main_of, main_nodes, main_depth}
use Rattle.sgl_typed.specs.Sizes.{written_nodes, written_depth}
use Rattle.sgl_expand.specs.Written.{lets}

-- what a routine gives: by the context of its call, and the values of the arguments
abbrev pub Meaning : Type 0
Meaning = Context → List Val → List Item

-- slots with these values in the slots of the parameters
abbrev pub with_params : List ℕ → List Val → List Val → List Val
with_params [] vals slots = slots
with_params (param ∷ params) [] slots = slots
with_params (param ∷ params) (v ∷ vals) slots = with_params params vals (slice_set slots param v)

-- no script calls a routine that it lacks
abbrev pub called : Option Meaning → Meaning
called None c vals = []
called (Some meaning) c vals = meaning c vals

-- the items of a statement; what a routine sets is set in it alone
abbrev mutual
  pub meant : List Meaning → TStmt → Context → List Item
  meant meanings (Let slot e place) c = []
  meant meanings (If' cond place shape taken shape' other) c = chosen c (value c cond) (meant_block meanings taken c) (meant_block meanings other c)
  meant meanings (Act action args place) c = action_items (record c { slots = map (value c) args }) (slice_get c.script.actions action)
  meant meanings (Call routine args places) c = called (slice_get meanings routine) c (map (value c) args)

  pub meant_block : {m : _} → List Meaning → Row_of-TStmt m → Context → List Item
  meant_block meanings end_of-TStmt c = []
  meant_block meanings (more_of-TStmt statement rest) c = meant meanings statement c ++ meant_block meanings rest (after statement c)

-- the items of a list of statements
abbrev pub meant_all : List Meaning → List TStmt → Context → List Item
meant_all meanings [] c = []
meant_all meanings (statement ∷ rest) c = meant meanings statement c ++ meant_all meanings rest (after statement c)

-- what a routine means, by what the routines before it mean
abbrev pub meaning_of : List Meaning → TRoutine → Meaning
meaning_of meanings routine c vals = meant_all meanings routine.body (record c { slots = with_params routine.params vals c.slots })

-- the meanings of routines, behind those of the routines before
abbrev pub meanings_of : List Meaning → List TRoutine → List Meaning
meanings_of meanings [] = meanings
meanings_of meanings (routine ∷ rest) = meanings_of (meanings ++ meaning_of meanings routine ∷ []) rest

-- a context with so many slots, of which none is set
abbrev pub with_unset : Context → ℕ → Context
with_unset c many = record c { slots = replicate many (N (pos 0)) }

-- `main` written out gives, in every context, the items that `main` gives with its calls
abbrev pub KeepsMeaning : Type 0
KeepsMeaning = (script : TScript) (c : Context)
    → items (main_of script) (with_unset c (lets (main_of script))) ≡ meant_all (meanings_of [] script.routines) script.main (with_unset c script.slots)

-- the nodes and the depth of `main` written out are counted without writing it out
pub record CountsWritten (script : TScript) : Type 0 where
  pub nodes : main_nodes script ≡ written_nodes script.routines script.main
  pub depth : main_depth script ≡ written_depth script.routines script.main

abbrev pub CountsAll : Type 0
CountsAll = (script : TScript) → CountsWritten script
