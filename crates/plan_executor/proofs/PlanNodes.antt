-- The nodes of a plan, by their numbers.
use Rattle.std.proofs.Common.{◌≡◌, ℕ, nat_lt, Bool, true, false, List, length, refl, ap, sym, ◌∙◌, arith}
use Rattle.std.specs.Prelude.{Some, slice_get, slice_index_or}
use Rattle.std.proofs.lemmas.Bool.{false≢true}
use Rattle.std.proofs.lemmas.Bool.Decides.{nat_tests}
use Rattle.std.proofs.lemmas.List.{get_or_past}
use Rattle.std.proofs.lemmas.Option.{slice_get-get_or}
use Rattle.battle_algebra.specs.declared.plan.Node.{Node}
use Rattle.battle_algebra.specs.declared.plan.Node.TheVariants.{Empty}

-- the node does something
abbrev pub is_busy : Node → Bool
is_busy Empty = false
is_busy node = true

-- one that does stands among the nodes
pub node_there : (nodes own : List Node) (node : ℕ) (x : Node) → nodes ≡ own → slice_index_or nodes node Empty ≡ x → is_busy x ≡ true → slice_get own node ≡ Some x
node_there nodes own node x same is busy = ap (λ (xs : List Node). slice_get xs node) (sym same) ∙ step (nat_lt node (length nodes)) refl
  where
    step : (t : Bool) → nat_lt node (length nodes) ≡ t → slice_get nodes node ≡ Some x
    step true h = slice_get-get_or nodes node Empty (grind (arith, nat_tests, h)) ∙ ap Some is
    step false h = absurd (false≢true (ap is_busy (sym (get_or_past nodes node Empty (grind (arith, nat_tests, h))) ∙ is) ∙ busy))
