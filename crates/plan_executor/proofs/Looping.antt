-- The loop over the nodes.
use Rattle.std.proofs.Common.{◌≡◌, ℕ, ◌+◌, ◌<◌, ◌≤◌, true, List, [], ◌∷◌, ◌++◌, length, length-append, drop, refl, ap, sym, ◌∙◌, subst, arith}
use Rattle.std.specs.Prelude.{slice_index_or}
use Rattle.std.proofs.lemmas.List.{append-nil, drop_all}
use Rattle.sgl_values.specs.declared.item.Item.{Item}
use Rattle.plan_executor.specs.Numbered.{numbered_all}
use Rattle.battle_algebra.specs.Meaning.{Frame}
use Rattle.battle_algebra.specs.Tree.{size, numbered}
use Rattle.battle_algebra.specs.declared.plan.Node.{Node}
use Rattle.battle_algebra.specs.declared.plan.Node.TheVariants.{Empty}
use Rattle.battle_algebra.proofs.Shapes.{length-numbered}
use Rattle.plan_executor.specs.Frames.{Slots, Entry, trees, pending, mask_at, Running}
use Rattle.plan_executor.specs.Looping.{Looping}
use Rattle.plan_executor.specs.Sinking.{Bounds, State, Pushes}
use Rattle.plan_executor.specs.Steps.{Steps, node_items}
use Rattle.plan_executor.proofs.Pushing.{Pushes_nothing, Pushes_append, Pushes_over}
use Rattle.plan_executor.proofs.Stepping.{advance, size-some}

module _ (base : ℕ → Frame) (nodes : List Node) (whole : List Item) (counts : List ℕ) (bounds : Bounds) (start now : State) where
  pub looping_start : (masks : List ℕ) (slots : Slots) → Running base nodes whole counts 0 masks slots [] → Looping base nodes whole counts 0 masks slots bounds start start
  looping_start masks slots runs = record { given = []; runs = runs; pushes = Pushes_nothing bounds start }

  pub looping_more : (next : State) (at : ℕ) (masks masks' : List ℕ) (slots slots' : Slots) → at < length nodes → length masks ≡ length nodes
      → Looping base nodes whole counts at masks slots bounds start now
      → Steps base at masks slots (slice_index_or nodes at Empty) masks' slots'
      → Pushes bounds now next (node_items base slots (mask_at masks at) (slice_index_or nodes at Empty))
      → Looping base nodes whole counts (at + 1) masks' slots' bounds start next
  looping_more next at masks masks' slots slots' within long before steps pushes = record {
    given = before.given ++ node_items base slots (mask_at masks at) (slice_index_or nodes at Empty);
    runs = advance base nodes whole counts at masks masks' slots slots' before.given long within before.runs steps;
    pushes = Pushes_append before.pushes pushes;
  }

  ended : (at : ℕ) (masks : List ℕ) (slots : Slots) (es : List Entry) → drop at nodes ≡ numbered_all (trees es) at → length nodes ≤ at → pending base slots masks es at ≡ []
  ended at masks slots [] are past = refl
  ended at masks slots (e ∷ es) are past =
      let none : length (drop at nodes) ≡ 0 = ap length (drop_all at nodes past) in
      let long : length (drop at nodes) ≡ size e.tree + length (numbered_all (trees es) (at + size e.tree))
      = ap length are ∙ length-append (numbered e.tree at) _ ∙ ap (λ n. n + length (numbered_all (trees es) (at + size e.tree))) (length-numbered e.tree at) in
      absurd (omega (arith, none, long, size-some e.tree))

  pub looping_end : (at : ℕ) (masks : List ℕ) (slots : Slots) → length nodes ≤ at → Looping base nodes whole counts at masks slots bounds start now → Pushes bounds start now whole
  looping_end at masks slots past before =
      let r = before.runs in
      subst (Pushes bounds start now) (sym (append-nil before.given) ∙ ap (λ xs. before.given ++ xs) (sym (ended at masks slots r.entries r.are past)) ∙ r.items) before.pushes

  pub looping_over : (at : ℕ) (masks : List ℕ) (slots : Slots) → now.over ≡ true → Looping base nodes whole counts at masks slots bounds start now → Pushes bounds start now whole
  looping_over at masks slots full before =
      subst (Pushes bounds start now) before.runs.items (Pushes_append before.pushes (Pushes_over bounds now (pending base slots masks before.runs.entries at) full))
