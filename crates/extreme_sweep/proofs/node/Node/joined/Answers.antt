-- The parts of the node that joins two are the lesser of theirs.
use Rattle.std.proofs.Common.{◌≡◌, ◌∙◌, ℤ, Option, Some, None, w64, sym, ap, subst, rules}
use Rattle.std.proofs.lemmas.Int.{to_z-of_z}
use Rattle.extreme_sweep.specs.declared.pair.Entry.{Entry}
use Rattle.extreme_sweep.specs.declared.node.Node.{Node}
use Rattle.extreme_sweep.specs.Nodes.{entry_below, lesser_entry, IsSound, Joins}
use Rattle.extreme_sweep.proofs.Joining.{joins, sound}
use Rattle.extreme_sweep.proofs.node.Node.joined.Goals as goal

first-is : (left right : Node) (a b : Option Entry) (first : Entry) → a ≡ entry_below None left → b ≡ entry_below None right → Some first ≡ lesser_entry a b
    → lesser_entry (entry_below None left) (entry_below None right) ≡ Some first
first-is left right a b first left-is right-is is = sym (is ∙ (λ i. lesser_entry (left-is i) (right-is i)))

second-is : (left right : Node) (a b second : Option Entry) (group read : ℤ) → read ≡ group → a ≡ entry_below (Some read) left → b ≡ entry_below (Some read) right → second ≡ lesser_entry a b
    → second ≡ lesser_entry (entry_below (Some group) left) (entry_below (Some group) right)
second-is left right a b second group read same left-is right-is is =
    is ∙ (λ i. lesser_entry (left-is i) (right-is i)) ∙ ap (λ (g : ℤ). lesser_entry (entry_below (Some g) left) (entry_below (Some g) right)) same

pub returns-in-Some-clause-sound : goal.returns-in-Some-clause-sound
returns-in-Some-clause-sound c =
    let left = c.args.left.now in let right = c.args.right.now in let e = c.in-Some.first in
    let second = second-is left right _ _ c.lesser_entry-second.result e.group _ (to_z-of_z w64 e.group (search rules)) c.first_other_than.ensures c.first_other_than-in-Some.ensures c.lesser_entry-second.ensures in
    subst IsSound (sym c.of.ensures) (sound left right c.requires.left c.requires.right e (first-is left right _ _ e c.first.ensures c.first-2.ensures c.in-Some.ensures) _ second)

pub returns-in-Some-clause-joins : goal.returns-in-Some-clause-joins
returns-in-Some-clause-joins c =
    let left = c.args.left.now in let right = c.args.right.now in let e = c.in-Some.first in
    let second = second-is left right _ _ c.lesser_entry-second.result e.group _ (to_z-of_z w64 e.group (search rules)) c.first_other_than.ensures c.first_other_than-in-Some.ensures c.lesser_entry-second.ensures in
    subst (Joins left right) (sym c.of.ensures) (joins left right c.requires.left c.requires.right e (first-is left right _ _ e c.first.ensures c.first-2.ensures c.in-Some.ensures) _ second)
