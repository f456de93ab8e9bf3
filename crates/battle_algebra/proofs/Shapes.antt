-- The nodes of a tree give the tree again.
use Rattle.std.proofs.Common.{◌≡◌, ℕ, ◌+◌, ◌==◌, true, List, [], ◌∷◌, ◌++◌, refl, ap, sym, ◌∙◌, arith, append_assoc, length, length-append, Some, None}
use Rattle.std.specs.Prelude.{◌&&◌, if◌then◌else◌}
use Rattle.std.proofs.lemmas.Bool.Decides.{Decides-eqb}
use Rattle.std.proofs.lemmas.List.{append-nil}
use Rattle.battle_algebra.specs.Tree.{each, Computed, Called, Tree, Nothing, Setting, Parted, Acting, Joined, size, numbered, Forest, forest, tree_of, only_tree, with_leaf, with_child, with_children}
use Rattle.sgl_typed.specs.Reads.{below}
use Rattle.battle_algebra.specs.Fit.{plain, tree_fits, reads_fit, sets_once, none_set}
use Rattle.battle_algebra.specs.Reads.{sets_only}
use Rattle.battle_algebra.proofs.Bools.{both_true}
use Rattle.std.proofs.lemmas.Bool.{and_parts}
use Rattle.battle_algebra.specs.declared.plan.Node.{Node}

same : (n : ℕ) → (n == n) ≡ true
same n = (Decides-eqb n n).1 refl

one_child : (at child : ℕ) (make : Tree → Tree) (tree : Tree) (trees : Forest) → with_child at child make (with_leaf child tree trees) ≡ with_leaf at (make tree) trees
one_child at child make tree None = refl
one_child at child make tree (Some trees) = ap (λ b. if b then Some ((at, make tree) ∷ trees) else None) (same child)

two_children : (at first second : ℕ) (make : Tree → Tree → Tree) (tree other : Tree) (trees : Forest) → with_children at first second make (with_leaf first tree (with_leaf second other trees)) ≡ with_leaf at (make tree other) trees
two_children at first second make tree other None = refl
two_children at first second make tree other (Some trees) =
    (λ i. if same first i && same second i then Some ((at, make tree other) ∷ trees) else None)

pub forest-numbered : (t : Tree) (at : ℕ) (more : List Node) → forest (numbered t at ++ more) at ≡ with_leaf at t (forest more (at + size t))
forest-numbered Nothing at more = refl
forest-numbered (Setting slot (Computed e place) below) at more =
    ap (with_child at (at + 1) (Setting slot (Computed e place))) (forest-numbered below (at + 1) more ∙ ap (λ n. with_leaf (at + 1) below (forest more n)) (omega arith))
    ∙ one_child at (at + 1) (Setting slot (Computed e place)) below _
forest-numbered (Setting slot (Called call way) below) at more =
    ap (with_child at (at + 1) (Setting slot (Called call way))) (forest-numbered below (at + 1) more ∙ ap (λ n. with_leaf (at + 1) below (forest more n)) (omega arith))
    ∙ one_child at (at + 1) (Setting slot (Called call way)) below _
forest-numbered (Parted e place taken other) at more =
    ap (with_children at (at + 1) (at + 1 + size taken) (Parted e place))
    (ap (λ nodes. forest nodes (at + 1)) (append_assoc (numbered taken (at + 1)) (numbered other (at + 1 + size taken)) more)
    ∙ forest-numbered taken (at + 1) (numbered other (at + 1 + size taken) ++ more)
    ∙ ap (with_leaf (at + 1) taken) (forest-numbered other (at + 1 + size taken) more ∙ ap (λ n. with_leaf (at + 1 + size taken) other (forest more n)) (omega arith)))
    ∙ two_children at (at + 1) (at + 1 + size taken) (Parted e place) taken other _
forest-numbered (Acting act way) at more = refl
forest-numbered (Joined left right) at more =
    ap (with_children at (at + 1) (at + 1 + size left) Joined)
    (ap (λ nodes. forest nodes (at + 1)) (append_assoc (numbered left (at + 1)) (numbered right (at + 1 + size left)) more)
    ∙ forest-numbered left (at + 1) (numbered right (at + 1 + size left) ++ more)
    ∙ ap (with_leaf (at + 1) left) (forest-numbered right (at + 1 + size left) more ∙ ap (λ n. with_leaf (at + 1 + size left) right (forest more n)) (omega arith)))
    ∙ two_children at (at + 1) (at + 1 + size left) Joined left right _

-- a tree has as many nodes as its size
pub length-numbered : (t : Tree) (at : ℕ) → length (numbered t at) ≡ size t
length-numbered Nothing at = refl
length-numbered (Setting slot source below) at = omega (arith, length-numbered below (at + 1))
length-numbered (Parted e place taken other) at =
    omega (arith, length-append (numbered taken (at + 1)) (numbered other (at + 1 + size taken)), length-numbered taken (at + 1), length-numbered other (at + 1 + size taken))
length-numbered (Acting act way) at = refl
length-numbered (Joined left right) at =
    omega (arith, length-append (numbered left (at + 1)) (numbered right (at + 1 + size left)), length-numbered left (at + 1), length-numbered right (at + 1 + size left))

-- the nodes of a tree are a plan, and it is their tree
pub tree_of-numbered : (t : Tree) → tree_of (numbered t 0) ≡ Some t
tree_of-numbered t = ap (λ nodes. only_tree (forest nodes 0)) (sym (append-nil (numbered t 0))) ∙ ap only_tree (forest-numbered t 0 [])

-- ---- what every plan keeps, part by part

pub record Fits (slots : ℕ) (t : Tree) : Type 0 where
  pub plain : each plain t ≡ true
  pub inside : sets_only t (below slots) ≡ true
  pub once : sets_once t ≡ true
  pub reads : reads_fit t none_set ≡ true

pub fits_of : (slots : ℕ) (t : Tree) → tree_fits slots t ≡ true → Fits slots t
fits_of slots t h =
    let a : (each plain t ≡ true) × (sets_only t (below slots) && (sets_once t && reads_fit t none_set) ≡ true) = and_parts _ _ h in
    let b : (sets_only t (below slots) ≡ true) × (sets_once t && reads_fit t none_set ≡ true) = and_parts _ _ a.1 in
    let c : (sets_once t ≡ true) × (reads_fit t none_set ≡ true) = and_parts _ _ b.1 in
    record { plain = a.0; inside = b.0; once = c.0; reads = c.1 }

pub to_fits : (slots : ℕ) (t : Tree) → Fits slots t → tree_fits slots t ≡ true
to_fits slots t h = both_true _ _ h.plain (both_true _ _ h.inside (both_true _ _ h.once h.reads))
