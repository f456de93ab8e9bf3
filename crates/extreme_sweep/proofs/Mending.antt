-- What a write to one node leaves.
use Rattle.std.proofs.Common.{◌≡◌, ◌∙◌, ◌+◌, ◌*◌, ◌/◌, ◌<◌, ◌≤◌, ℕ, List, length, set, sym, ap, subst, arith, ⊎_elim}
use Rattle.std.proofs.lemmas.Bool.{cases_eq}
use Rattle.std.proofs.lemmas.Grind.{get_or-set_at}
use Rattle.std.proofs.lemmas.List.{length-set, get_or-set_other}
use Rattle.std.specs.Prelude.{Option}
use Rattle.extreme_sweep.specs.declared.pair.Pair.{Pair}
use Rattle.extreme_sweep.specs.declared.node.Node.{Node}
use Rattle.extreme_sweep.specs.declared.node.Node.TheVariants.{Empty}
use Rattle.extreme_sweep.specs.Nodes.{IsSound, least_below, Joins}
use Rattle.extreme_sweep.specs.Tree.{node_at, JoinsAt, IsLongBy, IsShortOf, IsTreeBut, IsTree}
use Rattle.extreme_sweep.proofs.PairLaws.{pair_laws, lesser}

pub Joins-same : (left right node left' right' node' : Node) → left' ≡ left → right' ≡ right → node' ≡ node → Joins left right node → Joins left' right' node'
Joins-same left right node left' right' node' l r n joins other =
    ap (least_below other) n ∙ joins other ∙ sym (λ i. lesser (least_below other (l i)) (least_below other (r i)))

module _ (leaves at : ℕ) (nodes : List Node) (node : Node) (inside : at < length nodes) where
  abbrev after : List Node
  after = set nodes at node

  pub at-same : (k : ℕ) → k ≡ at → node_at after k ≡ node
  at-same k same = get_or-set_at nodes at k node Empty same inside

  pub at-other : (k : ℕ) → (k ≡ at → ⊥) → node_at after k ≡ node_at nodes k
  at-other k other = get_or-set_other nodes at k node Empty other

  sound-after : ((k : ℕ) → IsSound (node_at nodes k)) → IsSound node → (k : ℕ) → IsSound (node_at after k)
  sound-after old sound k = ⊎_elim (λ same. subst IsSound (sym (at-same k same)) sound) (λ other. subst IsSound (sym (at-other k other)) (old k)) (cases_eq k at)

  -- a node that is neither the written one nor above it
  kept : (k : ℕ) → (k ≡ at → ⊥) → (k ≡ at / 2 → ⊥) → JoinsAt nodes k → JoinsAt after k
  kept k other not-above joins = Joins-same (node_at nodes (2 * k)) (node_at nodes (2 * k + 1)) (node_at nodes k) _ _ _
      (at-other (2 * k) (λ e. not-above (omega (arith, e)))) (at-other (2 * k + 1) (λ e. not-above (omega (arith, e)))) (at-other k other) joins

  -- the written node joins those below it
  mended : 0 < at → Joins (node_at nodes (2 * at)) (node_at nodes (2 * at + 1)) node → (k : ℕ) → k ≡ at → JoinsAt after k
  mended low joins k same = Joins-same (node_at nodes (2 * at)) (node_at nodes (2 * at + 1)) node _ _ _
      (at-other (2 * k) (omega arith) ∙ ap (λ n. node_at nodes (2 * n)) same) (at-other (2 * k + 1) (omega arith) ∙ ap (λ n. node_at nodes (2 * n + 1)) same) (at-same k same) joins

  pub mend-node : 0 < at → IsTreeBut at leaves nodes → IsSound node → Joins (node_at nodes (2 * at)) (node_at nodes (2 * at + 1)) node → IsTreeBut (at / 2) leaves after
  mend-node low old sound joins = record {
    size = length-set nodes at node ∙ old.size;
    sound = sound-after old.sound sound;
    joined = λ k first last not-above.
        ⊎_elim (λ same. mended low joins k same) (λ other. kept k other not-above (old.joined k first last other)) (cases_eq k at);
  }

  -- the node is written with a leaf more, and the one above it is short of that leaf
  pub short-above : (leaf : Node) → 0 < at / 2 → JoinsAt nodes (at / 2) → Joins (node_at nodes at) leaf node → IsShortOf leaf after (at / 2)
  short-above leaf low joins with other =
      let k = at / 2 in
      let below : ℕ → Option Pair = λ n. least_below other (node_at nodes n) in
      let f = least_below other leaf in
      let left = below (2 * k) in
      let right = below (2 * k + 1) in
      let here : least_below other (node_at after k) ≡ lesser left right = ap (least_below other) (at-other k (omega arith)) ∙ joins other in
      ap (λ (p : Option Pair). lesser p f) here
      ∙ ⊎_elim
      (λ same.
      let first : least_below other (node_at after (2 * k)) ≡ lesser left f = ap (least_below other) (at-same (2 * k) same) ∙ with other ∙ ap (λ n. lesser (below n) f) (sym same) in
      let second : least_below other (node_at after (2 * k + 1)) ≡ right = ap (least_below other) (at-other (2 * k + 1) (omega (arith, same))) in
      pair_laws.assoc left right f ∙ ap (lesser left) (pair_laws.comm right f) ∙ sym (pair_laws.assoc left f right) ∙ sym (λ i. lesser (first i) (second i)))
      (λ another.
      let same : 2 * k + 1 ≡ at = omega (arith, another) in
      let first : least_below other (node_at after (2 * k)) ≡ left = ap (least_below other) (at-other (2 * k) another) in
      let second : least_below other (node_at after (2 * k + 1)) ≡ lesser right f = ap (least_below other) (at-same (2 * k + 1) same) ∙ with other ∙ ap (λ n. lesser (below n) f) (sym same) in
      pair_laws.assoc left right f ∙ sym (λ i. lesser (first i) (second i)))
      (cases_eq (2 * k) at)

  -- the node is written without a leaf that stood below it, and the one above it still has that leaf
  pub long-above : (leaf : Node) → 0 < at / 2 → JoinsAt nodes (at / 2) → Joins node leaf (node_at nodes at) → IsLongBy leaf after (at / 2)
  long-above leaf low joins with other =
      let k = at / 2 in
      let below : ℕ → Option Pair = λ n. least_below other (node_at nodes n) in
      let now : ℕ → Option Pair = λ n. least_below other (node_at after n) in
      let f = least_below other leaf in
      let here : now k ≡ lesser (below (2 * k)) (below (2 * k + 1)) = ap (least_below other) (at-other k (omega arith)) ∙ joins other in
      here
      ∙ ⊎_elim
      (λ same.
      let first : below (2 * k) ≡ lesser (now (2 * k)) f = ap below same ∙ with other ∙ ap (λ n. lesser (least_below other n) f) (sym (at-same (2 * k) same)) in
      let second : below (2 * k + 1) ≡ now (2 * k + 1) = sym (ap (least_below other) (at-other (2 * k + 1) (omega (arith, same)))) in
      (λ i. lesser (first i) (second i)) ∙ pair_laws.assoc (now (2 * k)) f (now (2 * k + 1)) ∙ ap (lesser (now (2 * k))) (pair_laws.comm f (now (2 * k + 1)))
      ∙ sym (pair_laws.assoc (now (2 * k)) (now (2 * k + 1)) f))
      (λ another.
      let same : 2 * k + 1 ≡ at = omega (arith, another) in
      let first : below (2 * k) ≡ now (2 * k) = sym (ap (least_below other) (at-other (2 * k) another)) in
      let second : below (2 * k + 1) ≡ lesser (now (2 * k + 1)) f = ap below same ∙ with other ∙ ap (λ n. lesser (least_below other n) f) (sym (at-same (2 * k + 1) same)) in
      (λ i. lesser (first i) (second i)) ∙ sym (pair_laws.assoc (now (2 * k)) (now (2 * k + 1)) f))
      (cases_eq (2 * k) at)

  pub set-leaf : leaves ≤ at → IsTree leaves nodes → IsSound node → IsTreeBut (at / 2) leaves after
  set-leaf leaf old sound = record {
    size = length-set nodes at node ∙ old.size;
    sound = sound-after old.sound sound;
    joined = λ k first last not-above. kept k (omega arith) not-above (old.joined k first last (omega arith));
  }

-- the node that need not join those below it does
pub whole-tree : (leaves at : ℕ) (nodes : List Node) → IsTreeBut at leaves nodes → JoinsAt nodes at → IsTree leaves nodes
whole-tree leaves at nodes old joins = record {
  size = old.size;
  sound = old.sound;
  joined = λ k first last away. ⊎_elim (λ same. subst (JoinsAt nodes) (sym same) joins) (λ other. old.joined k first last other) (cases_eq k at);
}
