-- The parts of a tree, and a tree that is put behind other nodes.
use Rattle.std.proofs.Common.{◌≡◌, ◌∙◌, ◌+◌, ◌-◌, ◌/◌, ◌<◌, ◌≤◌, ℕ, suc, List, [], ◌∷◌, ◌++◌, length, take, drop, get_or, refl, sym, ap, subst, arith, append_assoc, length-append, length-drop, length-take, length-take-le}
use Rattle.std.proofs.lemmas.List.{append-nil, map-append, length-map, take_all, take_at, drop_at}
use Rattle.std.proofs.Math.Seq.{split_at}
use Rattle.nearest_tree.specs.declared.node.Node.{Node}
use Rattle.nearest_tree.specs.declared.point.NearPoint.{NearPoint}
use Rattle.nearest_tree.specs.Marks.{StandsFor}
use Rattle.nearest_tree.specs.Trees.{IsTree, no_node, a_root, points_of, AddsTree}

-- a tree that has nodes
pub record IsRooted (nodes : List Node) : Type 0 where
  pub before : List Node
  pub behind : List Node
  pub root : Node
  pub are : nodes ≡ before ++ root ∷ behind
  pub middle : length before ≡ length nodes / 2
  pub stands : StandsFor root.mark (points_of nodes)
  pub before_tree : IsTree before
  pub behind_tree : IsTree behind

get_or_append_middle : (before behind : List Node) (root other : Node) (middle : ℕ) → length before ≡ middle → get_or (before ++ root ∷ behind) middle other ≡ root
get_or_append_middle [] behind root other middle here = ap (λ n. get_or (root ∷ behind) n other) (sym here)
get_or_append_middle (node ∷ before) behind root other middle here =
    ap (λ n. get_or ((node ∷ before) ++ root ∷ behind) n other) (sym here) ∙ get_or_append_middle before behind root other (length before) refl

pub rooted : (nodes : List Node) → IsTree nodes → 0 < length nodes → IsRooted nodes
rooted nodes no_node some = absurd (omega (arith, some))
rooted nodes (a_root before behind root middle stands one other) some = record {
  before = before;
  behind = behind;
  root = root;
  are = refl;
  middle = middle;
  stands = stands;
  before_tree = one;
  behind_tree = other;
}

-- the parts of a tree at its root
pub record AreParts (nodes : List Node) (middle : ℕ) (root : Node) (before behind : List Node) : Type 0 where
  pub stands : StandsFor root.mark (points_of nodes)
  pub before_tree : IsTree before
  pub behind_tree : IsTree behind
  pub points : points_of nodes ≡ points_of before ++ root.point ∷ points_of behind

-- as they are read
pub parts : (nodes : List Node) (middle : ℕ) (root : Node) → IsTree nodes → 0 < length nodes → middle ≡ length nodes / 2 → root ≡ get_or nodes middle root
    → AreParts nodes middle root (take middle nodes) (take (length nodes - (middle + 1)) (drop (middle + 1) nodes))
parts nodes middle root tree some is read =
    let r = rooted nodes tree some in
    let here : length r.before ≡ middle = r.middle ∙ sym is in
    let before : take middle nodes ≡ r.before = ap (take middle) r.are ∙ take_at r.before (r.root ∷ r.behind) middle here in
    let longer : length (r.before ++ r.root ∷ []) ≡ middle + 1 = omega (arith, length-append r.before (r.root ∷ []), here) in
    let dropped : drop (middle + 1) nodes ≡ r.behind =
    ap (drop (middle + 1)) (r.are ∙ sym (append_assoc r.before (r.root ∷ []) r.behind)) ∙ drop_at (r.before ++ r.root ∷ []) r.behind (middle + 1) longer in
    let count : length r.behind ≤ length nodes - (middle + 1) = omega (arith, ap length r.are, length-append r.before (r.root ∷ r.behind), here) in
    let behind : take (length nodes - (middle + 1)) (drop (middle + 1) nodes) ≡ r.behind =
    ap (take (length nodes - (middle + 1))) dropped ∙ take_all (length nodes - (middle + 1)) r.behind count in
    let root-is : root ≡ r.root = read ∙ ap (λ l. get_or l middle root) r.are ∙ get_or_append_middle r.before r.behind r.root root middle here in
    record {
      stands = subst (λ (n : Node). StandsFor n.mark (points_of nodes)) (sym root-is) r.stands;
      before_tree = subst IsTree (sym before) r.before_tree;
      behind_tree = subst IsTree (sym behind) r.behind_tree;
      points = ap points_of r.are ∙ map-append (λ (n : Node). n.point) r.before (r.root ∷ r.behind)
          ∙ (λ i. points_of (sym before i) ++ (sym root-is i).point ∷ points_of (sym behind i));
    }

-- a tree of points before a point, this point, and a tree of the points behind it
pub planted : (old one two new : List Node) (points : List NearPoint) (middle : ℕ) (node : Node) → 0 < length points → middle ≡ length points / 2
    → AddsTree old one (take middle points) → two ≡ one ++ node ∷ [] → node.point ≡ get_or points middle node.point → StandsFor node.mark points
    → AddsTree two new (take (length points - (middle + 1)) (drop (middle + 1) points)) → AddsTree old new points
planted old one two new points middle node some is before pushed read stands behind =
    let rest : List NearPoint = take (length points - (middle + 1)) (drop (middle + 1) points) in
    let tree : List Node = before.tree ++ node ∷ behind.tree in
    let inside : middle < length points = omega (arith, is) in
    let all : rest ≡ drop (middle + 1) points = take_all (length points - (middle + 1)) (drop (middle + 1) points) (omega (arith, length-drop (middle + 1) points)) in
    let next : suc middle ≡ middle + 1 = omega arith in
    let points_are : points_of tree ≡ points =
    map-append (λ (n : Node). n.point) before.tree (node ∷ behind.tree)
    ∙ (λ i. before.points_are i ++ read i ∷ (behind.points_are ∙ all) i)
    ∙ ap (λ n. take middle points ++ get_or points middle node.point ∷ drop n points) (sym next)
    ∙ sym (split_at points middle node.point inside) in
    let count : length before.tree ≡ middle = sym (length-map before.tree (λ (n : Node). n.point)) ∙ ap length before.points_are ∙ length-take-le middle points (omega arith) in
    let whole : length tree ≡ length points = sym (length-map tree (λ (n : Node). n.point)) ∙ ap length points_are in
    record {
      tree = tree;
      is_tree = a_root before.tree behind.tree node (count ∙ is ∙ ap (λ n. n / 2) (sym whole)) (subst (StandsFor node.mark) (sym points_are) stands) before.is_tree behind.is_tree;
      points_are = points_are;
      added = behind.added ∙ ap (λ l. l ++ behind.tree) (pushed ∙ ap (λ l. l ++ node ∷ []) before.added)
          ∙ append_assoc (old ++ before.tree) (node ∷ []) behind.tree ∙ append_assoc old before.tree (node ∷ behind.tree);
    }

-- no tree for no points
pub planted-none : (nodes : List Node) (points : List NearPoint) → length points ≡ 0 → AddsTree nodes nodes points
planted-none nodes [] none = record { tree = []; is_tree = no_node; points_are = refl; added = sym (append-nil nodes) }
planted-none nodes (point ∷ points) none = absurd (omega (arith, none))

-- the parts have fewer nodes
pub fewer-before : (nodes : List Node) → 0 < length nodes → length (take (length nodes / 2) nodes) < length nodes
fewer-before nodes some = omega (arith, length-take-le (length nodes / 2) nodes (omega arith))

pub fewer-behind : (nodes : List Node) → 0 < length nodes → length (take (length nodes - (length nodes / 2 + 1)) (drop (length nodes / 2 + 1) nodes)) < length nodes
fewer-behind nodes some =
    let rest = drop (length nodes / 2 + 1) nodes in
    omega (arith, length-drop (length nodes / 2 + 1) nodes, length-take (length nodes - (length nodes / 2 + 1)) rest)
