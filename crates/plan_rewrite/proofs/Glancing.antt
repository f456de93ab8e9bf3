-- What is seen of a tree from its root on.
use Rattle.std.proofs.Common.{◌≡◌, ℕ, ◌+◌, ◌-◌, ◌<◌, Bool, true, false, List, [], ◌∷◌, ◌++◌, length, take, drop, get_or, reverse, refl, ap, sym, ◌∙◌, arith, Option, Some, None}
use Rattle.std.specs.Prelude.{◌&&◌, ◌||◌, not, if◌then◌else◌}
use Rattle.std.proofs.lemmas.Bool.{false≢true}
use Rattle.std.proofs.lemmas.List.{drop_more, get_or-reverse, take_more}
use Rattle.std.proofs.Math.ListN.{get_or-append}
use Rattle.sgl_typed.specs.Reads.{list_reads_only}
use Rattle.plan_rewrite.specs.Bare.{bare, is_setting, is_split, node_reads_only, nodes_read_only, place_of}
use Rattle.plan_rewrite.specs.Descents.{DescendsInto, FallsInto, GlanceIs, Glances}
use Rattle.battle_algebra.specs.Normal.{stays_above}
use Rattle.battle_algebra.specs.Reads.{all_but, is_read_in, tree_reads_only}
use Rattle.battle_algebra.specs.Tree.{Computed, Called, Tree, Nothing, Setting, Parted, Acting, Joined, size, node_of}
use Rattle.plan_rewrite.specs.declared.descent.Descent.{Descent}
use Rattle.plan_rewrite.specs.declared.glance.Glance.TheVariants.{Stays, Unread, Unclear}
use Rattle.battle_algebra.specs.declared.plan.Node.{Node}
use Rattle.battle_algebra.specs.declared.plan.Node.TheVariants.{Split}
use Rattle.battle_algebra.proofs.Bools.{and_push}
use Rattle.plan_rewrite.proofs.Inserting.{length-bare}
use Rattle.plan_rewrite.proofs.Turned.{take_pre}
use Rattle.battle_algebra.specs.Nodes.{head_or, tail_of}

-- ---- what nodes read

pub nodes_read-append : (xs ys : List Node) (p : ℕ → Bool) → nodes_read_only (xs ++ ys) p ≡ (nodes_read_only xs p && nodes_read_only ys p)
nodes_read-append [] ys p = refl
nodes_read-append (x ∷ xs) ys p = ap (λ b. node_reads_only x p && b) (nodes_read-append xs ys p) ∙ sym (and_push (node_reads_only x p) (nodes_read_only xs p) (nodes_read_only ys p))

-- a tree reads what its nodes read
pub bare-reads : (t : Tree) (p : ℕ → Bool) → nodes_read_only (bare t) p ≡ tree_reads_only t p
bare-reads Nothing p = refl
bare-reads (Setting slot (Computed e place) below) p = ap (λ b. node_reads_only (node_of slot (Computed e place) 0) p && b) (bare-reads below p)
bare-reads (Setting slot (Called call way) below) p = ap (λ b. node_reads_only (node_of slot (Called call way) 0) p && b) (bare-reads below p)
bare-reads (Parted cond place taken other) p =
    ap (λ b. node_reads_only (Split cond place 0 0) p && b) (nodes_read-append (bare taken) (bare other) p ∙ (λ i. bare-reads taken p i && bare-reads other p i))
bare-reads (Acting act way) p = and_true (list_reads_only act.args p)
  where
    and_true : (b : Bool) → (b && true) ≡ b
    and_true true = refl
    and_true false = refl
bare-reads (Joined left right) p = nodes_read-append (bare left) (bare right) p ∙ (λ i. bare-reads left p i && bare-reads right p i)

one_reads : (xs : List Node) (i : ℕ) (node : Node) (p : ℕ → Bool) → i < length xs → node ≡ get_or xs i node → node_reads_only node p ≡ false → nodes_read_only xs p ≡ false
one_reads [] i node p lt is reads = absurd (omega (arith, lt))
one_reads (x ∷ xs) ℕ.zero node p lt is reads = ap (λ b. b && nodes_read_only xs p) (ap (λ n. node_reads_only n p) (sym is) ∙ reads)
one_reads (x ∷ xs) (ℕ.suc i) node p lt is reads = ap (λ b. node_reads_only x p && b) (one_reads xs i node p (omega (arith, lt)) is reads) ∙ none (node_reads_only x p)
  where
    none : (b : Bool) → (b && false) ≡ false
    none true = refl
    none false = refl

-- ---- the way down from the root

-- a node that reads the slot stops
pub reads_stays : (t : Tree) (slot : ℕ) (node : Node) (rest more : List Node) → node ∷ rest ≡ bare t ++ more → node_reads_only node (all_but slot) ≡ false → stays_above t slot ≡ true
reads_stays Nothing slot node rest more h reads = refl
reads_stays (Setting other (Computed e place) below) slot node rest more h reads =
    ap (λ b. if b then stays_above below slot else true) (ap (λ n. node_reads_only n (all_but slot)) (sym (ap head_or h)) ∙ reads)
reads_stays (Setting other (Called call way) below) slot node rest more h reads =
    ap (λ b. if b then stays_above below slot else true) (ap (λ n. node_reads_only n (all_but slot)) (sym (ap head_or h)) ∙ reads)
reads_stays (Parted cond place x y) slot node rest more h reads =
    ap (λ b. if b then is_read_in x slot && is_read_in y slot else true) (ap (λ n. node_reads_only n (all_but slot)) (sym (ap head_or h)) ∙ reads)
reads_stays (Acting act way) slot node rest more h reads = refl
reads_stays (Joined x y) slot node rest more h reads = refl

-- one that is neither a split nor sets a slot stops
others_stay : (t : Tree) (slot : ℕ) (node : Node) (rest more : List Node) → node ∷ rest ≡ bare t ++ more → is_split node ≡ false → is_setting node ≡ false → stays_above t slot ≡ true
others_stay Nothing slot node rest more h split sets = refl
others_stay (Setting other (Computed e place) below) slot node rest more h split sets = absurd (false≢true (sym sets ∙ ap is_setting (ap head_or h)))
others_stay (Setting other (Called call way) below) slot node rest more h split sets = absurd (false≢true (sym sets ∙ ap is_setting (ap head_or h)))
others_stay (Parted cond place x y) slot node rest more h split sets = absurd (false≢true (sym split ∙ ap is_split (ap head_or h)))
others_stay (Acting act way) slot node rest more h split sets = refl
others_stay (Joined x y) slot node rest more h split sets = refl

pub place-stays : (t : Tree) (slot : ℕ) → stays_above t slot ≡ true → place_of t slot ≡ 0
place-stays Nothing slot h = refl
place-stays (Setting other from below) slot h = ap (λ b. if b then 0 else 1 + place_of below slot) h
place-stays (Parted cond place x y) slot h = ap (λ b. if b then 0 else if is_read_in x slot then 1 + place_of x slot else (1 + size x) + place_of y slot) h
place-stays (Acting act way) slot h = refl
place-stays (Joined x y) slot h = refl

-- a tree on the way, with which the node stays where it stays with the whole
pub record OnWay (rest : List Node) (slot : ℕ) (whole : Tree) : Type 0 where
  pub tree : Tree
  pub more : List Node
  pub are : rest ≡ bare tree ++ more
  pub same : stays_above whole slot ≡ stays_above tree slot

-- a node that sets another slot is passed
passes : (t whole : Tree) (slot : ℕ) (node : Node) (rest more : List Node) → stays_above whole slot ≡ stays_above t slot → node ∷ rest ≡ bare t ++ more → node_reads_only node (all_but slot) ≡ true → is_setting node ≡ true → OnWay rest slot whole
passes Nothing whole slot node rest more same h avoids sets = absurd (false≢true (sym (ap is_setting (ap head_or h)) ∙ sets))
passes (Setting other (Computed e place) below) whole slot node rest more same h avoids sets = record {
  tree = below;
  more = more;
  are = ap tail_of h;
  same = same ∙ ap (λ b. if b then stays_above below slot else true) (ap (λ n. node_reads_only n (all_but slot)) (sym (ap head_or h)) ∙ avoids);
}
passes (Setting other (Called call way) below) whole slot node rest more same h avoids sets = record {
  tree = below;
  more = more;
  are = ap tail_of h;
  same = same ∙ ap (λ b. if b then stays_above below slot else true) (ap (λ n. node_reads_only n (all_but slot)) (sym (ap head_or h)) ∙ avoids);
}
passes (Parted cond place x y) whole slot node rest more same h avoids sets = absurd (false≢true (sym (ap is_setting (ap head_or h)) ∙ sets))
passes (Acting act way) whole slot node rest more same h avoids sets = absurd (false≢true (sym (ap is_setting (ap head_or h)) ∙ sets))
passes (Joined x y) whole slot node rest more same h avoids sets = absurd (false≢true (sym (ap is_setting (ap head_or h)) ∙ sets))

-- ---- the loop

-- what is known once these many nodes do not read the slot, where it is sure or not that the node stays
pub record Glanced (xs : List Node) (i slot : ℕ) (sure : Bool) (t : Tree) : Type 0 where
  pub avoids : nodes_read_only (take i xs) (all_but slot) ≡ true
  pub stays : sure ≡ true → stays_above t slot ≡ true
  pub way : sure ≡ false → OnWay (drop i xs) slot t

abbrev pub AllGlanced : List Node → ℕ → ℕ → Bool → Type 0
AllGlanced xs i slot sure = (t : Tree) (more : List Node) → xs ≡ bare t ++ more → Glanced xs i slot sure t

pub glanced_none : (xs : List Node) (slot : ℕ) → AllGlanced xs 0 slot false
glanced_none xs slot t more h = record {
  avoids = refl;
  stays = λ is. absurd (false≢true is);
  way = λ is. record { tree = t; more = more; are = h; same = refl };
}

at_node : (xs : List Node) (i : ℕ) (node : Node) → i < length xs → node ≡ get_or xs i node → node ∷ drop (i + 1) xs ≡ drop i xs
at_node xs i node lt is = ap (λ x. x ∷ drop (i + 1) xs) is ∙ sym (drop_more xs i node lt)

pub glanced_reads : (xs : List Node) (i count slot : ℕ) (sure : Bool) (node : Node) → i < length xs → i < count → node ≡ get_or xs i node → node_reads_only node (all_but slot) ≡ false
    → AllGlanced xs i slot sure → Glances xs count slot Stays
glanced_reads xs i count slot sure node lt within is reads g = record {
  is = λ t more h own.
      let inside : i < length (bare t) = omega (arith, within, own, length-bare t) in
      let is' : node ≡ get_or (bare t) i node = is ∙ ap (λ l. get_or l i node) h ∙ get_or-append (bare t) more node i inside in
      (sym (bare-reads t (all_but slot)) ∙ one_reads (bare t) i node (all_but slot) inside is' reads, stays t (g t more h) sure refl);
}
  where
    stays : (t : Tree) → Glanced xs i slot sure t → (b : Bool) → sure ≡ b → stays_above t slot ≡ true
    stays t d true own = d.stays own
    stays t d false own =
        let w : OnWay (drop i xs) slot t = d.way own in
        w.same ∙ reads_stays w.tree slot node (drop (i + 1) xs) w.more (at_node xs i node lt is ∙ w.are) reads

pub glanced_more : (xs : List Node) (i slot : ℕ) (sure sure' : Bool) (node : Node) → i < length xs → node ≡ get_or xs i node → node_reads_only node (all_but slot) ≡ true
    → (not sure && is_split node) ≡ false → sure' ≡ (sure || not (is_setting node)) → AllGlanced xs i slot sure → AllGlanced xs (i + 1) slot sure'
glanced_more xs i slot sure sure' node lt is avoids split next g t more h = record {
  avoids =
      ap (λ l. nodes_read_only l (all_but slot)) (take_more xs i node lt ∙ ap (λ x. take i xs ++ x ∷ []) (sym is))
      ∙ nodes_read-append (take i xs) (node ∷ []) (all_but slot) ∙ (λ k. (g t more h).avoids k && (avoids k && true));
  stays = λ own. stays (g t more h) sure refl (is_setting node) refl (sym next ∙ own);
  way = λ own. way (g t more h) sure refl (is_setting node) refl (sym next ∙ own);
}
  where
    stays : Glanced xs i slot sure t → (b : Bool) → sure ≡ b → (c : Bool) → is_setting node ≡ c → (sure || not (is_setting node)) ≡ true → stays_above t slot ≡ true
    stays d true own c sets now = d.stays own
    stays d false own true sets now = absurd (false≢true (sym (λ k. own k || not (sets k)) ∙ now))
    stays d false own false sets now =
        let w : OnWay (drop i xs) slot t = d.way own in
        w.same ∙ others_stay w.tree slot node (drop (i + 1) xs) w.more (at_node xs i node lt is ∙ w.are) (sym (λ k. not (own k) && is_split node) ∙ split) sets

    way : Glanced xs i slot sure t → (b : Bool) → sure ≡ b → (c : Bool) → is_setting node ≡ c → (sure || not (is_setting node)) ≡ false → OnWay (drop (i + 1) xs) slot t
    way d true own c sets now = absurd (false≢true (sym now ∙ ap (λ b. b || not (is_setting node)) own))
    way d false own false sets now = absurd (false≢true (sym now ∙ (λ k. own k || not (sets k))))
    way d false own true sets now =
        let w : OnWay (drop i xs) slot t = d.way own in
        passes w.tree t slot node (drop (i + 1) xs) w.more w.same (at_node xs i node lt is ∙ w.are) avoids sets

pub glanced_all : (xs : List Node) (i count slot : ℕ) (sure : Bool) → i ≡ count → AllGlanced xs i slot sure → Glances xs count slot Unread
glanced_all xs i count slot sure ends g = record {
  is = λ t more h own.
      let long : length (bare t) ≡ i = omega (arith, ends, own, length-bare t) in
      sym (bare-reads t (all_but slot)) ∙ ap (λ l. nodes_read_only l (all_but slot)) (sym (take_pre (bare t) more i long) ∙ ap (take i) (sym h)) ∙ (g t more h).avoids;
}

pub unclear : (xs : List Node) (count slot : ℕ) → Glances xs count slot Unclear
unclear xs count slot = record { is = λ t more h own. tt }

-- a node counted from the end
pub node_behind : (nodes : List Node) (i j : ℕ) (node : Node) → i < length nodes → j ≡ length nodes - 1 - i → node ≡ get_or nodes j node → node ≡ get_or (reverse nodes) i node
node_behind nodes i j node lt own is = is ∙ ap (λ k. get_or nodes k node) own ∙ sym (get_or-reverse nodes i node lt)

-- ---- where the node goes

pub falls_stay : (xs : List Node) (count slot : ℕ) → Glances xs count slot Stays → FallsInto xs count slot (Some 0)
falls_stay xs count slot g = record {
  is = λ t more h own.
      let s : GlanceIs t slot Stays = g.is t more h own in
      (λ i. Some (sym (place-stays t slot s.1) i)) ∙ ap (λ b. if b then None else Some (place_of t slot)) (sym s.0);
}

pub falls_out : (xs : List Node) (count slot : ℕ) → Glances xs count slot Unread → FallsInto xs count slot None
falls_out xs count slot g = record { is = λ t more h own. ap (λ b. if b then None else Some (place_of t slot)) (sym (g.is t more h own)) }

pub falls_by : (xs : List Node) (count slot : ℕ) (d : Descent) (place : Option ℕ) → DescendsInto xs count slot d → place ≡ (if d.avoids then None else Some d.place) → FallsInto xs count slot place
falls_by xs count slot d place into is = record { is = λ t more h own. is ∙ ap (λ d'. if d'.avoids then None else Some d'.place) (into.is t more h own) }
