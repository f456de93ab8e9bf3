-- Nodes that are made tidy from the last to the first.
use Rattle.std.proofs.Common.{◌≡◌, ℕ, ◌+◌, ◌<◌, Bool, true, false, List, [], ◌∷◌, ◌++◌, length, take, drop, get_or, refl, ap, sym, ◌∙◌, subst, arith, map, Option, Some, None}
use Rattle.std.specs.Prelude.{if◌then◌else◌}
use Rattle.std.proofs.lemmas.List.{append-nil, drop_all, drop_more, get_or-take, length-append, length-take-le, take-take}
use Rattle.std.proofs.Math.Seq.{drop-append-add, get_or-append_seam}
use Rattle.plan_rewrite.specs.Bare.{bare, bare_all, branches, inserted, place_of, rest_if, root, sizes, top_if, without}
use Rattle.plan_rewrite.specs.Descents.{fall_of, FallsInto}
use Rattle.battle_algebra.specs.Normal.{literal, is_nothing}
use Rattle.battle_algebra.specs.Reads.{all_but, tree_reads_only}
use Rattle.plan_rewrite.specs.Rewrite.{parted, lowered, tidied}
use Rattle.plan_rewrite.specs.Tidy.{split_task, task_of, is_empty, tidy_root, chosen, sizes_over, Holds, Lowers, Chooses, Joins, Keeps, Tidies, IsTidied}
use Rattle.battle_algebra.specs.Tree.{Computed, Called, Tree, Nothing, Setting, Parted, Acting, Joined, size, node_of}
use Rattle.plan_rewrite.specs.declared.grove.Grove.{Grove}
use Rattle.battle_algebra.specs.declared.plan.Node.{Node}
use Rattle.battle_algebra.specs.declared.plan.Node.TheVariants.{Empty}
use Rattle.plan_rewrite.specs.declared.task.Task.{Task}
use Rattle.plan_rewrite.specs.declared.task.Task.TheVariants.{Leave, Lower, Choose, Join}
use Rattle.plan_rewrite.proofs.Falling.{bare-root, begins, some_nodes, Begins}
use Rattle.plan_rewrite.proofs.Inserting.{bare-lowered, inserted-first, length-bare, place-within}
use Rattle.plan_rewrite.proofs.Lowering.{size-lowered}
use Rattle.plan_rewrite.proofs.Turned.{take_pre, drop_pre}

-- ---- a node on its children

sizes_root : (t : Tree) (ts : List Tree) (ns : List ℕ) → ns ≡ sizes (branches t ++ ts) → sizes_over (root t) ns ≡ sizes (t ∷ ts)
sizes_root Nothing ts ns h = ap (λ s. 1 ∷ s) h
sizes_root (Setting slot (Computed e place) below) ts ns h =
    let one : (1 + (size below + 0)) ≡ (1 + size below) = omega arith in
    ap (λ s. (1 + (top_if true s + 0)) ∷ rest_if true s) h ∙ ap (λ n. n ∷ sizes ts) one
sizes_root (Setting slot (Called call way) below) ts ns h =
    let one : (1 + (size below + 0)) ≡ (1 + size below) = omega arith in
    ap (λ s. (1 + (top_if true s + 0)) ∷ rest_if true s) h ∙ ap (λ n. n ∷ sizes ts) one
sizes_root (Parted cond place x y) ts ns h = ap (λ s. (1 + (top_if true s + top_if true (rest_if true s))) ∷ rest_if true (rest_if true s)) h
sizes_root (Acting act way) ts ns h = ap (λ s. 1 ∷ s) h
sizes_root (Joined x y) ts ns h = ap (λ s. (1 + (top_if true s + top_if true (rest_if true s))) ∷ rest_if true (rest_if true s)) h

pub kept : (old new : Grove) (node : Node) → new.nodes ≡ node ∷ old.nodes → new.sizes ≡ sizes_over node old.sizes → Keeps old new node
kept old new node put sized = record {
  is = λ t ts own h. (
    put ∙ (λ i. own i ∷ h.0 i) ∙ sym (bare-root t ts),
    sized ∙ ap (λ n. sizes_over n old.sizes) own ∙ sizes_root t ts old.sizes h.1,
  );
}

-- ---- a node that sets a slot

abbrev is_some_type : Option ℕ → Type 0
is_some_type None = ⊥
is_some_type (Some n) = Unit {0}

abbrev is_none_type : Option ℕ → Type 0
is_none_type None = Unit {0}
is_none_type (Some n) = ⊥

abbrev number_or : ℕ → Option ℕ → ℕ
number_or d None = d
number_or d (Some n) = n

-- where the node goes, by the sizes
fallen : (old : Grove) (slot count : ℕ) (place : Option ℕ) (below : Tree) (ts : List Tree) → count ≡ top_if true old.sizes → FallsInto old.nodes count slot place → Holds old (below ∷ ts) → (count ≡ size below) × (place ≡ fall_of below slot)
fallen old slot count place below ts top into h =
    let s : count ≡ size below = top ∙ ap (top_if true) h.1 in
    (s, into.is below (bare_all ts) h.0 s)

-- nothing reads it
pub lower_out : (old new : Grove) (node : Node) (slot count : ℕ) (place : Option ℕ) → count ≡ top_if true old.sizes → FallsInto old.nodes count slot place → place ≡ None
    → new.nodes ≡ old.nodes → new.sizes ≡ count ∷ rest_if true old.sizes → Lowers old new node slot
lower_out old new node slot count place top into none kept sized = record {
  is = λ source below ts own h.
      let f : (count ≡ size below) × (place ≡ fall_of below slot) = fallen old slot count place below ts top into h in
      step source below ts (kept ∙ h.0, sized ∙ (λ i. f.0 i ∷ rest_if true (h.1 i))) (tree_reads_only below (all_but slot)) (sym f.1 ∙ none);
}
  where
    step : (source : _) (below : Tree) (ts : List Tree) → Holds new (below ∷ ts) → (b : Bool) → (if b then None else Some (place_of below slot)) ≡ None → Holds new ((if b then below else lowered below slot source) ∷ ts)
    step source below ts h true is = h
    step source below ts h false is = absurd (subst is_some_type is tt)

-- it goes down
pub lower_down : (old new : Grove) (node : Node) (slot count next k : ℕ) (place : Option ℕ) → count ≡ top_if true old.sizes → FallsInto old.nodes count slot place → place ≡ Some k
    → new.nodes ≡ inserted k node old.nodes → next ≡ 1 + count → new.sizes ≡ next ∷ rest_if true old.sizes → Lowers old new node slot
lower_down old new node slot count next k place top into some sunk one sized = record {
  is = λ source below ts own h.
      let f : (count ≡ size below) × (place ≡ fall_of below slot) = fallen old slot count place below ts top into h in
      step source below ts own h f.0 (tree_reads_only below (all_but slot)) (sym f.1 ∙ some);
}
  where
    step : (source : _) (below : Tree) (ts : List Tree) → node ≡ node_of slot source 0 → Holds old (below ∷ ts) → count ≡ size below → (b : Bool) → (if b then None else Some (place_of below slot)) ≡ Some k
        → Holds new ((if b then below else lowered below slot source) ∷ ts)
    step source below ts own h s true is = absurd (subst is_none_type is tt)
    step source below ts own h s false is =
        let at : k ≡ place_of below slot = sym (ap (number_or 0) is) in
        let p : ℕ = place_of below slot in
        let more : next ≡ size (lowered below slot source) = omega (arith, one, s, size-lowered below slot source) in (
          sunk ∙ (λ i. inserted (at i) (own i) (h.0 i))
              ∙ sym (inserted-first p (node_of slot source 0) (bare below) (bare_all ts) (omega (arith, place-within below slot, length-bare below)))
              ∙ ap (λ xs. xs ++ bare_all ts) (sym (bare-lowered below slot source)),
          sized ∙ (λ i. more i ∷ rest_if true (h.1 i)),
        )

-- ---- two trees of which one is left

cut_second : {A : Type 0} (xs ys zs : List A) (n m : ℕ) → length xs ≡ n → length ys ≡ m → without n m (xs ++ (ys ++ zs)) ≡ xs ++ zs
cut_second xs ys zs n m first second =
    let past : (n + m) ≡ (length xs + m) = omega (arith, first) in
    (λ i. take_pre xs (ys ++ zs) n first i ++ drop (past i) (xs ++ (ys ++ zs)))
    ∙ ap (λ more. xs ++ more) (drop-append-add xs (ys ++ zs) m ∙ drop_pre ys zs m second)

-- what the sizes say of two trees
record Two (old : Grove) (first second : ℕ) (x y : Tree) (ts : List Tree) : Type 0 where
  nodes : old.nodes ≡ bare x ++ (bare y ++ bare_all ts)
  one : first ≡ size x
  other : second ≡ size y
  rest : rest_if true (rest_if true old.sizes) ≡ sizes ts

two : (old : Grove) (first second : ℕ) (x y : Tree) (ts : List Tree) → first ≡ top_if true old.sizes → second ≡ top_if true (rest_if true old.sizes) → Holds old (x ∷ y ∷ ts) → Two old first second x y ts
two old first second x y ts top next h = record {
  nodes = h.0;
  one = top ∙ ap (top_if true) h.1;
  other = next ∙ ap (λ s. top_if true (rest_if true s)) h.1;
  rest = ap (λ s. rest_if true (rest_if true s)) h.1;
}

left_first : (old new : Grove) (first second : ℕ) (x y : Tree) (ts : List Tree) → Two old first second x y ts → new.nodes ≡ without first second old.nodes → new.sizes ≡ first ∷ rest_if true (rest_if true old.sizes) → Holds new (x ∷ ts)
left_first old new first second x y ts t cut sized = (
  cut ∙ ap (without first second) t.nodes ∙ cut_second (bare x) (bare y) (bare_all ts) first second (length-bare x ∙ sym t.one) (length-bare y ∙ sym t.other),
  sized ∙ (λ i. t.one i ∷ t.rest i),
)

left_second : (old new : Grove) (first second : ℕ) (x y : Tree) (ts : List Tree) → Two old first second x y ts → new.nodes ≡ without 0 first old.nodes → new.sizes ≡ second ∷ rest_if true (rest_if true old.sizes) → Holds new (y ∷ ts)
left_second old new first second x y ts t cut sized = (
  cut ∙ ap (without 0 first) t.nodes ∙ cut_second [] (bare x) (bare y ++ bare_all ts) 0 first refl (length-bare x ∙ sym t.one),
  sized ∙ (λ i. t.other i ∷ t.rest i),
)

pub choose_first : (old new : Grove) (first second : ℕ) (truth : Bool) → first ≡ top_if true old.sizes → second ≡ top_if true (rest_if true old.sizes) → truth ≡ true
    → new.nodes ≡ without first second old.nodes → new.sizes ≡ first ∷ rest_if true (rest_if true old.sizes) → Chooses old new truth
choose_first old new first second truth top next is cut sized = record {
  is = λ x y ts h. subst (λ b. Holds new (chosen b x y ∷ ts)) (sym is) (left_first old new first second x y ts (two old first second x y ts top next h) cut sized);
}

pub choose_second : (old new : Grove) (first second : ℕ) (truth : Bool) → first ≡ top_if true old.sizes → second ≡ top_if true (rest_if true old.sizes) → truth ≡ false
    → new.nodes ≡ without 0 first old.nodes → new.sizes ≡ second ∷ rest_if true (rest_if true old.sizes) → Chooses old new truth
choose_second old new first second truth top next is cut sized = record {
  is = λ x y ts h. subst (λ b. Holds new (chosen b x y ∷ ts)) (sym is) (left_second old new first second x y ts (two old first second x y ts top next h) cut sized);
}

empty-bare : (t : Tree) (more : List Node) → is_empty (get_or (bare t ++ more) 0 Empty) ≡ is_nothing t
empty-bare Nothing more = refl
empty-bare (Setting slot (Computed e place) below) more = refl
empty-bare (Setting slot (Called call way) below) more = refl
empty-bare (Parted cond place x y) more = refl
empty-bare (Acting act way) more = refl
empty-bare (Joined x y) more = refl

empty-behind : (xs ys : List Node) (n : ℕ) → length xs ≡ n → get_or (xs ++ ys) n Empty ≡ get_or ys 0 Empty
empty-behind xs ys n own = ap (λ k. get_or (xs ++ ys) k Empty) (sym own) ∙ here xs
  where
    here : (xs : List Node) → get_or (xs ++ ys) (length xs) Empty ≡ get_or ys 0 Empty
    here [] = refl
    here (x ∷ xs) = here xs

first_empty : (old : Grove) (first second : ℕ) (x y : Tree) (ts : List Tree) → Two old first second x y ts → is_empty (get_or old.nodes 0 Empty) ≡ is_nothing x
first_empty old first second x y ts t = ap (λ l. is_empty (get_or l 0 Empty)) t.nodes ∙ empty-bare x (bare y ++ bare_all ts)

second_empty : (old : Grove) (first second : ℕ) (x y : Tree) (ts : List Tree) → Two old first second x y ts → is_empty (get_or old.nodes first Empty) ≡ is_nothing y
second_empty old first second x y ts t =
    ap (λ l. is_empty (get_or l first Empty)) t.nodes
    ∙ ap is_empty (empty-behind (bare x) (bare y ++ bare_all ts) first (length-bare x ∙ sym t.one)) ∙ empty-bare y (bare_all ts)

pub join_first : (old new : Grove) (node : Node) (first second : ℕ) (empty : Bool) → first ≡ top_if true old.sizes → second ≡ top_if true (rest_if true old.sizes)
    → empty ≡ is_empty (get_or old.nodes 0 Empty) → empty ≡ true → new.nodes ≡ without 0 first old.nodes → new.sizes ≡ second ∷ rest_if true (rest_if true old.sizes) → Joins old new node
join_first old new node first second empty top next tests is cut sized = record {
  is = λ x y ts own h.
      let t : Two old first second x y ts = two old first second x y ts top next h in
      let none : is_nothing x ≡ true = sym (first_empty old first second x y ts t) ∙ sym tests ∙ is in
      subst (λ b. Holds new ((if b then y else if is_nothing y then x else Joined x y) ∷ ts)) (sym none) (left_second old new first second x y ts t cut sized);
}

pub join_second : (old new : Grove) (node : Node) (first second : ℕ) (empty empty' : Bool) → first ≡ top_if true old.sizes → second ≡ top_if true (rest_if true old.sizes)
    → empty ≡ is_empty (get_or old.nodes 0 Empty) → empty ≡ false → empty' ≡ is_empty (get_or old.nodes first Empty) → empty' ≡ true
    → new.nodes ≡ without first second old.nodes → new.sizes ≡ first ∷ rest_if true (rest_if true old.sizes) → Joins old new node
join_second old new node first second empty empty' top next tests is tests' is' cut sized = record {
  is = λ x y ts own h.
      let t : Two old first second x y ts = two old first second x y ts top next h in
      let some : is_nothing x ≡ false = sym (first_empty old first second x y ts t) ∙ sym tests ∙ is in
      let none : is_nothing y ≡ true = sym (second_empty old first second x y ts t) ∙ sym tests' ∙ is' in
      subst (λ b. Holds new ((if b then y else if is_nothing y then x else Joined x y) ∷ ts)) (sym some)
      (subst (λ b. Holds new ((if b then x else Joined x y) ∷ ts)) (sym none) (left_first old new first second x y ts t cut sized));
}

pub join_none : (old new : Grove) (node : Node) (first second : ℕ) (empty empty' : Bool) → first ≡ top_if true old.sizes → second ≡ top_if true (rest_if true old.sizes)
    → empty ≡ is_empty (get_or old.nodes 0 Empty) → empty ≡ false → empty' ≡ is_empty (get_or old.nodes first Empty) → empty' ≡ false
    → new.nodes ≡ node ∷ old.nodes → new.sizes ≡ (1 + (first + second)) ∷ rest_if true (rest_if true old.sizes) → Joins old new node
join_none old new node first second empty empty' top next tests is tests' is' put sized = record {
  is = λ x y ts own h.
      let t : Two old first second x y ts = two old first second x y ts top next h in
      let some : is_nothing x ≡ false = sym (first_empty old first second x y ts t) ∙ sym tests ∙ is in
      let some' : is_nothing y ≡ false = sym (second_empty old first second x y ts t) ∙ sym tests' ∙ is' in
      subst (λ b. Holds new ((if b then y else if is_nothing y then x else Joined x y) ∷ ts)) (sym some)
      (subst (λ b. Holds new ((if b then x else Joined x y) ∷ ts)) (sym some')
      (put ∙ (λ i. own i ∷ h.0 i) ∙ sym (bare-root (Joined x y) ts), sized ∙ (λ i. (1 + (t.one i + t.other i)) ∷ t.rest i)));
}

-- ---- the task

-- what a task does
abbrev Done : Grove → Grove → Node → Task → Type 0
Done old new node Leave = Keeps old new node
Done old new node (Lower slot) = Lowers old new node slot
Done old new node (Choose b) = Chooses old new b
Done old new node Join = Joins old new node

pub tidies : (old new : Grove) (node : Node) (task : Task) → task ≡ task_of node → Done old new node task → Tidies old new node
tidies old new node task is d = record {
  is = λ t ts own h. by_task t ts own h (subst (Done old new node) (is ∙ ap task_of own) d);
}
  where
    split : (cond : _) (place : _) (x y : Tree) (ts : List Tree) → node ≡ root (Parted cond place x y) → Holds old (x ∷ y ∷ ts) → (l : Option Bool) → Done old new node (split_task l) → Holds new (parted l cond place x y ∷ ts)
    split cond place x y ts own h None d = d.is (Parted cond place x y) ts own h
    split cond place x y ts own h (Some true) d = d.is x y ts h
    split cond place x y ts own h (Some false) d = d.is x y ts h

    by_task : (t : Tree) (ts : List Tree) → node ≡ root t → Holds old (branches t ++ ts) → Done old new node (task_of (root t)) → Holds new (tidy_root t ∷ ts)
    by_task Nothing ts own h d = d.is Nothing ts own h
    by_task (Setting slot (Computed e place) below) ts own h d = d.is (Computed e place) below ts own h
    by_task (Setting slot (Called call way) below) ts own h d = d.is (Called call way) below ts own h
    by_task (Parted cond place x y) ts own h d = split cond place x y ts own h (literal cond) d
    by_task (Acting act way) ts own h d = d.is (Acting act way) ts own h
    by_task (Joined x y) ts own h d = d.is x y ts own h

-- ---- all nodes

-- the trees behind these many nodes are tidy
abbrev pub AreTidied : List Node → ℕ → Grove → Type 0
AreTidied old i grove = (ts : List Tree) → drop i old ≡ bare_all ts → Holds grove (map tidied ts)

pub tidy_more : (old : List Node) (i j : ℕ) (now new : Grove) (node : Node) → i ≡ j + 1 → j < length old → node ≡ get_or old j node → Tidies now new node → AreTidied old i now → AreTidied old j new
tidy_more old i j now new node own lt is turned done [] h = absurd (omega (arith, ap length (sym (drop_more old j node lt) ∙ h)))
tidy_more old i j now new node own lt is turned done (t ∷ ts) h =
    let here : node ∷ drop (j + 1) old ≡ bare_all (t ∷ ts) ++ [] =
    ap (λ x. x ∷ drop (j + 1) old) is ∙ sym (drop_more old j node lt) ∙ h ∙ sym (append-nil (bare_all (t ∷ ts))) in
    let b : Begins node (drop (j + 1) old) t ts [] = begins node (drop (j + 1) old) t ts [] here in
    step t b.head (done (branches t ++ ts) (ap (λ n. drop n old) own ∙ b.tail ∙ append-nil (bare_all (branches t ++ ts))))
  where
    step : (t : Tree) → node ≡ root t → Holds now (map tidied (branches t ++ ts)) → Holds new (tidied t ∷ map tidied ts)
    step Nothing own h = turned.is Nothing (map tidied ts) own h
    step (Setting slot source below) own h = turned.is (Setting slot source (tidied below)) (map tidied ts) own h
    step (Parted cond place x y) own h = turned.is (Parted cond place (tidied x) (tidied y)) (map tidied ts) own h
    step (Acting act way) own h = turned.is (Acting act way) (map tidied ts) own h
    step (Joined x y) own h = turned.is (Joined (tidied x) (tidied y)) (map tidied ts) own h

-- the last node is taken out
pub record Took (old new : List Node) (j : ℕ) (node : Node) : Type 0 where
  pub rest : new ≡ take j old
  pub node_is : node ≡ get_or old j node

pub took : (old now new : List Node) (i j : ℕ) (node : Node) → i ≡ j + 1 → j < length old → now ≡ take i old → now ≡ new ++ node ∷ [] → Took old new j node
took old now new i j node own lt before out =
    let both : new ++ node ∷ [] ≡ take i old = sym out ∙ before in
    let long : length new ≡ j = omega (arith, own, ap length both, length-append new (node ∷ []), length-take-le i old (omega (arith, own, lt))) in
    let within : j < i = omega (arith, own) in
    record {
      rest = sym (take_pre new (node ∷ []) j long) ∙ ap (take j) both ∙ take-take j i old (omega (arith, own));
      node_is = sym (get_or-append_seam new node [] node) ∙ ap (λ n. get_or (new ++ node ∷ []) n node) long ∙ ap (λ l. get_or l j node) both ∙ get_or-take i old j node within;
    }

pub none_tidied : (old : List Node) (i : ℕ) (grove : Grove) → i ≡ length old → Holds grove [] → AreTidied old i grove
none_tidied old i grove own empty [] h = empty
none_tidied old i grove own empty (t ∷ ts) h = absurd (omega (arith, ap length (sym (drop_all i old (omega (arith, own))) ∙ h), some_nodes t (bare_all ts)))

pub all_tidied : (old new : List Node) (i : ℕ) (grove : Grove) → i ≡ 0 → new ≡ grove.nodes → AreTidied old i grove → IsTidied old new
all_tidied old new i grove none is done = record {
  is = λ t h.
      let r : Holds grove (tidied t ∷ []) = done (t ∷ []) (ap (λ n. drop n old) none ∙ h ∙ sym (append-nil (bare t))) in
      is ∙ r.0 ∙ append-nil (bare (tidied t));
}
