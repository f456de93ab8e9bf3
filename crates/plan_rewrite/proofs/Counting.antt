-- Nodes that are numbered from the last to the first.
use Rattle.std.proofs.Common.{◌≡◌, true, length-append, ℕ, ◌+◌, ◌<◌, ◌≤◌, List, [], ◌∷◌, ◌++◌, length, drop, take, get_or, set, refl, ap, sym, ◌∙◌, subst, arith, append_assoc}
use Rattle.std.proofs.lemmas.List.{drop_more, drop-set, take-set-le, get_or-take, append-nil, drop_all}
use Rattle.plan_rewrite.specs.Bare.{bare, bare_all, numbered_all, sizes, top_if, rest_if, IsNumbered}
use Rattle.battle_algebra.specs.Tree.{Computed, Called, Tree, Nothing, Setting, Parted, Acting, Joined, size, numbered}
use Rattle.battle_algebra.specs.declared.plan.Node.{Node}
use Rattle.battle_algebra.specs.declared.plan.Node.TheVariants.{Empty, Extend, Agg, Split, Effect, Both}
use Rattle.battle_algebra.specs.Nodes.{pointed, has_first, has_second, head_or, tail_of}

-- what is numbered from a place on, and the sizes of the trees there
abbrev pub Counted : List Node → List Node → List ℕ → ℕ → List Tree → Type 0
Counted rest now ss at ts = (now ≡ numbered_all ts at) × (ss ≡ sizes ts)

-- the same of a node and of what follows
abbrev Headed : Node → List Node → List ℕ → ℕ → List Tree → Type 0
Headed node now ss j ts =
    (pointed node (j + 1) (j + 1 + top_if (has_first node) ss) ∷ now ≡ numbered_all ts j)
    × ((1 + (top_if (has_first node) ss + top_if (has_second node) (rest_if (has_first node) ss))) ∷ rest_if (has_second node) (rest_if (has_first node) ss) ≡ sizes ts)

two_sizes : (a b j : ℕ) (x : Node) (now : List Node) (ts : List Tree) (t u : Tree) → now ≡ numbered_all (t ∷ u ∷ ts) (j + 1)
    → x ∷ now ≡ (x ∷ numbered t (j + 1) ++ numbered u (j + 1 + size t)) ++ numbered_all ts (j + (1 + (size t + size u)))
two_sizes a b j x now ts t u h =
    let at : (j + 1 + size t + size u) ≡ (j + (1 + (size t + size u))) = omega arith in
    ap (λ more. x ∷ more) (h ∙ ap (λ n. numbered t (j + 1) ++ (numbered u (j + 1 + size t) ++ numbered_all ts n)) at ∙ sym (append_assoc (numbered t (j + 1)) (numbered u (j + 1 + size t)) _))

-- a node of one child above a tree that is numbered
above_one : (node : Node) (rest now : List Node) (ss : List ℕ) (j : ℕ) (below : Tree) (ts : List Tree) → Counted rest now ss (j + 1) (below ∷ ts)
    → (node ∷ now ≡ node ∷ (numbered below (j + 1) ++ numbered_all ts (j + (1 + size below)))) × ((1 + (top_if true ss + 0)) ∷ rest_if true ss ≡ (1 + size below) ∷ sizes ts)
above_one node rest now ss j below ts counted =
    let at : (j + 1 + size below) ≡ (j + (1 + size below)) = omega arith in
    let one : (1 + (size below + 0)) ≡ (1 + size below) = omega arith in (
      ap (λ more. node ∷ more) (counted.0 ∙ ap (λ n. numbered below (j + 1) ++ numbered_all ts n) at),
      ap (λ s. (1 + (top_if true s + 0)) ∷ rest_if true s) counted.1 ∙ ap (λ n. n ∷ sizes ts) one,
    )

step : (ts : List Tree) (node : Node) (rest now : List Node) (ss : List ℕ) (j : ℕ) → node ∷ rest ≡ bare_all ts → ((us : List Tree) → rest ≡ bare_all us → Counted rest now ss (j + 1) us) → Headed node now ss j ts
step [] node rest now ss j h later = absurd (omega (arith, ap length h))
step (Nothing ∷ ts) node rest now ss j h later =
    let r : Counted rest now ss (j + 1) ts = later ts (ap tail_of h) in
    subst (λ n. Headed n now ss j (Nothing ∷ ts)) (sym (ap head_or h)) (ap (λ more. Empty ∷ more) r.0, ap (λ more. 1 ∷ more) r.1)
step (Setting slot (Computed e place) below ∷ ts) node rest now ss j h later =
    subst (λ n. Headed n now ss j (Setting slot (Computed e place) below ∷ ts)) (sym (ap head_or h)) (above_one (Extend slot e place (j + 1)) rest now ss j below ts (later (below ∷ ts) (ap tail_of h)))
step (Setting slot (Called call way) below ∷ ts) node rest now ss j h later =
    subst (λ n. Headed n now ss j (Setting slot (Called call way) below ∷ ts)) (sym (ap head_or h)) (above_one (Agg slot call way (j + 1)) rest now ss j below ts (later (below ∷ ts) (ap tail_of h)))
step (Parted cond place t u ∷ ts) node rest now ss j h later =
    let r : Counted rest now ss (j + 1) (t ∷ u ∷ ts) = later (t ∷ u ∷ ts) (ap tail_of h ∙ append_assoc (bare t) (bare u) (bare_all ts)) in
    subst (λ n. Headed n now ss j (Parted cond place t u ∷ ts)) (sym (ap head_or h)) (
      ap (λ s. Split cond place (j + 1) (j + 1 + top_if true s) ∷ now) r.1 ∙ two_sizes 0 0 j (Split cond place (j + 1) (j + 1 + size t)) now ts t u r.0,
      ap (λ s. (1 + (top_if true s + top_if true (rest_if true s))) ∷ rest_if true (rest_if true s)) r.1,
    )
step (Acting act way ∷ ts) node rest now ss j h later =
    let r : Counted rest now ss (j + 1) ts = later ts (ap tail_of h) in
    subst (λ n. Headed n now ss j (Acting act way ∷ ts)) (sym (ap head_or h)) (ap (λ more. Effect act way ∷ more) r.0, ap (λ more. 1 ∷ more) r.1)
step (Joined t u ∷ ts) node rest now ss j h later =
    let r : Counted rest now ss (j + 1) (t ∷ u ∷ ts) = later (t ∷ u ∷ ts) (ap tail_of h ∙ append_assoc (bare t) (bare u) (bare_all ts)) in
    subst (λ n. Headed n now ss j (Joined t u ∷ ts)) (sym (ap head_or h)) (
      ap (λ s. Both (j + 1) (j + 1 + top_if true s) ∷ now) r.1 ∙ two_sizes 0 0 j (Both (j + 1) (j + 1 + size t)) now ts t u r.0,
      ap (λ s. (1 + (top_if true s + top_if true (rest_if true s))) ∷ rest_if true (rest_if true s)) r.1,
    )

-- one node more is numbered
pub number_more : (old now new : List Node) (ss ss' : List ℕ) (i j : ℕ) → i ≡ j + 1 → j < length now → length now ≡ length old → take i now ≡ take i old
    → ((us : List Tree) → drop i old ≡ bare_all us → (drop i now ≡ numbered_all us i) × (ss ≡ sizes us))
    → new ≡ set now j (pointed (get_or now j Empty) (j + 1) (j + 1 + top_if (has_first (get_or now j Empty)) ss))
    → ss' ≡ (1 + (top_if (has_first (get_or now j Empty)) ss + top_if (has_second (get_or now j Empty)) (rest_if (has_first (get_or now j Empty)) ss))) ∷ rest_if (has_second (get_or now j Empty)) (rest_if (has_first (get_or now j Empty)) ss)
    → (ts : List Tree) → drop j old ≡ bare_all ts → (drop j new ≡ numbered_all ts j) × (ss' ≡ sizes ts)
number_more old now new ss ss' i j own lt long before done written sized ts h =
    let node : Node = get_or now j Empty in
    let in_old : j < length old = omega (arith, lt, long) in
    let first : j < j + 1 = omega arith in
    let before' : take (j + 1) now ≡ take (j + 1) old = ap (λ n. take n now) (sym own) ∙ before ∙ ap (λ n. take n old) own in
    let same : node ≡ get_or old j Empty = sym (get_or-take (j + 1) now j Empty first) ∙ ap (λ l. get_or l j Empty) before' ∙ get_or-take (j + 1) old j Empty first in
    let here : drop j old ≡ node ∷ drop (j + 1) old = drop_more old j Empty in_old ∙ ap (λ x. x ∷ drop (j + 1) old) (sym same) in
    let r : Headed node (drop (j + 1) now) ss j ts =
    step ts node (drop (j + 1) old) (drop (j + 1) now) ss j (sym here ∙ h)
    (λ us is. subst (λ n. (drop n now ≡ numbered_all us n) × (ss ≡ sizes us)) own (done us (ap (λ n. drop n old) own ∙ is))) in
    (ap (drop j) written ∙ drop-set now j _ lt ∙ r.0, sized ∙ r.1)

-- a tree has a node
some_nodes : (t : Tree) → 0 < length (bare t)
some_nodes Nothing = omega arith
some_nodes (Setting slot source below) = omega arith
some_nodes (Parted cond place taken other) = omega arith
some_nodes (Acting act way) = omega arith
some_nodes (Joined left right) = omega arith

-- before all are numbered
pub none_numbered : (old : List Node) (i : ℕ) (ts : List Tree) → i ≡ length old → drop i old ≡ bare_all ts → (drop i old ≡ numbered_all ts i) × ([] ≡ sizes ts)
none_numbered old i [] own h = (h, refl)
none_numbered old i (t ∷ ts) own h =
    absurd (omega (arith, ap length (sym (drop_none (omega arith)) ∙ h), length-append (bare t) (bare_all ts), some_nodes t))
  where
    drop_none : length old ≤ i → drop i old ≡ []
    drop_none le = drop_all i old le

-- once all are
pub all_numbered : (old new : List Node) (n : ℕ) → n ≡ 0 → (ss : List ℕ) → ((ts : List Tree) → drop n old ≡ bare_all ts → (drop n new ≡ numbered_all ts n) × (ss ≡ sizes ts)) → IsNumbered old new
all_numbered old new n none ss done = record {
  is = λ t h.
      let r : (drop n new ≡ numbered_all (t ∷ []) n) × (ss ≡ sizes (t ∷ [])) = done (t ∷ []) (ap (λ k. drop k old) none ∙ h ∙ sym (append-nil (bare t))) in
      sym (ap (λ k. drop k new) none) ∙ r.0 ∙ ap (numbered_all (t ∷ [])) none ∙ append-nil (numbered t 0);
}

pub take_less : (old now new : List Node) (i j : ℕ) (x : Node) → i ≡ j + 1 → take i now ≡ take i old → new ≡ set now j x → take j new ≡ take j old
take_less old now new i j x own same written =
    ap (take j) written ∙ take-set-le j now j x (omega arith)
    ∙ sym (take_take j i now (omega arith)) ∙ ap (take j) same ∙ take_take j i old (omega arith)
  where
    take_take : (n m : ℕ) (l : List Node) → n ≤ m → take n (take m l) ≡ take n l
    take_take ℕ.zero m l le = refl
    take_take (ℕ.suc n) ℕ.zero l le = absurd (omega arith)
    take_take (ℕ.suc n) (ℕ.suc m) [] le = refl
    take_take (ℕ.suc n) (ℕ.suc m) (y ∷ ys) le = ap (λ more. y ∷ more) (take_take n m ys (omega arith))
