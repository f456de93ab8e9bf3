-- Trees as lists of nodes: a node that goes down is put in at one place.
use Rattle.std.proofs.Common.{◌≡◌, ℕ, ◌+◌, ◌<◌, ◌≤◌, Bool, true, false, List, [], ◌∷◌, ◌++◌, length, refl, ap, sym, ◌∙◌, arith, length-append}
use Rattle.std.specs.Prelude.{if◌then◌else◌}
use Rattle.plan_rewrite.specs.Bare.{bare, place_of, inserted}
use Rattle.battle_algebra.specs.Normal.{stays_above}
use Rattle.battle_algebra.specs.Reads.{is_read_in}
use Rattle.plan_rewrite.specs.Rewrite.{lowered}
use Rattle.battle_algebra.specs.Tree.{Source, Tree, Nothing, Setting, Parted, Acting, Joined, size, node_of}
use Rattle.battle_algebra.specs.declared.plan.Node.{Node}
use Rattle.battle_algebra.specs.declared.plan.Node.TheVariants.{Split}
use Rattle.battle_algebra.proofs.Bools.{if_way}

pub length-bare : (t : Tree) → length (bare t) ≡ size t
length-bare Nothing = refl
length-bare (Setting slot source below) = omega (arith, length-bare below)
length-bare (Parted cond place taken other) = omega (arith, length-append (bare taken) (bare other), length-bare taken, length-bare other)
length-bare (Acting act way) = refl
length-bare (Joined left right) = omega (arith, length-append (bare left) (bare right), length-bare left, length-bare right)

-- ---- one element more

pub inserted-first : {A : Type 0} (k : ℕ) (x : A) (xs ys : List A) → k ≤ length xs → inserted k x xs ++ ys ≡ inserted k x (xs ++ ys)
inserted-first ℕ.zero x xs ys le = refl
inserted-first (ℕ.suc k) x [] ys le = absurd (omega arith)
inserted-first (ℕ.suc k) x (y ∷ xs) ys le = ap (λ more. y ∷ more) (inserted-first k x xs ys (omega arith))

one_more : {A : Type 0} (k : ℕ) (y x : A) (ys : List A) → inserted (1 + k) x (y ∷ ys) ≡ y ∷ inserted k x ys
one_more k y x ys = let at : (1 + k) ≡ ℕ.suc k = omega arith in ap (λ n. inserted n x (y ∷ ys)) at

pub inserted-behind : {A : Type 0} (xs : List A) (k : ℕ) (x : A) (ys : List A) → inserted (length xs + k) x (xs ++ ys) ≡ xs ++ inserted k x ys
inserted-behind [] k x ys = ap (λ n. inserted n x ys) (omega arith)
inserted-behind (y ∷ xs) k x ys =
    let at : (length (y ∷ xs) + k) ≡ (1 + (length xs + k)) = omega arith in
    ap (λ n. inserted n x (y ∷ (xs ++ ys))) at ∙ one_more (length xs + k) y x (xs ++ ys) ∙ ap (λ more. y ∷ more) (inserted-behind xs k x ys)

pub place-within : (t : Tree) (slot : ℕ) → place_of t slot < size t
place-within Nothing slot = omega arith
place-within (Setting other from below) slot =
    if_way (stays_above (Setting other from below) slot) _ _ (λ n. n < 1 + size below) (λ yes. omega arith) (λ out. omega (arith, place-within below slot))
place-within (Parted cond place taken other) slot =
    if_way (stays_above (Parted cond place taken other) slot) _ _ (λ n. n < 1 + (size taken + size other)) (λ yes. omega arith)
    (λ out. if_way (is_read_in taken slot) _ _ (λ n. n < 1 + (size taken + size other)) (λ yes. omega (arith, place-within taken slot)) (λ out'. omega (arith, place-within other slot)))
place-within (Acting act way) slot = omega arith
place-within (Joined left right) slot = omega arith

-- the nodes of a tree with one that went down are those of the tree with this one at its place
pub bare-lowered : (t : Tree) (slot : ℕ) (source : Source) → bare (lowered t slot source) ≡ inserted (place_of t slot) (node_of slot source 0) (bare t)
bare-lowered Nothing slot source = refl
bare-lowered (Setting other from below) slot source = step (stays_above (Setting other from below) slot) (bare-lowered below slot source)
  where
    step : (b : Bool) → bare (lowered below slot source) ≡ inserted (place_of below slot) (node_of slot source 0) (bare below)
        → bare (if b then Setting slot source (Setting other from below) else Setting other from (lowered below slot source))
        ≡ inserted (if b then 0 else 1 + place_of below slot) (node_of slot source 0) (bare (Setting other from below))
    step true h = refl
    step false h = ap (λ more. node_of other from 0 ∷ more) h ∙ sym (one_more (place_of below slot) (node_of other from 0) (node_of slot source 0) (bare below))
bare-lowered (Parted cond place taken other) slot source =
    step (stays_above (Parted cond place taken other) slot) (is_read_in taken slot) (bare-lowered taken slot source) (bare-lowered other slot source)
  where
    x : Node
    x = node_of slot source 0

    step : (b c : Bool) → bare (lowered taken slot source) ≡ inserted (place_of taken slot) x (bare taken) → bare (lowered other slot source) ≡ inserted (place_of other slot) x (bare other)
        → bare (if b then Setting slot source (Parted cond place taken other) else if c then Parted cond place (lowered taken slot source) other else Parted cond place taken (lowered other slot source))
        ≡ inserted (if b then 0 else if c then 1 + place_of taken slot else (1 + size taken) + place_of other slot) x (bare (Parted cond place taken other))
    step true c h k = refl
    step false true h k =
        ap (λ more. Split cond place 0 0 ∷ more)
        (ap (λ more. more ++ bare other) h ∙ inserted-first (place_of taken slot) x (bare taken) (bare other) (omega (arith, place-within taken slot, length-bare taken)))
        ∙ sym (one_more (place_of taken slot) (Split cond place 0 0) x (bare taken ++ bare other))
    step false false h k =
        let at : ((1 + size taken) + place_of other slot) ≡ (1 + (length (bare taken) + place_of other slot)) = omega (arith, length-bare taken) in
        ap (λ more. Split cond place 0 0 ∷ more)
        (ap (λ more. bare taken ++ more) k ∙ sym (inserted-behind (bare taken) (place_of other slot) x (bare other)))
        ∙ sym (one_more (length (bare taken) + place_of other slot) (Split cond place 0 0) x (bare taken ++ bare other))
        ∙ ap (λ n. inserted n x (Split cond place 0 0 ∷ (bare taken ++ bare other))) (sym at)
bare-lowered (Acting act way) slot source = refl
bare-lowered (Joined left right) slot source = refl
