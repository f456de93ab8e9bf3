-- A node that goes down, from the leaves up.
use Rattle.std.proofs.Common.{◌≡◌, ℕ, ◌+◌, ◌<◌, ◌≤◌, true, List, [], ◌∷◌, ◌++◌, length, take, get_or, reverse, refl, ap, sym, ◌∙◌, arith, append_assoc}
use Rattle.std.proofs.lemmas.List.{append-nil, length-append, length-reverse, length-take-le, take_all}
use Rattle.sgl_typed.specs.Reads.{reads_only, list_reads_only}
use Rattle.plan_rewrite.specs.Bare.{bare, bare_all, branches, root}
use Rattle.plan_rewrite.specs.Descents.{all_over, between_all, both_all, descents_of, leaf, past_all, top_descent, DescendsInto}
use Rattle.battle_algebra.specs.Reads.{all_but}
use Rattle.battle_algebra.specs.Tree.{Computed, Called, Tree, Nothing, Setting, Parted, Acting, Joined}
use Rattle.plan_rewrite.specs.declared.descent.Descent.{Descent}
use Rattle.battle_algebra.specs.declared.plan.Node.{Node}
use Rattle.battle_algebra.specs.declared.plan.Node.TheVariants.{Split, Both}
use Rattle.plan_rewrite.proofs.Inserting.{length-bare, place-within}
use Rattle.plan_rewrite.proofs.Turned.{one_turned}
use Rattle.battle_algebra.specs.Nodes.{head_or, tail_of}

-- ---- a tree is its root and what is below

pub bare-root : (t : Tree) (ts : List Tree) → bare_all (t ∷ ts) ≡ root t ∷ bare_all (branches t ++ ts)
bare-root Nothing ts = refl
bare-root (Setting slot source below) ts = refl
bare-root (Parted cond place x y) ts = ap (λ more. Split cond place 0 0 ∷ more) (append_assoc (bare x) (bare y) (bare_all ts))
bare-root (Acting act way) ts = refl
bare-root (Joined x y) ts = ap (λ more. Both 0 0 ∷ more) (append_assoc (bare x) (bare y) (bare_all ts))

-- a tree has a node
pub some_nodes : (t : Tree) (more : List Node) → 1 ≤ length (bare t ++ more)
some_nodes t more = omega (arith, length-append (bare t) more, length-bare t, place-within t 0)

-- a list of nodes that begins with a node begins with a tree
pub record Begins (node : Node) (rest : List Node) (t : Tree) (ts : List Tree) (more : List Node) : Type 0 where
  pub head : node ≡ root t
  pub tail : rest ≡ bare_all (branches t ++ ts) ++ more

pub begins : (node : Node) (rest : List Node) (t : Tree) (ts : List Tree) (more : List Node) → node ∷ rest ≡ bare_all (t ∷ ts) ++ more → Begins node rest t ts more
begins node rest t ts more h =
    let is : node ∷ rest ≡ root t ∷ (bare_all (branches t ++ ts) ++ more) = h ∙ ap (λ xs. xs ++ more) (bare-root t ts) in
    record { head = ap head_or is; tail = ap tail_of is }

-- ---- the ways down

over_root : (t : Tree) (ts : List Tree) (slot : ℕ) (ds : List Descent) → ds ≡ descents_of (branches t ++ ts) slot → all_over (root t) slot ds ≡ descents_of (t ∷ ts) slot
over_root Nothing ts slot ds h = ap (λ s. leaf true ∷ s) h
over_root (Setting other (Computed e place) below) ts slot ds h = ap (past_all (reads_only e (all_but slot))) h
over_root (Setting other (Called call way) below) ts slot ds h = ap (past_all (list_reads_only call.args (all_but slot))) h
over_root (Parted cond place x y) ts slot ds h = ap (between_all (reads_only cond (all_but slot))) h
over_root (Acting act way) ts slot ds h = ap (λ s. leaf (list_reads_only act.args (all_but slot)) ∷ s) h
over_root (Joined x y) ts slot ds h = ap both_all h

-- the ways into the trees of the nodes that were gone over, behind these many others
abbrev pub Descending : List Node → ℕ → ℕ → ℕ → List Descent → Type 0
Descending nodes start i slot ds = (ts : List Tree) (more : List Node) → length more ≡ start → reverse (take i nodes) ≡ bare_all ts ++ more → ds ≡ descents_of ts slot

length_part : (nodes : List Node) (i : ℕ) → i ≤ length nodes → length (reverse (take i nodes)) ≡ i
length_part nodes i le = length-reverse (take i nodes) ∙ length-take-le i nodes le

pub descends_none : (nodes : List Node) (start slot : ℕ) → start ≤ length nodes → Descending nodes start start slot []
descends_none nodes start slot le [] more long h = refl
descends_none nodes start slot le (t ∷ ts) more long h =
    absurd (omega (arith, long, length_part nodes start le, ap length h, length-append (bare_all (t ∷ ts)) more, some_nodes t (bare_all ts)))

pub descends_more : (nodes : List Node) (start i slot : ℕ) (node : Node) (ds ds' : List Descent) → start ≤ i → i < length nodes → node ≡ get_or nodes i node → ds' ≡ all_over node slot ds
    → Descending nodes start i slot ds → Descending nodes start (i + 1) slot ds'
descends_more nodes start i slot node ds ds' from lt is made done [] more long h =
    absurd (omega (arith, from, long, length_part nodes (i + 1) (omega (arith, lt)), ap length h))
descends_more nodes start i slot node ds ds' from lt is made done (t ∷ ts) more long h =
    let b : Begins node (reverse (take i nodes)) t ts more = begins node (reverse (take i nodes)) t ts more (sym (one_turned nodes i node lt is) ∙ h) in
    made ∙ ap (λ n. all_over n slot ds) b.head ∙ over_root t ts slot ds (done (branches t ++ ts) more long b.tail)

pub descends_all : (nodes : List Node) (start i count slot : ℕ) (ds : List Descent) (d : Descent) → start + count ≡ length nodes → i ≡ length nodes → d ≡ top_descent ds
    → Descending nodes start i slot ds → DescendsInto (reverse nodes) count slot d
descends_all nodes start i count slot ds d whole ends top done = record {
  is = λ t more h own.
      let long : length more ≡ start = omega (arith, own, whole, length-reverse nodes, ap length h, length-append (bare t) more, length-bare t) in
      let all : reverse (take i nodes) ≡ bare_all (t ∷ []) ++ more =
      ap reverse (take_all i nodes (omega (arith, ends))) ∙ h ∙ ap (λ xs. xs ++ more) (sym (append-nil (bare t))) in
      top ∙ ap top_descent (done (t ∷ []) more long all);
}
