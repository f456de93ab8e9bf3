-- Calls that are merged, node by node.
use Rattle.std.proofs.Common.{◌≡◌, length-append, ℕ, ◌+◌, ◌<◌, ◌≤◌, true, List, [], ◌∷◌, ◌++◌, length, take, drop, get_or, reverse, ap, sym, ◌∙◌, subst, arith, append_assoc, Option, Some, None}
use Rattle.std.proofs.lemmas.List.{append-nil, drop_more, drop_all, take_all, take-append-le, reverse-append}
use Rattle.sgl_typed.specs.declared.script.AggUse.{AggUse}
use Rattle.sgl_typed.specs.declared.script.TScript.{TScript}
use Rattle.plan_rewrite.specs.Bare.{bare, numbered_all, top_if, rest_if}
use Rattle.plan_rewrite.specs.Rewrite.{Renaming, Known, moved, moved_call, moved_act, slot_of, or_known, unified}
use Rattle.battle_algebra.specs.Same.{same_call}
use Rattle.plan_rewrite.specs.Trails.{Here, no_trail, renaming_more, known_more, forked, closed, Roomy, all_unified, CallStepped, Stepped, Merges}
use Rattle.battle_algebra.specs.Tree.{Computed, Called, Tree, Nothing, Setting, Parted, Acting, Joined, size, numbered}
use Rattle.battle_algebra.specs.declared.plan.Node.{Node}
use Rattle.battle_algebra.specs.declared.plan.Node.TheVariants.{Empty, Extend, Agg, Split, Effect, Both}
use Rattle.battle_algebra.specs.ChosenWays.{ways_of}
use Rattle.battle_algebra.specs.Nodes.{head_or, tail_of}

-- trees that are still to come, and what is to be made of the whole
pub record Going (script : TScript) (rest : List Node) (i : ℕ) (out : List Node) (h : Here) (whole : List Node) : Type 0 where
  pub trees : List Tree
  pub are : rest ≡ numbered_all trees i
  pub is : out ++ all_unified same_call (ways_of script) trees h ≡ whole

written : (out out' : List Node) (x : Node) (more : List Node) → out' ≡ out ++ x ∷ [] → out' ++ more ≡ out ++ x ∷ more
written out out' x more is = ap (λ xs. xs ++ more) is ∙ append_assoc out (x ∷ []) more

closed-renaming : (r : Renaming) (h : Here) → Roomy h → closed (renaming_more r h) ≡ closed h
closed-renaming r h roomy = λ i. record {
  renamings = take-append-le (top_if true h.firsts) h.renamings (r ∷ []) roomy.first i;
  above = take (top_if true h.seconds) h.above;
  firsts = rest_if true h.firsts;
  seconds = rest_if true h.seconds;
}

closed-known : (k : Known) (h : Here) → Roomy h → closed (known_more k h) ≡ closed h
closed-known k h roomy = λ i. record {
  renamings = take (top_if true h.firsts) h.renamings;
  above = take-append-le (top_if true h.seconds) h.above (k ∷ []) roomy.second i;
  firsts = rest_if true h.firsts;
  seconds = rest_if true h.seconds;
}

closed-forked : (h : Here) → closed (forked h) ≡ h
closed-forked h = λ i. record {
  renamings = take_all (length h.renamings) h.renamings (omega arith) i;
  above = take_all (length h.above) h.above (omega arith) i;
  firsts = h.firsts;
  seconds = h.seconds;
}

one_child : (rest : List Node) (below : Tree) (ts : List Tree) (i : ℕ) → rest ≡ numbered below (i + 1) ++ numbered_all ts (i + (1 + size below)) → rest ≡ numbered_all (below ∷ ts) (i + 1)
one_child rest below ts i h =
    let at : (i + (1 + size below)) ≡ (i + 1 + size below) = omega arith in
    h ∙ ap (λ n. numbered below (i + 1) ++ numbered_all ts n) at

two_children : (rest : List Node) (a b : Tree) (ts : List Tree) (i : ℕ) → rest ≡ (numbered a (i + 1) ++ numbered b (i + 1 + size a)) ++ numbered_all ts (i + (1 + (size a + size b))) → rest ≡ numbered_all (a ∷ b ∷ ts) (i + 1)
two_children rest a b ts i h =
    let at : (i + (1 + (size a + size b))) ≡ (i + 1 + size a + size b) = omega arith in
    h ∙ append_assoc (numbered a (i + 1)) (numbered b (i + 1 + size a)) _ ∙ ap (λ n. numbered a (i + 1) ++ (numbered b (i + 1 + size a) ++ numbered_all ts n)) at

-- a call
at_call : (script : TScript) (o : Option ℕ) (slot : ℕ) (call : AggUse) (below : Tree) (ts : List Tree) (out out' : List Node) (h h' : Here) → CallStepped (ways_of script) o slot call out h out' h'
    → out' ++ all_unified same_call (ways_of script) (below ∷ ts) h'
    ≡ out ++ (bare (or_known o (λ other. unified same_call (ways_of script) below (record { from = slot; to = other } ∷ reverse h.renamings) (reverse h.above))
    (Setting slot (Called call ((ways_of script).of_call call)) (unified same_call (ways_of script) below (reverse h.renamings) (record { slot = slot; call = call } ∷ reverse h.above))))
    ++ all_unified same_call (ways_of script) ts (closed h))
at_call script (Some other) slot call below ts out out' h h' s =
    let r : Renaming = record { from = slot; to = other } in
    (λ i. s.0 i ++ all_unified same_call (ways_of script) (below ∷ ts) (s.1.0 i))
    ∙ (λ i. out ++ (bare (unified same_call (ways_of script) below (reverse-append h.renamings (r ∷ []) i) (reverse h.above)) ++ all_unified same_call (ways_of script) ts (closed-renaming r h s.1.1 i)))
at_call script None slot call below ts out out' h h' s =
    let k : Known = record { slot = slot; call = call } in
    let x : Node = Agg slot call ((ways_of script).of_call call) 0 in
    (λ i. s.0 i ++ all_unified same_call (ways_of script) (below ∷ ts) (s.1.0 i))
    ∙ (λ i. (out ++ x ∷ []) ++ (bare (unified same_call (ways_of script) below (reverse h.renamings) (reverse-append h.above (k ∷ []) i)) ++ all_unified same_call (ways_of script) ts (closed-known k h s.1.1 i)))
    ∙ append_assoc out (x ∷ []) _

-- two children
at_fork : (script : TScript) (a b : Tree) (ts : List Tree) (x : Node) (out out' : List Node) (h h' : Here) → out' ≡ out ++ x ∷ [] → h' ≡ forked h
    → out' ++ all_unified same_call (ways_of script) (a ∷ b ∷ ts) h'
    ≡ out ++ ((x ∷ bare (unified same_call (ways_of script) a (reverse h.renamings) (reverse h.above)) ++ bare (unified same_call (ways_of script) b (reverse h.renamings) (reverse h.above)))
    ++ all_unified same_call (ways_of script) ts (closed h))
at_fork script a b ts x out out' h h' w s =
    let u : Tree → List Node = λ t. bare (unified same_call (ways_of script) t (reverse h.renamings) (reverse h.above)) in
    (λ i. out' ++ all_unified same_call (ways_of script) (a ∷ b ∷ ts) (s i))
    ∙ (λ i. out' ++ (u a ++ all_unified same_call (ways_of script) (b ∷ ts) (closed-forked h i)))
    ∙ written out out' x (u a ++ (u b ++ all_unified same_call (ways_of script) ts (closed h))) w
    ∙ ap (λ xs. out ++ x ∷ xs) (sym (append_assoc (u a) (u b) (all_unified same_call (ways_of script) ts (closed h))))

pub goes_on : (script : TScript) (node : Node) (rest : List Node) (i : ℕ) (out out' : List Node) (h h' : Here) (whole : List Node) → Merges script node out h out' h' → Going script (node ∷ rest) i out h whole → Going script rest (i + 1) out' h' whole
goes_on script node rest i out out' h h' whole m g = step g.trees g.are g.is
  where
    at : (x : Node) → node ≡ x → Stepped same_call (ways_of script) x out h out' h'
    at x is = subst (λ n. Stepped same_call (ways_of script) n out h out' h') is m.is

    step : (ts : List Tree) → node ∷ rest ≡ numbered_all ts i → out ++ all_unified same_call (ways_of script) ts h ≡ whole → Going script rest (i + 1) out' h' whole
    step [] e w = absurd (omega (arith, ap length e))
    step (Nothing ∷ ts) e w =
        let s = at Empty (ap head_or e) in
        record { trees = ts; are = ap tail_of e; is = ap (λ h'. out' ++ all_unified same_call (ways_of script) ts h') s.1 ∙ written out out' Empty (all_unified same_call (ways_of script) ts (closed h)) s.0 ∙ w }
    step (Setting slot (Computed value place) below ∷ ts) e w =
        let s = at (Extend slot value place (i + 1)) (ap head_or e) in
        record {
          trees = below ∷ ts;
          are = one_child rest below ts i (ap tail_of e);
          is = ap (λ h'. out' ++ all_unified same_call (ways_of script) (below ∷ ts) h') s.1
              ∙ written out out' (Extend slot (moved (reverse h.renamings) value) place 0) (all_unified same_call (ways_of script) (below ∷ ts) h) s.0 ∙ w;
        }
    step (Setting slot (Called call way) below ∷ ts) e w =
        let s = at (Agg slot call way (i + 1)) (ap head_or e) in
        record {
          trees = below ∷ ts;
          are = one_child rest below ts i (ap tail_of e);
          is = at_call script (slot_of same_call (moved_call (reverse h.renamings) call) (reverse h.above)) slot (moved_call (reverse h.renamings) call) below ts out out' h h' s ∙ w;
        }
    step (Parted cond place a b ∷ ts) e w =
        let s = at (Split cond place (i + 1) (i + 1 + size a)) (ap head_or e) in
        record {
          trees = a ∷ b ∷ ts;
          are = two_children rest a b ts i (ap tail_of e);
          is = at_fork script a b ts (Split (moved (reverse h.renamings) cond) place 0 0) out out' h h' s.0 s.1 ∙ w;
        }
    step (Acting act way ∷ ts) e w =
        let s = at (Effect act way) (ap head_or e) in
        record {
          trees = ts;
          are = ap tail_of e;
          is = ap (λ h'. out' ++ all_unified same_call (ways_of script) ts h') s.1
              ∙ written out out' (Effect (moved_act (reverse h.renamings) act) ((ways_of script).of_act (moved_act (reverse h.renamings) act))) (all_unified same_call (ways_of script) ts (closed h)) s.0 ∙ w;
        }
    step (Joined a b ∷ ts) e w =
        let s = at (Both (i + 1) (i + 1 + size a)) (ap head_or e) in
        record {
          trees = a ∷ b ∷ ts;
          are = two_children rest a b ts i (ap tail_of e);
          is = at_fork script a b ts (Both 0 0) out out' h h' s.0 s.1 ∙ w;
        }

pub goes_past : (script : TScript) (nodes : List Node) (node : Node) (i : ℕ) (out out' : List Node) (h h' : Here) (whole : List Node) → i < length nodes → node ≡ get_or nodes i node → Merges script node out h out' h'
    → Going script (drop i nodes) i out h whole → Going script (drop (i + 1) nodes) (i + 1) out' h' whole
goes_past script nodes node i out out' h h' whole lt is m g =
    let here : drop i nodes ≡ node ∷ drop (i + 1) nodes = drop_more nodes i node lt ∙ ap (λ x. x ∷ drop (i + 1) nodes) (sym is) in
    goes_on script node (drop (i + 1) nodes) i out out' h h' whole m (subst (λ xs. Going script xs i out h whole) here g)

pub goes_first : (script : TScript) (nodes out : List Node) (h : Here) (t : Tree) → out ≡ [] → h ≡ no_trail → nodes ≡ numbered t 0 → Going script nodes 0 out h (bare (unified same_call (ways_of script) t [] []))
goes_first script nodes out h t none here is = record {
  trees = t ∷ [];
  are = is ∙ sym (append-nil (numbered t 0));
  is = (λ i. none i ++ all_unified same_call (ways_of script) (t ∷ []) (here i)) ∙ append-nil (bare (unified same_call (ways_of script) t [] []));
}

some_numbered : (t : Tree) (i : ℕ) → 0 < length (numbered t i)
some_numbered Nothing i = omega arith
some_numbered (Setting slot source below) i = omega arith
some_numbered (Parted cond place taken other) i = omega arith
some_numbered (Acting act way) i = omega arith
some_numbered (Joined left right) i = omega arith

pub goes_last : (script : TScript) (nodes : List Node) (i : ℕ) (out : List Node) (h : Here) (whole : List Node) → length nodes ≤ i → Going script (drop i nodes) i out h whole → out ≡ whole
goes_last script nodes i out h whole le g = step g.trees g.are g.is
  where
    step : (ts : List Tree) → drop i nodes ≡ numbered_all ts i → out ++ all_unified same_call (ways_of script) ts h ≡ whole → out ≡ whole
    step [] e w = sym (append-nil out) ∙ w
    step (t ∷ ts) e w = absurd (omega (arith, ap length (sym (drop_all i nodes le) ∙ e), length-append (numbered t i) (numbered_all ts (i + size t)), some_numbered t i))
