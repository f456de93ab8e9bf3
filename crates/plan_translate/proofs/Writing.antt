-- Trees that are written node by node.
use Rattle.std.proofs.Common.{◌≡◌, ℕ, ◌+◌, List, [], ◌∷◌, ◌++◌, length, drop, get_or, ◌<◌, set, refl, ap, sym, ◌∙◌, arith, append_assoc, length-append}
use Rattle.std.proofs.lemmas.List.{drop_more, drop_all, length-set}
use Rattle.plan_translate.specs.Calls.{Lifted, calls_in, lifted, lifted_calls}
use Rattle.plan_translate.proofs.Equations.{calls_of-If, tree-If}
use Rattle.sgl_values.specs.declared.place.Place.{Place}
use Rattle.sgl_typed.specs.declared.script.TExpr.{TExpr}
use Rattle.sgl_typed.specs.declared.script.TOn.{TOn}
use Rattle.std.specs.Prelude.{slice_get}
use Rattle.sgl_typed.specs.declared.script.TAction.{TAction}
use Rattle.sgl_typed.specs.declared.script.TStmt.{TStmt}
use Rattle.sgl_typed.specs.declared.script.TStmt.TheVariants.{Let, If, If', Act, Call}
use Rattle.plan_translate.specs.Emission.{call_nodes, Emits, Heads}
use Rattle.plan_translate.specs.declared.translation.Emitted.{Emitted}
use Rattle.battle_algebra.specs.declared.plan.EffectWay.TheVariants as effect_way
use Rattle.plan_translate.proofs.Emitting.{length-call_nodes}
use Rattle.plan_translate.specs.Translation.{with_calls, clauses, statement_tree, followed_by, translated, alone, before, calls_of, calls_of_all, clauses_in, lifted_calls_list, lifted_list}
use Rattle.battle_algebra.specs.Tree.{Tree, Nothing, Extended, Parted, Joined, size, numbered}
use Rattle.battle_algebra.specs.declared.plan.Node.{Node}
use Rattle.battle_algebra.specs.declared.plan.Node.TheVariants.{Empty, Both, Agg, Extend, Effect, Split}
use Rattle.battle_algebra.specs.declared.plan.Way.TheVariants.{Scan}
use Rattle.battle_algebra.proofs.Shapes.{length-numbered}

-- the nodes of calls stand before the rest
pub numbered-with_calls : (calls : List Lifted) (t : Tree) (at : ℕ) → numbered (with_calls calls t) at ≡ call_nodes calls at ++ numbered t (at + length calls)
numbered-with_calls [] t at = ap (numbered t) (omega arith)
numbered-with_calls (lifting ∷ more) t at =
    let behind : (at + 1 + length more) ≡ (at + length (lifting ∷ more)) = omega arith in
    λ i. Agg lifting.slot lifting.call Scan (at + 1) ∷ (numbered-with_calls more t (at + 1) ∙ (λ j. call_nodes more (at + 1) ++ numbered t (behind j))) i

-- what stands behind calls that were written
pub behind_calls : (old n1 : List Node) (calls : List Lifted) (t : Tree) → n1 ≡ old ++ call_nodes calls (length old) → n1 ++ numbered t (length n1) ≡ old ++ numbered (with_calls calls t) (length old)
behind_calls old n1 calls t called =
    let long : length n1 ≡ length old + length calls = ap length called ∙ length-append old (call_nodes calls (length old)) ∙ ap (λ n. length old + n) (length-call_nodes calls (length old)) in
    (λ i. called i ++ numbered t (long i)) ∙ append_assoc old (call_nodes calls (length old)) (numbered t (length old + length calls))
    ∙ ap (λ more. old ++ more) (sym (numbered-with_calls calls t (length old)))

-- a node that was kept open is written
pub set-middle : {A : Type 0} (xs : List A) (x y : A) (ys : List A) → set (xs ++ x ∷ ys) (length xs) y ≡ xs ++ y ∷ ys
set-middle [] x y ys = refl
set-middle (z ∷ xs) x y ys = ap (λ more. z ∷ more) (set-middle xs x y ys)

-- a node of two children, of which the first was written behind an open node, with the second
two_written : (m : List Node) (t u : Tree) (x : Node)
    → set ((m ++ Empty ∷ []) ++ numbered t (length m + 1)) (length m) x ++ numbered u (length m + 1 + size t)
    ≡ m ++ (x ∷ numbered t (length m + 1) ++ numbered u (length m + 1 + size t))
two_written m t u x =
    ap (λ nodes. set nodes (length m) x ++ numbered u (length m + 1 + size t)) (append_assoc m (Empty ∷ []) (numbered t (length m + 1)))
    ∙ ap (λ nodes. nodes ++ numbered u (length m + 1 + size t)) (set-middle m Empty x (numbered t (length m + 1)))
    ∙ append_assoc m (x ∷ numbered t (length m + 1)) (numbered u (length m + 1 + size t))

-- where the second child is to stand
pub behind_first : (n1 n2 n3 : List Node) (t : Tree) → n2 ≡ n1 ++ Empty ∷ [] → n3 ≡ n2 ++ numbered t (length n2) → (length n2 ≡ length n1 + 1) × (length n3 ≡ length n1 + 1 + size t)
behind_first n1 n2 n3 t opened first =
    let two : length n2 ≡ length n1 + 1 = ap length opened ∙ length-append n1 (Empty ∷ []) in
    (two, ap length first ∙ length-append n2 (numbered t (length n2)) ∙ (λ i. two i + length-numbered t (length n2) i))

-- the node was written, and now its second child
pub closed_by : (n1 n2 n3 n4 : List Node) (t u : Tree) (at : ℕ) (make : ℕ → ℕ → Node) → at ≡ length n1 → n2 ≡ n1 ++ Empty ∷ [] → n3 ≡ n2 ++ numbered t (length n2)
    → n4 ≡ set n3 at (make (at + 1) (length n3))
    → n4 ++ numbered u (length n4) ≡ n1 ++ (make (length n1 + 1) (length n1 + 1 + size t) ∷ numbered t (length n1 + 1) ++ numbered u (length n1 + 1 + size t))
closed_by n1 n2 n3 n4 t u at make own opened first closed =
    let long : (length n2 ≡ length n1 + 1) × (length n3 ≡ length n1 + 1 + size t) = behind_first n1 n2 n3 t opened first in
    let four : length n4 ≡ length n1 + 1 + size t = ap length closed ∙ length-set n3 at (make (at + 1) (length n3)) ∙ long.1 in
    (λ i. (closed ∙ (λ j. set ((first ∙ (λ k. opened k ++ numbered t (long.0 k))) j) (own j) (make (own j + 1) (long.1 j)))) i ++ numbered u (four i))
    ∙ two_written n1 t u (make (length n1 + 1) (length n1 + 1 + size t))

-- calls, and a split behind them
pub written_split : (old n1 n2 n3 n4 n5 : List Node) (calls : List Lifted) (cond : TExpr) (place : Place) (t u : Tree) (at : ℕ)
    → n1 ≡ old ++ call_nodes calls (length old) → at ≡ length n1 → n2 ≡ n1 ++ Empty ∷ [] → n3 ≡ n2 ++ numbered t (length n2)
    → n4 ≡ set n3 at (Split cond place (at + 1) (length n3)) → n5 ≡ n4 ++ numbered u (length n4)
    → n5 ≡ old ++ numbered (with_calls calls (Parted cond place t u)) (length old)
written_split old n1 n2 n3 n4 n5 calls cond place t u at called own opened first closed second =
    second ∙ closed_by n1 n2 n3 n4 t u at (Split cond place) own opened first closed ∙ behind_calls old n1 calls (Parted cond place t u) called

-- a join whose left side was written heads its right side
pub heads_join : (n1 n2 n3 n4 : List Node) (t : Tree) (at : ℕ) → at ≡ length n1 → n2 ≡ n1 ++ Empty ∷ [] → n3 ≡ n2 ++ numbered t (length n2)
    → n4 ≡ set n3 at (Both (at + 1) (length n3)) → Heads n1 n4 (Joined t)
heads_join n1 n2 n3 n4 t at own opened first closed = record { heads = λ u. closed_by n1 n2 n3 n4 t u at Both own opened first closed }

-- the calls of a value and the node that sets its slot head the rest
pub heads_let : (old mid new : Emitted) (calls : List Lifted) (slot : ℕ) (v v' : TExpr) (place : Place) (then' : ℕ)
    → Emits old mid calls → v ≡ v' → then' ≡ length mid.nodes + 1 → new.nodes ≡ mid.nodes ++ Extend slot v place then' ∷ []
    → Heads old.nodes new.nodes (λ rest. with_calls calls (Extended slot v' place rest))
heads_let old mid new calls slot v v' place then' emits same at pushed = record {
  heads = λ rest.
      let l : ℕ = length old.nodes in
      let k : length mid.nodes ≡ l + length calls =
      ap length emits.nodes ∙ length-append old.nodes _ ∙ ap (λ n. l + n) (length-call_nodes calls l) in
      let long : length new.nodes ≡ l + length calls + 1 =
      ap length pushed ∙ length-append mid.nodes (Extend slot v place then' ∷ []) ∙ ap (λ n. n + 1) k in
      let next : then' ≡ l + length calls + 1 = at ∙ ap (λ n. n + 1) k in
      (λ i. (pushed ∙ (λ j. emits.nodes j ++ Extend slot (same j) place (next j) ∷ [])) i ++ numbered rest (long i))
      ∙ append_assoc (old.nodes ++ call_nodes calls l) (Extend slot v' place (l + length calls + 1) ∷ []) (numbered rest (l + length calls + 1))
      ∙ append_assoc old.nodes (call_nodes calls l) _
      ∙ ap (λ more. old.nodes ++ more) (sym (numbered-with_calls calls (Extended slot v' place rest) l));
}

-- ---- clauses

abbrev none : TOn
none = record { tests = []; writes = [] }

abbrev effect : ℕ → ℕ → List TExpr → Place → Node
effect clause action args place = Effect (record { action = action; clause = clause; args = args; place = place }) effect_way.Scan

join_is : (now new : List Node) (x y : TOn) (more : List TOn) (i action : ℕ) (args : List TExpr) (place : Place)
    → new ≡ (now ++ Both (length now + 1) (length now + 2) ∷ []) ++ effect i action args place ∷ []
    → new ++ numbered (clauses (y ∷ more) (i + 1) action args place) (length new) ≡ now ++ numbered (clauses (x ∷ y ∷ more) i action args place) (length now)
join_is now new x y more i action args place written =
    let l : ℕ = length now in
    let rest : Tree = clauses (y ∷ more) (i + 1) action args place in
    let two : (l + 2) ≡ (l + 1 + 1) = omega arith in
    let long : length new ≡ l + 1 + 1 =
    ap length written ∙ length-append (now ++ Both (l + 1) (l + 2) ∷ []) _ ∙ ap (λ n. n + 1) (length-append now (Both (l + 1) (l + 2) ∷ [])) in
    (λ k. (written ∙ (λ j. (now ++ Both (l + 1) (two j) ∷ []) ++ effect i action args place ∷ [])) k ++ numbered rest (long k))
    ∙ append_assoc (now ++ Both (l + 1) (l + 1 + 1) ∷ []) (effect i action args place ∷ []) (numbered rest (l + 1 + 1))
    ∙ append_assoc now (Both (l + 1) (l + 1 + 1) ∷ []) (effect i action args place ∷ numbered rest (l + 1 + 1))

-- what is written at each clause but the last leaves the rest to be written
pub clauses_more : (now new whole : List Node) (ons : List TOn) (i : ℕ) (action : ℕ) (args : List TExpr) (place : Place) → i + 1 < length ons
    → now ++ numbered (clauses (drop i ons) i action args place) (length now) ≡ whole
    → new ≡ (now ++ Both (length now + 1) (length now + 2) ∷ []) ++ effect i action args place ∷ []
    → new ++ numbered (clauses (drop (i + 1) ons) (i + 1) action args place) (length new) ≡ whole
clauses_more now new whole ons i action args place lt before written =
    let behind : drop (i + 1) ons ≡ get_or ons (i + 1) none ∷ drop (i + 1 + 1) ons = drop_more ons (i + 1) none lt in
    let here : drop i ons ≡ get_or ons i none ∷ (get_or ons (i + 1) none ∷ drop (i + 1 + 1) ons) =
    drop_more ons i none (omega arith) ∙ ap (λ more. get_or ons i none ∷ more) behind in
    ap (λ more. new ++ numbered (clauses more (i + 1) action args place) (length new)) behind
    ∙ join_is now new (get_or ons i none) (get_or ons (i + 1) none) (drop (i + 1 + 1) ons) i action args place written
    ∙ ap (λ more. now ++ numbered (clauses more i action args place) (length now)) (sym here)
    ∙ before

pub clauses_last : (now new whole : List Node) (ons : List TOn) (i last : ℕ) (action : ℕ) (args : List TExpr) (place : Place) → i + 1 ≡ length ons → last ≡ i
    → now ++ numbered (clauses (drop i ons) i action args place) (length now) ≡ whole
    → new ≡ now ++ effect last action args place ∷ []
    → new ≡ whole
clauses_last now new whole ons i last action args place at own before written =
    let here : drop i ons ≡ get_or ons i none ∷ [] =
    drop_more ons i none (omega arith) ∙ ap (λ more. get_or ons i none ∷ more) (drop_all (i + 1) ons (omega arith)) in
    written ∙ ap (λ n. now ++ effect n action args place ∷ []) own ∙ ap (λ more. now ++ numbered (clauses more i action args place) (length now)) (sym here) ∙ before

pub two_more : (now new : List Node) (x y : Node) → new ≡ (now ++ x ∷ []) ++ y ∷ [] → length new ≡ length now + 2
two_more now new x y written = omega (arith, ap length written, length-append (now ++ x ∷ []) (y ∷ []), length-append now (x ∷ []))

-- ---- statements

-- with statements behind it
tree-before : (actions : List TAction) (s : TStmt) (next : ℕ) (x : TStmt) (more : List TStmt) (rest : Tree) → statement_tree actions s next (followed_by (x ∷ more)) rest ≡ before actions s next rest
tree-before actions (Let slot e place) next x more rest = refl
tree-before actions (If' cond place shape taken shape' other) next x more rest = refl
tree-before actions (Act action args place) next x more rest = refl
tree-before actions (Call routine args places) next x more rest = refl

abbrev no_statement : TStmt
no_statement = Call 0 [] []

-- what is written for each statement but the last leaves the rest to be written
pub block_more : (actions : List TAction) (now new whole : List Node) (block : List TStmt) (s : TStmt) (i next next' : ℕ) → i + 1 < length block → s ≡ get_or block i s
    → now ++ numbered (translated actions (drop i block) next) (length now) ≡ whole
    → next' ≡ next + calls_of s → Heads now new (before actions s next)
    → new ++ numbered (translated actions (drop (i + 1) block) next') (length new) ≡ whole
block_more actions now new whole block s i next next' lt is was step heads =
    let behind : drop (i + 1) block ≡ get_or block (i + 1) no_statement ∷ drop (i + 1 + 1) block = drop_more block (i + 1) no_statement lt in
    let here : drop i block ≡ s ∷ drop (i + 1) block = drop_more block i s (omega arith) ∙ ap (λ x. x ∷ drop (i + 1) block) (sym is) in
    let rest : Tree = translated actions (drop (i + 1) block) (next + calls_of s) in
    ap (λ n. new ++ numbered (translated actions (drop (i + 1) block) n) (length new)) step
    ∙ heads.heads rest
    ∙ ap (λ t. now ++ numbered t (length now))
    (sym (tree-before actions s next (get_or block (i + 1) no_statement) (drop (i + 1 + 1) block) rest)
    ∙ ap (λ b. statement_tree actions s next (followed_by b) rest) (sym behind)
    ∙ ap (λ b. translated actions b next) (sym here))
    ∙ was

pub block_last : (actions : List TAction) (now new whole : List Node) (block : List TStmt) (s : TStmt) (i last next : ℕ) → i + 1 ≡ length block → last ≡ i → s ≡ get_or block last s
    → now ++ numbered (translated actions (drop i block) next) (length now) ≡ whole
    → new ≡ now ++ numbered (alone actions s next) (length now)
    → new ≡ whole
block_last actions now new whole block s i last next end own is was written =
    let here : drop i block ≡ s ∷ [] = drop_more block i s (omega arith) ∙ (λ k. sym (is ∙ ap (λ n. get_or block n s) own) k ∷ drop_all (i + 1) block (omega arith) k) in
    written ∙ ap (λ b. now ++ numbered (translated actions b next) (length now)) (sym here) ∙ was

-- the calls that are still to be counted
pub calls_more : (block : List TStmt) (s : TStmt) (i next next' all : ℕ) → i < length block → s ≡ get_or block i s → next + calls_of_all (drop i block) ≡ all → next' ≡ next + calls_of s
    → next' + calls_of_all (drop (i + 1) block) ≡ all
calls_more block s i next next' all lt is was step =
    let here : calls_of_all (drop i block) ≡ calls_of s + calls_of_all (drop (i + 1) block) = ap calls_of_all (drop_more block i s lt ∙ ap (λ x. x ∷ drop (i + 1) block) (sym is)) in
    omega (arith, here, was, step)

pub calls_last : (block : List TStmt) (s : TStmt) (i last next next' all : ℕ) → i + 1 ≡ length block → last ≡ i → s ≡ get_or block last s → next + calls_of_all (drop i block) ≡ all → next' ≡ next + calls_of s → next' ≡ all
calls_last block s i last next next' all end own is was step =
    let here : calls_of_all (drop i block) ≡ calls_of s + 0 = ap calls_of_all (drop_more block i s (omega arith) ∙ (λ k. sym (is ∙ ap (λ n. get_or block n s) own) k ∷ drop_all (i + 1) block (omega arith) k)) in
    omega (arith, here, was, step)

-- ---- clauses of an action

pub none_written : (old new : List Node) (ons : List TOn) (action : ℕ) (args : List TExpr) (place : Place) → ons ≡ [] → new ≡ old ++ Empty ∷ [] → new ≡ old ++ numbered (clauses ons 0 action args place) (length old)
none_written old new ons action args place none written = written ∙ ap (λ os. old ++ numbered (clauses os 0 action args place) (length old)) (sym none)

pub act_written : (actions : List TAction) (action : ℕ) (place : Place) (es : List TExpr) (out mid : Emitted) (new : List Node) (args : List TExpr)
    → Emits out mid (lifted_calls_list es out.next) → args ≡ lifted_list es out.next
    → new ≡ mid.nodes ++ numbered (clauses (clauses_in (slice_get actions action)) 0 action args place) (length mid.nodes)
    → new ≡ out.nodes ++ numbered (with_calls (lifted_calls_list es out.next) (clauses (clauses_in (slice_get actions action)) 0 action (lifted_list es out.next) place)) (length out.nodes)
act_written actions action place es out mid new args emits same written =
    written ∙ ap (λ as'. mid.nodes ++ numbered (clauses (clauses_in (slice_get actions action)) 0 action as' place) (length mid.nodes)) same
    ∙ behind_calls out.nodes mid.nodes (lifted_calls_list es out.next) (clauses (clauses_in (slice_get actions action)) 0 action (lifted_list es out.next) place) emits.nodes

-- ---- an `if`

pub if_next : (s : TStmt) (cond : TExpr) (place : Place) (taken1 other1 taken2 other2 : List TStmt) (a b c d e f : ℕ) → s ≡ If cond place taken1 other1 → taken2 ≡ taken1 → other2 ≡ other1
    → b ≡ a + calls_in cond → c ≡ b → d ≡ c + calls_of_all taken2 → e ≡ d → f ≡ e + calls_of_all other2 → f ≡ a + calls_of s
if_next s cond place taken1 other1 taken2 other2 a b c d e f is same same' first begun second ended third =
    let all : calls_of s ≡ calls_in cond + (calls_of_all taken2 + calls_of_all other2) =
    ap calls_of is ∙ calls_of-If cond place taken1 other1 ∙ (λ i. calls_in cond + (calls_of_all (sym same i) + calls_of_all (sym same' i))) in
    omega (arith, all, first, begun, second, ended, third)

pub if_written : (actions : List TAction) (s : TStmt) (cond v : TExpr) (place : Place) (taken1 other1 taken2 other2 : List TStmt) (n0 n1 n2 n3 n4 n5 : List Node) (a b c d e at : ℕ)
    → s ≡ If cond place taken1 other1 → taken2 ≡ taken1 → other2 ≡ other1
    → b ≡ a + calls_in cond → c ≡ b → d ≡ c + calls_of_all taken2 → e ≡ d
    → n1 ≡ n0 ++ call_nodes (lifted_calls cond a) (length n0) → v ≡ lifted cond a → at ≡ length n1 → n2 ≡ n1 ++ Empty ∷ []
    → n3 ≡ n2 ++ numbered (translated actions taken2 c) (length n2)
    → n4 ≡ set n3 at (Split v place (at + 1) (length n3))
    → n5 ≡ n4 ++ numbered (translated actions other2 e) (length n4)
    → n5 ≡ n0 ++ numbered (alone actions s a) (length n0)
if_written actions s cond v place taken1 other1 taken2 other2 n0 n1 n2 n3 n4 n5 a b c d e at is same same' first begun second ended called lift own opened yes_written closed no_written =
    let c' : c ≡ a + calls_in cond = begun ∙ first in
    let e' : e ≡ a + calls_in cond + calls_of_all taken1 = ended ∙ second ∙ (λ i. c' i + calls_of_all (same i)) in
    written_split n0 n1 n2 n3 n4 n5 (lifted_calls cond a) v place (translated actions taken2 c) (translated actions other2 e) at called own opened yes_written closed no_written
    ∙ (λ i. n0 ++ numbered (with_calls (lifted_calls cond a) (Parted (lift i) place (translated actions (same i) (c' i)) (translated actions (same' i) (e' i)))) (length n0))
    ∙ ap (λ t. n0 ++ numbered t (length n0)) (sym (tree-If actions cond place taken1 other1 a (followed_by []) Nothing) ∙ ap (λ s. alone actions s a) (sym is))

pub joined_heads : (actions : List TAction) (s : TStmt) (n1 n2 n3 n4 : List Node) (a b at : ℕ) → at ≡ length n1 → b ≡ a → n2 ≡ n1 ++ Empty ∷ []
    → n3 ≡ n2 ++ numbered (alone actions s b) (length n2) → n4 ≡ set n3 at (Both (at + 1) (length n3)) → Heads n1 n4 (Joined (alone actions s a))
joined_heads actions s n1 n2 n3 n4 a b at own same opened first closed =
    heads_join n1 n2 n3 n4 (alone actions s a) at own opened (first ∙ ap (λ n. n2 ++ numbered (alone actions s n) (length n2)) same) closed
