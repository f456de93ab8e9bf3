-- The translation of a well-formed script sets each slot once.
use Rattle.std.proofs.Common.{◌==◌, ◌≡◌, ℕ, ◌+◌, ◌<◌, ◌≤◌, Bool, true, false, List, [], ◌∷◌, ◌++◌, refl, sym, subst, arith, ap, ◌∙◌}
use Rattle.std.specs.List.{list_all, list_any}
use Rattle.std.specs.Prelude.{◌&&◌, ◌||◌, not, slice_get}
use Rattle.std.proofs.lemmas.Bool.{and_parts, false≢true, ltb-true}
use Rattle.sgl_values.specs.declared.place.Place.{Place}
use Rattle.sgl_typed.proofs.Forms.{form_of}
use Rattle.sgl_typed.specs.Reads.{below}
use Rattle.sgl_typed.specs.WellFormed.{slots_set, slots_set_in, slots_of_all, slots_of_routines}
use Rattle.sgl_typed.specs.declared.script.TAction.{TAction}
use Rattle.sgl_typed.specs.declared.script.TExpr.{TExpr}
use Rattle.sgl_typed.specs.declared.script.TOn.{TOn}
use Rattle.sgl_typed.specs.declared.script.TScript.{TScript}
use Rattle.sgl_typed.specs.declared.script.TStmt.{TStmt, Row_of-TStmt, end_of-TStmt, more_of-TStmt}
use Rattle.sgl_typed.specs.declared.script.TStmt.TheVariants.{Let, If', Act, Call}
use Rattle.plan_translate.specs.Calls.{calls_in, lifted, lifted_calls}
use Rattle.battle_algebra.specs.Fit.{sets_once, is_apart}
use Rattle.battle_algebra.specs.Reads.{sets_only, all_but}
use Rattle.plan_translate.specs.Translation.{with_calls, clauses, clauses_in, lifted_list, lifted_calls_list, followed, calls_of, calls_of_block, calls_of_all, statement_tree, block_tree, translated}
use Rattle.battle_algebra.specs.Tree.{Tree, Nothing, Parted, Extended}
use Rattle.battle_algebra.proofs.Bools.{both_true}
use Rattle.plan_translate.proofs.Emitting.{length-lifted_calls, length-lifted_calls_list}
use Rattle.plan_translate.proofs.Fitting.{Within, counts-calls, counts-calls-list, sets-calls, once-calls, other_than, less_than}
use Rattle.battle_algebra.proofs.Slots.{all_but-swap}
use Rattle.sgl_typed.specs.SchemaForm.{differ}
use Rattle.sgl_typed.proofs.Equations.{slots-hidden}
use Rattle.sgl_typed.specs.declared.script.TStmt.TheBlock.{hidden-the_row-TStmt-0}
use Rattle.plan_translate.proofs.Equations.{block-tree, block-calls}

-- ---- lists of slots that differ

pub all_parts : (p : ℕ → Bool) (xs ys : List ℕ) → list_all p (xs ++ ys) ≡ true → (list_all p xs ≡ true) × (list_all p ys ≡ true)
all_parts p [] ys h = (refl, h)
all_parts p (x ∷ xs) ys h =
    let parts : (p x ≡ true) × (list_all p (xs ++ ys) ≡ true) = and_parts _ _ h in
    let rest : (list_all p xs ≡ true) × (list_all p ys ≡ true) = all_parts p xs ys parts.1 in
    (both_true _ _ parts.0 rest.0, rest.1)

pub all-wider : (xs : List ℕ) (p q : ℕ → Bool) → ((i : ℕ) → p i ≡ true → q i ≡ true) → list_all p xs ≡ true → list_all q xs ≡ true
all-wider [] p q law h = refl
all-wider (x ∷ xs) p q law h =
    let parts : (p x ≡ true) × (list_all p xs ≡ true) = and_parts _ _ h in
    both_true _ _ (law x parts.0) (all-wider xs p q law parts.1)

pub all-both : (xs : List ℕ) (p r q : ℕ → Bool) → ((i : ℕ) → p i ≡ true → r i ≡ true → q i ≡ true) → list_all p xs ≡ true → list_all r xs ≡ true → list_all q xs ≡ true
all-both [] p r q law h k = refl
all-both (x ∷ xs) p r q law h k =
    let parts : (p x ≡ true) × (list_all p xs ≡ true) = and_parts _ _ h in
    let others : (r x ≡ true) × (list_all r xs ≡ true) = and_parts _ _ k in
    both_true _ _ (law x parts.0 others.0) (all-both xs p r q law parts.1 others.1)

none_same : (x : ℕ) (ys : List ℕ) → not (list_any (λ m. x == m) ys) ≡ true → list_all (all_but x) ys ≡ true
none_same x [] h = refl
none_same x (y ∷ ys) h = step (x == y) (list_any (λ m. x == m) ys) h (all_but-swap y x) (none_same x ys)
  where
    step : (b c : Bool) → not (b || c) ≡ true → (not b ≡ true → all_but x y ≡ true) → (not c ≡ true → list_all (all_but x) ys ≡ true) → all_but x y && list_all (all_but x) ys ≡ true
    step true c h first second = absurd (false≢true h)
    step false c h first second = both_true _ _ (first refl) (second h)

none_parts : (x : ℕ) (xs ys : List ℕ) → not (list_any (λ m. x == m) (xs ++ ys)) ≡ true → (not (list_any (λ m. x == m) xs) ≡ true) × (not (list_any (λ m. x == m) ys) ≡ true)
none_parts x [] ys h = (refl, h)
none_parts x (y ∷ xs) ys h = step (x == y) (list_any (λ m. x == m) xs) (list_any (λ m. x == m) (xs ++ ys)) (list_any (λ m. x == m) ys) h (none_parts x xs ys)
  where
    step : (b c d e : Bool) → not (b || d) ≡ true → (not d ≡ true → (not c ≡ true) × (not e ≡ true)) → (not (b || c) ≡ true) × (not e ≡ true)
    step true c d e h rest = absurd (false≢true h)
    step false c d e h rest = rest h

-- no element of the one is among the other
abbrev pub Disjoint : List ℕ → List ℕ → Type 0
Disjoint xs ys = list_all (λ x. list_all (all_but x) ys) xs ≡ true

pub differ_parts : (xs ys : List ℕ) → differ (xs ++ ys) ≡ true → (differ xs ≡ true) × (differ ys ≡ true) × Disjoint xs ys
differ_parts [] ys h = (refl, h, refl)
differ_parts (x ∷ xs) ys h =
    let parts : (not (list_any (λ m. x == m) (xs ++ ys)) ≡ true) × (differ (xs ++ ys) ≡ true) = and_parts _ _ h in
    let rest : (differ xs ≡ true) × (differ ys ≡ true) × Disjoint xs ys = differ_parts xs ys parts.1 in
    let apart : (not (list_any (λ m. x == m) xs) ≡ true) × (not (list_any (λ m. x == m) ys) ≡ true) = none_parts x xs ys parts.0 in
    (both_true _ _ apart.0 rest.0, rest.1, both_true _ _ (none_same x ys apart.1) rest.2)

-- the lets of `main` have slots of their own, below all others
pub record OwnSlots (s : TScript) : Type 0 where
  pub once : differ (slots_of_all s.main) ≡ true
  pub small : list_all (below s.slots) (slots_of_all s.main) ≡ true

pub own_slots : (s : TScript) → OwnSlots s
own_slots s =
    let set : List ℕ = slots_of_routines s.routines in
    let parts : (differ (set ++ slots_of_all s.main) ≡ true) × (list_all (below s.slots) (set ++ slots_of_all s.main) ≡ true) = and_parts _ _ (form_of s).slots in
    record {
      once = (differ_parts set (slots_of_all s.main) parts.0).1;
      small = (all_parts (below s.slots) set (slots_of_all s.main) parts.1).1;
    }

-- ---- slots that are set

clauses-sets : (ons : List TOn) (clause action : ℕ) (args : List TExpr) (place : Place) (p : ℕ → Bool) → sets_only (clauses ons clause action args place) p ≡ true
clauses-sets [] clause action args place p = refl
clauses-sets (on ∷ []) clause action args place p = refl
clauses-sets (on ∷ next ∷ more) clause action args place p = clauses-sets (next ∷ more) (clause + 1) action args place p

clauses-once : (ons : List TOn) (clause action : ℕ) (args : List TExpr) (place : Place) → sets_once (clauses ons clause action args place) ≡ true
clauses-once [] clause action args place = refl
clauses-once (on ∷ []) clause action args place = refl
clauses-once (on ∷ next ∷ more) clause action args place = clauses-once (next ∷ more) (clause + 1) action args place

within_part : (p : ℕ → Bool) (n k m j : ℕ) → Within p n k → n ≤ m → m + j ≤ n + k → Within p m j
within_part p n k m j h le fits = λ i ge lt. h i (omega (arith, le, ge)) (omega (arith, lt, fits))

followed-sets : {m : _} (more : Row_of-TStmt m) (t u : Tree) (p : ℕ → Bool) → sets_only t p ≡ true → sets_only u p ≡ true → sets_only (followed more t u) p ≡ true
followed-sets end_of-TStmt t u p a b = a
followed-sets (more_of-TStmt s more) t u p a b = both_true _ _ a b

mutual
  sets-statement : (s : TStmt) (actions : List TAction) (next : ℕ) (behind : Tree → Tree → Tree) (rest : Tree) (p : ℕ → Bool)
      → list_all p (slots_set s) ≡ true → Within p next (calls_of s) → sets_only rest p ≡ true
      → ((t : Tree) → sets_only t p ≡ true → sets_only (behind t rest) p ≡ true) → sets_only (statement_tree actions s next behind rest) p ≡ true
  sets-statement (Let slot e place) actions next behind rest p lets calls more both =
      sets-calls (lifted_calls e next) next (Extended slot (lifted e next) place rest) p (counts-calls e next) (subst (Within p next) (sym (length-lifted_calls e next)) calls)
      (both_true _ _ (and_parts _ _ lets).0 more)
  sets-statement (If' cond place shape taken shape' other) actions next behind rest p lets calls more both =
      let l : (list_all p (slots_set_in taken) ≡ true) × (list_all p (slots_set_in other) ≡ true) = all_parts p (slots_set_in taken) (slots_set_in other) lets in
      both (with_calls (lifted_calls cond next) (Parted (lifted cond next) place (block_tree actions taken (next + calls_in cond)) (block_tree actions other (next + calls_in cond + calls_of_block taken))))
      (sets-calls (lifted_calls cond next) next _ p (counts-calls cond next)
      (subst (Within p next) (sym (length-lifted_calls cond next)) (within_part p next _ next (calls_in cond) calls (omega arith) (omega arith)))
      (both_true _ _
      (sets-block taken actions (next + calls_in cond) p l.0 (within_part p next _ (next + calls_in cond) (calls_of_block taken) calls (omega arith) (omega arith)))
      (sets-block other actions (next + calls_in cond + calls_of_block taken) p l.1 (within_part p next _ (next + calls_in cond + calls_of_block taken) (calls_of_block other) calls (omega arith) (omega arith)))))
  sets-statement (Act action args place) actions next behind rest p lets calls more both =
      both (with_calls (lifted_calls_list args next) (clauses (clauses_in (slice_get actions action)) 0 action (lifted_list args next) place))
      (sets-calls (lifted_calls_list args next) next _ p (counts-calls-list args next) (subst (Within p next) (sym (length-lifted_calls_list args next)) calls)
      (clauses-sets (clauses_in (slice_get actions action)) 0 action (lifted_list args next) place p))
  sets-statement (Call routine args places) actions next behind rest p lets calls more both = both Nothing refl

  sets-block : {m : _} (block : Row_of-TStmt m) (actions : List TAction) (next : ℕ) (p : ℕ → Bool) → list_all p (slots_set_in block) ≡ true → Within p next (calls_of_block block) → sets_only (block_tree actions block next) p ≡ true
  sets-block end_of-TStmt actions next p lets calls = refl
  sets-block (more_of-TStmt s more) actions next p lets calls =
      let l : (list_all p (slots_set s) ≡ true) × (list_all p (slots_set_in more) ≡ true) = all_parts p (slots_set s) (slots_set_in more) lets in
      let rest : sets_only (block_tree actions more (next + calls_of s)) p ≡ true =
      sets-block more actions (next + calls_of s) p l.1 (within_part p next _ (next + calls_of s) (calls_of_block more) calls (omega arith) (omega arith)) in
      sets-statement s actions next (followed more) (block_tree actions more (next + calls_of s)) p l.0 (within_part p next _ next (calls_of s) calls (omega arith) (omega arith)) rest
      (λ t a. followed-sets more t (block_tree actions more (next + calls_of s)) p a rest)

pub sets-list : (block : List TStmt) (actions : List TAction) (next : ℕ) (p : ℕ → Bool) → list_all p (slots_of_all block) ≡ true → Within p next (calls_of_all block) → sets_only (translated actions block next) p ≡ true
sets-list block actions next p lets calls =
    subst (λ t. sets_only t p ≡ true) (block-tree actions block next)
    (sets-block (hidden-the_row-TStmt-0 block) actions next p (ap (list_all p) (slots-hidden block) ∙ lets) (subst (Within p next) (sym (block-calls block)) calls))

-- ---- each slot once

-- the rest sets none of the slots of a statement
pub record RestApart (rest : Tree) (lets : List ℕ) (next calls : ℕ) : Type 0 where
  pub once : sets_once rest ≡ true
  pub no_lets : list_all (λ x. sets_only rest (all_but x)) lets ≡ true
  pub no_calls : Within (λ i. sets_only rest (all_but i)) next calls

-- lets are below the slots of calls
let_differs : (bound next i : ℕ) → bound ≤ next → next ≤ i → (x : ℕ) → below bound x ≡ true → all_but i x ≡ true
let_differs bound next i le ge x lt = let small : x < bound = ltb-true _ _ lt in less_than x i (omega (arith, le, ge, small))

call_differs : (bound next x : ℕ) → bound ≤ next → below bound x ≡ true → (i : ℕ) → next ≤ i → all_but x i ≡ true
call_differs bound next x le lt i ge = let small : x < bound = ltb-true _ _ lt in other_than i x (omega (arith, le, ge, small))

followed-once : {m : _} (more : Row_of-TStmt m) (t u : Tree) → sets_once t ≡ true → sets_once u ≡ true → is_apart t u ≡ true → sets_once (followed more t u) ≡ true
followed-once end_of-TStmt t u a b c = a
followed-once (more_of-TStmt s more) t u a b c = both_true _ _ c (both_true _ _ a b)

mutual
  once-statement : (s : TStmt) (actions : List TAction) (bound next : ℕ) (behind : Tree → Tree → Tree) (rest : Tree) → bound ≤ next → list_all (below bound) (slots_set s) ≡ true → differ (slots_set s) ≡ true
      → RestApart rest (slots_set s) next (calls_of s) → ((t : Tree) → sets_once t ≡ true → is_apart t rest ≡ true → sets_once (behind t rest) ≡ true)
      → sets_once (statement_tree actions s next behind rest) ≡ true
  once-statement (Let slot e place) actions bound next behind rest le small own apart both =
      let lt : below bound slot ≡ true = (and_parts _ _ small).0 in
      once-calls (lifted_calls e next) next (Extended slot (lifted e next) place rest) (counts-calls e next)
      (subst (Within (λ i. all_but i slot && sets_only rest (all_but i)) next) (sym (length-lifted_calls e next))
      (λ i ge lt'. both_true _ _ (let_differs bound next i le ge slot lt) (apart.no_calls i ge lt')))
      (both_true _ _ (and_parts _ _ apart.no_lets).0 apart.once)
  once-statement (If' cond place shape taken shape' other) actions bound next behind rest le small own apart both =
      let n1 : ℕ = next + calls_in cond in
      let n2 : ℕ = next + calls_in cond + calls_of_block taken in
      let t : Tree = block_tree actions taken n1 in
      let u : Tree = block_tree actions other n2 in
      let l : (list_all (below bound) (slots_set_in taken) ≡ true) × (list_all (below bound) (slots_set_in other) ≡ true) = all_parts (below bound) (slots_set_in taken) (slots_set_in other) small in
      let d : (differ (slots_set_in taken) ≡ true) × (differ (slots_set_in other) ≡ true) × Disjoint (slots_set_in taken) (slots_set_in other) = differ_parts (slots_set_in taken) (slots_set_in other) own in
      let first : sets_once t ≡ true = once-block taken actions bound n1 (omega (arith, le)) l.0 d.0 in
      let second : sets_once u ≡ true = once-block other actions bound n2 (omega (arith, le)) l.1 d.1 in
      let sides : is_apart t u ≡ true =
      sets-block taken actions n1 (λ x. sets_only u (all_but x))
      (all-both (slots_set_in taken) (λ x. list_all (all_but x) (slots_set_in other)) (below bound) (λ x. sets_only u (all_but x))
      (λ x out lt. sets-block other actions n2 (all_but x) out (λ i ge lt'. call_differs bound next x le lt i (omega (arith, ge)))) d.2 l.0)
      (λ i ge lt. sets-block other actions n2 (all_but i) (all-wider (slots_set_in other) (below bound) (all_but i) (let_differs bound next i le (omega (arith, ge))) l.1)
      (λ j ge' lt'. other_than j i (omega (arith, lt, ge')))) in
      both (with_calls (lifted_calls cond next) (Parted (lifted cond next) place t u))
      (once-calls (lifted_calls cond next) next (Parted (lifted cond next) place t u) (counts-calls cond next)
      (subst (Within (λ i. sets_only t (all_but i) && sets_only u (all_but i)) next) (sym (length-lifted_calls cond next))
      (λ i ge lt. both_true _ _
      (sets-block taken actions n1 (all_but i) (all-wider (slots_set_in taken) (below bound) (all_but i) (let_differs bound next i le ge) l.0) (λ j ge' lt'. other_than j i (omega (arith, lt, ge'))))
      (sets-block other actions n2 (all_but i) (all-wider (slots_set_in other) (below bound) (all_but i) (let_differs bound next i le ge) l.1) (λ j ge' lt'. other_than j i (omega (arith, lt, ge'))))))
      (both_true _ _ sides (both_true _ _ first second)))
      (sets-statement (If' cond place shape taken shape' other) actions next (λ v w. v) Nothing (λ x. sets_only rest (all_but x)) apart.no_lets apart.no_calls refl (λ v a. a))
  once-statement (Act action args place) actions bound next behind rest le small own apart both =
      let made : Tree = clauses (clauses_in (slice_get actions action)) 0 action (lifted_list args next) place in
      both (with_calls (lifted_calls_list args next) made)
      (once-calls (lifted_calls_list args next) next made (counts-calls-list args next)
      (λ i ge lt. clauses-sets (clauses_in (slice_get actions action)) 0 action (lifted_list args next) place (all_but i))
      (clauses-once (clauses_in (slice_get actions action)) 0 action (lifted_list args next) place))
      (sets-statement (Act action args place) actions next (λ v w. v) Nothing (λ x. sets_only rest (all_but x)) apart.no_lets apart.no_calls refl (λ v a. a))
  once-statement (Call routine args places) actions bound next behind rest le small own apart both = both Nothing refl refl

  once-block : {m : _} (block : Row_of-TStmt m) (actions : List TAction) (bound next : ℕ) → bound ≤ next → list_all (below bound) (slots_set_in block) ≡ true → differ (slots_set_in block) ≡ true → sets_once (block_tree actions block next) ≡ true
  once-block end_of-TStmt actions bound next le small own = refl
  once-block (more_of-TStmt s more) actions bound next le small own =
      let after : ℕ = next + calls_of s in
      let rest : Tree = block_tree actions more after in
      let l : (list_all (below bound) (slots_set s) ≡ true) × (list_all (below bound) (slots_set_in more) ≡ true) = all_parts (below bound) (slots_set s) (slots_set_in more) small in
      let d : (differ (slots_set s) ≡ true) × (differ (slots_set_in more) ≡ true) × Disjoint (slots_set s) (slots_set_in more) = differ_parts (slots_set s) (slots_set_in more) own in
      let once : sets_once rest ≡ true = once-block more actions bound after (omega (arith, le)) l.1 d.1 in
      once-statement s actions bound next (followed more) rest le l.0 d.0
      (record {
        once = once;
        no_lets =
            all-both (slots_set s) (λ x. list_all (all_but x) (slots_set_in more)) (below bound) (λ x. sets_only rest (all_but x))
            (λ x out lt. sets-block more actions after (all_but x) out (λ i ge lt'. call_differs bound next x le lt i (omega (arith, ge)))) d.2 l.0;
        no_calls =
            λ i ge lt. sets-block more actions after (all_but i) (all-wider (slots_set_in more) (below bound) (all_but i) (let_differs bound next i le ge) l.1)
            (λ j ge' lt'. other_than j i (omega (arith, lt, ge')));
      })
      (λ t a b. followed-once more t rest a once b)

pub once-list : (block : List TStmt) (actions : List TAction) (bound next : ℕ) → bound ≤ next → list_all (below bound) (slots_of_all block) ≡ true → differ (slots_of_all block) ≡ true → sets_once (translated actions block next) ≡ true
once-list block actions bound next le small own =
    subst (λ t. sets_once t ≡ true) (block-tree actions block next)
    (once-block (hidden-the_row-TStmt-0 block) actions bound next le (ap (list_all (below bound)) (slots-hidden block) ∙ small) (ap differ (slots-hidden block) ∙ own))
