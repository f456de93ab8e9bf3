-- The translation of every script is of the script.
use Rattle.std.proofs.Common.{Decides, ◌==◌, ◌≡◌, ℕ, ◌+◌, ◌<◌, ◌≤◌, Bool, true, false, List, [], ◌∷◌, ◌++◌, map, length, refl, ap, sym, ◌∙◌, subst, arith, Option, Some, None}
use Rattle.std.specs.List.{list_all, list_any}
use Rattle.std.specs.Prelude.{◌&&◌, ◌||◌, not, nat_lt, slice_get, if◌then◌else◌}
use Rattle.std.proofs.lemmas.Bool.{and_parts, false≢true, lt-ltb, ltb-true, ltb-false}
use Rattle.std.proofs.lemmas.Bool.Decides.{Decides-eqb}
use Rattle.std.proofs.lemmas.List.{map-append}
use Rattle.sgl_values.specs.declared.place.Place.{Place}
use Rattle.sgl_typed.proofs.Forms.{form_of, callees_of}
use Rattle.sgl_typed.specs.Reads.{below}
use Rattle.sgl_typed.specs.WellFormed.{Body, Callees, slot_kind, is_number, is_truth, fit, kind_of, is_formed, slots_with, body_behind, statement_fits, block_fits, statements_fit, slots_set, slots_set_in, slots_of_all, params_from, main_body}
use Rattle.sgl_typed.specs.declared.script.Kind.{Kind}
use Rattle.sgl_typed.specs.declared.script.Kind.TheVariants.{Numeric, Logical}
use Rattle.sgl_typed.specs.declared.script.TAction.{TAction}
use Rattle.sgl_typed.specs.declared.script.TExpr.{TExpr}
use Rattle.sgl_typed.specs.declared.script.TOn.{TOn}
use Rattle.sgl_typed.specs.declared.script.TScript.{TScript}
use Rattle.sgl_typed.specs.declared.script.TStmt.{TStmt, Row_of-TStmt, end_of-TStmt, more_of-TStmt}
use Rattle.sgl_typed.specs.declared.script.TStmt.TheVariants.{Let, If', Act, Call}
use Rattle.plan_translate.specs.Calls.{calls_in, lifted, lifted_calls}
use Rattle.battle_algebra.specs.OfScript.{one_kind, act_fits, formed, IsOf}
use Rattle.plan_translate.specs.Translation.{with_calls, clauses, clauses_in, lifted_list, lifted_calls_list, followed, calls_of, calls_of_block, calls_of_all, statement_tree, block_tree, translated}
use Rattle.battle_algebra.specs.Tree.{Tree, Nothing, Parted, Extended, each}
use Rattle.battle_algebra.proofs.Bools.{both_true}
use Rattle.sgl_typed.proofs.Scope.{truth_formed, fit_numbers}
use Rattle.plan_translate.proofs.Once.{OwnSlots, own_slots}
use Rattle.plan_translate.proofs.OfTranslation.{Knows, AreNumbers, part, among, kind-lifted, list-kinds-lifted, calls-formed, list-calls-formed}
use Rattle.sgl_typed.specs.SchemaForm.{differ}
use Rattle.sgl_typed.proofs.Equations.{fits-hidden, slots-hidden}
use Rattle.sgl_typed.specs.declared.script.TStmt.TheBlock.{hidden-the_row-TStmt-0}
use Rattle.plan_translate.proofs.Equations.{block-tree, block-calls}

-- ---- the kinds of lets

abbrev mutual
  let_kinds : Body → TStmt → List (ℕ × Kind)
  let_kinds b (Let slot e place) = slots_with slot (kind_of b e) []
  let_kinds b (If' cond place shape taken shape' other) = block_kinds b taken ++ block_kinds b other
  let_kinds b (Act action args place) = []
  let_kinds b (Call routine args places) = []

  block_kinds : {m : _} → Body → Row_of-TStmt m → List (ℕ × Kind)
  block_kinds b end_of-TStmt = []
  block_kinds b (more_of-TStmt s rest) = let_kinds b s ++ block_kinds (body_behind s b) rest

knows_parts : (all xs ys : List (ℕ × Kind)) → Knows all (xs ++ ys) → Knows all xs × Knows all ys
knows_parts all [] ys h = (tt, h)
knows_parts all (x ∷ xs) ys h = let rest : Knows all xs × Knows all ys = knows_parts all xs ys h.1 in ((h.0, rest.0), rest.1)

let_kind : (all : List (ℕ × Kind)) (slot : ℕ) (k : Option Kind) → is_formed k ≡ true → Knows all (slots_with slot k []) → one_kind k (slot_kind slot all) ≡ true
let_kind all slot None h knows = absurd (false≢true h)
let_kind all slot (Some Numeric) h knows = ap (one_kind (Some Numeric)) knows.0
let_kind all slot (Some Logical) h knows = ap (one_kind (Some Logical)) knows.0

knows_with : (all slots : List (ℕ × Kind)) (slot : ℕ) (k : Option Kind) → Knows all (slots_with slot k []) → Knows all slots → Knows all (slots_with slot k slots)
knows_with all slots slot None own knows = knows
knows_with all slots slot (Some kind) own knows = (own.0, knows)

knows_behind : (all : List (ℕ × Kind)) (s : TStmt) (b : Body) → Knows all b.slots → Knows all (let_kinds b s) → Knows all (body_behind s b).slots
knows_behind all (Let slot e place) b knows own = knows_with all b.slots slot (kind_of b e) own knows
knows_behind all (If' cond place shape taken shape' other) b knows own = knows
knows_behind all (Act action args place) b knows own = knows
knows_behind all (Call routine args places) b knows own = knows

among_behind : (s : TStmt) (b : Body) (all : List (ℕ × Kind)) → among (body_behind s b) all ≡ among b all
among_behind (Let slot e place) b all = refl
among_behind (If' cond place shape taken shape' other) b all = refl
among_behind (Act action args place) b all = refl
among_behind (Call routine args places) b all = refl

-- ---- clauses

abbrev params_at : Option TAction → Option ℕ
params_at None = None
params_at (Some action) = Some action.params

params_are : (actions : List TAction) (i : ℕ) → slice_get (map (λ action. action.params) actions) i ≡ params_at (slice_get actions i)
params_are [] i = refl
params_are (a ∷ actions) ℕ.zero = refl
params_are (a ∷ actions) (ℕ.suc i) = params_are actions i

clauses-formed : (actions : List TAction) (b : Body) (found : TAction) (ons : List TOn) (clause action : ℕ) (args : List TExpr) (place : Place)
    → slice_get actions action ≡ Some found → clause + length ons ≡ length found.ons → fit (Some found.params) (map (kind_of b) args) ≡ true → each (formed actions b) (clauses ons clause action args place) ≡ true
clauses-formed actions b found [] clause action args place is count h = refl
clauses-formed actions b found (on ∷ []) clause action args place is count h =
    ap (λ o. act_fits o clause (map (kind_of b) args)) is ∙ both_true _ _ (lt-ltb clause (length found.ons) (omega (arith, count))) h
clauses-formed actions b found (on ∷ next ∷ more) clause action args place is count h =
    both_true _ _ (ap (λ o. act_fits o clause (map (kind_of b) args)) is ∙ both_true _ _ (lt-ltb clause (length found.ons) (omega (arith, count))) h)
    (clauses-formed actions b found (next ∷ more) (clause + 1) action args place is (omega (arith, count)) h)

action-formed : (actions : List TAction) (b : Body) (o : Option TAction) (action : ℕ) (args : List TExpr) (place : Place) → slice_get actions action ≡ o → fit (params_at o) (map (kind_of b) args) ≡ true
    → each (formed actions b) (clauses (clauses_in o) 0 action args place) ≡ true
action-formed actions b None action args place is h = refl
action-formed actions b (Some found) action args place is h = clauses-formed actions b found found.ons 0 action args place is (omega arith) h

-- ---- statements

followed-formed : {m : _} (more : Row_of-TStmt m) (actions : List TAction) (b : Body) (t u : Tree) → each (formed actions b) t ≡ true → each (formed actions b) u ≡ true → each (formed actions b) (followed more t u) ≡ true
followed-formed end_of-TStmt actions b t u p q = p
followed-formed (more_of-TStmt s more) actions b t u p q = both_true _ _ p q

mutual
  statement-formed : (s : TStmt) (actions : List TAction) (callees : Callees) (b : Body) (all : List (ℕ × Kind)) (next : ℕ) (behind : Tree → Tree → Tree) (rest : Tree)
      → callees.actions ≡ map (λ action. action.params) actions → Knows all b.slots → Knows all (let_kinds b s) → AreNumbers all next (calls_of s) → statement_fits callees s b ≡ true
      → each (formed actions (among b all)) rest ≡ true → ((t : Tree) → each (formed actions (among b all)) t ≡ true → each (formed actions (among b all)) (behind t rest) ≡ true)
      → each (formed actions (among b all)) (statement_tree actions s next behind rest) ≡ true
  statement-formed (Let slot e place) actions callees b all next behind rest same knows own numbers h more both =
      calls-formed e actions b all next (Extended slot (lifted e next) place rest) knows numbers h
      (both_true _ _ (ap (λ k. one_kind k (slot_kind slot all)) (kind-lifted e b all next knows numbers h) ∙ let_kind all slot (kind_of b e) h own) more)
  statement-formed (If' cond place shape taken shape' other) actions callees b all next behind rest same knows own numbers h more both =
      let parts : (is_truth (kind_of b cond) && block_fits callees taken b ≡ true) × (block_fits callees other b ≡ true) = and_parts _ _ h in
      let parts' : (is_truth (kind_of b cond) ≡ true) × (block_fits callees taken b ≡ true) = and_parts _ _ parts.0 in
      let is : is_formed (kind_of b cond) ≡ true = truth_formed (kind_of b cond) parts'.0 in
      let owns : Knows all (block_kinds b taken) × Knows all (block_kinds b other) = knows_parts all (block_kinds b taken) (block_kinds b other) own in
      let first : AreNumbers all next (calls_in cond) = part all next (calls_in cond + (calls_of_block taken + calls_of_block other)) next (calls_in cond) numbers (omega arith) (omega arith) in
      both (with_calls (lifted_calls cond next) (Parted (lifted cond next) place (block_tree actions taken (next + calls_in cond)) (block_tree actions other (next + calls_in cond + calls_of_block taken))))
      (calls-formed cond actions b all next _ knows first is
      (both_true _ _ (ap is_truth (kind-lifted cond b all next knows first is) ∙ parts'.0)
      (both_true _ _
      (block-formed taken actions callees b all (next + calls_in cond) same knows owns.0
      (part all next (calls_in cond + (calls_of_block taken + calls_of_block other)) (next + calls_in cond) (calls_of_block taken) numbers (omega arith) (omega arith)) parts'.1)
      (block-formed other actions callees b all (next + calls_in cond + calls_of_block taken) same knows owns.1
      (part all next (calls_in cond + (calls_of_block taken + calls_of_block other)) (next + calls_in cond + calls_of_block taken) (calls_of_block other) numbers (omega arith) (omega arith)) parts.1))))
  statement-formed (Act action args place) actions callees b all next behind rest same knows own numbers h more both =
      let all_numbers : list_all is_number (map (kind_of b) args) ≡ true = fit_numbers (slice_get callees.actions action) (map (kind_of b) args) h in
      both (with_calls (lifted_calls_list args next) (clauses (clauses_in (slice_get actions action)) 0 action (lifted_list args next) place))
      (list-calls-formed args actions b all next _ knows numbers all_numbers
      (action-formed actions (among b all) (slice_get actions action) action (lifted_list args next) place refl
      (ap (fit (params_at (slice_get actions action))) (list-kinds-lifted args b all next knows numbers all_numbers)
      ∙ ap (λ o. fit o (map (kind_of b) args)) (sym (params_are actions action) ∙ ap (λ ps. slice_get ps action) (sym same)) ∙ h)))
  statement-formed (Call routine args places) actions callees b all next behind rest same knows own numbers h more both = both Nothing refl

  block-formed : {m : _} (block : Row_of-TStmt m) (actions : List TAction) (callees : Callees) (b : Body) (all : List (ℕ × Kind)) (next : ℕ)
      → callees.actions ≡ map (λ action. action.params) actions → Knows all b.slots → Knows all (block_kinds b block) → AreNumbers all next (calls_of_block block) → block_fits callees block b ≡ true
      → each (formed actions (among b all)) (block_tree actions block next) ≡ true
  block-formed end_of-TStmt actions callees b all next same knows own numbers h = refl
  block-formed (more_of-TStmt s more) actions callees b all next same knows own numbers h =
      let parts : (statement_fits callees s b ≡ true) × (block_fits callees more (body_behind s b) ≡ true) = and_parts _ _ h in
      let owns : Knows all (let_kinds b s) × Knows all (block_kinds (body_behind s b) more) = knows_parts all (let_kinds b s) (block_kinds (body_behind s b) more) own in
      let rest : each (formed actions (among b all)) (block_tree actions more (next + calls_of s)) ≡ true =
      subst (λ body. each (formed actions body) (block_tree actions more (next + calls_of s)) ≡ true) (among_behind s b all)
      (block-formed more actions callees (body_behind s b) all (next + calls_of s) same (knows_behind all s b knows owns.0) owns.1
      (part all next (calls_of s + calls_of_block more) (next + calls_of s) (calls_of_block more) numbers (omega arith) (omega arith)) parts.1) in
      statement-formed s actions callees b all next (followed more) (block_tree actions more (next + calls_of s)) same knows owns.0
      (part all next (calls_of s + calls_of_block more) next (calls_of s) numbers (omega arith) (omega arith)) parts.0 rest
      (λ t p. followed-formed more actions (among b all) t (block_tree actions more (next + calls_of s)) p rest)

list-formed : (block : List TStmt) (actions : List TAction) (callees : Callees) (b : Body) (all : List (ℕ × Kind)) (next : ℕ)
    → callees.actions ≡ map (λ action. action.params) actions → Knows all b.slots → Knows all (block_kinds b (hidden-the_row-TStmt-0 block)) → AreNumbers all next (calls_of_all block) → statements_fit callees block b ≡ true
    → each (formed actions (among b all)) (translated actions block next) ≡ true
list-formed block actions callees b all next same knows own numbers h =
    subst (λ t. each (formed actions (among b all)) t ≡ true) (block-tree actions block next)
    (block-formed (hidden-the_row-TStmt-0 block) actions callees b all next same knows own (subst (AreNumbers all next) (sym (block-calls block)) numbers) (fits-hidden callees block b ∙ h))

-- ---- the kinds of all slots

let_firsts : (slot : ℕ) (k : Option Kind) → is_formed k ≡ true → map (λ s. s.0) (slots_with slot k []) ≡ slot ∷ []
let_firsts slot None h = absurd (false≢true h)
let_firsts slot (Some kind) h = refl

mutual
  statement-firsts : (s : TStmt) (callees : Callees) (b : Body) → statement_fits callees s b ≡ true → map (λ s. s.0) (let_kinds b s) ≡ slots_set s
  statement-firsts (Let slot e place) callees b h = let_firsts slot (kind_of b e) h
  statement-firsts (If' cond place shape taken shape' other) callees b h =
      let parts : (is_truth (kind_of b cond) && block_fits callees taken b ≡ true) × (block_fits callees other b ≡ true) = and_parts _ _ h in
      map-append (λ s. s.0) (block_kinds b taken) (block_kinds b other)
      ∙ (λ i. block-firsts taken callees b (and_parts _ _ parts.0).1 i ++ block-firsts other callees b parts.1 i)
  statement-firsts (Act action args place) callees b h = refl
  statement-firsts (Call routine args places) callees b h = refl

  block-firsts : {m : _} (block : Row_of-TStmt m) (callees : Callees) (b : Body) → block_fits callees block b ≡ true → map (λ s. s.0) (block_kinds b block) ≡ slots_set_in block
  block-firsts end_of-TStmt callees b h = refl
  block-firsts (more_of-TStmt s more) callees b h =
      let parts : (statement_fits callees s b ≡ true) × (block_fits callees more (body_behind s b) ≡ true) = and_parts _ _ h in
      map-append (λ s. s.0) (let_kinds b s) (block_kinds (body_behind s b) more)
      ∙ (λ i. statement-firsts s callees b parts.0 i ++ block-firsts more callees (body_behind s b) parts.1 i)

list-firsts : (block : List TStmt) (callees : Callees) (b : Body) → statements_fit callees block b ≡ true → map (λ s. s.0) (block_kinds b (hidden-the_row-TStmt-0 block)) ≡ slots_of_all block
list-firsts block callees b h = block-firsts (hidden-the_row-TStmt-0 block) callees b (fits-hidden callees block b ∙ h) ∙ slots-hidden block

-- another slot before them
knows_behind_one : (x : ℕ × Kind) (all slots : List (ℕ × Kind)) → not (list_any (λ m. x.0 == m) (map (λ s. s.0) slots)) ≡ true → Knows all slots → Knows (x ∷ all) slots
knows_behind_one x all [] h knows = tt
knows_behind_one x all (slot ∷ more) h knows =
    let parts : (not (x.0 == slot.0) ≡ true) × (not (list_any (λ m. x.0 == m) (map (λ s. s.0) more)) ≡ true) = or_parts (x.0 == slot.0) (list_any (λ m. x.0 == m) (map (λ s. s.0) more)) h in
    (step (slot.0 == x.0) (Decides-eqb slot.0 x.0) parts.0 ∙ knows.0, knows_behind_one x all more parts.1 knows.1)
  where
    or_parts : (b c : Bool) → not (b || c) ≡ true → (not b ≡ true) × (not c ≡ true)
    or_parts true c h = absurd (false≢true h)
    or_parts false c h = (refl, h)

    step : (b : Bool) → Decides b (slot.0 ≡ x.0) → not (x.0 == slot.0) ≡ true → (if b then Some x.1 else slot_kind slot.0 all) ≡ slot_kind slot.0 all
    step true d apart = absurd (false≢true (ap not (sym ((Decides-eqb x.0 slot.0).1 (sym (d.0 refl)))) ∙ apart))
    step false d apart = refl

knows_self : (slots more : List (ℕ × Kind)) → differ (map (λ s. s.0) slots) ≡ true → Knows (slots ++ more) slots
knows_self [] more h = tt
knows_self (slot ∷ slots) more h =
    let parts : (not (list_any (λ m. slot.0 == m) (map (λ s. s.0) slots)) ≡ true) × (differ (map (λ s. s.0) slots) ≡ true) = and_parts _ _ h in
    (ap (λ b. if b then Some slot.1 else slot_kind slot.0 (slots ++ more)) ((Decides-eqb slot.0 slot.0).1 refl), knows_behind_one slot (slots ++ more) slots parts.0 (knows_self slots more parts.1))

past_lets : (slots more : List (ℕ × Kind)) (bound i : ℕ) → list_all (below bound) (map (λ s. s.0) slots) ≡ true → bound ≤ i → slot_kind i (slots ++ more) ≡ slot_kind i more
past_lets [] more bound i h le = refl
past_lets (slot ∷ slots) more bound i h le =
    let parts : (below bound slot.0 ≡ true) × (list_all (below bound) (map (λ s. s.0) slots) ≡ true) = and_parts _ _ h in
    let lt : slot.0 < bound = ltb-true _ _ parts.0 in
    step (i == slot.0) (Decides-eqb i slot.0) lt ∙ past_lets slots more bound i parts.1 le
  where
    step : (b : Bool) → Decides b (i ≡ slot.0) → slot.0 < bound → (if b then Some slot.1 else slot_kind i (slots ++ more)) ≡ slot_kind i (slots ++ more)
    step true d lt = let same : i ≡ slot.0 = d.0 refl in absurd (omega (arith, same, lt, le))
    step false d lt = refl

more : (i n : ℕ) → n ≤ i → (i ≡ n → ⊥) → n + 1 ≤ i
more i n le apart = step (nat_lt n i) refl
  where
    step : (x : Bool) → nat_lt n i ≡ x → n + 1 ≤ i
    step true is = let lt : n < i = ltb-true _ _ is in omega (arith, lt)
    step false is = let ge : i ≤ n = ltb-false _ _ is in absurd (apart (omega (arith, le, ge)))

numbers_from : (n k i : ℕ) → n ≤ i → i < n + k → slot_kind i (params_from n k) ≡ Some Numeric
numbers_from n ℕ.zero i le lt = absurd (omega (arith, le, lt))
numbers_from n (ℕ.suc k) i le lt = step (i == n) (Decides-eqb i n) (λ later. numbers_from (n + 1) k i later (omega (arith, lt)))
  where
    step : (b : Bool) → Decides b (i ≡ n) → (n + 1 ≤ i → slot_kind i (params_from (n + 1) k) ≡ Some Numeric) → (if b then Some Numeric else slot_kind i (params_from (n + 1) k)) ≡ Some Numeric
    step true d later = refl
    step false d later = later (more i n le (λ e. false≢true (d.1 e)))

pub translated-of : (s : TScript) → IsOf s (translated s.actions s.main s.slots)
translated-of s =
    let b : Body = main_body s.schema s.aggs [] in
    let lets : List (ℕ × Kind) = block_kinds b (hidden-the_row-TStmt-0 s.main) in
    let calls : List (ℕ × Kind) = params_from s.slots (calls_of_all s.main) in
    let own : OwnSlots s = own_slots s in
    let same : map (λ s. s.0) lets ≡ slots_of_all s.main = list-firsts s.main (callees_of s) b (form_of s).main in
    record {
      kinds = lets ++ calls;
      fits =
          list-formed s.main s.actions (callees_of s) b (lets ++ calls) s.slots refl tt
          (knows_self lets calls (ap differ same ∙ own.once))
          (λ i ge lt. past_lets lets calls s.slots i (ap (list_all (below s.slots)) same ∙ own.small) ge ∙ numbers_from s.slots (calls_of_all s.main) i ge lt)
          (form_of s).main;
    }
