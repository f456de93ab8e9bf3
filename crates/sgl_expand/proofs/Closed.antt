-- Routines that call only earlier ones are written out by all routines as by the earlier ones.
use Rattle.std.proofs.Common.{◌≡◌, ℕ, ◌+◌, ◌<◌, ◌≤◌, Bool, true, List, [], ◌∷◌, ◌++◌, map, length, slice_get, Option, Some, None, refl, ap, sym, ◌∙◌, subst, arith}
use Rattle.std.specs.Prelude.{◌&&◌, nat_lt}
use Rattle.std.proofs.lemmas.Bool.{and_parts, false≢true, lt-ltb, ltb-true}
use Rattle.std.proofs.lemmas.Option.{slice_get_past, slice_get_within}
use Rattle.sgl_typed.specs.declared.script.TAction.{TAction}
use Rattle.sgl_typed.specs.declared.script.TAgg.{TAgg}
use Rattle.sgl_typed.specs.declared.schema.Schema.{Schema}
use Rattle.sgl_typed.specs.declared.script.TRoutine.{TRoutine}
use Rattle.sgl_typed.specs.declared.script.TStmt.{TStmt, Row_of-TStmt, end_of-TStmt, more_of-TStmt}
use Rattle.sgl_typed.specs.declared.script.TStmt.TheVariants.{Let, If, If', Act, Call}
use Rattle.sgl_typed.specs.WellFormed.{Body, fit, kind_of, body_behind, statement_fits, block_fits, statements_fit, routines_fit, is_truth}
use Rattle.sgl_typed.proofs.Scope.{both_true}
use Rattle.sgl_expand.specs.declared.numbers.Numbered.{Numbered}
use Rattle.sgl_expand.specs.Steps.{body_of, params_of, IsClosed}
use Rattle.sgl_expand.specs.Written.{renumbered, lets, argument_lets, numbered_from, Writer, written_call, known_behind, written, written_block, written_all, writer_of, writers_of}
use Rattle.sgl_expand.proofs.Counted.{join-assoc, length-join, nil-behind, zero-behind}

-- ---- calls of earlier routines

-- each call is of a routine below a number
abbrev mutual
  pub calls_below : ℕ → TStmt → Bool
  calls_below n (Let slot e place) = true
  calls_below n (If' cond place shape taken shape' other) = block_calls_below n taken && block_calls_below n other
  calls_below n (Act action args place) = true
  calls_below n (Call routine args places) = nat_lt routine n

  pub block_calls_below : {m : _} → ℕ → Row_of-TStmt m → Bool
  block_calls_below n end_of-TStmt = true
  block_calls_below n (more_of-TStmt s rest) = calls_below n s && block_calls_below n rest

abbrev pub all_calls_below : ℕ → List TStmt → Bool
all_calls_below n [] = true
all_calls_below n (s ∷ rest) = calls_below n s && all_calls_below n rest

-- each routine calls only those before it; the first has this number
abbrev pub EachBelow : ℕ → List TRoutine → Type 0
EachBelow n [] = Unit {0}
EachBelow n (routine ∷ rest) = (all_calls_below n routine.body ≡ true) × EachBelow (n + 1) rest

found-below : (counts : List ℕ) (routine : ℕ) (o : Option ℕ) (kinds : List _) → slice_get counts routine ≡ o → fit o kinds ≡ true → nat_lt routine (length counts) ≡ true
found-below counts routine None kinds is h = absurd (false≢true h)
found-below counts routine (Some many) kinds is h = lt-ltb routine (length counts) (slice_get_within counts routine many is)

mutual
  fits-below : (actions counts : List ℕ) (s : TStmt) (b : Body) → statement_fits (record { actions = actions; routines = counts }) s b ≡ true → calls_below (length counts) s ≡ true
  fits-below actions counts (Let slot e place) b h = refl
  fits-below actions counts (If' cond place shape taken shape' other) b h =
      let two : (is_truth (kind_of b cond) && block_fits (record { actions = actions; routines = counts }) taken b ≡ true) × (block_fits (record { actions = actions; routines = counts }) other b ≡ true) = and_parts _ _ h in
      let one : (is_truth (kind_of b cond) ≡ true) × (block_fits (record { actions = actions; routines = counts }) taken b ≡ true) = and_parts _ _ two.0 in
      both_true _ _ (block-below actions counts taken b one.1) (block-below actions counts other b two.1)
  fits-below actions counts (Act action args place) b h = refl
  fits-below actions counts (Call routine args places) b h = found-below counts routine (slice_get counts routine) (map (kind_of b) args) refl (and_parts _ _ h).0

  block-below : {m : _} → (actions counts : List ℕ) (row : Row_of-TStmt m) (b : Body) → block_fits (record { actions = actions; routines = counts }) row b ≡ true → block_calls_below (length counts) row ≡ true
  block-below actions counts end_of-TStmt b h = refl
  block-below actions counts (more_of-TStmt s rest) b h =
      let parts : (statement_fits (record { actions = actions; routines = counts }) s b ≡ true) × (block_fits (record { actions = actions; routines = counts }) rest (body_behind s b) ≡ true) = and_parts _ _ h in
      both_true _ _ (fits-below actions counts s b parts.0) (block-below actions counts rest (body_behind s b) parts.1)

all-below : (actions counts : List ℕ) (ss : List TStmt) (b : Body) → statements_fit (record { actions = actions; routines = counts }) ss b ≡ true → all_calls_below (length counts) ss ≡ true
all-below actions counts [] b h = refl
all-below actions counts (s ∷ rest) b h =
    let parts : (statement_fits (record { actions = actions; routines = counts }) s b ≡ true) × (statements_fit (record { actions = actions; routines = counts }) rest (body_behind s b) ≡ true) = and_parts _ _ h in
    both_true _ _ (fits-below actions counts s b parts.0) (all-below actions counts rest (body_behind s b) parts.1)

-- each routine of a script calls only earlier ones
pub routines-below : (schema : Schema) (aggs : List TAgg) (actions : List TAction) (counts : List ℕ) (routines : List TRoutine) → routines_fit schema aggs actions counts routines ≡ true → EachBelow (length counts) routines
routines-below schema aggs actions counts [] h = tt
routines-below schema aggs actions counts (routine ∷ rest) h =
    let parts : (_ ≡ true) × (routines_fit schema aggs actions (counts ++ length routine.params ∷ []) rest ≡ true) = and_parts _ _ h in (
      all-below (map (λ action. action.params) actions) counts routine.body _ (and_parts _ _ parts.0).1,
      subst (λ n. EachBelow n rest) (length-join counts (length routine.params ∷ [])) (routines-below schema aggs actions (counts ++ length routine.params ∷ []) rest parts.1),
    )

-- ---- more writers

front-get : (ws more : List Writer) (k : ℕ) → k < length ws → slice_get (ws ++ more) k ≡ slice_get ws k
front-get [] more k lt = absurd (omega arith)
front-get (w ∷ ws) more ℕ.zero lt = refl
front-get (w ∷ ws) more (ℕ.suc k) lt = front-get ws more k (omega arith)

seam-get : (ws : List Writer) (w : Writer) (more : List Writer) → slice_get (ws ++ w ∷ more) (length ws) ≡ Some w
seam-get [] w more = refl
seam-get (v ∷ ws) w more = seam-get ws w more

mutual
  extended : (ws more : List Writer) (s : TStmt) → calls_below (length ws) s ≡ true → (known : List Numbered) (next : ℕ) → written (ws ++ more) s known next ≡ written ws s known next
  extended ws more (Let slot e place) h known next = refl
  extended ws more (If' cond place shape taken shape' other) h known next =
      let parts : (block_calls_below (length ws) taken ≡ true) × (block_calls_below (length ws) other ≡ true) = and_parts _ _ h in
      λ i. If (renumbered known cond) place (extended-block ws more taken parts.0 known next i)
      (extended-block ws more other parts.1 known (next + lets (extended-block ws more taken parts.0 known next i)) i) ∷ []
  extended ws more (Act action args place) h known next = refl
  extended ws more (Call routine args places) h known next =
      ap (λ o. argument_lets places next (map (renumbered known) args) ++ written_call o known next (next + length args)) (front-get ws more routine (ltb-true routine (length ws) h))

  extended-block : {m : _} → (ws more : List Writer) (row : Row_of-TStmt m) → block_calls_below (length ws) row ≡ true → (known : List Numbered) (next : ℕ) → written_block (ws ++ more) row known next ≡ written_block ws row known next
  extended-block ws more end_of-TStmt h known next = refl
  extended-block ws more (more_of-TStmt s rest) h known next =
      let parts : (calls_below (length ws) s ≡ true) × (block_calls_below (length ws) rest ≡ true) = and_parts _ _ h in
      λ i. extended ws more s parts.0 known next i ++ extended-block ws more rest parts.1 (known_behind s known next) (next + lets (extended ws more s parts.0 known next i)) i

extended-all : (ws more : List Writer) (ss : List TStmt) → all_calls_below (length ws) ss ≡ true → (known : List Numbered) (next : ℕ) → written_all (ws ++ more) ss known next ≡ written_all ws ss known next
extended-all ws more [] h known next = refl
extended-all ws more (s ∷ rest) h known next =
    let parts : (calls_below (length ws) s ≡ true) × (all_calls_below (length ws) rest ≡ true) = and_parts _ _ h in
    λ i. extended ws more s parts.0 known next i ++ extended-all ws more rest parts.1 (known_behind s known next) (next + lets (extended ws more s parts.0 known next i)) i

record Front (ws all : List Writer) : Type 0 where
  more : List Writer
  is : all ≡ ws ++ more

writers-front : (routines : List TRoutine) (ws : List Writer) → Front ws (writers_of ws routines)
writers-front [] ws = record { more = []; is = sym (nil-behind ws) }
writers-front (routine ∷ rest) ws =
    let f = writers-front rest (ws ++ writer_of ws routine ∷ []) in
    record { more = writer_of ws routine ∷ f.more; is = f.is ∙ join-assoc ws (writer_of ws routine ∷ []) f.more }

closed-from : (routines : List TRoutine) (ws : List Writer) → EachBelow (length ws) routines → (k : ℕ) (known : List Numbered) (first next : ℕ)
    → written_call (slice_get (writers_of ws routines) (length ws + k)) known first next
    ≡ written_all (writers_of ws routines) (body_of (slice_get routines k)) (known ++ numbered_from first (params_of (slice_get routines k))) next
closed-from [] ws below k known first next =
    let past : length ws ≤ length ws + k = omega arith in
    ap (λ o. written_call o known first next) (slice_get_past ws (length ws + k) past)
closed-from (routine ∷ rest) ws below ℕ.zero known first next =
    let w = writer_of ws routine in
    let f = writers-front rest (ws ++ w ∷ []) in
    let all : writers_of ws (routine ∷ rest) ≡ ws ++ (w ∷ f.more) = f.is ∙ join-assoc ws (w ∷ []) f.more in
    (λ i. written_call (slice_get (all i) (zero-behind (length ws) i)) known first next)
    ∙ ap (λ o. written_call o known first next) (seam-get ws w f.more)
    ∙ sym (extended-all ws (w ∷ f.more) routine.body below.0 (known ++ numbered_from first routine.params) next)
    ∙ (λ i. written_all (sym all i) routine.body (known ++ numbered_from first routine.params) next)
closed-from (routine ∷ rest) ws below (ℕ.suc k) known first next =
    let ws' = ws ++ writer_of ws routine ∷ [] in
    let many : length ws' ≡ length ws + 1 = length-join ws (writer_of ws routine ∷ []) in
    let at : length ws + ℕ.suc k ≡ length ws' + k = omega arith in
    ap (λ n. written_call (slice_get (writers_of ws' rest) n) known first next) at
    ∙ closed-from rest ws' (subst (λ n. EachBelow n rest) (sym many) below.1) k known first next

pub closed : (routines : List TRoutine) → EachBelow 0 routines → IsClosed routines
closed routines below = record {
  same = λ k known first next. ap (λ n. written_call (slice_get (writers_of [] routines) n) known first next) (zero k) ∙ closed-from routines [] below k known first next;
}
  where
    zero : (k : ℕ) → k ≡ 0 + k
    zero k = omega arith
