-- Pruned routines write the same.
use Rattle.std.proofs.Common.{◌≡◌, ℕ, ◌+◌, ◌<◌, Bool, true, List, [], ◌∷◌, ◌++◌, map, length, slice_get, unwrap_or, Option, Some, None, refl, ap, sym, ◌∙◌, subst, arith}
use Rattle.std.specs.Prelude.{◌&&◌}
use Rattle.std.proofs.lemmas.Bool.{and_parts, lt-ltb, ltb-true}
use Rattle.sgl_values.specs.declared.place.Place.{Place}
use Rattle.sgl_typed.specs.declared.script.TExpr.{TExpr}
use Rattle.sgl_typed.specs.declared.script.TRoutine.{TRoutine}
use Rattle.sgl_typed.specs.declared.script.TStmt.{TStmt, Row_of-TStmt, end_of-TStmt, more_of-TStmt}
use Rattle.sgl_typed.specs.declared.script.TStmt.TheVariants.{Let, If, If', Act, Call}
use Rattle.sgl_typed.specs.declared.script.TStmt.TheBlock.{shape-the_row-TStmt-0, hidden-the_row-TStmt-0}
use Rattle.sgl_typed.proofs.Scope.{both_true}
use denote.Hole.Carrier.{hidden}
use Rattle.sgl_expand.specs.declared.numbers.Numbered.{Numbered}
use Rattle.sgl_expand.specs.Pruned.{before, only_call, short_call, pruned_call, pruned, pruned_block, pruned_all, pruned_routines}
use Rattle.sgl_expand.specs.Steps.{body_of, params_of, IsClosed}
use Rattle.sgl_expand.specs.Written.{renumbered, lets, argument_lets, numbered_from, Writer, written_call, known_behind, written, written_block, written_all, writer_of, writers_of, written_main}
use Rattle.sgl_expand.proofs.Closed.{calls_below, block_calls_below, all_calls_below, EachBelow, closed}
use Rattle.sgl_expand.proofs.Counted.{length-join, nil-behind, zero-behind}
use Rattle.sgl_expand.proofs.Equations.{written-If, known-If}

-- ---- calls of earlier routines

abbrev option_below : ℕ → Option TStmt → Bool
option_below n None = true
option_below n (Some s) = calls_below n s

only-below : (n routine : ℕ) (body : List TStmt) → all_calls_below routine body ≡ true → routine < n → unwrap_or (only_call body) routine < n
only-below n routine (Call inner [] places ∷ []) h lt = let less : inner < routine = ltb-true inner routine (and_parts _ _ h).0 in omega arith
only-below n routine body h lt = lt

short-below : (n routine : ℕ) (params : List ℕ) (body : List TStmt) → all_calls_below routine body ≡ true → routine < n → option_below n (short_call routine params body) ≡ true
short-below n routine params [] h lt = refl
short-below n routine [] (s ∷ rest) h lt = lt-ltb (unwrap_or (only_call (s ∷ rest)) routine) n (only-below n routine (s ∷ rest) h lt)
short-below n routine (param ∷ params) (s ∷ rest) h lt = lt-ltb routine n lt

below-at : (m : ℕ) (done : List TRoutine) → EachBelow m done → (k : ℕ) → all_calls_below (m + k) (body_of (slice_get done k)) ≡ true
below-at m [] h k = refl
below-at m (routine ∷ rest) h ℕ.zero = subst (λ n. all_calls_below n routine.body ≡ true) (sym (zero-behind m)) h.0
below-at m (routine ∷ rest) h (ℕ.suc k) =
    let at : (m + 1) + k ≡ m + ℕ.suc k = omega arith in
    subst (λ n. all_calls_below n (body_of (slice_get rest k)) ≡ true) at (below-at (m + 1) rest h.1 k)

call-below : (n routine : ℕ) (o : Option TRoutine) → all_calls_below routine (body_of o) ≡ true → routine < n → option_below n (pruned_call routine o) ≡ true
call-below n routine None h lt = lt-ltb routine n lt
call-below n routine (Some r) h lt = short-below n routine r.params r.body h lt

zero-front : (k : ℕ) → 0 + k ≡ k
zero-front k = omega arith

block-hidden : (n : ℕ) (ss : List TStmt) → block_calls_below n (hidden-the_row-TStmt-0 ss) ≡ all_calls_below n ss
unfolding shape-the_row-TStmt-0 hidden-the_row-TStmt-0 hidden
block-hidden n [] = refl
block-hidden n (s ∷ ss) = ap (λ rest. calls_below n s && rest) (block-hidden n ss)

below-If : (n : ℕ) (cond : TExpr) (place : Place) (taken other : List TStmt) → calls_below n (If cond place taken other) ≡ (all_calls_below n taken && all_calls_below n other)
unfolding shape-the_row-TStmt-0 hidden-the_row-TStmt-0 hidden
below-If n cond place taken other = λ i. block-hidden n taken i && block-hidden n other i

before-below : (n : ℕ) (o : Option TStmt) (rest : List TStmt) → option_below n o ≡ true → all_calls_below n rest ≡ true → all_calls_below n (before o rest) ≡ true
before-below n None rest h more = more
before-below n (Some s) rest h more = both_true _ _ h more

mutual
  pruned-below : (n : ℕ) (done : List TRoutine) → EachBelow 0 done → (s : TStmt) → calls_below n s ≡ true → option_below n (pruned done s) ≡ true
  pruned-below n done each (Let slot e place) h = refl
  pruned-below n done each (If' cond place shape taken shape' other) h =
      let parts : (block_calls_below n taken ≡ true) × (block_calls_below n other ≡ true) = and_parts _ _ h in
      below-If n cond place (pruned_block done taken) (pruned_block done other)
      ∙ (λ i. block-pruned-below n done each taken parts.0 i && block-pruned-below n done each other parts.1 i)
  pruned-below n done each (Act action args place) h = refl
  pruned-below n done each (Call routine [] places) h =
      call-below n routine (slice_get done routine) (subst (λ k. all_calls_below k (body_of (slice_get done routine)) ≡ true) (zero-front routine) (below-at 0 done each routine)) (ltb-true routine n h)
  pruned-below n done each (Call routine (e ∷ args) places) h = h

  block-pruned-below : {m : _} → (n : ℕ) (done : List TRoutine) → EachBelow 0 done → (row : Row_of-TStmt m) → block_calls_below n row ≡ true → all_calls_below n (pruned_block done row) ≡ true
  block-pruned-below n done each end_of-TStmt h = refl
  block-pruned-below n done each (more_of-TStmt s rest) h =
      let parts : (calls_below n s ≡ true) × (block_calls_below n rest ≡ true) = and_parts _ _ h in
      before-below n (pruned done s) (pruned_block done rest) (pruned-below n done each s parts.0) (block-pruned-below n done each rest parts.1)

all-pruned-below : (n : ℕ) (done : List TRoutine) → EachBelow 0 done → (ss : List TStmt) → all_calls_below n ss ≡ true → all_calls_below n (pruned_all done ss) ≡ true
all-pruned-below n done each [] h = refl
all-pruned-below n done each (s ∷ rest) h =
    let parts : (calls_below n s ≡ true) × (all_calls_below n rest ≡ true) = and_parts _ _ h in
    before-below n (pruned done s) (pruned_all done rest) (pruned-below n done each s parts.0) (all-pruned-below n done each rest parts.1)

-- ---- what is written

abbrev option_written : List Writer → Option TStmt → List Numbered → ℕ → List TStmt
option_written ws None known next = []
option_written ws (Some s) known next = written ws s known next

abbrev option_known : Option TStmt → List Numbered → ℕ → List Numbered
option_known None known next = known
option_known (Some s) known next = known_behind s known next

before-writes : (ws : List Writer) (o : Option TStmt) (rest : List TStmt) (known : List Numbered) (next : ℕ)
    → written_all ws (before o rest) known next ≡ option_written ws o known next ++ written_all ws rest (option_known o known next) (next + lets (option_written ws o known next))
before-writes ws None rest known next = ap (written_all ws rest known) (sym (zero-behind next))
before-writes ws (Some s) rest known next = refl

-- a body without parameters that only calls another routine writes what that call writes
only-writes : (ws : List Writer) (routine : ℕ) (body : List TStmt) (known : List Numbered) (next : ℕ)
    → written_call (slice_get ws routine) known next (next + 0) ≡ written_all ws body (known ++ []) (next + 0)
    → written_call (slice_get ws (unwrap_or (only_call body) routine)) known next (next + 0) ≡ written_call (slice_get ws routine) known next (next + 0)
only-writes ws routine (Call inner [] places ∷ []) known next e =
    (λ i. written_call (slice_get ws inner) (sym (nil-behind known) i) (sym (zero-behind next) i) (sym (zero-behind next) i + 0))
    ∙ sym (nil-behind (written_call (slice_get ws inner) (known ++ []) (next + 0) ((next + 0) + 0)))
    ∙ sym e
only-writes ws routine body known next e = refl

short-writes : (ws : List Writer) (routine : ℕ) (params : List ℕ) (body : List TStmt) (known : List Numbered) (next : ℕ)
    → written_call (slice_get ws routine) known next (next + 0) ≡ written_all ws body (known ++ numbered_from next params) (next + 0)
    → option_written ws (short_call routine params body) known next ≡ written_call (slice_get ws routine) known next (next + 0)
short-writes ws routine params [] known next e = sym e
short-writes ws routine [] (s ∷ rest) known next e = only-writes ws routine (s ∷ rest) known next e
short-writes ws routine (param ∷ params) (s ∷ rest) known next e = refl

call-writes : (ws : List Writer) (routine : ℕ) (o : Option TRoutine) (known : List Numbered) (next : ℕ)
    → written_call (slice_get ws routine) known next (next + 0) ≡ written_all ws (body_of o) (known ++ numbered_from next (params_of o)) (next + 0)
    → option_written ws (pruned_call routine o) known next ≡ written_call (slice_get ws routine) known next (next + 0)
call-writes ws routine None known next e = refl
call-writes ws routine (Some r) known next e = short-writes ws routine r.params r.body known next e

short-known : (routine : ℕ) (params : List ℕ) (body : List TStmt) (known : List Numbered) (next : ℕ) → option_known (short_call routine params body) known next ≡ known
short-known routine params [] known next = refl
short-known routine [] (s ∷ rest) known next = refl
short-known routine (param ∷ params) (s ∷ rest) known next = refl

call-known : (routine : ℕ) (o : Option TRoutine) (known : List Numbered) (next : ℕ) → option_known (pruned_call routine o) known next ≡ known
call-known routine None known next = refl
call-known routine (Some r) known next = short-known routine r.params r.body known next

pruned-known : (done : List TRoutine) (s : TStmt) (known : List Numbered) (next : ℕ) → option_known (pruned done s) known next ≡ known_behind s known next
pruned-known done (Let slot e place) known next = refl
pruned-known done (If' cond place shape taken shape' other) known next = known-If cond place (pruned_block done taken) (pruned_block done other) known next
pruned-known done (Act action args place) known next = refl
pruned-known done (Call routine [] places) known next = call-known routine (slice_get done routine) known next
pruned-known done (Call routine (e ∷ args) places) known next = refl

-- each of these writes the same as the other
abbrev pub AllSame : List Writer → List Writer → Type 0
AllSame [] [] = Unit {0}
AllSame [] (w ∷ ws) = ⊥
AllSame (v ∷ vs) [] = ⊥
AllSame (v ∷ vs) (w ∷ ws) = ((known : List Numbered) (first next : ℕ) → v known first next ≡ w known first next) × AllSame vs ws

same-get : (vs ws : List Writer) → AllSame vs ws → (k : ℕ) (known : List Numbered) (first next : ℕ) → written_call (slice_get vs k) known first next ≡ written_call (slice_get ws k) known first next
same-get [] [] all k known first next = refl
same-get [] (w ∷ ws) all k known first next = absurd all
same-get (v ∷ vs) [] all k known first next = absurd all
same-get (v ∷ vs) (w ∷ ws) all ℕ.zero known first next = all.0 known first next
same-get (v ∷ vs) (w ∷ ws) all (ℕ.suc k) known first next = same-get vs ws all.1 k known first next

same-more : (vs ws : List Writer) (v w : Writer) → AllSame vs ws → ((known : List Numbered) (first next : ℕ) → v known first next ≡ w known first next) → AllSame (vs ++ v ∷ []) (ws ++ w ∷ [])
same-more [] [] v w all one = (one, tt)
same-more [] (x ∷ ws) v w all one = absurd all
same-more (x ∷ vs) [] v w all one = absurd all
same-more (x ∷ vs) (y ∷ ws) v w all one = (all.0, same-more vs ws v w all.1 one)

mutual
  statement-writes : (done : List TRoutine) → IsClosed done → (ws : List Writer) → AllSame (writers_of [] done) ws → (s : TStmt) (known : List Numbered) (next : ℕ)
      → option_written (writers_of [] done) (pruned done s) known next ≡ written ws s known next
  statement-writes done c ws all (Let slot e place) known next = refl
  statement-writes done c ws all (If' cond place shape taken shape' other) known next =
      written-If (writers_of [] done) cond place (pruned_block done taken) (pruned_block done other) known next
      ∙ (λ i. If (renumbered known cond) place (block-writes done c ws all taken known next i)
      (block-writes done c ws all other known (next + lets (block-writes done c ws all taken known next i)) i) ∷ [])
  statement-writes done c ws all (Act action args place) known next = refl
  statement-writes done c ws all (Call routine [] places) known next =
      call-writes (writers_of [] done) routine (slice_get done routine) known next (c.same routine known next (next + 0)) ∙ same-get (writers_of [] done) ws all routine known next (next + 0)
  statement-writes done c ws all (Call routine (e ∷ args) places) known next =
      ap (λ back. argument_lets places next (map (renumbered known) (e ∷ args)) ++ back) (same-get (writers_of [] done) ws all routine known next (next + length (e ∷ args)))

  block-writes : {m : _} → (done : List TRoutine) → IsClosed done → (ws : List Writer) → AllSame (writers_of [] done) ws → (row : Row_of-TStmt m) (known : List Numbered) (next : ℕ)
      → written_all (writers_of [] done) (pruned_block done row) known next ≡ written_block ws row known next
  block-writes done c ws all end_of-TStmt known next = refl
  block-writes done c ws all (more_of-TStmt s rest) known next =
      before-writes (writers_of [] done) (pruned done s) (pruned_block done rest) known next
      ∙ (λ i. statement-writes done c ws all s known next i ++ written_all (writers_of [] done) (pruned_block done rest) (pruned-known done s known next i) (next + lets (statement-writes done c ws all s known next i)))
      ∙ ap (λ more. written ws s known next ++ more) (block-writes done c ws all rest (known_behind s known next) (next + lets (written ws s known next)))

all-writes : (done : List TRoutine) → IsClosed done → (ws : List Writer) → AllSame (writers_of [] done) ws → (ss : List TStmt) (known : List Numbered) (next : ℕ)
    → written_all (writers_of [] done) (pruned_all done ss) known next ≡ written_all ws ss known next
all-writes done c ws all [] known next = refl
all-writes done c ws all (s ∷ rest) known next =
    before-writes (writers_of [] done) (pruned done s) (pruned_all done rest) known next
    ∙ (λ i. statement-writes done c ws all s known next i ++ written_all (writers_of [] done) (pruned_all done rest) (pruned-known done s known next i) (next + lets (statement-writes done c ws all s known next i)))
    ∙ ap (λ more. written ws s known next ++ more) (all-writes done c ws all rest (known_behind s known next) (next + lets (written ws s known next)))

-- ---- all routines

writers-last : (ws : List Writer) (routines : List TRoutine) (routine : TRoutine) → writers_of ws (routines ++ routine ∷ []) ≡ writers_of ws routines ++ writer_of (writers_of ws routines) routine ∷ []
writers-last ws [] routine = refl
writers-last ws (r ∷ rest) routine = writers-last (ws ++ writer_of ws r ∷ []) rest routine

each-last : (m : ℕ) (done : List TRoutine) (routine : TRoutine) → EachBelow m done → all_calls_below (m + length done) routine.body ≡ true → EachBelow m (done ++ routine ∷ [])
each-last m [] routine each h = (subst (λ n. all_calls_below n routine.body ≡ true) (zero-behind m) h, tt)
each-last m (r ∷ rest) routine each h =
    let at : m + ℕ.suc (length rest) ≡ (m + 1) + length rest = omega arith in
    (each.0, each-last (m + 1) rest routine each.1 (subst (λ n. all_calls_below n routine.body ≡ true) at h))

-- pruned routines call only earlier ones, and write the same
pub record IsPruned (done : List TRoutine) (ws : List Writer) : Type 0 where
  pub each : EachBelow 0 done
  pub same : AllSame (writers_of [] done) ws

all-pruned : (routines done : List TRoutine) (ws : List Writer) → EachBelow (length done) routines → IsPruned done ws → IsPruned (pruned_routines done routines) (writers_of ws routines)
all-pruned [] done ws below p = p
all-pruned (routine ∷ rest) done ws below p =
    let short : TRoutine = record { params = routine.params; body = pruned_all done routine.body } in
    let c = closed done p.each in
    let many : length done + 1 ≡ length (done ++ short ∷ []) = sym (length-join done (short ∷ [])) in
    all-pruned rest (done ++ short ∷ []) (ws ++ writer_of ws routine ∷ []) (subst (λ n. EachBelow n rest) many below.1)
    (record {
      each = each-last 0 done short p.each (subst (λ n. all_calls_below n (pruned_all done routine.body) ≡ true) (sym (zero-front (length done))) (all-pruned-below (length done) done p.each routine.body below.0));
      same =
          subst (λ vs. AllSame vs (ws ++ writer_of ws routine ∷ [])) (sym (writers-last [] done short))
          (same-more (writers_of [] done) ws (writer_of (writers_of [] done) short) (writer_of ws routine) p.same
          (λ known first next. all-writes done c ws p.same routine.body (known ++ numbered_from first routine.params) next));
    })

pub pruned-closed : (routines : List TRoutine) → EachBelow 0 routines → IsClosed (pruned_routines [] routines)
pruned-closed routines below = closed (pruned_routines [] routines) (all-pruned routines [] [] below (record { each = tt; same = tt })).each

pub pruned-main : (routines : List TRoutine) (main : List TStmt) → EachBelow 0 routines
    → written_all (writers_of [] (pruned_routines [] routines)) (pruned_all (pruned_routines [] routines) main) [] 0 ≡ written_main routines main
pruned-main routines main below =
    let p = all-pruned routines [] [] below (record { each = tt; same = tt }) in
    all-writes (pruned_routines [] routines) (closed (pruned_routines [] routines) p.each) (writers_of [] routines) p.same main [] 0
