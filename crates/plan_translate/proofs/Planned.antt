-- The translation of a well-formed script reads each slot where it is set, and each slot is set once.
use Rattle.std.proofs.Common.{Decides, ◌==◌, ◌≡◌, ℕ, ◌+◌, ◌<◌, ◌≤◌, Bool, true, false, List, [], ◌∷◌, map, refl, ap, ◌∙◌, arith, sym, subst}
use Rattle.std.specs.List.{list_all}
use Rattle.std.specs.Prelude.{◌&&◌, ◌||◌, nat_lt, slice_get}
use Rattle.std.proofs.lemmas.Bool.{and_parts, false≢true, ltb-true, ltb-false}
use Rattle.std.proofs.lemmas.Bool.Decides.{Decides-eqb}
use Rattle.sgl_values.specs.declared.place.Place.{Place}
use Rattle.sgl_typed.specs.Reads.{below, reads_only, all_read_only, list_reads_only}
use Rattle.sgl_typed.specs.WellFormed.{Body, Callees, is_number, is_truth, kind_of, is_formed, body_behind, statement_fits, block_fits, statements_fit}
use Rattle.sgl_typed.specs.declared.script.Kind.{Kind}
use Rattle.sgl_typed.specs.declared.script.TAction.{TAction}
use Rattle.sgl_typed.specs.declared.script.TExpr.{TExpr, Row_of-TExpr, end_of-TExpr, more_of-TExpr}
use Rattle.sgl_typed.specs.declared.script.TExpr.TheVariants.{Agg', Neg', Not', Binary'}
use Rattle.sgl_typed.specs.declared.script.TOn.{TOn}
use Rattle.sgl_typed.specs.declared.script.TStmt.{TStmt, Row_of-TStmt, end_of-TStmt, more_of-TStmt}
use Rattle.sgl_typed.specs.declared.script.TStmt.TheVariants.{Let, If', Act, Call}
use Rattle.plan_translate.specs.Calls.{Lifted, calls_in, calls_in_all, lifted, lifted_all, lifted_calls, lifted_calls_all}
use Rattle.battle_algebra.specs.Fit.{all_plain, plain, reads_fit}
use Rattle.battle_algebra.specs.Reads.{source_reads_only, adding}
use Rattle.plan_translate.specs.Translation.{with_calls, clauses, clauses_in, calls_in_list, lifted_list, lifted_calls_list, followed, calls_of, calls_of_block, statement_tree, block_tree, translated}
use Rattle.battle_algebra.specs.Tree.{Tree, Nothing, Setting, Parted, Acting, Joined, Extended, each}
use Rattle.battle_algebra.proofs.Bools.{both_true}
use Rattle.plan_translate.proofs.Fitting.{with_calls-append, InMain, plain-lifted, plain-calls, plain-list, plain-calls-list, grown, in_grown, new_grown, grown_from, wider, list-wider, reads-lifted, reads-lifted-all}
use Rattle.sgl_typed.proofs.Scope.{truth_formed, fit_numbers, in_scope, formed-reads, list-numbers-read, scope_with}
use Rattle.battle_algebra.proofs.Slots.{all-read-from, source-wider, adding-wider, or_added}
use Rattle.sgl_typed.proofs.Equations.{all-read-hidden, fits-hidden}
use Rattle.sgl_typed.specs.declared.script.TExpr.TheBlock.{hidden-the_row-TExpr-0}
use Rattle.sgl_typed.specs.declared.script.TStmt.TheBlock.{hidden-the_row-TStmt-0}
use Rattle.plan_translate.proofs.Equations.{all-calls_in, all-lifted, all-lifted_calls, block-tree}

pub reads_fit-wider : (t : Tree) (p q : ℕ → Bool) → ((i : ℕ) → p i ≡ true → q i ≡ true) → reads_fit t p ≡ true → reads_fit t q ≡ true
reads_fit-wider Nothing p q law h = refl
reads_fit-wider (Setting slot source below) p q law h =
    let parts : (source_reads_only source p ≡ true) × (reads_fit below (adding slot p) ≡ true) = and_parts _ _ h in
    both_true _ _ (source-wider source p q law parts.0) (reads_fit-wider below (adding slot p) (adding slot q) (λ i x. adding-wider slot p q i (law i) x) parts.1)
reads_fit-wider (Parted cond place taken other) p q law h =
    let parts : (reads_only cond p ≡ true) × (reads_fit taken p && reads_fit other p ≡ true) = and_parts _ _ h in
    let parts' : (reads_fit taken p ≡ true) × (reads_fit other p ≡ true) = and_parts _ _ parts.1 in
    both_true _ _ (wider cond p q law parts.0) (both_true _ _ (reads_fit-wider taken p q law parts'.0) (reads_fit-wider other p q law parts'.1))
reads_fit-wider (Acting act way) p q law h = list-wider act.args p q law h
reads_fit-wider (Joined left right) p q law h =
    let parts : (reads_fit left p ≡ true) × (reads_fit right p ≡ true) = and_parts _ _ h in
    both_true _ _ (reads_fit-wider left p q law parts.0) (reads_fit-wider right p q law parts.1)

-- nothing is added
no_calls : (t : Tree) (set : ℕ → Bool) (next : ℕ) → reads_fit t (grown set next 0) ≡ true → reads_fit t set ≡ true
no_calls t set next h = reads_fit-wider t (grown set next 0) set (grown_from set set next 0 (λ i x. x) (λ i le lt. absurd (omega (arith, le, lt)))) h

-- two ranges in one
two_grown : (set : ℕ → Bool) (n a b i : ℕ) → grown set n (a + b) i ≡ true → grown (grown set n a) (n + a) b i ≡ true
two_grown set n a b =
    grown_from set (grown (grown set n a) (n + a) b) n (a + b) (λ i x. in_grown (grown set n a) (n + a) b i (in_grown set n a i x))
    (λ i le lt. step i (nat_lt i (n + a)) refl le lt)
  where
    step : (i : ℕ) (x : Bool) → nat_lt i (n + a) ≡ x → n ≤ i → i < n + (a + b) → grown (grown set n a) (n + a) b i ≡ true
    step i true is le lt = in_grown (grown set n a) (n + a) b i (new_grown set n a i le (ltb-true _ _ is))
    step i false is le lt = new_grown (grown set n a) (n + a) b i (ltb-false _ _ is) (omega (arith, lt))

less_of : (i n : ℕ) → (i ≡ n → ⊥) → i < n + 1 → i < n
less_of i n apart lt = step (nat_lt i n) refl
  where
    step : (x : Bool) → nat_lt i n ≡ x → i < n
    step true is = ltb-true _ _ is
    step false is = let ge : n ≤ i = ltb-false _ _ is in absurd (apart (omega (arith, lt, ge)))

own_grown : (set : ℕ → Bool) (n a i : ℕ) → grown set n (a + 1) i ≡ true → adding (n + a) (grown set n a) i ≡ true
own_grown set n a =
    grown_from set (adding (n + a) (grown set n a)) n (a + 1) (λ i x. or_added (n + a) (grown set n a) i (in_grown set n a i x))
    (λ i le lt. step i (i == (n + a)) (Decides-eqb i (n + a)) le lt)
  where
    step : (i : ℕ) (x : Bool) → Decides x (i ≡ n + a) → n ≤ i → i < n + (a + 1) → (x || grown set n a i) ≡ true
    step i true d le lt = refl
    step i false d le lt = new_grown set n a i le (less_of i (n + a) (λ e. false≢true (d.1 e)) (omega (arith, lt)))

all-wider : {m : _} (es : Row_of-TExpr m) (p q : ℕ → Bool) → ((i : ℕ) → p i ≡ true → q i ≡ true) → all_read_only es p ≡ true → all_read_only es q ≡ true
all-wider es p q law h = all-read-from es p p q (λ i a b. law i a) h h

mutual
  pub reads-calls : (e : TExpr) (set : ℕ → Bool) (next : ℕ) (t : Tree) → reads_only e set ≡ true → reads_fit t (grown set next (calls_in e)) ≡ true → reads_fit (with_calls (lifted_calls e next) t) set ≡ true
  reads-calls (Agg' agg shape args place) set next t h rest =
      let own : Lifted = record { slot = next + calls_in_all args; call = record { agg = agg; args = lifted_all args next; place = place } } in
      ap (λ u. reads_fit u set) (with_calls-append (lifted_calls_all args next) (own ∷ []) t)
      ∙ reads-calls-all args set next (with_calls (own ∷ []) t) h
      (both_true _ _ (reads-lifted-all args set next h)
      (reads_fit-wider t (grown set next (calls_in_all args + 1)) (adding (next + calls_in_all args) (grown set next (calls_in_all args))) (own_grown set next (calls_in_all args)) rest))
  reads-calls (Neg' shape (more_of-TExpr inner end_of-TExpr)) set next t h rest = reads-calls inner set next t h rest
  reads-calls (Not' shape (more_of-TExpr inner end_of-TExpr)) set next t h rest = reads-calls inner set next t h rest
  reads-calls (Binary' op shape (more_of-TExpr left end_of-TExpr) shape' (more_of-TExpr right end_of-TExpr) place) set next t h rest =
      let parts : (reads_only left set ≡ true) × (reads_only right set ≡ true) = and_parts _ _ h in
      ap (λ u. reads_fit u set) (with_calls-append (lifted_calls left next) (lifted_calls right (next + calls_in left)) t)
      ∙ reads-calls left set next (with_calls (lifted_calls right (next + calls_in left)) t) parts.0
      (reads-calls right (grown set next (calls_in left)) (next + calls_in left) t (wider right set (grown set next (calls_in left)) (in_grown set next (calls_in left)) parts.1)
      (reads_fit-wider t (grown set next (calls_in left + calls_in right)) (grown (grown set next (calls_in left)) (next + calls_in left) (calls_in right)) (two_grown set next (calls_in left) (calls_in right)) rest))
  reads-calls e set next t h rest = no_calls t set next rest

  pub reads-calls-all : {m : _} (es : Row_of-TExpr m) (set : ℕ → Bool) (next : ℕ) (t : Tree) → all_read_only es set ≡ true → reads_fit t (grown set next (calls_in_all es)) ≡ true → reads_fit (with_calls (lifted_calls_all es next) t) set ≡ true
  reads-calls-all end_of-TExpr set next t h rest = no_calls t set next rest
  reads-calls-all (more_of-TExpr e more) set next t h rest =
      let parts : (reads_only e set ≡ true) × (all_read_only more set ≡ true) = and_parts _ _ h in
      ap (λ u. reads_fit u set) (with_calls-append (lifted_calls e next) (lifted_calls_all more (next + calls_in e)) t)
      ∙ reads-calls e set next (with_calls (lifted_calls_all more (next + calls_in e)) t) parts.0
      (reads-calls-all more (grown set next (calls_in e)) (next + calls_in e) t (all-wider more set (grown set next (calls_in e)) (in_grown set next (calls_in e)) parts.1)
      (reads_fit-wider t (grown set next (calls_in e + calls_in_all more)) (grown (grown set next (calls_in e)) (next + calls_in e) (calls_in_all more)) (two_grown set next (calls_in e) (calls_in_all more)) rest))

-- under a wider test
own_added : (slot : ℕ) (set : ℕ → Bool) → adding slot set slot ≡ true
own_added slot set = ap (λ b. b || set slot) ((Decides-eqb slot slot).1 refl)

reads-list : (es : List TExpr) (set : ℕ → Bool) (next : ℕ) → list_reads_only es set ≡ true → list_reads_only (lifted_list es next) (grown set next (calls_in_list es)) ≡ true
reads-list es set next h =
    sym (λ i. list_reads_only (all-lifted es next i) (grown set next (all-calls_in es i)))
    ∙ reads-lifted-all (hidden-the_row-TExpr-0 es) set next (all-read-hidden es set ∙ h)

reads-calls-list : (es : List TExpr) (set : ℕ → Bool) (next : ℕ) (t : Tree) → list_reads_only es set ≡ true → reads_fit t (grown set next (calls_in_list es)) ≡ true → reads_fit (with_calls (lifted_calls_list es next) t) set ≡ true
reads-calls-list es set next t h rest =
    sym (ap (λ calls. reads_fit (with_calls calls t) set) (all-lifted_calls es next))
    ∙ reads-calls-all (hidden-the_row-TExpr-0 es) set next t (all-read-hidden es set ∙ h) (ap (λ n. reads_fit t (grown set next n)) (all-calls_in es) ∙ rest)

-- ---- statements

pub record Planned (t : Tree) (set : ℕ → Bool) : Type 0 where
  pub plain : each plain t ≡ true
  pub reads : reads_fit t set ≡ true

planned_both : (t u : Tree) (set : ℕ → Bool) → Planned t set → Planned u set → Planned (Joined t u) set
planned_both t u set p q = record { plain = both_true _ _ p.plain q.plain; reads = both_true _ _ p.reads q.reads }

planned_nothing : (set : ℕ → Bool) → Planned Nothing set
planned_nothing set = record { plain = refl; reads = refl }

planned_clauses : (ons : List TOn) (clause action : ℕ) (args : List TExpr) (place : Place) (set : ℕ → Bool) → all_plain args ≡ true → list_reads_only args set ≡ true → Planned (clauses ons clause action args place) set
planned_clauses [] clause action args place set h r = planned_nothing set
planned_clauses (on ∷ []) clause action args place set h r = record { plain = h; reads = r }
planned_clauses (on ∷ next ∷ more) clause action args place set h r =
    planned_both _ _ set (record { plain = h; reads = r }) (planned_clauses (next ∷ more) (clause + 1) action args place set h r)

scope-wider : (slots : List (ℕ × Kind)) (p q : ℕ → Bool) → ((i : ℕ) → p i ≡ true → q i ≡ true) → in_scope slots p ≡ true → in_scope slots q ≡ true
scope-wider [] p q law h = refl
scope-wider (slot ∷ more) p q law h =
    let parts : (p slot.0 ≡ true) × (in_scope more p ≡ true) = and_parts _ _ h in
    both_true _ _ (law slot.0 parts.0) (scope-wider more p q law parts.1)

in_main_behind : (s : TStmt) (b : Body) → InMain b → InMain (body_behind s b)
in_main_behind (Let slot e place) b main = record { target = main.target; effects = main.effects }
in_main_behind (If' cond place shape taken shape' other) b main = main
in_main_behind (Act action args place) b main = main
in_main_behind (Call routine args places) b main = main

-- what stands behind a statement
abbrev Later : TStmt → Body → (ℕ → Bool) → Tree → Type 0
Later s b set rest = (set' : ℕ → Bool) → ((i : ℕ) → set i ≡ true → set' i ≡ true) → in_scope (body_behind s b).slots set' ≡ true → Planned rest set'

planned_followed : {m : _} (more : Row_of-TStmt m) (t u : Tree) (set : ℕ → Bool) → Planned t set → Planned u set → Planned (followed more t u) set
planned_followed end_of-TStmt t u set p q = p
planned_followed (more_of-TStmt s more) t u set p q = planned_both t u set p q

mutual
  planned-statement : (s : TStmt) (actions : List TAction) (callees : Callees) (b : Body) (next : ℕ) (set : ℕ → Bool) (behind : Tree → Tree → Tree) (rest : Tree)
      → InMain b → statement_fits callees s b ≡ true → in_scope b.slots set ≡ true → Later s b set rest
      → ((t : Tree) → Planned t set → Planned rest set → Planned (behind t rest) set) → Planned (statement_tree actions s next behind rest) set
  planned-statement (Let slot e place) actions callees b next set behind rest main h scope later both =
      let set' : ℕ → Bool = adding slot (grown set next (calls_in e)) in
      let more : Planned rest set' = later set' (λ i x. or_added slot (grown set next (calls_in e)) i (in_grown set next (calls_in e) i x))
      (scope_with slot (kind_of b e) b.slots set' (own_added slot (grown set next (calls_in e)))
      (scope-wider b.slots set set' (λ i x. or_added slot (grown set next (calls_in e)) i (in_grown set next (calls_in e) i x)) scope)) in
      let reads : reads_only e set ≡ true = formed-reads e b set h scope in
      record {
        plain = plain-calls e b next (Extended slot (lifted e next) place rest) main h (both_true _ _ (plain-lifted e b next main h) more.plain);
        reads = reads-calls e set next (Extended slot (lifted e next) place rest) reads (both_true _ _ (reads-lifted e set next reads) more.reads);
      }
  planned-statement (If' cond place shape taken shape' other) actions callees b next set behind rest main h scope later both =
      let parts : (is_truth (kind_of b cond) && block_fits callees taken b ≡ true) × (block_fits callees other b ≡ true) = and_parts _ _ h in
      let parts' : (is_truth (kind_of b cond) ≡ true) × (block_fits callees taken b ≡ true) = and_parts _ _ parts.0 in
      let formed : is_formed (kind_of b cond) ≡ true = truth_formed (kind_of b cond) parts'.0 in
      let wide : ℕ → Bool = grown set next (calls_in cond) in
      let scope' : in_scope b.slots wide ≡ true = scope-wider b.slots set wide (in_grown set next (calls_in cond)) scope in
      let t : Tree = block_tree actions taken (next + calls_in cond) in
      let u : Tree = block_tree actions other (next + calls_in cond + calls_of_block taken) in
      let first : Planned t wide = planned-block taken actions callees b (next + calls_in cond) wide main parts'.1 scope' in
      let second : Planned u wide = planned-block other actions callees b (next + calls_in cond + calls_of_block taken) wide main parts.1 scope' in
      let reads : reads_only cond set ≡ true = formed-reads cond b set formed scope in
      both (with_calls (lifted_calls cond next) (Parted (lifted cond next) place t u))
      (record {
        plain = plain-calls cond b next (Parted (lifted cond next) place t u) main formed (both_true _ _ (plain-lifted cond b next main formed) (both_true _ _ first.plain second.plain));
        reads = reads-calls cond set next (Parted (lifted cond next) place t u) reads (both_true _ _ (reads-lifted cond set next reads) (both_true _ _ first.reads second.reads));
      })
      (later set (λ i x. x) scope)
  planned-statement (Act action args place) actions callees b next set behind rest main h scope later both =
      let numbers : list_all is_number (map (kind_of b) args) ≡ true = fit_numbers (slice_get callees.actions action) (map (kind_of b) args) h in
      let reads : list_reads_only args set ≡ true = list-numbers-read args b set numbers scope in
      let made : Planned (clauses (clauses_in (slice_get actions action)) 0 action (lifted_list args next) place) (grown set next (calls_in_list args)) =
      planned_clauses (clauses_in (slice_get actions action)) 0 action (lifted_list args next) place (grown set next (calls_in_list args)) (plain-list args b next main numbers) (reads-list args set next reads) in
      both (with_calls (lifted_calls_list args next) (clauses (clauses_in (slice_get actions action)) 0 action (lifted_list args next) place))
      (record { plain = plain-calls-list args b next _ main numbers made.plain; reads = reads-calls-list args set next _ reads made.reads })
      (later set (λ i x. x) scope)
  planned-statement (Call routine args places) actions callees b next set behind rest main h scope later both = both Nothing (planned_nothing set) (later set (λ i x. x) scope)

  planned-block : {m : _} (block : Row_of-TStmt m) (actions : List TAction) (callees : Callees) (b : Body) (next : ℕ) (set : ℕ → Bool)
      → InMain b → block_fits callees block b ≡ true → in_scope b.slots set ≡ true → Planned (block_tree actions block next) set
  planned-block end_of-TStmt actions callees b next set main h scope = planned_nothing set
  planned-block (more_of-TStmt s more) actions callees b next set main h scope =
      let parts : (statement_fits callees s b ≡ true) × (block_fits callees more (body_behind s b) ≡ true) = and_parts _ _ h in
      planned-statement s actions callees b next set (followed more) (block_tree actions more (next + calls_of s)) main parts.0 scope
      (λ set' wide scope'. planned-block more actions callees (body_behind s b) (next + calls_of s) set' (in_main_behind s b main) parts.1 scope')
      (λ t p q. planned_followed more t (block_tree actions more (next + calls_of s)) set p q)

pub planned-list : (block : List TStmt) (actions : List TAction) (callees : Callees) (b : Body) (next : ℕ) (set : ℕ → Bool)
    → InMain b → statements_fit callees block b ≡ true → in_scope b.slots set ≡ true → Planned (translated actions block next) set
planned-list block actions callees b next set main h scope =
    subst (λ t. Planned t set) (block-tree actions block next) (planned-block (hidden-the_row-TStmt-0 block) actions callees b next set main (fits-hidden callees block b ∙ h) scope)
