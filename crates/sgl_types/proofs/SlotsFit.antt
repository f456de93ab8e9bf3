-- Each slot of a script is set at one place.
use Rattle.std.proofs.Common.{◌≡◌, ℕ, ◌+◌, ◌<◌, ◌≤◌, ◌==◌, ◌&&◌, ◌||◌, not, nat_lt, Bool, true, false, List, [], ◌∷◌, ◌++◌, map, length, None, subst, refl, ap, sym, ◌∙◌, arith, add-zero}
use Rattle.std.specs.List.{list_all, list_any, sum_by}
use Rattle.std.proofs.lemmas.Bool.{ne_eqb}
use Rattle.std.proofs.lemmas.List.{append-nil, append_assoc}
use Rattle.std.proofs.lemmas.List.Folds.{list_all-append}
use Rattle.std.proofs.lemmas.List.Sums.{sum_by_push}
use Rattle.sgl_tree.specs.declared.expression.Name.{Name}
use Rattle.sgl_tree.specs.declared.item.Item.{Item}
use Rattle.sgl_tree.specs.declared.item.Item.TheVariants.{Attr, Routine, Main}
use Rattle.sgl_tree.specs.declared.statement.Stmt.{Stmt}
use Rattle.sgl_typed.specs.declared.script.TRoutine.{TRoutine}
use Rattle.sgl_typed.specs.declared.script.TStmt.{TStmt}
use Rattle.sgl_typed.specs.SchemaForm.{differ}
use Rattle.sgl_typed.specs.WellFormed.{slots_of_all, slots_of_routines}
use Rattle.sgl_types.specs.declared.finding.TypeKind.TheVariants.{TwoMains}
use Rattle.sgl_types.specs.Declarations.{declared, with_item, after_unit}
use Rattle.sgl_types.specs.Rules.{fault_if}
use Rattle.sgl_types.specs.Items.{Setting, setting_behind, gathered, slots_of, item_faults, param_locals, routine_start, main_start}
use Rattle.sgl_types.specs.Statements.{lets, statements_faults}
use Rattle.sgl_types.specs.TypedItems.{routines_of, mains_of, last_or, typed_routine, typed_main}
use Rattle.sgl_types.proofs.Declaring.{declared-more}
use Rattle.sgl_types.proofs.Differ.{apart, and-left, and-right, inserted}
use Rattle.sgl_types.proofs.Fits.{neither}
use Rattle.sgl_types.proofs.Gathered.{gathered-more}
use Rattle.sgl_types.proofs.ItemFits.{fails}
use Rattle.sgl_types.proofs.Slots.{numbers, numbers-append, numbers-differ, above}
use Rattle.sgl_types.proofs.Starts.{list-set, numbers-below}

abbrev same : ℕ → ℕ → Bool
same n m = n == m

abbrev all_below : ℕ → List ℕ → Bool
all_below n ns = list_all (λ m. nat_lt m n) ns

less-of : (m n : ℕ) → nat_lt m n ≡ true → m < n
less-of m n e = grind (arith)

less-more : (m n k : ℕ) → nat_lt m n ≡ true → nat_lt m (n + k) ≡ true
less-more m n k e = grind (arith)

below-more : (n k : ℕ) (ns : List ℕ) → all_below n ns ≡ true → all_below (n + k) ns ≡ true
below-more n k [] e = refl
below-more n k (m ∷ ns) e = λ i. less-more m n k (and-left (nat_lt m n) (all_below n ns) e) i && below-more n k ns (and-right (nat_lt m n) (all_below n ns) e) i

-- new numbers are apart from those below them
apart-before : (n k : ℕ) (ns : List ℕ) → all_below n ns ≡ true → apart same ns (numbers n k) ≡ true
apart-before n k [] e = refl
apart-before n k (m ∷ ns) e =
    λ i. not (above m n k (less-of m n (and-left (nat_lt m n) (all_below n ns) e)) i) && apart-before n k ns (and-right (nat_lt m n) (all_below n ns) e) i

not-equal : (z m n : ℕ) → n ≤ z → m < n → z ≡ m → ⊥
not-equal z m n le lt e = omega arith

both_false : (x y : Bool) → x ≡ false → y ≡ false → (x || y) ≡ false
both_false x y p q = λ i. p i || q i

none-equal : (n z : ℕ) (ns : List ℕ) → n ≤ z → all_below n ns ≡ true → list_any (same z) ns ≡ false
none-equal n z [] le e = refl
none-equal n z (m ∷ ns) le e =
    both_false (z == m) (list_any (same z) ns) (ne_eqb z m (λ q. not-equal z m n le (less-of m n (and-left (nat_lt m n) (all_below n ns) e)) q))
    (none-equal n z ns le (and-right (nat_lt m n) (all_below n ns) e))

next-le : (n from : ℕ) → n ≤ from → n ≤ 1 + from
next-le n from le = omega arith

apart-behind : (n from k : ℕ) (ns : List ℕ) → n ≤ from → all_below n ns ≡ true → apart same (numbers from k) ns ≡ true
apart-behind n from ℕ.zero ns le e = refl
apart-behind n from (ℕ.suc k) ns le e = λ i. not (none-equal n from ns le e i) && apart-behind n (1 + from) k ns (next-le n from le) e i

le-self : (n : ℕ) → n ≤ n
le-self n = omega arith

record Holds (rs ms : List ℕ) (n : ℕ) : Type 0 where
  apart-all : differ (rs ++ ms) ≡ true
  below-all : all_below n (rs ++ ms) ≡ true

-- the next numbers, put between those of routines and those of `main`
numbered : (rs ms : List ℕ) (n k : ℕ) → Holds rs ms n → Holds (rs ++ numbers n k) ms (n + k)
numbered rs ms n k h =
    let parts = sym (list_all-append (λ m. nat_lt m n) rs ms) ∙ h.below-all in
    let front = and-left (all_below n rs) (all_below n ms) parts in
    let back = and-right (all_below n rs) (all_below n ms) parts in
    record {
      apart-all = inserted same rs (numbers n k) ms h.apart-all (numbers-differ n k) (apart-before n k rs front) (apart-behind n n k ms (le-self n) back);
      below-all = list_all-append (λ m. nat_lt m (n + k)) (rs ++ numbers n k) ms
          ∙ (λ i. (list_all-append (λ m. nat_lt m (n + k)) rs (numbers n k) ∙ (λ j. below-more n k rs front j && numbers-below n k (n + k) refl j)) i && below-more n k ms back i);
    }

-- ---- routines and main

routines-more : (rs : List TRoutine) (r : TRoutine) → slots_of_routines (rs ++ r ∷ []) ≡ slots_of_routines rs ++ (r.params ++ slots_of_all r.body)
routines-more [] r = append-nil (r.params ++ slots_of_all r.body)
routines-more (x ∷ rs) r =
    ap (λ more. x.params ++ slots_of_all x.body ++ more) (routines-more rs r) ∙ sym (append_assoc (x.params ++ slots_of_all x.body) (slots_of_routines rs) (r.params ++ slots_of_all r.body))

param-numbers : (n : ℕ) (ps : List Name) → map (λ l. l.slot) (param_locals n ps) ≡ numbers n (length ps)
param-numbers n [] = refl
param-numbers n (p ∷ ps) = ap (λ ns. n ∷ ns) (param-numbers (1 + n) ps)

routine-numbers : (g : Setting) (params : List Name) (body : List Stmt)
    → (typed_routine g params body).params ++ slots_of_all (typed_routine g params body).body ≡ numbers g.slots (length (after_unit params) + lets body)
routine-numbers g params body =
    (λ i. param-numbers g.slots (after_unit params) i ++ list-set body (routine_start g params) i)
    ∙ sym (numbers-append g.slots (length (after_unit params)) (lets body))

pub record SlotsFit (rs : List TRoutine) (mains : List (List TStmt)) (n : ℕ) : Type 0 where
  pub apart-all : differ (slots_of_routines rs ++ slots_of_all (last_or [] mains)) ≡ true
  pub below-all : all_below n (slots_of_routines rs ++ slots_of_all (last_or [] mains)) ≡ true

unchanged : (rs : List TRoutine) (mains : List (List TStmt)) (n : ℕ) → SlotsFit rs mains n → SlotsFit (rs ++ []) (mains ++ []) (n + 0)
unchanged rs mains n h =
    subst (λ k. SlotsFit (rs ++ []) (mains ++ []) k) (sym (add-zero n))
    (subst (λ rs'. SlotsFit rs' (mains ++ []) n) (sym (append-nil rs)) (subst (λ mains'. SlotsFit rs mains' n) (sym (append-nil mains)) h))

with-routine : (rs : List TRoutine) (r : TRoutine) (mains : List (List TStmt)) (n k : ℕ) → r.params ++ slots_of_all r.body ≡ numbers n k → SlotsFit rs mains n → SlotsFit (rs ++ r ∷ []) (mains ++ []) (n + k)
with-routine rs r mains n k is h =
    let set = slots_of_routines rs in
    let ms = slots_of_all (last_or [] mains) in
    let held = numbered set ms n k record { apart-all = h.apart-all; below-all = h.below-all } in
    let same-set : slots_of_routines (rs ++ r ∷ []) ≡ set ++ numbers n k = routines-more rs r ∙ ap (λ more. set ++ more) is in
    let same-main : slots_of_all (last_or [] (mains ++ [])) ≡ ms = ap (λ mains. slots_of_all (last_or [] mains)) (append-nil mains) in
    record {
      apart-all = (λ i. differ (same-set i ++ same-main i)) ∙ held.apart-all;
      below-all = (λ i. all_below (n + k) (same-set i ++ same-main i)) ∙ held.below-all;
    }

with-main : (rs : List TRoutine) (main : List TStmt) (mains : List (List TStmt)) (n k : ℕ) → slots_of_all main ≡ numbers n k → mains ≡ [] → SlotsFit rs mains n → SlotsFit (rs ++ []) (mains ++ main ∷ []) (n + k)
with-main rs main mains n k is none h =
    let set = slots_of_routines rs in
    let alone : set ++ slots_of_all (last_or [] mains) ≡ set ++ [] = ap (λ mains. set ++ slots_of_all (last_or [] mains)) none in
    let held = numbered set [] n k record { apart-all = sym (ap differ alone) ∙ h.apart-all; below-all = sym (ap (all_below n) alone) ∙ h.below-all } in
    let whole : slots_of_routines (rs ++ []) ++ slots_of_all (last_or [] (mains ++ main ∷ [])) ≡ (set ++ numbers n k) ++ [] =
    (λ i. slots_of_routines (append-nil rs i) ++ slots_of_all (last_or [] (none i ++ main ∷ []))) ∙ ap (λ ms. set ++ ms) is ∙ sym (append-nil (set ++ numbers n k)) in
    record { apart-all = ap differ whole ∙ held.apart-all; below-all = ap (all_below (n + k)) whole ∙ held.below-all }

slots-item : (g : Setting) (item : Item) (rs : List TRoutine) (mains : List (List TStmt)) → (g.earlier.has_main ≡ false → mains ≡ []) → SlotsFit rs mains g.slots → item_faults g item ≡ []
    → SlotsFit (rs ++ routines_of g item) (mains ++ mains_of g item) (g.slots + slots_of item)
slots-item g (Routine name params body) rs mains alone h none =
    with-routine rs (typed_routine g params body) mains g.slots (length (after_unit params) + lets body) (routine-numbers g params body) h
slots-item g (Main place unit body) rs mains alone h none =
    with-main rs (typed_main g unit body) mains g.slots (lets body) (list-set body (main_start g unit))
    (alone (fails g.earlier.has_main TwoMains place (neither (fault_if g.earlier.has_main TwoMains place) (statements_faults body (main_start g unit)) none).0)) h
slots-item g item rs mains alone h none = unchanged rs mains g.slots h

alone-item : (g : Setting) (item : Item) (mains : List (List TStmt)) → (g.earlier.has_main ≡ false → mains ≡ []) → (with_item g.earlier item).has_main ≡ false → mains ++ mains_of g item ≡ []
alone-item g (Attr name None init) mains alone e = append-nil mains ∙ alone e
alone-item g (Main place unit body) mains alone e = absurd (cc)
alone-item g item mains alone e = append-nil mains ∙ alone e

-- behind these items of a script
pub record SlotsBehind (all earlier : List Item) : Type 0 where
  pub fit : SlotsFit (gathered routines_of all [] earlier) (gathered mains_of all [] earlier) (sum_by slots_of earlier)
  pub alone : (declared earlier).has_main ≡ false → gathered mains_of all [] earlier ≡ []

pub slots-more : (all earlier : List Item) (item : Item) → item_faults (setting_behind all earlier) item ≡ [] → SlotsBehind all earlier → SlotsBehind all (earlier ++ item ∷ [])
slots-more all earlier item none h =
    let g = setting_behind all earlier in
    let rs = gathered routines_of all [] earlier in
    let mains = gathered mains_of all [] earlier in
    record {
      fit =
          subst (λ rs'. SlotsFit rs' (gathered mains_of all [] (earlier ++ item ∷ [])) (sum_by slots_of (earlier ++ item ∷ []))) (sym (gathered-more routines_of all [] earlier item))
          (subst (λ ms'. SlotsFit (rs ++ routines_of g item) ms' (sum_by slots_of (earlier ++ item ∷ []))) (sym (gathered-more mains_of all [] earlier item))
          (subst (λ n. SlotsFit (rs ++ routines_of g item) (mains ++ mains_of g item) n) (sym (sum_by_push slots_of earlier item)) (slots-item g item rs mains h.alone h.fit none)));
      alone = λ e. gathered-more mains_of all [] earlier item ∙ alone-item g item mains h.alone (sym (ap (λ d. d.has_main) (declared-more earlier item)) ∙ e);
    }
