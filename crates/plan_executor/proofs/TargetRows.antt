-- Rows that effects go to, one after the other.
use Rattle.std.proofs.Common.{◌≡◌, ℕ, suc, ◌+◌, ◌<◌, cond, Bool, true, false, List, [], ◌∷◌, ◌++◌, length, drop, refl, ap, sym, ◌∙◌, subst, arith, All, map}
use Rattle.std.specs.Prelude.{flat_map, ℤ, Ok, Err, Option, Some, IfSome}
use Rattle.std.specs.List.Sorted.{IsPermutation}
use Rattle.std.proofs.lemmas.List.Sorted.{All-permutation, IsPermutation-refl, IsPermutation-sym}
use Rattle.sgl_values.specs.World.{Row, row_at}
use Rattle.sgl_values.specs.declared.fault.Fault.{Fault}
use Rattle.sgl_values.specs.declared.item.Item.{Item}
use Rattle.sgl_typed.specs.Aggregate.{passes, right_sides}
use Rattle.sgl_typed.specs.Items.{writes, row_items, rows_items, clause_given, clause_items, faulty}
use Rattle.sgl_typed.specs.Value.{Context}
use Rattle.sgl_typed.specs.declared.script.TOn.{TOn}
use Rattle.sgl_typed.specs.declared.script.TTest.{TTest}
use Rattle.sgl_evaluate.specs.Rights.{passes_each, right_of}
use Rattle.sgl_evaluate.proofs.RightSides.{passes_is}
use Rattle.row_groups.specs.Places.{places}
use Rattle.row_groups.proofs.Placing.{places-within}
use Rattle.index_set.specs.Aims.{rows_of, IsAim, IsRowAim}
use Rattle.index_set.specs.declared.aim.KeyedAim.{KeyedAim}
use Rattle.index_set.specs.declared.aim.KeyedAim.TheVariants.{Faulty as AimFaulty, Row as AimRow}
use Rattle.index_set.specs.Targets.{passing_rows}
use Rattle.plan_executor.specs.Sinking.{Bounds, State, Pushes, Leads}
use Rattle.plan_executor.specs.Targets.{writes_at}
use Rattle.plan_executor.proofs.Bags.{alike_rows, pushes_alike}
use Rattle.plan_executor.proofs.Pushing.{Leads-more, Leads-end}
use Rattle.plan_executor.proofs.Stepping.{head_at, tail_at}

pub first_inside : (n : ℕ) (xs ys : List ℕ) (x : ℕ) → All (λ row. row < n) xs → xs ≡ x ∷ ys → x < n
first_inside n xs ys x all is = ap_first (subst (λ zs. All (λ row. row < n) zs) is all)
  where
    ap_first : All (λ row. row < n) (x ∷ ys) → x < n
    ap_first h = h 0 0 (omega arith)

pub rest_inside : (n : ℕ) (xs ys : List ℕ) (x : ℕ) → All (λ row. row < n) xs → xs ≡ x ∷ ys → All (λ row. row < n) ys
rest_inside n xs ys x all is = after (subst (λ zs. All (λ row. row < n) zs) is all)
  where
    after : All (λ row. row < n) (x ∷ ys) → All (λ row. row < n) ys
    after h = λ i d lt. h (suc i) d (omega (arith, lt))

pub rows_more : {bounds : Bounds} {start now next : State} {whole more : List Item} (give : ℕ → List Item) (xs ys : List ℕ) (x : ℕ) → xs ≡ x ∷ ys
    → Leads bounds start now (flat_map give xs) whole → more ≡ give x → Pushes bounds now next more → Leads bounds start next (flat_map give ys) whole
rows_more {bounds = bounds} {start = start} {now = now} {next = next} {whole = whole} give xs ys x is before same pushes =
    Leads-more (subst (λ left. Leads bounds start now left whole) (ap (flat_map give) is) before) (subst (Pushes bounds now next) same pushes)

pub rows_end : {bounds : Bounds} {start now : State} {whole : List Item} (give : ℕ → List Item) (xs : List ℕ) → xs ≡ [] → Leads bounds start now (flat_map give xs) whole → Pushes bounds start now whole
rows_end {bounds = bounds} {start = start} {now = now} {whole = whole} give xs none before = Leads-end (subst (λ left. Leads bounds start now left whole) (ap (flat_map give) none) before)

-- ---- a clause

module _ (c : Context) (clause : TOn) (rights : List ℤ) where
  one_row : (t : Bool) (number : ℕ) (row : Row) (rows : List ℕ) → row_at c.world number ≡ row
      → cond t (writes (record c { target = row }) number clause.writes) [] ++ flat_map (writes_at c clause.writes) rows ≡ flat_map (writes_at c clause.writes) (cond t (number ∷ rows) rows)
  one_row true number row rows is = λ i. writes (record c { target = sym is i }) number clause.writes ++ flat_map (writes_at c clause.writes) rows
  one_row false number row rows is = refl

  -- the items of a clause are the writes at the rows that pass
  rows_passing : (rows : List Row) (number : ℕ) → drop number c.world.rows ≡ rows
      → rows_items c clause rights number rows ≡ flat_map (writes_at c clause.writes) (places (passes c.unit clause.tests rights) rows number)
  rows_passing [] number are = refl
  rows_passing (row ∷ rows) number are =
      ap (λ more. row_items c clause rights number row ++ more) (rows_passing rows (number + 1) (tail_at c.world.rows number row rows are))
      ∙ one_row (passes c.unit clause.tests rights row) number row (places (passes c.unit clause.tests rights) rows (number + 1)) (head_at c.world.rows number row _ rows are)

pub clause_passing : (c : Context) (clause : TOn) → right_sides c clause.tests ≡ Ok (map (right_of c) clause.tests)
    → clause_items c clause ≡ flat_map (writes_at c clause.writes) (passing_rows c clause.tests)
clause_passing c clause are =
    ap (clause_given c clause) are
    ∙ rows_passing c clause (map (right_of c) clause.tests) c.world.rows 0 refl
    ∙ ap (λ (p : Row → Bool). flat_map (writes_at c clause.writes) (places p c.world.rows 0)) (passes_is c clause.tests)

pub clause_rows : (c : Context) (clause : TOn) (rows : List ℕ) (bounds : Bounds) (old new : State) → right_sides c clause.tests ≡ Ok (map (right_of c) clause.tests)
    → IsPermutation (passing_rows c clause.tests) rows → Pushes bounds old new (flat_map (writes_at c clause.writes) rows) → Pushes bounds old new (clause_items c clause)
clause_rows c clause rows bounds old new are bag pushes =
    let give = writes_at c clause.writes in
    let first : List ℕ = passing_rows c clause.tests in
    subst (Pushes bounds old new) (sym (clause_passing c clause are))
    (pushes_alike bounds old new (flat_map give rows) (flat_map give first) (alike_rows give rows first (IsPermutation-sym first rows bag)) pushes)

pub clause_fault : (c : Context) (clause : TOn) (fault : Fault) → right_sides c clause.tests ≡ Err fault → faulty c.unit.key fault 0 ∷ [] ≡ clause_items c clause
clause_fault c clause fault is = ap (clause_given c clause) (sym is)

-- the rows that pass are in the world
passing_inside : (c : Context) (tests : List TTest) → All (λ row. row < length c.world.rows) (passing_rows c tests)
passing_inside c tests = λ i d lt. let below = places-within (passes_each c tests) c.world.rows 0 i d lt in omega (arith, below)

-- so are these rows, in whatever order
pub rows_inside : (c : Context) (tests : List TTest) (rows : List ℕ) → IsPermutation (passing_rows c tests) rows → All (λ row. row < length c.world.rows) rows
rows_inside c tests rows bag = All-permutation (λ row. row < length c.world.rows) (passing_rows c tests) rows bag (passing_inside c tests)

-- ---- the one row that a clause goes to

pub aim_fault : (c : Context) (clause : TOn) (aim : KeyedAim) (fault : Fault) (bounds : Bounds) (old new : State) → aim ≡ AimFaulty fault → IsAim aim c clause.tests
    → Pushes bounds old new (faulty c.unit.key fault 0 ∷ []) → Pushes bounds old new (clause_items c clause)
aim_fault c clause aim fault bounds old new is are pushes =
    let own : right_sides c clause.tests ≡ Err fault = subst (λ (a : KeyedAim). IsAim a c clause.tests) is are in
    subst (Pushes bounds old new) (clause_fault c clause fault own) pushes

pub aim_rows : (c : Context) (clause : TOn) (aim : KeyedAim) (found : Option ℕ) (bounds : Bounds) (old new : State) → aim ≡ AimRow found → IsAim aim c clause.tests
    → Pushes bounds old new (flat_map (writes_at c clause.writes) (rows_of found)) → Pushes bounds old new (clause_items c clause)
aim_rows c clause aim found bounds old new is are pushes =
    let own : IsRowAim found c clause.tests = subst (λ (a : KeyedAim). IsAim a c clause.tests) is are in
    clause_rows c clause (rows_of found) bounds old new own.sound
    (subst (λ (rows : List ℕ). IsPermutation (passing_rows c clause.tests) rows) own.rows (IsPermutation-refl (passing_rows c clause.tests))) pushes

pub aim_inside : (c : Context) (clause : TOn) (aim : KeyedAim) (found : Option ℕ) (row : ℕ) → aim ≡ AimRow found → found ≡ Some row → IsAim aim c clause.tests → row < length c.world.rows
aim_inside c clause aim found row is one are =
    let own : IsRowAim found c clause.tests = subst (λ (a : KeyedAim). IsAim a c clause.tests) is are in
    subst (λ (o : Option ℕ). IfSome o (λ (r : ℕ). r < length c.world.rows)) one own.within
