-- Rows behind `post`, one after the other.
use Rattle.std.proofs.Common.{◌≡◌, ℕ, ℤ, zero, suc, ◌+◌, ◌<◌, ◌≤◌, Bool, true, false, cond, List, [], ◌∷◌, ◌++◌, map, length, drop, get_or, refl, ap, subst, sym, ◌∙◌, arith, append_assoc, length-append, Option, Some, None, Result, Ok, Err}
use Rattle.std.proofs.lemmas.List.{append-nil, at_drop_all, at_drop_more, get_or-map, length-map}
use Rattle.std.proofs.lemmas.List.Elements.{All-head, All-push, All-tail, All-weaker}
use Rattle.std.proofs.lemmas.Bool.{and_parts, leb-true}
use Rattle.std.specs.Prelude.{is_some, OnOk, IfErr}
use Rattle.sgl_values.specs.ItemOrder.{fault_cmp}
use Rattle.sgl_values.specs.Least.{least_of, lesser_of}
use Rattle.sgl_values.proofs.LeastLaws.{fault_total, least_none, lesser_assoc}
use Rattle.sgl_values.specs.World.{Row, World, row_at, KeysRise, KeysUpTo}
use Rattle.sgl_values.specs.declared.fault.Fault.{Fault}
use Rattle.sgl_typed.specs.declared.tick_fault.TickFault.{TickFault}
use Rattle.sgl_typed.specs.Value.{Context}
use Rattle.sgl_typed.specs.declared.script.TExpr.{TExpr}
use Rattle.sgl_typed.specs.declared.script.TSpawn.{TSpawn}
use Rattle.sgl_values.specs.declared.fault.Val.TheVariants.{B}
use Rattle.sgl_typed.specs.Tick.{CombinedRow, Posted, after_post, after_rows, cell_fault, cell_fault_or, cells_from, children_behind, combined_from, keys_fault, next_world, post_fault, post_fault_or, post_faults_or, posted, removal_value, rows_left, spawn_value, units_fault, unless, wide_cell}
use Rattle.sgl_typed.specs.declared.script.TScript.{TScript}
use Rattle.sgl_values.specs.declared.item.Item.{Item}
use Rattle.env_table.specs.Pushes.{IsRefusedWith}
use Rattle.env_table.specs.Table.{Building, with_row, with_row_if}
use Rattle.env_table.specs.declared.builder.PushFault.{PushFault}
use Rattle.env_table.specs.declared.builder.PushFault.TheVariants.{Full, Key, Memory}
use Rattle.tick_postprocess.specs.Answer.{told}
use Rattle.tick_postprocess.specs.Rows.{births, bit, fate_or, first_of, shortage_of, Bears, CanPush, Grows, IsRising, Puts, PutsAll, Tells}
use Rattle.tick_postprocess.specs.Runs.{IsRunOf, PutsRun}
use Rattle.tick_postprocess.specs.declared.next_world.Counts.{Counts}
use Rattle.tick_postprocess.specs.declared.fault.PostFault.{PostFault}
use Rattle.tick_postprocess.specs.declared.rules.Fate.{Fate}
use Rattle.tick_postprocess.proofs.CellSteps.{combined-length, combined_at, no_cells}

-- ---- one row

fault_kept : (key : ℕ) (least : Option Fault) (other : Option TickFault) (fault : TickFault) → post_fault_or key least None ≡ Some fault → post_fault_or key least other ≡ Some fault
fault_kept key None other fault h = grind (arith, h)
fault_kept key (Some f) other fault h = h

row_kept : (p : Posted) (old : Building) (stays : Bool) (rest : List Row)
    → old.table.world.rows ++ cond stays (p.row ∷ rest) rest ≡ (with_row_if stays old p.row.key p.row.values).table.world.rows ++ rest
row_kept p old true rest = sym (append_assoc old.table.world.rows (p.row ∷ []) rest)
row_kept p old false rest = refl

-- a row with a fault
pub far_fault : (all : List Posted) (first i children : ℕ) (p : Posted) (old new : Building) (fault : PostFault) → i < length all → p ≡ get_or all i p
    → IsRunOf all first i old.table.world.rows children → Puts p old (Err fault) new → post_fault (drop first all) ≡ Some (told fault)
far_fault all first i children p old new fault lt is far put =
    far.faults
    ∙ at_drop_more post_fault all i p lt
    ∙ ap (λ (q : Posted). post_fault_or q.row.key (least_of fault_cmp q.faults) (post_fault (drop (i + 1) all))) (sym is)
    ∙ fault_kept p.row.key (least_of fault_cmp p.faults) (post_fault (drop (i + 1) all)) (told fault) put

-- a row without one
pub far_more : (all : List Posted) (first i children more : ℕ) (p : Posted) (old new : Building) (fate : Fate) → i < length all → p ≡ get_or all i p → more ≡ children + bit fate.spawns
    → IsRunOf all first i old.table.world.rows children → Puts p old (Ok fate) new → IsRunOf all first (i + 1) new.table.world.rows more
far_more all first i children more p old new fate lt is sum far put = record {
  faults =
      far.faults
      ∙ at_drop_more post_fault all i p lt
      ∙ ap (λ (q : Posted). post_fault_or q.row.key (least_of fault_cmp q.faults) (post_fault (drop (i + 1) all))) (sym is)
      ∙ ap (λ f. post_fault_or p.row.key f (post_fault (drop (i + 1) all))) put.0;
  left =
      far.left
      ∙ ap (λ rows. old.table.world.rows ++ rows)
      (at_drop_more rows_left all i p lt ∙ ap (λ (q : Posted). cond q.stays (q.row ∷ rows_left (drop (i + 1) all)) (rows_left (drop (i + 1) all))) (sym is))
      ∙ row_kept p old p.stays (rows_left (drop (i + 1) all))
      ∙ ap (λ (b : Building). b.table.world.rows ++ rows_left (drop (i + 1) all)) (sym put.2);
  born =
      let here : births (drop i all) ≡ bit p.spawns + births (drop (i + 1) all) =
      at_drop_more births all i p lt ∙ ap (λ (q : Posted). bit q.spawns + births (drop (i + 1) all)) (sym is) in
      let same : bit fate.spawns ≡ bit p.spawns = ap bit put.1 in
      omega (arith, far.born, here, same, sum);
}

pub far_start : (all : List Posted) (first : ℕ) (rows : List Row) → rows ≡ [] → IsRunOf all first first rows 0
far_start all first rows empty = record { faults = refl; left = ap (λ (r : List Row). r ++ rows_left (drop first all)) (sym empty); born = omega arith }

far_end : (all : List Posted) (end children : ℕ) (rows : List Row) → length all ≤ end → IsRunOf all 0 end rows children
    → (post_fault all ≡ None) × (rows ≡ rows_left all) × (children ≡ births all)
far_end all end children rows past far = (
  far.faults ∙ at_drop_all post_fault all end past,
  sym (far.left ∙ ap (λ rest. rows ++ rest) (at_drop_all rows_left all end past) ∙ append-nil rows),
  omega (arith, far.born, at_drop_all births all end past),
)

-- a run of all rows
pub far_all : (all : List Posted) (end : ℕ) (result : Result Counts PostFault) (new : Building) → length all ≤ end → PutsRun all 0 end result new.table.world.rows → PutsAll all result new
far_all all end (Err fault) new past puts = puts
far_all all end (Ok counts) new past puts = far_end all end counts.children new.table.world.rows past puts

-- ---- children

-- The children of the rows before this number are put behind the first rows; the last of them has this key, and so many
-- are left.
pub record IsBornSoFar (all : List Posted) (i first last left : ℕ) (start rows : List Row) : Type 0 where
  pub rows_are : start ++ children_behind first all ≡ rows ++ children_behind last (drop i all)
  pub left_are : left ≡ births (drop i all)

child_kept : (old : Building) (last : ℕ) (child : List ℤ) (spawns : Bool) (rest : ℕ → List Row)
    → old.table.world.rows ++ cond spawns (record { key = last + 1; values = child } ∷ rest (last + 1)) (rest last)
    ≡ (with_row_if spawns old (last + 1) child).table.world.rows ++ rest (last + bit spawns)
child_kept old last child true rest = sym (append_assoc old.table.world.rows (record { key = last + 1; values = child } ∷ []) (rest (last + 1)))
child_kept old last child false rest = ap (λ n. old.table.world.rows ++ rest n) (omega arith)

here_born : (all : List Posted) (i : ℕ) (p : Posted) → i < length all → p ≡ get_or all i p → births (drop i all) ≡ bit p.spawns + births (drop (i + 1) all)
here_born all i p lt is = at_drop_more births all i p lt ∙ ap (λ (q : Posted). bit q.spawns + births (drop (i + 1) all)) (sym is)

here_behind : (all : List Posted) (i last : ℕ) (p : Posted) → i < length all → p ≡ get_or all i p
    → children_behind last (drop i all) ≡ cond p.spawns (record { key = last + 1; values = p.child } ∷ children_behind (last + 1) (drop (i + 1) all)) (children_behind last (drop (i + 1) all))
here_behind all i last p lt is =
    at_drop_more (children_behind last) all i p lt
    ∙ ap (λ (q : Posted). cond q.spawns (record { key = last + 1; values = q.child } ∷ children_behind (last + 1) (drop (i + 1) all)) (children_behind last (drop (i + 1) all))) (sym is)

pub born_more : (all : List Posted) (i first last left next less : ℕ) (p : Posted) (start : List Row) (old new : Building) (born : Bool) → i < length all → p ≡ get_or all i p
    → next ≡ last + bit born → less + bit born ≡ left
    → IsBornSoFar all i first last left start old.table.world.rows → Bears p (last + 1) old born new → IsBornSoFar all (i + 1) first next less start new.table.world.rows
born_more all i first last left next less p start old new born lt is sum difference far bears =
    let same : bit born ≡ bit p.spawns = ap bit bears.0 in
    record {
      rows_are =
          far.rows_are
          ∙ ap (λ rows. old.table.world.rows ++ rows) (here_behind all i last p lt is)
          ∙ child_kept old last p.child p.spawns (λ n. children_behind n (drop (i + 1) all))
          ∙ ap (λ (b : Building). b.table.world.rows ++ children_behind (last + bit p.spawns) (drop (i + 1) all)) (sym bears.1)
          ∙ ap (λ (n : ℕ). new.table.world.rows ++ children_behind n (drop (i + 1) all)) (omega (arith, same, sum));
      left_are = omega (arith, far.left_are, here_born all i p lt is, same, difference);
    }

no_child : (spawns : Bool) (some none : List Row) → bit spawns ≡ 0 → cond spawns some none ≡ none
no_child true some none h = absurd (omega (arith, h))
no_child false some none h = refl

-- no child is left
pub born_skip : (all : List Posted) (i first last left next less : ℕ) (p : Posted) (start rows new : List Row) → i < length all → p ≡ get_or all i p → left ≡ 0
    → next ≡ last → less ≡ left → new ≡ rows → IsBornSoFar all i first last left start rows → IsBornSoFar all (i + 1) first next less start new
born_skip all i first last left next less p start rows new lt is none next_is less_is new_is far =
    let here = here_born all i p lt is in
    record {
      rows_are =
          far.rows_are
          ∙ ap (λ more. rows ++ more)
          (here_behind all i last p lt is
          ∙ no_child p.spawns (record { key = last + 1; values = p.child } ∷ children_behind (last + 1) (drop (i + 1) all)) (children_behind last (drop (i + 1) all)) (omega (arith, here, far.left_are, none)))
          ∙ (λ k. sym new_is k ++ children_behind (sym next_is k) (drop (i + 1) all));
      left_are = omega (arith, here, far.left_are, none, less_is);
    }

pub born_start : (all : List Posted) (first left : ℕ) (start : List Row) → left ≡ births all → IsBornSoFar all 0 first first left start start
born_start all first left start is = record { rows_are = refl; left_are = is }

pub born_end : (all : List Posted) (i first last left : ℕ) (start rows : List Row) → length all ≤ i → IsBornSoFar all i first last left start rows → rows ≡ start ++ children_behind first all
born_end all i first last left start rows past far =
    sym (far.rows_are ∙ ap (λ rest. rows ++ rest) (at_drop_all (children_behind last) all i past) ∙ append-nil rows)

born_length : (row : Row) (more rows : List Row) (spawns : Bool) (count : ℕ) → length more ≡ count → length rows ≡ count → length (cond spawns (row ∷ more) rows) ≡ bit spawns + count
born_length row more rows true count some others = omega (arith, some)
born_length row more rows false count some others = omega (arith, others)

pub births_length : (last : ℕ) (all : List Posted) → length (children_behind last all) ≡ births all
births_length last [] = refl
births_length last (p ∷ ps) =
    born_length record { key = last + 1; values = p.child } (children_behind (last + 1) ps) (children_behind last ps) p.spawns (births ps) (births_length (last + 1) ps) (births_length last ps)

no_rows : (rows : List Row) → length rows ≡ 0 → rows ≡ []
no_rows [] none = refl
no_rows (row ∷ rows) none = absurd (omega (arith, none))

-- no row has a child
pub born_none : (all : List Posted) (last : ℕ) (rows : List Row) → births all ≡ 0 → rows ≡ rows ++ children_behind last all
born_none all last rows none =
    sym (ap (λ more. rows ++ more) (no_rows (children_behind last all) (births_length last all ∙ none)) ∙ append-nil rows)

pub bit_le : (b : Bool) → bit b ≤ 1
bit_le true = omega arith
bit_le false = omega arith

-- ---- the end

unless_two : (first second : Option TickFault) (other : Result World TickFault) → unless first (unless second other) ≡ unless (first_of first second) other
unless_two None second other = refl
unless_two (Some fault) second other = refl

-- the end of a tick, by how many rows stay and how many have a child
pub ended : (world : World) (all : List Posted) (rows : List Row) (stay children : ℕ) → post_fault all ≡ None → rows ≡ rows_left all → length rows ≡ stay → children ≡ births all
    → after_post world all ≡ unless (shortage_of world.last_key stay children) (Ok (next_world world rows (children_behind world.last_key all)))
ended world all rows stay children none left stays born =
    let behind = children_behind world.last_key all in
    let count : length behind ≡ children = births_length world.last_key all ∙ sym born in
    (λ i. unless (none i) (after_rows world (sym left i) behind))
    ∙ unless_two (keys_fault world.last_key (length behind)) (units_fault (length rows + length behind)) (Ok (next_world world rows behind))
    ∙ (λ i. unless (shortage_of world.last_key (stays i) (count i)) (Ok (next_world world rows behind)))

pub refused : (world : World) (all : List Posted) (rows : List Row) (stay children : ℕ) (fault : PostFault) → post_fault all ≡ None → rows ≡ rows_left all → length rows ≡ stay → children ≡ births all
    → Some (told fault) ≡ shortage_of world.last_key stay children → Err (told fault) ≡ after_post world all
refused world all rows stay children fault none left stays born short =
    ap (λ f. unless f (Ok (next_world world rows (children_behind world.last_key all)))) short ∙ sym (ended world all rows stay children none left stays born)

pub finished_with : (world next : World) (all : List Posted) (rows : List Row) (stay children : ℕ) → post_fault all ≡ None → rows ≡ rows_left all → length rows ≡ stay → children ≡ births all
    → None ≡ shortage_of world.last_key stay children
    → next.tick ≡ world.tick + 1 → next.last_key ≡ world.last_key + children → next.rows ≡ rows ++ children_behind world.last_key all → Ok next ≡ after_post world all
finished_with world next all rows stay children none left stays born short tick last more =
    let behind = children_behind world.last_key all in
    let count : length behind ≡ children = births_length world.last_key all ∙ sym born in
    (λ i. Ok record { tick = tick i; last_key = (last ∙ ap (λ n. world.last_key + n) (sym count)) i; rows = more i })
    ∙ ap (λ f. unless f (Ok (next_world world rows behind))) short
    ∙ sym (ended world all rows stay children none left stays born)

-- ---- faults

-- where a first fault would be told and nothing is told, there is no first one
none_first : {A B : Type 0} (tell : Option A → Option B) → ((fault : A) → tell (Some fault) ≡ None → ⊥) → (first : Option A) → tell first ≡ None → first ≡ None
none_first tell told None h = refl
none_first tell told (Some fault) h = absurd (told fault h)

-- and nothing else is told
none_rest : {A B : Type 0} (tell : Option A → Option B) → ((fault : A) → tell (Some fault) ≡ None → ⊥) → (first : Option A) → tell first ≡ None → tell None ≡ None
none_rest tell told first h = subst (λ o. tell o ≡ None) (none_first tell told first h) h

post_told : (key : ℕ) (other : Option TickFault) (fault : Fault) → post_fault_or key (Some fault) other ≡ None → ⊥
post_told key other fault h = absurd (cc)

cell_told : (key : ℕ) (other : Option TickFault) (attr : ℕ) → cell_fault_or key (Some attr) other ≡ None → ⊥
cell_told key other attr h = absurd (cc)

pub no_fault_at : (all : List Posted) (i : ℕ) (p : Posted) → i < length all → post_fault all ≡ None → p ≡ get_or all i p → least_of fault_cmp p.faults ≡ None
no_fault_at all i p lt none is = ap (λ (q : Posted). least_of fault_cmp q.faults) is ∙ at all i lt none
  where
    at : (all : List Posted) (i : ℕ) → i < length all → post_fault all ≡ None → least_of fault_cmp (get_or all i p).faults ≡ None
    at [] i lt none = absurd (omega arith)
    at (q ∷ all) zero lt none = none_first (λ least. post_fault_or q.row.key least (post_fault all)) (post_told q.row.key (post_fault all)) (least_of fault_cmp q.faults) none
    at (q ∷ all) (suc i) lt none =
        at all i (omega arith) (none_rest (λ least. post_fault_or q.row.key least (post_fault all)) (post_told q.row.key (post_fault all)) (least_of fault_cmp q.faults) none)

least_append : (xs ys : List Fault) → least_of fault_cmp (xs ++ ys) ≡ lesser_of fault_cmp (least_of fault_cmp xs) (least_of fault_cmp ys)
least_append [] ys = refl
least_append (x ∷ xs) ys =
    ap (lesser_of fault_cmp (Some x)) (least_append xs ys) ∙ sym (lesser_assoc fault_cmp fault_total (Some x) (least_of fault_cmp xs) (least_of fault_cmp ys))

-- a fault of the right sides is told
pub first_told : (first later : List Fault) (fault : Fault) → least_of fault_cmp first ≡ Some fault → least_of fault_cmp (post_faults_or first later) ≡ Some fault
first_told [] later fault h = absurd (cc)
first_told (x ∷ xs) later fault h = h

-- without one, the least of the later faults
pub later_told : (first spawning removal : List Fault) → least_of fault_cmp first ≡ None
    → least_of fault_cmp (post_faults_or first (spawning ++ removal)) ≡ lesser_of fault_cmp (least_of fault_cmp spawning) (least_of fault_cmp removal)
later_told first spawning removal h =
    ap (λ faults. least_of fault_cmp (post_faults_or faults (spawning ++ removal))) (least_none fault_cmp first h) ∙ least_append spawning removal

-- what is told of a row, by its later faults
pub tells_later : (p : Posted) (least : Option Fault) (stays spawns : Bool) (values child : List ℤ) (result : Result Fate Fault) → result ≡ fate_or least stays spawns
    → least_of fault_cmp p.faults ≡ least → stays ≡ p.stays → spawns ≡ p.spawns → values ≡ p.row.values → (p.spawns ≡ true → child ≡ p.child) → Tells p result values child
tells_later p least stays spawns values child result is told stay spawn new born = subst (λ r. Tells p r values child) (sym is) (by least told)
  where
    by : (least : Option Fault) → least_of fault_cmp p.faults ≡ least → Tells p (fate_or least stays spawns) values child
    by None said = (said, stay, spawn, new, born)
    by (Some fault) said = said

-- a condition that is not there is false
pub no_spawn : (spawn : Option TSpawn) (c : Context) → is_some spawn ≡ false → spawn_value spawn c ≡ B false
no_spawn None c none = refl
no_spawn (Some spawn) c none = absurd (cc)

pub no_removal : (removal : Option TExpr) (c : Context) → is_some removal ≡ false → removal_value removal c ≡ B false
no_removal None c none = refl
no_removal (Some removal) c none = absurd (cc)

pub no_fault : (fault : Option Fault) → is_some fault ≡ false → fault ≡ None
no_fault None none = refl
no_fault (Some fault) none = absurd (cc)

-- ---- cells

pub none_wide : (all : List CombinedRow) (i : ℕ) → i < length all → cell_fault all ≡ None → wide_cell 0 (get_or all i no_cells).cells ≡ None
none_wide [] i lt h = absurd (omega arith)
none_wide (c ∷ all) zero lt h = none_first (λ wide. cell_fault_or c.row.key wide (cell_fault all)) (cell_told c.row.key (cell_fault all)) (wide_cell 0 c.cells) h
none_wide (c ∷ all) (suc i) lt h =
    none_wide all i (omega arith) (none_rest (λ wide. cell_fault_or c.row.key wide (cell_fault all)) (cell_told c.row.key (cell_fault all)) (wide_cell 0 c.cells) h)

-- ---- keys and pushes

rise_push : (low last : ℕ) (rows : List Row) (row : Row) → low < row.key → last < row.key → KeysUpTo last rows → KeysRise low rows → KeysRise low (rows ++ row ∷ [])
rise_push low last [] row above over up rise = (above, tt)
rise_push low last (first ∷ rows) row above over up (more, rise) =
    let under = All-head (λ (r : Row). r.key ≤ last) first rows up in
    (more, rise_push first.key last rows row (omega (arith, under, over)) over (All-tail (λ r. r.key ≤ last) first rows up) rise)

rising_push : (low : ℕ) (old : Building) (key : ℕ) (values : List ℤ) → old.table.world.last_key < key → low < key → IsRising low old → IsRising low (with_row old key values)
rising_push low old key values over above are = record {
  rising = rise_push low old.table.world.last_key old.table.world.rows record { key = key; values = values } above over are.up_to are.rising;
  up_to =
      All-push (λ row. row.key ≤ key) old.table.world.rows record { key = key; values = values }
      (All-weaker (λ row. row.key ≤ old.table.world.last_key) (λ row. row.key ≤ key) (λ row under. omega (arith, under, over)) old.table.world.rows are.up_to) (omega arith);
}

pub pushed : (old new : Building) (key width : ℕ) (values : List ℤ) (result : Result (Unit {0}) PushFault) → CanPush old key width
    → OnOk result (new ≡ with_row old key values) → IfErr result (IsRefusedWith old key) → new ≡ with_row old key values
pushed old new key width values (Ok done) can ok err = ok
pushed old new key width values (Err Full) can ok err = absurd (omega (arith, can.few, err))
pushed old new key width values (Err (Key last)) can ok err = absurd (omega (arith, can.above, err.told, err.not_above))
pushed old new key width values (Err Memory) can ok err = absurd (omega (arith, can.room, err.1))

pub grown : (old : Building) (key width : ℕ) (values : List ℤ) (put : Bool) → CanPush old key width → Grows old (with_row_if put old key values) key (bit put)
grown old key width values true can = record {
  width = refl;
  tick = refl;
  rows = length-append old.table.world.rows (record { key = key; values = values } ∷ []);
  room = omega arith;
  last = omega arith;
  keys = λ low above are. rising_push low old key values can.above above are;
}
grown old key width values false can = record {
  width = refl;
  tick = refl;
  rows = omega arith;
  room = omega arith;
  last = omega (arith, can.above);
  keys = λ low above are. are;
}

-- ---- the rows of a world

pub all_length : (script : TScript) (items : List Item) (world : World) (seed : ℕ) → length (map (posted script world seed) (combined_from script items 0 world.rows)) ≡ length world.rows
all_length script items world seed = length-map (combined_from script items 0 world.rows) (posted script world seed) ∙ combined-length script items 0 world.rows

combined_is : (script : TScript) (items : List Item) (world : World) (i : ℕ) → i < length world.rows
    → get_or (combined_from script items 0 world.rows) i no_cells ≡ record { row = row_at world i; cells = cells_from items i 0 script.schema.effects }
combined_is script items world i lt =
    combined_at script items 0 world.rows i lt ∙ ap (λ (n : ℕ). record { row = row_at world i; cells = cells_from items n 0 script.schema.effects }) (omega arith)

pub none_at : (script : TScript) (items : List Item) (world : World) (i : ℕ) → i < length world.rows → cell_fault (combined_from script items 0 world.rows) ≡ None
    → wide_cell 0 (cells_from items i 0 script.schema.effects) ≡ None
none_at script items world i lt none =
    ap (λ (c : CombinedRow). wide_cell 0 c.cells) (sym (combined_is script items world i lt))
    ∙ none_wide (combined_from script items 0 world.rows) i (omega (arith, combined-length script items 0 world.rows)) none

abbrev pub combined_row : TScript → List Item → World → ℕ → CombinedRow
combined_row script items world i = record { row = row_at world i; cells = cells_from items i 0 script.schema.effects }

pub posted_at : (script : TScript) (items : List Item) (world : World) (seed i : ℕ) (d : Posted) → i < length world.rows
    → posted script world seed record { row = row_at world i; cells = cells_from items i 0 script.schema.effects } ≡ get_or (map (posted script world seed) (combined_from script items 0 world.rows)) i d
posted_at script items world seed i d lt =
    ap (posted script world seed) (sym (combined_is script items world i lt))
    ∙ sym (get_or-map (posted script world seed) (combined_from script items 0 world.rows) i no_cells d (omega (arith, combined-length script items 0 world.rows)))

-- ---- scripts

pub narrow : (s : TScript) → length s.schema.effects ≤ 16
narrow s = leb-true _ _ (and_parts _ _ (and_parts _ _ (and_parts _ _ s.schema.fits).0).0).1
