-- Sorted groups over partitions on a shelf.
use Rattle.std.proofs.Common.{◌≡◌, ℕ, true, false, ◌+◌, ◌≤◌, List, [], ◌∷◌, ◌++◌, get_or, length, map, inl, inr, ap, sym, ◌∙◌, subst, arith, Option, None, Some}
use Rattle.std.specs.Prelude.{◌<◌, filter, slice_get, slice_index_or, All, IfSome}
use Rattle.std.proofs.lemmas.Bool.{cases_lt}
use Rattle.std.proofs.lemmas.List.{get_or_append_left, get_or_past, get_or_push, length_push}
use Rattle.std.proofs.lemmas.Option.{none-some, same_Some, slice_get-get_or, slice_get_within}
use Rattle.sgl_values.specs.World.{World}
use Rattle.sgl_typed.specs.declared.script.Attr.{Attr}
use Rattle.sgl_typed.specs.declared.script.TScript.{TScript}
use Rattle.sgl_typed.specs.declared.script.TTest.{TTest}
use Rattle.battle_algebra.specs.Ways.{attr_of, x_of, y_of}
use Rattle.battle_algebra.specs.declared.plan.Node.{Node}
use Rattle.test_boxes.specs.Readings.{grouping}
use Rattle.test_boxes.specs.declared.reading.Reading.{Reading}
use Rattle.test_boxes.specs.declared.reading.Reading.TheVariants.{Away, Alike}
use Rattle.row_groups.specs.Groups.{Grouping, IsGroups}
use Rattle.row_groups.specs.Sorted.{IsSorting}
use Rattle.index_set.specs.declared.shelf.Shelf.{Shelf}
use Rattle.index_set.specs.declared.slab.Slab.{Slab}
use Rattle.index_set.specs.declared.slab.SlabUse.{SlabUse}
use Rattle.index_set.specs.declared.slabs.Slabs.{Slabs}
use Rattle.index_set.specs.declared.sorting.Sorting.{Sorting}
use Rattle.index_set.specs.Left.{how_left, is_others, IsLeft}
use Rattle.index_set.specs.declared.left.Left.{Left}
use Rattle.index_set.specs.Shelves.{Grows, HasGroups, IsPartition}
use Rattle.index_set.specs.Slabs.{tests_of, AreOwnUse, AreSlabs, AreUsed, IsOnShelf, IsSlab, IsSorted, IsTaken, IsUse, KeepsSorts}
use Rattle.std.specs.List.Sorted.{IsPermutation}
use Rattle.sgl_values.specs.World.{IsRow}
use Rattle.sgl_typed.specs.Value.{Context}
use Rattle.sgl_evaluate.specs.Rights.{right_of}
use Rattle.row_groups.specs.Groups.{number_of}
use Rattle.row_groups.specs.Keys.{four_of}
use Rattle.test_boxes.specs.declared.asked.AskedBox.{AskedBox}
use Rattle.test_boxes.specs.Forms.{IsAsked}
use Rattle.test_boxes.specs.Ranges.{IsSpan}
use Rattle.index_set.specs.Others.{rows_asked, rows_but}
use Rattle.index_set.specs.Targets.{passing_rows}
use Rattle.index_set.specs.Walks.{row_passes}
use Rattle.index_set.proofs.Apart.{alike_left, away_left, others_all, others_leave, others_left, others_within, strip_past}
use Rattle.index_set.proofs.Shelving.{kept, old_or_last}

-- they stay where the shelf grows
pub slabs_stay : (slabs : Slabs) (old new : Shelf) (world : World) → Grows old new → AreSlabs slabs old world → AreSlabs slabs new world
slabs_stay slabs old new world grows are = record {
  each = λ number sorting h. let on = are.each number sorting h in
      record { groups = on.groups; at = grows.groups sorting.groups on.groups on.at; of = on.of; held = on.held };
}

-- one more
pub slabs_more : (old new : Slabs) (shelf : Shelf) (world : World) (sorting : Sorting) → new.sorts ≡ old.sorts ++ sorting ∷ [] → AreSlabs old shelf world → IsOnShelf shelf sorting world
    → AreSlabs new shelf world
slabs_more old new shelf world sorting pushed are here = record {
  each = λ number found h. elim (old_or_last old.sorts sorting number found (ap (λ l. slice_get l number) (sym pushed) ∙ h)) [
    | inl before ↦ are.each number found before
    | inr same ↦ subst (λ (s : Sorting). IsOnShelf shelf s world) (sym same) here
  ];
}

-- the same sorted groups, whatever the nodes read
pub slabs_same : (old new : Slabs) (shelf : Shelf) (world : World) → new.sorts ≡ old.sorts → AreSlabs old shelf world → AreSlabs new shelf world
slabs_same old new shelf world same are = record { each = λ number sorting h. are.each number sorting (ap (λ l. slice_get l number) (sym same) ∙ h) }

pub partition_there : (shelf : Shelf) (number : ℕ) (attrs : List Attr) → HasGroups shelf number attrs → IsPartition shelf number
partition_there shelf number attrs has = slice_get_within shelf.partitions number has.groups has.at

-- the partition that is taken from the list of a shelf
pub indexed_partition : (given partitions : List Grouping) (number : ℕ) (result : Grouping) → result ≡ get_or given number result → given ≡ partitions → number < length partitions
    → slice_get partitions number ≡ Some result
indexed_partition given partitions number result is same lt =
    slice_get-get_or partitions number result lt ∙ ap Some (sym (is ∙ ap (λ (xs : List Grouping). get_or xs number result) same))

some-is : (x y : Grouping) → Some x ≡ Some y → x ≡ y
some-is x y h = cc

pub sorted_there : (slabs : Slabs) (shelf : Shelf) (world : World) (number : ℕ) (sorting : Sorting) (groups : Grouping) → AreSlabs slabs shelf world
    → slice_get slabs.sorts number ≡ Some sorting → slice_get shelf.partitions sorting.groups ≡ Some groups
    → IsGroups groups groups.attrs world.rows × IsSorting sorting.sorted groups sorting.axis sorting.across world
sorted_there slabs shelf world number sorting groups are at there =
    let on = are.each number sorting at in
    let same : on.groups ≡ groups = some-is on.groups groups (sym on.at ∙ there) in
    (subst (λ (g : Grouping). IsGroups g g.attrs world.rows) same on.of, subst (λ (g : Grouping). IsSorting sorting.sorted g sorting.axis sorting.across world) same on.held)

-- ---- how a slab reads an unequal test

-- where one strip is walked it is not read
pub slab_away : (slab : Slab) (tests : List TTest) (world : World) → IsSlab slab tests world → is_others slab.left ≡ false
    → slab.groups.now.attrs ≡ map attr_of (grouping Away tests)
slab_away slab tests world is one = is.by ∙ ap (λ (how : Reading). map attr_of (grouping how tests)) (away_left slab.left one)

pub slab_few : (slab : Slab) (tests : List TTest) (world : World) → IsSlab slab tests world → is_others slab.left ≡ false
    → length (grouping Away tests) ≤ 4
slab_few slab tests world is one = subst (λ (how : Reading). length (grouping how tests) ≤ 4) (away_left slab.left one) is.few

-- where those of all groups but one are it is read as an equal one
pub slab_alike : (slab : Slab) (tests : List TTest) (world : World) → IsSlab slab tests world → is_others slab.left ≡ true
    → slab.groups.now.attrs ≡ map attr_of (grouping Alike tests)
slab_alike slab tests world is others = is.by ∙ ap (λ (how : Reading). map attr_of (grouping how tests)) (alike_left slab.left others)

-- there are no rows behind the last group
pub slab_past : (c : Context) (tests : List TTest) (width : ℕ) (slab : Slab) (asked : AskedBox) → All (IsRow width) c.world.rows
    → IsSlab slab tests c.world → is_others slab.left ≡ true → IsAsked asked (right_of c) tests
    → (group : ℕ) → length slab.groups.now.lists ≤ group → rows_asked slab.sorted.now asked group ≡ []
slab_past c tests width slab asked fit is others spans =
    strip_past c tests width slab.groups.now slab.sorted.now slab.axis slab.across fit
    (others_left slab.left slab.axis slab.across tests others is.left) (slab_alike slab tests c.world is others) is.sorted.of is.sorted.held asked
    (subst (λ (axis : Option Attr). IsSpan asked.across axis (right_of c) tests) (sym is.axis) spans.across)
    (subst (λ (across : Option Attr). IsSpan asked.down across (right_of c) tests) (sym is.across) spans.down)

-- the rows of the others that lie in the box are those that pass
pub slab_others : (c : Context) (tests : List TTest) (width : ℕ) (slab : Slab) (asked : AskedBox) (own : Option ℕ) (rest : List ℕ)
    → All (IsRow width) c.world.rows → IsSlab slab tests c.world → is_others slab.left ≡ true → IsAsked asked (right_of c) tests
    → number_of slab.groups.now (four_of (map (right_of c) (grouping Alike tests))) ≡ own
    → rest ≡ rows_but own (rows_asked slab.sorted.now asked) 0 (length slab.groups.now.lists)
    → All (λ row. row < length c.world.rows) rest × IsPermutation (passing_rows c tests) (filter (row_passes c tests) rest)
    × All (λ row. row_passes c tests row ≡ true) rest
slab_others c tests width slab asked own rest fit is others spans there rested =
    let left = others_left slab.left slab.axis slab.across tests others is.left in
    let by = slab_alike slab tests c.world is others in
    let across = subst (λ (axis : Option Attr). IsSpan asked.across axis (right_of c) tests) (sym is.axis) spans.across in
    let down = subst (λ (across : Option Attr). IsSpan asked.down across (right_of c) tests) (sym is.across) spans.down in
    let P : List ℕ → Type 0 = λ ns. All (λ row. row < length c.world.rows) ns × IsPermutation (passing_rows c tests) (filter (row_passes c tests) ns)
    × All (λ row. row_passes c tests row ≡ true) ns in
    subst P (sym rested) (
      others_within c tests width slab.groups.now slab.sorted.now slab.axis slab.across fit left by is.sorted.of is.sorted.held asked across down own there,
      others_leave c tests width slab.groups.now slab.sorted.now slab.axis slab.across fit left by is.sorted.of is.sorted.held asked across down own there,
      others_all c tests width slab.groups.now slab.sorted.now slab.axis slab.across fit left by is.sorted.of is.sorted.held asked across down own there,
    )

-- ---- what nodes read

-- the sorted groups of a node are a slab for its tests
pub used_slab : (slab : Slab) (found : SlabUse) (slabs : Slabs) (shelf : Shelf) (tests : List TTest) (world : World)
    → IsUse found slabs shelf tests
    → IsTaken slab slabs shelf found.number → IsSorted slab world → IsSlab (record slab { left = found.left }) tests world
used_slab slab found slabs shelf tests world own taken sorted =
    let one : own.sorting ≡ taken.sorting = same_Some own.sorting taken.sorting (sym own.at ∙ taken.at) in
    let parted : own.groups ≡ slab.groups.now =
    some-is own.groups slab.groups.now (sym own.parted ∙ ap (λ (s : Sorting). slice_get shelf.partitions s.groups) one ∙ taken.parted) in
    record {
      by = ap (λ (groups : Grouping). groups.attrs) (sym parted) ∙ own.by;
      few = own.few;
      axis = taken.axis ∙ ap (λ (s : Sorting). s.axis) (sym one) ∙ own.axis;
      across = taken.across ∙ ap (λ (s : Sorting). s.across) (sym one) ∙ own.across;
      sorted = record { of = sorted.of; held = sorted.held };
      left =
          subst (λ (axis : Option Attr). IsLeft found.left axis slab.across tests) (sym taken.axis)
          (subst (λ (across : Option Attr). IsLeft found.left taken.sorting.axis across tests) (sym taken.across)
          (subst (λ (s : Sorting). IsLeft found.left s.axis s.across tests) one own.left));
    }

-- a slab for tests is sorted groups for them
pub use_left : (slab : Slab) (number : ℕ) (left : Left) (slabs : Slabs) (shelf : Shelf) (tests : List TTest)
    → IsTaken slab slabs shelf number
    → slab.groups.now.attrs ≡ map attr_of (grouping (how_left left) tests) → length (grouping (how_left left) tests) ≤ 4
    → slab.axis ≡ x_of tests → slab.across ≡ y_of tests
    → IsLeft left (x_of tests) (y_of tests) tests
    → IsUse (record { number = number; left = left }) slabs shelf tests
use_left slab number left slabs shelf tests taken by few axis across is = record {
  sorting = taken.sorting;
  groups = slab.groups.now;
  at = taken.at;
  parted = taken.parted;
  by = by;
  few = few;
  axis = sym taken.axis ∙ axis;
  across = sym taken.across ∙ across;
  left = subst (λ (axis : Option Attr). IsLeft left axis taken.sorting.across tests) (sym axis ∙ taken.axis)
      (subst (λ (across : Option Attr). IsLeft left (x_of tests) across tests) (sym across ∙ taken.across) is);
}

pub own_use : (one : Option SlabUse) (slabs : Slabs) (shelf : Shelf) (script : TScript) (acting : Option Node) (tests : List TTest)
    → tests_of script acting ≡ Some tests
    → IfSome one (λ found. IsUse found slabs shelf tests) → AreOwnUse one slabs shelf script acting
own_use one slabs shelf script acting tests at own = λ found others is there.
    subst (λ (ts : List TTest). IsUse found slabs shelf ts) (same_Some tests others (sym at ∙ there))
    (subst (λ (o : Option SlabUse). IfSome o (λ one'. IsUse one' slabs shelf tests)) is own)

-- it stays where sorted groups and partitions do
use-stays : (old new : Slabs) (shelf after : Shelf) (found : SlabUse) (tests : List TTest)
    → ((number : ℕ) (sorting : Sorting) → slice_get old.sorts number ≡ Some sorting → slice_get new.sorts number ≡ Some sorting)
    → ((number : ℕ) (groups : Grouping) → slice_get shelf.partitions number ≡ Some groups → slice_get after.partitions number ≡ Some groups)
    → IsUse found old shelf tests → IsUse found new after tests
use-stays old new shelf after found tests sorts partitions own = record {
  sorting = own.sorting;
  groups = own.groups;
  at = sorts found.number own.sorting own.at;
  parted = partitions own.sorting.groups own.groups own.parted;
  by = own.by;
  few = own.few;
  axis = own.axis;
  across = own.across;
  left = own.left;
}

pub used_stay : (slabs : Slabs) (old new : Shelf) (world : World) (script : TScript) (nodes : List Node) (count : ℕ) → Grows old new
    → AreUsed slabs old world script nodes count
    → AreUsed slabs new world script nodes count
used_stay slabs old new world script nodes count grows used = record {
  all = used.all;
  sorts = slabs_stay slabs old new world grows used.sorts;
  own = λ node found tests is at. use-stays slabs slabs old new found tests (λ number sorting h. h) grows.groups
      (used.own node found tests is at);
}

-- one node more
pub used_more : (old mid new : Slabs) (shelf : Shelf) (world : World) (script : TScript) (nodes : List Node) (node : ℕ)
    (one : Option SlabUse) → KeepsSorts old mid
    → AreSlabs mid shelf world → new.sorts ≡ mid.sorts → new.nodes.items ≡ mid.nodes.items ++ one ∷ []
    → AreUsed old shelf world script nodes node
    → AreOwnUse one mid shelf script (slice_get nodes node) → AreUsed new shelf world script nodes (node + 1)
used_more old mid new shelf world script nodes node one keeps are same pushed before here = record {
  all = ap length items ∙ length_push old.nodes.items one ∙ ap (λ n. n + 1) before.all;
  sorts = slabs_same mid new shelf world same are;
  own = λ n found tests is at. use-stays mid new shelf shelf found tests (λ number sorting h. ap (λ l. slice_get l number) same ∙ h)
      (λ number groups h. h)
      (elim (cases_lt n node) [
        | inl lt ↦ use-stays old mid shelf shelf found tests keeps.sorts (λ number groups h. h)
            (before.own n found tests
            (sym (get_or_append_left old.nodes.items (one ∷ []) None n (omega (arith, lt, before.all)))
            ∙ ap (λ l. slice_index_or l n None) (sym items) ∙ is) at)
        | inr le ↦ elim (cases_lt node n) [
          | inl past ↦ absurd (none-some found
              (sym (get_or_past (old.nodes.items ++ one ∷ []) n None (omega (arith, past, before.all, length_push old.nodes.items one)))
              ∙ ap (λ l. slice_index_or l n None) (sym items) ∙ is))
          | inr most ↦ let last' : n ≡ node = omega (arith, le, most) in
              let this : one ≡ Some found = sym (get_or_push old.nodes.items one None n (before.all ∙ sym last'))
              ∙ ap (λ l. slice_index_or l n None) (sym items) ∙ is in
              here found tests this (ap (λ k. tests_of script (slice_get nodes k)) (sym last') ∙ at)
        ]
      ]);
}
  where
    items : new.nodes.items ≡ old.nodes.items ++ one ∷ []
    items = pushed ∙ ap (λ l. l ++ one ∷ []) keeps.nodes

-- sorted groups stay where one is put behind them
pub sorts_keep : (old new : Slabs) (sorting : Sorting) → new.nodes.items ≡ old.nodes.items → new.sorts ≡ old.sorts ++ sorting ∷ []
    → KeepsSorts old new
sorts_keep old new sorting nodes pushed = record {
  nodes = nodes;
  sorts = λ number found h. ap (λ l. slice_get l number) pushed ∙ kept old.sorts (sorting ∷ []) number found h;
}
