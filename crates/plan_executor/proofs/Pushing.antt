-- Items that are told and given one after the other.
use Rattle.std.proofs.Common.{◌≡◌, ℕ, ◌+◌, ◌<◌, ◌≤◌, ◌==◌, nat_lt, cond, Bool, true, false, ◌&&◌, List, [], ◌∷◌, ◌++◌, length, length-append, drop, get_or, map, sym, refl, ap, ◌∙◌, subst, arith, append_assoc}
use Rattle.std.specs.List.{list_all}
use Rattle.std.specs.Prelude.{Option, Some, None, flat_map}
use Rattle.std.proofs.lemmas.List.{append-nil, at_drop_more, at_drop_all}
use Rattle.std.proofs.lemmas.Bool.{false≢true, ne_eqb}
use Rattle.std.proofs.lemmas.Bool.Decides.{nat_tests}
use Rattle.sgl_values.specs.Amounts.{Amount}
use Rattle.sgl_values.specs.Cells.{amounts}
use Rattle.sgl_values.specs.Least.{least_of, lesser_of}
use Rattle.sgl_values.specs.ItemOrder.{item_fault_cmp}
use Rattle.sgl_values.specs.declared.item.Item.{Item}
use Rattle.sgl_values.specs.declared.item.Item.TheVariants.{Effect}
use Rattle.sgl_values.specs.declared.item.ItemFault.{ItemFault}
use Rattle.sgl_typed.specs.Tick.{item_faults}
use Rattle.effect_combine.specs.Combined.{tag_at}
use Rattle.effect_combine.specs.Words.{word_for}
use Rattle.effect_combine.specs.declared.cell.Cell.{Cell}
use Rattle.effect_board.specs.declared.view.View.{View}
use Rattle.plan_executor.specs.Giving.{IsGiven}
use Rattle.task_scratch.specs.Job.{item_fits}
use Rattle.task_scratch.proofs.Joining.{least-append, fit-append}
use Rattle.tick_core.proofs.Standing.{amounts-append}
use Rattle.plan_executor.specs.Sinking.{Bounds, State, Holds, Pushes, Leads}

-- ---- lists of items

pub Pushes_nothing : (bounds : Bounds) (state : State) → Pushes bounds state state []
Pushes_nothing bounds state = record { pushes = λ before start items holds. subst (Holds bounds before start state) (sym (append-nil items)) holds }

pub Pushes_append : {bounds : Bounds} {a b c : State} {xs ys : List Item} → Pushes bounds a b xs → Pushes bounds b c ys → Pushes bounds a c (xs ++ ys)
Pushes_append {bounds = bounds} {c = c} {xs = xs} {ys = ys} first second = record {
  pushes = λ before start items holds. subst (Holds bounds before start c) (append_assoc items xs ys) (second.pushes before start (items ++ xs) (first.pushes before start items holds));
}

-- past the limit nothing more is told
pub Pushes_over : (bounds : Bounds) (state : State) (more : List Item) → state.over ≡ true → Pushes bounds state state more
Pushes_over bounds state more full = record {
  pushes = λ before start items holds.
      let long : length (items ++ more) ≡ length items + length more = length-append items more in
      let now : nat_lt bounds.limit (before + length items) ≡ true = sym holds.over ∙ full in
      let later : nat_lt bounds.limit (before + length (items ++ more)) ≡ true = grind (arith, nat_tests, long, now) in
      record {
        gives = holds.gives;
        added = holds.added;
        over = full ∙ sym later;
        whole = λ not_over. absurd (false≢true (sym not_over ∙ full));
      };
}

pub Leads-start : (bounds : Bounds) (state : State) (whole : List Item) → Leads bounds state state whole whole
Leads-start bounds state whole = record { leads = λ final adds. adds }

pub Leads-more : {bounds : Bounds} {start now next : State} {xs rest whole : List Item} → Leads bounds start now (xs ++ rest) whole → Pushes bounds now next xs → Leads bounds start next rest whole
Leads-more before adds = record { leads = λ final rest. before.leads final (Pushes_append adds rest) }

pub Leads-end : {bounds : Bounds} {start now : State} {whole : List Item} → Leads bounds start now [] whole → Pushes bounds start now whole
Leads-end {bounds = bounds} {now = now} before = before.leads now (Pushes_nothing bounds now)

pub Leads-over : {bounds : Bounds} {start now : State} {rest whole : List Item} → now.over ≡ true → Leads bounds start now rest whole → Pushes bounds start now whole
Leads-over {bounds = bounds} {now = now} {rest = rest} full before = before.leads now (Pushes_over bounds now rest full)

module _ {A : Type 0} {bounds : Bounds} {start now : State} {whole : List Item} where
  -- a loop that gives a list for each element
  pub flat_map_more : {next : State} (f : A → List Item) (xs : List A) (i : ℕ) (x : A) → i < length xs → x ≡ get_or xs i x
      → Leads bounds start now (flat_map f (drop i xs)) whole → Pushes bounds now next (f x) → Leads bounds start next (flat_map f (drop (i + 1) xs)) whole
  flat_map_more f xs i x lt is before adds =
      let rest : flat_map f (drop i xs) ≡ f x ++ flat_map f (drop (i + 1) xs) =
      at_drop_more (flat_map f) xs i x lt ∙ ap (λ y. f y ++ flat_map f (drop (i + 1) xs)) (sym is) in
      Leads-more (subst (λ left. Leads bounds start now left whole) rest before) adds

  pub flat_map_end : (f : A → List Item) (xs : List A) (i : ℕ) → length xs ≤ i → Leads bounds start now (flat_map f (drop i xs)) whole → Pushes bounds start now whole
  flat_map_end f xs i le before = Leads-end (subst (λ left. Leads bounds start now left whole) (at_drop_all (flat_map f) xs i le) before)

-- ---- one item

abbrev passed : State → State
passed state = record state { over = true }

-- an item that is past the limit
pub pushed_past : (bounds : Bounds) (old : State) (item : Item) → (old.over ≡ false → bounds.limit ≤ old.items) → Pushes bounds old (passed old) (item ∷ [])
pushed_past bounds old item past = record {
  pushes = λ before start items holds. record {
    gives = holds.gives;
    added = holds.added;
    over = sym (later before start items holds old.over refl);
    whole = λ not_over. absurd (false≢true (sym not_over));
  };
}
  where
    later : (before : ℕ) (start : View) (items : List Item) → Holds bounds before start old items → (t : Bool) → old.over ≡ t → nat_lt bounds.limit (before + length (items ++ item ∷ [])) ≡ true
    later before start items holds true is =
        let long : length (items ++ item ∷ []) ≡ length items + 1 = length-append items (item ∷ []) in
        let now : nat_lt bounds.limit (before + length items) ≡ true = sym holds.over ∙ is in
        grind (arith, nat_tests, long, now)
    later before start items holds false is =
        let long : length (items ++ item ∷ []) ≡ length items + 1 = length-append items (item ∷ []) in
        let reached : bounds.limit ≤ old.items = past is in
        let counted : old.items ≡ before + length items = (holds.whole is).counted in
        grind (arith, nat_tests, long, reached, counted)

-- items within the limit, whatever they give
pub pushed_many : (bounds : Bounds) (old new : State) (more : List Item) → old.over ≡ false → old.items + length more ≤ bounds.limit → new.over ≡ false → new.items ≡ old.items + length more
    → new.least ≡ lesser_of item_fault_cmp old.least (least_of item_fault_cmp (item_faults more)) → list_all item_fits more ≡ true
    → ((start : View) (items : List Item) → IsGiven bounds.rows bounds.tags start old.view old.cells items → IsGiven bounds.rows bounds.tags start new.view new.cells (items ++ more))
    → Pushes bounds old new more
pushed_many bounds old new more fresh room still counted least fit given = record {
  pushes = λ before start items holds.
      let whole = holds.whole fresh in
      let gave = given start items record { gives = holds.gives; added = holds.added; stand = whole.stand } in
      let longer : length (items ++ more) ≡ length items + length more = length-append items more in
      let before_is : old.items ≡ before + length items = whole.counted in
      let within : nat_lt bounds.limit (before + length (items ++ more)) ≡ false = grind (arith, nat_tests, longer, before_is, room) in
      record {
        gives = gave.gives;
        added = gave.added;
        over = still ∙ sym within;
        whole = λ not_over. record {
          counted = omega (arith, longer, before_is, counted);
          least = least ∙ ap (λ l. lesser_of item_fault_cmp l (least_of item_fault_cmp (item_faults more))) whole.least ∙ sym (least-append items more);
          fit = fit-append items more ∙ (λ i. whole.fit i && fit i);
          stand = gave.stand;
        };
      };
}

-- and one item
pub pushed_within : (bounds : Bounds) (old new : State) (item : Item) → old.over ≡ false → old.items < bounds.limit → new.over ≡ false → new.items ≡ old.items + 1
    → new.least ≡ lesser_of item_fault_cmp old.least (least_of item_fault_cmp (item_faults (item ∷ []))) → item_fits item ≡ true
    → ((start : View) (items : List Item) → IsGiven bounds.rows bounds.tags start old.view old.cells items → IsGiven bounds.rows bounds.tags start new.view new.cells (items ++ item ∷ []))
    → Pushes bounds old new (item ∷ [])
pushed_within bounds old new item fresh room still more least fit given =
    pushed_many bounds old new (item ∷ []) fresh (omega (arith, room)) still more least (λ i. fit i && true) given

-- an item that has no amount for a cell of the board
pub lost_given : (bounds : Bounds) (view : View) (cells : List Cell) (item : Item) → ((row attr : ℕ) → attr < length bounds.tags → amounts (item ∷ []) row attr ≡ [])
    → (start : View) (items : List Item) → IsGiven bounds.rows bounds.tags start view cells items → IsGiven bounds.rows bounds.tags start view cells (items ++ item ∷ [])
lost_given bounds view cells item none start items given = record {
  gives = given.gives;
  added = given.added;
  stand = λ row attr in_rows in_tags.
      given.stand row attr in_rows in_tags
      ∙ ap (word_for (tag_at bounds.tags attr)) (sym (amounts-append items (item ∷ []) row attr ∙ ap (λ more. amounts items row attr ++ more) (none row attr in_tags) ∙ append-nil (amounts items row attr)));
}

and_false : (a : Bool) → (a && false) ≡ false
and_false true = refl
and_false false = refl

pub lost_effect : (n r a : ℕ) (amount : Amount) → n ≤ a → (row attr : ℕ) → attr < n → amounts (Effect r a amount ∷ []) row attr ≡ []
lost_effect n r a amount past row attr inside =
    let other : (a == attr) ≡ false = ne_eqb a attr (λ e. omega (arith, e, past, inside)) in
    ap (λ b. cond ((r == row) && b) (amount ∷ []) []) other ∙ ap (λ b. cond b (amount ∷ []) []) (and_false (r == row))

-- no fault more
pub no_more : (least : Option ItemFault) → lesser_of item_fault_cmp least None ≡ least
no_more None = refl
no_more (Some fault) = refl

module _ {A : Type 0} {bounds : Bounds} {start now : State} {whole : List Item} where
  -- a loop that gives one item for each element
  pub map_more : {next : State} {item : Item} (f : A → Item) (xs : List A) (i : ℕ) (x : A) → i < length xs → x ≡ get_or xs i x
      → Leads bounds start now (map f (drop i xs)) whole → Pushes bounds now next (item ∷ []) → item ≡ f x → Leads bounds start next (map f (drop (i + 1) xs)) whole
  map_more {next = next} f xs i x lt is before adds same =
      let rest : map f (drop i xs) ≡ (f x ∷ []) ++ map f (drop (i + 1) xs) =
      at_drop_more (map f) xs i x lt ∙ ap (λ y. f y ∷ map f (drop (i + 1) xs)) (sym is) in
      Leads-more (subst (λ left. Leads bounds start now left whole) rest before) (subst (λ y. Pushes bounds now next (y ∷ [])) same adds)

  pub map_end : (f : A → Item) (xs : List A) (i : ℕ) → length xs ≤ i → Leads bounds start now (map f (drop i xs)) whole → Pushes bounds start now whole
  map_end f xs i le before = Leads-end (subst (λ left. Leads bounds start now left whole) (at_drop_all (map f) xs i le) before)
