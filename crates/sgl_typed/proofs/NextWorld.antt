-- The rows of a next world.
use Rattle.std.proofs.Common.{◌≡◌, ℕ, suc, zero, ◌+◌, ◌<◌, ◌≤◌, Bool, true, false, cond, List, [], ◌∷◌, ◌++◌, length, map, Option, Some, None, Result, Ok, Err, refl, ◌∙◌, subst, arith, length-append, ltb-false}
use Rattle.std.specs.Prelude.{ℤ, nat_lt}
use Rattle.std.specs.List.{All, Contains}
use Rattle.std.proofs.lemmas.List.Elements.{All-nil, All-append, All-cons, All-head, All-tail, All-weaker, Contains-append_right}
use Rattle.std.proofs.Math.ListN.{length-set}
use Rattle.sgl_values.specs.ItemOrder.{item_fault_cmp}
use Rattle.sgl_values.specs.Least.{least_of}
use Rattle.sgl_values.specs.World.{Row, World, KeysRise, KeysUpTo}
use Rattle.sgl_values.specs.declared.fault.Val.{Val}
use Rattle.sgl_values.specs.declared.fault.Val.TheVariants.{N, B, F}
use Rattle.sgl_values.specs.declared.item.Item.{Item}
use Rattle.sgl_typed.specs.declared.script.TScript.{TScript}
use Rattle.sgl_typed.specs.declared.tick_fault.TickFault.{TickFault}
use Rattle.sgl_typed.specs.declared.tick_fault.TickFault.TheVariants.{Items, KeysSpent, UnitsFull}
use Rattle.sgl_typed.specs.Items.{tick_items}
use Rattle.sgl_typed.specs.Tick.{CombinedRow, Posted, after_cells, after_items, after_post, after_rows, assigned, cell_fault, cells_from, children_behind, combined_from, item_faults, keys_fault, next_world, post_context, post_fault, posted, rows_left, script_fault, spawn_rules, tick, units_fault, unless, with_values}
use Rattle.sgl_typed.specs.Laws.{Follows, KeysCountUp, NextWorldFollows}

-- ---- what stays

lower : (low high : ℕ) (rows : List Row) → low ≤ high → KeysRise high rows → KeysRise low rows
lower low high [] under rise = tt
lower low high (row ∷ rows) under (above, rise) = (omega arith, rise)

width-with_values : (pairs : List (ℕ × Val)) (values : List ℤ) → length (with_values pairs values) ≡ length values
width-with_values [] values = refl
width-with_values ((attr, N z) ∷ more) values = length-set (with_values more values) attr z ∙ width-with_values more values
width-with_values ((attr, B b) ∷ more) values = width-with_values more values
width-with_values ((attr, F fault) ∷ more) values = width-with_values more values

-- ---- children

-- a child before the others, where there is one
abbrev with_child : Bool → Row → List Row → List Row → List Row
with_child spawns row more rows = cond spawns (row ∷ more) rows

counted : (last : ℕ) (values : List ℤ) (more rows : List Row) (spawns : Bool) → KeysCountUp (last + 1) more → KeysCountUp last rows
    → KeysCountUp last (with_child spawns record { key = last + 1; values = values } more rows)
counted last values more rows true behind here = (refl, behind)
counted last values more rows false behind here = here

count_up : (last : ℕ) (all : List Posted) → KeysCountUp last (children_behind last all)
count_up last [] = tt
count_up last (p ∷ ps) = counted last p.child (children_behind (last + 1) ps) (children_behind last ps) p.spawns (count_up (last + 1) ps) (count_up last ps)

count-rise : (last : ℕ) (rows : List Row) → KeysCountUp last rows → KeysRise last rows
count-rise last [] count = tt
count-rise last (row ∷ rows) (is, count) = (omega (arith, is), lower row.key (last + 1) rows (omega (arith, is)) (count-rise (last + 1) rows count))

up-to-more : (low high : ℕ) (rows : List Row) → low ≤ high → KeysUpTo low rows → KeysUpTo high rows
up-to-more low high rows le all = All-weaker (λ row. row.key ≤ low) (λ row. row.key ≤ high) (λ row below. omega (arith, le, below)) rows all

count-up-to : (last : ℕ) (rows : List Row) → KeysCountUp last rows → KeysUpTo (last + length rows) rows
count-up-to last [] count = All-nil (λ row. row.key ≤ last + 0)
count-up-to last (row ∷ rows) (is, count) =
    All-cons (λ r. r.key ≤ last + suc (length rows)) row rows (omega (arith, is))
    (up-to-more (last + 1 + length rows) (last + suc (length rows)) rows (omega arith) (count-up-to (last + 1) rows count))

rise-append : (low last : ℕ) (rows children : List Row) → low ≤ last → KeysUpTo last rows → KeysRise low rows → KeysRise last children → KeysRise low (rows ++ children)
rise-append low last [] children le all rise more = lower low last children le more
rise-append low last (row ∷ rows) children le all (above, rise) more =
    (above, rise-append row.key last rows children (All-head (λ r. r.key ≤ last) row rows all) (All-tail (λ r. r.key ≤ last) row rows all) rise more)

abbrev HasWidth : ℕ → Row → Type 0
HasWidth width row = length row.values ≡ width

width-child : (width last : ℕ) (values : List ℤ) (more rows : List Row) (spawns : Bool) → length values ≡ width → All (HasWidth width) more → All (HasWidth width) rows
    → All (HasWidth width) (with_child spawns record { key = last + 1; values = values } more rows)
width-child width last values more rows true is behind here = All-cons (HasWidth width) record { key = last + 1; values = values } more is behind
width-child width last values more rows false is behind here = here

module _ (script : TScript) (world : World) (seed : ℕ) (items : List Item) where
  abbrev row_after : ℕ → Row → Posted
  row_after number row = posted script world seed record { row = row; cells = cells_from items number 0 script.schema.effects }

  -- the rows that stay of these; the first has this number
  abbrev left : ℕ → List Row → List Row
  left number rows = rows_left (map (posted script world seed) (combined_from script items number rows))

  abbrev kept : Bool → Row → List Row → List Row
  kept stays row rows = cond stays (row ∷ rows) rows

  rising-kept : (last : ℕ) (row : Row) (rows : List Row) (stays : Bool) → last < row.key → KeysRise row.key rows → KeysRise last (kept stays row rows)
  rising-kept last row rows true above rise = (above, rise)
  rising-kept last row rows false above rise = lower last row.key rows (omega arith) rise

  pub rising-left : (last number : ℕ) (rows : List Row) → KeysRise last rows → KeysRise last (left number rows)
  rising-left last number [] rise = tt
  rising-left last number (row ∷ rows) (above, rise) =
      rising-kept last (row_after number row).row (left (suc number) rows) (row_after number row).stays above (rising-left row.key (suc number) rows rise)

  abbrev keys_in : List Row → List ℕ
  keys_in rows = map (λ row. row.key) rows

  among-first : (key first : ℕ) (some all : List ℕ) → (Contains some key → Contains all key) → Contains (first ∷ some) key → Contains (first ∷ all) key
  among-first key first some all more (zero, below, is) = (0, omega arith, is)
  among-first key first some all more (suc k, below, is) = Contains-append_right (first ∷ []) all key (more (k, omega arith, is))

  among-kept : (key : ℕ) (row : Row) (rows all : List Row) (stays : Bool) → (Contains (keys_in rows) key → Contains (keys_in all) key)
      → Contains (keys_in (kept stays row rows)) key → Contains (row.key ∷ keys_in all) key
  among-kept key row rows all true more there = among-first key row.key (keys_in rows) (keys_in all) more there
  among-kept key row rows all false more there = Contains-append_right (row.key ∷ []) (keys_in all) key (more there)

  pub among-left : (key number : ℕ) (rows : List Row) → Contains (keys_in (left number rows)) key → Contains (keys_in rows) key
  among-left key number [] there = there
  among-left key number (row ∷ rows) there =
      among-kept key (row_after number row).row (left (suc number) rows) rows (row_after number row).stays (among-left key (suc number) rows) there

  up-to-kept : (last : ℕ) (row : Row) (rows : List Row) (stays : Bool) → row.key ≤ last → KeysUpTo last rows → KeysUpTo last (kept stays row rows)
  up-to-kept last row rows true one all = All-cons (λ r. r.key ≤ last) row rows one all
  up-to-kept last row rows false one all = all

  pub up-to-left : (last number : ℕ) (rows : List Row) → KeysUpTo last rows → KeysUpTo last (left number rows)
  up-to-left last number [] all = All-nil (λ r. r.key ≤ last)
  up-to-left last number (row ∷ rows) all =
      up-to-kept last (row_after number row).row (left (suc number) rows) (row_after number row).stays
      (All-head (λ r. r.key ≤ last) row rows all) (up-to-left last (suc number) rows (All-tail (λ r. r.key ≤ last) row rows all))

  width-kept : (width : ℕ) (row : Row) (rows : List Row) (stays : Bool) → HasWidth width row → All (HasWidth width) rows → All (HasWidth width) (kept stays row rows)
  width-kept width row rows true one all = All-cons (HasWidth width) row rows one all
  width-kept width row rows false one all = all

  width-row : (width number : ℕ) (row : Row) → HasWidth width row → HasWidth width (row_after number row).row
  width-row width number row is = width-with_values (assigned (post_context script world seed (cells_from items number 0 script.schema.effects) row) script.rules) row.values ∙ is

  pub width-left : (width number : ℕ) (rows : List Row) → All (HasWidth width) rows → All (HasWidth width) (left number rows)
  width-left width number [] all = All-nil (HasWidth width)
  width-left width number (row ∷ rows) all =
      width-kept width (row_after number row).row (left (suc number) rows) (row_after number row).stays
      (width-row width number row (All-head (HasWidth width) row rows all)) (width-left width (suc number) rows (All-tail (HasWidth width) row rows all))

  -- the children of these; the first parent has this number
  abbrev children : ℕ → ℕ → List Row → List Row
  children last number rows = children_behind last (map (posted script world seed) (combined_from script items number rows))

  pub width-children : (width last number : ℕ) (rows : List Row) → All (HasWidth width) rows → All (HasWidth width) (children last number rows)
  width-children width last number [] all = All-nil (HasWidth width)
  width-children width last number (row ∷ rows) all =
      let rest = All-tail (HasWidth width) row rows all in
      width-child width last (row_after number row).child (children (last + 1) (suc number) rows) (children last (suc number) rows) (row_after number row).spawns
      (width-with_values (assigned (post_context script world seed (cells_from items number 0 script.schema.effects) (row_after number row).row) (spawn_rules script.spawn)) (row_after number row).row.values
      ∙ width-row width number row (All-head (HasWidth width) row rows all))
      (width-children width (last + 1) (suc number) rows rest) (width-children width last (suc number) rows rest)

-- ---- the end of a tick

unless-Ok : (fault : Option TickFault) (other : Result World TickFault) (next : World) → unless fault other ≡ Ok next → other ≡ Ok next
unless-Ok None other next is = is
unless-Ok (Some fault) other next is = absurd (cc)

cond-Ok : (over : Bool) (fault : TickFault) (other : Result World TickFault) (next : World) → cond over (Err fault) other ≡ Ok next → other ≡ Ok next
cond-Ok true fault other next is = absurd (cc)
cond-Ok false fault other next is = is

abbrev good : World → Result World TickFault
good world = Ok world

inside-Ok : (world next : World) → good world ≡ good next → world ≡ next
inside-Ok world next is = cc

unless-none : (fault : Option TickFault) (other : Result World TickFault) (next : World) → unless fault other ≡ Ok next → fault ≡ None
unless-none None other next is = refl
unless-none (Some fault) other next is = absurd (cc)

some-none : (over : Bool) (fault : TickFault) → cond over (Some fault) None ≡ None → over ≡ false
some-none true fault is = absurd (cc)
some-none false fault is = refl

abbrev stay_of : TScript → World → ℕ → List Row
stay_of script world seed = left script world seed (tick_items script world seed) 0 world.rows

abbrev children_of : TScript → World → ℕ → List Row
children_of script world seed = children script world seed (tick_items script world seed) world.last_key 0 world.rows

-- the next world, where no refusal comes
abbrev next_of : TScript → World → ℕ → World
next_of script world seed = next_world world (stay_of script world seed) (children_of script world seed)

rows-Ok : (world : World) (after : List Posted) (next : World) → after_post world after ≡ Ok next
    → after_rows world (rows_left after) (children_behind world.last_key after) ≡ Ok next
rows-Ok world after next is = unless-Ok (post_fault after) (after_rows world (rows_left after) (children_behind world.last_key after)) next is

cells-Ok : (script : TScript) (world : World) (seed : ℕ) (rows : List CombinedRow) (next : World) → after_cells script world seed rows ≡ Ok next
    → after_post world (map (posted script world seed) rows) ≡ Ok next
cells-Ok script world seed rows next is = unless-Ok (cell_fault rows) (after_post world (map (posted script world seed) rows)) next is

items-Ok : (script : TScript) (world : World) (seed limit : ℕ) (items : List Item) (next : World) → after_items script world seed limit items ≡ Ok next
    → after_cells script world seed (combined_from script items 0 world.rows) ≡ Ok next
items-Ok script world seed limit items next is =
    let behind : Result World TickFault = after_cells script world seed (combined_from script items 0 world.rows) in
    let least : Option TickFault = script_fault (least_of item_fault_cmp (item_faults items)) in
    unless-Ok least behind next (cond-Ok (nat_lt limit (length items)) (Items limit) (unless least behind) next is)

end-Ok : (script : TScript) (world : World) (seed limit : ℕ) (next : World) → tick script world seed limit ≡ Ok next
    → after_rows world (stay_of script world seed) (children_of script world seed) ≡ Ok next
end-Ok script world seed limit next is =
    let items : List Item = tick_items script world seed in
    let rows : List CombinedRow = combined_from script items 0 world.rows in
    rows-Ok world (map (posted script world seed) rows) next (cells-Ok script world seed rows next (items-Ok script world seed limit items next is))

abbrev behind_keys : World → List Row → List Row → Result World TickFault
behind_keys world stay children = unless (units_fault (length stay + length children)) (Ok (next_world world stay children))

keys-enough : (world : World) (stay children : List Row) (next : World) → after_rows world stay children ≡ Ok next → nat_lt 4294967295 (world.last_key + length children) ≡ false
keys-enough world stay children next is =
    some-none _ (KeysSpent world.last_key (length children)) (unless-none (keys_fault world.last_key (length children)) (behind_keys world stay children) next is)

units-Ok : (world : World) (stay children : List Row) (next : World) → after_rows world stay children ≡ Ok next → behind_keys world stay children ≡ Ok next
units-Ok world stay children next is = unless-Ok (keys_fault world.last_key (length children)) (behind_keys world stay children) next is

units-few : (world : World) (stay children : List Row) (next : World) → after_rows world stay children ≡ Ok next → nat_lt 65536 (length stay + length children) ≡ false
units-few world stay children next is =
    some-none _ (UnitsFull (length stay + length children))
    (unless-none (units_fault (length stay + length children)) (good (next_world world stay children)) next (units-Ok world stay children next is))

next-is : (world : World) (stay children : List Row) (next : World) → after_rows world stay children ≡ Ok next → next_world world stay children ≡ next
next-is world stay children next is =
    inside-Ok (next_world world stay children) next
    (unless-Ok (units_fault (length stay + length children)) (good (next_world world stay children)) next (units-Ok world stay children next is))

follows : (script : TScript) (world : World) (seed : ℕ) → nat_lt 4294967295 (world.last_key + length (children_of script world seed)) ≡ false
    → nat_lt 65536 (length (stay_of script world seed) + length (children_of script world seed)) ≡ false → Follows world (next_of script world seed)
follows script world seed enough few =
    let items : List Item = tick_items script world seed in
    let stay = stay_of script world seed in
    let born = children_of script world seed in
    let all = map (posted script world seed) (combined_from script items 0 world.rows) in
    let count : KeysCountUp world.last_key born = count_up world.last_key all in
    record {
      numbered = refl;
      parts = record { old = stay; children = born; rows = refl; among = λ key. among-left script world seed items key 0 world.rows; count_up = count; last = refl };
      last_rises = omega arith;
      last_fits = ltb-false _ _ enough;
      few = omega (arith, ltb-false _ _ few, length-append stay born);
      up_to = λ upto.
          All-append (λ row. row.key ≤ world.last_key + length born) stay born
          (up-to-more world.last_key (world.last_key + length born) stay (omega arith) (up-to-left script world seed items world.last_key 0 world.rows upto))
          (count-up-to world.last_key born count);
      rising = λ upto rise.
          rise-append 0 world.last_key stay born (omega arith) (up-to-left script world seed items world.last_key 0 world.rows upto)
          (rising-left script world seed items 0 0 world.rows rise) (count-rise world.last_key born count);
      width = λ width all.
          All-append (HasWidth width) stay born (width-left script world seed items width 0 world.rows all) (width-children script world seed items width world.last_key 0 world.rows all);
    }

pub next-follows : NextWorldFollows
next-follows script world seed limit next is =
    let stay = stay_of script world seed in
    let born = children_of script world seed in
    let ends = end-Ok script world seed limit next is in
    subst (Follows world) (next-is world stay born next ends) (follows script world seed (keys-enough world stay born next ends) (units-few world stay born next ends))
