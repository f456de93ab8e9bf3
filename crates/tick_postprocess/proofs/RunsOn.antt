-- Rows of a run that are put behind others.
use Rattle.std.proofs.Common.{◌≡◌, ◌∙◌, ◌+◌, ◌-◌, ◌<◌, ◌≤◌, ◌==◌, ℕ, zero, suc, ℤ, Bool, true, false, List, length, take, None, Ok, refl, ap, sym, subst, arith}
use Rattle.std.specs.Int.{bit_at}
use Rattle.std.proofs.lemmas.List.{take-map}
use Rattle.sgl_values.specs.World.{Row, World, row_at}
use Rattle.sgl_values.specs.declared.item.Item.{Item}
use Rattle.sgl_typed.specs.Tick.{Posted, cell_fault, cells_from, combined_from, posted, wide_cell}
use Rattle.sgl_lanes.specs.Lanes.{has, lane_of}
use Rattle.env_table.specs.Pushes.{CanPushLanes}
use Rattle.env_table.specs.Table.{numbers_in, with_lanes, with_row_if, Building, IsTable, Table}
use Rattle.tick_postprocess.specs.Answer.{AreWords}
use Rattle.tick_postprocess.specs.Blocks.{values_in, HasRow}
use Rattle.tick_postprocess.specs.Rows.{bit, CanPush, Grows, Puts, TellsFate}
use Rattle.tick_postprocess.specs.Runs.{key_before, posted_rows, IsOpen, IsRoom, IsRunOf, IsRunOut, RunsOn}
use Rattle.tick_postprocess.specs.declared.block.Block.{Block}
use Rattle.tick_postprocess.specs.declared.next_world.Counts.{Counts}
use Rattle.tick_postprocess.specs.declared.row.Ending.{Ending}
use Rattle.tick_postprocess.specs.declared.rules.Fate.{Fate}
use Rattle.tick_postprocess.proofs.KeySteps.{key_grows, key_over, key_under, rising_start}
use Rattle.tick_postprocess.proofs.RowSteps.{all_length, bit_le, combined_row, far_more, grown, none_at, posted_at}

pub no_rows_on : (e : Ending) (row : ℕ) (out : Building) → RunsOn e row row out record { stay = 0; children = 0 } out
no_rows_on e row out = record {
  width = refl;
  tick = refl;
  rows = omega arith;
  few = omega arith;
  births = omega arith;
  room = omega arith;
  last = λ under. under;
  keys = λ low le rising. rising;
  put = λ items words none first children is.
      subst (λ n. IsRunOf (posted_rows e.tick.script.now e.tick.world.now.world e.tick.seed items) first row out.table.world.rows n) (omega arith) is;
}

-- one row more
pub row_on : (e : Ending) (row : ℕ) (fate : Fate) (old new : Building) → IsTable e.tick.world.now → row < length e.tick.world.now.world.rows
    → Grows old new (row_at e.tick.world.now.world row).key (bit fate.stays)
    → ((items : List Item) → AreWords e.tick.script.now.schema.effects e.combined.now items → cell_fault (combined_from e.tick.script.now items 0 e.tick.world.now.world.rows) ≡ None
    → Puts (posted e.tick.script.now e.tick.world.now.world e.tick.seed (combined_row e.tick.script.now items e.tick.world.now.world row)) old (Ok fate) new)
    → RunsOn e row (row + 1) old record { stay = bit fate.stays; children = bit fate.spawns } new
row_on e row fate old new table lt grows puts =
    let world = e.tick.world.now.world in
    let rise = table.fits.rising in
    let one = bit_le fate.stays in
    record {
      width = grows.width;
      tick = grows.tick;
      rows = grows.rows;
      few = omega (arith, one);
      births = omega (arith, bit_le fate.spawns);
      room = grows.room;
      last = λ under. let here = key_under world row (row + 1) rise (omega arith) (omega (arith, lt)) in omega (arith, here, grows.last, one);
      keys = λ low le rising. let over = key_over world row row rise (omega arith) lt in grows.keys low (omega (arith, le, over)) rising;
      put = λ items words none first children is.
          let all = posted_rows e.tick.script.now world e.tick.seed items in
          let p = posted e.tick.script.now world e.tick.seed (combined_row e.tick.script.now items world row) in
          far_more all first row children (children + bit fate.spawns) p old new fate (omega (arith, lt, all_length e.tick.script.now items world e.tick.seed))
          (posted_at e.tick.script.now items world e.tick.seed row p lt) refl is (puts items words none);
    }

-- rows, and then more
pub rows_on : (e : Ending) (first row end : ℕ) (old mid new : Building) (counts more : Counts) → IsTable e.tick.world.now → first ≤ row → row ≤ length e.tick.world.now.world.rows
    → RunsOn e first row old counts mid → RunsOn e row end mid more new → RunsOn e first end old record { stay = counts.stay + more.stay; children = counts.children + more.children } new
rows_on e first row end old mid new counts more table order inside front back = record {
  width = back.width ∙ front.width;
  tick = back.tick ∙ front.tick;
  rows = omega (arith, front.rows, back.rows);
  few = omega (arith, front.few, back.few);
  births = omega (arith, front.births, back.births);
  room = omega (arith, front.room, back.room);
  last = λ under. back.last (front.last under);
  keys = λ low le rising. let grows = key_grows e.tick.world.now.world first row table.fits.rising order inside in back.keys low (omega (arith, le, grows)) (front.keys low le rising);
  put = λ items words none begin children is.
      subst (λ n. IsRunOf (posted_rows e.tick.script.now e.tick.world.now.world e.tick.seed items) begin end new.table.world.rows n) (omega arith)
      (back.put items words none begin (children + counts.children) (front.put items words none begin children is));
}

-- the next row of a run can be put
pub can_row : (e : Ending) (first row end : ℕ) (old mid : Building) (counts : Counts) → IsTable e.tick.world.now → IsOpen e.tick.world.now first end old → RunsOn e first row old counts mid → row < end
    → end ≤ length e.tick.world.now.world.rows → CanPush mid (row_at e.tick.world.now.world row).key e.tick.world.now.width
can_row e first row end old mid counts table is runs lt inside =
    let world = e.tick.world.now.world in
    let over = key_over world row row table.fits.rising (omega arith) (omega (arith, lt, inside)) in
    let under = runs.last is.above in
    record {
      width_is = runs.width ∙ is.width;
      few = omega (arith, runs.rows, runs.few, is.few, lt, inside, table.fits.few);
      above = omega (arith, over, under);
      room = omega (arith, is.room, runs.room, runs.few, lt);
    }

-- and so can those behind rows that are put
pub open_on : (e : Ending) (first row end : ℕ) (old mid : Building) (counts : Counts) → IsOpen e.tick.world.now first end old → RunsOn e first row old counts mid → IsOpen e.tick.world.now row end mid
open_on e first row end old mid counts is runs = record {
  width = runs.width ∙ is.width;
  few = omega (arith, runs.rows, runs.few, is.few);
  room = omega (arith, is.room, runs.room, runs.few);
  above = runs.last is.above;
}

-- an end further back
pub open_to : (world : Table) (row end far : ℕ) (out : Building) → end ≤ far → IsOpen world row far out → IsOpen world row end out
open_to world row end far out le is = record { width = is.width; few = is.few; room = omega (arith, is.room, le); above = is.above }

-- a run in an empty builder
pub open_room : (world : Table) (first end : ℕ) (out : Building) → IsRoom world first end out → IsOpen world first end out
open_room world first end out is = record {
  width = is.width;
  few = omega (arith, ap (λ (rows : List Row). length rows) is.empty);
  room = omega (arith, is.room);
  above = omega (arith, is.last);
}

pub run_out : (e : Ending) (first end : ℕ) (old new : Building) (counts : Counts) → IsRoom e.tick.world.now first end old → RunsOn e first end old counts new
    → IsRunOut e.tick.world.now first end old counts new
run_out e first end old new counts is runs = record {
  width = runs.width ∙ is.width;
  tick = runs.tick;
  rows = omega (arith, runs.rows, ap (λ (rows : List Row). length rows) is.empty);
  few = runs.few;
  births = runs.births;
  rising = runs.keys (key_before e.tick.world.now.world first) (omega arith) (rising_start (key_before e.tick.world.now.world first) old is.empty);
  room = runs.room;
}

-- ---- lanes

-- how many of the first lanes a set has
abbrev pub lanes_count : ℕ → ℕ → ℕ
lanes_count lanes zero = 0
lanes_count lanes (suc k) = lanes_count lanes k + bit (bit_at lanes k == 1)

lanes_few : (lanes k : ℕ) → lanes_count lanes k ≤ k
lanes_few lanes zero = omega arith
lanes_few lanes (suc k) = omega (arith, lanes_few lanes k, bit_le (bit_at lanes k == 1))

room_if : (put : Bool) (building : Building) (key : ℕ) (values : List ℤ) → 0 < building.room → (with_row_if put building key values).room + bit put ≡ building.room
room_if true building key values some = omega (arith, some)
room_if false building key values some = omega arith

-- room is taken for as many
pub lanes_room : (old : Building) (world : World) (first : ℕ) (columns : List (List ℤ)) (lanes k : ℕ) → k ≤ old.room → (with_lanes old world first columns lanes k).room + lanes_count lanes k ≡ old.room
lanes_room old world first columns lanes zero le = omega arith
lanes_room old world first columns lanes (suc k) le =
    let before = lanes_room old world first columns lanes k (omega (arith, le)) in
    let some : 0 < (with_lanes old world first columns lanes k).room = omega (arith, before, lanes_few lanes k, le) in
    let here = room_if (bit_at lanes k == 1) (with_lanes old world first columns lanes k) (row_at world (first + k)).key (numbers_in columns k) some in
    omega (arith, before, here)

-- the rows of all lanes can be put
pub can_lanes : (world : Table) (first end : ℕ) (out : Building) → IsTable world → first ≤ end → end ≤ first + 64 → end ≤ length world.world.rows → IsOpen world first end out
    → CanPushLanes out world first 0 (end - first) world.width
can_lanes world first end out table order few inside is = record {
  wide = is.width;
  lanes = omega (arith, few);
  inside = omega (arith, order, inside);
  few = omega (arith, is.few, order, inside, table.fits.few);
  room = omega (arith, is.room);
  above = λ k from below. let over = key_over world.world first (first + k) table.fits.rising (omega arith) (omega (arith, below, inside)) in let under = is.above in omega (arith, over, under);
}

-- what is told of each row of a block, by a set
abbrev pub StaysIn : Ending → Block → ℕ → Type 0
StaysIn e b lanes = (items : List Item) (row : ℕ) → AreWords e.tick.script.now.schema.effects e.combined.now items → HasRow b row → wide_cell 0 (cells_from items row 0 e.tick.script.now.schema.effects) ≡ None
    → TellsFate (posted e.tick.script.now e.tick.world.now.world e.tick.seed (combined_row e.tick.script.now items e.tick.world.now.world row)) (Ok record { stays = has lanes (row - b.first); spawns = false }) (values_in e b.changed (row - b.first))

has_bit : (lanes k : ℕ) → has lanes k ≡ (bit_at lanes k == 1)
unfolding has
has_bit lanes k = refl

-- a lane is put by its bit
lane_puts : (e : Ending) (b : Block) (items : List Item) (lanes k : ℕ) (p : Posted) (mid : Building) (key : ℕ) → p.row.key ≡ key
    → TellsFate p (Ok record { stays = has lanes (b.first + k - b.first); spawns = false }) (values_in e b.changed (b.first + k - b.first))
    → Puts p mid (Ok record { stays = bit_at lanes k == 1; spawns = false }) (with_row_if (bit_at lanes k == 1) mid key (numbers_in (take e.tick.world.now.width b.changed) k))
lane_puts e b items lanes k p mid key key_is tells =
    let back : b.first + k - b.first ≡ k = omega arith in
    let stays : (bit_at lanes k == 1) ≡ p.stays = sym (has_bit lanes k) ∙ ap (has lanes) (sym back) ∙ tells.1 in
    let number : List ℤ → ℤ = λ column. lane_of column k in
    let values : numbers_in (take e.tick.world.now.width b.changed) k ≡ p.row.values =
    sym (take-map number e.tick.world.now.width b.changed) ∙ ap (values_in e b.changed) (sym back) ∙ tells.3 in
    (tells.0, tells.2, λ i. with_row_if (stays i) mid (sym key_is i) (values i))

pub lanes_on : (e : Ending) (b : Block) (lanes : ℕ) (old : Building) → IsTable e.tick.world.now → b.end ≤ length e.tick.world.now.world.rows → IsOpen e.tick.world.now b.first b.end old → StaysIn e b lanes
    → (k : ℕ) → b.first + k ≤ b.end
    → RunsOn e b.first (b.first + k) old record { stay = lanes_count lanes k; children = 0 } (with_lanes old e.tick.world.now.world b.first (take e.tick.world.now.width b.changed) lanes k)
lanes_on e b lanes old table inside is stays zero le = subst (λ n. RunsOn e b.first n old record { stay = 0; children = 0 } old) (omega arith) (no_rows_on e b.first old)
lanes_on e b lanes old table inside is stays (suc k) le =
    let world = e.tick.world.now.world in
    let row = b.first + k in
    let put = bit_at lanes k == 1 in
    let mid = with_lanes old world b.first (take e.tick.world.now.width b.changed) lanes k in
    let new = with_lanes old world b.first (take e.tick.world.now.width b.changed) lanes (suc k) in
    let key = (row_at world row).key in
    let values = numbers_in (take e.tick.world.now.width b.changed) k in
    let lt : row < length world.rows = omega (arith, le, inside) in
    let front = lanes_on e b lanes old table inside is stays k (omega (arith, le)) in
    let can = can_row e b.first row b.end old mid record { stay = lanes_count lanes k; children = 0 } table is front (omega (arith, le)) inside in
    let own : HasRow b row = record { from = omega arith; below = omega (arith, le) } in
    let one = row_on e row record { stays = put; spawns = false } mid new table lt (grown mid key e.tick.world.now.width values put can) (λ items words none.
    let p = posted e.tick.script.now world e.tick.seed (combined_row e.tick.script.now items world row) in
    lane_puts e b items lanes k p mid key refl (stays items row words own (none_at e.tick.script.now items world row lt none))) in
    subst (λ n. RunsOn e b.first n old record { stay = lanes_count lanes k + bit put; children = 0 } new) (omega arith)
    (rows_on e b.first row (row + 1) old mid new record { stay = lanes_count lanes k; children = 0 } record { stay = bit put; children = 0 } table (omega arith) (omega (arith, lt)) front one)
