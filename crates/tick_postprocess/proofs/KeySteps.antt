-- The keys of the rows of a world, and of those behind `post`.
use Rattle.std.proofs.Common.{◌≡◌, ℕ, zero, suc, ◌<◌, ◌≤◌, List, [], ◌∷◌, length, get_or, subst, sym, arith}
use Rattle.std.proofs.lemmas.List.Elements.{All-get_or, All-nil}
use Rattle.sgl_values.specs.World.{Row, World, row_at, KeysRise, KeysUpTo}
use Rattle.env_table.proofs.Keys.{key_above, keys_rise}
use Rattle.env_table.specs.Table.{Building}
use Rattle.tick_postprocess.specs.Rows.{IsRising}
use Rattle.tick_postprocess.specs.Runs.{key_before}

abbrev no_row : Row
no_row = record { key = 0; values = [] }

-- the key of a row is above those of the rows before it
pub key_over : (world : World) (first i : ℕ) → KeysRise 0 world.rows → first ≤ i → i < length world.rows → key_before world first < (row_at world i).key
key_over world zero i rise le lt = key_above world.rows 0 rise i no_row lt
key_over world (suc first) i rise le lt = keys_rise world.rows 0 rise first i no_row (omega (arith, le)) lt

key_later : (low : ℕ) (rows : List Row) (i j : ℕ) → KeysRise low rows → i ≤ j → j < length rows → (get_or rows i no_row).key ≤ (get_or rows j no_row).key
key_later low [] i j rise le lt = absurd (omega arith)
key_later low (row ∷ rows) zero zero rise le lt = omega arith
key_later low (row ∷ rows) zero (suc j) rise le lt = let over = key_above rows row.key rise.1 j no_row (omega arith) in omega (arith, over)
key_later low (row ∷ rows) (suc i) zero rise le lt = absurd (omega arith)
key_later low (row ∷ rows) (suc i) (suc j) rise le lt = key_later row.key rows i j rise.1 (omega arith) (omega arith)

-- the key of a row is not above that of the last row of those that it is among
pub key_under : (world : World) (i end : ℕ) → KeysRise 0 world.rows → i < end → end ≤ length world.rows → (row_at world i).key ≤ key_before world end
key_under world i zero rise lt le = absurd (omega (arith, lt))
key_under world i (suc end) rise lt le = key_later 0 world.rows i end rise (omega (arith, lt)) (omega (arith, le))

pub key_grows : (world : World) (first end : ℕ) → KeysRise 0 world.rows → first ≤ end → end ≤ length world.rows → key_before world first ≤ key_before world end
key_grows world zero end rise le inside = omega arith
key_grows world (suc first) zero rise le inside = absurd (omega (arith, le))
key_grows world (suc first) (suc end) rise le inside = key_later 0 world.rows first end rise (omega (arith, le)) (omega (arith, inside))

pub lower : (low high : ℕ) (rows : List Row) → low ≤ high → KeysRise high rows → KeysRise low rows
lower low high [] under rise = tt
lower low high (row ∷ rows) under (above, rise) = (omega (arith, under, above), rise)

pub key_up_to : (world : World) (end : ℕ) → KeysUpTo world.last_key world.rows → end ≤ length world.rows → key_before world end ≤ world.last_key
key_up_to world zero up le = omega arith
key_up_to world (suc end) up le = All-get_or (λ row. row.key ≤ world.last_key) world.rows end no_row (omega (arith, le)) up

-- no rows
pub rising_start : (low : ℕ) (building : Building) → building.table.world.rows ≡ [] → IsRising low building
rising_start low building empty = record {
  rising = subst (λ (rows : List Row). KeysRise low rows) (sym empty) tt;
  up_to = subst (λ (rows : List Row). KeysUpTo building.table.world.last_key rows) (sym empty) (All-nil (λ (row : Row). row.key ≤ building.table.world.last_key));
}
