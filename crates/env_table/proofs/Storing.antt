-- What a push makes of the arrays.
use Rattle.std.proofs.Common.{◌≡◌, ◌+◌, ◌-◌, ◌*◌, ◌<◌, ◌≤◌, ◌∙◌, ◌^◌, ℕ, zero, suc, ℤ, List, [], ◌∷◌, ◌++◌, length, refl, sym, subst, ap, arith, length-append}
use Rattle.std.proofs.Math.Nat.{add-mul, mul-le-mul_right, suc-mul}
use Rattle.sgl_values.specs.World.{IsWorld, KeysRise}
use Rattle.env_table.specs.Table.{IsTable, with_row_behind}
use Rattle.env_table.specs.Arrays.{table_of, IsStored, HasRoomFor, HasRoomForRow, SameRows, AddsRow, AddsRows, NoLessRoom}
use Rattle.env_table.specs.declared.arrays.Arrays.{Arrays}
use Rattle.env_table.proofs.Rows.{length-rows_of, rows_of-append, rows_of-push, IsWorld-append, IsWorld-push}

-- where there is room for rows there is room for one
pub no_room : (a : Arrays) (room : ℕ) → HasRoomFor a room → (HasRoomForRow a → ⊥) → room ≡ 0
no_room a zero has none = refl
no_room a (suc room) has none =
    absurd (none record { key_fits = omega (arith, has.keys_fit); values_fit = omega (arith, has.values_fit, suc-mul room a.width) })

-- the table of arrays to which a row was added
pub table_of-push : (a b n : Arrays) (key : ℕ) (vals : List ℤ) → IsStored a → length vals ≡ a.width → SameRows a b → AddsRow b n key vals
    → table_of n ≡ record { width = a.width; world = with_row_behind (table_of a).world key vals }
table_of-push a b n key vals stored same rows adds =
    rw (adds.tick, adds.last_key, adds.width, adds.keys, adds.values, rows.tick, rows.width, rows.keys, rows.values)
    (rw (rows_of-push a.keys.items a.width a.values.items key vals stored.full same) refl)

pub stored_push : (a b n : Arrays) (key : ℕ) (vals : List ℤ) → IsStored a → length vals ≡ a.width → SameRows a b → AddsRow b n key vals
    → length a.keys.items < 65536 → key < 2 ^ 32 → a.last_key < key → IsStored n
stored_push a b n key vals stored same rows adds few fits above =
    let keys : n.keys.items ≡ a.keys.items ++ key ∷ [] = adds.keys ∙ ap (λ ks. ks ++ key ∷ []) rows.keys in
    let values : n.values.items ≡ a.values.items ++ vals = adds.values ∙ ap (λ vs. vs ++ vals) rows.values in
    let width : n.width ≡ a.width = adds.width ∙ rows.width in
    let tick : n.tick ≡ a.tick = adds.tick ∙ rows.tick in
    record {
      few = rw keys (omega (arith, few, length-append a.keys.items (key ∷ [])));
      full = rw (keys, values, width, length-append a.values.items vals, length-append a.keys.items (key ∷ []), same) (omega (arith, stored.full));
      table = record {
        narrow = rw width stored.table.narrow;
        fits = rw (keys, values, width, tick, adds.last_key)
            (IsWorld-push a.tick a.width a.last_key a.keys.items a.values.items key vals stored.full same few fits adds.numbers above stored.table.fits);
      };
    }

-- a row less can be added then
pub room_push : (a b n : Arrays) (key room : ℕ) (vals : List ℤ) → length vals ≡ a.width → SameRows a b → NoLessRoom a b → AddsRow b n key vals → NoLessRoom b n → HasRoomFor a room → HasRoomFor n (room - 1)
room_push a b n key zero vals same rows more adds later has =
    record { keys_fit = omega (arith, n.keys.ok); values_fit = omega (arith, n.values.ok) }
room_push a b n key (suc room) vals same rows more adds later has =
    let keys : length n.keys.items ≡ length a.keys.items + 1 = ap length adds.keys ∙ length-append b.keys.items (key ∷ []) ∙ ap (λ ks. length ks + 1) rows.keys in
    let values : length n.values.items ≡ length a.values.items + a.width =
    ap length adds.values ∙ length-append b.values.items vals ∙ ap (λ vs. length vs + length vals) rows.values ∙ ap (λ w. length a.values.items + w) same in
    let width : n.width ≡ a.width = adds.width ∙ rows.width in
    let less : suc room - 1 ≡ room = omega arith in
    rw less record {
      keys_fit = omega (arith, keys, has.keys_fit, more.keys, later.keys);
      values_fit = rw width (omega (arith, values, has.values_fit, more.values, later.values, suc-mul room a.width));
    }

-- ---- all rows of a table

-- the table of arrays to which the rows of others were added
pub table_of-append : (a n m : Arrays) → IsStored a → m.width ≡ a.width → AddsRows a n m
    → table_of n ≡ record { width = a.width; world = record { tick = a.tick; last_key = m.last_key; rows = (table_of a).world.rows ++ (table_of m).world.rows } }
table_of-append a n m stored same adds =
    rw (adds.tick, adds.last_key, adds.width, adds.keys, adds.values, same)
    (rw (rows_of-append a.keys.items m.keys.items a.width a.values.items m.values.items stored.full) refl)

pub stored_append : (a n m : Arrays) → IsStored a → IsStored m → m.width ≡ a.width → AddsRows a n m → length a.keys.items + length m.keys.items ≤ 65536
    → KeysRise a.last_key (table_of m).world.rows → a.last_key ≤ m.last_key → IsStored n
stored_append a n m stored others same adds few rising below = record {
  few = rw adds.keys (omega (arith, few, length-append a.keys.items m.keys.items));
  full =
      rw (adds.keys, adds.values, adds.width, length-append a.values.items m.values.items, length-append a.keys.items m.keys.items)
      (full_both (length a.keys.items) (length m.keys.items) a.width (length a.values.items) (length m.values.items) stored.full (others.full ∙ ap (λ w. length m.keys.items * w) same));
  table = subst IsTable (sym (table_of-append a n m stored same adds)) record {
    narrow = stored.table.narrow;
    fits =
        IsWorld-append a.width (table_of a).world (table_of m).world
        (omega (arith, few, length-rows_of a.keys.items a.width a.values.items, length-rows_of m.keys.items m.width m.values.items))
        rising below stored.table.fits (subst (λ w. IsWorld w (table_of m).world) same others.table.fits);
  };
}
  where
    full_both : (first second width values more : ℕ) → values ≡ first * width → more ≡ second * width → values + more ≡ (first + second) * width
    full_both first second width values more one two = omega (arith, one, two, add-mul first second width)

-- there is room for all of them
pub fits_append : (a m : Arrays) (room : ℕ) → IsStored m → m.width ≡ a.width → length m.keys.items ≤ room → HasRoomFor a room → HasRoomFor a (length m.keys.items)
fits_append a m room others same few has = record {
  keys_fit = omega (arith, few, has.keys_fit);
  values_fit = omega (arith, has.values_fit, mul-le-mul_right a.width few);
}

-- and then for so many less
pub room_append : (a n m : Arrays) (room : ℕ) → IsStored m → m.width ≡ a.width → AddsRows a n m → NoLessRoom a n → length m.keys.items ≤ room → HasRoomFor a room
    → HasRoomFor n (room - length m.keys.items)
room_append a n m room others same adds later few has =
    let keys : length n.keys.items ≡ length a.keys.items + length m.keys.items = ap length adds.keys ∙ length-append a.keys.items m.keys.items in
    let values : length n.values.items ≡ length a.values.items + length m.values.items = ap length adds.values ∙ length-append a.values.items m.values.items in
    let full : length m.values.items ≡ length m.keys.items * a.width = others.full ∙ ap (λ w. length m.keys.items * w) same in
    let parts : (room - length m.keys.items) * a.width + length m.keys.items * a.width ≡ room * a.width =
    sym (add-mul (room - length m.keys.items) (length m.keys.items) a.width) ∙ ap (λ k. k * a.width) (omega (arith, few)) in
    record {
      keys_fit = omega (arith, keys, has.keys_fit, later.keys, few);
      values_fit = rw adds.width (omega (arith, values, full, parts, has.values_fit, later.values));
    }
