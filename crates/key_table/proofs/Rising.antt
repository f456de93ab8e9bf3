-- The keys of a world rise, so a row has as many keys below its own as there are rows before it.
use Rattle.std.proofs.Common.{◌≡◌, ℕ, ℤ, pos, ◌<◌, int_lt, List, [], length, map, get_or, arith}
use Rattle.std.proofs.lemmas.Int.{ints}
use Rattle.std.proofs.lemmas.List.{get_or-map, length-map}
use Rattle.env_table.proofs.Keys.{keys_rise}
use Rattle.sgl_values.specs.World.{Row, KeysRise}
use Rattle.rank_table.specs.Ranks.{IsRising, count_below}
use Rattle.rank_table.proofs.Ranking.{count_front, lt_true}

abbrev key_of : Row → ℤ
key_of row = pos row.key

module _ (rows : List Row) (last : ℕ) (rise : KeysRise last rows) where
  key_at : (i : ℕ) (d : Row) (e : ℤ) → i < length rows → get_or (map key_of rows) i e ≡ pos (get_or rows i d).key
  key_at i d e inside = get_or-map key_of rows i d e inside

  pub IsRising-keys : IsRising (map key_of rows)
  IsRising-keys i j e ordered inside =
      let none : Row = record { key = 0; values = [] } in
      let within : j < length rows = omega (arith, inside, length-map rows key_of) in
      let first = key_at i none e (omega (arith, ordered, within)) in
      let second = key_at j none e within in
      let later = keys_rise rows last rise i j none in
      grind (arith, ints, first, second, later, ordered, within)

  pub below-own : (i : ℕ) (d : Row) → i < length rows → count_below (pos (get_or rows i d).key) (map key_of rows) ≡ i
  below-own i d inside =
      let own = pos (get_or rows i d).key in
      let long = length-map rows key_of in
      count_front (λ z. int_lt z own) (map key_of rows) i (omega (arith, inside, long)) (
        λ k e low high. lt_true (get_or (map key_of rows) k e) own
            (let at = key_at k d e (omega (arith, high, inside)) in let later = keys_rise rows last rise k i d high inside in grind (arith, ints, at, later)),
        λ k e low high.
            let within : k < length rows = omega (arith, high, long) in
            let at = key_at k d e within in
            let later = keys_rise rows last rise i k d in
            grind (arith, ints, at, later, low, within),
      )
