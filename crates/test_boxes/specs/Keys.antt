-- Values in a fixed length.
use Rattle.std.specs.Prelude.{◌≡◌, ℤ, min, List, length}
use Rattle.row_groups.specs.Keys.{four_of}
use Rattle.test_boxes.specs.declared.key.Values.{Values}

-- the first four of these values, and their number
pub record AreValues (values : Values) (zs : List ℤ) : Type 0 where
  pub four : values.four ≡ four_of zs
  pub count : values.count ≡ min (length zs) 4
