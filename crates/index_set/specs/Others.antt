-- The rows of the strips of all groups but one.
use Rattle.std.specs.Prelude.{ℕ, zero, suc, ◌+◌, ◌-◌, List, [], ◌++◌, Option, if◌then◌else◌}
use Rattle.row_groups.specs.declared.ranked.Ranked.{Ranked}
use Rattle.row_groups.specs.Ranked.{rows_between}
use Rattle.test_boxes.specs.declared.asked.AskedBox.{AskedBox}
use Rattle.group_boxes.specs.Points.{is_own}
use Rattle.index_set.specs.declared.others.Others.{Others}

-- the rows of a group that lie in a box
abbrev pub rows_asked : List Ranked → AskedBox → ℕ → List ℕ
rows_asked sorted asked group = rows_between sorted group asked.across.low asked.across.high asked.down.low asked.down.high

-- the rows of a group, and none of the group that is left out
abbrev pub rows_unless : Option ℕ → (ℕ → List ℕ) → ℕ → List ℕ
rows_unless own rows group = if is_own own group then [] else rows group

-- the rows of so many groups from this one on, one group after another, and none of the group that is left out
abbrev pub rows_but : Option ℕ → (ℕ → List ℕ) → ℕ → ℕ → List ℕ
rows_but own rows group zero = []
rows_but own rows group (suc count) = rows_unless own rows group ++ rows_but own rows (group + 1) count

-- the first group that is not left out
abbrev pub first_but : Option ℕ → ℕ
first_but own = if is_own own 0 then 1 else 0

-- the rows that are still to come: those of the strip, and of the groups behind it
abbrev pub others_rest : Others → List ℕ
others_rest it = it.strip ++ rows_but it.own (rows_asked it.sorted.now it.asked) it.next (it.end - it.next)
