-- What the code keeps of groups.
use Rattle.std.specs.Prelude.{◌≡◌, ℕ, ℤ, ◌<◌, ◌≤◌, All, List, length, map, Some}
use Rattle.std.specs.List.{Contains}
use Rattle.std.specs.BTreeMap.{get, btree_map_len}
use Rattle.std.specs.Cmp.Lexicographic.{slice_cmp}
use Rattle.std.specs.Ordering.{int_cmp}
use Rattle.row_groups.specs.declared.groups.Groups.TheInside as groups
use Rattle.row_groups.specs.declared.sorted.SortedGroups.TheInside as sorted
use Rattle.row_groups.specs.Across.{rank_in}
use Rattle.row_groups.specs.Ends.{AreEnds}
use Rattle.row_groups.specs.Groups.{Grouping}
use Rattle.row_groups.specs.Ranked.{AreInOrder}
use Rattle.sgl_values.specs.declared.limit.TheConstants.{ROWS_MAX}

abbrev pub grouping_of : groups.Inside → Grouping
grouping_of it = record { attrs = it.attrs; rows = it.rows; keys = it.numbers.entries; lists = it.links.lists }

-- what all groups meet
pub record IsStored (it : groups.Inside) : Type 0 where
  pub rows : it.links.rows ≡ it.rows
  pub count : btree_map_len it.numbers ≡ length it.links.lists
  pub few : length it.links.lists ≤ ROWS_MAX
  pub below : (key : List ℤ) (number : ℕ) → get (slice_cmp int_cmp) it.numbers key ≡ Some number → number < length it.links.lists

-- what all sorted groups meet
pub record AreSorted (it : sorted.Inside) : Type 0 where
  pub rising : AreInOrder it.ranked.items
  pub rows : it.rows.items ≡ map (λ ranked. ranked.row) it.ranked.items
  pub ranks : it.ranks.items ≡ map (rank_in it.table) it.ranked.items
  pub few : length it.table ≤ ROWS_MAX
  pub among : All (λ ranked. Contains it.table ranked.across) it.ranked.items
  pub ends : AreEnds it.ends it.ranked.items
