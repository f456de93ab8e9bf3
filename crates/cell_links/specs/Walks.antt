-- Walks along a list of rows.
use Rattle.std.specs.Prelude.{ℕ, List, drop}
use Rattle.cell_links.specs.Links.{rows_of}
use Rattle.cell_links.specs.declared.walk.ListWalk.{ListWalk}

-- the rows that are still to come
abbrev pub rows_left : ListWalk → List ℕ
rows_left walk = drop walk.passed (rows_of walk.links.now walk.list)
