-- At the root all is known of the trees before it and behind it.
use Rattle.std.proofs.Common.{◌≡◌, ◌∙◌, ◌+◌, ◌-◌, ◌/◌, ◌<◌, ℕ, List, length, take, drop, refl, sym, ap, rules}
use Rattle.nearest_tree.specs.declared.node.Node.{Node}
use Rattle.nearest_tree.specs.Nearest.{near_other_than}
use Rattle.nearest_tree.specs.Queries.{answer_of}
use Rattle.nearest_tree.specs.Trees.{points_of}
use Rattle.nearest_tree.proofs.NearLaws.{nearer}
use Rattle.nearest_tree.proofs.Passing.{passed-over}
use Rattle.nearest_tree.proofs.Planting.{AreParts, parts, fewer-before, fewer-behind}
use Rattle.nearest_tree.proofs.Searching.{searched-forward, searched-backward}
use Rattle.nearest_tree.proofs.query.Query.+search.Goals as goal
use Rattle.nearest_tree.proofs.query.Query.+search.Goals.{After-index-nodes-middle, After-lesser-nearest}

abbrev before_root : List Node → List Node
before_root nodes = take (length nodes / 2) nodes

abbrev behind_root : List Node → List Node
behind_root nodes = take (length nodes - (length nodes / 2 + 1)) (drop (length nodes / 2 + 1) nodes)

some : (t : ℕ) (c : After-index-nodes-middle t) → 0 < length c.args.nodes.now
some t c = search rules

at_root : (t : ℕ) (c : After-index-nodes-middle t) → let nodes = c.args.nodes.now in
    AreParts nodes (length nodes / 2) c.index-nodes-middle.result (before_root nodes) (behind_root nodes)
at_root t c = parts c.args.nodes.now (length c.args.nodes.now / 2) c.index-nodes-middle.result c.requires (some t c) refl c.index-nodes-middle.is

-- what is found with the root
first : (t : ℕ) (c : After-lesser-nearest t) → let query = c.args.self.now in
    c.lesser-nearest.result ≡ nearer c.args.found (near_other_than query.x query.y query.other_than c.index-nodes-middle.result.point)
first t c = c.lesser-nearest.ensures ∙ ap (nearer c.args.found) c.near.ensures

pub returns-then-passes_over : goal.returns-then-passes_over
returns-then-passes_over t c =
    let p = at_root t (goal.at.returns-then-passes_over t c).After-index-nodes-middle in
    sym (passed-over c.args.self.now c.index-nodes-middle.result.mark (points_of c.args.nodes.now) p.stands c.args.found (sym c.passes_over.ensures ∙ c.if-passes_over.true))

pub search-nearest-requires : goal.search-nearest-requires
search-nearest-requires t c =
    let at = (goal.at.search-nearest-requires t c).After-index-nodes-middle in
    let fewer = fewer-before c.args.nodes.now (some t at) in
    (search rules, (at_root t at).before_tree)

pub search-requires : goal.search-requires
search-requires t c =
    let at = (goal.at.search-requires t c).After-index-nodes-middle in
    let fewer = fewer-behind c.args.nodes.now (some t at) in
    (search rules, (at_root t at).behind_tree)

pub search-nearest-requires-else-is_before : goal.search-nearest-requires-else-is_before
search-nearest-requires-else-is_before t c =
    let at = (goal.at.search-nearest-requires-else-is_before t c).After-index-nodes-middle in
    let fewer = fewer-behind c.args.nodes.now (some t at) in
    (search rules, (at_root t at).behind_tree)

pub search-requires-else-is_before : goal.search-requires-else-is_before
search-requires-else-is_before t c =
    let at = (goal.at.search-requires-else-is_before t c).After-index-nodes-middle in
    let fewer = fewer-before c.args.nodes.now (some t at) in
    (search rules, (at_root t at).before_tree)

pub returns-then-is_before : goal.returns-then-is_before
returns-then-is_before t c =
    let query = c.args.self.now in let found = c.args.found in let at = goal.at.returns-then-is_before t c in
    let before = points_of (before_root c.args.nodes.now) in let behind = points_of (behind_root c.args.nodes.now) in
    c.search.ensures
    ∙ ap (λ n. nearer n (answer_of query behind)) (c.search-nearest.ensures ∙ ap (λ n. nearer n (answer_of query before)) (first t at.After-lesser-nearest))
    ∙ searched-forward query.x query.y query.other_than found before behind c.index-nodes-middle.result.point
    ∙ ap (λ l. nearer found (answer_of query l)) (sym (at_root t at.After-index-nodes-middle).points)

pub returns-else-is_before : goal.returns-else-is_before
returns-else-is_before t c =
    let query = c.args.self.now in let found = c.args.found in let at = goal.at.returns-else-is_before t c in
    let before = points_of (before_root c.args.nodes.now) in let behind = points_of (behind_root c.args.nodes.now) in
    c.search-else-is_before.ensures
    ∙ ap (λ n. nearer n (answer_of query before)) (c.search-nearest-else-is_before.ensures ∙ ap (λ n. nearer n (answer_of query behind)) (first t at.After-lesser-nearest))
    ∙ searched-backward query.x query.y query.other_than found before behind c.index-nodes-middle.result.point
    ∙ ap (λ l. nearer found (answer_of query l)) (sym (at_root t at.After-index-nodes-middle).points)
