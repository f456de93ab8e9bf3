-- The numbers of the keys of all rows are those of the groups, and the rows of each group are those with its key.
use Rattle.std.proofs.Common.{◌≡◌, ◌<◌, ◌+◌, ◌==◌, ◌∙◌, ℕ, List, ap, arith, length, map, subst, sym}
use Rattle.std.specs.Prelude.{All}
use Rattle.std.proofs.lemmas.List.{length-map}
use Rattle.cell_links.specs.Links.{rows_of}
use Rattle.sgl_values.specs.World.{Row}
use Rattle.row_groups.specs.Keys.{four_of, row_values}
use Rattle.row_groups.specs.Groups.{AreWhole}
use Rattle.row_groups.specs.Places.{AreLinked}
use Rattle.row_groups.proofs.Holding.{all_held, number_in, told_below}
use Rattle.row_groups.proofs.Placing.{places-within}
use Rattle.row_groups.proofs.Whole.{linked_whole}
use Rattle.row_groups.proofs.groups.Groups.build.Given as given
use Rattle.row_groups.proofs.groups.Groups.build.Goals as goal
use Rattle.row_groups.proofs.groups.Groups.build.Goals.{After-from_vec-attrs}

pub link_groups-requires-clause-below : goal.link_groups-requires-clause-below
link_groups-requires-clause-below g c =
    let keys = map (λ (row : Row). four_of (row_values c.args.attrs.now row)) c.args.world.now.world.rows in
    told_below c.in_ok-numbers.field-0.numbers keys c.as_slice.result.now c.len.result
    (c.as_slice.ensures.value ∙ c.in_ok-numbers.ensures.each) c.len.ensures.len c.in_ok-numbers.ensures.keys

-- the numbers of the keys of all rows
told : (g : given.Over) (c : After-from_vec-attrs g) → let key_of = λ (row : Row). four_of (row_values c.args.attrs.now row) in
    c.as_slice.result.now ≡ map (number_in c.in_ok-numbers.field-0.numbers) (map key_of c.args.world.now.world.rows)
told g c = c.as_slice.ensures.value ∙ c.in_ok-numbers.ensures.each

-- there is one for each row, and there are no more keys than rows
sizes : (g : given.Over) (c : After-from_vec-attrs g) → let rows = c.args.world.now.world.rows in let key_of = λ (row : Row). four_of (row_values c.args.attrs.now row) in
    (length (map key_of rows) ≡ length rows) × (length c.as_slice.result.now ≡ length rows)
sizes g c =
    let rows = c.args.world.now.world.rows in
    let key_of = λ (row : Row). four_of (row_values c.args.attrs.now row) in (
      length-map rows key_of,
      ap length (told g c) ∙ length-map (map key_of rows) (number_in c.in_ok-numbers.field-0.numbers) ∙ length-map rows key_of,
    )

pub invariant_of-result : goal.invariant_of-result
invariant_of-result g c =
    let size = sizes g (goal.at.invariant_of-result g c).After-from_vec-attrs in
    let lists = c.in_ok-links.ensures.lists in
    let len = c.len.ensures.len in
    record {
      rows = c.in_ok-links.ensures.rows ∙ size.1 ∙ sym c.len-rows.ensures.value;
      count = omega (arith, lists, len);
      few = omega (arith, lists, len, size.0, c.in_ok-numbers.ensures.keys.few, c.len-rows.ensures.value, c.len-rows.ensures.few);
      below = λ key number told. let under = c.in_ok-numbers.ensures.keys.below key number told in omega (arith, under, lists, len);
    }

pub returns : goal.returns
returns g c =
    let numbers = c.in_ok-numbers.field-0.numbers in
    let links = c.in_ok-links.links in
    let rows = c.args.world.now.world.rows in
    let key_of = λ (row : Row). four_of (row_values c.args.attrs.now row) in
    let at = (goal.at.returns g c).After-from_vec-attrs in
    let size = sizes g at in
    let lists = c.in_ok-links.ensures.lists in
    let len = c.len.ensures.len in
    let Linked : List ℕ → Type 0 = λ l. AreLinked links l (length c.as_slice.result.now) c.len.result in
    let Counted : ℕ → Type 0 = λ n. AreLinked links (map (number_in numbers) (map key_of rows)) (length c.as_slice.result.now) n in
    let Below : (group : ℕ) → ℕ → Type 0 = λ group n. All (λ row. row < n) (rows_of links group) in
    record {
      by = c.from_vec-attrs.ensures ∙ c.in_ok-from_slice.ensures.items;
      held = λ key. all_held rows key_of numbers links (length c.as_slice.result.now) c.in_ok-numbers.ensures.keys
          (subst Counted c.len.ensures.len (subst Linked (told g at) c.in_ok-links.ensures)) key;
      count = c.len-rows.ensures.value;
      few = omega (arith, c.len-rows.ensures.value, c.len-rows.ensures.few);
      few_groups = omega (arith, lists, len, size.0, c.in_ok-numbers.ensures.keys.few, c.len-rows.ensures.value, c.len-rows.ensures.few);
      inside = λ key number told. let under = c.in_ok-numbers.ensures.keys.below key number told in omega (arith, under, lists, len);
      within = λ group.
          let P : List ℕ → Type 0 = λ l. All (λ row. row < 0 + length c.as_slice.result.now) l in
          let bound : 0 + length c.as_slice.result.now ≡ length rows = omega (arith, size.1) in
          subst (Below group) bound (subst P (sym (c.in_ok-links.ensures.linked group)) (places-within (λ number. number == group) c.as_slice.result.now 0));
      whole = subst (AreWhole links.lists) size.1
          (linked_whole links c.as_slice.result.now (length c.as_slice.result.now) c.len.result c.in_ok-links.ensures
          (told_below numbers (map key_of rows) c.as_slice.result.now c.len.result (told g at) len c.in_ok-numbers.ensures.keys));
    }
