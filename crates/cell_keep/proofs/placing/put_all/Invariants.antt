use Rattle.std.proofs.Common.{◌≡◌, ◌≢◌, ◌<◌, ◌≤◌, ℕ, length, map, take, get_or}
use Rattle.std.specs.Prelude.{AllPairs, Contains, vec_capacity}
use Rattle.cell_links.specs.Links.{IsLinked, rows_of}
use Rattle.cell_keep.specs.Grid.{cell_of, list_of}
use Rattle.cell_keep.specs.Kept.{point_at}
use Rattle.cell_keep.specs.Rows.{no_point}
use Rattle.cell_keep.proofs.placing.put_all.Given as goal

abbrev pub invariant-loop-place : goal.invariant-loop-place
invariant-loop-place l = record {
  order : l.held.order ≡ l.initial.held.order;
  rows : l.held.links.rows ≡ 65536;
  full : length l.held.links.lists ≡ 65536;
  store : length l.held.points.items ≡ 65536;
  each : length l.held.order.items ≡ length l.new;
  inside : (row : ℕ) → Contains l.held.order.items row → row < 65536;
  once : AllPairs (λ row other. row ≢ other) l.held.order.items;
  keys : l.held.keys.items ≡ map (λ point. point.key) (take l.place l.new);
  room : 65536 ≤ vec_capacity l.held.keys;
  within : (row : ℕ) → IsLinked l.held.links row → Contains l.held.order.items row;
  stored : (i : ℕ) → i < l.place → point_at l.held.points.items (get_or l.held.order.items i 0) ≡ get_or l.new i no_point;
  placed : (i : ℕ) → i < l.place → Contains (rows_of l.held.links (list_of (cell_of (get_or l.new i no_point)))) (get_or l.held.order.items i 0);
}
