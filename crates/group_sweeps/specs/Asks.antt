-- What the tests of an extreme ask for.
use Rattle.std.specs.Prelude.{◌≡◌, ℕ, ◌<◌, ℤ, pos, List, length, map, slice_index_or, Option, None, Some}
use Rattle.sgl_values.specs.World.{World}
use Rattle.sgl_values.specs.declared.fault.Fault.{Fault}
use Rattle.sgl_typed.specs.declared.script.TExpr.{TExpr}
use Rattle.sgl_typed.specs.declared.script.TScript.{TScript}
use Rattle.sgl_typed.specs.declared.script.TTest.{TTest}
use Rattle.sgl_typed.specs.Value.{Context}
use Rattle.sgl_evaluate.specs.Rights.{first_fault_of, right_of}
use Rattle.battle_algebra.specs.Ways.{x_of, y_of}
use Rattle.extreme_sweep.specs.declared.window.Window.{Window}
use Rattle.row_groups.specs.Groups.{Grouping, number_of}
use Rattle.row_groups.specs.Keys.{four_of}
use Rattle.test_boxes.specs.Others.{other_asked}
use Rattle.test_boxes.specs.Ranges.{IsSpan}
use Rattle.test_boxes.specs.Readings.{grouping}
use Rattle.test_boxes.specs.declared.reading.Reading.TheVariants.{Away}
use Rattle.group_sweeps.specs.declared.ask.Ask.{Ask}
use Rattle.group_sweeps.specs.Acting.{acting}

-- the window that the range tests and the unequal test ask for
pub record IsWindow (c : Context) (tests : List TTest) (w : Window) : Type 0 where
  pub x : IsSpan (record { low = w.x1; high = w.x2 }) (x_of tests) (right_of c) tests
  pub y : IsSpan (record { low = w.y1; high = w.y2 }) (y_of tests) (right_of c) tests
  pub other : w.other_than ≡ other_asked (right_of c) tests

-- a window in which nothing is
abbrev pub no_window : Window
no_window = record { x1 = pos 1; x2 = pos 0; y1 = pos 1; y2 = pos 0; other_than = None }

-- the key that the equal tests ask for, and its group
abbrev pub asked_key : Context → List TTest → List ℤ
asked_key c tests = four_of (map (right_of c) (grouping Away tests))

abbrev pub asked_group : Context → List TTest → Grouping → Option ℕ
asked_group c tests groups = number_of groups (asked_key c tests)

-- what is asked for behind a fault, without a group, and with one
abbrev pub AsksBy : Option Fault → Option ℕ → Context → List TTest → Ask → Type 0
AsksBy (Some fault) group c tests ask = ask.group ≡ 0
AsksBy None None c tests ask = (ask.group ≡ 0) × (ask.window ≡ no_window)
AsksBy None (Some group) c tests ask = (ask.group ≡ group) × IsWindow c tests ask.window

-- a row asks for nothing but its first fault, or for the window of a group
pub record IsRowAsk (c : Context) (tests : List TTest) (groups : Grouping) (ask : Ask) : Type 0 where
  pub fault : ask.fault ≡ first_fault_of c tests
  pub asks : AsksBy (first_fault_of c tests) (asked_group c tests groups) c tests ask

abbrev pub no_ask : Ask
no_ask = record { fault = None; group = 0; window = no_window }

abbrev pub ask_at : List Ask → ℕ → Ask
ask_at asks row = slice_index_or asks row no_ask

-- the window and the group that a row asks for
abbrev pub window_at : List Ask → ℕ → Window
window_at asks row = (ask_at asks row).window

abbrev pub group_at : List Ask → ℕ → ℕ
group_at asks row = (ask_at asks row).group

abbrev pub groups_asked : List Ask → List ℕ
groups_asked asks = map (λ ask. ask.group) asks

-- what so many rows ask for
pub record AreAsks (script : TScript) (world : World) (seed : ℕ) (tests : List TTest) (args : List TExpr) (groups : Grouping) (count : ℕ) (asks : List Ask) : Type 0 where
  pub all : length asks ≡ count
  pub each : (row : ℕ) → row < count → IsRowAsk (acting script world seed row args) tests groups (ask_at asks row)
