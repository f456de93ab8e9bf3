-- Counts and sums that are answered from range indices.
use Rattle.std.specs.Prelude.{◌≡◌, Bool, true, false, List, [], map, length, Option, None, Some}
use Rattle.std.specs.Option.{ForSome}
use Rattle.sgl_values.specs.World.{Row}
use Rattle.sgl_values.specs.declared.operator.FoldKind.{FoldKind}
use Rattle.sgl_values.specs.declared.operator.FoldKind.TheVariants.{Count, Sum}
use Rattle.sgl_typed.specs.declared.script.Attr.{Attr}
use Rattle.sgl_typed.specs.declared.script.TTest.{TTest}
use Rattle.sgl_evaluate.specs.Frame.{context_of}
use Rattle.sgl_evaluate.specs.Rights.{right_of}
use Rattle.battle_algebra.specs.Ways.{attr_of, few_groups, is_boxed, x_of, y_of}
use Rattle.test_boxes.specs.declared.asked.AskedBox.{AskedBox}
use Rattle.test_boxes.specs.declared.asking.Asking.{Asking}
use Rattle.test_boxes.specs.declared.reading.Reading.{Reading}
use Rattle.test_boxes.specs.declared.reading.Reading.TheVariants.{Away, Alike}
use Rattle.test_boxes.specs.Forms.{IsAsked, IsAsking}
use Rattle.test_boxes.specs.Readings.{grouping, unequals}
use Rattle.group_boxes.specs.Points.{IsBoxes}
use Rattle.group_boxes.specs.declared.ranged.GroupBoxes.{GroupBoxes}
use Rattle.group_boxes.specs.declared.ranged.Ranged.{Ranged}

-- tests of few groups and of two axes at most are asked, and this is the box that their range tests ask for
pub record AskForBox (asking : Asking) (tests : List TTest) (asked : AskedBox) : Type 0 where
  pub asks : IsAsking asking tests
  pub few : few_groups tests ≡ true
  pub boxed : is_boxed tests ≡ true
  pub spans : IsAsked asked (right_of (context_of asking.frame.now)) tests

-- rows are in groups by the values of the tests that number groups, and are points by the axes of the tests
pub record AreBoxesOf (part : GroupBoxes) (how : Reading) (tests : List TTest) (rows : List Row) : Type 0 where
  pub by : part.groups.now.attrs ≡ map attr_of (grouping how tests)
  pub x : part.boxes.now.axes.x ≡ x_of tests
  pub y : part.boxes.now.axes.y ≡ y_of tests
  pub held : IsBoxes part.groups.now part.boxes.now rows

-- with an unequal test there are boxes by its value too
abbrev pub AreTurned : Option GroupBoxes → List TTest → List Row → Type 0
AreTurned None tests rows = length (unequals tests) ≡ 0
AreTurned (Some part) tests rows = (length (unequals tests) ≡ 1) × AreBoxesOf part Alike tests rows

-- what counts and sums of the rows that pass these tests are answered from
pub record IsRanged (ranged : Ranged) (tests : List TTest) (rows : List Row) : Type 0 where
  pub away : AreBoxesOf ranged.away Away tests rows
  pub turned : AreTurned ranged.turned tests rows

-- the groups are those by the value of the only unequal test, and no test is equal
pub record AreOthers (part : GroupBoxes) (tests : List TTest) (rows : List Row) : Type 0 where
  pub one : length (unequals tests) ≡ 1
  pub alone : grouping Away tests ≡ []
  pub turned : AreBoxesOf part Alike tests rows

-- the attribute that is the weight of points, where they have one
abbrev pub weight_of : GroupBoxes → Option Attr
weight_of part = part.boxes.now.axes.weigh

-- all points weigh by this attribute
pub record AreWeighed (ranged : Ranged) (attr : Attr) : Type 0 where
  pub away : weight_of ranged.away ≡ Some attr
  pub turned : ForSome ranged.turned (λ part. weight_of part ≡ Some attr)

-- a fold that adds up what passes
abbrev pub is_total : FoldKind → Bool
is_total Count = true
is_total Sum = true
is_total kind = false
