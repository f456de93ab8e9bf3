-- What the body of a resolved expression must offer for all that its scope knows.
use Rattle.std.specs.Prelude.{ℕ, ◌≡◌, nat_lt, true, List, slice_get, Some}
use Rattle.sgl_typed.specs.WellFormed.{Body, slot_kind}
use Rattle.sgl_types.specs.declared.bodies.Local.{Local}
use Rattle.sgl_types.specs.declared.bodies.Part.TheVariants.{Statements, Amount, Post}
use Rattle.sgl_types.specs.declared.declared.AttrName.TheVariants.{Const, Effect}
use Rattle.sgl_types.specs.declared.declared.Callee.TheVariants.{Known}
use Rattle.sgl_types.specs.Scope.{Scope, attribute_of, callee_of, find_local}

pub record Matches (s : Scope) (b : Body) : Type 0 where
  pub consts : (name : List ℕ) (i : ℕ) → attribute_of s.all s.earlier name ≡ Const i → nat_lt i b.consts ≡ true
  pub effects : (name : List ℕ) (i : ℕ) → s.part ≡ Post → attribute_of s.all s.earlier name ≡ Effect i → nat_lt i b.effects ≡ true
  pub target : s.part ≡ Amount → b.has_target ≡ true
  pub slots : (name : List ℕ) (local : Local) → find_local name s.locals ≡ Some local → slot_kind local.slot b.slots ≡ Some local.kind
  pub aggs : (name : List ℕ) (number params : ℕ) → s.part ≡ Statements → callee_of s.all.aggs s.earlier.aggs name ≡ Known number params → slice_get b.aggs number ≡ Some params
