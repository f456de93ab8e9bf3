-- The ways of a plan's nodes, and the normal form of a script's plan.
use Rattle.std.specs.Prelude.{ℕ, ◌≡◌, ◌==◌, Bool, true}
use Rattle.sgl_typed.specs.declared.script.AggUse.{AggUse}
use Rattle.sgl_typed.specs.declared.script.TScript.{TScript}
use Rattle.battle_algebra.specs.Normal.{IsNormal}
use Rattle.battle_algebra.specs.OfScript.{IsOf}
use Rattle.battle_algebra.specs.Same.{same_call}
use Rattle.battle_algebra.specs.Tree.{Source, Computed, Called, Tree, Parts, each}
use Rattle.battle_algebra.specs.Ways.{class_of, effect_way}
use Rattle.battle_algebra.specs.declared.plan.EffectUse.{EffectUse}
use Rattle.battle_algebra.specs.declared.plan.EffectWay.{EffectWay}
use Rattle.battle_algebra.specs.declared.plan.EffectWay.TheVariants as effect_ways
use Rattle.battle_algebra.specs.declared.plan.Way.{Way}
use Rattle.battle_algebra.specs.declared.plan.Way.TheVariants as ways

-- a way for each use
pub record Ways : Type 0 where
  pub of_call : AggUse → Way
  pub of_act : EffectUse → EffectWay

abbrev pub way_number : Way → ℕ
way_number ways.Scan = 0
way_number ways.Key = 1
way_number ways.Range = 2
way_number ways.Sweep = 3
way_number ways.Nearest = 4
way_number ways.Circle = 5

abbrev pub effect_way_number : EffectWay → ℕ
effect_way_number effect_ways.Scan = 0
effect_way_number effect_ways.Key = 1
effect_way_number effect_ways.Slab = 2
effect_way_number effect_ways.Area = 3

-- the ways of a script
abbrev pub ways_of : TScript → Ways
ways_of script = record { of_call = class_of script; of_act = effect_way script }

abbrev pub has_way : Ways → Source → Bool
has_way ways (Computed e place) = true
has_way ways (Called call way) = way_number way == way_number (ways.of_call call)

-- each way is that of its use
abbrev pub chosen_ways : Ways → Parts
chosen_ways ways = record {
  sets = λ slot source. has_way ways source;
  splits = λ cond. true;
  acts = λ act way. effect_way_number way == effect_way_number (ways.of_act act);
}

-- the tree is of the script, and in normal form
pub record IsNormalFor (script : TScript) (tree : Tree) : Type 0 where
  pub of : IsOf script tree
  pub normal : IsNormal same_call tree
  pub ways : each (chosen_ways (ways_of script)) tree ≡ true
