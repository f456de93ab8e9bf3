-- The lines of a plan.
use Rattle.std.specs.Prelude.{ℕ, List, [], ◌∷◌, ◌++◌, codes, decimal, flat_map, map}
use Rattle.std.specs.List.{enumerate_from}
use Rattle.sgl_typed.specs.declared.script.TScript.{TScript}
use Rattle.battle_algebra.specs.declared.plan.EffectWay.{EffectWay}
use Rattle.battle_algebra.specs.declared.plan.EffectWay.TheVariants as effects
use Rattle.battle_algebra.specs.declared.plan.Node.{Node}
use Rattle.battle_algebra.specs.declared.plan.Node.TheVariants as node
use Rattle.battle_algebra.specs.declared.plan.Way.{Way}
use Rattle.battle_algebra.specs.declared.plan.Way.TheVariants as way
use Rattle.battle_report.specs.Lines.{at_text, name_at}

-- how an aggregate is answered
abbrev pub way_word : Way → List ℕ
way_word way.Scan = codes "scan"
way_word way.Key = codes "key"
way_word way.Range = codes "range"
way_word way.Sweep = codes "sweep"
way_word way.Nearest = codes "nearest"
way_word way.Circle = codes "circle"

-- how the rows that an effect goes to are found
abbrev pub effect_way_word : EffectWay → List ℕ
effect_way_word effects.Scan = codes "scan"
effect_way_word effects.Key = codes "key"
effect_way_word effects.Slab = codes "slab"
effect_way_word effects.Area = codes "area"

-- the name of an aggregate, which is empty where the script lacks it
abbrev pub agg_name : TScript → ℕ → List ℕ
agg_name script agg = name_at (map (λ a. a.name) script.aggs) agg

-- the name of an action, likewise
abbrev pub action_name : TScript → ℕ → List ℕ
action_name script action = name_at (map (λ a. a.name) script.actions) action

-- the number of the node that comes next
abbrev pub then_text : ℕ → List ℕ
then_text child = codes " then " ++ decimal child

-- what a node does
abbrev pub node_text : TScript → Node → List ℕ
node_text script node.Empty = codes "empty"
node_text script (node.Extend slot value place child) = codes "extend s" ++ (decimal slot ++ (at_text place ++ then_text child))
node_text script (node.Agg slot call how child) =
    codes "agg s" ++ (decimal slot ++ (32 ∷ (agg_name script call.agg ++ (32 ∷ (way_word how ++ (at_text call.place ++ then_text child))))))
node_text script (node.Split cond place taken other) =
    codes "split" ++ (at_text place ++ (codes " yes " ++ (decimal taken ++ (codes " no " ++ decimal other))))
node_text script (node.Effect act how) =
    codes "effect " ++ (action_name script act.action ++ (46 ∷ (decimal act.clause ++ (32 ∷ (effect_way_word how ++ at_text act.place)))))
node_text script (node.Both left right) = codes "both " ++ (decimal left ++ (32 ∷ decimal right))

-- a line that begins with a node's number
abbrev pub numbered_line : ℕ → List ℕ → List ℕ
numbered_line number text = decimal number ++ (32 ∷ (text ++ (10 ∷ [])))

-- the line of a node with its number
abbrev pub node_line : TScript → ℕ × Node → List ℕ
node_line script entry = numbered_line entry.0 (node_text script entry.1)

-- a head, and then a line for each node, which are numbered from 0 on
abbrev pub plan_text : TScript → List Node → List ℕ
plan_text script nodes = codes "# plan\n" ++ flat_map (node_line script) (enumerate_from 0 nodes)
