-- Words for scripts of one line, of which the examples are made.
use Rattle.std.proofs.Common.{◌≡◌, ℕ, ℤ, pos, List, [], ◌∷◌, Option, None, true}
use Rattle.std.specs.Prelude.{codes}
use Rattle.sgl_values.specs.World.{Row, World}
use Rattle.sgl_values.specs.declared.place.Place.{Place}
use Rattle.sgl_values.specs.declared.fault.Tag.{Tag}
use Rattle.sgl_values.specs.declared.operator.BinOp.{BinOp}
use Rattle.sgl_values.specs.declared.operator.CmpOp.{CmpOp}
use Rattle.sgl_values.specs.declared.operator.FoldKind.{FoldKind}
use Rattle.sgl_typed.specs.declared.script.Attr.{Attr}
use Rattle.sgl_typed.specs.declared.script.Attr.TheVariants.{Key, Const}
use Rattle.sgl_typed.specs.declared.schema.EffectAttr.{EffectAttr}
use Rattle.sgl_typed.specs.declared.script.TAction.{TAction}
use Rattle.sgl_typed.specs.declared.script.TAgg.{TAgg}
use Rattle.sgl_typed.specs.declared.script.TExpr.{TExpr}
use Rattle.sgl_typed.specs.declared.script.TExpr.TheVariants.{Number, Unit as OfUnit, Agg, Binary}
use Rattle.sgl_typed.specs.declared.script.TRule.{TRule}
use Rattle.sgl_typed.specs.declared.script.TScript.{TScript}
use Rattle.sgl_typed.specs.declared.script.TSpawn.{TSpawn}
use Rattle.sgl_typed.specs.declared.script.TStmt.{TStmt}
use Rattle.sgl_typed.specs.declared.script.TStmt.TheVariants.{If, Act}
use Rattle.sgl_typed.specs.declared.script.TTest.{TTest}
use Rattle.sgl_typed.specs.declared.script.TTest.TheVariants.{Compare}
use Rattle.sgl_typed.specs.declared.script.TWrite.{TWrite}
use Rattle.sgl_typed.specs.SchemaForm.{attributes_fit}
use Rattle.sgl_typed.specs.Tick.{Run}
use Rattle.sgl_typed.specs.WellFormed.{is_well_formed}

abbrev pub at : ℕ → Place
at col = record { line = 1; col = col }

abbrev pub number : ℕ → TExpr
number n = Number (pos n)

abbrev pub calc : BinOp → TExpr → TExpr → TExpr
calc op left right = Binary op left right (at 1)

abbrev pub u : ℕ → TExpr
u attr = OfUnit (Const attr)

abbrev pub call : ℕ → List TExpr → TExpr
call agg args = Agg record { agg = agg; args = args; place = at 1 }

abbrev pub test : Attr → CmpOp → TExpr → TTest
test attr op right = Compare attr op right

abbrev pub fold : FoldKind → Attr → ℕ → List TTest → TAgg
fold kind attr params tests = record { name = codes "Fold"; params = params; kind = kind; place = at 34; attr = attr; second = Key; tests = tests; otherwise = pos 0 }

abbrev pub write : ℕ → TExpr → TWrite
write effect amount = record { effect = effect; amount = amount; by = None }

abbrev pub on_rows : ℕ → List TTest → List TWrite → TAction
on_rows params tests writes = record { name = codes "Write"; params = params; ons = record { tests = tests; writes = writes } ∷ [] }

abbrev pub perform : ℕ → List TExpr → TStmt
perform action args = Act action args (at 1)

abbrev pub choose : TExpr → List TStmt → List TStmt → TStmt
choose cond taken other = If cond (at 1) taken other

abbrev pub assign : ℕ → TExpr → TRule
assign attr value = record { attr = attr; value = value }

abbrev pub effect : List ℕ → Tag → ℤ → EffectAttr
effect name tag init = record { name = name; tag = tag; init = init }

abbrev pub unit : ℕ → List ℤ → Row
unit key values = record { key = key; values = values }

abbrev pub world_behind : ℕ → ℕ → List Row → World
world_behind number last rows = record { tick = number; last_key = last; rows = rows }

-- where nothing spawns the last key stays
abbrev pub world : ℕ → List Row → World
world number = world_behind number 9

-- a run through these worlds that no tick refuses
abbrev pub through : List World → Run
through worlds = record { worlds = worlds; end = None }

-- what makes a script without routines
pub record Parts : Type 0 where
  pub consts : List (List ℕ)
  pub effects : List EffectAttr
  pub aggs : List TAgg
  pub actions : List TAction
  pub main : List TStmt
  pub slots : ℕ
  pub rules : List TRule
  pub spawn : Option TSpawn
  pub removal : Option TExpr

-- the attributes fit, and so does the rest
pub record Fit (p : Parts) : Type 0 where
  pub names : attributes_fit p.consts p.effects ≡ true
  pub rest : is_well_formed record { consts = p.consts; effects = p.effects; fits = names } p.aggs p.actions [] p.main p.slots p.rules p.spawn p.removal ≡ true

abbrev pub script_of : (p : Parts) → Fit p → TScript
script_of p fit = record {
  schema = record { consts = p.consts; effects = p.effects; fits = fit.names };
  aggs = p.aggs;
  actions = p.actions;
  routines = [];
  main = p.main;
  slots = p.slots;
  rules = p.rules;
  spawn = p.spawn;
  removal = p.removal;
  well_formed = fit.rest;
}

-- these parts fit, and this is so of their script
pub record Example (p : Parts) (So : TScript → Type 0) : Type 0 where
  pub fit : Fit p
  pub so : So (script_of p fit)

abbrev pub parts : List (List ℕ) → List EffectAttr → List TAgg → List TAction → List TStmt → ℕ → List TRule → Option TExpr → Parts
parts consts effects aggs actions main slots rules removal = record {
  consts = consts;
  effects = effects;
  aggs = aggs;
  actions = actions;
  main = main;
  slots = slots;
  rules = rules;
  spawn = None;
  removal = removal;
}
