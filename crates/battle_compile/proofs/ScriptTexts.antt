-- Texts that have no script.
use Rattle.std.proofs.Common.{ℕ, List}
use Rattle.sgl_expand.specs.declared.script.ExpandFault.{ExpandFault}
use Rattle.sgl_expand.specs.declared.script.ExpandFault.TheVariants as expanding
use Rattle.sgl_expand.specs.Expand.{IsExpandRefusal}
use Rattle.sgl_tree.specs.declared.item.Script.{Script}
use Rattle.sgl_typed.specs.declared.script.TScript.{TScript}
use Rattle.battle_compile.specs.ScriptText.{IsScriptFault, IsTypedText, expand_fault}

-- a script that breaks no type rule, and passes a limit once it is written out
pub expand_refused : (text : List ℕ) (parsed : Script) (typed : TScript) (f : ExpandFault) → IsTypedText text parsed typed → IsExpandRefusal typed f → IsScriptFault text (expand_fault f)
expand_refused text parsed typed (expanding.TooLarge nodes) passes f = record { script = parsed; typed = typed; passes = passes; fault = f }
expand_refused text parsed typed (expanding.TooNested depth) passes f = record { script = parsed; typed = typed; passes = passes; fault = f }
expand_refused text parsed typed expanding.Memory passes f = tt
