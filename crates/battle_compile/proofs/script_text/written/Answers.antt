use Rattle.std.proofs.Common.{◌≡◌, ℕ, List, Result}
use Rattle.std.specs.Prelude.{IfErr, IsErrAnd}
use Rattle.std.proofs.lemmas.Result.{err_from_is_err_and}
use Rattle.sgl_typed.specs.declared.script.TScript.{TScript}
use Rattle.battle_compile.specs.ScriptText.{IsScriptFault}
use Rattle.battle_compile.specs.declared.fault.ScriptFault.{ScriptFault}
use Rattle.battle_compile.proofs.ScriptTexts.{expand_refused}
use Rattle.battle_compile.proofs.script_text.written.Goals as goal

-- a fault that is told as another one is the text's where that is
told_as : (text : List ℕ) (r : Result TScript ScriptFault) (fault : ScriptFault) → IsErrAnd r (λ told. told ≡ fault) → IsScriptFault text fault → IfErr r (IsScriptFault text)
told_as text r fault failed holds = let told = err_from_is_err_and r failed in rw (told.1, told.2) holds

pub returns-in_err-written-clause-fault : goal.returns-in_err-written-clause-fault
returns-in_err-written-clause-fault c =
    told_as c.args.text.now c.from_residual.result _ c.from_residual.ensures.1
    (expand_refused c.args.text.now c.args.script.now c.args.typed.now c.in_err-written.field-0.0 c.requires c.in_err-written.ensures.refused)
