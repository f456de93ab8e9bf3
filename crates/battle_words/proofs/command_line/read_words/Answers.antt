use Rattle.std.proofs.Common.{◌≡◌, ◌≢◌, Option, None, Result, Some, map, string_bytes}
use Rattle.std.specs.Prelude.{IfErr, IfOk, IsErrAnd}
use Rattle.std.proofs.lemmas.Result.{err_from_is_err_and}
use Rattle.clap.specs.Values.{kind_of}
use Rattle.clap.specs.declared.error.Error.{Error}
use Rattle.clap.specs.declared.error.kind.ErrorKind.TheVariants as kinds
use Rattle.clap.specs.Words.{app_of, found_of, rows_of}
use Rattle.battle_words.specs.declared.command_line.RunSettings.{RunSettings}
use Rattle.battle_words.specs.declared.command_line.WordsFault.{WordsFault}
use Rattle.battle_words.specs.declared.command_line.WordsFault.TheVariants as faults
use Rattle.battle_words.specs.Words.{Settings, settings, settings_in, settings_of}
use Rattle.battle_words.proofs.Commands.{refused_words, settings_by_matches}
use Rattle.battle_words.proofs.command_line.read_words.Goals as goal

-- what is said of some settings holds of equal ones
ok_along : (r : Result RunSettings WordsFault) (o o' : Option Settings) → o ≡ o' → IfOk r (λ s. o' ≡ Some (settings s)) → IfOk r (λ s. o ≡ Some (settings s))
ok_along r o o' same h = rw same h

usage_along : (r : Result RunSettings WordsFault) (o o' : Option Settings) → o ≡ o' → IfErr r (λ e. e ≡ faults.Usage → o' ≡ None) → IfErr r (λ e. e ≡ faults.Usage → o ≡ None)
usage_along r o o' same h = rw same h

-- an error of `clap` that is told as Usage is not want of memory
told_usage : (r : Result RunSettings WordsFault) (o : Option Settings) (e : Error) → IsErrAnd r (λ f. f ≡ faults.Usage → kind_of e ≢ kinds.OutOfMemory)
    → (kind_of e ≢ kinds.OutOfMemory → o ≡ None) → IfErr r (λ f. f ≡ faults.Usage → o ≡ None)
told_usage r o e failed none =
    let told = err_from_is_err_and r failed in
    rw told.1 (λ is_usage. none (told.2 is_usage))

-- the words give what their matches give
same_settings : (c : goal.Joined-matches) → settings_of (map string_bytes c.args.words.now) ≡ settings_in (rows_of (found_of c.in_ok-matches.matches))
same_settings c = settings_by_matches (app_of c.in_ok-command.command) (map string_bytes c.args.words.now) c.in_ok-matches.matches c.in_ok-command.ensures
    c.in_ok-matches.ensures.kinds c.in_ok-matches.ensures.matches

pub returns-clause-ok : goal.returns-clause-ok
returns-clause-ok c = ok_along c.settings_in.result _ _ (same_settings c) c.settings_in.ensures.ok

pub returns-clause-usage : goal.returns-clause-usage
returns-clause-usage c = usage_along c.settings_in.result _ _ (same_settings c) c.settings_in.ensures.usage

pub returns-in_err-matches-clause-usage : goal.returns-in_err-matches-clause-usage
returns-in_err-matches-clause-usage c = told_usage c.from_residual-in_err-matches.result _ c.in_err-matches.field-0.0 c.from_residual-in_err-matches.ensures.1
    (refused_words (app_of c.in_ok-command.command) (map string_bytes c.args.words.now) c.in_err-matches.field-0.0 c.in_ok-command.ensures
    c.in_err-matches.ensures.kinds)
