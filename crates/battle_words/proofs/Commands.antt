-- The command, and what its matches give.
use Rattle.std.proofs.Common.{◌≡◌, ◌≢◌, ◌∙◌, List, [], ◌∷◌, Option, None, ap, ap₂, arith, cond, inl, inr, refl, subst, sym, true}
use Rattle.std.proofs.lemmas.Bool.Decides.{nat_tests}
use Rattle.clap.specs.Kinds.{HasKind, IsAmong, Kinds}
use Rattle.clap.specs.Values.{kind_of}
use Rattle.clap.specs.Walk.{is_empty}
use Rattle.clap.specs.Words.{AddsArg, App, HasMatchesOf, Rule, Text, app_of, fault_of, found_of, is_simple, is_simple_and_free, matches_of, rows_of, with_rule}
use Rattle.clap.specs.declared.builder.arg.Arg.{Arg}
use Rattle.clap.specs.declared.builder.command.Command.{Command}
use Rattle.clap.specs.declared.error.Error.{Error}
use Rattle.clap.specs.declared.error.kind.ErrorKind.{ErrorKind}
use Rattle.clap.specs.declared.error.kind.ErrorKind.TheVariants as kinds
use Rattle.clap.specs.declared.parser.matches.ArgMatches.{ArgMatches}
use Rattle.clap.proofs.OnLiterals.{clap_on_literals}
use Rattle.battle_words.specs.Words.{IsArgument, Settings, battle_app, settings_in, settings_of}

-- one argument more is one rule more
pub with_argument : {app : App} {rule : Rule} {old new : Command} {a : Arg} → AddsArg old a new → IsArgument rule a → app_of old ≡ app
    → app_of new ≡ with_rule app rule
with_argument added argument so_far = added.shape argument.local ∙ ap₂ with_rule so_far argument.reads

-- `clap` defines the matches and the faults of the command
simple : is_simple battle_app ≡ true
unfolding clap_on_literals
simple = refl

simple_and_free : is_simple_and_free battle_app ≡ true
unfolding clap_on_literals
simple_and_free = refl

-- words without a fault are taken
without_fault : (faults : Kinds) (s : Option Settings) → faults ≡ [] → cond (is_empty faults) s None ≡ s
without_fault faults s none = rw none refl

-- the settings that words give are those of the matches that they get
pub settings_by_matches : (app : App) (words : List Text) (m : ArgMatches) → app ≡ battle_app
    → (is_simple_and_free app ≡ true → fault_of app words ≡ []) → HasMatchesOf app words m
    → settings_of words ≡ settings_in (rows_of (found_of m))
settings_by_matches app words m is_battle no_fault matched =
    let taken : fault_of battle_app words ≡ [] =
    ap (λ (a : App). fault_of a words) (sym is_battle) ∙ no_fault (ap is_simple_and_free is_battle ∙ simple_and_free) in
    let rows : rows_of (found_of m) ≡ matches_of battle_app words =
    (matched (ap is_simple is_battle ∙ simple)).0 ∙ ap (λ (a : App). matches_of a words) is_battle in
    without_fault (fault_of battle_app words) (settings_in (matches_of battle_app words)) taken ∙ ap settings_in (sym rows)

-- words with a fault are not
with_fault : (faults : Kinds) (k : ErrorKind) (s : Option Settings) → IsAmong k faults → cond (is_empty faults) s None ≡ None
with_fault [] k s among = absurd among
with_fault (fault ∷ faults) k s among = grind (arith, nat_tests)

-- words that the command refuses give no settings
pub refused_words : (app : App) (words : List Text) (e : Error) → app ≡ battle_app → (is_simple_and_free app ≡ true → HasKind (fault_of app words) e)
    → kind_of e ≢ kinds.OutOfMemory → settings_of words ≡ None
refused_words app words e is_battle has_kind has_memory =
    let among : IsAmong (kind_of e) (fault_of app words) = elim (has_kind (ap is_simple_and_free is_battle ∙ simple_and_free)) [
      | inl out_of_memory ↦ absurd (has_memory out_of_memory)
      | inr among ↦ among
    ] in
    with_fault (fault_of battle_app words) (kind_of e) (settings_in (matches_of battle_app words))
    (subst (λ (a : App). IsAmong (kind_of e) (fault_of a words)) is_battle among)
