-- What the words of the command line ask for.
use Rattle.std.specs.Prelude.{◌≡◌, ◌≤◌, ◌^◌, ◌-◌, ◌&&◌, ⊤, ℕ, Bool, false, true, not, List, [], ◌∷◌, fold, Option, None, Some, option_map, if◌then◌else◌, codes}
use Rattle.std.specs.Str.{bytes_eq}
use Rattle.clap.specs.Simple.{on_top}
use Rattle.clap.specs.Walk.{is_empty}
use Rattle.clap.specs.Words.{App, Row, Rule, Text, fault_of, first_of, matches_of, new_app, new_rule, rule_of, with_rule}
use Rattle.clap.specs.declared.builder.arg.Arg.{Arg}
use Rattle.clap.specs.declared.builder.ArgAction.TheVariants.{Set, SetTrue}
use Rattle.battle_words.specs.Decimal.{number_or, number_within}
use Rattle.battle_words.specs.declared.command_line.RunSettings.{RunSettings}
use Rattle.battle_words.specs.declared.command_line.Input.{Input}
use Rattle.battle_words.specs.declared.command_line.Input.TheVariants as inputs
use Rattle.battle_words.specs.declared.TheConstants.{WORKERS_DEFAULT}
use Rattle.sgl_values.specs.declared.limit.TheConstants.{ITEMS_MAX, LOOKS_MAX, ROWS_MAX, SPECTATORS_MAX, TICKS_MAX, WORKERS_MAX}

-- the number of ticks; the names of the two files, or the number of units of the sample; the number of workers; the seed of
-- the draw; the limit of a tick's items; whether the plain engine runs, summaries are written and the plan is explained; the
-- number of spectators, and of the looks of each
pub record Settings : Type 0 where
  pub ticks : ℕ
  pub input : Input
  pub workers : ℕ
  pub seed : ℕ
  pub items : ℕ
  pub plain : Bool
  pub summary : Bool
  pub explain : Bool
  pub watch : ℕ
  pub looks : ℕ

-- ---- the command, as `clap` reads it

-- TICKS, which has to be there
abbrev pub ticks_rule : Rule
ticks_rule = record (new_rule (codes "ticks")) { required = true; action = Some Set }

-- an option `--name` with a text
abbrev pub option_rule : Text → Rule
option_rule name = record (new_rule name) { long = Some name; action = Some Set }

-- a flag `--name`, an option without a value
abbrev pub flag_rule : Text → Rule
flag_rule name = record (new_rule name) { long = Some name; action = Some SetTrue }

-- no word is the program's name, and none asks for help
abbrev pub plain_app : App
plain_app = on_top (λ s. record s { no_binary_name = true; disable_help_flag = true }) (new_app (codes "battle"))

-- one option more
abbrev pub with_option : App → Text → App
with_option app name = with_rule app (option_rule name)

-- one flag more
abbrev pub with_flag : App → Text → App
with_flag app name = with_rule app (flag_rule name)

abbrev pub option_names : List Text
option_names = codes "script" ∷ codes "units" ∷ codes "sample" ∷ codes "workers" ∷ codes "seed" ∷ codes "items" ∷ codes "engine"
    ∷ codes "watch" ∷ codes "looks" ∷ []

abbrev pub flag_names : List Text
flag_names = codes "summary" ∷ codes "explain" ∷ []

-- battle TICKS --script FILE --units FILE [options], or battle TICKS --sample N [options]
abbrev pub battle_app : App
battle_app = fold with_flag (fold with_option (with_rule plain_app ticks_rule) option_names) flag_names

-- the code's argument is read by the rule, and only at its own command
pub record IsArgument (rule : Rule) (a : Arg) : Type 0 where
  pub reads : rule_of a ≡ rule
  pub local : a.global ≡ false

-- ---- what the words say

-- both files and no sample, or a sample and no file
abbrev pub input_from : Option Text → Option Text → Option Text → Option Input
input_from (Some script) (Some units) None = Some (inputs.Files script units)
input_from None None (Some sample) = option_map inputs.Sample (number_within 0 ROWS_MAX sample)
input_from _ _ _ = None

-- whether the plain engine runs: the engine is `plan`, also where it is not there, or `plain`, which has no plan to explain
abbrev pub plain_from : Option Text → Bool → Option Bool
plain_from None explain = Some false
plain_from (Some engine) explain = if bytes_eq engine (codes "plan") then Some false
    else (if bytes_eq engine (codes "plain") && not explain then Some true else None)

-- a flag is set where its value is `true`, which `clap` gives it where it is there
abbrev pub is_set : Option Text → Bool
is_set None = false
is_set (Some text) = bytes_eq text (codes "true")

abbrev pub input_in : List Row → Option Input
input_in rows = input_from (first_of (codes "script") rows) (first_of (codes "units") rows) (first_of (codes "sample") rows)

-- the settings, where no part is missing or out of its range
abbrev pub settings_from : Option ℕ → Option Input → Option ℕ → Option ℕ → Option ℕ → Option Bool → Bool → Bool → Option ℕ → Option ℕ
    → Option Settings
settings_from (Some ticks) (Some input) (Some workers) (Some seed) (Some items) (Some plain) summary explain (Some watch) (Some looks) = Some (record {
  ticks = ticks;
  input = input;
  workers = workers;
  seed = seed;
  items = items;
  plain = plain;
  summary = summary;
  explain = explain;
  watch = watch;
  looks = looks;
})
settings_from _ _ _ _ _ _ _ _ _ _ = None

-- a number is 1 to 20 decimal digits; an option that is not there has its default
abbrev pub settings_in : List Row → Option Settings
settings_in rows = settings_from
    (number_or None 0 TICKS_MAX (first_of (codes "ticks") rows))
    (input_in rows)
    (number_or (Some WORKERS_DEFAULT) 1 WORKERS_MAX (first_of (codes "workers") rows))
    (number_or (Some 0) 0 (2 ^ 64 - 1) (first_of (codes "seed") rows))
    (number_or (Some ITEMS_MAX) 1 ITEMS_MAX (first_of (codes "items") rows))
    (plain_from (first_of (codes "engine") rows) (is_set (first_of (codes "explain") rows)))
    (is_set (first_of (codes "summary") rows))
    (is_set (first_of (codes "explain") rows))
    (number_or (Some 0) 0 SPECTATORS_MAX (first_of (codes "watch") rows))
    (number_or (Some 1) 1 LOOKS_MAX (first_of (codes "looks") rows))

-- the settings that words give, where the command takes them
abbrev pub settings_of : List Text → Option Settings
settings_of words = if is_empty (fault_of battle_app words) then settings_in (matches_of battle_app words) else None

-- ---- what a clause reads of the settings

abbrev pub settings : RunSettings → Settings
settings s = record {
  ticks = s.ticks;
  input = s.input;
  workers = s.workers;
  seed = s.seed;
  items = s.items;
  plain = s.plain;
  summary = s.summary;
  explain = s.explain;
  watch = s.watch;
  looks = s.looks;
}

-- a sample is in its range
abbrev pub IsInputWithin : Input → Type 0
IsInputWithin (inputs.Files script units) = ⊤
IsInputWithin (inputs.Sample count) = count ≤ ROWS_MAX

-- the numbers are in their ranges
pub record AreWithin (s : RunSettings) : Type 0 where
  pub ticks : s.ticks ≤ TICKS_MAX
  pub sample : IsInputWithin s.input
  pub some_worker : 1 ≤ s.workers
  pub workers : s.workers ≤ WORKERS_MAX
  pub some_item : 1 ≤ s.items
  pub items : s.items ≤ ITEMS_MAX
  pub watch : s.watch ≤ SPECTATORS_MAX
  pub some_look : 1 ≤ s.looks
  pub looks : s.looks ≤ LOOKS_MAX
