-- Where a run has its script and its units from.
use Rattle.std.specs.Prelude.{ℕ, List, Option, Some}
use Rattle.sgl_outside.specs.Folders.{Files}
use Rattle.battle_maker.specs.Sample.{sample_script, units_text}
use Rattle.battle_words.specs.Words.{Settings}
use Rattle.battle_words.specs.declared.command_line.Input.{Input}
use Rattle.battle_words.specs.declared.command_line.Input.TheVariants as inputs

-- the bytes of the script: what is held under its name, or the script of a sample
abbrev pub script_from : Input → Files → Option (List ℕ)
script_from (inputs.Files script units) files = files script
script_from (inputs.Sample count) files = Some sample_script

-- the bytes of the units: what is held under their name, or those of a sample of so many, drawn with the seed
abbrev pub units_from : Input → ℕ → Files → Option (List ℕ)
units_from (inputs.Files script units) seed files = files units
units_from (inputs.Sample count) seed files = Some (units_text count seed)

abbrev pub script_bytes : Settings → Files → Option (List ℕ)
script_bytes s = script_from s.input

abbrev pub units_bytes : Settings → Files → Option (List ℕ)
units_bytes s = units_from s.input s.seed
