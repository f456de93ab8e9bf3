-- A run that is refused before it starts.
use Rattle.std.proofs.Common.{◌≡◌, ◌≤◌, ℕ, List, Option, None, Some, IfSome, Result, Ok, Err, IfErr, refl, subst, sym, inl, inr}
use Rattle.sgl_outside.specs.Folders.{Files}
use Rattle.sgl_outside.proofs.Writes.{rose_later}
use Rattle.sgl_typed.specs.declared.script.TScript.{TScript}
use Rattle.sgl_typed.specs.declared.schema.Schema.{Schema}
use Rattle.battle_words.specs.declared.command_line.Input.{Input}
use Rattle.battle_words.specs.declared.command_line.Input.TheVariants as inputs
use Rattle.battle_host.specs.declared.start.Ended.{Ended}
use Rattle.battle_host.specs.declared.status.Status.{Status}
use Rattle.battle_host.specs.declared.status.Status.TheVariants as status
use Rattle.battle_maker.specs.Sample.{sample_script, units_text}
use Rattle.battle_host.specs.Start.{HasScript, PassesScript, RefusesUnits, RefusesUnitsOf, StartRefused, UnitStartRefused, UnitTextRefused, SampleRefused, ScriptStartRefused, ScriptTextRefused, no_schema}

module _ (before middle now : List ℕ → ℕ) (n m : List ℕ) (seed : ℕ) (script : TScript) where
  abbrev Passes : Files → Type 0
  Passes files = PassesScript (files n) script

  has : (held : Option Files) → IfSome held Passes → IfSome held (λ files. HasScript (files n))
  has None passes = tt
  has (Some files) passes = (script, passes)

  of_script : (held : Option Files) (end : Status) → IfSome held Passes → IfSome held (λ files. RefusesUnits script.schema (files m) end)
      → IfSome held (λ files. RefusesUnitsOf (files n) (files m) script.schema end)
  of_script None end passes refused = tt
  of_script (Some files) end passes refused = (script, passes, refused, refl)

  refused : (held : Option Files) (end : Status) → ((other : List ℕ) → before other ≤ middle other) → IfSome held Passes
      → UnitStartRefused held middle now script.schema m end → StartRefused (inputs.Files n m) seed held before now script.schema end
  refused held status.ReadFault later passes why = inr (rose_later (before m) (middle m) (now m) (later m) why, has held passes)
  refused held (status.Units r) later passes why = (why.0, of_script held (status.Units r) passes why.1)
  refused held status.Memory later passes why = tt
  refused held end later passes why = absurd why

  -- the same by what the folder tells behind the script
  pub units_refused : (held behind : Option Files) (end : Status) → behind ≡ held → ((other : List ℕ) → before other ≤ middle other) → IfSome held Passes
      → UnitStartRefused behind middle now script.schema m end → StartRefused (inputs.Files n m) seed held before now script.schema end
  units_refused held behind end same later passes why = refused held end later passes (subst (λ (o : Option Files). UnitStartRefused o middle now script.schema m end) same why)

-- ---- what an answer tells of a refusal

-- a refusal that tells this status and these names
pub tells : (input : Input) (seed : ℕ) (held : Option Files) (before now : List ℕ → ℕ) (e : Ended) (schema : Schema) (end : Status) → e.status ≡ end → e.schema ≡ schema
    → StartRefused input seed held before now schema end → StartRefused input seed held before now e.schema e.status
tells input seed held before now e schema end same_end same_schema why =
    subst (λ names. StartRefused input seed held before now names e.status) (sym same_schema) (subst (StartRefused input seed held before now schema) (sym same_end) why)

module _ (before now : List ℕ → ℕ) (n m : List ℕ) (seed : ℕ) (held : Option Files) where
  script_refused : (end : Status) → ScriptStartRefused held before now n end → StartRefused (inputs.Files n m) seed held before now no_schema end
  script_refused status.ReadFault why = inl why
  script_refused (status.Script r) why = (why.0, why.1, refl)
  script_refused status.Memory why = tt
  script_refused end why = absurd why

  -- the script of two files was refused
  pub script_tells : (e : Ended) (end : Status) → e.status ≡ end → e.schema ≡ no_schema → ScriptStartRefused held before now n end
      → StartRefused (inputs.Files n m) seed held before now e.schema e.status
  script_tells e end same_end same_schema why = tells (inputs.Files n m) seed held before now e no_schema end same_end same_schema (script_refused end why)

-- ---- samples

-- what holds of a text holds of what any folder tells
of_text : {P : Type 0} (held : Option Files) → P → IfSome held (λ files. P)
of_text None p = tt
of_text (Some files) p = p

module _ (count seed : ℕ) (held : Option Files) (before now : List ℕ → ℕ) where
  abbrev Refused : Schema → Status → Type 0
  Refused schema end = StartRefused (inputs.Sample count) seed held before now schema end

  by_script : (end : Status) → ScriptTextRefused sample_script end → Refused no_schema end
  by_script (status.Script r) why = (why.0, of_text held why.1, refl)
  by_script status.Memory why = tt
  by_script end why = absurd why

  by_units : (script : TScript) (end : Status) → PassesScript (Some sample_script) script → UnitTextRefused script.schema (units_text count seed) end → Refused script.schema end
  by_units script (status.Units r) passes why = (why.0, of_text held (script, passes, why.1, refl))
  by_units script status.Memory passes why = tt
  by_units script end passes why = absurd why

  pub sample_refused : (schema : Schema) (end : Status) → SampleRefused count seed schema end → Refused schema end
  sample_refused schema end (inl why) = subst (λ names. Refused names end) (sym why.1) (by_script end why.0)
  sample_refused schema end (inr why) = subst (λ names. Refused names end) (sym why.3) (by_units why.0 end why.1 why.2)

-- the same of what a start answers
pub sample_start : {T : Type 0} (r : Result T Ended) (input : Input) (count seed : ℕ) (held : Option Files) (before now : List ℕ → ℕ) → input ≡ inputs.Sample count
    → IfErr r (λ e. SampleRefused count seed e.schema e.status) → IfErr r (λ e. StartRefused input seed held before now e.schema e.status)
sample_start (Ok x) input count seed held before now is why = tt
sample_start (Err e) input count seed held before now is why =
    subst (λ i. StartRefused i seed held before now e.schema e.status) (sym is) (sample_refused count seed held before now e.schema e.status why)
