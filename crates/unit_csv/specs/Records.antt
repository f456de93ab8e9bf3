-- The records that a reader of a text has left.
use Rattle.std.specs.Prelude.{◌≡◌, ℕ, ◌+◌, List, [], length, Option, None, Some, IsSome}
use Rattle.csv.specs.declared.parser.State.{State}
use Rattle.csv.specs.declared.reader.Reader.{Reader}
use Rattle.csv.specs.declared.reader.Trim.TheVariants as trim
use Rattle.csv.specs.Reading.{Ready, default_config, reader_config, reader_state, reader_trim, records_from, source_of}

-- the records of the bytes that are left, from a state
abbrev pub records_of : State → Option (List ℕ) → List (List (List ℕ))
records_of state None = []
records_of state (Some xs) = records_from default_config (length xs + 1) state xs

-- the records that a reader has left, where `content` tells the bytes of what it reads from
abbrev pub records_left : {R : Type 0} → Reader R → (R → Option (List ℕ)) → List (List (List ℕ))
records_left reader content = records_of (reader_state reader) (source_of content reader)

-- a reader that reads on, with the settings of a unit table
pub record IsReading {R : Type 0} (reader : Reader R) (content : R → Option (List ℕ)) : Type 0 where
  pub config : reader_config reader ≡ default_config
  pub trim : reader_trim reader ≡ trim.None
  pub ready : Ready reader
  pub known : IsSome (source_of content reader)
