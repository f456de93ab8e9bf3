-- The lines of refusals.
use Rattle.std.specs.Prelude.{ℕ, zero, suc, List, [], ◌∷◌, ◌++◌, map, codes}
use Rattle.sgl_values.specs.declared.fault.ArithFault.{ArithFault}
use Rattle.sgl_values.specs.declared.fault.ArithFault.TheVariants.{Overflow, ZeroDivisor, Priority}
use Rattle.sgl_values.specs.declared.fault.Fault.{Fault}
use Rattle.sgl_lexer.specs.declared.fault.LexFault.{LexFault}
use Rattle.sgl_lexer.specs.declared.fault.LexFault.TheVariants as lexical
use Rattle.sgl_parser.specs.declared.parser.ParseFault.{ParseFault}
use Rattle.sgl_parser.specs.declared.parser.ParseFault.TheVariants as parsing
use Rattle.sgl_types.specs.declared.finding.TypeKind.{TypeKind}
use Rattle.sgl_types.specs.declared.finding.TypeKind.TheVariants as rules
use Rattle.sgl_types.specs.declared.type_fault.TypeFault.{TypeFault}
use Rattle.sgl_types.specs.declared.type_fault.TypeFault.TheVariants as typing
use Rattle.battle_compile.specs.declared.fault.ScriptFault.TheVariants as fault
use Rattle.battle_compile.specs.declared.fault.ScriptFault.{ScriptFault}
use Rattle.sgl_typed.specs.declared.schema.Schema.{Schema}
use Rattle.sgl_typed.specs.declared.tick_fault.TickFault.{TickFault}
use Rattle.sgl_typed.specs.declared.tick_fault.TickFault.TheVariants as tick
use Rattle.unit_csv.specs.declared.faults.UnitFault.{UnitFault}
use Rattle.unit_csv.specs.declared.faults.UnitFault.TheVariants as table
use Rattle.battle_report.specs.Lines.{at_text, name_at, numbered, place_line, twice_numbered}

-- ---- scripts

abbrev pub lex_line : LexFault → List ℕ
lex_line (lexical.BadByte place) = place_line (codes "script: bad byte at ") place
lex_line (lexical.LongName place) = place_line (codes "script: long name at ") place
lex_line (lexical.LongNumber place) = place_line (codes "script: long number at ") place
lex_line lexical.Memory = codes "out of memory\n"

abbrev pub parse_line : ParseFault → List ℕ
parse_line (parsing.Syntax token place) = place_line (codes "script: syntax at ") place
parse_line (parsing.TooDeep place) = place_line (codes "script: too deep at ") place
parse_line parsing.Memory = codes "out of memory\n"

-- what a broken type rule is called, up to its place
abbrev pub kind_words : TypeKind → List ℕ
kind_words rules.UnknownName = codes "script: unknown name at "
kind_words rules.UsedBeforeDefined = codes "script: used before defined at "
kind_words rules.Twice = codes "script: twice at "
kind_words rules.WrongCount = codes "script: wrong count at "
kind_words rules.WantsNumber = codes "script: wants number at "
kind_words rules.WantsTruth = codes "script: wants truth at "
kind_words rules.EffectRead = codes "script: effect read at "
kind_words rules.ConstWritten = codes "script: const written at "
kind_words rules.NotConstTarget = codes "script: not const target at "
kind_words rules.NoMain = codes "script: no main at "
kind_words rules.TwoMains = codes "script: two mains at "
kind_words rules.ElseMissing = codes "script: else missing at "
kind_words rules.ElseUnwanted = codes "script: else unwanted at "
kind_words rules.LiteralRange = codes "script: literal range at "
kind_words rules.TooMany = codes "script: too many at "
kind_words rules.ByMissing = codes "script: by missing at "
kind_words rules.ByUnwanted = codes "script: by unwanted at "

abbrev pub type_line : TypeFault → List ℕ
type_line (typing.At kind place) = place_line (kind_words kind) place
type_line typing.Memory = codes "out of memory\n"

-- a script's fault
abbrev pub script_line : ScriptFault → List ℕ
script_line (fault.Lex f) = lex_line f
script_line (fault.Parse f) = parse_line f
script_line (fault.Types f) = type_line f
script_line (fault.TooLarge nodes) = codes "script: too large\n"
script_line (fault.TooNested depth) = codes "script: too nested\n"
script_line fault.Memory = codes "out of memory\n"

-- ---- unit tables

-- the name of a column: `key`, or that of a const attribute, counted from 1
abbrev pub column_name : Schema → ℕ → List ℕ
column_name schema zero = codes "key"
column_name schema (suc attr) = name_at schema.consts attr

-- a fault of a field: its record and its column
abbrev pub field_line : ℕ → ℕ → List ℕ → List ℕ
field_line record_number column after = twice_numbered (codes "units: record ") record_number (codes " column ") column after

abbrev pub unit_line : Schema → UnitFault → List ℕ
unit_line schema table.NoHeader = codes "units: no header\n"
unit_line schema (table.MissingColumn column) = codes "units: missing column " ++ (column_name schema column ++ codes "\n")
unit_line schema (table.ExtraColumn column) = numbered (codes "units: extra column ") column (codes "\n")
unit_line schema (table.TwiceColumn column) = numbered (codes "units: column ") column (codes " twice\n")
unit_line schema (table.Ragged number) = numbered (codes "units: record ") number (codes ": ragged\n")
unit_line schema (table.BadNumber number column) = field_line number column (codes ": bad number\n")
unit_line schema (table.OutOfRange number column) = field_line number column (codes ": out of range\n")
unit_line schema (table.BadKey number) = numbered (codes "units: record ") number (codes ": bad key\n")
unit_line schema (table.TwiceKey number) = numbered (codes "units: record ") number (codes ": key twice\n")
unit_line schema table.TooMany = codes "units: too many\n"
unit_line schema table.Memory = codes "out of memory\n"

-- ---- ticks

abbrev pub fault_words : ArithFault → List ℕ
fault_words Overflow = codes "overflow"
fault_words ZeroDivisor = codes "zero divisor"
fault_words Priority = codes "priority"

abbrev pub fault_line : Fault → List ℕ
fault_line f = fault_words f.kind ++ (at_text f.place ++ (10 ∷ []))

-- the name of an effect attribute
abbrev pub effect_name : Schema → ℕ → List ℕ
effect_name schema attr = name_at (map (λ effect. effect.name) schema.effects) attr

abbrev pub tick_line : Schema → ℕ → TickFault → List ℕ
tick_line schema t (tick.Items limit) = twice_numbered (codes "tick ") t (codes ": items above ") limit (codes "\n")
tick_line schema t (tick.Script key f) = twice_numbered (codes "tick ") t (codes ": unit ") key (codes ": ") ++ fault_line f
tick_line schema t (tick.Cell key attr) = twice_numbered (codes "tick ") t (codes ": unit ") key (codes ": ") ++ (effect_name schema attr ++ codes " out of range\n")
tick_line schema t (tick.Post key f) = twice_numbered (codes "tick ") t (codes ": post of unit ") key (codes ": ") ++ fault_line f
tick_line schema t (tick.KeysSpent last children) = twice_numbered (codes "tick ") t (codes ": keys spent after ") last (codes "\n")
tick_line schema t (tick.UnitsFull units) = numbered (codes "tick ") t (codes ": units above 65536\n")
tick_line schema t tick.Memory = codes "out of memory\n"
