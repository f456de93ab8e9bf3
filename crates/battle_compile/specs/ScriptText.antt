-- The script of a text, and why a text has none.
use Rattle.std.specs.Prelude.{◌≡◌, ℕ, List, [], true, ⊤}
use Rattle.sgl_lexer.specs.declared.fault.LexFault.{LexFault}
use Rattle.sgl_lexer.specs.declared.fault.LexFault.TheVariants as lexical
use Rattle.sgl_lexer.specs.declared.lexeme.Tokens.{Tokens}
use Rattle.sgl_lexer.specs.Lexing.{AreTokensOf, HasFault}
use Rattle.sgl_tree.specs.declared.item.Script.{Script}
use Rattle.sgl_parser.specs.declared.parser.ParseFault.{ParseFault}
use Rattle.sgl_parser.specs.declared.parser.ParseFault.TheVariants as parsing
use Rattle.sgl_parser.specs.Nesting.{IsShallow}
use Rattle.sgl_parser.specs.Readings as readings
use Rattle.sgl_parser.specs.Scripts.{IsScript}
use Rattle.sgl_parser.specs.Shape.{kinds_of}
use Rattle.sgl_typed.specs.declared.script.TScript.{TScript}
use Rattle.sgl_typed.specs.WrittenOut.{is_written_out}
use Rattle.sgl_types.specs.declared.type_fault.TypeFault.{TypeFault}
use Rattle.sgl_types.specs.declared.type_fault.TypeFault.TheVariants as typing
use Rattle.sgl_types.specs.Items.{type_faults}
use Rattle.sgl_types.specs.Refusal.{IsRefusal}
use Rattle.sgl_types.specs.TypedItems.{IsTyped}
use Rattle.sgl_expand.specs.declared.script.ExpandFault.{ExpandFault}
use Rattle.sgl_expand.specs.declared.script.ExpandFault.TheVariants as expanding
use Rattle.sgl_expand.specs.Expand.{IsExpandRefusal, IsWritten}
use Rattle.battle_compile.specs.declared.fault.ScriptFault.{ScriptFault}
use Rattle.battle_compile.specs.declared.fault.ScriptFault.TheVariants as fault

-- The text has no lexical fault, and its tokens nest at most 64 deep and spell this script.
pub record IsRead (text : List ℕ) (script : Script) : Type 0 where
  pub tokens : Tokens
  pub of_text : AreTokensOf text tokens
  pub spells : IsScript text tokens script
  pub shallow : IsShallow (kinds_of tokens.list)

-- The script breaks no type rule, and this is it with its names resolved.
pub record IsTypedText (text : List ℕ) (script : Script) (typed : TScript) : Type 0 where
  pub read : IsRead text script
  pub none : type_faults script ≡ []
  pub resolved : IsTyped script typed

-- And this is it with its routines written out, within the limits of a script.
pub record IsScriptText (text : List ℕ) (written : TScript) : Type 0 where
  pub script : Script
  pub typed : TScript
  pub passes : IsTypedText text script typed
  pub written_from : IsWritten typed written
  pub small : is_written_out written ≡ true

-- ---- why a text has no script

-- The text has no lexical fault, and its tokens have this fault.
pub record HasParseFault (text : List ℕ) (f : ParseFault) : Type 0 where
  pub tokens : Tokens
  pub of_text : AreTokensOf text tokens
  pub fault : readings.HasFault tokens f

-- The text spells a script, whose first broken type rule is this.
pub record HasTypeFault (text : List ℕ) (f : TypeFault) : Type 0 where
  pub script : Script
  pub read : IsRead text script
  pub fault : IsRefusal (type_faults script) f

-- Its script breaks no type rule, and it is too large or too nested once its routines are written out.
pub record HasExpandFault (text : List ℕ) (f : ExpandFault) : Type 0 where
  pub script : Script
  pub typed : TScript
  pub passes : IsTypedText text script typed
  pub fault : IsExpandRefusal typed f

abbrev pub IsScriptFault : List ℕ → ScriptFault → Type 0
IsScriptFault text (fault.Lex lexical.Memory) = ⊥
IsScriptFault text (fault.Lex f) = HasFault text f
IsScriptFault text (fault.Parse parsing.Memory) = ⊥
IsScriptFault text (fault.Parse f) = HasParseFault text f
IsScriptFault text (fault.Types typing.Memory) = ⊥
IsScriptFault text (fault.Types f) = HasTypeFault text f
IsScriptFault text (fault.TooLarge nodes) = HasExpandFault text (expanding.TooLarge nodes)
IsScriptFault text (fault.TooNested depth) = HasExpandFault text (expanding.TooNested depth)
IsScriptFault text fault.Memory = ⊤

-- ---- want of memory is told alone

abbrev pub script_fault : LexFault → ScriptFault
script_fault lexical.Memory = fault.Memory
script_fault f = fault.Lex f

abbrev pub parse_fault : ParseFault → ScriptFault
parse_fault parsing.Memory = fault.Memory
parse_fault f = fault.Parse f

abbrev pub type_fault : TypeFault → ScriptFault
type_fault typing.Memory = fault.Memory
type_fault f = fault.Types f

abbrev pub expand_fault : ExpandFault → ScriptFault
expand_fault (expanding.TooLarge nodes) = fault.TooLarge nodes
expand_fault (expanding.TooNested depth) = fault.TooNested depth
expand_fault expanding.Memory = fault.Memory
