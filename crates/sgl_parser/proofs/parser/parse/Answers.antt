use Rattle.sgl_lexer.proofs.Within.{tokens_within}
use Rattle.sgl_parser.specs.Scripts.{IsScript}
use Rattle.sgl_parser.proofs.Single.{one_script}
use Rattle.std.proofs.lemmas.Result.{IfOk-weaker}
use Rattle.sgl_parser.proofs.Suffixes.{names_short, actions_have_clauses}
use Rattle.sgl_parser.proofs.parser.parse.Goals as goal

pub returns-in-None-clause-one : goal.returns-in-None-clause-one
returns-in-None-clause-one c =
    IfOk-weaker c.read_whole.result (IsScript c.args.text.now c.args.tokens.now) _ (λ script h other q. one_script c.args.text.now c.args.tokens.now other script q h) c.read_whole.ensures.spells

pub returns-in-None-clause-short_names : goal.returns-in-None-clause-short_names
returns-in-None-clause-short_names c =
    IfOk-weaker c.read_whole.result (IsScript c.args.text.now c.args.tokens.now) _ (λ script h. names_short c.args.text.now h.items (tokens_within c.args.text.now c.args.tokens.now.list _ c.requires)) c.read_whole.ensures.spells

pub returns-in-None-clause-clauses : goal.returns-in-None-clause-clauses
returns-in-None-clause-clauses c =
    IfOk-weaker c.read_whole.result (IsScript c.args.text.now c.args.tokens.now) _ (λ script h. actions_have_clauses c.args.text.now h.items) c.read_whole.ensures.spells
