-- Blocks and statements as parts that are put together.
use Rattle.std.proofs.Common.{◌≡◌, ℕ, List, [], ◌∷◌, ◌++◌, Result, length, sym, refl, ap, subst, ◌∙◌, arith}
use Rattle.sgl_lexer.specs.declared.lexeme.TokenKind.{TokenKind}
use Rattle.sgl_lexer.specs.declared.lexeme.TokenKind.TheVariants as kinds
use Rattle.sgl_lexer.specs.declared.vocabulary.Word.{Word}
use Rattle.sgl_lexer.specs.declared.vocabulary.Word.TheVariants as words
use Rattle.sgl_lexer.specs.declared.vocabulary.Sign.TheVariants as signs
use Rattle.sgl_lexer.specs.declared.lexeme.Token.{Token}
use Rattle.sgl_tree.specs.declared.statement.Stmt.{Stmt}
use Rattle.std.specs.Borrow.{Bor}
use Rattle.sgl_parser.specs.declared.reading.Stop.{Stop}
use Rattle.sgl_parser.specs.declared.reading.Stop.TheVariants as stops
use Rattle.sgl_parser.specs.Breaks.{Relation, Agrees, Breaks, HasBroken, Passes, Done, Then, Before, ByWord, Maybe, Many, At, NotAt, EndsBlock, done, omitted, given, none, more}
use Rattle.sgl_parser.specs.Follow.{StopsArguments, IsNotAt}
use Rattle.sgl_parser.specs.Grammar.{expression}
use Rattle.sgl_parser.specs.ItemShape.{Last}
use Rattle.sgl_parser.specs.Shape.{Arguments, StopsAt, Listed, ListFails, ListHasStopped, kinds_of, no_more, one_more}
use Rattle.sgl_parser.specs.Reads.{Reads}
use Rattle.sgl_parser.specs.Statements.{SpellsStatement}
use Rattle.sgl_parser.specs.StatementShape.{BlockShape, StatementsShape, StatementShape, BranchShape, LetShape, StatementBody, a_block, no_statements, more_statements, a_let, an_if, a_perform, no_else, an_else}
use Rattle.sgl_parser.proofs.Exits.{no_comma}
use Rattle.sgl_parser.proofs.Parts.{last_finishes, expression_finishes, lift_broken, behind_word, pass_word}
use Rattle.std.proofs.lemmas.Result.{MatchResult-weaker}
use Rattle.sgl_parser.proofs.Sequences.{Same, Finishes, Excludes, Follows, then_finishes, before_finishes, same_finishes, same_breaks, same_passes, narrower_breaks, narrower_passes, word_finishes}
use Rattle.sgl_parser.proofs.TokenKinds.{not_at_kinds}

pub same_done : {ks ls : List TokenKind} → Done ks ls → ks ≡ ls
same_done done = refl

-- a sign at the end of a part
pub at_last : {sign : signs.the_data} {ks ls : List TokenKind} → Last sign ks ls → ks ≡ kinds.Sign sign ∷ ls
at_last {sign} q = q.list ∙ ap (λ l. kinds.Sign sign ∷ l) (same_done q.behind)

-- ---- statements

statement_into : (w : Word) {ks ls : List TokenKind} → StatementBody w ks ls → StatementShape (kinds.Word w ∷ ks) ls
statement_into words.Let q = a_let q
statement_into words.If q = an_if q.first q.second.first q.second.second
statement_into words.Perform q = a_perform q
statement_into _ q = absurd q

statement_out : {ks ls : List TokenKind} → StatementShape ks ls → ByWord StatementBody ks ls
statement_out (a_let {ks} q) = record { word = words.Let; rest = ks; list = refl; behind = q }
statement_out (an_if {ks} {ls} {ms} p b c) = record { word = words.If; rest = ks; list = refl; behind = record { middle = ls; first = p; second = record { middle = ms; first = b; second = c } } }
statement_out (a_perform {ks} q) = record { word = words.Perform; rest = ks; list = refl; behind = q }

pub statement_same : (ks : List TokenKind) → Same StatementShape (ByWord StatementBody) ks
statement_same ks = record {
  into = λ zs to q. subst (λ l. StatementShape l to) (sym q.list) (statement_into q.word q.behind);
  out = λ zs to a q. statement_out q;
}

abbrev pub Blocks : Relation
Blocks = Then (kinds.Sign signs.BraceOpen) (Before StatementsShape (Last signs.BraceClose))

block_out : {ks ls : List TokenKind} → BlockShape ks ls → Blocks ks ls
block_out (a_block {ks} {ls} q) = record { rest = ks; list = refl; behind = record { middle = kinds.Sign signs.BraceClose ∷ ls; first = q; second = record { rest = ls; list = refl; behind = done } } }

pub block_same : (ks : List TokenKind) → Same BlockShape Blocks ks
block_same ks = record {
  into = λ zs to q. subst (λ l. BlockShape l to) (sym q.list) (a_block (subst (StatementsShape q.rest) (at_last q.behind.second) q.behind.first));
  out = λ zs to a q. block_out q;
}

statements_into : {ks ls : List TokenKind} → Many StatementShape ks ls → StatementsShape ks ls
statements_into none = no_statements
statements_into (more q m) = more_statements q (statements_into m)

statements_out : {ks ls : List TokenKind} → StatementsShape ks ls → Many StatementShape ks ls
statements_out no_statements = none
statements_out (more_statements q m) = more q (statements_out m)

pub statements_same : (ks : List TokenKind) → Same StatementsShape (Many StatementShape) ks
statements_same ks = record { into = λ zs to q. statements_into q; out = λ zs to a q. statements_out q }

branch_out : {ks ls : List TokenKind} → BranchShape ks ls → Maybe (Then (kinds.Word words.Else) BlockShape) ks ls
branch_out no_else = omitted
branch_out (an_else {ks} q) = given (record { rest = ks; list = refl; behind = q })

branch_into : {ks ls : List TokenKind} → Maybe (Then (kinds.Word words.Else) BlockShape) ks ls → BranchShape ks ls
branch_into omitted = no_else
branch_into (given {ls = ls} q) = subst (λ l. BranchShape l ls) (sym q.list) (an_else q.behind)

pub branch_same : (ks : List TokenKind) → Same BranchShape (Maybe (Then (kinds.Word words.Else) BlockShape)) ks
branch_same ks = record { into = λ zs to q. branch_into q; out = λ zs to a q. branch_out q }

-- ---- each can be finished

pub let_finishes : Finishes LetShape
let_finishes = then_finishes (then_finishes (before_finishes expression_finishes last_finishes))

pub statement_finishes : Finishes StatementShape
statement_finishes = same_finishes (λ zs to q. (statement_same []).into zs to q) (word_finishes words.Let let_finishes)

pub statements_finish : Finishes StatementsShape
statements_finish = record { finish = []; shape = λ zs. no_statements }

pub branch_finishes : Finishes BranchShape
branch_finishes = record { finish = []; shape = λ zs. no_else }

-- ---- what may stand behind

-- a block begins with a brace, before which an expression may end
opened : {ks ls : List TokenKind} → BlockShape ks ls → StopsAt expression ks
opened (a_block q) = refl

-- behind a condition
pub condition_follows : (E : List TokenKind → Type 0) → Follows (StopsAt expression) (Before BlockShape BranchShape) E
condition_follows E zs to q s = opened q.first

-- no statement begins with `else`
begins_statement : {ks ls : List TokenKind} → StatementShape ks ls → NotAt (kinds.Word words.Else) ks
begins_statement (a_let q) = λ e. cc
begins_statement (an_if p b c) = λ e. cc
begins_statement (a_perform q) = λ e. cc

closed : (ks : List TokenKind) → At (kinds.Sign signs.BraceClose) ks → NotAt (kinds.Word words.Else) ks
closed [] s = absurd s
closed (k ∷ ks) s = λ e. cc

-- behind a statement
pub statement_follows : Follows (NotAt (kinds.Word words.Else)) (Many StatementShape) (At (kinds.Sign signs.BraceClose))
statement_follows zs to none s = closed zs s
statement_follows zs to (more q m) s = begins_statement q

no_statement : {ks ls : List TokenKind} → StatementShape ks ls → EndsBlock ks → ⊥
no_statement (a_let q) = λ e. cc
no_statement (an_if p b c) = λ e. cc
no_statement (a_perform q) = λ e. cc

no_statement_left : {ls : List TokenKind} → StatementShape [] ls → ⊥
no_statement_left q = let w = statement_out q in absurd (let e = w.list in cc)

-- no statement begins where a block ends
pub ends_excludes : (ks : List TokenKind) → EndsBlock ks → Excludes StatementShape ks
ends_excludes [] s [] to a q = no_statement_left q
ends_excludes [] s (z ∷ zs) to a q = a
ends_excludes (k ∷ ks) s [] to a q = a
ends_excludes (k ∷ ks) s (z ∷ zs) to a q = no_statement q (sym a ∙ s)

-- a word with which no statement begins
no_body : (w : Word) (ks ls : List TokenKind) → StatementBody w ks ls → (w ≡ words.Let → ⊥) → (w ≡ words.If → ⊥) → (w ≡ words.Perform → ⊥) → ⊥
no_body words.Let ks ls q l i p = l refl
no_body words.If ks ls q l i p = i refl
no_body words.Perform ks ls q l i p = p refl
no_body _ ks ls q l i p = q

pub not_of : (w : Word) (ks zs to : List TokenKind) → NotAt (kinds.Word w) ks → Agrees ks zs → zs ≡ kinds.Word w ∷ to → ⊥
not_of w [] [] to n a e = cc
not_of w [] (z ∷ zs) to n a e = a
not_of w (j ∷ js) [] to n a e = a
not_of w (j ∷ js) (z ∷ zs) to n a e = n (a ∙ cc)

-- no statement begins with another token
pub words_exclude : (ts : List Token) → IsNotAt (kinds.Word words.Let) ts → IsNotAt (kinds.Word words.If) ts → IsNotAt (kinds.Word words.Perform) ts → Excludes (ByWord StatementBody) (kinds_of ts)
words_exclude ts l i p zs to a q =
    no_body q.word q.rest to q.behind
    (λ e. not_of words.Let (kinds_of ts) zs q.rest (not_at_kinds _ ts l) a (q.list ∙ ap (λ w. kinds.Word w ∷ q.rest) e))
    (λ e. not_of words.If (kinds_of ts) zs q.rest (not_at_kinds _ ts i) a (q.list ∙ ap (λ w. kinds.Word w ∷ q.rest) e))
    (λ e. not_of words.Perform (kinds_of ts) zs q.rest (not_at_kinds _ ts p) a (q.list ∙ ap (λ w. kinds.Word w ∷ q.rest) e))

-- ---- arguments

shut_at : {zs js : List TokenKind} (ks : List TokenKind) → NotAt (kinds.Sign signs.Comma) ks → Agrees ks zs → Arguments zs (kinds.Sign signs.ParenClose ∷ js) → zs ≡ kinds.Sign signs.ParenClose ∷ js
shut_at ks n a no_more = refl
shut_at [] n a (one_more p q) = absurd a
shut_at (k ∷ ks) n a (one_more p q) = absurd (n a)

only_shut : {ks rest : List TokenKind} (t : Listed ks rest) → NotAt (kinds.Sign signs.Comma) rest → (zs to : List TokenKind) → Agrees rest zs → Arguments (t.front ++ zs) to → At (kinds.Sign signs.ParenClose) to → to ≡ zs
only_shut t n zs [] a q s = absurd s
only_shut {rest = rest} t n zs (j ∷ js) a q s = ap (λ w. w ∷ js) s ∙ sym (shut_at rest n a (t.only zs js a (subst (λ w. Arguments (t.front ++ zs) (w ∷ js)) s q)))

pub listed_passes : {ks : List TokenKind} (ts : List Token) → Listed ks (kinds_of ts) → StopsArguments ts → Passes Arguments (At (kinds.Sign signs.ParenClose)) ks (kinds_of ts)
listed_passes ts t s = record {
  front = t.front;
  split = t.split;
  shape = λ zs. t.shape zs zs no_more;
  only = only_shut t (no_comma ts s);
}

dead_shut : {ks : List TokenKind} (n : ℕ) (f : ListFails ks n) (zs to : List TokenKind) → Agrees f.behind zs → Arguments (f.front ++ zs) to → At (kinds.Sign signs.ParenClose) to → ⊥
dead_shut n f zs [] a q s = s
dead_shut n f zs (j ∷ js) a q s = f.dead zs js a (subst (λ w. Arguments (f.front ++ zs) (w ∷ js)) s q)

list_breaks : {ks : List TokenKind} (n : ℕ) → ListFails ks n → Breaks Arguments (At (kinds.Sign signs.ParenClose)) ks n
list_breaks n f = record {
  front = f.front;
  behind = f.behind;
  split = f.split;
  length = f.length;
  alive = (f.finish, λ zs. f.alive zs zs no_more);
  dead = dead_shut n f;
}

pub list_broken : {H : Relation} {F : List TokenKind → Type 0} {ks ls : List TokenKind} (s : Stop) → ((n : ℕ) → Breaks Arguments (At (kinds.Sign signs.ParenClose)) ks n → Breaks H F ls n) → ListHasStopped ks s → HasBroken H F ls s
list_broken (stops.Syntax n) f h = f n (list_breaks n h)
list_broken stops.Memory f h = tt

pub arguments_finish : Finishes Arguments
arguments_finish = record { finish = []; shape = λ zs. no_more }

-- a statement, read from what stands behind its word
pub statement_returns : {text : List ℕ} (w : Word) {t : Token} {ts us : List Token} {E : List TokenKind → Type 0} → ((to : List TokenKind) → NotAt (kinds.Word words.Else) to → E to) → ts ≡ t ∷ us → t.kind ≡ kinds.Word w → (Part : List Token → List Token → Stmt → Type 0) → ((rest : List Token) (x : Stmt) → Part us rest x → SpellsStatement text (t ∷ us) rest x) → (r : Result (Stmt × Bor (List Token)) Stop) → Reads (StatementBody w) E 1 Part text us r → Reads StatementShape (NotAt (kinds.Word words.Else)) 1 (SpellsStatement text) text ts r
statement_returns w {ts = ts} ends list kind Part spelled r read = MatchResult-weaker r read (λ found h. record {
  passes = same_passes (statement_same (kinds_of ts)) (pass_word w list kind (narrower_passes ends h.passes));
  spells = rw list (spelled found.1.now found.0 h.spells);
  shorter = omega (arith, h.shorter, ap length list);
  of = h.of;
}) (λ s h. lift_broken s (λ n f. same_breaks (statement_same (kinds_of ts)) n (behind_word w n list kind (narrower_breaks ends n f))) h)
