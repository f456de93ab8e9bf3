-- How parts are put together, with the tokens known by equations.
use Rattle.std.proofs.Common.{◌≡◌, ℕ, ◌<◌, Bool, true, false, List, [], ◌∷◌, length, sym, refl, subst, arith}
use Rattle.sgl_lexer.specs.declared.lexeme.Token.{Token}
use Rattle.sgl_lexer.specs.declared.lexeme.TokenKind.{TokenKind}
use Rattle.sgl_lexer.specs.declared.lexeme.TokenKind.TheVariants as kinds
use Rattle.sgl_lexer.specs.declared.vocabulary.Word.{Word}
use Rattle.sgl_lexer.specs.declared.vocabulary.Word.TheVariants as words
use Rattle.sgl_lexer.specs.declared.vocabulary.Sign.{Sign}
use Rattle.sgl_lexer.specs.declared.vocabulary.Sign.TheVariants as signs
use Rattle.sgl_parser.specs.declared.reading.Stop.{Stop}
use Rattle.sgl_parser.specs.declared.reading.Stop.TheVariants as stops
use Rattle.sgl_parser.specs.Breaks.{Relation, Breaks, HasBroken, Passes, Done, Then, OneOf, Before, Either, ByWord, Maybe, Many, Anywhere, At, NotAt, NoneAt, GoesOnInBlock, AtEnd, that, omitted, given, none, more}
use Rattle.sgl_parser.specs.Follow.{IsNotAt}
use Rattle.sgl_parser.specs.Grammar.{expression, sum}
use Rattle.sgl_parser.specs.ItemShape.{Last, LiteralShape, SortShape, ParametersShape, PointShape, FoldShape, ComparisonShape, MoreTestShape, BehindTests, OtherwiseShape, PriorityShape, WriteShape, OnShape, SpawnShape, RemovalShape, AttributeShape}
use Rattle.sgl_parser.specs.Operators.{is_number, is_tag, is_fold, is_comparison}
use Rattle.sgl_parser.specs.Shape.{Shape, StopsAt, kinds_of, chained, not_negated, not_compared, no_minus, a_literal, ends}
use Rattle.sgl_parser.specs.StatementShape.{BlockShape, ValueShape, no_statements, a_block}
use Rattle.sgl_parser.proofs.TokenKinds.{kinds-length, kinds_at, not_at_kinds}
use Rattle.sgl_parser.proofs.Sequences.{Finishes, Excludes, GoesAt, Follows, Some_of, then_excludes, then_finishes, then_breaks, then_passes, done_finishes, absent_breaks, before_finishes, one_excludes, one_finishes, one_breaks, one_passes, left_finishes, word_breaks, word_passes, maybe_finishes, many_finishes}

-- ---- one token more

pub lift_broken : {G H : Relation} {E F : List TokenKind → Type 0} {ks ls : List TokenKind} (s : Stop) → ((n : ℕ) → Breaks G E ks n → Breaks H F ls n) → HasBroken G E ks s → HasBroken H F ls s
lift_broken (stops.Syntax n) f h = f n h
lift_broken stops.Memory f h = tt

module _ {G : Relation} {E : List TokenKind → Type 0} {k : TokenKind} where
  -- behind a token that stands there
  pub behind : {t : Token} {ts us : List Token} (n : ℕ) → ts ≡ t ∷ us → t.kind ≡ k → Breaks G E (kinds_of us) n → Breaks (Then k G) E (kinds_of ts) n
  behind n list kind f = subst (λ l. Breaks (Then k G) E l n) (sym (kinds_at list kind)) (then_breaks n f)

  pub pass_behind : {t : Token} {ts us : List Token} {rest : List TokenKind} → ts ≡ t ∷ us → t.kind ≡ k → Passes G E (kinds_of us) rest → Passes (Then k G) E (kinds_of ts) rest
  pass_behind {rest = rest} list kind p = subst (λ l. Passes (Then k G) E l rest) (sym (kinds_at list kind)) (then_passes p)

  -- at a token that does not stand there
  pub absent : (ts : List Token) → Finishes G → IsNotAt k ts → Breaks (Then k G) E (kinds_of ts) (length ts)
  absent ts l n = subst (Breaks (Then k G) E (kinds_of ts)) (kinds-length ts) (absent_breaks (then_finishes l) (then_excludes (kinds_of ts) (not_at_kinds k ts n)))

module _ {is : TokenKind → Bool} {G : Relation} {E : List TokenKind → Type 0} where
  -- the same for a token of a class
  pub behind_one : {t : Token} {ts us : List Token} (n : ℕ) → ts ≡ t ∷ us → is t.kind ≡ true → Breaks G E (kinds_of us) n → Breaks (OneOf is G) E (kinds_of ts) n
  behind_one n list h f = subst (λ l. Breaks (OneOf is G) E (kinds_of l) n) (sym list) (one_breaks h n f)

  pub pass_one : {t : Token} {ts us : List Token} {rest : List TokenKind} → ts ≡ t ∷ us → is t.kind ≡ true → Passes G E (kinds_of us) rest → Passes (OneOf is G) E (kinds_of ts) rest
  pass_one {rest = rest} list h p = subst (λ l. Passes (OneOf is G) E (kinds_of l) rest) (sym list) (one_passes h p)

  pub absent_one : (ts : List Token) → Some_of is → Finishes G → NoneAt is (kinds_of ts) → Breaks (OneOf is G) E (kinds_of ts) (length ts)
  absent_one ts k l n = subst (Breaks (OneOf is G) E (kinds_of ts)) (kinds-length ts) (absent_breaks (one_finishes k l) (one_excludes (kinds_of ts) n))

module _ {body : Word → Relation} {E : List TokenKind → Type 0} (w : Word) {t : Token} {ts us : List Token} where
  -- behind a word
  pub behind_word : (n : ℕ) → ts ≡ t ∷ us → t.kind ≡ kinds.Word w → Breaks (body w) E (kinds_of us) n → Breaks (ByWord body) E (kinds_of ts) n
  behind_word n list kind f = subst (λ l. Breaks (ByWord body) E l n) (sym (kinds_at list kind)) (word_breaks w n f)

  pub pass_word : {rest : List TokenKind} → ts ≡ t ∷ us → t.kind ≡ kinds.Word w → Passes (body w) E (kinds_of us) rest → Passes (ByWord body) E (kinds_of ts) rest
  pass_word {rest} list kind p = subst (λ l. Passes (ByWord body) E l rest) (sym (kinds_at list kind)) (word_passes w p)

-- ---- classes are not empty

pub some_number : Some_of is_number
some_number = (kinds.Number 0, refl)

pub some_tag : Some_of is_tag
some_tag = (kinds.Word words.Sum, refl)

pub some_fold : Some_of is_fold
some_fold = (kinds.Word words.Sum, refl)

pub some_comparison : Some_of is_comparison
some_comparison = (kinds.Sign signs.Equal, refl)

-- ---- each part can be finished

pub last_finishes : {sign : Sign} → Finishes (Last sign)
last_finishes = then_finishes done_finishes

pub sum_finishes : Finishes (Shape sum)
sum_finishes = record { finish = kinds.Number 0 ∷ []; shape = λ zs. chained (chained (no_minus (a_literal refl)) ends) ends }

pub expression_finishes : Finishes (Shape expression)
expression_finishes = record {
  finish = kinds.Number 0 ∷ [];
  shape = λ zs. chained (chained (not_negated (not_compared (chained (chained (no_minus (a_literal refl)) ends) ends))) ends) ends;
}

pub value_finishes : Finishes ValueShape
value_finishes = before_finishes expression_finishes last_finishes

pub right_finishes : {G H : Relation} → Finishes H → Finishes (Either G H)
right_finishes l = record { finish = l.finish; shape = λ zs. that (l.shape zs) }

pub literal_finishes : Finishes LiteralShape
literal_finishes = right_finishes (one_finishes some_number done_finishes)

pub sort_finishes : Finishes SortShape
sort_finishes = left_finishes (then_finishes last_finishes)

pub parameters_finish : Finishes ParametersShape
parameters_finish = then_finishes (then_finishes (before_finishes many_finishes last_finishes))

pub point_finishes : Finishes PointShape
point_finishes = then_finishes (then_finishes (then_finishes (then_finishes done_finishes)))

pub fold_finishes : Finishes FoldShape
fold_finishes = left_finishes (then_finishes (then_finishes done_finishes))

pub comparison_finishes : Finishes ComparisonShape
comparison_finishes = then_finishes (then_finishes (then_finishes (one_finishes some_comparison sum_finishes)))

pub write_finishes : Finishes WriteShape
write_finishes = then_finishes (then_finishes (before_finishes expression_finishes (before_finishes maybe_finishes last_finishes)))

pub on_finishes : Finishes OnShape
on_finishes = then_finishes (before_finishes maybe_finishes (then_finishes (before_finishes write_finishes (before_finishes many_finishes last_finishes))))

pub block_finishes : Finishes BlockShape
block_finishes = record { finish = kinds.Sign signs.BraceOpen ∷ kinds.Sign signs.BraceClose ∷ []; shape = λ zs. a_block no_statements }

pub attribute_finishes : Finishes AttributeShape
attribute_finishes = then_finishes sort_finishes

-- ---- what may stand behind

pub anywhere : (H : Relation) (MayEnd : List TokenKind → Type 0) → Follows Anywhere H MayEnd
anywhere H MayEnd = λ zs to q s. tt

pub then_follows : (First MayEnd : List TokenKind → Type 0) (k : TokenKind) (G : Relation) → ((ls : List TokenKind) → First (k ∷ ls)) → Follows First (Then k G) MayEnd
then_follows First MayEnd k G h zs to q s = subst First (sym q.list) (h q.rest)

pub value_follows : (E : List TokenKind → Type 0) → Follows (StopsAt expression) (Last signs.Semicolon) E
value_follows E = then_follows (StopsAt expression) E (kinds.Sign signs.Semicolon) Done (λ ls. refl)

pub value_ends : (ks : List TokenKind) → At (kinds.Sign signs.Semicolon) ks → StopsAt expression ks
value_ends [] h = absurd h
value_ends (k ∷ ks) h = subst (λ w. StopsAt expression (w ∷ ks)) (sym h) refl

pub shut_follows : (E : List TokenKind → Type 0) (G : Relation) (k : TokenKind) → Follows (At k) (Then k G) E
shut_follows E G k = then_follows (At k) E k G (λ ls. refl)

maybe_begins : (First : List TokenKind → Type 0) (k : TokenKind) {G : Relation} {zs ls : List TokenKind} → ((ks : List TokenKind) → First (k ∷ ks)) → Maybe (Then k G) zs ls → First ls → First zs
maybe_begins First k h omitted s = s
maybe_begins First k h (given g) s = subst First (sym g.list) (h g.rest)

-- behind a part that a kind may follow, or what stands behind that
maybe_follows : (First MayEnd : List TokenKind → Type 0) (k : TokenKind) (G H : Relation) → ((ks : List TokenKind) → First (k ∷ ks)) → Follows First H MayEnd → Follows First (Before (Maybe (Then k G)) H) MayEnd
maybe_follows First MayEnd k G H h f zs to q s = maybe_begins First k h q.first (f q.middle to q.second s)

-- behind the tests of an aggregate
pub tests_follow : (E : List TokenKind → Type 0) → Follows BehindTests (Before OtherwiseShape (Last signs.Semicolon)) E
tests_follow E = maybe_follows BehindTests E (kinds.Word words.Else) LiteralShape (Last signs.Semicolon) (λ ks. tt) (then_follows BehindTests E (kinds.Sign signs.Semicolon) Done (λ ks. tt))

-- behind the tests of a clause
pub clause_follows : (E : List TokenKind → Type 0) (G : Relation) → Follows BehindTests (Then (kinds.Sign signs.BraceOpen) G) E
clause_follows E G = then_follows BehindTests E (kinds.Sign signs.BraceOpen) G (λ ls. tt)

-- behind a radius
pub radius_follows : (E : List TokenKind → Type 0) → Follows (StopsAt sum) (Last signs.ParenClose) E
radius_follows E = then_follows (StopsAt sum) E (kinds.Sign signs.ParenClose) Done (λ ls. refl)

-- behind an amount
pub amount_follows : (E : List TokenKind → Type 0) → Follows (StopsAt expression) (Before PriorityShape (Last signs.Semicolon)) E
amount_follows E = maybe_follows (StopsAt expression) E (kinds.Word words.By) _ (Last signs.Semicolon) (λ ks. refl) (value_follows E)

-- behind the condition of a child
pub birth_follows : (E : List TokenKind → Type 0) (G : Relation) → Follows (StopsAt expression) (Then (kinds.Sign signs.BraceOpen) G) E
birth_follows E G = then_follows (StopsAt expression) E (kinds.Sign signs.BraceOpen) G (λ ls. refl)

-- behind assignments
pub writes_follow : (E : List TokenKind → Type 0) → Follows (NotAt kinds.Name) (Last signs.BraceClose) E
writes_follow E = then_follows (NotAt kinds.Name) E (kinds.Sign signs.BraceClose) Done (λ ls e. cc)

removal_follows : (j : TokenKind) (E : List TokenKind → Type 0) → (kinds.Word words.Remove ≡ j → ⊥) → (kinds.Sign signs.BraceClose ≡ j → ⊥) → Follows (NotAt j) (Before RemovalShape (Last signs.BraceClose)) E
removal_follows j E h i = maybe_follows (NotAt j) E (kinds.Word words.Remove) _ (Last signs.BraceClose) (λ ks. h) (then_follows (NotAt j) E (kinds.Sign signs.BraceClose) Done (λ ks. i))

-- behind what is told of a child
pub spawn_follows : (E : List TokenKind → Type 0) → Follows (NotAt (kinds.Word words.Spawn)) (Before RemovalShape (Last signs.BraceClose)) E
spawn_follows E = removal_follows (kinds.Word words.Spawn) E (λ e. cc) (λ e. cc)

-- behind the assignments of `post`
pub rules_follow : (E : List TokenKind → Type 0) → Follows (NotAt kinds.Name) (Before SpawnShape (Before RemovalShape (Last signs.BraceClose))) E
rules_follow E = maybe_follows (NotAt kinds.Name) E (kinds.Word words.Spawn) _ (Before RemovalShape (Last signs.BraceClose)) (λ ks e. cc) (removal_follows kinds.Name E (λ e. cc) (λ e. cc))

-- a sum before "and", and before what stands behind tests
stops_behind : (zs : List TokenKind) → BehindTests zs → StopsAt sum zs
stops_behind [] s = absurd s
stops_behind (kinds.Word words.Else ∷ ks) s = refl
stops_behind (kinds.Sign signs.Semicolon ∷ ks) s = refl
stops_behind (kinds.Sign signs.BraceOpen ∷ ks) s = refl
stops_behind (_ ∷ ks) s = absurd s

pub test_follows : Follows (StopsAt sum) (Many MoreTestShape) BehindTests
test_follows zs to none s = stops_behind zs s
test_follows zs to (more {ks = ks} g m) s = subst (StopsAt sum) (sym g.list) refl

-- ---- where a list goes on

goes_by : (E : List TokenKind → Type 0) (k : TokenKind) (ks : List TokenKind) → ((zs : List TokenKind) → E (k ∷ zs) → ⊥) → GoesAt E (k ∷ ks)
goes_by E k ks h [] a s = a
goes_by E k ks h (z ∷ zs) a s = h zs (subst (λ w. E (w ∷ zs)) (sym a) s)

-- at a token that stands there, where what may end begins with no such kind
pub goes_at : (E : List TokenKind → Type 0) (k : TokenKind) {t : Token} {ts us : List Token} → ((zs : List TokenKind) → E (k ∷ zs) → ⊥) → ts ≡ t ∷ us → t.kind ≡ k → GoesAt E (kinds_of ts)
goes_at E k {us = us} h list kind = subst (GoesAt E) (sym (kinds_at list kind)) (goes_by E k (kinds_of us) h)

pub goes_here : (k : TokenKind) (ts : List Token) → At k (kinds_of ts) → GoesAt (NotAt k) (kinds_of ts)
goes_here k [] h = λ zs a s. h
goes_here k (t ∷ ts) h = goes_by (NotAt k) t.kind (kinds_of ts) (λ zs s. s h)

pub goes_in_block : (ts : List Token) → GoesOnInBlock (kinds_of ts) → GoesAt (At (kinds.Sign signs.BraceClose)) (kinds_of ts)
goes_in_block [] h = λ zs a s. h
goes_in_block (t ∷ ts) h = goes_by (At (kinds.Sign signs.BraceClose)) t.kind (kinds_of ts) (λ zs s. h s)

pub goes_some : (ts : List Token) → 0 < length ts → GoesAt AtEnd (kinds_of ts)
goes_some [] h = absurd (omega arith)
goes_some (t ∷ ts) h = goes_by AtEnd t.kind (kinds_of ts) (λ zs s. s)

-- no kind of a class, where another stands
pub none_at : (is : TokenKind → Bool) (k : TokenKind) {t : Token} {ts us : List Token} → ts ≡ t ∷ us → t.kind ≡ k → is k ≡ false → NoneAt is (kinds_of ts)
none_at is k list kind h = subst (NoneAt is) (sym (kinds_at list kind)) h

pub other_at : (j k : TokenKind) {t : Token} {ts us : List Token} → ts ≡ t ∷ us → t.kind ≡ k → (k ≡ j → ⊥) → NotAt j (kinds_of ts)
other_at j k list kind h = subst (NotAt j) (sym (kinds_at list kind)) h

pub not_here : {k : TokenKind} {G : Relation} (ts : List Token) → IsNotAt k ts → Excludes (Then k G) (kinds_of ts)
not_here {k} ts n = then_excludes (kinds_of ts) (not_at_kinds k ts n)

pub at_none : (k : TokenKind) (G : Relation) (ks : List TokenKind) → NotAt k ks → Excludes (Then k G) ks
at_none k G ks n = then_excludes ks n
