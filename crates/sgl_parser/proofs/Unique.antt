-- A list of tokens spells one term, and up to one place, where no token that follows goes on with it.
use Rattle.std.proofs.Common.{◌≡◌, ℕ, Bool, true, false, List, [], ◌∷◌, Option, Some, None, sym, refl, ap, subst, ◌∙◌}
use Rattle.std.specs.Prelude.{◌||◌}
use Rattle.std.specs.Option.{is_some}
use Rattle.sgl_values.specs.declared.place.Place.{Place}
use Rattle.sgl_lexer.specs.declared.lexeme.Token.{Token}
use Rattle.sgl_lexer.specs.declared.lexeme.TokenKind.{TokenKind}
use Rattle.sgl_lexer.specs.declared.lexeme.TokenKind.TheVariants as kinds
use Rattle.sgl_lexer.specs.declared.vocabulary.Word.TheVariants as words
use Rattle.sgl_lexer.specs.declared.vocabulary.Sign.TheVariants as signs
use Rattle.sgl_values.specs.declared.operator.BinOp.{BinOp}
use Rattle.sgl_values.specs.declared.operator.BinOp.TheVariants as ops
use Rattle.sgl_values.specs.declared.operator.CmpOp.{CmpOp}
use Rattle.sgl_parser.specs.declared.precedence.Chain.{Chain}
use Rattle.sgl_parser.specs.declared.precedence.Chain.TheVariants as chains
use Rattle.sgl_tree.specs.declared.expression.Expr.{Expr}
use Rattle.sgl_tree.specs.declared.expression.Expr.TheVariants as trees
use Rattle.sgl_parser.specs.Operators.{operator, comparison}
use Rattle.sgl_parser.specs.Grammar.{Part, Chained, Negation, Comparison, Unary, Primary, sum, expression, operand, name_of, literal, Spells, Continues, SpellsArguments, chained, negated, not_negated, compared, not_compared, minus, no_minus, a_literal, a_local, a_field, a_call, a_random, bracketed, ends, goes_on, no_more, one_more}
use Rattle.sgl_parser.specs.Follow.{Stops, StopsArguments, continues, continues_arguments, opens_more}

pub contrary : {A : Type 0} {b : Bool} → b ≡ true → b ≡ false → A
contrary t f = absurd (let e : true ≡ false = sym t ∙ f in cc)

pub nothing : {T A : Type 0} {x : T} (o : Option T) → o ≡ None → o ≡ Some x → A
nothing o e f = absurd (cc)

pub right_false : (a b : Bool) → (a || b) ≡ false → b ≡ false
right_false true b e = absurd (cc)
right_false false b e = e

-- an operator of a chain goes on with no operand of it
pub apart : (c : Chain) (k : TokenKind) (op : BinOp) → operator c k ≡ Some op → continues (operand c) k ≡ false
apart chains.Or (kinds.Word words.Or) op e = refl
apart chains.And (kinds.Word words.And) op e = refl
apart chains.Sum (kinds.Sign signs.Plus) op e = refl
apart chains.Sum (kinds.Sign signs.Minus) op e = refl
apart chains.Product (kinds.Sign signs.Star) op e = refl
apart chains.Product (kinds.Sign signs.Slash) op e = refl
apart chains.Product (kinds.Sign signs.Percent) op e = refl
apart _ _ op e = absurd (cc)

-- and it goes on with the chain
pub goes : (c : Chain) (k : TokenKind) (op : BinOp) → operator c k ≡ Some op → continues (Chained c) k ≡ true
goes chains.Or k op e = rw e refl
goes chains.And k op e = rw e refl
goes chains.Sum k op e = rw e refl
goes chains.Product k op e = rw e refl

pub apart_comparison : (k : TokenKind) (op : CmpOp) → comparison k ≡ Some op → continues sum k ≡ false
apart_comparison (kinds.Sign signs.Equal) op e = refl
apart_comparison (kinds.Sign signs.NotEqual) op e = refl
apart_comparison (kinds.Sign signs.Less) op e = refl
apart_comparison (kinds.Sign signs.LessEqual) op e = refl
apart_comparison (kinds.Sign signs.Greater) op e = refl
apart_comparison (kinds.Sign signs.GreaterEqual) op e = refl
apart_comparison _ op e = absurd (cc)

pub goes_comparison : (k : TokenKind) (op : CmpOp) → comparison k ≡ Some op → continues Comparison k ≡ true
goes_comparison k op e = rw e refl

-- what stops a chain stops its operands
pub stops_operand : (c : Chain) (ts : List Token) → Stops (Chained c) ts → Stops (operand c) ts
stops_operand chains.Or [] s = tt
stops_operand chains.And [] s = tt
stops_operand chains.Sum [] s = tt
stops_operand chains.Product [] s = tt
stops_operand chains.Or (t ∷ ts) s = right_false (is_some (operator chains.Or t.kind)) _ s
stops_operand chains.And (t ∷ ts) s = right_false (is_some (operator chains.And t.kind)) _ s
stops_operand chains.Sum (t ∷ ts) s = right_false (is_some (operator chains.Sum t.kind)) _ s
stops_operand chains.Product (t ∷ ts) s = right_false (is_some (operator chains.Product t.kind)) _ s

stops_comparison : (ts : List Token) → Stops Negation ts → Stops Comparison ts
stops_comparison [] s = tt
stops_comparison (t ∷ ts) s = s

stops_sum : (ts : List Token) → Stops Comparison ts → Stops sum ts
stops_sum [] s = tt
stops_sum (t ∷ ts) s = right_false (is_some (comparison t.kind)) _ s

stops_primary : (ts : List Token) → Stops Unary ts → Stops Primary ts
stops_primary [] s = tt
stops_primary (t ∷ ts) s = s

-- which tokens begin a part
abbrev pub begins_primary : TokenKind → Bool
begins_primary (kinds.Number n) = true
begins_primary (kinds.Word words.True) = true
begins_primary (kinds.Word words.False) = true
begins_primary (kinds.Word words.Random) = true
begins_primary kinds.Name = true
begins_primary (kinds.Sign signs.ParenOpen) = true
begins_primary _ = false

abbrev pub begins_unary : TokenKind → Bool
begins_unary (kinds.Sign signs.Minus) = true
begins_unary k = begins_primary k

abbrev pub begins : Part → TokenKind → Bool
begins Primary k = begins_primary k
begins Unary k = begins_unary k
begins (Chained chains.Product) k = begins_unary k
begins (Chained chains.Sum) k = begins_unary k
begins Comparison k = begins_unary k
begins _ k = true

literal_begins : (k : TokenKind) (p : Place) (e : Expr) → literal k p ≡ Some e → begins_primary k ≡ true
literal_begins (kinds.Number n) p e h = refl
literal_begins (kinds.Word words.True) p e h = refl
literal_begins (kinds.Word words.False) p e h = refl
literal_begins _ p e h = absurd (cc)

primary_unary : (k : TokenKind) → begins_primary k ≡ true → begins_unary k ≡ true
primary_unary (kinds.Sign signs.Minus) h = refl
primary_unary k h = h

-- The first token of a part.
abbrev pub BeginsWith : Part → List Token → Type 0
BeginsWith part [] = ⊥
BeginsWith part (t ∷ ts) = begins part t.kind ≡ true

unary_primary : (ts : List Token) → BeginsWith Primary ts → BeginsWith Unary ts
unary_primary [] h = h
unary_primary (t ∷ ts) h = primary_unary t.kind h

chain_operand : (c : Chain) (ts : List Token) → BeginsWith (operand c) ts → BeginsWith (Chained c) ts
chain_operand c [] h = absurd h
chain_operand chains.Or (t ∷ ts) h = refl
chain_operand chains.And (t ∷ ts) h = refl
chain_operand chains.Sum (t ∷ ts) h = h
chain_operand chains.Product (t ∷ ts) h = h

negation_any : (ts : List Token) → BeginsWith Comparison ts → BeginsWith Negation ts
negation_any [] h = h
negation_any (t ∷ ts) h = refl

comparison_sum : (ts : List Token) → BeginsWith sum ts → BeginsWith Comparison ts
comparison_sum [] h = h
comparison_sum (t ∷ ts) h = h

pub tail_of : {t u : Token} {ts us : List Token} → t ∷ ts ≡ u ∷ us → (t ≡ u) × (ts ≡ us)
tail_of e = (cc, cc)

pub some_of : {A : Type 0} {x y : A} (o : Option A) → o ≡ Some x → o ≡ Some y → x ≡ y
some_of o e f = cc

closes : (part : Part) (c : Token) (ts : List Token) → continues part (kinds.Sign signs.ParenClose) ≡ false → c.kind ≡ kinds.Sign signs.ParenClose → Stops part (c ∷ ts)
closes part c ts h e = subst (λ k. continues part k ≡ false) (sym e) h

module _ {text : List ℕ} where
  pub first : {part : Part} {ts us : List Token} {e : Expr} → Spells text part ts us e → BeginsWith part ts
  first (chained {c} {ts} p q) = chain_operand c ts (first p)
  first (negated k p) = refl
  first (not_negated {ts} p) = negation_any ts (first p)
  first (compared {t} {op} {ts} p e q) = comparison_sum ts (first p)
  first (not_compared {ts} p) = comparison_sum ts (first p)
  first (minus {t} k p) = rw k refl
  first (no_minus {ts} p) = unary_primary ts (first p)
  first (a_literal {t} {us} {e} h) = literal_begins t.kind t.place e h
  first (a_local k) = rw k refl
  first (a_field k d n) = rw k refl
  first (a_call k o u args c) = rw k refl
  first (a_random k o n c) = rw k refl
  first (bracketed k p c) = rw k refl

  -- where a chain goes on or ends, its operand stops
  stops_before : {c : Chain} {x e : Expr} {ts us : List Token} → Continues text c x ts us e → Stops (Chained c) us → Stops (operand c) ts
  stops_before (ends {c} {x} {ts}) s = stops_operand c ts s
  stops_before (goes_on {c} {x} {y} {e} {t} {op} h p q) s = apart c t.kind op h

  stops_argument : {ts us : List Token} {xs : List Expr} → SpellsArguments text ts us xs → Stops expression us → Stops expression ts
  stops_argument no_more s = s
  stops_argument (one_more k p q) s = rw k refl

  mutual
    pub unique : {part : Part} {ts us vs : List Token} {x y : Expr} → Spells text part ts us x → Spells text part ts vs y → Stops part us → Stops part vs → (us ≡ vs) × (x ≡ y)
    unique (chained {c} {ts} {us} {vs} {x} {e} p q) (chained {us = us'} {vs = vs'} {x = x'} {e = e'} p' q') s s' =
        let same = unique p p' (stops_before q s) (stops_before q' s') in
        let moved = subst (λ l. Continues text c x l vs' e') (sym same.0) (subst (λ w. Continues text c w us' vs' e') (sym same.1) q') in
        unique_chain q moved s s'
    unique (negated {t} {ts} {us} {e} k p) (negated {us = us'} {e = e'} k' p') s s' =
        let same = unique p p' s s' in (same.0, ap (λ w. trees.Not w t.place) same.1)
    unique (negated k p) (not_negated p') s s' = absurd (let f = first p' in let g : begins Comparison (kinds.Word words.Not) ≡ true = subst (λ w. begins Comparison w ≡ true) k f in cc)
    unique (not_negated p) (negated k' p') s s' = absurd (let f = first p in let g : begins Comparison (kinds.Word words.Not) ≡ true = subst (λ w. begins Comparison w ≡ true) k' f in cc)
    unique (not_negated {us = us} p) (not_negated {us = us'} p') s s' = unique p p' (stops_comparison us s) (stops_comparison us' s')
    unique (compared {t} {op} {ts} {us} {vs} {x} {y} p e q) (compared {t = t'} {op = op'} {us = us'} {vs = vs'} {x = x'} {y = y'} p' e' q') s s' =
        let same = unique p p' (apart_comparison t.kind op e) (apart_comparison t'.kind op' e') in
        let parts = tail_of same.0 in
        let again = unique q (subst (λ l. Spells text sum l vs' y') (sym parts.1) q') (stops_sum vs s) (stops_sum vs' s') in
        let op_is : op ≡ op' = some_of (comparison t.kind) e (ap (λ (w : Token). comparison w.kind) parts.0 ∙ e') in
        (again.0, λ i. trees.Binary (ops.Cmp (op_is i)) (same.1 i) (again.1 i) (parts.0 i).place)
    unique (compared {t} {op} {us = us} p e q) (not_compared {us = us'} p') s s' =
        let same = unique p p' (apart_comparison t.kind op e) (stops_sum us' s') in
        contrary (goes_comparison t.kind op e) (subst (Stops Comparison) (sym same.0) s')
    unique (not_compared {us = us} p) (compared {t = t'} {op = op'} p' e' q') s s' =
        let same = unique p p' (stops_sum us s) (apart_comparison t'.kind op' e') in
        contrary (goes_comparison t'.kind op' e') (subst (Stops Comparison) same.0 s)
    unique (not_compared {us = us} p) (not_compared {us = us'} p') s s' = unique p p' (stops_sum us s) (stops_sum us' s')
    unique (minus {t} k p) (minus k' p') s s' = let same = unique p p' s s' in (same.0, ap (λ w. trees.Neg w t.place) same.1)
    unique (minus k p) (no_minus p') s s' = absurd (let f = first p' in let g : begins Primary (kinds.Sign signs.Minus) ≡ true = subst (λ w. begins Primary w ≡ true) k f in cc)
    unique (no_minus p) (minus k' p') s s' = absurd (let f = first p in let g : begins Primary (kinds.Sign signs.Minus) ≡ true = subst (λ w. begins Primary w ≡ true) k' f in cc)
    unique (no_minus {us = us} p) (no_minus {us = us'} p') s s' = unique p p' (stops_primary us s) (stops_primary us' s')
    unique (a_literal {t} h) (a_literal h') s s' = (refl, some_of (literal t.kind t.place) h h')
    unique (a_literal {t} h) (a_local k') s s' = nothing (literal t.kind t.place) (ap (λ w. literal w t.place) k') h
    unique (a_literal {t} h) (a_field k' d' n') s s' = nothing (literal t.kind t.place) (ap (λ w. literal w t.place) k') h
    unique (a_literal {t} h) (a_call k' o' u' args' c') s s' = nothing (literal t.kind t.place) (ap (λ w. literal w t.place) k') h
    unique (a_literal {t} h) (bracketed k' p' c') s s' = nothing (literal t.kind t.place) (ap (λ w. literal w t.place) k') h
    unique (a_literal {t} h) (a_random k' o' n' c') s s' = nothing (literal t.kind t.place) (ap (λ w. literal w t.place) k') h
    unique (a_random {t} k o n c) (a_literal h') s s' = nothing (literal t.kind t.place) (ap (λ w. literal w t.place) k) h'
    unique (a_local k) (a_random k' o' n' c') s s' = absurd (cc)
    unique (a_field k h n) (a_random k' o' n' c') s s' = absurd (cc)
    unique (a_call k o u args c) (a_random k' o' n' c') s s' = absurd (cc)
    unique (bracketed k p c) (a_random k' o' n' c') s s' = absurd (cc)
    unique (a_random k o n c) (a_local k') s s' = absurd (cc)
    unique (a_random k o n c) (a_field k' h' n') s s' = absurd (cc)
    unique (a_random k o n c) (a_call k' o' u' args' c') s s' = absurd (cc)
    unique (a_random k o n c) (bracketed k' p' c') s s' = absurd (cc)
    unique (a_random {t} {n = n} {index = i} k o h c) (a_random {index = i'} k' o' h' c') s s' = let e : i ≡ i' = cc in (refl, ap (λ w. trees.Random t.place w n.place) e)
    unique (a_local {t} k) (a_literal h') s s' = nothing (literal t.kind t.place) (ap (λ w. literal w t.place) k) h'
    unique (a_field {t} k d n) (a_literal h') s s' = nothing (literal t.kind t.place) (ap (λ w. literal w t.place) k) h'
    unique (a_call {t} k o u args c) (a_literal h') s s' = nothing (literal t.kind t.place) (ap (λ w. literal w t.place) k) h'
    unique (bracketed {o} k p c) (a_literal h') s s' = nothing (literal o.kind o.place) (ap (λ w. literal w o.place) k) h'
    unique (a_local k) (a_local k') s s' = (refl, refl)
    unique (a_local k) (a_field {d = d'} k' h' n') s s' = contrary (ap opens_more h') s
    unique (a_local k) (a_call k' o' u' args' c') s s' = contrary (ap opens_more o') s
    unique (a_local k) (bracketed k' p' c') s s' = absurd (cc)
    unique (a_field k h n) (a_local k') s s' = contrary (ap opens_more h) s'
    unique (a_field k h n) (a_field k' h' n') s s' = (refl, refl)
    unique (a_field k h n) (a_call k' o' u' args' c') s s' = absurd (cc)
    unique (a_field k h n) (bracketed k' p' c') s s' = absurd (cc)
    unique (a_call k o u args c) (a_local k') s s' = contrary (ap opens_more o) s'
    unique (a_call k o u args c) (a_field k' h' n') s s' = absurd (cc)
    unique (a_call {t} {o} {u} {c} {us = us} k opens unit args shuts) (a_call {c = c'} {us = us'} k' opens' unit' args' shuts') s s' =
        let same = unique_arguments args args' (closes expression c us refl shuts) (closes expression c' us' refl shuts') (rw shuts refl) (rw shuts' refl) in
        ((tail_of same.0).1, ap (trees.Call (name_of text t) (name_of text u)) same.1)
    unique (a_call k o u args c) (bracketed k' p' c') s s' = absurd (cc)
    unique (bracketed k p c) (a_local k') s s' = absurd (cc)
    unique (bracketed k p c) (a_field k' h' n') s s' = absurd (cc)
    unique (bracketed k p c) (a_call k' o' u' args' c') s s' = absurd (cc)
    unique (bracketed {c = c} {us = us} k p shuts) (bracketed {c = c'} {us = us'} k' p' shuts') s s' =
        let same = unique p p' (closes expression c us refl shuts) (closes expression c' us' refl shuts') in ((tail_of same.0).1, same.1)

    unique_chain : {c : Chain} {w x y : Expr} {ts us vs : List Token} → Continues text c w ts us x → Continues text c w ts vs y → Stops (Chained c) us → Stops (Chained c) vs → (us ≡ vs) × (x ≡ y)
    unique_chain ends ends s s' = (refl, refl)
    unique_chain (ends {c}) (goes_on {t = t} {op = op} h p q) s s' = contrary (goes c t.kind op h) s
    unique_chain (goes_on {c} {t = t} {op = op} h p q) ends s s' = contrary (goes c t.kind op h) s'
    unique_chain (goes_on {c} {x} {y} {e} {t} {op} {ts} {us} {vs} h p q) (goes_on {y = y'} {e = e'} {op = op'} {us = us'} {vs = vs'} h' p' q') s s' =
        let same = unique p p' (stops_before q s) (stops_before q' s') in
        let op_is : op ≡ op' = some_of (operator c t.kind) h h' in
        let left : trees.Binary op x y t.place ≡ trees.Binary op' x y' t.place = λ i. trees.Binary (op_is i) x (same.1 i) t.place in
        let moved = subst (λ l. Continues text c (trees.Binary op x y t.place) l vs' e') (sym same.0) (subst (λ w. Continues text c w us' vs' e') (sym left) q') in
        unique_chain q moved s s'

    pub unique_arguments : {ts us vs : List Token} {xs ys : List Expr} → SpellsArguments text ts us xs → SpellsArguments text ts vs ys → Stops expression us → Stops expression vs → StopsArguments us → StopsArguments vs → (us ≡ vs) × (xs ≡ ys)
    unique_arguments no_more no_more s s' a a' = (refl, refl)
    unique_arguments no_more (one_more k p q) s s' a a' = contrary (ap continues_arguments k) a
    unique_arguments (one_more k p q) no_more s s' a a' = contrary (ap continues_arguments k) a'
    unique_arguments (one_more {us = us} {vs = vs} k p q) (one_more {us = us'} {vs = vs'} {es = es'} k' p' q') s s' a a' =
        let same = unique p p' (stops_argument q s) (stops_argument q' s') in
        let again = unique_arguments q (subst (λ l. SpellsArguments text l vs' es') (sym same.0) q') s s' a a' in
        (again.0, λ i. same.1 i ∷ again.1 i)
