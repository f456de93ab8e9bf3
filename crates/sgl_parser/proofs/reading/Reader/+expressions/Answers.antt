use Rattle.sgl_lexer.specs.Slices.{AreSlicesOf}
use Rattle.std.proofs.Common.{length, ◌<◌, rules, ◌++◌, ◌∷◌, [], sym, ap, subst, ◌∙◌, arith, append-nil, append_assoc}
use Rattle.sgl_parser.specs.Follow.{IsNotAt}
use Rattle.sgl_parser.specs.Reads.{IsReadPart}
use Rattle.sgl_parser.specs.Grammar.{SpellsArguments, Primary, chained, not_compared, a_local, ends, no_more}
use Rattle.sgl_parser.proofs.Fronts.{part_passed, through_first, through_more}
use Rattle.sgl_parser.proofs.Primaries.{listed_more}
use Rattle.std.specs.Option.{is_some}
use Rattle.std.proofs.lemmas.Result.{IfErr-weaker, MatchResult-weaker, MatchResult-from_both, err_from_is_err_and}
use Rattle.sgl_parser.proofs.Exits.{through_at, listed_at, operand_stops, chain_stops, prefixed_stops, unprefixed_stops, first_sum_stops, second_sum_stops, third_comparison_stops, end_stops, first_stops, alone_literal, bracket_stops, shut_stops, alone_bracket, dot_stops, alone_field, unit_stops, list_stops, list_shut_stops, alone_call, argument_stops}
use Rattle.sgl_parser.proofs.Spelling.{ended, four_ok, prefixed_at, unprefixed_read, compared_at, goes_on_at, literal_at, field_at, call_at, bracketed_at, one_more_at}
use Rattle.sgl_parser.proofs.reading.Reader.+expressions.Goals as goal

pub arguments-commas-preserved : goal.arguments-commas-preserved
arguments-commas-preserved t c =
    let text = c.args.self.now.text.now in
    record {
      joins = λ vs es h.
          subst (λ l. SpellsArguments text c.args.tokens.now vs l)
          (sym (ap (λ l. l ++ es) c.in_ok-push.ensures.ok ∙ append_assoc c.commas.args (c.in_ok-arg.arg ∷ []) es))
          (c.commas.invariant.joins vs (c.in_ok-arg.arg ∷ es) (one_more_at es c.in-Some.ensures.list c.in-Some.ensures.kind c.in_ok-arg.ensures.spells h));
      listed = listed_more (listed_at c.in-Some.ensures.list c.in-Some.ensures.kind c.commas.invariant.listed) (part_passed c.in_ok-arg.ensures);
      shorter = omega (arith, c.commas.invariant.shorter, ap length c.in-Some.ensures.list, c.in_ok-arg.ensures.shorter);
      of = c.in_ok-arg.ensures.of;
    }

pub arguments-returns-clause-spells : goal.arguments-returns-clause-spells
arguments-returns-clause-spells t c =
    subst (λ l. SpellsArguments c.args.self.now.text.now c.args.tokens.now c.commas.rest.now l) (append-nil c.commas.args) (c.commas.invariant.joins c.commas.rest.now [] no_more)

pub chain-operands-init : goal.chain-operands-init
chain-operands-init t c = record {
  joins = λ vs e h. chained c.in_ok-left.ensures.spells h;
  through = through_first (part_passed c.in_ok-left.ensures);
  stops = c.in_ok-left.ensures.stops;
  shorter = c.in_ok-left.ensures.shorter;
  of = c.in_ok-left.ensures.of;
}

pub chain-operands-preserved : goal.chain-operands-preserved
chain-operands-preserved t c =
    record {
      joins = λ vs e h. c.operands.invariant.joins vs e (goes_on_at c.in-Some.ensures (sym c.in-Some-operator.ensures) c.in_ok-right.ensures.spells c.in_ok-left-2.ensures h);
      through = through_more (through_at c.in-Some.ensures c.operands.invariant.through) (sym c.in-Some-operator.ensures) (part_passed c.in_ok-right.ensures);
      stops = c.in_ok-right.ensures.stops;
      shorter = omega (arith, c.operands.invariant.shorter, ap length c.in-Some.ensures, c.in_ok-right.ensures.shorter);
      of = c.in_ok-right.ensures.of;
    }

pub chain-returns : goal.chain-returns
chain-returns t c = record {
  spells = c.operands.invariant.joins c.operands.rest.now c.operands.left ends;
  stops = search rules;
  shorter = search rules;
  of = search rules;
}

pub compare-returns-in_default : goal.compare-returns-in_default
compare-returns-in_default t c = record {
  spells = not_compared c.in_ok-left.ensures.spells;
  stops = search rules;
  shorter = search rules;
  of = search rules;
}

pub compare-returns-in_default-comparison : goal.compare-returns-in_default-comparison
compare-returns-in_default-comparison t c = record {
  spells = not_compared c.in_ok-left.ensures.spells;
  stops = search rules;
  shorter = search rules;
  of = search rules;
}

pub compare-returns-2 : goal.compare-returns-2
compare-returns-2 t c = record {
  spells = compared_at c.in_ok-left.ensures.spells c.in-Some.ensures (sym c.in-Some-comparison.ensures) c.in_ok-right.ensures.spells c.in_ok-binary.ensures;
  stops = search rules;
  shorter = search rules;
  of = search rules;
}

pub named-returns-in-Some : goal.named-returns-in-Some
named-returns-in-Some t c =
    let spelled = field_at {text = c.args.self.now.text.now} {t = c.args.first.now} {n = c.in_ok-attr.attr.now} c.requires.is_name c.in-Some.ensures.list c.in-Some.ensures.kind c.in_ok-attr.ensures.list c.in_ok-attr.ensures.kind in
    let few : length c.in_ok-attr.rest.now < length (c.args.first.now ∷ c.args.rest.now) = search rules in
    let kept : AreSlicesOf c.args.self.now.text.now c.in_ok-attr.rest.now = search rules in
    ended c.alone.result (rw (c.in_ok-name.ensures.name, c.in_ok-attr-2.ensures.name) spelled) few kept c.alone.ensures.same c.alone.ensures.stops (IfErr-weaker c.alone.result _ _ (λ stop h. rw h.0 (alone_field c.args.first.now c.requires.is_name c.in-Some.ensures.list c.in-Some.ensures.kind c.in_ok-attr.ensures.list c.in_ok-attr.ensures.kind h.1)) c.alone.ensures.err)

pub named-returns-in-Some-eat : goal.named-returns-in-Some-eat
named-returns-in-Some-eat t c =
    let spelled = call_at {text = c.args.self.now.text.now} {t = c.args.first.now} {u = c.in_ok-unit.unit.now} c.requires.is_name c.in-Some-eat.ensures.list c.in-Some-eat.ensures.kind c.in_ok-unit.ensures.list c.in_ok-unit.ensures.kind c.in_ok-args.ensures.spells c.in_ok-rest.ensures.list c.in_ok-rest.ensures.kind in
    let few : length c.in_ok-rest.rest.now < length (c.args.first.now ∷ c.args.rest.now) = search rules in
    let kept : AreSlicesOf c.args.self.now.text.now c.in_ok-rest.rest.now = search rules in
    ended c.alone-in-Some-eat.result (rw (c.in_ok-name.ensures.name, c.in_ok-unit-2.ensures.name) spelled) few kept c.alone-in-Some-eat.ensures.same c.alone-in-Some-eat.ensures.stops (IfErr-weaker c.alone-in-Some-eat.result _ _ (λ stop h. rw h.0 (alone_call c.args.first.now c.requires.is_name c.in-Some-eat.ensures.list c.in-Some-eat.ensures.kind c.in_ok-unit.ensures.list c.in_ok-unit.ensures.kind c.in_ok-args.ensures.listed c.in_ok-rest.ensures.list c.in_ok-rest.ensures.kind h.1)) c.alone-in-Some-eat.ensures.err)

pub named-returns : goal.named-returns
named-returns t c = record {
  spells = rw c.in_ok-name.ensures.name (a_local c.requires.is_name);
  stops = search rules;
  shorter = search rules;
  of = search rules;
}

pub prefixed-returns-in-Some : goal.prefixed-returns-in-Some
prefixed-returns-in-Some t c = record {
  spells = prefixed_at c.args.prefix c.in-Some.ensures.list (c.in-Some.ensures.kind ∙ c.prefix_kind.ensures) c.in_ok-inner.ensures.spells c.in_ok-tree.ensures;
  stops = search rules;
  shorter = search rules;
  of = search rules;
}

pub prefixed-returns : goal.prefixed-returns
prefixed-returns t c =
    let none = subst (λ k. IsNotAt k c.args.tokens.now) c.prefix_kind.ensures c.in_default.ensures.none in
    MatchResult-weaker c.unprefixed.result c.unprefixed.ensures (λ found h. unprefixed_read c.args.prefix h) (λ stop h. unprefixed_stops c.args.prefix c.args.tokens.now stop none h)

pub primary-returns-in-Some-literal : goal.primary-returns-in-Some-literal
primary-returns-in-Some-literal t c =
    let spelled = literal_at {text = c.args.self.now.text.now} {us = c.in-Some.rest.now} c.in-Some.ensures (sym c.in-Some-literal.ensures) in
    let few : length c.in-Some.rest.now < length c.args.tokens.now = search rules in
    let kept : AreSlicesOf c.args.self.now.text.now c.in-Some.rest.now = search rules in
    ended c.alone.result spelled few kept c.alone.ensures.same c.alone.ensures.stops (IfErr-weaker c.alone.result _ _ (λ stop h. rw h.0 (alone_literal c.in-Some.ensures (sym c.in-Some-literal.ensures) h.1)) c.alone.ensures.err)

pub primary-returns-in-Some-eat-2 : goal.primary-returns-in-Some-eat-2
primary-returns-in-Some-eat-2 t c =
    let text = c.args.self.now.text.now in
    let behind : AreSlicesOf text c.in-Some-eat-2.rest.now = search rules in
    let read = four_ok c.random.result _ _ _ _ (λ found. IsReadPart Primary text c.args.tokens.now found.1.now found.0) (λ found p q few kept. record {
      spells = rw c.in-Some-eat-2.ensures.list p;
      stops = q;
      shorter = omega (arith, few, ap length c.in-Some-eat-2.ensures.list);
      of = kept;
    }) (c.random.ensures.spells text) c.random.ensures.stops c.random.ensures.shorter (c.random.ensures.of text behind) in
    MatchResult-from_both c.random.result _ _ read (rw c.in-Some-eat-2.ensures.list c.random.ensures.fails)

pub primary-returns : goal.primary-returns
primary-returns t c =
    let spelled = bracketed_at c.in_ok-rest.ensures.list c.in_ok-rest.ensures.kind c.in_ok-inner.ensures.spells c.in_ok-rest-2.ensures.list c.in_ok-rest-2.ensures.kind in
    let few : length c.in_ok-rest-2.rest.now < length c.args.tokens.now = search rules in
    let kept : AreSlicesOf c.args.self.now.text.now c.in_ok-rest-2.rest.now = search rules in
    ended c.alone-2.result spelled few kept c.alone-2.ensures.same c.alone-2.ensures.stops (IfErr-weaker c.alone-2.result _ _ (λ stop h. rw h.0 (alone_bracket c.in_ok-rest.ensures.list c.in_ok-rest.ensures.kind (part_passed c.in_ok-inner.ensures) c.in_ok-rest-2.ensures.list c.in_ok-rest-2.ensures.kind h.1)) c.alone-2.ensures.err)

pub arguments-returns-in_err-arg-clause-fails : goal.arguments-returns-in_err-arg-clause-fails
arguments-returns-in_err-arg-clause-fails t c =
    let p = err_from_is_err_and c.from_residual.result c.from_residual.ensures.1 in
    rw (p.1, p.2) (argument_stops c.in_err-arg.field-0.0 c.commas.invariant.listed c.in-Some.ensures.list c.in-Some.ensures.kind c.in_err-arg.ensures)

pub chain-returns-in_err-left : goal.chain-returns-in_err-left
chain-returns-in_err-left t c =
    let p = err_from_is_err_and c.from_residual.result c.from_residual.ensures.1 in
    rw (p.1, p.2) (operand_stops c.args.chain c.args.tokens.now c.in_err-left.field-0.0 c.in_err-left.ensures)

pub chain-returns-in_err-right : goal.chain-returns-in_err-right
chain-returns-in_err-right t c =
    let p = err_from_is_err_and c.from_residual-in_err-right.result c.from_residual-in_err-right.ensures.1 in
    rw (p.1, p.2) (chain_stops c.in_err-right.field-0.0 c.operands.invariant.through c.in-Some.ensures (sym c.in-Some-operator.ensures) c.in_err-right.ensures)

pub compare-returns-in_err-left : goal.compare-returns-in_err-left
compare-returns-in_err-left t c =
    let p = err_from_is_err_and c.from_residual.result c.from_residual.ensures.1 in
    rw (p.1, p.2) (first_sum_stops c.args.tokens.now c.in_err-left.field-0.0 c.in_err-left.ensures)

pub compare-returns-in_err-right : goal.compare-returns-in_err-right
compare-returns-in_err-right t c =
    let p = err_from_is_err_and c.from_residual-in_err-right.result c.from_residual-in_err-right.ensures.1 in
    rw (p.1, p.2) (second_sum_stops c.in_err-right.field-0.0 (part_passed c.in_ok-left.ensures) c.in-Some.ensures (sym c.in-Some-comparison.ensures) c.in_err-right.ensures)

pub compare-returns : goal.compare-returns
compare-returns t c =
    third_comparison_stops (part_passed c.in_ok-left.ensures) c.in-Some.ensures (sym c.in-Some-comparison.ensures) (part_passed c.in_ok-right.ensures) c.in-Some-split.ensures (ap is_some (sym c.comparison-2.ensures) ∙ sym c.if-is_some.ensures)

pub named-returns-in_err-name : goal.named-returns-in_err-name
named-returns-in_err-name t c =
    let p = err_from_is_err_and c.from_residual.result c.from_residual.ensures.1 in
    rw (p.1, p.2, c.in_err-name.ensures.err) tt

pub named-returns-in_err-attr-2 : goal.named-returns-in_err-attr-2
named-returns-in_err-attr-2 t c =
    let p = err_from_is_err_and c.from_residual-in_err-attr-2.result c.from_residual-in_err-attr-2.ensures.1 in
    rw (p.1, p.2, c.in_err-attr-2.ensures.err) tt

pub named-returns-in_err-unit-2 : goal.named-returns-in_err-unit-2
named-returns-in_err-unit-2 t c =
    let p = err_from_is_err_and c.from_residual-in_err-unit-2.result c.from_residual-in_err-unit-2.ensures.1 in
    rw (p.1, p.2, c.in_err-unit-2.ensures.err) tt

pub named-returns-in_err-attr : goal.named-returns-in_err-attr
named-returns-in_err-attr t c =
    let p = err_from_is_err_and c.from_residual-in_err-attr.result c.from_residual-in_err-attr.ensures.1 in
    rw (p.1, p.2, c.in_err-attr.ensures.err.0) (dot_stops c.args.first.now c.requires.is_name c.in-Some.ensures.list c.in-Some.ensures.kind c.in_err-attr.ensures.err.1)

pub named-returns-in_err-unit : goal.named-returns-in_err-unit
named-returns-in_err-unit t c =
    let p = err_from_is_err_and c.from_residual-in_err-unit.result c.from_residual-in_err-unit.ensures.1 in
    rw (p.1, p.2, c.in_err-unit.ensures.err.0) (unit_stops c.args.first.now c.requires.is_name c.in-Some-eat.ensures.list c.in-Some-eat.ensures.kind c.in_err-unit.ensures.err.1)

pub named-returns-in_err-args : goal.named-returns-in_err-args
named-returns-in_err-args t c =
    let p = err_from_is_err_and c.from_residual-in_err-args.result c.from_residual-in_err-args.ensures.1 in
    rw (p.1, p.2) (list_stops c.args.first.now c.requires.is_name c.in-Some-eat.ensures.list c.in-Some-eat.ensures.kind c.in_ok-unit.ensures.list c.in_ok-unit.ensures.kind c.in_err-args.field-0.0 c.in_err-args.ensures.fails)

pub named-returns-in_err-rest : goal.named-returns-in_err-rest
named-returns-in_err-rest t c =
    let p = err_from_is_err_and c.from_residual-in_err-rest.result c.from_residual-in_err-rest.ensures.1 in
    rw (p.1, p.2, c.in_err-rest.ensures.err.0) (list_shut_stops c.args.first.now c.requires.is_name c.in-Some-eat.ensures.list c.in-Some-eat.ensures.kind c.in_ok-unit.ensures.list c.in_ok-unit.ensures.kind c.in_ok-args.rest.now c.in_ok-args.ensures.listed c.in_ok-args.ensures.stops c.in_err-rest.ensures.err.1)

pub prefixed-returns-in_err-inner : goal.prefixed-returns-in_err-inner
prefixed-returns-in_err-inner t c =
    let p = err_from_is_err_and c.from_residual.result c.from_residual.ensures.1 in
    rw (p.1, p.2) (prefixed_stops c.args.prefix c.in_err-inner.field-0.0 c.in-Some.ensures.list (c.in-Some.ensures.kind ∙ c.prefix_kind.ensures) c.in_err-inner.ensures)

pub primary-returns-in_default : goal.primary-returns-in_default
primary-returns-in_default t c = end_stops c.in_default.ensures

pub primary-returns-in_err-rest : goal.primary-returns-in_err-rest
primary-returns-in_err-rest t c =
    let p = err_from_is_err_and c.from_residual.result c.from_residual.ensures.1 in
    rw (p.1, p.2, c.in_err-rest.ensures.err.0) (first_stops c.in-Some.ensures (sym c.in_default-literal.ensures) c.in_default-eat.ensures.none c.in_default-eat-2.ensures.none c.in_err-rest.ensures.err.1)

pub primary-returns-in_err-inner : goal.primary-returns-in_err-inner
primary-returns-in_err-inner t c =
    let p = err_from_is_err_and c.from_residual-in_err-inner.result c.from_residual-in_err-inner.ensures.1 in
    rw (p.1, p.2) (bracket_stops c.in_err-inner.field-0.0 c.in_ok-rest.ensures.list c.in_ok-rest.ensures.kind c.in_err-inner.ensures)

pub primary-returns-in_err-rest-2 : goal.primary-returns-in_err-rest-2
primary-returns-in_err-rest-2 t c =
    let p = err_from_is_err_and c.from_residual-in_err-rest-2.result c.from_residual-in_err-rest-2.ensures.1 in
    rw (p.1, p.2, c.in_err-rest-2.ensures.err.0) (shut_stops c.in_ok-inner.rest.now c.in_ok-rest.ensures.list c.in_ok-rest.ensures.kind (part_passed c.in_ok-inner.ensures) c.in_err-rest-2.ensures.err.1)
