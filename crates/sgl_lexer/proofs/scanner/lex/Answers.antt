use Rattle.std.proofs.Common.{◌≡◌, ℕ, ◌+◌, ◌-◌, ◌^◌, ◌<◌, ◌≤◌, List, length, take, drop, sym, ap, subst, ◌∙◌, arith, length-take}
use Rattle.std.proofs.lemmas.Result.{err_from_is_err_and}
use Rattle.std.proofs.lemmas.List.{take_rest, length-drop}
use Rattle.sgl_values.specs.declared.place.Place.{Place}
use Rattle.sgl_lexer.specs.declared.lexeme.Token.{Token}
use Rattle.sgl_lexer.specs.Places.{place_after}
use Rattle.sgl_lexer.specs.Kinds.{IsLongest}
use Rattle.sgl_lexer.specs.Lexing.{gap_len, behind_gap, place_at, Whole, Lexes, IsFaulty, Stands}
use Rattle.sgl_lexer.proofs.Steps.{Passed, place_small, place_more, ended, has_fault, passed_more, place_at_more}
use Rattle.sgl_lexer.proofs.scanner.lex.Goals as goal
use Rattle.sgl_lexer.proofs.scanner.lex.Goals.{After-gap_len-gap, After-place_after-place}

-- The line and the column behind more bytes fit their type.
fits : (text : List ℕ) (at n : ℕ) (here : Place) → length text ≤ 1048576 → here ≡ place_at text at → (here.line + length (take n (take (length text - at) (drop at text))) < 2 ^ 32) × (here.col + length (take n (take (length text - at) (drop at text))) + 1 < 2 ^ 32)
fits text at n here few is =
    let rest = take (length text - at) (drop at text) in
    let more : length (take n rest) ≤ length text = omega (arith, length-take n rest, length-take (length text - at) (drop at text), length-drop at text) in
    let small = place_small text at in
    (omega (arith, few, more, small.0, ap (λ (p : Place). p.line) is), omega (arith, few, more, small.1, ap (λ (p : Place). p.col) is))

gap_is : (c : After-gap_len-gap) → c.loop-at.at + c.gap_len-gap.result ≡ behind_gap c.args.text.now c.loop-at.at
gap_is c = let e = c.gap_len-gap.ensures.value ∙ ap gap_len (take_rest c.args.text.now c.loop-at.at) in omega (arith, e)

place_is : (c : After-place_after-place) → c.place_after-place.result ≡ place_at c.args.text.now (c.loop-at.at + c.gap_len-gap.result)
place_is c =
    c.place_after-place.ensures
    ∙ ap (λ l. place_after c.loop-at.place (take c.gap_len-gap.result l)) (take_rest c.args.text.now c.loop-at.at)
    ∙ place_more c.loop-at.invariant c.gap_len-gap.result

pub place_after-place-requires-clause-lines : goal.place_after-place-requires-clause-lines
place_after-place-requires-clause-lines c = (fits c.args.text.now c.loop-at.at c.gap_len-gap.result c.loop-at.place c.requires c.loop-at.invariant.here).0

pub place_after-place-requires-clause-cols : goal.place_after-place-requires-clause-cols
place_after-place-requires-clause-cols c = (fits c.args.text.now c.loop-at.at c.gap_len-gap.result c.loop-at.place c.requires c.loop-at.invariant.here).1

pub returns-then-at-text-clause-tokens : goal.returns-then-at-text-clause-tokens
returns-then-at-text-clause-tokens c =
    let text = c.args.text.now in
    let here = gap_is (goal.at.returns-then-at-text-clause-tokens c).After-gap_len-gap in
    let whole = ended c.loop-at.invariant (sym here ∙ c.if-at-text.true) in
    subst (λ p. Lexes text c.loop-at.list (Whole p)) (ap (place_at text) (sym here) ∙ sym (place_is (goal.at.returns-then-at-text-clause-tokens c).After-place_after-place)) whole

pub returns-in_err-kind-clause-fault : goal.returns-in_err-kind-clause-fault
returns-in_err-kind-clause-fault c =
    let text = c.args.text.now in
    let here = gap_is (goal.at.returns-in_err-kind-clause-fault c).After-gap_len-gap in
    let place = place_is (goal.at.returns-in_err-kind-clause-fault c).After-place_after-place in
    let fault = c.in_err-kind.field-0.0 in
    let at_rest = subst (λ l. IsFaulty l c.place_after-place.result fault) (take_rest text (c.loop-at.at + c.gap_len-gap.result)) c.in_err-kind.ensures.fault in
    let at_place = subst (λ p. IsFaulty (drop (c.loop-at.at + c.gap_len-gap.result) text) p fault) place at_rest in
    let found = subst (λ n. IsFaulty (drop n text) (place_at text n) fault) here at_place in
    let p = err_from_is_err_and c.from_residual.result c.from_residual.ensures.1 in
    rw (p.1, p.2) (has_fault c.loop-at.invariant fault found)

pub place_after-place-requires-in-loop-at-clause-lines : goal.place_after-place-requires-in-loop-at-clause-lines
place_after-place-requires-in-loop-at-clause-lines c = (fits c.args.text.now (c.loop-at.at + c.gap_len-gap.result) c.in_ok-kind.len c.place_after-place.result c.requires (place_is (goal.at.place_after-place-requires-in-loop-at-clause-lines c).After-place_after-place)).0

pub place_after-place-requires-in-loop-at-clause-cols : goal.place_after-place-requires-in-loop-at-clause-cols
place_after-place-requires-in-loop-at-clause-cols c = (fits c.args.text.now (c.loop-at.at + c.gap_len-gap.result) c.in_ok-kind.len c.place_after-place.result c.requires (place_is (goal.at.place_after-place-requires-in-loop-at-clause-cols c).After-place_after-place)).1

pub loop-at-preserved : goal.loop-at-preserved
loop-at-preserved c =
    let text = c.args.text.now in
    let start = c.loop-at.at + c.gap_len-gap.result in
    let len = c.in_ok-kind.len in
    let kind = c.in_ok-kind.kind in
    let here = gap_is (goal.at.loop-at-preserved c).After-gap_len-gap in
    let place = place_is (goal.at.loop-at-preserved c).After-place_after-place in
    let t : Token = record { kind = kind; start = start; end = start + len; place = c.place_after-place.result } in
    let width : start + len - start ≡ len = omega arith in
    let longest : IsLongest kind len (drop start text) = subst (IsLongest kind len) (take_rest text start) c.in_ok-kind.ensures.longest in
    let stands : Stands text c.loop-at.at t = record {
      starts = here;
      ends = omega (arith, c.in_ok-kind.ensures.nonempty);
      place = place;
      longest = subst (λ n. IsLongest kind n (drop start text)) (sym width) longest;
      fits = rw width c.in_ok-kind.ensures.fits;
    } in
    let within : start + len ≤ length text = omega (arith, longest.within, length-drop start text, c.gap_len-gap.ensures.within, ap length (take_rest text c.loop-at.at), length-drop c.loop-at.at text) in
    let more = passed_more c.loop-at.invariant t stands within in
    let pushed = c.in_ok-push.ensures.ok in
    let placed : c.place_after-place-in-loop-at.result ≡ place_at text (start + len) =
    c.place_after-place-in-loop-at.ensures
    ∙ ap (λ l. place_after c.place_after-place.result (take len l)) (take_rest text start)
    ∙ ap (λ p. place_after p (take len (drop start text))) place
    ∙ sym (place_at_more text start len (omega (arith, c.loop-at.invariant.behind_mark))) in
    let listed : Passed text c.push.new.self (start + len) (place_at text (start + len)) = subst (λ l. Passed text l (start + len) (place_at text (start + len))) (sym pushed) more in
    subst (λ p. Passed text c.push.new.self (start + len) p) (sym placed) listed
