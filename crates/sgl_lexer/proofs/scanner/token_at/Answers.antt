use Rattle.std.proofs.Common.{ℕ, sym, refl, subst, take}
use Rattle.sgl_lexer.specs.declared.lexeme.TokenKind.TheVariants as kinds
use Rattle.sgl_lexer.specs.Kinds.{number_behind, IsOfKind, IsLongest, IsNameText, IsNumberText}
use Rattle.sgl_lexer.proofs.Lexemes.{name_text, longest_name, number_text, longest_number, longest_sign, no_token}
use Rattle.sgl_lexer.proofs.scanner.token_at.Goals as goal
use Rattle.sgl_lexer.proofs.scanner.token_at.Goals.{After-word_or_name-kind, After-digits_len-len}

named : (c : After-word_or_name-kind) → IsNameText (take c.name_len-len.result c.args.text.now)
named c = subst (λ n. IsNameText (take n c.args.text.now)) (sym c.name_len-len.ensures) (name_text c.args.text.now c.requires (sym c.if-begins_name.ensures))

longest : (c : After-word_or_name-kind) → IsLongest c.word_or_name-kind.result c.name_len-len.result c.args.text.now
longest c =
    let text = c.args.text.now in
    let begins = sym c.if-begins_name.ensures in
    let is = subst (λ n. IsOfKind (take n text) c.word_or_name-kind.result) c.name_len-len.ensures c.word_or_name-kind.ensures.kind in
    subst (λ n. IsLongest c.word_or_name-kind.result n text) (sym c.name_len-len.ensures) (longest_name text c.requires c.word_or_name-kind.result begins is)

digits : (c : After-digits_len-len) → IsNumberText (take c.digits_len-len.result c.args.text.now)
digits c = subst (λ n. IsNumberText (take n c.args.text.now)) (sym c.digits_len-len.ensures) (number_text c.args.text.now c.requires (sym c.if-is_ascii_digit.ensures.value))

longest_digits : (c : After-digits_len-len) (value : ℕ) → IsOfKind (take c.digits_len-len.result c.args.text.now) (kinds.Number value) → IsLongest (kinds.Number value) c.digits_len-len.result c.args.text.now
longest_digits c value is =
    let text = c.args.text.now in
    let k = kinds.Number value in
    subst (λ n. IsLongest k n text) (sym c.digits_len-len.ensures)
    (longest_number text c.requires k (sym c.if-is_ascii_digit.ensures.value) (subst (λ n. IsOfKind (take n text) k) c.digits_len-len.ensures is))

pub word_or_name-kind-requires : goal.word_or_name-kind-requires
word_or_name-kind-requires c =
    subst (λ n. IsNameText (take n c.args.text.now)) (sym c.name_len-len.ensures) (name_text c.args.text.now c.requires (sym c.if-begins_name.ensures))

pub returns-then-len-gt-NAME_BYTES_MAX-clause-fault : goal.returns-then-len-gt-NAME_BYTES_MAX-clause-fault
returns-then-len-gt-NAME_BYTES_MAX-clause-fault c =
    let at = (goal.at.returns-then-len-gt-NAME_BYTES_MAX-clause-fault c).After-word_or_name-kind in
    (refl, c.name_len-len.result, c.word_or_name-kind.result, longest at, named at, c.if-len-gt-NAME_BYTES_MAX.true)

pub returns-then-begins_name-clause-longest : goal.returns-then-begins_name-clause-longest
returns-then-begins_name-clause-longest c = longest (goal.at.returns-then-begins_name-clause-longest c).After-word_or_name-kind

pub returns-then-len-gt-NUMBER_DIGITS_MAX-clause-fault : goal.returns-then-len-gt-NUMBER_DIGITS_MAX-clause-fault
returns-then-len-gt-NUMBER_DIGITS_MAX-clause-fault c =
    let at = (goal.at.returns-then-len-gt-NUMBER_DIGITS_MAX-clause-fault c).After-digits_len-len in
    let value = number_behind 0 (take c.digits_len-len.result c.args.text.now) in
    (refl, c.digits_len-len.result, kinds.Number value, longest_digits at value (digits at, refl), digits at, c.if-len-gt-NUMBER_DIGITS_MAX.true)

pub number-requires-clause-digits : goal.number-requires-clause-digits
number-requires-clause-digits c = digits (goal.at.number-requires-clause-digits c).After-digits_len-len

pub returns-then-is_ascii_digit-clause-longest : goal.returns-then-is_ascii_digit-clause-longest
returns-then-is_ascii_digit-clause-longest c =
    let at = (goal.at.returns-then-is_ascii_digit-clause-longest c).After-digits_len-len in
    longest_digits at c.number.result (digits at, c.number.ensures)

pub returns-in-Some-clause-longest : goal.returns-in-Some-clause-longest
returns-in-Some-clause-longest c =
    let says = c.in-Some.ensures in
    rw c.text.ensures (longest_sign c.args.text.now c.requires _ (sym c.if-begins_name.ensures) (sym c.if-is_ascii_digit.ensures.value) says.begins says.longest)

pub returns-in-None-clause-fault : goal.returns-in-None-clause-fault
returns-in-None-clause-fault c =
    (refl, c.requires, no_token c.args.text.now c.requires (sym c.if-begins_name.ensures) (sym c.if-is_ascii_digit.ensures.value) c.in-None.ensures.none)
