use Rattle.std.proofs.Common.{⊎_elim, sym, subst, arith}
use Rattle.std.proofs.str.Laws.{order}
use Rattle.sgl_lexer.specs.Kinds.{sign_text, Begins}
use Rattle.sgl_lexer.proofs.Finding.{place}
use Rattle.sgl_lexer.proofs.SignTable.{all_signs, sign_at, falling}
use Rattle.sgl_lexer.proofs.scanner.sign_at.Goals as goal

pub returns-then-starts_with-clause-longest : goal.returns-then-starts_with-clause-longest
returns-then-starts_with-clause-longest c = λ t begins.
    ⊎_elim
    (λ before. absurd (c.loop-sign.invariant (place sign_text all_signs t) before (subst (λ s. Begins (sign_text s) c.args.text.now) (sym (sign_at t).0) begins)))
    (λ not_before. falling t c.loop-sign.sign-index not_before)
    (order (place sign_text all_signs t) c.loop-sign.sign-index)

pub returns-clause-none : goal.returns-clause-none
returns-clause-none c = λ s begins.
    let stands = sign_at s in
    c.loop-sign.invariant (place sign_text all_signs s) (omega arith) (subst (λ t. Begins (sign_text t) c.args.text.now) (sym stands.0) begins)
