use Rattle.std.proofs.Common.{◌≡◌, ◌∙◌, false, refl, subst, sym}
use Rattle.std.specs.Bool.{OnFalse}
use Rattle.std.specs.Option.{is_some}
use Rattle.std.specs.Prelude.{Option, Some, None}
use Rattle.extreme_sweep.specs.declared.pair.Entry.{Entry}
use Rattle.extreme_sweep.specs.Nodes.{Lacks}
use Rattle.extreme_sweep.specs.Tree.{Replaces}
use Rattle.extreme_sweep.proofs.Blocks.{replaces-none, replaces-other}
use Rattle.extreme_sweep.proofs.node.Node.replaced.Goals as goal
use Rattle.extreme_sweep.proofs.node.Node.replaced.Goals.{then-is_some, else-is_some}

is-none : (o : Option Entry) → false ≡ is_some o → o ≡ None
is-none None is = refl
is-none (Some e) is = cc

pub returns-in-Some-entry : goal.returns-in-Some-entry
returns-in-Some-entry c =
    let node = c.args.self.now in let e = c.in-Some-entry.entry in
    subst (λ (l : Option Entry). Replaces node l c.args.entry c.joined.result) (sym c.in-None.is)
    (subst (λ (o : Option Entry). Replaces node None o c.joined.result) (sym c.in-Some-entry.is)
    (replaces-none node c.joined.result (Some e) c.joined.ensures.sound c.joined.ensures.joins))

pub returns-else-has : goal.returns-else-has
returns-else-has c =
    let node = c.args.self.now in let e = c.in-Some.left in
    let both : (c.args.entry ≡ None) × Lacks node e.pair = elim c.if-is_some.branch [
      | then-is_some w ↦ absurd cc
      | else-is_some w ↦ (is-none c.args.entry w.if-is_some.ensures, subst (λ b. OnFalse b (Lacks node e.pair)) (sym w.value-is ∙ c.if-has.false) w.has.ensures)
    ] in
    subst (λ (l : Option Entry). Replaces node l c.args.entry node) (sym c.in-Some.is)
    (subst (λ (o : Option Entry). Replaces node (Some e) o node) (sym both.0) (replaces-other node e both.1))
