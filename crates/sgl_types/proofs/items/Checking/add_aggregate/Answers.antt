use Rattle.std.proofs.Common.{◌≡◌, ◌+◌, [], ◌∷◌, ◌++◌, ap, ◌∙◌, arith}
use Rattle.std.proofs.lemmas.Result.{on_ok_weaker}
use Rattle.sgl_types.specs.Findings.{noted}
use Rattle.sgl_types.specs.Items.{aggregate_faults}
use Rattle.sgl_types.specs.TypedItems.{typed_aggregate}
use Rattle.sgl_types.proofs.items.Checking.add_aggregate.Goals as goal

pub returns-clause-typed : goal.returns-clause-typed
returns-clause-typed c =
    let t = c.args.self.now.typed in
    let context = c.context_at-context.ensures in
    let made = c.in_ok-made.ensures.made ∙ ap (λ g. typed_aggregate g c.args.name.now c.args.params.now c.args.fold.now c.args.tests.now c.args.otherwise.now) context in
    let found = c.in_ok-made.ensures.found ∙ ap (λ g. noted t.found (aggregate_faults g c.args.name.now c.args.params.now c.args.fold.now c.args.tests.now c.args.otherwise.now)) context in
    let slots : t.slots ≡ t.slots + 0 = omega arith in
    on_ok_weaker c.push.result (λ pushed. λ i. record t { slots = slots i; aggs = (pushed ∙ ap (λ m. t.aggs ++ m ∷ []) made) i; found = found i }) c.push.ensures.ok
