-- One number more becomes the greatest, or what the greatest was.
use Rattle.std.proofs.Common.{◌≡◌, ◌<◌, ◌≤◌, ℕ, cond, arith}
use Rattle.std.specs.Cmp.{ranks}
use Rattle.std.specs.Ordering.{is_lt, nat_cmp, MatchOrdering}
use Rattle.std.specs.declared.cmp.Ordering.{Ordering}
use Rattle.std.specs.declared.cmp.Ordering.TheVariants.{Less, Equal, Greater}
use Rattle.rank_table.proofs.Bucketing.{AreGreatestTo-none, AreGreatestTo-more}
use Rattle.rank_table.proofs.buckets.running_greatest.Goals as goal

greater : (a b : ℕ) (r : Ordering) → MatchOrdering r (b < a) (b ≡ a) (a < b) → (a ≤ cond (is_lt r) a b) × (b ≤ cond (is_lt r) a b)
greater a b Less less = (omega arith, omega arith)
greater a b Equal same = (omega arith, omega arith)
greater a b Greater more = (omega arith, omega arith)

no_greater : (a b bound : ℕ) (r : Ordering) → a ≤ bound → b ≤ bound → cond (is_lt r) a b ≤ bound
no_greater a b bound Less one two = one
no_greater a b bound Equal one two = two
no_greater a b bound Greater one two = two

pub loop-place-init : goal.loop-place-init
loop-place-init c = AreGreatestTo-none c.args.numbers.items

pub loop-place-preserved : goal.loop-place-preserved
loop-place-preserved c =
    let most = c.loop-place.greatest in
    let number = c.index.result.now in
    let order = nat_cmp number most in
    let both = greater most number order (ranks number most) in
    AreGreatestTo-more c.args.numbers.items c.loop-place.numbers.items c.loop-place.place most _ number (omega arith) c.index.ensures c.loop-place.invariant (omega (arith, both.0)) (omega (arith, both.1))
    (λ bound one two. omega (arith, no_greater most number bound order one two))

pub returns : goal.returns
returns c =
    let done = c.loop-place.invariant in
    record { long = done.long; each = λ place d below. done.each place d (omega arith) }
