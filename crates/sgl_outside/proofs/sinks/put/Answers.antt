use Rattle.std.proofs.Common.{◌≡◌, ◌∙◌, ◌++◌, ◌-◌, ◌≤◌, ℕ, List, length, take, drop, arith, ap, append_assoc}
use Rattle.std.proofs.lemmas.Grind.{common_steps}
use Rattle.std.proofs.KnownBytes.{Appends-trans}
use Rattle.sgl_outside.proofs.sinks.put.Goals as goal

-- a list cut at a place, whose back is taken whole
cut_whole : (n : ℕ) (xs : List ℕ) → n ≤ length xs → take n xs ++ take (length xs - n) (drop n xs) ≡ xs
cut_whole n xs h = grind (arith, common_steps)

pub loop-rest-preserved : goal.loop-rest-preserved
loop-rest-preserved g c =
    let held = c.loop-rest.invariant in
    let wrote = c.in_ok-count.ensures in
    let count = c.in_ok-count.count in
    let rest = c.loop-rest.rest.now in
    record {
      taken = held.taken ++ take count rest;
      whole = rw append_assoc (ap (λ ys. held.taken ++ ys) (cut_whole count rest wrote.takes.fits) ∙ held.whole);
      appends = Appends-trans _ _ _ _ _ held.appends wrote.bytes;
      later = omega (arith, wrote.cause.later);
    }
