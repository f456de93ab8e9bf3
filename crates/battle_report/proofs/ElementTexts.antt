-- The texts of elements, written one after the other as far as the sink took them.
use Rattle.std.proofs.Common.{◌≡◌, ◌+◌, ◌<◌, ℕ, List, Option, Result, Ok, Err, length, take, get_or, arith, subst}
use Rattle.std.specs.List.{flat_map}
use Rattle.sgl_outside.specs.Sinks.{Writes}
use Rattle.sgl_outside.proofs.Writes.{rose_later}
use Rattle.unit_csv.proofs.WorldLines.{cut_more, wrote_more}

module _ {A : Type 0} (text : A → List ℕ) (xs : List A) (a b c : Option (List ℕ)) (i j k n : ℕ) (d x : A) (inside : n < length xs) (is : x ≡ get_or xs n d) where
  of_element : {T E : Type 0} (r : Result T E) → Writes b c j k r (text x) → Writes b c j k r (text (get_or xs n d))
  of_element r one = subst (λ e. Writes b c j k r (text e)) is one

  -- the texts of the first elements were written, and then that of one more
  pub writes_more : {T E : Type 0} (u v : T) → Writes {E = E} a b i j (Ok u) (flat_map text (take n xs)) → Writes {E = E} b c j k (Ok v) (text x)
      → Writes {E = E} a c i k (Ok u) (flat_map text (take (n + 1) xs))
  writes_more {T} {E} u v before one = record {
    later = omega (arith, before.later, one.later);
    whole = wrote_more text xs a b c n d inside before.whole (of_element {E = E} (Ok v) one).whole;
    cut = tt;
  }

  -- and then a part of it
  pub writes_part : {T E : Type 0} (u : T) (e f : E) → Writes {E = E} a b i j (Ok u) (flat_map text (take n xs)) → Writes {T = T} b c j k (Err e) (text x)
      → Writes {T = T} a c i k (Err f) (flat_map text xs)
  writes_part {T} {E} u e f before one =
      let cut = (of_element {T = T} (Err e) one).cut in
      record {
        later = omega (arith, before.later, one.later);
        whole = tt;
        cut = (rose_later i j k before.later cut.0, cut_more text xs a b c n d inside before.whole cut.1);
      }
