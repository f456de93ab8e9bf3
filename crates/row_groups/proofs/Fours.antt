-- Keys in a fixed length.
use Rattle.std.proofs.Common.{◌≡◌, ℤ, ◌≤◌, List, [], ◌∷◌, length, refl, arith}
use Rattle.std.specs.Ordering.{int_eq}
use Rattle.std.specs.Cmp.Lexicographic.{pointwise}
use Rattle.row_groups.specs.Keys.{four_of}

-- up to four values are the same where they are in the fixed length
pub same_fours : (zs ys : List ℤ) → length zs ≡ length ys → length zs ≤ 4 → pointwise int_eq (four_of zs) (four_of ys) ≡ pointwise int_eq zs ys
same_fours [] [] same few = refl
same_fours [] (b ∷ ys) same few = absurd (omega (arith, same))
same_fours (a ∷ zs) [] same few = absurd (omega (arith, same))
same_fours (a ∷ []) (b ∷ []) same few = refl
same_fours (a ∷ []) (b ∷ b' ∷ ys) same few = absurd (omega (arith, same))
same_fours (a ∷ a' ∷ zs) (b ∷ []) same few = absurd (omega (arith, same))
same_fours (a ∷ a' ∷ []) (b ∷ b' ∷ []) same few = refl
same_fours (a ∷ a' ∷ []) (b ∷ b' ∷ b'' ∷ ys) same few = absurd (omega (arith, same))
same_fours (a ∷ a' ∷ a'' ∷ zs) (b ∷ b' ∷ []) same few = absurd (omega (arith, same))
same_fours (a ∷ a' ∷ a'' ∷ []) (b ∷ b' ∷ b'' ∷ []) same few = refl
same_fours (a ∷ a' ∷ a'' ∷ []) (b ∷ b' ∷ b'' ∷ b''' ∷ ys) same few = absurd (omega (arith, same))
same_fours (a ∷ a' ∷ a'' ∷ a''' ∷ zs) (b ∷ b' ∷ b'' ∷ []) same few = absurd (omega (arith, same))
same_fours (a ∷ a' ∷ a'' ∷ a''' ∷ []) (b ∷ b' ∷ b'' ∷ b''' ∷ []) same few = refl
same_fours (a ∷ a' ∷ a'' ∷ a''' ∷ []) (b ∷ b' ∷ b'' ∷ b''' ∷ c ∷ ys) same few = absurd (omega (arith, same))
same_fours (a ∷ a' ∷ a'' ∷ a''' ∷ c ∷ zs) (b ∷ b' ∷ b'' ∷ b''' ∷ ys) same few = absurd (omega (arith, few))
