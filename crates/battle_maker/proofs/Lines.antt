-- The table of a sample with one unit more.
use Rattle.std.proofs.Common.{◌≡◌, ◌∙◌, ℕ, zero, suc, ◌+◌, ◌<◌, ◌++◌, List, [], ◌∷◌, add-one, add-zero, append-nil, append_assoc, ap, arith, codes, sym}
use Rattle.std.proofs.lemmas.Grind.{flat_map-append}
use Rattle.std.specs.List.{flat_map, range_with_len}
use Rattle.std.proofs.lemmas.Int.{ints}
use Rattle.std.specs.Prelude.{pos, ◌≤ℤ◌}
use Rattle.sgl_typed.specs.Draw.{draw}
use Rattle.battle_maker.specs.Sample.{drawn, unit_line, units_text}

-- one number more
range_more : (first n : ℕ) → range_with_len first (suc n) ≡ range_with_len first n ++ (first + n) ∷ []
range_more first zero = ap (λ x. x ∷ []) (sym (add-zero first))
range_more first (suc n) =
    let same : first + 1 + n ≡ first + suc n = omega arith in
    ap (λ xs. first ∷ xs) (range_more (first + 1) n ∙ ap (λ x. range_with_len (first + 1) n ++ x ∷ []) same)

-- the line of the next unit stands after the others
pub units_more : (n number : ℕ) → units_text (n + 1) number ≡ units_text n number ++ unit_line number (n + 1)
unfolding units_text
units_more n number =
    let line = unit_line number in
    let header = codes "key,player,x,y,health\n" in
    let count : 1 + n ≡ n + 1 = omega arith in
    ap (λ k. header ++ flat_map line (range_with_len 1 k)) (add-one n)
    ∙ ap (λ xs. header ++ flat_map line xs) (range_more 1 n ∙ ap (λ k. range_with_len 1 n ++ k ∷ []) count)
    ∙ ap (λ xs. header ++ xs) (flat_map-append line (range_with_len 1 n) ((n + 1) ∷ []) ∙ ap (λ xs. flat_map line (range_with_len 1 n) ++ xs) (append-nil (line (n + 1))))
    ∙ sym (append_assoc header (flat_map line (range_with_len 1 n)) (line (n + 1)))

-- what is drawn is from 0 to below the count
pub drawn-low : (number key index count : ℕ) → pos 0 ≤ℤ drawn number key index count
unfolding draw
drawn-low number key index count = omega (arith, ints)

pub drawn-high : (number key index count : ℕ) → 0 < count → drawn number key index count ≤ℤ pos count
unfolding draw
drawn-high number key index count some = omega (arith, ints)

pub units_none : (number : ℕ) → units_text 0 number ≡ codes "key,player,x,y,health\n"
unfolding units_text
units_none number = append-nil (codes "key,player,x,y,health\n")

-- six parts, put one after the other
parts_joined : (a b c d e f : List ℕ) → ((((a ++ b) ++ c) ++ d) ++ e) ++ f ≡ a ++ ((b ++ (c ++ (d ++ (e ++ [])))) ++ f)
parts_joined a b c d e f = simp (append_assoc, append-nil)

-- the numbers of a line, put one after the other
pub line_joined : (key player x y health : List ℕ)
    → (((((([] ++ key) ++ 44 ∷ player) ++ 44 ∷ x) ++ 44 ∷ y) ++ 44 ∷ health) ++ 10 ∷ [])
    ≡ key ++ ((44 ∷ (player ++ (44 ∷ (x ++ (44 ∷ (y ++ (44 ∷ (health ++ [])))))))) ++ 10 ∷ [])
line_joined key player x y health = parts_joined key (44 ∷ player) (44 ∷ x) (44 ∷ y) (44 ∷ health) (10 ∷ [])

-- a line after each of its parts
pub line_made : (l0 l1 l2 l3 l4 l5 l6 key player x y health : List ℕ) → l0 ≡ [] → l1 ≡ l0 ++ key → l2 ≡ l1 ++ 44 ∷ player → l3 ≡ l2 ++ 44 ∷ x → l4 ≡ l3 ++ 44 ∷ y
    → l5 ≡ l4 ++ 44 ∷ health → l6 ≡ l5 ++ 10 ∷ [] → l6 ≡ key ++ ((44 ∷ (player ++ (44 ∷ (x ++ (44 ∷ (y ++ (44 ∷ (health ++ [])))))))) ++ 10 ∷ [])
line_made l0 l1 l2 l3 l4 l5 l6 key player x y health first second third fourth fifth sixth last =
    let joined = line_joined key player x y health in
    rw (last, sixth, fifth, fourth, third, second, first) joined
