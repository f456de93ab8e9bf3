-- The texts of the sample.
use Rattle.std.specs.Prelude.{ℕ, ℤ, pos, ◌+◌, ◌%◌, ◌+ℤ◌, int_rem, List, [], ◌∷◌, ◌++◌, flat_map, codes}
use Rattle.std.specs.List.{range_with_len}
use Rattle.sgl_values.specs.World.{Row}
use Rattle.sgl_typed.specs.Draw.{draw}
use Rattle.unit_csv.specs.Lines.{row_text}

-- ---- the script

-- the lines, without their ends
abbrev pub script_lines : List (List ℕ)
script_lines =
    codes "attr player const;"
    ∷ codes "attr x const;"
    ∷ codes "attr y const;"
    ∷ codes "attr health const;"
    ∷ codes "attr damage sum = 0;"
    ∷ codes "attr dx sum = 0;"
    ∷ codes "attr dy sum = 0;"
    ∷ codes "attr fear max = 0;"
    ∷ codes "aggregate Foes(u, r) = count e where e.player <> u.player and e.x >= u.x - r and e.x <= u.x + r and e.y >= u.y - r and e.y <= u.y + r;"
    ∷ codes "aggregate Friends(u, r) = count e where e.player = u.player and e.x >= u.x - r and e.x <= u.x + r and e.y >= u.y - r and e.y <= u.y + r;"
    ∷ codes "aggregate Weak(u) = lowest e.health where e.player <> u.player and e.x >= u.x - 20 and e.x <= u.x + 20 and e.y >= u.y - 20 and e.y <= u.y + 20 else 0;"
    ∷ codes "action Hit(u, t, d) on e where e.key = t { damage <- d; }"
    ∷ codes "action Move(u, a, b) on e where e.key = u.key { dx <- a; dy <- b; }"
    ∷ codes "action Scare(u, r) on e where e.player <> u.player and e.x >= u.x - r and e.x <= u.x + r and e.y >= u.y - r and e.y <= u.y + r { fear <- 1; }"
    ∷ codes "routine Fight(u) {"
    ∷ codes "  perform Hit(u, Weak(u), 4);"
    ∷ codes "  perform Scare(u, 4);"
    ∷ codes "}"
    ∷ codes "main(u) {"
    ∷ codes "  let foes = Foes(u, 20);"
    ∷ codes "  if foes = 0 {"
    ∷ codes "    perform Move(u, random(1) % 3 - 1, random(2) % 3 - 1);"
    ∷ codes "  } else {"
    ∷ codes "    if foes > Friends(u, 20) + 2 { perform Move(u, 2, 2); } else { perform Fight(u); }"
    ∷ codes "  }"
    ∷ codes "}"
    ∷ codes "post {"
    ∷ codes "  x = x + dx;"
    ∷ codes "  y = y + dy;"
    ∷ codes "  health = health - damage - fear;"
    ∷ codes "  remove when health <= 0;"
    ∷ codes "}"
    ∷ []

-- each line ends with a line feed
unfoldable pub sample_script : List ℕ
sample_script = flat_map (λ line. line ++ codes "\n") script_lines

-- ---- the units

-- what a unit draws with an index in tick 0 under a seed, from 0 to below a count
abbrev pub drawn : (number key index count : ℕ) → ℤ
drawn number key index count = int_rem (draw number 0 key index) (pos count)

-- from 50 to 100
abbrev pub health : (number key : ℕ) → ℤ
health number key = pos 50 +ℤ drawn number key 2 51

-- a unit: its player is 1 or 2, its place lies within 4,096 by 4,096
abbrev pub unit_row : (number key : ℕ) → Row
unit_row number key = record {
  key = key;
  values = pos (key % 2 + 1) ∷ drawn number key 0 4096 ∷ drawn number key 1 4096 ∷ health number key ∷ [];
}

abbrev pub unit_line : (number key : ℕ) → List ℕ
unit_line number key = row_text (unit_row number key)

-- the header, and a line for each unit, with the keys from 1 on
unfoldable pub units_text : (n number : ℕ) → List ℕ
units_text n number = codes "key,player,x,y,health\n" ++ flat_map (unit_line number) (range_with_len 1 n)
