-- The entries of a map of units, and the rows that they stand for.
use Rattle.std.proofs.Common.{◌<◌, arith, ◌≡◌, ℕ, ℤ, List, [], ◌∷◌, length, map, Bool, true, false, cond, Option, None, Some, is_some, refl, sym, ap, append_assoc, ◌∙◌, ◌++◌}
use Rattle.std.specs.Prelude.{All, nat_lt, ◌==◌}
use Rattle.std.specs.BTreeMap.{insert_entry, is_at}
use Rattle.std.specs.Map.{lookup}
use Rattle.std.specs.Ordering.{nat_cmp, is_eq, match_ordering}
use Rattle.std.specs.declared.cmp.Ordering.{Ordering}
use Rattle.std.specs.declared.cmp.Ordering.TheVariants.{Less, Equal, Greater}
use Rattle.std.proofs.lemmas.Bool.Decides.{nat_tests}
use Rattle.std.proofs.lemmas.List.Elements.{All-nil, All-cons, All-head, All-tail}
use Rattle.sgl_values.specs.World.{KeysRise, Row}
use Rattle.unit_csv.specs.Kept.{row_of}
use Rattle.unit_csv.specs.Units.{placed}

abbrev pub Entry : Type 0
Entry = ℕ × List ℤ

placed_one : (e : Entry) (es : List Entry) (k : ℕ) (v : List ℤ) (less same : Bool)
    → cond (is_eq (cond less Less (cond same Equal Greater))) (Some e.1) (lookup (is_at (nat_cmp k)) es) ≡ None
    → (lookup (is_at (nat_cmp k)) es ≡ None → map row_of (insert_entry nat_cmp es k v) ≡ placed (map row_of es) record { key = k; values = v })
    → map row_of (match_ordering (cond less Less (cond same Equal Greater)) ((k, v) ∷ e ∷ es) ((e.0, v) ∷ es) (e ∷ insert_entry nat_cmp es k v))
    ≡ cond less (record { key = k; values = v } ∷ (row_of e ∷ map row_of es)) (row_of e ∷ placed (map row_of es) record { key = k; values = v })
placed_one e es k v true same absent rest = refl
placed_one e es k v false true absent rest = absurd (cc absent)
placed_one e es k v false false absent rest = ap (λ rows. row_of e ∷ rows) (rest absent)

-- an entry with a new key is a row at its place
pub rows-insert_entry : (es : List Entry) (k : ℕ) (v : List ℤ) → lookup (is_at (nat_cmp k)) es ≡ None
    → map row_of (insert_entry nat_cmp es k v) ≡ placed (map row_of es) record { key = k; values = v }
rows-insert_entry [] k v absent = refl
rows-insert_entry (e ∷ es) k v absent = placed_one e es k v (nat_lt k e.0) (k == e.0) absent (rows-insert_entry es k v)

-- no entry is found
pub none_found : {X : Type 0} (o : Option X) → is_some o ≡ false → o ≡ None
none_found None e = refl
none_found (Some x) e = absurd (cc e)

abbrev pub IsWide : ℕ → Entry → Type 0
IsWide width entry = length entry.1 ≡ width

wide_one : (width : ℕ) (e : Entry) (es more : List Entry) (k : ℕ) (v : List ℤ) (o : Ordering) → length v ≡ width → All (IsWide width) (e ∷ es) → All (IsWide width) more
    → All (IsWide width) (match_ordering o ((k, v) ∷ e ∷ es) ((e.0, v) ∷ es) (e ∷ more))
wide_one width e es more k v Less full wide rest = All-cons (IsWide width) (k, v) (e ∷ es) full wide
wide_one width e es more k v Equal full wide rest = All-cons (IsWide width) (e.0, v) es full (All-tail (IsWide width) e es wide)
wide_one width e es more k v Greater full wide rest = All-cons (IsWide width) e more (All-head (IsWide width) e es wide) rest

-- an entry of the width leaves all of them so
pub wide-insert_entry : (width : ℕ) (es : List Entry) (k : ℕ) (v : List ℤ) → length v ≡ width → All (IsWide width) es → All (IsWide width) (insert_entry nat_cmp es k v)
wide-insert_entry width [] k v full wide = All-cons (IsWide width) (k, v) [] full (All-nil (IsWide width))
wide-insert_entry width (e ∷ es) k v full wide =
    wide_one width e es (insert_entry nat_cmp es k v) k v (nat_cmp k e.0) full wide (wide-insert_entry width es k v full (All-tail (IsWide width) e es wide))

-- one entry more was built
pub rows_more : (rows : List Row) (s t : List Entry) (k : ℕ) (v : List ℤ) (whole : List Row) → s ≡ (k, v) ∷ t → rows ++ map row_of s ≡ whole
    → (rows ++ record { key = k; values = v } ∷ []) ++ map row_of t ≡ whole
rows_more rows s t k v whole split so_far =
    append_assoc rows (record { key = k; values = v } ∷ []) (map row_of t) ∙ (ap (λ es. rows ++ map row_of es) (sym split) ∙ so_far)

-- ---- rising keys

below : (n m : ℕ) → nat_lt n m ≡ true → n < m
below n m e = grind (arith, nat_tests)

beyond : (n m : ℕ) → nat_lt n m ≡ false → (n == m) ≡ false → m < n
beyond n m less same = grind (arith, nat_tests)

rising_one : (last k : ℕ) (e : Entry) (es more : List Entry) (v : List ℤ) (less same : Bool) → nat_lt k e.0 ≡ less → (k == e.0) ≡ same
    → cond (is_eq (cond less Less (cond same Equal Greater))) (Some e.1) (lookup (is_at (nat_cmp k)) es) ≡ None → last < k → KeysRise last (map row_of (e ∷ es))
    → (e.0 < k → lookup (is_at (nat_cmp k)) es ≡ None → KeysRise e.0 (map row_of more))
    → KeysRise last (map row_of (match_ordering (cond less Less (cond same Equal Greater)) ((k, v) ∷ e ∷ es) ((e.0, v) ∷ es) (e ∷ more)))
rising_one last k e es more v true same is_less is_same absent above rising behind = (above, (below k e.0 is_less, rising.1))
rising_one last k e es more v false true is_less is_same absent above rising behind = absurd (cc absent)
rising_one last k e es more v false false is_less is_same absent above rising behind = (rising.0, behind (beyond k e.0 is_less is_same) absent)

-- an entry with a new key leaves the keys rising
pub rising-insert_entry : (last : ℕ) (es : List Entry) (k : ℕ) (v : List ℤ) → lookup (is_at (nat_cmp k)) es ≡ None → last < k → KeysRise last (map row_of es)
    → KeysRise last (map row_of (insert_entry nat_cmp es k v))
rising-insert_entry last [] k v absent above rising = (above, tt)
rising-insert_entry last (e ∷ es) k v absent above rising =
    rising_one last k e es (insert_entry nat_cmp es k v) v (nat_lt k e.0) (k == e.0) refl refl absent above rising
    (λ less none. rising-insert_entry e.0 es k v none less rising.1)
