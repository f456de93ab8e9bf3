-- What is written out of a script that is well-formed is well-formed.
use Rattle.std.proofs.Common.{◌≡◌, ℕ, ◌+◌, ◌==◌, ◌<◌, ◌≤◌, Decides, Bool, true, false, List, [], ◌∷◌, ◌++◌, map, length, drop, slice_get, Option, Some, None, refl, ap, sym, ◌∙◌, subst, arith}
use Rattle.std.specs.List.{list_all}
use Rattle.std.specs.Prelude.{◌&&◌, nat_lt, nat_le, if◌then◌else◌}
use Rattle.std.proofs.lemmas.Bool.{and_parts, false≢true, eqb-true, eq-eqb, ne_eqb, leb-true, ltb-true, le-leb, lt-ltb}
use Rattle.std.proofs.lemmas.Bool.Decides.{Decides-eqb}
use Rattle.std.proofs.lemmas.List.Folds.{list_all-append}
use Rattle.sgl_values.specs.declared.place.Place.{Place}
use Rattle.sgl_typed.specs.declared.script.Kind.{Kind}
use Rattle.sgl_typed.specs.declared.script.Kind.TheVariants.{Numeric, Logical}
use Rattle.sgl_typed.specs.declared.script.TExpr.{TExpr}
use Rattle.sgl_typed.specs.declared.script.TStmt.{TStmt, Row_of-TStmt, end_of-TStmt, more_of-TStmt}
use Rattle.sgl_typed.specs.declared.script.TStmt.TheVariants.{Let, If', Act, Call}
use Rattle.sgl_typed.specs.WellFormed.{Body, Callees, slot_kind, slots_with, is_formed, is_number, is_truth, fit, kind_of, body_behind, statement_fits, block_fits, statements_fit, slots_set, slots_of_all}
use Rattle.sgl_typed.proofs.Equations.{fits-If}
use Rattle.sgl_expand.specs.declared.numbers.Numbered.{Numbered}
use Rattle.sgl_expand.specs.Written.{number_from, number_of, renumbered, lets, argument_lets, first_place, Writer, written_call, known_behind, written, written_block, written_all}
use Rattle.sgl_expand.proofs.Counted.{and-assoc, numbers, zero-behind, length-map, lets-arguments, Sized, counted, arguments-counted}
use Rattle.sgl_typed.proofs.Scope.{both_true, number_formed, truth_formed, fit_numbers}
use Rattle.sgl_expand.proofs.KeptKinds.{kind-of-formed, SameBut, Below, Matches, same-kind, same-kinds-all}

and-true : (x : Bool) → (x && true) ≡ x
and-true true = refl
and-true false = refl

-- ---- the body behind statements

abbrev pub bodies_behind : List TStmt → Body → Body
bodies_behind [] b = b
bodies_behind (s ∷ rest) b = bodies_behind rest (body_behind s b)

fits-join : (callees : Callees) (xs ys : List TStmt) (b : Body) → statements_fit callees (xs ++ ys) b ≡ (statements_fit callees xs b && statements_fit callees ys (bodies_behind xs b))
fits-join callees [] ys b = refl
fits-join callees (x ∷ xs) ys b =
    ap (λ rest. statement_fits callees x b && rest) (fits-join callees xs ys (body_behind x b))
    ∙ sym (and-assoc (statement_fits callees x b) (statements_fit callees xs (body_behind x b)) (statements_fit callees ys (bodies_behind xs (body_behind x b))))

behind-join : (xs ys : List TStmt) (b : Body) → bodies_behind (xs ++ ys) b ≡ bodies_behind ys (bodies_behind xs b)
behind-join [] ys b = refl
behind-join (x ∷ xs) ys b = behind-join xs ys (body_behind x b)

same-behind : (base b : Body) (s : TStmt) → SameBut base b → SameBut base (body_behind s b)
same-behind base b (Let slot e place) h = record { consts = h.consts; effects = h.effects; target = h.target; aggs = h.aggs }
same-behind base b (If' cond place shape taken shape' other) h = h
same-behind base b (Act action args place) h = h
same-behind base b (Call routine args places) h = h

same-all-behind : (base b : Body) (ss : List TStmt) → SameBut base b → SameBut base (bodies_behind ss b)
same-all-behind base b [] h = h
same-all-behind base b (s ∷ rest) h = same-all-behind base (body_behind s b) rest (same-behind base b s h)

-- ---- slots of statements whose lets have numbers of a range

pub above-numbers : (n next many : ℕ) → n ≤ next → list_all (nat_le n) (numbers next many) ≡ true
above-numbers n next ℕ.zero le = refl
above-numbers n next (ℕ.suc many) le = both_true (nat_le n next) _ (le-leb n next le) (above-numbers n (next + 1) many (omega arith))

pub below-numbers : (end next many : ℕ) → next + many ≤ end → list_all (λ slot. nat_lt slot end) (numbers next many) ≡ true
below-numbers end next ℕ.zero le = refl
below-numbers end next (ℕ.suc many) le = both_true (nat_lt next end) _ (lt-ltb next end (omega arith)) (below-numbers end (next + 1) many (omega arith))

other-kind : (slot other : ℕ) (k : Option Kind) (slots : List (ℕ × Kind)) → slot < other → slot_kind slot (slots_with other k slots) ≡ slot_kind slot slots
other-kind slot other None slots lt = refl
other-kind slot other (Some kind) slots lt = ap (λ is. if is then Some kind else slot_kind slot slots) (ne_eqb slot other (λ e. differ slot other lt e))
  where
    differ : (a b : ℕ) → a < b → a ≡ b → ⊥
    differ a b lt e = omega arith

-- statements that set only slots from a number on keep the kinds of those before
kept : (ss : List TStmt) (n slot : ℕ) (b : Body) → list_all (nat_le n) (slots_of_all ss) ≡ true → slot < n → slot_kind slot (bodies_behind ss b).slots ≡ slot_kind slot b.slots
kept [] n slot b h lt = refl
kept (Let other e place ∷ rest) n slot b h lt =
    let parts : (nat_le n other ≡ true) × (list_all (nat_le n) (slots_of_all rest) ≡ true) = and_parts _ _ h in
    let le : n ≤ other = leb-true n other parts.0 in
    kept rest n slot (body_behind (Let other e place) b) parts.1 lt ∙ other-kind slot other (kind_of b e) b.slots (omega arith)
kept (If' cond place shape taken shape' other ∷ rest) n slot b h lt =
    kept rest n slot b (and_parts _ _ (sym (list_all-append (nat_le n) (slots_set (If' cond place shape taken shape' other)) (slots_of_all rest)) ∙ h)).1 lt
kept (Act action args place ∷ rest) n slot b h lt = kept rest n slot b h lt
kept (Call routine args places ∷ rest) n slot b h lt = kept rest n slot b h lt

below-with : (end slot : ℕ) (k : Option Kind) (slots : List (ℕ × Kind)) → slot < end → Below end slots → Below end (slots_with slot k slots)
below-with end slot None slots lt below = below
below-with end slot (Some kind) slots lt below = λ other kind' is. step other kind' (other == slot) (Decides-eqb other slot) is
  where
    step : (other : ℕ) (kind' : Kind) (t : Bool) → Decides t (other ≡ slot) → (if t then Some kind else slot_kind other slots) ≡ Some kind' → other < end
    step other kind' true d is = let e = d.0 refl in subst (λ n. n < end) (sym e) lt
    step other kind' false d is = below other kind' is

bounded : (ss : List TStmt) (end : ℕ) (b : Body) → list_all (λ slot. nat_lt slot end) (slots_of_all ss) ≡ true → Below end b.slots → Below end (bodies_behind ss b).slots
bounded [] end b h below = below
bounded (Let slot e place ∷ rest) end b h below =
    let parts : (nat_lt slot end ≡ true) × (list_all (λ slot. nat_lt slot end) (slots_of_all rest) ≡ true) = and_parts _ _ h in
    bounded rest end (body_behind (Let slot e place) b) parts.1 (below-with end slot (kind_of b e) b.slots (ltb-true slot end parts.0) below)
bounded (If' cond place shape taken shape' other ∷ rest) end b h below =
    bounded rest end b (and_parts _ _ (sym (list_all-append (λ slot. nat_lt slot end) (slots_set (If' cond place shape taken shape' other)) (slots_of_all rest)) ∙ h)).1 below
bounded (Act action args place ∷ rest) end b h below = bounded rest end b h below
bounded (Call routine args places ∷ rest) end b h below = bounded rest end b h below

higher : (next end : ℕ) (slots : List (ℕ × Kind)) → next ≤ end → Below next slots → Below end slots
higher next end slots le below slot kind is = let lt = below slot kind is in omega arith

-- numbered statements only add numbers from the next one on
abbrev IsNumbered : List TStmt → ℕ → Type 0
IsNumbered ss next = slots_of_all ss ≡ numbers next (lets ss)

numbered-kept : (ss : List TStmt) (next slot : ℕ) (b : Body) → IsNumbered ss next → slot < next → slot_kind slot (bodies_behind ss b).slots ≡ slot_kind slot b.slots
numbered-kept ss next slot b is lt = kept ss next slot b (ap (list_all (nat_le next)) is ∙ above-numbers next next (lets ss) (omega arith)) lt

numbered-below : (ss : List TStmt) (next : ℕ) (b : Body) → IsNumbered ss next → Below next b.slots → Below (next + lets ss) (bodies_behind ss b).slots
numbered-below ss next b is below =
    bounded ss (next + lets ss) b (ap (list_all (λ slot. nat_lt slot (next + lets ss))) is ∙ below-numbers (next + lets ss) next (lets ss) (omega arith))
    (higher next (next + lets ss) b.slots (omega arith) below)

-- what matches still does, behind statements that are numbered from the next number on
grown : (base : Body) (known : List Numbered) (b b' : Body) (next : ℕ) (ss : List TStmt) → IsNumbered ss next → Matches base known b b' next → Matches base known b (bodies_behind ss b') (next + lets ss)
grown base known b b' next ss is m = record {
  old = m.old;
  new = same-all-behind base b' ss m.new;
  slots = λ slot kind found. numbered-kept ss next (number_of known slot) b' is (m.below (number_of known slot) kind (m.slots slot kind found)) ∙ m.slots slot kind found;
  below = numbered-below ss next b' is m.below;
}

later : (base : Body) (known : List Numbered) (b b' : Body) (next end : ℕ) → next ≤ end → Matches base known b b' next → Matches base known b b' end
later base known b b' next end le m = record { old = m.old; new = m.new; slots = m.slots; below = higher next end b'.slots le m.below }

-- ---- lets

pub number-join : (d : ℕ) (xs ys : List Numbered) (slot : ℕ) → number_from d (xs ++ ys) slot ≡ number_from (number_from d xs slot) ys slot
number-join d [] ys slot = refl
number-join d (x ∷ xs) ys slot = number-join (if x.slot == slot then x.number else d) xs ys slot

let-matches : (base : Body) (known : List Numbered) (b b' : Body) (next slot : ℕ) (kind : Kind) → Matches base known b b' next
    → Matches base (known ++ record { slot = slot; number = next } ∷ []) (record b { slots = (slot, kind) ∷ b.slots }) (record b' { slots = (next, kind) ∷ b'.slots }) (next + 1)
let-matches base known b b' next slot kind m = record {
  old = record { consts = m.old.consts; effects = m.old.effects; target = m.old.target; aggs = m.old.aggs };
  new = record { consts = m.new.consts; effects = m.new.effects; target = m.new.target; aggs = m.new.aggs };
  slots = λ other kind' found.
      subst (λ number. slot_kind number ((next, kind) ∷ b'.slots) ≡ Some kind') (sym (number-join 0 known (record { slot = slot; number = next } ∷ []) other))
      (step other kind' (other == slot) (Decides-eqb other slot) found);
  below = below-with (next + 1) next (Some kind) b'.slots (omega arith) (higher next (next + 1) b'.slots (omega arith) m.below);
}
  where
    new-kind : slot_kind next ((next, kind) ∷ b'.slots) ≡ Some kind
    new-kind = ap (λ is. if is then Some kind else slot_kind next b'.slots) (eq-eqb next next refl)

    step : (other : ℕ) (kind' : Kind) (t : Bool) → Decides t (other ≡ slot) → (if t then Some kind else slot_kind other b.slots) ≡ Some kind'
        → slot_kind (if slot == other then next else number_of known other) ((next, kind) ∷ b'.slots) ≡ Some kind'
    step other kind' true d found =
        ap (λ is. slot_kind (if is then next else number_of known other) ((next, kind) ∷ b'.slots)) (eq-eqb slot other (sym (d.0 refl))) ∙ new-kind ∙ found
    step other kind' false d found =
        ap (λ is. slot_kind (if is then next else number_of known other) ((next, kind) ∷ b'.slots)) (ne_eqb slot other (λ e. false≢true (d.1 (sym e))))
        ∙ other-kind (number_of known other) next (Some kind) b'.slots (m.below (number_of known other) kind' (m.slots other kind' found))
        ∙ m.slots other kind' found

-- ---- arguments

-- what written-out statements may call
abbrev pub made_by : List ℕ → Callees
made_by actions = record { actions = actions; routines = [] }

number-kind : (k : Option Kind) → is_number k ≡ true → k ≡ Some Numeric
number-kind None h = absurd (false≢true h)
number-kind (Some Numeric) h = refl
number-kind (Some Logical) h = absurd (false≢true h)

-- the body behind the `let` of an argument
let-grown : (base : Body) (known : List Numbered) (b b' : Body) (next : ℕ) (e : TExpr) (place : Place) → Matches base known b b' next → Matches base known b (body_behind (Let next e place) b') (next + 1)
let-grown base known b b' next e place m = grown base known b b' next (Let next e place ∷ []) refl m

arguments-fit : (actions : List ℕ) (base : Body) (known : List Numbered) (b b' : Body) (next : ℕ) → Matches base known b b' next → (places : List Place) (es : List TExpr)
    → list_all is_number (map (kind_of b) es) ≡ true → statements_fit (made_by actions) (argument_lets places next (map (renumbered known) es)) b' ≡ true
arguments-fit actions base known b b' next m places [] h = refl
arguments-fit actions base known b b' next m places (e ∷ es) h =
    let parts : (is_number (kind_of b e) ≡ true) × (list_all is_number (map (kind_of b) es) ≡ true) = and_parts _ _ h in
    let formed = number_formed (kind_of b e) parts.0 in
    both_true (is_formed (kind_of b' (renumbered known e))) _
    (ap is_formed (same-kind base known b b' next m e formed) ∙ formed)
    (arguments-fit actions base known b (body_behind (Let next (renumbered known e) (first_place places)) b') (next + 1)
    (let-grown base known b b' next (renumbered known e) (first_place places) m) (drop 1 places) es parts.1)

arguments-are-numbers : (base : Body) (known : List Numbered) (b b' : Body) (next : ℕ) → Matches base known b b' next → (places : List Place) (es : List TExpr)
    → list_all is_number (map (kind_of b) es) ≡ true → (i : ℕ) → i < length es
    → slot_kind (next + i) (bodies_behind (argument_lets places next (map (renumbered known) es)) b').slots ≡ Some Numeric
arguments-are-numbers base known b b' next m places [] h i lt = absurd (omega arith)
arguments-are-numbers base known b b' next m places (e ∷ es) h ℕ.zero lt =
    let parts : (is_number (kind_of b e) ≡ true) × (list_all is_number (map (kind_of b) es) ≡ true) = and_parts _ _ h in
    let e' = renumbered known e in
    let rest = argument_lets (drop 1 places) (next + 1) (map (renumbered known) es) in
    let behind = body_behind (Let next e' (first_place places)) b' in
    let kind : kind_of b' e' ≡ Some Numeric = same-kind base known b b' next m e (number_formed (kind_of b e) parts.0) ∙ number-kind (kind_of b e) parts.0 in
    ap (λ n. slot_kind n (bodies_behind rest behind).slots) (zero-behind next)
    ∙ numbered-kept rest (next + 1) next behind (arguments-counted (drop 1 places) (next + 1) (map (renumbered known) es)).numbered (omega arith)
    ∙ ap (λ k. slot_kind next (slots_with next k b'.slots)) kind
    ∙ ap (λ is. if is then Some Numeric else slot_kind next b'.slots) (eq-eqb next next refl)
arguments-are-numbers base known b b' next m places (e ∷ es) h (ℕ.suc i) lt =
    let parts : (is_number (kind_of b e) ≡ true) × (list_all is_number (map (kind_of b) es) ≡ true) = and_parts _ _ h in
    let e' = renumbered known e in
    let rest = argument_lets (drop 1 places) (next + 1) (map (renumbered known) es) in
    let behind = body_behind (Let next e' (first_place places)) b' in
    let number : next + ℕ.suc i ≡ (next + 1) + i = omega arith in
    ap (λ n. slot_kind n (bodies_behind rest behind).slots) number
    ∙ arguments-are-numbers base known b behind (next + 1) (let-grown base known b b' next e' (first_place places) m) (drop 1 places) es parts.1 i (omega arith)

-- ---- calls

-- as many numbers as there are parameters
pub record FitsParams (params : Option ℕ) (kinds : List (Option Kind)) : Type 0 where
  pub many : ℕ
  pub is : params ≡ Some many
  pub same : many ≡ length kinds

pub fit-params : (params : Option ℕ) (kinds : List (Option Kind)) → fit params kinds ≡ true → FitsParams params kinds
fit-params None kinds h = absurd (false≢true h)
fit-params (Some many) kinds h = record { many = many; is = refl; same = eqb-true many (length kinds) (and_parts _ _ h).0 }

-- the body of a routine fits where it is called with as many numbers as it has parameters
abbrev pub WriterFits : List ℕ → Body → Writer → ℕ → Type 0
WriterFits actions base w params = (known : List Numbered) (first next : ℕ) (b' : Body) → SameBut base b' → Below next b'.slots
    → ((i : ℕ) → i < params → slot_kind (first + i) b'.slots ≡ Some Numeric)
    → statements_fit (made_by actions) (w known first next) b' ≡ true

abbrev pub AllFit : List ℕ → Body → List Writer → List ℕ → Type 0
AllFit actions base [] [] = Unit {0}
AllFit actions base [] (n ∷ ns) = ⊥
AllFit actions base (w ∷ ws) [] = ⊥
AllFit actions base (w ∷ ws) (n ∷ ns) = WriterFits actions base w n × AllFit actions base ws ns

writer-fits : (actions : List ℕ) (base : Body) (ws : List Writer) (ns : List ℕ) → AllFit actions base ws ns → (routine many : ℕ) → slice_get ns routine ≡ Some many
    → (known : List Numbered) (first next : ℕ) (b' : Body) → SameBut base b' → Below next b'.slots → ((i : ℕ) → i < many → slot_kind (first + i) b'.slots ≡ Some Numeric)
    → statements_fit (made_by actions) (written_call (slice_get ws routine) known first next) b' ≡ true
writer-fits actions base [] [] all routine many is known first next b' same below numbers = refl
writer-fits actions base [] (n ∷ ns) all routine many is known first next b' same below numbers = absurd all
writer-fits actions base (w ∷ ws) [] all routine many is known first next b' same below numbers = absurd all
writer-fits actions base (w ∷ ws) (n ∷ ns) all ℕ.zero many is known first next b' same below numbers =
    let e : n ≡ many = cc in all.0 known first next b' same below (λ i lt. numbers i (subst (λ n. i < n) e lt))
writer-fits actions base (w ∷ ws) (n ∷ ns) all (ℕ.suc routine) many is known first next b' same below numbers =
    writer-fits actions base ws ns all.1 routine many is known first next b' same below numbers

pub fit-more : (actions : List ℕ) (base : Body) (ws : List Writer) (ns : List ℕ) (w : Writer) (n : ℕ) → AllFit actions base ws ns → WriterFits actions base w n → AllFit actions base (ws ++ w ∷ []) (ns ++ n ∷ [])
fit-more actions base [] [] w n all one = (one, tt)
fit-more actions base [] (m ∷ ns) w n all one = absurd all
fit-more actions base (v ∷ ws) [] w n all one = absurd all
fit-more actions base (v ∷ ws) (m ∷ ns) w n all one = (all.0, fit-more actions base ws ns w n all.1 one)

-- ---- statements

-- writers that fit, whose sizes are known
pub record Setting (actions : List ℕ) (base : Body) (ws : List Writer) (counts sizes depths : List ℕ) : Type 0 where
  pub fit : AllFit actions base ws counts
  pub size : Sized ws sizes depths

call-fits : (actions : List ℕ) (base : Body) (ws : List Writer) (counts sizes depths : List ℕ) → Setting actions base ws counts sizes depths
    → (routine : ℕ) (args : List TExpr) (places : List Place) (known : List Numbered) (b b' : Body) (next : ℕ) → Matches base known b b' next
    → fit (slice_get counts routine) (map (kind_of b) args) ≡ true → statements_fit (made_by actions) (written ws (Call routine args places) known next) b' ≡ true
call-fits actions base ws counts sizes depths all routine args places known b b' next m h =
    let numbers = fit_numbers (slice_get counts routine) (map (kind_of b) args) h in
    let params = fit-params (slice_get counts routine) (map (kind_of b) args) h in
    let args' = map (renumbered known) args in
    let front = argument_lets places next args' in
    let many : lets front ≡ length args = lets-arguments places next args' ∙ length-map (renumbered known) args in
    let g = grown base known b b' next front (arguments-counted places next args').numbered m in
    fits-join (made_by actions) front (written_call (slice_get ws routine) known next (next + length args)) b'
    ∙ both_true _ _ (arguments-fit actions base known b b' next m places args numbers)
    (writer-fits actions base ws counts all.fit routine params.many params.is known next (next + length args) (bodies_behind front b') g.new
    (subst (λ n. Below (next + n) (bodies_behind front b').slots) many g.below)
    (λ i lt. arguments-are-numbers base known b b' next m places args numbers i (subst (λ n. i < n) (params.same ∙ length-map (kind_of b) args) lt)))

behind-matches : (actions : List ℕ) (base : Body) (ws : List Writer) (counts sizes depths : List ℕ) → Setting actions base ws counts sizes depths
    → (s : TStmt) (known : List Numbered) (b b' : Body) (next : ℕ) → Matches base known b b' next → statement_fits (record { actions = actions; routines = counts }) s b ≡ true
    → Matches base (known_behind s known next) (body_behind s b) (bodies_behind (written ws s known next) b') (next + lets (written ws s known next))
behind-matches actions base ws counts sizes depths all (Let slot e place) known b b' next m h =
    let found = kind-of-formed (kind_of b e) h in
    let new : kind_of b' (renumbered known e) ≡ Some found.0 = same-kind base known b b' next m e h ∙ found.1 in
    subst (λ k. Matches base (known ++ record { slot = slot; number = next } ∷ []) (record b { slots = slots_with slot k b.slots }) (record b' { slots = slots_with next (kind_of b' (renumbered known e)) b'.slots }) (next + 1)) (sym found.1)
    (subst (λ k. Matches base (known ++ record { slot = slot; number = next } ∷ []) (record b { slots = (slot, found.0) ∷ b.slots }) (record b' { slots = slots_with next k b'.slots }) (next + 1)) (sym new)
    (let-matches base known b b' next slot found.0 m))
behind-matches actions base ws counts sizes depths all (If' cond place shape taken shape' other) known b b' next m h =
    grown base known b b' next (written ws (If' cond place shape taken shape' other) known next) (counted ws sizes depths all.size (If' cond place shape taken shape' other) known next).numbered m
behind-matches actions base ws counts sizes depths all (Act action args place) known b b' next m h =
    grown base known b b' next (written ws (Act action args place) known next) (counted ws sizes depths all.size (Act action args place) known next).numbered m
behind-matches actions base ws counts sizes depths all (Call routine args places) known b b' next m h =
    grown base known b b' next (written ws (Call routine args places) known next) (counted ws sizes depths all.size (Call routine args places) known next).numbered m

-- where a statement fits as it is written out, and what stands behind it fits behind it, both fit one after the other
joined-fit : (actions : List ℕ) (base : Body) (ws : List Writer) (counts sizes depths : List ℕ) → Setting actions base ws counts sizes depths
    → (s : TStmt) (known : List Numbered) (b b' : Body) (next : ℕ) → Matches base known b b' next → statement_fits (record { actions = actions; routines = counts }) s b ≡ true
    → (more : List TStmt) → statements_fit (made_by actions) (written ws s known next) b' ≡ true
    → ((b'' : Body) → Matches base (known_behind s known next) (body_behind s b) b'' (next + lets (written ws s known next)) → statements_fit (made_by actions) more b'' ≡ true)
    → statements_fit (made_by actions) (written ws s known next ++ more) b' ≡ true
joined-fit actions base ws counts sizes depths all s known b b' next m h more first-fits more-fits =
    fits-join (made_by actions) (written ws s known next) more b'
    ∙ both_true _ _ first-fits (more-fits _ (behind-matches actions base ws counts sizes depths all s known b b' next m h))

mutual
  statement-written : (actions : List ℕ) (base : Body) (ws : List Writer) (counts sizes depths : List ℕ) → Setting actions base ws counts sizes depths
      → (s : TStmt) (known : List Numbered) (b b' : Body) (next : ℕ) → Matches base known b b' next → statement_fits (record { actions = actions; routines = counts }) s b ≡ true
      → statements_fit (made_by actions) (written ws s known next) b' ≡ true
  statement-written actions base ws counts sizes depths all (Let slot e place) known b b' next m h =
      both_true (is_formed (kind_of b' (renumbered known e))) true (ap is_formed (same-kind base known b b' next m e h) ∙ h) refl
  statement-written actions base ws counts sizes depths all (If' cond place shape taken shape' other) known b b' next m h =
      let two : (is_truth (kind_of b cond) && block_fits (record { actions = actions; routines = counts }) taken b ≡ true) × (block_fits (record { actions = actions; routines = counts }) other b ≡ true) = and_parts _ _ h in
      let one : (is_truth (kind_of b cond) ≡ true) × (block_fits (record { actions = actions; routines = counts }) taken b ≡ true) = and_parts _ _ two.0 in
      let first = written_block ws taken known next in
      let second = written_block ws other known (next + lets first) in
      let more : next ≤ next + lets first = omega arith in
      and-true _
      ∙ fits-If (made_by actions) b' (renumbered known cond) place first second
      ∙ (λ i. (ap is_truth (same-kind base known b b' next m cond (truth_formed (kind_of b cond) one.0)) ∙ one.0) i
      && block-written actions base ws counts sizes depths all taken known b b' next m one.1 i
      && block-written actions base ws counts sizes depths all other known b b' (next + lets first) (later base known b b' next (next + lets first) more m) two.1 i)
  statement-written actions base ws counts sizes depths all (Act action args place) known b b' next m h =
      both_true _ true (ap (fit (slice_get actions action)) (same-kinds-all base known b b' next m args (fit_numbers (slice_get actions action) (map (kind_of b) args) h)) ∙ h) refl
  statement-written actions base ws counts sizes depths all (Call routine args places) known b b' next m h =
      call-fits actions base ws counts sizes depths all routine args places known b b' next m (and_parts _ _ h).0

  block-written : {m' : _} → (actions : List ℕ) (base : Body) (ws : List Writer) (counts sizes depths : List ℕ) → Setting actions base ws counts sizes depths
      → (row : Row_of-TStmt m') (known : List Numbered) (b b' : Body) (next : ℕ) → Matches base known b b' next → block_fits (record { actions = actions; routines = counts }) row b ≡ true
      → statements_fit (made_by actions) (written_block ws row known next) b' ≡ true
  block-written actions base ws counts sizes depths all end_of-TStmt known b b' next m h = refl
  block-written actions base ws counts sizes depths all (more_of-TStmt s rest) known b b' next m h =
      let parts : (statement_fits (record { actions = actions; routines = counts }) s b ≡ true) × (block_fits (record { actions = actions; routines = counts }) rest (body_behind s b) ≡ true) = and_parts _ _ h in
      joined-fit actions base ws counts sizes depths all s known b b' next m parts.0 _ (statement-written actions base ws counts sizes depths all s known b b' next m parts.0)
      (λ b'' behind. block-written actions base ws counts sizes depths all rest (known_behind s known next) (body_behind s b) b'' _ behind parts.1)

pub all-written : (actions : List ℕ) (base : Body) (ws : List Writer) (counts sizes depths : List ℕ) → Setting actions base ws counts sizes depths
    → (ss : List TStmt) (known : List Numbered) (b b' : Body) (next : ℕ) → Matches base known b b' next → statements_fit (record { actions = actions; routines = counts }) ss b ≡ true
    → statements_fit (made_by actions) (written_all ws ss known next) b' ≡ true
all-written actions base ws counts sizes depths all [] known b b' next m h = refl
all-written actions base ws counts sizes depths all (s ∷ rest) known b b' next m h =
    let parts : (statement_fits (record { actions = actions; routines = counts }) s b ≡ true) × (statements_fit (record { actions = actions; routines = counts }) rest (body_behind s b) ≡ true) = and_parts _ _ h in
    joined-fit actions base ws counts sizes depths all s known b b' next m parts.0 _ (statement-written actions base ws counts sizes depths all s known b b' next m parts.0)
    (λ b'' behind. all-written actions base ws counts sizes depths all rest (known_behind s known next) (body_behind s b) b'' _ behind parts.1)
