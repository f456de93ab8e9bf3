-- One step of writing out.
use Rattle.std.proofs.Common.{◌≡◌, ℕ, ◌+◌, ◌<◌, ◌≤◌, List, [], ◌∷◌, ◌++◌, map, length, drop, take, get_or, slice_get, Some, None, refl, ap, sym, ◌∙◌, subst, arith, add-one, drop-cons}
use Rattle.sgl_values.specs.declared.place.Place.{Place}
use Rattle.sgl_typed.specs.declared.script.TExpr.{TExpr}
use Rattle.sgl_typed.specs.declared.script.TStmt.{TStmt}
use Rattle.sgl_typed.specs.declared.script.TStmt.TheVariants.{Let, If, If', Act, Call}
use Rattle.sgl_expand.specs.declared.numbers.Numbered.{Numbered}
use Rattle.sgl_typed.specs.declared.script.TRoutine.{TRoutine}
use Rattle.sgl_typed.specs.WellFormed.{slots_set, slots_of_all}
use Rattle.sgl_typed.proofs.Equations.{slots-If}
use Rattle.sgl_expand.proofs.Equations.{written-If}
use Rattle.sgl_expand.specs.declared.write.Frame.{Frame}
use Rattle.sgl_expand.specs.Steps.{body_of, params_of, IsClosed, left_of_all, known_at_end, Marked, Stand, Goes, Begins}
use Rattle.sgl_expand.specs.Written.{renumbered, lets, argument_lets, first_place, numbered_from, known_behind, written, written_all, written_call, writers_of, Writer}
use Rattle.std.proofs.lemmas.List.{take-append-le, drop-drop}
use Rattle.std.proofs.lemmas.Option.{slice_get_within, get_or_from_slice_get}
use Rattle.std.proofs.Math.Seq.{take-append_seam}
use Rattle.sgl_expand.proofs.Counted.{assoc, join-assoc, length-join, length-map, lets-arguments, lets-join, nil-behind, zero-behind}

-- ---- arguments

drop-at : {A : Type 0} → (xs : List A) (i : ℕ) (x : A) → i < length xs → x ≡ get_or xs i x → drop i xs ≡ x ∷ drop (i + 1) xs
drop-at xs i x lt is = rw (add-one) (drop-cons xs i x lt ∙ ap (λ first. first ∷ drop (ℕ.suc i) xs) (sym is))

pub argument-step : (known : List Numbered) (args : List TExpr) (places : List Place) (i next next' : ℕ) (item value : TExpr) (place : Place) (made made' whole : List TStmt)
    → i < length args → item ≡ get_or args i item → value ≡ renumbered known item → place ≡ first_place (drop i places) → made' ≡ made ++ Let next value place ∷ [] → next' ≡ next + 1
    → made ++ argument_lets (drop i places) next (map (renumbered known) (drop i args)) ≡ whole
    → made' ++ argument_lets (drop (i + 1) places) next' (map (renumbered known) (drop (i + 1) args)) ≡ whole
argument-step known args places i next next' item value place made made' whole lt is value-is place-is made-is next-is before =
    let rest = map (renumbered known) (drop (i + 1) args) in
    (λ k. made-is k ++ argument_lets (sym (drop-drop 1 i places) k) (next-is k) rest)
    ∙ join-assoc made (Let next value place ∷ []) (argument_lets (drop 1 (drop i places)) (next + 1) rest)
    ∙ (λ k. made ++ Let next (value-is k) (place-is k) ∷ argument_lets (drop 1 (drop i places)) (next + 1) rest)
    ∙ (λ k. made ++ argument_lets (drop i places) next (map (renumbered known) (sym (drop-at args i item lt is) k)))
    ∙ before

pub fewer : (args : List TExpr) (i next next' whole : ℕ) (item : TExpr) → i < length args → item ≡ get_or args i item → next' ≡ next + 1 → next + length (drop i args) ≡ whole → next' + length (drop (i + 1) args) ≡ whole
fewer args i next next' whole item lt is next-is before =
    let e = ap length (drop-at args i item lt is) in omega arith

-- ---- statements of a routine

drop-some : {A : Type 0} → (xs : List A) (i : ℕ) (x : A) → slice_get xs i ≡ Some x → drop i xs ≡ x ∷ drop (i + 1) xs
drop-some xs i x is = drop-at xs i x (slice_get_within xs i x is) (sym (get_or_from_slice_get xs i x x is))

drop-none : {A : Type 0} → (xs : List A) (i : ℕ) → slice_get xs i ≡ None → drop i xs ≡ []
drop-none [] ℕ.zero is = refl
drop-none [] (ℕ.suc i) is = refl
drop-none (x ∷ xs) ℕ.zero is = absurd (cc)
drop-none (x ∷ xs) (ℕ.suc i) is = drop-none xs i is

-- what was known stays known
front-behind : (statement : TStmt) (known : List Numbered) (next n : ℕ) → n ≤ length known → take n (known_behind statement known next) ≡ take n known
front-behind (Let slot e place) known next n le = take-append-le n known (record { slot = slot; number = next } ∷ []) le
front-behind (If' cond place shape taken shape' other) known next n le = refl
front-behind (Act action args place) known next n le = refl
front-behind (Call routine args places) known next n le = refl

more-behind : (statement : TStmt) (known : List Numbered) (next : ℕ) → length known ≤ length (known_behind statement known next)
more-behind (Let slot e place) known next = let e = length-join known (record { slot = slot; number = next } ∷ []) in omega arith
more-behind (If' cond place shape taken shape' other) known next = omega arith
more-behind (Act action args place) known next = omega arith
more-behind (Call routine args places) known next = omega arith

le-through : (a b c : ℕ) → a ≤ b → b ≤ c → a ≤ c
le-through a b c p q = omega arith

-- the next number behind two parts
next-behind : (next : ℕ) (xs ys : List TStmt) → next + lets (xs ++ ys) ≡ (next + lets xs) + lets ys
next-behind next xs ys = ap (λ n. next + n) (lets-join xs ys) ∙ assoc next (lets xs) (lets ys)

-- ---- a statement begins

-- one that is no call is written out whole
pub plain-begins : (routines : List TRoutine) (statement : TStmt) (s t : Stand)
    → record {
      made = s.made ++ written (writers_of [] routines) statement s.known s.next;
      known = known_behind statement s.known s.next;
      next = s.next + lets (written (writers_of [] routines) statement s.known s.next);
      calls = s.calls;
    } ≡ t → Begins routines statement s t
plain-begins routines statement s t is =
    subst (λ stand. Begins routines statement s stand) is
    (record {
      what = written (writers_of [] routines) statement s.known s.next;
      made = refl;
      next = refl;
      left = refl;
      ends = refl;
      marked = λ marked. marked;
    })

abbrev called : List TRoutine → ℕ → List TExpr → List Place → Stand → Stand
called routines routine args places s = record {
  made = s.made ++ argument_lets places s.next (map (renumbered s.known) args);
  known = s.known ++ numbered_from s.next (params_of (slice_get routines routine));
  next = s.next + length args;
  calls = record { routine = routine; at = 0; known = length s.known } ∷ s.calls;
}

-- a call begins by its arguments
pub call-begins : (routines : List TRoutine) → IsClosed routines → (routine : ℕ) (args : List TExpr) (places : List Place) (s t : Stand)
    → called routines routine args places s ≡ t → Begins routines (Call routine args places) s t
call-begins routines closed routine args places s t is =
    let front = argument_lets places s.next (map (renumbered s.known) args) in
    let back = written_call (slice_get (writers_of [] routines) routine) s.known s.next (s.next + length args) in
    let params = numbered_from s.next (params_of (slice_get routines routine)) in
    let inner = written_all (writers_of [] routines) (body_of (slice_get routines routine)) (s.known ++ params) (s.next + length args) in
    let many : lets front ≡ length args = lets-arguments places s.next (map (renumbered s.known) args) ∙ length-map (renumbered s.known) args in
    let same : back ≡ inner = closed.same routine s.known s.next (s.next + length args) in
    let before : take (length s.known) (s.known ++ params) ≡ s.known = take-append_seam s.known params in
    let numbers : s.next + lets (front ++ back) ≡ (s.next + length args) + lets inner = next-behind s.next front back ∙ (λ k. (s.next + many k) + lets (same k)) in
    subst (λ stand. Begins routines (Call routine args places) s stand) is
    (record {
      what = front;
      made = refl;
      next = ap (λ n. s.next + n) (sym many);
      left =
          join-assoc front back (left_of_all routines s.calls s.known (s.next + lets (front ++ back)))
          ∙ (λ k. front ++ (same k ++ left_of_all routines s.calls (sym before k) (numbers k)));
      ends = ap (known_at_end s.calls) before;
      marked = λ marked. (longer s.known params, subst (λ known. Marked s.calls known) (sym before) marked);
    })
  where
    longer : (xs ys : List Numbered) → length xs ≤ length (xs ++ ys)
    longer xs ys = let e = length-join xs ys in omega arith

-- ---- steps

pub goes-nowhere : (routines : List TRoutine) (s t : Stand) → s ≡ t → Marked s.calls s.known → Goes routines s t
goes-nowhere routines s t is marked =
    subst (λ stand. Goes routines s stand) is
    (record { what = []; made = sym (nil-behind s.made); next = sym (zero-behind s.next); left = refl; ends = refl; marked = marked })

-- a call of which nothing is left ends
pub goes-out : (routines : List TRoutine) (made : List TStmt) (known : List Numbered) (next : ℕ) (frame : Frame) (outer : List Frame) (s t : Stand)
    → record { made = made; known = known; next = next; calls = frame ∷ outer } ≡ s
    → record { made = made; known = take frame.known known; next = next; calls = outer } ≡ t
    → slice_get (body_of (slice_get routines frame.routine)) frame.at ≡ None → Marked s.calls s.known → Goes routines s t
goes-out routines made known next frame outer s t s-is t-is none marked =
    let over = drop-none (body_of (slice_get routines frame.routine)) frame.at none in
    let m : Marked (frame ∷ outer) known = subst (λ stand. Marked stand.calls stand.known) (sym s-is) marked in
    subst (λ stand. Goes routines stand t) s-is
    (subst (λ stand. Goes routines (record { made = made; known = known; next = next; calls = frame ∷ outer }) stand) t-is
    (record {
      what = [];
      made = sym (nil-behind made);
      next = sym (zero-behind next);
      left =
          (λ k. written_all (writers_of [] routines) (over k) known next ++ left_of_all routines outer (take frame.known known) (next + lets (written_all (writers_of [] routines) (over k) known next)))
          ∙ ap (left_of_all routines outer (take frame.known known)) (zero-behind next);
      ends = refl;
      marked = m.1;
    }))

-- the next statement of a call begins
pub goes-on : (routines : List TRoutine) (statement : TStmt) (made : List TStmt) (known : List Numbered) (next : ℕ) (frame : Frame) (outer : List Frame) (s t : Stand)
    → record { made = made; known = known; next = next; calls = frame ∷ outer } ≡ s
    → slice_get (body_of (slice_get routines frame.routine)) frame.at ≡ Some statement → Marked s.calls s.known
    → Begins routines statement (record { made = made; known = known; next = next; calls = record frame { at = frame.at + 1 } ∷ outer }) t → Goes routines s t
goes-on routines statement made known next frame outer s t s-is some marked b =
    let body = body_of (slice_get routines frame.routine) in
    let writers = writers_of [] routines in
    let here : drop frame.at body ≡ statement ∷ drop (frame.at + 1) body = drop-some body frame.at statement some in
    let m : Marked (frame ∷ outer) known = subst (λ stand. Marked stand.calls stand.known) (sym s-is) marked in
    let first = written writers statement known next in
    let behind = known_behind statement known next in
    let more = written_all writers (drop (frame.at + 1) body) behind (next + lets first) in
    let front : take frame.known behind ≡ take frame.known known = front-behind statement known next frame.known m.0 in
    subst (λ stand. Goes routines stand t) s-is
    (record {
      what = b.what;
      made = b.made;
      next = b.next;
      left =
          (λ k. written_all writers (here k) known next ++ left_of_all routines outer (take frame.known known) (next + lets (written_all writers (here k) known next)))
          ∙ join-assoc first more (left_of_all routines outer (take frame.known known) (next + lets (first ++ more)))
          ∙ (λ k. first ++ (more ++ left_of_all routines outer (sym front k) (next-behind next first more k)))
          ∙ b.left;
      ends = b.ends ∙ ap (known_at_end outer) front;
      marked = b.marked (le-through frame.known (length known) (length behind) m.0 (more-behind statement known next), subst (λ known. Marked outer known) (sym front) m.1);
    })

pub goes-through : (routines : List TRoutine) (s t u : Stand) → Goes routines s t → Goes routines t u → Goes routines s u
goes-through routines s t u g h = record {
  what = g.what ++ h.what;
  made = h.made ∙ ap (λ made. made ++ h.what) g.made ∙ join-assoc s.made g.what h.what;
  next = h.next ∙ ap (λ next. next + lets h.what) g.next ∙ sym (next-behind s.next g.what h.what);
  left = g.left ∙ ap (λ rest. g.what ++ rest) h.left ∙ sym (join-assoc g.what h.what (left_of_all routines u.calls u.known u.next));
  ends = h.ends ∙ g.ends;
  marked = h.marked;
}

-- ---- a statement of a block

-- a statement that is begun, and all its calls, make what the statement is written out to
pub record IsDone (routines : List TRoutine) (statement : TStmt) (s u : Stand) : Type 0 where
  pub made : u.made ≡ s.made ++ written (writers_of [] routines) statement s.known s.next
  pub next : u.next ≡ s.next + lets (written (writers_of [] routines) statement s.known s.next)
  pub known : u.known ≡ known_behind statement s.known s.next

pub done : (routines : List TRoutine) (statement : TStmt) (s t u : Stand) → s.calls ≡ [] → u.calls ≡ [] → Begins routines statement s t → Goes routines t u → IsDone routines statement s u
done routines statement s t u s-over u-over b g =
    let first = written (writers_of [] routines) statement s.known s.next in
    let behind = known_behind statement s.known s.next in
    let whole : first ≡ b.what ++ g.what =
    sym (nil-behind first) ∙ (λ k. first ++ left_of_all routines (sym s-over k) behind (s.next + lets first)) ∙ b.left
    ∙ ap (λ rest. b.what ++ rest) (g.left ∙ (λ k. g.what ++ left_of_all routines (u-over k) u.known u.next) ∙ nil-behind g.what) in
    record {
      made = g.made ∙ ap (λ made. made ++ g.what) b.made ∙ join-assoc s.made b.what g.what ∙ ap (λ what. s.made ++ what) (sym whole);
      next = g.next ∙ ap (λ next. next + lets g.what) b.next ∙ sym (next-behind s.next b.what g.what) ∙ ap (λ what. s.next + lets what) (sym whole);
      known = (λ k. known_at_end (sym u-over k) u.known) ∙ g.ends ∙ b.ends ∙ (λ k. known_at_end (s-over k) behind);
    }

-- so many statements of a block are written out; these are left
pub record Walks (routines : List TRoutine) (all rest : List TStmt) (known : List Numbered) (next : ℕ) (s : Stand) : Type 0 where
  pub makes : s.made ++ written_all (writers_of [] routines) rest s.known s.next ≡ written_all (writers_of [] routines) all known next
  pub counts : s.next ≡ next + lets s.made
  pub keeps : take (length known) s.known ≡ known
  pub knows : length known ≤ length s.known
  pub idle : s.calls ≡ []

pub walked : (routines : List TRoutine) (all : List TStmt) (i : ℕ) (known : List Numbered) (next : ℕ) (statement : TStmt) (s t u : Stand)
    → i < length all → statement ≡ get_or all i statement → Walks routines all (drop i all) known next s
    → Begins routines statement s t → Goes routines t u → u.calls ≡ [] → Walks routines all (drop (i + 1) all) known next u
walked routines all i known next statement s t u lt is w b g over =
    let d = done routines statement s t u w.idle over b g in
    let writers = writers_of [] routines in
    let first = written writers statement s.known s.next in
    let rest = drop (i + 1) all in
    record {
      makes =
          (λ k. d.made k ++ written_all writers rest (d.known k) (d.next k))
          ∙ join-assoc s.made first (written_all writers rest (known_behind statement s.known s.next) (s.next + lets first))
          ∙ (λ k. s.made ++ written_all writers (sym (drop-at all i statement lt is) k) s.known s.next)
          ∙ w.makes;
      counts = d.next ∙ ap (λ n. n + lets first) w.counts ∙ sym (next-behind next s.made first) ∙ ap (λ made. next + lets made) (sym d.made);
      keeps = ap (take (length known)) d.known ∙ front-behind statement s.known s.next (length known) w.knows ∙ w.keeps;
      knows = le-through (length known) (length s.known) (length u.known) w.knows (subst (λ more. length s.known ≤ length more) (sym d.known) (more-behind statement s.known s.next));
      idle = over;
    }

pub all-made : (routines : List TRoutine) (all rest : List TStmt) (known : List Numbered) (next : ℕ) (s : Stand) → rest ≡ [] → Walks routines all rest known next s → s.made ≡ written_all (writers_of [] routines) all known next
all-made routines all rest known next s over w =
    sym (nil-behind s.made) ∙ (λ k. s.made ++ written_all (writers_of [] routines) (sym over k) s.known s.next) ∙ w.makes

-- ---- an `if`

pub lets-If : (cond : TExpr) (place : Place) (taken other : List TStmt) → lets (If cond place taken other ∷ []) ≡ lets taken + lets other
lets-If cond place taken other =
    ap length (nil-behind (slots_set (If cond place taken other)) ∙ slots-If cond place taken other) ∙ length-join (slots_of_all taken) (slots_of_all other)

-- an `if` is written out by its condition and its blocks
pub if-written : (writers : List Writer) (cond : TExpr) (place : Place) (taken other : List TStmt) (known : List Numbered) (next : ℕ) (cond' : TExpr) (taken' other' : List TStmt)
    → cond' ≡ renumbered known cond → taken' ≡ written_all writers taken known next → other' ≡ written_all writers other known (next + lets taken')
    → If cond' place taken' other' ∷ [] ≡ written writers (If cond place taken other) known next
if-written writers cond place taken other known next cond' taken' other' cond-is taken-is other-is =
    (λ k. If (cond-is k) place (taken-is k) ((other-is ∙ ap (λ first. written_all writers other known (next + lets first)) taken-is) k) ∷ [])
    ∙ sym (written-If writers cond place taken other known next)

-- the next number behind an `if`
pub if-next : (next : ℕ) (cond : TExpr) (place : Place) (taken other : List TStmt) → (next + lets taken) + lets other ≡ next + lets (If cond place taken other ∷ [])
if-next next cond place taken other = sym (assoc next (lets taken) (lets other)) ∙ ap (λ n. next + n) (sym (lets-If cond place taken other))
