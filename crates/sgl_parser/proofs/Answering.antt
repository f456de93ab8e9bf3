-- What is told of tokens: one answer, and the one that reading finds.
use Rattle.std.proofs.Common.{◌≡◌, ◌≢◌, ◌⊎◌, inl, inr, ⊎_elim, ℕ, suc, ◌+◌, ◌-◌, ◌<◌, ◌≤◌, List, [], ◌∷◌, ◌++◌, Some, Ok, Err, length, take, drop, sym, refl, ap, subst, ◌∙◌, arith, append_assoc, append-nil, length-append, add-one}
use Rattle.std.proofs.lemmas.List.{take-append-drop, length-take-le, nil_from_length}
use Rattle.std.specs.List.{slice_get}
use Rattle.std.proofs.Math.Seq.{take-append-add, take-append_seam}
use Rattle.sgl_tree.specs.declared.item.Script.{Script}
use Rattle.sgl_lexer.specs.declared.lexeme.Token.{Token}
use Rattle.sgl_lexer.specs.declared.lexeme.Tokens.{Tokens}
use Rattle.sgl_lexer.specs.declared.lexeme.TokenKind.{TokenKind}
use Rattle.sgl_lexer.specs.Lexing.{Ending, LexesFrom, Lexes, mark_len}
use Rattle.sgl_lexer.specs.Slices.{AreSlicesOf}
use Rattle.sgl_lexer.proofs.Within.{token_within}
use Rattle.sgl_parser.specs.declared.parser.ParseFault.{ParseFault}
use Rattle.sgl_parser.specs.declared.parser.ParseFault.TheVariants as faults
use Rattle.sgl_parser.specs.Breaks.{Breaks, Many, AtEnd}
use Rattle.sgl_parser.specs.ItemShape.{ItemShape, HasScriptShape}
use Rattle.sgl_parser.specs.Nesting.{IsShallow, IsFirstDeep}
use Rattle.sgl_parser.specs.Readings.{ShapesAreSpelled, HasOneAnswer, BeginsScript, LivesTo, IsLeastDead, IsUnfinished, place_of, IsSyntaxFault, IsTooDeep, HasFault}
use Rattle.sgl_parser.specs.Scripts.{IsScript}
use Rattle.sgl_parser.specs.Shape.{kinds_of}
use Rattle.sgl_parser.proofs.Shaping.{items_shape}
use Rattle.sgl_parser.proofs.Single.{one_script}
use Rattle.sgl_parser.proofs.Spelled.{spelt_items}

-- ---- scripts and shapes

pub shape_of_script : {text : List ℕ} {tokens : Tokens} {script : Script} → IsScript text tokens script → HasScriptShape (kinds_of tokens.list)
shape_of_script q = items_shape q.items

script_of_shape : (text : List ℕ) (tokens : Tokens) → HasScriptShape (kinds_of tokens.list) → (script : Script) × IsScript text tokens script
script_of_shape text tokens q =
    let x = spelt_items text tokens.list q in
    let script : Script = record { items = x.0; end = tokens.end } in
    (script, record { items = x.1; end = refl })

pub shapes_spelled : ShapesAreSpelled
shapes_spelled = record { shape = λ text tokens script q. shape_of_script q; spelled = script_of_shape }

-- ---- fronts that begin a script

-- what begins a script begins it with each front
pub begins_before : (ks : List TokenKind) (m : ℕ) → BeginsScript ks → BeginsScript (take m ks)
begins_before ks m b = (drop m ks ++ b.0, subst HasScriptShape (ap (λ l. l ++ b.0) (sym (take-append-drop m ks)) ∙ append_assoc (take m ks) (drop m ks) b.0) b.1)

-- a front of a front
front_of : {A : Type 0} (ks : List A) (n m : ℕ) → m ≤ n → take m (take n ks) ≡ take m ks
front_of ks n ℕ.zero h = refl
front_of ks ℕ.zero (ℕ.suc m) h = absurd (omega arith)
front_of [] (ℕ.suc n) (ℕ.suc m) h = refl
front_of (k ∷ ks) (ℕ.suc n) (ℕ.suc m) h = ap (λ l. k ∷ l) (front_of ks n m (omega arith))

pub lives_before : (ks : List TokenKind) (n : ℕ) → BeginsScript (take n ks) → LivesTo ks n
lives_before ks n b m h = subst BeginsScript (front_of ks n (suc m) (omega arith)) (begins_before (take n ks) (suc m) b)

-- a script begins with each front of it
begins_whole : (ks : List TokenKind) (n : ℕ) → HasScriptShape ks → BeginsScript (take n ks)
begins_whole ks n q = begins_before ks n ([], subst HasScriptShape (sym (append-nil ks)) q)

-- ---- one answer

either_way : (n m : ℕ) → (n < m) ⊎ ((n ≡ m) ⊎ (m < n))
either_way ℕ.zero ℕ.zero = inr (inl refl)
either_way ℕ.zero (ℕ.suc m) = inl (omega arith)
either_way (ℕ.suc n) ℕ.zero = inr (inr (omega arith))
either_way (ℕ.suc n) (ℕ.suc m) = ⊎_elim (λ h. inl (omega arith)) (λ o. ⊎_elim (λ e. inr (inl (ap suc e))) (λ h. inr (inr (omega arith))) o) (either_way n m)

least_twice : (ks : List TokenKind) (n m : ℕ) → IsLeastDead ks n → IsLeastDead ks m → n ≡ m
least_twice ks n m d e = ⊎_elim (λ h. absurd (d.dead (e.before n h))) (λ o. ⊎_elim (λ i. i) (λ h. absurd (e.dead (d.before m h))) o) (either_way n m)

least_unfinished : (ks : List TokenKind) (n m : ℕ) → IsLeastDead ks n → IsUnfinished ks m → ⊥
least_unfinished ks n m d u = d.dead (u.before n (omega (arith, d.within, u.all)))

same_syntax : (ks : List TokenKind) (n m : ℕ) → IsSyntaxFault ks n → IsSyntaxFault ks m → n ≡ m
same_syntax ks n m f g =
    ⊎_elim
    (λ d. ⊎_elim (λ e. least_twice ks n m d e) (λ u. absurd (least_unfinished ks n m d u)) g.fault)
    (λ u. ⊎_elim (λ e. absurd (least_unfinished ks m n e u)) (λ v. u.all ∙ sym v.all) g.fault)
    f.fault

same_deep : (ks : List TokenKind) (n m : ℕ) → IsFirstDeep ks n → IsFirstDeep ks m → n ≡ m
same_deep ks n m f g = ⊎_elim (λ h. absurd (omega (arith, f.1, g.2 n h))) (λ o. ⊎_elim (λ i. i) (λ h. absurd (omega (arith, g.1, f.2 m h))) o) (either_way n m)

never_both : (ks : List TokenKind) (n m : ℕ) → IsSyntaxFault ks n → IsTooDeep ks m → ⊥
never_both ks n m f g =
    let early : n < m → ⊥ = λ h. ⊎_elim (λ d. d.dead (g.before n h)) (λ u. absurd (omega (arith, u.all, g.deep.0))) f.fault in
    let late : m ≤ n → ⊥ = λ h. absurd (omega (arith, f.shallow m h g.deep.0, g.deep.1)) in
    ⊎_elim early (λ o. ⊎_elim (λ e. late (omega arith)) (λ h. late (omega arith)) o) (either_way n m)

no_syntax : (ks : List TokenKind) (n : ℕ) → HasScriptShape ks → IsSyntaxFault ks n → ⊥
no_syntax ks n q f = ⊎_elim (λ d. d.dead (begins_whole ks (suc n) q)) (λ u. u.none q) f.fault

no_fault : (text : List ℕ) (tokens : Tokens) (script : Script) (fault : ParseFault) → IsScript text tokens script → IsShallow (kinds_of tokens.list) → HasFault tokens fault → fault ≢ faults.Memory → ⊥
no_fault text tokens script (faults.Syntax n place) q s f h = no_syntax (kinds_of tokens.list) n (shape_of_script q) f.0
no_fault text tokens script (faults.TooDeep place) q s f h = absurd (omega (arith, s f.0 f.1.deep.0, f.1.deep.1))
no_fault text tokens script faults.Memory q s f h = h refl

one_fault : (tokens : Tokens) (f g : ParseFault) → HasFault tokens f → HasFault tokens g → f ≢ faults.Memory → g ≢ faults.Memory → f ≡ g
one_fault tokens (faults.Syntax n p) (faults.Syntax m q) a b h i =
    let e = same_syntax (kinds_of tokens.list) n m a.0 b.0 in
    let place : p ≡ q = a.1 ∙ ap (place_of tokens) e ∙ sym b.1 in
    λ i. faults.Syntax (e i) (place i)
one_fault tokens (faults.Syntax n p) (faults.TooDeep q) a b h i = absurd (never_both (kinds_of tokens.list) n b.0 a.0 b.1)
one_fault tokens (faults.TooDeep p) (faults.Syntax m q) a b h i = absurd (never_both (kinds_of tokens.list) m a.0 b.0 a.1)
one_fault tokens (faults.TooDeep p) (faults.TooDeep q) a b h i =
    let e = same_deep (kinds_of tokens.list) a.0 b.0 a.1.deep b.1.deep in
    ap faults.TooDeep (a.2 ∙ ap (place_of tokens) e ∙ sym b.2)
one_fault tokens faults.Memory g a b h i = absurd (h refl)
one_fault tokens f faults.Memory a b h i = absurd (i refl)

pub answers_once : HasOneAnswer
answers_once text tokens (Ok s) (Ok r) p q = ap Ok (one_script text tokens s r p.0 q.0)
answers_once text tokens (Ok s) (Err g) p q = absurd (no_fault text tokens s g p.0 p.1 q.0 q.1)
answers_once text tokens (Err f) (Ok r) p q = absurd (no_fault text tokens r f q.0 q.1 p.0 p.1)
answers_once text tokens (Err f) (Err g) p q = ap Err (one_fault tokens f g p.0 q.0 p.1 q.1)

-- ---- the answer that reading finds

-- kinds that cease to begin items, at the end of the front that begins some
ceases : (front behind : List TokenKind) → BeginsScript front → ((k : TokenKind) (zs rest : List TokenKind) → behind ≡ k ∷ rest → HasScriptShape (front ++ (k ∷ zs)) → ⊥) → (behind ≡ [] → HasScriptShape (front ++ []) → ⊥) → IsLeastDead (front ++ behind) (length front) ⊎ IsUnfinished (front ++ behind) (length front)
ceases front [] b dead none = inr record {
  all = omega (arith, length-append front []);
  before = lives_before (front ++ []) (length front) (subst BeginsScript (sym (take-append_seam front [])) b);
  none = λ q. none refl q;
}
ceases front (k ∷ rest) b dead none =
    let upto : take (suc (length front)) (front ++ (k ∷ rest)) ≡ front ++ (k ∷ []) = subst (λ n. take n (front ++ (k ∷ rest)) ≡ front ++ (k ∷ [])) (add-one (length front)) (take-append-add front (k ∷ rest) 1) in
    inl record {
      within = omega (arith, length-append front (k ∷ rest));
      dead = λ c. dead k c.0 rest refl (subst HasScriptShape (append_assoc front (k ∷ []) c.0) (subst (λ l. HasScriptShape (l ++ c.0)) upto c.1));
      before = lives_before (front ++ (k ∷ rest)) (length front) (subst BeginsScript (sym (take-append_seam front (k ∷ rest))) b);
    }

module _ {ks : List TokenKind} {left : ℕ} (f : Breaks (Many ItemShape) AtEnd ks left) where
  begins_front : BeginsScript f.front
  begins_front = (f.alive.0 ++ [], f.alive.1 [])

  length_of_front : length f.front + left ≡ length ks
  length_of_front = omega (arith, ap length f.split, length-append f.front f.behind, f.length)

  dead_at : (k : TokenKind) (zs rest : List TokenKind) → f.behind ≡ k ∷ rest → HasScriptShape (f.front ++ (k ∷ zs)) → ⊥
  dead_at k zs rest e q = f.dead (k ∷ zs) [] (rw e refl) q tt

  none_at : f.behind ≡ [] → HasScriptShape (f.front ++ []) → ⊥
  none_at e q = f.dead [] [] (rw e tt) q tt

  pub ceases_at : (n : ℕ) → n ≡ length ks - left → IsLeastDead ks n ⊎ IsUnfinished ks n
  ceases_at n e =
      let here : length f.front ≡ n = omega (arith, length_of_front) in
      subst (λ m. IsLeastDead ks m ⊎ IsUnfinished ks m) here
      (subst (λ l. IsLeastDead l (length f.front) ⊎ IsUnfinished l (length f.front)) (sym f.split) (ceases f.front f.behind begins_front dead_at none_at))

  pub left_within : left ≤ length ks
  left_within = omega (arith, length_of_front)

-- a fault of tokens none of which is too deep
pub shallow_fault : (ks : List TokenKind) (left n : ℕ) → IsShallow ks → Breaks (Many ItemShape) AtEnd ks left → n ≡ length ks - left → IsSyntaxFault ks n
shallow_fault ks left n s f e = record { fault = ceases_at f n e; shallow = λ m h i. s m i }

module _ (ks : List TokenKind) (d : ℕ) (deep : IsFirstDeep ks d) where
  front_length : length (take d ks) ≡ d
  front_length = length-take-le d ks (omega (arith, deep.0))

  -- a fault before the first token that is too deep
  pub fault_before : (left n : ℕ) → Breaks (Many ItemShape) AtEnd (take d ks) left → 0 < left → n ≡ d - left → IsSyntaxFault ks n
  fault_before left n f some e =
      let within = left_within f in
      let early : n < d = omega (arith, front_length, within, e, some) in
      let moved : BeginsScript (take (suc n) ks) → BeginsScript (take (suc n) (take d ks)) = λ b. subst BeginsScript (sym (front_of ks d (suc n) (omega arith))) b in
      record {
        fault = ⊎_elim
            (λ l. inl record {
              within = omega (arith, deep.0);
              dead = λ b. l.dead (moved b);
              before = λ m h. subst BeginsScript (front_of ks d (suc m) (omega arith)) (l.before m h);
            })
            (λ u. absurd (omega (arith, u.all, front_length, early)))
            (ceases_at f n (omega (arith, front_length, e)));
        shallow = λ m h i. deep.2 m (omega arith);
      }

  -- no fault before it: the tokens before it begin a script
  pub deep_behind : Breaks (Many ItemShape) AtEnd (take d ks) 0 → IsTooDeep ks d
  deep_behind f =
      let front : f.front ≡ take d ks = sym (append-nil f.front) ∙ ap (λ l. f.front ++ l) (sym (nil_from_length f.behind f.length)) ∙ sym f.split in
      record { deep = deep; before = lives_before ks d (subst BeginsScript front (begins_front f)) }

  -- or are one
  pub deep_behind_whole : HasScriptShape (take d ks) → IsTooDeep ks d
  deep_behind_whole q = record { deep = deep; before = lives_before ks d ([], subst HasScriptShape (sym (append-nil (take d ks))) q) }

-- ---- tokens and their numbers

pub kinds_of_front : (ts : List Token) (n : ℕ) → kinds_of (take n ts) ≡ take n (kinds_of ts)
kinds_of_front ts ℕ.zero = refl
kinds_of_front [] (ℕ.suc n) = refl
kinds_of_front (t ∷ ts) (ℕ.suc n) = ap (λ l. t.kind ∷ l) (kinds_of_front ts n)

pub front_slices : (text : List ℕ) (ts : List Token) (n : ℕ) → AreSlicesOf text ts → AreSlicesOf text (take n ts)
front_slices text ts ℕ.zero h = tt
front_slices text [] (ℕ.suc n) h = tt
front_slices text (t ∷ ts) (ℕ.suc n) h = (h.0, front_slices text ts n h.1)

few_from : (text : List ℕ) (from : ℕ) (ts : List Token) (ending : Ending) (n : ℕ) (last : Token) → LexesFrom text from ts ending → length ts ≡ suc n → slice_get ts n ≡ Some last → from + length ts ≤ last.end
few_from text from [] ending n last h e is = absurd (omega arith)
few_from text from (t ∷ []) ending ℕ.zero last h e is =
    let same : t ≡ last = cc in
    omega (arith, (token_within h.0).starts, h.0.starts, ap (λ (x : Token). x.end) same)
few_from text from (t ∷ []) ending (ℕ.suc n) last h e is = absurd (omega arith)
few_from text from (t ∷ u ∷ us) ending ℕ.zero last h e is = absurd (omega arith)
few_from text from (t ∷ u ∷ us) ending (ℕ.suc n) last h e is = omega (arith, (token_within h.0).starts, h.0.starts, few_from text t.end (u ∷ us) ending n last h.1 (omega arith) is)

some_item : (ts : List Token) (n : ℕ) (last : Token) → slice_get ts n ≡ Some last → 0 < length ts
some_item [] ℕ.zero last e = absurd (cc)
some_item [] (ℕ.suc n) last e = absurd (cc)
some_item (t ∷ ts) n last e = omega arith

-- tokens are not more than the bytes up to the end of the last
pub few : (text : List ℕ) (ts : List Token) (ending : Ending) (last : Token) → Lexes text ts ending → slice_get ts (length ts - 1) ≡ Some last → length ts ≤ last.end
few text ts ending last h is = let some = some_item ts (length ts - 1) last is in omega (arith, few_from text (mark_len text) ts ending (length ts - 1) last h (omega arith) is)

-- ---- what stopped reading the tokens before one

pub broken_front : (ts : List Token) (d left : ℕ) → Breaks (Many ItemShape) AtEnd (kinds_of (take d ts)) left → Breaks (Many ItemShape) AtEnd (take d (kinds_of ts)) left
broken_front ts d left f = subst (λ l. Breaks (Many ItemShape) AtEnd l left) (kinds_of_front ts d) f

pub left_before : (ks : List TokenKind) (d left : ℕ) → IsFirstDeep ks d → Breaks (Many ItemShape) AtEnd (take d ks) left → left ≤ d
left_before ks d left deep f = omega (arith, left_within f, front_length ks d deep)
