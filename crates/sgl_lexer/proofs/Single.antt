-- A text is cut into tokens in one way.
use Rattle.std.proofs.Common.{◌≡◌, ℕ, ◌-◌, ◌<◌, ◌≤◌, Bool, true, List, [], ◌∷◌, length, take, drop, refl, sym, ◌∙◌, ap, subst, arith, ⊎_elim}
use Rattle.std.proofs.str.Laws.{order}
use Rattle.std.proofs.lemmas.List.{length-drop, length-take}
use Rattle.std.specs.Prelude.{slice_index}
use Rattle.std.specs.Char.{is_ascii_digit}
use Rattle.sgl_values.specs.declared.place.Place.{Place}
use Rattle.sgl_lexer.specs.declared.lexeme.Token.{Token}
use Rattle.sgl_lexer.specs.declared.lexeme.TokenKind.{TokenKind}
use Rattle.sgl_lexer.specs.declared.lexeme.TokenKind.TheVariants as kinds
use Rattle.sgl_lexer.specs.declared.fault.LexFault.{LexFault}
use Rattle.sgl_lexer.specs.declared.fault.LexFault.TheVariants.{BadByte, LongName, LongNumber, Memory}
use Rattle.sgl_lexer.specs.Kinds.{begins_name, IsOfKind, IsLongest, IsNameText, IsNumberText}
use Rattle.sgl_lexer.specs.Lexing.{behind_gap, place_at, Fits, IsFaulty, Ending, Whole, Faulty, Ends, Stands, LexesFrom, mark_len}
use Rattle.sgl_lexer.specs.Uniqueness.{HasOneLexing}
use Rattle.sgl_lexer.proofs.WordTable.{one_word, word_begins, word_no_digit}
use Rattle.sgl_lexer.proofs.SignTable.{one_sign, sign_begins, sign_no_digit}
use Rattle.sgl_lexer.proofs.Lexemes.{contrary, digit_begins_no_name, kind_nonempty}

abbrev first_begins : List ℕ → Bool
first_begins l = begins_name (slice_index l 0)

abbrev first_digit : List ℕ → Bool
first_digit l = is_ascii_digit (slice_index l 0)

-- what the first byte says: a name, a number, or neither
name_first : (bytes : List ℕ) → IsNameText bytes → first_begins bytes ≡ true
name_first bytes h = h.1

digit_first : (bytes : List ℕ) → IsNumberText bytes → first_digit bytes ≡ true
digit_first bytes h = h.1 0 0 h.0

name_or_number : {A : Type 0} (bytes : List ℕ) → first_begins bytes ≡ true → first_digit bytes ≡ true → A
name_or_number bytes b d = contrary b (digit_begins_no_name (slice_index bytes 0) d)

-- a slice has one kind
pub one_kind : (bytes : List ℕ) (k j : TokenKind) → IsOfKind bytes k → IsOfKind bytes j → k ≡ j
one_kind bytes (kinds.Word w) (kinds.Word v) e f = ap kinds.Word (one_word bytes w v e f)
one_kind bytes (kinds.Word w) kinds.Name e f = absurd (f.1 w e)
one_kind bytes (kinds.Word w) (kinds.Number n) e f = contrary (digit_first bytes f.0) (ap first_digit e ∙ word_no_digit w)
one_kind bytes (kinds.Word w) (kinds.Sign s) e f = contrary (ap first_begins e ∙ word_begins w) (ap first_begins f ∙ sign_begins s)
one_kind bytes kinds.Name (kinds.Word v) e f = absurd (e.1 v f)
one_kind bytes kinds.Name kinds.Name e f = refl
one_kind bytes kinds.Name (kinds.Number n) e f = name_or_number bytes e.0.1 (digit_first bytes f.0)
one_kind bytes kinds.Name (kinds.Sign s) e f = contrary e.0.1 (ap first_begins f ∙ sign_begins s)
one_kind bytes (kinds.Number n) (kinds.Word v) e f = contrary (digit_first bytes e.0) (ap first_digit f ∙ word_no_digit v)
one_kind bytes (kinds.Number n) kinds.Name e f = name_or_number bytes f.0.1 (digit_first bytes e.0)
one_kind bytes (kinds.Number n) (kinds.Number m) e f = ap kinds.Number (e.1 ∙ sym f.1)
one_kind bytes (kinds.Number n) (kinds.Sign s) e f = contrary (digit_first bytes e.0) (ap first_digit f ∙ sign_no_digit s)
one_kind bytes (kinds.Sign s) (kinds.Word v) e f = contrary (ap first_begins f ∙ word_begins v) (ap first_begins e ∙ sign_begins s)
one_kind bytes (kinds.Sign s) kinds.Name e f = contrary f.0.1 (ap first_begins e ∙ sign_begins s)
one_kind bytes (kinds.Sign s) (kinds.Number n) e f = contrary (digit_first bytes f.0) (ap first_digit e ∙ sign_no_digit s)
one_kind bytes (kinds.Sign s) (kinds.Sign r) e f = ap kinds.Sign (one_sign bytes s r e f)

module _ {text : List ℕ} {k j : TokenKind} {n m : ℕ} (a : IsLongest k n text) (b : IsLongest j m text) where
  pub one_length : n ≡ m
  one_length =
      ⊎_elim
      (λ l. absurd (a.longest m j l b.within b.token))
      (λ ge. ⊎_elim (λ l. absurd (b.longest n k l a.within a.token)) (λ le. omega arith) (order m n))
      (order n m)

  pub one_longest : k ≡ j
  one_longest = one_kind (take n text) k j a.token (subst (λ l. IsOfKind (take l text) j) (sym one_length) b.token)

some_token : {text : List ℕ} {k : TokenKind} {n : ℕ} → IsLongest k n text → 0 < length text
some_token {text} {k} {n} a = omega (arith, kind_nonempty (take n text) k a.token, length-take n text)

-- one token stands behind a gap
pub one_token : {text : List ℕ} {from : ℕ} {t u : Token} → Stands text from t → Stands text from u → t ≡ u
one_token {text} {from} {t} {u} a b =
    let starts : t.start ≡ u.start = a.starts ∙ sym b.starts in
    let other = subst (λ n. IsLongest u.kind (u.end - u.start) (drop n text)) (sym starts) b.longest in
    let kind = one_longest a.longest other in
    let lens = one_length a.longest other in
    let ends : t.end ≡ u.end = omega (arith, a.ends, b.ends) in
    let places : t.place ≡ u.place = a.place ∙ ap (place_at text) starts ∙ sym b.place in
    λ i. record { kind = kind i; start = starts i; end = ends i; place = places i }

fits_word : (k : TokenKind) (n : ℕ) (bytes : List ℕ) → IsOfKind bytes k → IsNameText bytes → Fits k n → n ≤ 31
fits_word (kinds.Word w) m bytes e h f = f
fits_word (kinds.Name) m bytes e h f = f
fits_word (kinds.Number n) m bytes e h f = name_or_number bytes h.1 (digit_first bytes e.0)
fits_word (kinds.Sign s) m bytes e h f = contrary h.1 (ap first_begins e ∙ sign_begins s)

fits_number : (k : TokenKind) (n : ℕ) (bytes : List ℕ) → IsOfKind bytes k → IsNumberText bytes → Fits k n → n ≤ 19
fits_number (kinds.Word w) m bytes e h f = contrary (digit_first bytes h) (ap first_digit e ∙ word_no_digit w)
fits_number (kinds.Name) m bytes e h f = name_or_number bytes e.0.1 (digit_first bytes h)
fits_number (kinds.Number n) m bytes e h f = f
fits_number (kinds.Sign s) m bytes e h f = contrary (digit_first bytes h) (ap first_digit e ∙ sign_no_digit s)

-- a token that fits is no fault
no_fault : (text : List ℕ) (p : Place) {k : TokenKind} {n : ℕ} (fault : LexFault) → IsLongest k n text → Fits k n → IsFaulty text p fault → ⊥
no_fault text p {k} {n} (BadByte q) a f h = h.2 n k a.within a.token
no_fault text p {k} {n} (LongName q) a f h =
    let len = one_length a h.3 in
    let name = subst (λ l. IsNameText (take l text)) (sym len) h.4 in
    let small = fits_word k n (take n text) a.token name f in omega (arith, h.5, len)
no_fault text p {k} {n} (LongNumber q) a f h =
    let len = one_length a h.3 in
    let digits = subst (λ l. IsNumberText (take l text)) (sym len) h.4 in
    let small = fits_number k n (take n text) a.token digits f in omega (arith, h.5, len)
no_fault text p Memory a f h = h

-- a text that is over has no fault
no_fault_at_end : (text : List ℕ) (p : Place) (fault : LexFault) → length text ≡ 0 → IsFaulty text p fault → ⊥
no_fault_at_end text p (BadByte q) e h = omega (arith, h.1)
no_fault_at_end text p (LongName q) e h = omega (arith, some_token h.3)
no_fault_at_end text p (LongNumber q) e h = omega (arith, some_token h.3)
no_fault_at_end text p Memory e h = h

one_fault : (text : List ℕ) (p : Place) (f g : LexFault) → IsFaulty text p f → IsFaulty text p g → f ≡ g
one_fault text p (BadByte q) (BadByte r) h i = ap BadByte (h.0 ∙ sym i.0)
one_fault text p (BadByte q) (LongName r) h i = absurd (h.2 i.1 i.2 i.3.within i.3.token)
one_fault text p (BadByte q) (LongNumber r) h i = absurd (h.2 i.1 i.2 i.3.within i.3.token)
one_fault text p (LongName q) (BadByte r) h i = absurd (i.2 h.1 h.2 h.3.within h.3.token)
one_fault text p (LongName q) (LongName r) h i = ap LongName (h.0 ∙ sym i.0)
one_fault text p (LongName q) (LongNumber r) h i = name_or_number (take h.1 text) h.4.1 (digit_first (take h.1 text) (subst (λ l. IsNumberText (take l text)) (sym (one_length h.3 i.3)) i.4))
one_fault text p (LongNumber q) (BadByte r) h i = absurd (i.2 h.1 h.2 h.3.within h.3.token)
one_fault text p (LongNumber q) (LongName r) h i = name_or_number (take i.1 text) i.4.1 (digit_first (take i.1 text) (subst (λ l. IsNumberText (take l text)) (one_length h.3 i.3) h.4))
one_fault text p (LongNumber q) (LongNumber r) h i = ap LongNumber (h.0 ∙ sym i.0)
one_fault text p Memory g h i = absurd h
one_fault text p f Memory h i = absurd i

module _ (text : List ℕ) where
  over : (from : ℕ) → behind_gap text from ≡ length text → length (drop (behind_gap text from) text) ≡ 0
  over from e = omega (arith, length-drop (behind_gap text from) text)

  one_end : (from : ℕ) (e f : Ending) → Ends text from e → Ends text from f → e ≡ f
  one_end from (Whole p) (Whole q) h i = ap Whole (h.1 ∙ sym i.1)
  one_end from (Whole p) (Faulty f) h i = absurd (no_fault_at_end (drop (behind_gap text from) text) (place_at text (behind_gap text from)) f (over from h.0) i)
  one_end from (Faulty f) (Whole p) h i = absurd (no_fault_at_end (drop (behind_gap text from) text) (place_at text (behind_gap text from)) f (over from i.0) h)
  one_end from (Faulty f) (Faulty g) h i = ap Faulty (one_fault (drop (behind_gap text from) text) (place_at text (behind_gap text from)) f g h i)

  ends_here : (from : ℕ) {t : Token} (e : Ending) → Ends text from e → Stands text from t → ⊥
  ends_here from {t} (Whole p) h s = omega (arith, some_token (subst (λ n. IsLongest t.kind (t.end - t.start) (drop n text)) s.starts s.longest), over from h.0)
  ends_here from {t} (Faulty f) h s = no_fault (drop (behind_gap text from) text) (place_at text (behind_gap text from)) f (subst (λ n. IsLongest t.kind (t.end - t.start) (drop n text)) s.starts s.longest) s.fits h

  pub one_lexing_from : (from : ℕ) (ts us : List Token) (e f : Ending) → LexesFrom text from ts e → LexesFrom text from us f → (ts ≡ us) × (e ≡ f)
  one_lexing_from from [] [] e f h i = (refl, one_end from e f h i)
  one_lexing_from from [] (u ∷ us) e f h i = absurd (ends_here from e h i.0)
  one_lexing_from from (t ∷ ts) [] e f h i = absurd (ends_here from f i h.0)
  one_lexing_from from (t ∷ ts) (u ∷ us) e f h i =
      let same = one_token h.0 i.0 in
      let rest = one_lexing_from t.end ts us e f h.1 (subst (λ (w : Token). LexesFrom text w.end us f) (sym same) i.1) in
      (λ k. same k ∷ rest.0 k, rest.1)

-- a text has one list of tokens and one ending
pub one_lexing : HasOneLexing
one_lexing text ts us e f h i = one_lexing_from text (mark_len text) ts us e f h i
