-- What the first byte of a token says of its kind.
use Rattle.std.proofs.Common.{◌≡◌, ℕ, ◌<◌, ◌≤◌, Bool, true, false, List, [], ◌∷◌, length, get_or, take, sym, ◌∙◌, ap, subst, arith, IsTrue, length-take-le, get_or-take}
use Rattle.std.specs.Prelude.{◌||◌, slice_index, All}
use Rattle.std.specs.List.{prefix_len}
use Rattle.std.specs.Char.{is_ascii_digit}
use Rattle.std.proofs.lemmas.List.Sums.{prefix_len_passes, prefix_len_stops, prefix_len-le-length, AllPass-from_list_all}
use Rattle.std.proofs.lemmas.Bool.Decides.{nat_tests}
use Rattle.sgl_lexer.specs.declared.vocabulary.Word.{Word}
use Rattle.sgl_lexer.specs.declared.vocabulary.Sign.{Sign}
use Rattle.sgl_lexer.specs.declared.lexeme.TokenKind.{TokenKind}
use Rattle.sgl_lexer.specs.declared.lexeme.TokenKind.TheVariants as kinds
use Rattle.sgl_lexer.specs.Kinds.{word_text, sign_text, begins_name, continues_name, IsNameText, IsNumberText, IsOfKind, IsLongest, IsNoToken, Begins}
use Rattle.sgl_lexer.proofs.WordTable.{word_begins, word_continues, word_nonempty, word_no_digit}
use Rattle.sgl_lexer.proofs.SignTable.{sign_nonempty, sign_begins, sign_no_digit}

pub contrary : {A : Type 0} {b : Bool} → b ≡ true → b ≡ false → A
contrary t f = absurd (let e : true ≡ false = sym t ∙ f in cc)

pub digit_begins_no_name : (b : ℕ) → is_ascii_digit b ≡ true → begins_name b ≡ false
digit_begins_no_name b h = grind (arith, nat_tests)

begins_continues : (b : ℕ) → begins_name b ≡ true → continues_name b ≡ true
begins_continues b h = ap (λ x. x || is_ascii_digit b) h

word_is_name : (w : Word) → IsNameText (word_text w)
word_is_name w = (word_nonempty w, word_begins w, AllPass-from_list_all continues_name (word_text w) (word_continues w))

-- a token that begins as a name has the text of one
pub name_kind : (bytes : List ℕ) (k : TokenKind) → IsOfKind bytes k → begins_name (slice_index bytes 0) ≡ true → IsNameText bytes
name_kind bytes (kinds.Word w) e b = subst IsNameText (sym e) (word_is_name w)
name_kind bytes kinds.Name e b = e.0
name_kind bytes (kinds.Number n) e b = contrary b (digit_begins_no_name (slice_index bytes 0) (e.0.1 0 0 e.0.0))
name_kind bytes (kinds.Sign s) e b = contrary b (ap (λ l. begins_name (slice_index l 0)) e ∙ sign_begins s)

-- a token that begins with a digit has the text of a number
pub number_kind : (bytes : List ℕ) (k : TokenKind) → IsOfKind bytes k → is_ascii_digit (slice_index bytes 0) ≡ true → IsNumberText bytes
number_kind bytes (kinds.Word w) e d = contrary d (ap (λ l. is_ascii_digit (slice_index l 0)) e ∙ word_no_digit w)
number_kind bytes kinds.Name e d = contrary e.0.1 (digit_begins_no_name (slice_index bytes 0) d)
number_kind bytes (kinds.Number n) e d = e.0
number_kind bytes (kinds.Sign s) e d = contrary d (ap (λ l. is_ascii_digit (slice_index l 0)) e ∙ sign_no_digit s)

-- any other token is a sign
pub sign_kind : (bytes : List ℕ) (k : TokenKind) → IsOfKind bytes k → begins_name (slice_index bytes 0) ≡ false → is_ascii_digit (slice_index bytes 0) ≡ false → (s : Sign) × (bytes ≡ sign_text s)
sign_kind bytes (kinds.Word w) e b d = contrary (ap (λ l. begins_name (slice_index l 0)) e ∙ word_begins w) b
sign_kind bytes kinds.Name e b d = contrary e.0.1 b
sign_kind bytes (kinds.Number n) e b d = contrary (e.0.1 0 0 e.0.0) d
sign_kind bytes (kinds.Sign s) e b d = (s, e)

-- a token has a byte
pub kind_nonempty : (bytes : List ℕ) (k : TokenKind) → IsOfKind bytes k → 0 < length bytes
kind_nonempty bytes (kinds.Word w) e = rw e (word_nonempty w)
kind_nonempty bytes kinds.Name e = e.0.0
kind_nonempty bytes (kinds.Number n) e = e.0.0
kind_nonempty bytes (kinds.Sign s) e = rw e (omega (arith, sign_nonempty s))

module _ (test : ℕ → Bool) (text : List ℕ) where
  -- each byte of the run passes
  pub run_passes : All (λ b. IsTrue (test b)) (take (prefix_len test text) text)
  run_passes k d lt =
      let inside : k < prefix_len test text = omega (arith, length-take-le (prefix_len test text) text (prefix_len-le-length test text)) in
      ap test (get_or-take (prefix_len test text) text k d inside) ∙ prefix_len_passes test text k d inside

  -- no longer front passes
  pub run_is_longest : (more : ℕ) → prefix_len test text < more → more ≤ length text → All (λ b. IsTrue (test b)) (take more text) → ⊥
  run_is_longest more longer within passes =
      contrary
      (sym (ap test (get_or-take more text (prefix_len test text) 0 longer)) ∙ passes (prefix_len test text) 0 (omega (arith, length-take-le more text within)))
      (prefix_len_stops test text 0 (omega arith))

  -- so it is the longest token, where each token at the front has only bytes that pass
  pub longest_run : (k : TokenKind) → ((more : ℕ) (other : TokenKind) → 0 < more → IsOfKind (take more text) other → All (λ b. IsTrue (test b)) (take more text)) → IsOfKind (take (prefix_len test text) text) k → IsLongest k (prefix_len test text) text
  longest_run k only is = record {
    within = prefix_len-le-length test text;
    token = is;
    longest = λ more other longer within h. run_is_longest more longer within (only more other (omega arith) h);
  }

  -- a run that begins has a byte
  pub run_nonempty : 0 < length text → test (get_or text 0 0) ≡ true → 0 < prefix_len test text
  run_nonempty has first = elim text as (λ t. 0 < length t → test (get_or t 0 0) ≡ true → 0 < prefix_len test t) [ [] ↦ λ h f. absurd (omega arith) | b ∷ bs ↦ λ h f. rw f (omega arith) ] has first

first_of : (text : List ℕ) (n : ℕ) → 0 < n → get_or (take n text) 0 0 ≡ get_or text 0 0
first_of text n h = get_or-take n text 0 0 h

module _ (text : List ℕ) (has : 0 < length text) where
  pub name_text : begins_name (slice_index text 0) ≡ true → IsNameText (take (prefix_len continues_name text) text)
  name_text begins =
      let n = prefix_len continues_name text in
      let some = run_nonempty continues_name text has (begins_continues (slice_index text 0) begins) in
      (omega (arith, length-take-le n text (prefix_len-le-length continues_name text)), ap begins_name (first_of text n some) ∙ begins, run_passes continues_name text)

  pub longest_name : (k : TokenKind) → begins_name (slice_index text 0) ≡ true → IsOfKind (take (prefix_len continues_name text) text) k → IsLongest k (prefix_len continues_name text) text
  longest_name k begins =
      longest_run continues_name text k (λ more other some h. (name_kind (take more text) other h (ap begins_name (first_of text more some) ∙ begins)).2)

  pub number_text : is_ascii_digit (slice_index text 0) ≡ true → IsNumberText (take (prefix_len is_ascii_digit text) text)
  number_text begins =
      let n = prefix_len is_ascii_digit text in
      let some = run_nonempty is_ascii_digit text has begins in
      (omega (arith, length-take-le n text (prefix_len-le-length is_ascii_digit text)), run_passes is_ascii_digit text)

  pub longest_number : (k : TokenKind) → is_ascii_digit (slice_index text 0) ≡ true → IsOfKind (take (prefix_len is_ascii_digit text) text) k → IsLongest k (prefix_len is_ascii_digit text) text
  longest_number k begins =
      longest_run is_ascii_digit text k (λ more other some h. (number_kind (take more text) other h (ap is_ascii_digit (first_of text more some) ∙ begins)).1)

  -- a front that is a sign
  front_sign : (len : ℕ) (s : Sign) → len ≤ length text → take len text ≡ sign_text s → (len ≡ length (sign_text s)) × Begins (sign_text s) text
  front_sign len s within e =
      let same : len ≡ length (sign_text s) = sym (length-take-le len text within) ∙ ap length e in
      (same, (omega arith, ap (λ n. take n text) (sym same) ∙ e))

  pub longest_sign : (s : Sign) → begins_name (slice_index text 0) ≡ false → is_ascii_digit (slice_index text 0) ≡ false → Begins (sign_text s) text → ((t : Sign) → Begins (sign_text t) text → length (sign_text t) ≤ length (sign_text s)) → IsLongest (kinds.Sign s) (length (sign_text s)) text
  longest_sign s no_name no_digit begins most = record {
    within = begins.0;
    token = begins.1;
    longest = λ more other longer within h.
        let first = first_of text more (omega arith) in
        let found = sign_kind (take more text) other h (ap begins_name first ∙ no_name) (ap is_ascii_digit first ∙ no_digit) in
        let front = front_sign more found.0 within found.1 in
        let least = most found.0 front.1 in
        omega (arith, front.0);
  }

  -- a text that begins with no name, no digit and no sign begins with no token
  pub no_token : begins_name (slice_index text 0) ≡ false → is_ascii_digit (slice_index text 0) ≡ false → ((s : Sign) → Begins (sign_text s) text → ⊥) → IsNoToken text
  no_token no_name no_digit none len kind within is =
      let some : 0 < len = omega (arith, kind_nonempty (take len text) kind is, length-take-le len text within) in
      let first = first_of text len some in
      let found = sign_kind (take len text) kind is (ap begins_name first ∙ no_name) (ap is_ascii_digit first ∙ no_digit) in
      none found.0 (front_sign len found.0 within found.1).1
