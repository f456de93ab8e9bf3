-- Where items begin.
use Rattle.std.proofs.Common.{◌≡◌, ℕ, arith, length, List, Result, [], ◌∷◌, ◌∙◌, ap, sym, subst, refl}
use Rattle.sgl_lexer.specs.declared.lexeme.Token.{Token}
use Rattle.sgl_lexer.specs.declared.lexeme.TokenKind.{TokenKind}
use Rattle.sgl_lexer.specs.declared.lexeme.TokenKind.TheVariants as kinds
use Rattle.sgl_lexer.specs.declared.vocabulary.Word.{Word}
use Rattle.sgl_lexer.specs.declared.vocabulary.Word.TheVariants as words
use Rattle.std.specs.Borrow.{Bor}
use Rattle.sgl_parser.specs.Breaks.{Many, NotAt, AtEnd, none, more}
use Rattle.sgl_parser.specs.Follow.{IsNotAt}
use Rattle.sgl_parser.specs.ItemShape.{ItemBody, ItemShape}
use Rattle.sgl_parser.specs.Reads.{Reads}
use Rattle.sgl_parser.specs.Scripts.{SpellsBody, SpellsItem, an_item}
use Rattle.sgl_parser.specs.Shape.{kinds_of}
use Rattle.sgl_parser.specs.declared.reading.Stop.{Stop}
use Rattle.sgl_tree.specs.declared.item.Item.{Item}
use Rattle.sgl_parser.proofs.Blocks.{not_of}
use Rattle.sgl_parser.proofs.Parts.{attribute_finishes, lift_broken, behind_word, pass_word}
use Rattle.std.proofs.lemmas.Result.{MatchResult-weaker}
use Rattle.sgl_parser.proofs.Sequences.{Finishes, Excludes, Follows, word_finishes, narrower_breaks, narrower_passes}
use Rattle.sgl_parser.proofs.TokenKinds.{not_at_kinds}

pub item_finishes : Finishes ItemShape
item_finishes = word_finishes words.Attr attribute_finishes

-- no item begins with `on`
no_on : (w : Word) (ks ls : List TokenKind) → ItemBody w ks ls → w ≡ words.On → ⊥
no_on words.On ks ls q e = q
no_on words.Attr ks ls q e = cc
no_on words.Aggregate ks ls q e = cc
no_on words.Action ks ls q e = cc
no_on words.Routine ks ls q e = cc
no_on words.Main ks ls q e = cc
no_on words.Post ks ls q e = cc
no_on _ ks ls q e = q

word_of : {v w : Word} → kinds.Word v ≡ kinds.Word w → v ≡ w
word_of e = cc

begins_item : {ks ls : List TokenKind} → ItemShape ks ls → NotAt (kinds.Word words.On) ks
begins_item {ls = ls} q = subst (NotAt (kinds.Word words.On)) (sym q.list) (λ e. no_on q.word q.rest ls q.behind (word_of e))

at_end : (ks : List TokenKind) → AtEnd ks → NotAt (kinds.Word words.On) ks
at_end [] s = tt
at_end (k ∷ ks) s = absurd s

-- behind an item
pub item_follows : Follows (NotAt (kinds.Word words.On)) (Many ItemShape) AtEnd
item_follows zs to none s = at_end zs s
item_follows zs to (more q m) s = begins_item q

-- a body that stands behind one of these words alone
no_body : (w : Word) (ks ls : List TokenKind) → ItemBody w ks ls → (w ≡ words.Attr → ⊥) → (w ≡ words.Aggregate → ⊥) → (w ≡ words.Action → ⊥) → (w ≡ words.Routine → ⊥) → (w ≡ words.Main → ⊥) → (w ≡ words.Post → ⊥) → ⊥
no_body words.Attr ks ls q a b c d e f = a refl
no_body words.Aggregate ks ls q a b c d e f = b refl
no_body words.Action ks ls q a b c d e f = c refl
no_body words.Routine ks ls q a b c d e f = d refl
no_body words.Main ks ls q a b c d e f = e refl
no_body words.Post ks ls q a b c d e f = f refl
no_body _ ks ls q a b c d e f = q

-- no item begins with another token
pub items_exclude : (ts : List Token) → IsNotAt (kinds.Word words.Attr) ts → IsNotAt (kinds.Word words.Aggregate) ts → IsNotAt (kinds.Word words.Action) ts → IsNotAt (kinds.Word words.Routine) ts → IsNotAt (kinds.Word words.Main) ts → IsNotAt (kinds.Word words.Post) ts → Excludes ItemShape (kinds_of ts)
items_exclude ts a b c d e f zs to agrees q =
    let other : (w : Word) → IsNotAt (kinds.Word w) ts → q.word ≡ w → ⊥ = λ w n i. not_of w (kinds_of ts) zs q.rest (not_at_kinds _ ts n) agrees (q.list ∙ ap (λ v. kinds.Word v ∷ q.rest) i) in
    no_body q.word q.rest to q.behind (other words.Attr a) (other words.Aggregate b) (other words.Action c) (other words.Routine d) (other words.Main e) (other words.Post f)

-- ---- an item, read from what stands behind its word

module _ (w : Word) {t : Token} {ts us : List Token} {E : List TokenKind → Type 0} (ends : (to : List TokenKind) → NotAt (kinds.Word words.On) to → E to) (list : ts ≡ t ∷ us) (kind : t.kind ≡ kinds.Word w) where
  pub item_returns : (text : List ℕ) (r : Result (Item × Bor (List Token)) Stop) → Reads (ItemBody w) E 1 (SpellsBody text w t.place) text us r → Reads ItemShape (NotAt (kinds.Word words.On)) 1 (SpellsItem text) text ts r
  item_returns text r read = MatchResult-weaker r read (λ found h. record {
    passes = pass_word w list kind (narrower_passes ends h.passes);
    spells = rw list (an_item {word = w} kind h.spells);
    shorter = omega (arith, h.shorter, ap length list);
    of = h.of;
  }) (λ s h. lift_broken s (λ n f. behind_word w n list kind (narrower_breaks ends n f)) h)
