-- Parts that are read one by one, behind those from before.
use Rattle.std.proofs.Common.{◌≡◌, ◌≤◌, ℕ, List, [], ◌∷◌, ◌++◌, length, sym, ap, subst, append-nil, arith}
use Rattle.sgl_lexer.specs.declared.lexeme.Token.{Token}
use Rattle.sgl_lexer.specs.declared.lexeme.TokenKind.{TokenKind}
use Rattle.sgl_lexer.specs.Slices.{AreSlicesOf}
use Rattle.sgl_parser.specs.Breaks.{Relation, Breaks, Passes, Then, Many}
use Rattle.sgl_parser.specs.Reads.{IsRead, ListingBehind}
use Rattle.sgl_parser.specs.Scripts.{Listing, none}
use Rattle.sgl_parser.specs.Shape.{kinds_of}
use Rattle.sgl_parser.proofs.Listings.{listing_more, list_more}
use Rattle.sgl_parser.proofs.Parts.{behind, pass_behind, goes_at}
use Rattle.sgl_parser.proofs.Sequences.{Threads, Follows, GoesAt, Excludes, threads_none, threads_more, many_breaks, many_passes}

-- Parts were read up to the rest, and their values stand behind those from before.
pub record SoFar {A : Type 0} (G : Relation) (MayEnd : List TokenKind → Type 0) (Part : List Token → List Token → A → Type 0) (text : List ℕ) (tokens rest : List Token) (before all : List A) : Type 0 where
  pub read : List A
  pub is : all ≡ before ++ read
  pub spelt : Listing Part tokens rest read
  pub threads : Threads G MayEnd (kinds_of tokens) (kinds_of rest)
  pub shorter : length rest ≤ length tokens
  pub of : AreSlicesOf text rest

module _ {A : Type 0} {G : Relation} {MayEnd : List TokenKind → Type 0} {Part : List Token → List Token → A → Type 0} {text : List ℕ} {tokens : List Token} {before : List A} where
  pub none_read : AreSlicesOf text tokens → SoFar G MayEnd Part text tokens tokens before before
  none_read of = record {
    read = [];
    is = sym (append-nil before);
    spelt = none;
    threads = threads_none (kinds_of tokens);
    shorter = omega arith;
    of = of;
  }

  module _ {rest : List Token} {all : List A} (s : SoFar G MayEnd Part text tokens rest before all) where
    pub more_read : {PartEnd : List TokenKind → Type 0} {behind : List Token} {new : List A} {x : A} → Follows PartEnd (Many G) MayEnd → GoesAt MayEnd (kinds_of rest) → Passes G PartEnd (kinds_of rest) (kinds_of behind) → Part rest behind x → length behind ≤ length rest → AreSlicesOf text behind → new ≡ all ++ x ∷ [] → SoFar G MayEnd Part text tokens behind before new
    more_read {x = x} follows goes passes part shorter of is = record {
      read = s.read ++ x ∷ [];
      is = list_more before s.read x s.is is;
      spelt = listing_more s.spelt part;
      threads = threads_more follows s.threads goes passes;
      shorter = omega (arith, shorter, s.shorter);
      of = of;
    }

    pub all_read : Excludes G (kinds_of rest) → IsRead (Many G) MayEnd 0 (ListingBehind before Part) text tokens rest all
    all_read excludes = record {
      passes = many_passes excludes s.threads;
      spells = (s.read, s.is, s.spelt);
      shorter = omega (arith, s.shorter);
      of = s.of;
    }

-- parts that stand behind a kind of token each
module _ {A : Type 0} {k : TokenKind} {G : Relation} {PartEnd MayEnd : List TokenKind → Type 0} {Part : List Token → List Token → A → Type 0} {text : List ℕ} {tokens rest us : List Token} {before all : List A} {t : Token} (s : SoFar (Then k G) MayEnd Part text tokens rest before all) (follows : Follows PartEnd (Many (Then k G)) MayEnd) (ends : (zs : List TokenKind) → MayEnd (k ∷ zs) → ⊥) (list : rest ≡ t ∷ us) (kind : t.kind ≡ k) where
  pub more_behind : {left : List Token} {new : List A} {x : A} → Passes G PartEnd (kinds_of us) (kinds_of left) → Part (t ∷ us) left x → length left ≤ length us → AreSlicesOf text left → new ≡ all ++ x ∷ [] → SoFar (Then k G) MayEnd Part text tokens left before new
  more_behind {left} {x = x} passes part shorter of is =
      more_read s follows (goes_at MayEnd k ends list kind) (pass_behind list kind passes) (subst (λ l. Part l left x) (sym list) part) (omega (arith, shorter, ap length list)) of is

  pub breaks_behind : (n : ℕ) → Breaks G PartEnd (kinds_of us) n → Breaks (Many (Then k G)) MayEnd (kinds_of tokens) n
  breaks_behind n f = many_breaks follows s.threads (goes_at MayEnd k ends list kind) n (behind n list kind f)
