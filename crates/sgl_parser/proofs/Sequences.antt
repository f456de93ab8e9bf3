-- What reading has passed, and where it fails, for parts put together.
use Rattle.std.proofs.Common.{◌≡◌, ℕ, Bool, true, false, List, [], ◌∷◌, ◌++◌, length, sym, refl, ap, subst, ◌∙◌, append_assoc}
use Rattle.sgl_lexer.specs.declared.lexeme.TokenKind.{TokenKind}
use Rattle.sgl_lexer.specs.declared.lexeme.TokenKind.TheVariants as kinds
use Rattle.sgl_lexer.specs.declared.vocabulary.Word.{Word}
use Rattle.sgl_parser.specs.Breaks.{Relation, Agrees, Breaks, Passes, Done, Then, OneOf, Before, Either, ByWord, Maybe, Many, NotAt, NoneAt, done, this, that, omitted, given, none, more}

-- Parts were read up to the rest.
pub record Threads (G : Relation) (MayEnd : List TokenKind → Type 0) (ks rest : List TokenKind) : Type 0 where
  pub front : List TokenKind
  pub split : ks ≡ front ++ rest
  pub shape : (zs to : List TokenKind) → Many G zs to → Many G (front ++ zs) to
  pub only : (zs to : List TokenKind) → Agrees rest zs → Many G (front ++ zs) to → MayEnd to → Many G zs to

-- A part can be finished from its start.
pub record Finishes (G : Relation) : Type 0 where
  pub finish : List TokenKind
  pub shape : (zs : List TokenKind) → G (finish ++ zs) zs

-- No part begins with the first of these kinds, or at the end, if they are none.
abbrev pub Excludes : Relation → List TokenKind → Type 0
Excludes G ks = (zs to : List TokenKind) → Agrees ks zs → G zs to → ⊥

-- What begins with the first of these kinds, or is at the end, if they are none, is no place to end.
abbrev pub GoesAt : (List TokenKind → Type 0) → List TokenKind → Type 0
GoesAt MayEnd ks = (zs : List TokenKind) → Agrees ks zs → MayEnd zs → ⊥

-- a part may end where the next begins
abbrev pub Follows : (List TokenKind → Type 0) → Relation → (List TokenKind → Type 0) → Type 0
Follows First H MayEnd = (zs to : List TokenKind) → H zs to → MayEnd to → First zs

pub tail_kinds : {k j : TokenKind} {ks js : List TokenKind} → k ∷ ks ≡ j ∷ js → ks ≡ js
tail_kinds e = cc

pub agrees_itself : (ks : List TokenKind) → Agrees ks ks
agrees_itself [] = tt
agrees_itself (k ∷ ks) = refl

agrees_joined : (front behind zs : List TokenKind) → Agrees behind zs → Agrees (front ++ behind) (front ++ zs)
agrees_joined [] behind zs a = a
agrees_joined (k ∷ front) behind zs a = refl

-- lists with one front agree where what is behind it does
pub agrees_front : {ks : List TokenKind} (front behind zs : List TokenKind) → ks ≡ front ++ behind → Agrees behind zs → Agrees ks (front ++ zs)
agrees_front front behind zs e a = subst (λ l. Agrees l (front ++ zs)) (sym e) (agrees_joined front behind zs a)

pub not_here : (k : TokenKind) (ks zs to : List TokenKind) → NotAt k ks → Agrees ks zs → zs ≡ k ∷ to → ⊥
not_here k [] [] to n a e = cc
not_here k [] (z ∷ zs) to n a e = a
not_here k (j ∷ js) [] to n a e = a
not_here k (j ∷ js) (z ∷ zs) to n a e = n (a ∙ cc)

-- ---- a kind, and what stands behind it

-- The one part stands behind the kind exactly where the other begins with it.
module _ {G H : Relation} (k : TokenKind) (into : (zs to : List TokenKind) → G zs to → H (k ∷ zs) to) where
  kind_finishes : Finishes G → Finishes H
  kind_finishes l = record { finish = k ∷ l.finish; shape = λ zs. into (l.finish ++ zs) zs (l.shape zs) }

  module _ (out : (zs to : List TokenKind) → H (k ∷ zs) to → G zs to) {MayEnd : List TokenKind → Type 0} {ks : List TokenKind} where
    pub kind_breaks : (n : ℕ) → Breaks G MayEnd ks n → Breaks H MayEnd (k ∷ ks) n
    kind_breaks n f = record {
      front = k ∷ f.front;
      behind = f.behind;
      split = ap (λ l. k ∷ l) f.split;
      length = f.length;
      alive = (f.alive.0, λ zs. into (f.front ++ (f.alive.0 ++ zs)) zs (f.alive.1 zs));
      dead = λ zs to a q s. f.dead zs to a (out (f.front ++ zs) to q) s;
    }

    kind_passes : {rest : List TokenKind} → Passes G MayEnd ks rest → Passes H MayEnd (k ∷ ks) rest
    kind_passes p = record {
      front = k ∷ p.front;
      split = ap (λ l. k ∷ l) p.split;
      shape = λ zs. into (p.front ++ zs) zs (p.shape zs);
      only = λ zs to a q s. p.only zs to a (out (p.front ++ zs) to q) s;
    }

module _ {k : TokenKind} {G : Relation} where
  then_into : (zs to : List TokenKind) → G zs to → Then k G (k ∷ zs) to
  then_into zs to g = record { rest = zs; list = refl; behind = g }

  then_out : (zs to : List TokenKind) → Then k G (k ∷ zs) to → G zs to
  then_out zs to q = subst (λ l. G l to) (sym (tail_kinds q.list)) q.behind

  pub then_excludes : (ks : List TokenKind) → NotAt k ks → Excludes (Then k G) ks
  then_excludes ks n zs to a q = not_here k ks zs q.rest n a q.list

  pub then_finishes : Finishes G → Finishes (Then k G)
  then_finishes l = kind_finishes {H = Then k G} k then_into l

  module _ {MayEnd : List TokenKind → Type 0} {ks : List TokenKind} where
    pub then_breaks : (n : ℕ) → Breaks G MayEnd ks n → Breaks (Then k G) MayEnd (k ∷ ks) n
    then_breaks n f = kind_breaks {H = Then k G} k then_into then_out n f

    pub then_passes : {rest : List TokenKind} → Passes G MayEnd ks rest → Passes (Then k G) MayEnd (k ∷ ks) rest
    then_passes p = kind_passes {H = Then k G} k then_into then_out p

-- ---- one part for another

-- a part breaks where one breaks that each such part begins with
pub within_breaks : {G H : Relation} {E F : List TokenKind → Type 0} {ks : List TokenKind} → ((zs to : List TokenKind) → G zs to → H zs to) → ((zs to : List TokenKind) → Agrees ks zs → H zs to → F to → (ls : List TokenKind) × G zs ls × E ls) → (n : ℕ) → Breaks G E ks n → Breaks H F ks n
within_breaks into out n f = record {
  front = f.front;
  behind = f.behind;
  split = f.split;
  length = f.length;
  alive = (f.alive.0, λ zs. into (f.front ++ (f.alive.0 ++ zs)) zs (f.alive.1 zs));
  dead = λ zs to a q s. let i = out (f.front ++ zs) to (agrees_front f.front f.behind zs f.split a) q s in f.dead zs i.0 a i.1 i.2;
}

-- and passes where one passes that it is
pub within_passes : {G H : Relation} {E F : List TokenKind → Type 0} {ks rest : List TokenKind} → ((zs to : List TokenKind) → G zs to → H zs to) → ((zs to : List TokenKind) → Agrees ks zs → H zs to → F to → G zs to × E to) → Passes G E ks rest → Passes H F ks rest
within_passes {rest = rest} into out p = record {
  front = p.front;
  split = p.split;
  shape = λ zs. into (p.front ++ zs) zs (p.shape zs);
  only = λ zs to a q s. let i = out (p.front ++ zs) to (agrees_front p.front rest zs p.split a) q s in p.only zs to a i.0 i.1;
}

-- Behind the first of these kinds, or at the end, if they are none, one part is another.
pub record Same (G H : Relation) (ks : List TokenKind) : Type 0 where
  pub into : (zs to : List TokenKind) → H zs to → G zs to
  pub out : (zs to : List TokenKind) → Agrees ks zs → G zs to → H zs to

pub same_finishes : {G H : Relation} → ((zs to : List TokenKind) → H zs to → G zs to) → Finishes H → Finishes G
same_finishes into l = record { finish = l.finish; shape = λ zs. into (l.finish ++ zs) zs (l.shape zs) }

module _ {G H : Relation} {MayEnd : List TokenKind → Type 0} {ks : List TokenKind} (same : Same G H ks) where
  pub same_breaks : (n : ℕ) → Breaks H MayEnd ks n → Breaks G MayEnd ks n
  same_breaks n f = within_breaks same.into (λ zs to a q s. (to, same.out zs to a q, s)) n f

  pub same_passes : {rest : List TokenKind} → Passes H MayEnd ks rest → Passes G MayEnd ks rest
  same_passes p = within_passes same.into (λ zs to a q s. (same.out zs to a q, s)) p

-- what may end at fewer places
pub narrower_breaks : {G : Relation} {E F : List TokenKind → Type 0} {ks : List TokenKind} → ((to : List TokenKind) → F to → E to) → (n : ℕ) → Breaks G E ks n → Breaks G F ks n
narrower_breaks w n f = within_breaks (λ zs to q. q) (λ zs to a q s. (to, q, w to s)) n f

pub narrower_passes : {G : Relation} {E F : List TokenKind → Type 0} {ks rest : List TokenKind} → ((to : List TokenKind) → F to → E to) → Passes G E ks rest → Passes G F ks rest
narrower_passes w p = within_passes (λ zs to q. q) (λ zs to a q s. (q, w to s)) p

-- ---- a kind of a class

-- A class is not empty.
abbrev pub Some_of : (TokenKind → Bool) → Type 0
Some_of is = (k : TokenKind) × (is k ≡ true)

none_here : (is : TokenKind → Bool) (ks zs : List TokenKind) (k : TokenKind) (to : List TokenKind) → NoneAt is ks → Agrees ks zs → zs ≡ k ∷ to → is k ≡ true → ⊥
none_here is [] [] k to n a e h = cc
none_here is [] (z ∷ zs) k to n a e h = a
none_here is (j ∷ js) [] k to n a e h = a
none_here is (j ∷ js) (z ∷ zs) k to n a e h = let i : j ≡ k = a ∙ cc in let f : is k ≡ false = subst (λ w. is w ≡ false) i n in cc

module _ {is : TokenKind → Bool} {G : Relation} where
  pub one_excludes : (ks : List TokenKind) → NoneAt is ks → Excludes (OneOf is G) ks
  one_excludes ks n zs to a q = none_here is ks zs q.kind q.rest n a q.list q.of

  one_into : (k : TokenKind) → is k ≡ true → (zs to : List TokenKind) → G zs to → OneOf is G (k ∷ zs) to
  one_into k h zs to g = record { kind = k; rest = zs; list = refl; of = h; behind = g }

  one_out : (k : TokenKind) (zs to : List TokenKind) → OneOf is G (k ∷ zs) to → G zs to
  one_out k zs to q = subst (λ l. G l to) (sym (tail_kinds q.list)) q.behind

  pub one_finishes : Some_of is → Finishes G → Finishes (OneOf is G)
  one_finishes k l = kind_finishes {H = OneOf is G} k.0 (one_into k.0 k.1) l

  module _ {MayEnd : List TokenKind → Type 0} {k : TokenKind} {ks : List TokenKind} (h : is k ≡ true) where
    pub one_breaks : (n : ℕ) → Breaks G MayEnd ks n → Breaks (OneOf is G) MayEnd (k ∷ ks) n
    one_breaks n f = kind_breaks {H = OneOf is G} k (one_into k h) (one_out k) n f

    pub one_passes : {rest : List TokenKind} → Passes G MayEnd ks rest → Passes (OneOf is G) MayEnd (k ∷ ks) rest
    one_passes p = kind_passes {H = OneOf is G} k (one_into k h) (one_out k) p

-- ---- a word and what belongs to it

head_word : {v w : Word} {ks ls : List TokenKind} → kinds.Word v ∷ ks ≡ kinds.Word w ∷ ls → v ≡ w
head_word e = cc

module _ {body : Word → Relation} (w : Word) where
  word_into : (zs to : List TokenKind) → body w zs to → ByWord body (kinds.Word w ∷ zs) to
  word_into zs to g = record { word = w; rest = zs; list = refl; behind = g }

  word_out : (zs to : List TokenKind) → ByWord body (kinds.Word w ∷ zs) to → body w zs to
  word_out zs to q = subst (λ l. body w l to) (sym (tail_kinds q.list)) (subst (λ v. body v q.rest to) (sym (head_word q.list)) q.behind)

  pub word_finishes : Finishes (body w) → Finishes (ByWord body)
  word_finishes l = kind_finishes {H = ByWord body} (kinds.Word w) word_into l

  module _ {MayEnd : List TokenKind → Type 0} {ks : List TokenKind} where
    pub word_breaks : (n : ℕ) → Breaks (body w) MayEnd ks n → Breaks (ByWord body) MayEnd (kinds.Word w ∷ ks) n
    word_breaks n f = kind_breaks {H = ByWord body} (kinds.Word w) word_into word_out n f

    pub word_passes : {rest : List TokenKind} → Passes (body w) MayEnd ks rest → Passes (ByWord body) MayEnd (kinds.Word w ∷ ks) rest
    word_passes p = kind_passes {H = ByWord body} (kinds.Word w) word_into word_out p

pub done_finishes : Finishes Done
done_finishes = record { finish = []; shape = λ zs. done }

same_done : {ks ls : List TokenKind} → Done ks ls → ls ≡ ks
same_done done = refl

pub done_passes : {MayEnd : List TokenKind → Type 0} (ks : List TokenKind) → Passes Done MayEnd ks ks
done_passes ks = record {
  front = [];
  split = refl;
  shape = λ zs. done;
  only = λ zs to a q s. same_done q;
}

-- a part that does not begin fails at once
pub absent_breaks : {G : Relation} {MayEnd : List TokenKind → Type 0} {ks : List TokenKind} → Finishes G → Excludes G ks → Breaks G MayEnd ks (length ks)
absent_breaks {ks = ks} l ex = record {
  front = [];
  behind = ks;
  split = refl;
  length = refl;
  alive = (l.finish, l.shape);
  dead = λ zs to a q s. ex zs to a q;
}

pub before_finishes : {G H : Relation} → Finishes G → Finishes H → Finishes (Before G H)
before_finishes {G} l m = record {
  finish = l.finish ++ m.finish;
  shape = λ zs. record { middle = m.finish ++ zs; first = subst (λ w. G w (m.finish ++ zs)) (sym (append_assoc l.finish m.finish zs)) (l.shape (m.finish ++ zs)); second = m.shape zs };
}

pub many_finishes : {G : Relation} → Finishes (Many G)
many_finishes = record { finish = []; shape = λ zs. none }

module _ {G H : Relation} {First MayEnd : List TokenKind → Type 0} {ks : List TokenKind} (follows : Follows First H MayEnd) where
  pub before_breaks : Finishes H → (n : ℕ) → Breaks G First ks n → Breaks (Before G H) MayEnd ks n
  before_breaks l n f = record {
    front = f.front;
    behind = f.behind;
    split = f.split;
    length = f.length;
    alive = (f.alive.0 ++ l.finish, λ zs. record { middle = l.finish ++ zs; first = subst (λ w. G (f.front ++ w) (l.finish ++ zs)) (sym (append_assoc f.alive.0 l.finish zs)) (f.alive.1 (l.finish ++ zs)); second = l.shape zs });
    dead = λ zs to a q s. f.dead zs q.middle a q.first (follows q.middle to q.second s);
  }

  module _ {ls : List TokenKind} (p : Passes G First ks ls) where
    -- what stands behind the first part
    behind_first : (zs to : List TokenKind) → Agrees ls zs → Before G H (p.front ++ zs) to → MayEnd to → H zs to
    behind_first zs to a q s = subst (λ l. H l to) (p.only zs q.middle a q.first (follows q.middle to q.second s)) q.second

    pub behind_breaks : (n : ℕ) → Breaks H MayEnd ls n → Breaks (Before G H) MayEnd ks n
    behind_breaks n f = record {
      front = p.front ++ f.front;
      behind = f.behind;
      split = p.split ∙ ap (λ l. p.front ++ l) f.split ∙ sym (append_assoc p.front f.front f.behind);
      length = f.length;
      alive = (f.alive.0, λ zs. record { middle = f.front ++ (f.alive.0 ++ zs); first = subst (λ l. G l (f.front ++ (f.alive.0 ++ zs))) (sym (append_assoc p.front f.front (f.alive.0 ++ zs))) (p.shape (f.front ++ (f.alive.0 ++ zs))); second = f.alive.1 zs });
      dead = λ zs to a q s.
          f.dead zs to a (behind_first (f.front ++ zs) to (agrees_front f.front f.behind zs f.split a) (subst (λ l. Before G H l to) (append_assoc p.front f.front zs) q) s) s;
    }

    pub before_passes : {rest : List TokenKind} → Passes H MayEnd ls rest → Passes (Before G H) MayEnd ks rest
    before_passes {rest} r = record {
      front = p.front ++ r.front;
      split = p.split ∙ ap (λ l. p.front ++ l) r.split ∙ sym (append_assoc p.front r.front rest);
      shape = λ zs. record { middle = r.front ++ zs; first = subst (λ l. G l (r.front ++ zs)) (sym (append_assoc p.front r.front zs)) (p.shape (r.front ++ zs)); second = r.shape zs };
      only = λ zs to a q s.
          r.only zs to a (behind_first (r.front ++ zs) to (agrees_front r.front rest zs r.split a) (subst (λ l. Before G H l to) (append_assoc p.front r.front zs) q) s) s;
    }

-- ---- one of two parts

module _ {G H : Relation} where
  left_of : {zs to : List TokenKind} → (H zs to → ⊥) → Either G H zs to → G zs to
  left_of other (this g) = g
  left_of other (that h) = absurd (other h)

  right_of : {zs to : List TokenKind} → (G zs to → ⊥) → Either G H zs to → H zs to
  right_of other (this g) = absurd (other g)
  right_of other (that h) = h

  pub either_excludes : (ks : List TokenKind) → Excludes G ks → Excludes H ks → Excludes (Either G H) ks
  either_excludes ks g h zs to a q = h zs to a (right_of (g zs to a) q)

  pub left_finishes : Finishes G → Finishes (Either G H)
  left_finishes l = record { finish = l.finish; shape = λ zs. this (l.shape zs) }

  left_same : {ks : List TokenKind} → Excludes H ks → Same (Either G H) G ks
  left_same ex = record { into = λ zs to g. this g; out = λ zs to a q. left_of (ex zs to a) q }

  right_same : {ks : List TokenKind} → Excludes G ks → Same (Either G H) H ks
  right_same ex = record { into = λ zs to h. that h; out = λ zs to a q. right_of (ex zs to a) q }

  module _ {MayEnd : List TokenKind → Type 0} {ks : List TokenKind} where
    pub left_breaks : Excludes H ks → (n : ℕ) → Breaks G MayEnd ks n → Breaks (Either G H) MayEnd ks n
    left_breaks ex = same_breaks (left_same ex)

    pub right_breaks : Excludes G ks → (n : ℕ) → Breaks H MayEnd ks n → Breaks (Either G H) MayEnd ks n
    right_breaks ex = same_breaks (right_same ex)

    pub left_passes : {rest : List TokenKind} → Excludes H ks → Passes G MayEnd ks rest → Passes (Either G H) MayEnd ks rest
    left_passes ex = same_passes (left_same ex)

    pub right_passes : {rest : List TokenKind} → Excludes G ks → Passes H MayEnd ks rest → Passes (Either G H) MayEnd ks rest
    right_passes ex = same_passes (right_same ex)

-- ---- a part once or not at all

-- the part that stands where it has to
given_of : {G : Relation} (MayEnd : List TokenKind → Type 0) {ks to : List TokenKind} → (MayEnd ks → ⊥) → Maybe G ks to → MayEnd to → G ks to
given_of MayEnd goes omitted s = absurd (goes s)
given_of MayEnd goes (given g) s = g

omitted_of : {G : Relation} {ks to : List TokenKind} → (G ks to → ⊥) → Maybe G ks to → to ≡ ks
omitted_of not_given omitted = refl
omitted_of not_given (given g) = absurd (not_given g)

pub maybe_finishes : {G : Relation} → Finishes (Maybe G)
maybe_finishes = record { finish = []; shape = λ zs. omitted }

module _ {G : Relation} {MayEnd : List TokenKind → Type 0} {ks : List TokenKind} where
  pub omitted_passes : Excludes G ks → Passes (Maybe G) MayEnd ks ks
  omitted_passes ex = record {
    front = [];
    split = refl;
    shape = λ zs. omitted;
    only = λ zs to a q s. omitted_of (λ g. ex zs to a g) q;
  }

  pub given_passes : {rest : List TokenKind} → GoesAt MayEnd ks → Passes G MayEnd ks rest → Passes (Maybe G) MayEnd ks rest
  given_passes goes p = within_passes (λ zs to g. given g) (λ zs to a q s. (given_of MayEnd (goes zs a) q s, s)) p

  pub given_breaks : GoesAt MayEnd ks → (n : ℕ) → Breaks G MayEnd ks n → Breaks (Maybe G) MayEnd ks n
  given_breaks goes n f = within_breaks (λ zs to g. given g) (λ zs to a q s. (to, given_of MayEnd (goes zs a) q s, s)) n f

-- ---- a part any number of times

-- where the whole may not end yet, one part more stands
first_of : {G : Relation} (MayEnd : List TokenKind → Type 0) {ks to : List TokenKind} → (MayEnd ks → ⊥) → Many G ks to → MayEnd to → (ls : List TokenKind) × G ks ls × Many G ls to
first_of MayEnd goes none s = absurd (goes s)
first_of MayEnd goes (more {ls = ls} g m) s = (ls, g, m)

-- where no part begins, none stands
none_of : {G : Relation} {ks to : List TokenKind} → ((ls : List TokenKind) → G ks ls → ⊥) → Many G ks to → to ≡ ks
none_of ex none = refl
none_of ex (more {ls = ls} g m) = absurd (ex ls g)

pub threads_none : {G : Relation} {MayEnd : List TokenKind → Type 0} (ks : List TokenKind) → Threads G MayEnd ks ks
threads_none ks = record { front = []; split = refl; shape = λ zs to m. m; only = λ zs to a m s. m }

module _ {G : Relation} {PartEnd MayEnd : List TokenKind → Type 0} where
  -- parts, and one more behind them
  pub threads_more : {ks ls rest : List TokenKind} → Follows PartEnd (Many G) MayEnd → Threads G MayEnd ks ls → GoesAt MayEnd ls → Passes G PartEnd ls rest → Threads G MayEnd ks rest
  threads_more {ks} {ls} {rest} follows t goes p = record {
    front = t.front ++ p.front;
    split = t.split ∙ ap (λ l. t.front ++ l) p.split ∙ sym (append_assoc t.front p.front rest);
    shape = λ zs to m. subst (λ l. Many G l to) (sym (append_assoc t.front p.front zs)) (t.shape (p.front ++ zs) to (more (p.shape zs) m));
    only = λ zs to a m s.
        let agrees = agrees_front p.front rest zs p.split a in
        let i = first_of MayEnd (goes (p.front ++ zs) agrees) (t.only (p.front ++ zs) to agrees (subst (λ l. Many G l to) (append_assoc t.front p.front zs) m) s) s in
        subst (λ l. Many G l to) (p.only zs i.0 a i.1 (follows i.0 to i.2 s)) i.2;
  }

  pub many_breaks : {ks rest : List TokenKind} → Follows PartEnd (Many G) MayEnd → Threads G MayEnd ks rest → GoesAt MayEnd rest → (n : ℕ) → Breaks G PartEnd rest n → Breaks (Many G) MayEnd ks n
  many_breaks {ks} {rest} follows t goes n f = record {
    front = t.front ++ f.front;
    behind = f.behind;
    split = t.split ∙ ap (λ l. t.front ++ l) f.split ∙ sym (append_assoc t.front f.front f.behind);
    length = f.length;
    alive = (f.alive.0, λ zs. subst (λ l. Many G l zs) (sym (append_assoc t.front f.front (f.alive.0 ++ zs))) (t.shape (f.front ++ (f.alive.0 ++ zs)) zs (more (f.alive.1 zs) none)));
    dead = λ zs to a m s.
        let agrees = agrees_front f.front f.behind zs f.split a in
        let i = first_of MayEnd (goes (f.front ++ zs) agrees) (t.only (f.front ++ zs) to agrees (subst (λ l. Many G l to) (append_assoc t.front f.front zs) m) s) s in
        f.dead zs i.0 a i.1 (follows i.0 to i.2 s);
  }

pub many_passes : {G : Relation} {MayEnd : List TokenKind → Type 0} {ks rest : List TokenKind} → Excludes G rest → Threads G MayEnd ks rest → Passes (Many G) MayEnd ks rest
many_passes {rest = rest} ex t = record {
  front = t.front;
  split = t.split;
  shape = λ zs. t.shape zs zs none;
  only = λ zs to a m s. none_of (λ ls g. ex zs ls a g) (t.only zs to a m s);
}
