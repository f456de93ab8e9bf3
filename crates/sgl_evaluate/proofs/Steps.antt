-- The values of operations and calls from those of their parts.
use Rattle.std.proofs.Common.{◌≡◌, ◌<◌, ℕ, min, List, map, length, take, get_or, ap, sym, ◌∙◌, arith}
use Rattle.std.proofs.lemmas.List.{get_or-map, get_or-take, length-take, take-map, take_min}
use Rattle.sgl_values.specs.declared.place.Place.{Place}
use Rattle.sgl_values.specs.declared.fault.Val.{Val}
use Rattle.sgl_values.specs.declared.operator.BinOp.{BinOp}
use Rattle.sgl_typed.specs.declared.script.TExpr.{TExpr}
use Rattle.sgl_typed.specs.declared.script.TExpr.TheVariants.{Binary}
use Rattle.sgl_typed.specs.Value.{Calls, Context, value_with, operated}
use Rattle.sgl_typed.proofs.Equations.{value-Binary}

-- an operation from the values of its two sides
pub binary : (calls : Calls) (c : Context) {e l r l' r' : TExpr} {op : BinOp} {place : Place} {v w result : Val}
    → e ≡ Binary op l r place → l' ≡ l → r' ≡ r → v ≡ value_with calls c l' → w ≡ value_with calls c r'
    → result ≡ operated op place v w → result ≡ value_with calls c e
binary calls c {l = l} {r = r} {op = op} {place = place} is left right v w result = cc (value-Binary calls c op l r place)

-- an operation whose left side decides
pub decided : (calls : Calls) (c : Context) (e l r l' : TExpr) (op : BinOp) (place : Place) (v : Val)
    → e ≡ Binary op l r place → l' ≡ l → v ≡ value_with calls c l'
    → ((at : Place) (w : Val) → operated op at v w ≡ v) → v ≡ value_with calls c e
decided calls c e l r l' op place v is left same decides =
    sym (decides place (value_with calls c r))
    ∙ ap (λ x. operated op place x (value_with calls c r)) (same ∙ ap (value_with calls c) left)
    ∙ sym (value-Binary calls c op l r place)
    ∙ ap (value_with calls c) (sym is)

-- a call, whose first sixteen arguments stand in a buffer
pub called : (gives : ℕ → List Val → Val) (f : TExpr → Val) (agg count : ℕ) (exprs given : List TExpr) (buffer args : List Val) (result : Val)
    → given ≡ exprs → count ≡ min (length given) 16 → args ≡ take count buffer
    → take (min 16 (length given)) buffer ≡ map f (take 16 given)
    → result ≡ gives agg args → ((more : List Val) → gives agg (take 16 more) ≡ gives agg more)
    → result ≡ gives agg (map f exprs)
called gives f agg count exprs given buffer args result is counted passed filled answered sixteen =
    let same : count ≡ min 16 (length given) = omega (arith, counted) in
    answered
    ∙ ap (gives agg) (passed ∙ ap (λ (n : ℕ). take n buffer) same ∙ filled ∙ sym (take-map f 16 given))
    ∙ sixteen (map f given)
    ∙ ap (λ xs. gives agg (map f xs)) is

-- a buffer of sixteen behind the last value
pub filled : {A B : Type 0} (f : A → B) (xs : List A) (buffer : List B) (i : ℕ) → i ≡ min 16 (length xs)
    → take i buffer ≡ map f (take i xs) → take (min 16 (length xs)) buffer ≡ map f (take 16 xs)
filled f xs buffer i is before =
    ap (λ (n : ℕ). take n buffer) (sym is) ∙ before ∙ ap (λ (n : ℕ). map f (take n xs)) is ∙ ap (map f) (take_min 16 xs)

-- one of its first values
pub filled_at : {A B : Type 0} (f : A → B) (xs : List A) (buffer : List B) (i : ℕ) (d : A) (e : B) → take (min 16 (length xs)) buffer ≡ map f (take 16 xs)
    → i < 16 → i < length xs → get_or buffer i e ≡ f (get_or xs i d)
filled_at f xs buffer i d e filled below inside =
    sym (get_or-take (min 16 (length xs)) buffer i e (omega (arith, below, inside)))
    ∙ ap (λ ys. get_or ys i e) filled
    ∙ get_or-map f (take 16 xs) i d e (omega (arith, below, inside, length-take 16 xs))
    ∙ ap f (get_or-take 16 xs i d below)
