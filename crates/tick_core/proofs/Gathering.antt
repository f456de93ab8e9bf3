-- What gives come to for a word, and how often a task is claimed.
use Rattle.std.proofs.Common.{◌≡◌, ◌≢◌, ℕ, ◌+◌, ◌==◌, cond, Bool, true, false, List, [], ◌∷◌, ◌++◌, sym, refl, ap, ◌∙◌, eq-eqb, arith}
use Rattle.std.specs.Prelude.{Option, count_by}
use Rattle.std.proofs.lemmas.Bool.{ne_eqb}
use Rattle.std.proofs.lemmas.List.Sums.{sum_by-append}
use Rattle.sgl_values.specs.Totals.{IsAssociative, IsCommutative, total}
use Rattle.sgl_values.specs.declared.fault.Tag.{Tag}
use Rattle.effect_combine.specs.Words.{start_of, merged}
use Rattle.effect_combine.proofs.Merging.{merged_assoc, merged_comm, start_merged, start_start}
use Rattle.tick_core.specs.Core.{Worker, work, claimed_by_all, given_by_all}
use Rattle.tick_core.specs.Fair.{amounts_for, gathered}
use Rattle.tick_core.specs.declared.event.Give.{Give}
use Rattle.tick_core.proofs.Totals.{total-append, total-flat_map}

-- ---- words

pub start-total : {A : Type 0} (tag : Tag) (worth : A → ℕ) (xs : List A) → merged tag (start_of tag) (total (merged tag) (start_of tag) worth xs) ≡ total (merged tag) (start_of tag) worth xs
start-total tag worth [] = start_start tag
start-total tag worth (x ∷ xs) = start_merged tag (worth x) (total (merged tag) (start_of tag) worth xs) (start-total tag worth xs)

pub start-gathered : (tag : Tag) (word : ℕ) (gives : List Give) → merged tag (start_of tag) (gathered tag word gives) ≡ gathered tag word gives
start-gathered tag word gives = start-total tag (λ amount. amount) (amounts_for word gives)

-- totals of words that are joined
pub total_merged-append : {A : Type 0} (tag : Tag) (worth : A → ℕ) (xs ys : List A)
    → total (merged tag) (start_of tag) worth (xs ++ ys) ≡ merged tag (total (merged tag) (start_of tag) worth xs) (total (merged tag) (start_of tag) worth ys)
total_merged-append tag worth = total-append (merged tag) (start_of tag) worth (merged_assoc tag) (merged_comm tag) (start-total tag worth)

-- ---- gives

cond-append : (b : Bool) (amount : ℕ) (xs ys : List ℕ) → cond b (amount ∷ xs ++ ys) (xs ++ ys) ≡ cond b (amount ∷ xs) xs ++ ys
cond-append true amount xs ys = refl
cond-append false amount xs ys = refl

pub amounts_for-append : (word : ℕ) (gives others : List Give) → amounts_for word (gives ++ others) ≡ amounts_for word gives ++ amounts_for word others
amounts_for-append word [] others = refl
amounts_for-append word (give ∷ gives) others =
    ap (λ (l : List ℕ). cond (give.word == word) (give.amount ∷ l) l) (amounts_for-append word gives others)
    ∙ cond-append (give.word == word) give.amount (amounts_for word gives) (amounts_for word others)

pub gathered-append : (tag : Tag) (word : ℕ) (gives others : List Give) → gathered tag word (gives ++ others) ≡ merged tag (gathered tag word gives) (gathered tag word others)
gathered-append tag word gives others =
    ap (total (merged tag) (start_of tag) (λ amount. amount)) (amounts_for-append word gives others)
    ∙ total_merged-append tag (λ amount. amount) (amounts_for word gives) (amounts_for word others)

-- one give more, for the word and for another
pub gathered-here : (tag : Tag) (word amount : ℕ) (gives : List Give)
    → merged tag (gathered tag word gives) (gathered tag word (record { word = word; amount = amount } ∷ [])) ≡ merged tag (gathered tag word gives) amount
gathered-here tag word amount gives =
    let all : ℕ = gathered tag word gives in
    ap (λ (b : Bool). merged tag all (total (merged tag) (start_of tag) (λ w. w) (cond b (amount ∷ []) []))) (eq-eqb word word refl)
    ∙ sym (merged_assoc tag all amount (start_of tag))
    ∙ merged_comm tag (merged tag all amount) (start_of tag)
    ∙ ap (merged tag (start_of tag)) (merged_comm tag all amount)
    ∙ start_merged tag amount all (start-gathered tag word gives)
    ∙ merged_comm tag amount all

pub gathered-apart : (tag : Tag) (word : ℕ) (gives : List Give) (give : Give) → give.word ≢ word
    → merged tag (gathered tag word gives) (gathered tag word (give ∷ [])) ≡ gathered tag word gives
gathered-apart tag word gives give apart =
    ap (λ (b : Bool). merged tag (gathered tag word gives) (total (merged tag) (start_of tag) (λ w. w) (cond b (give.amount ∷ []) []))) (ne_eqb give.word word apart)
    ∙ merged_comm tag (gathered tag word gives) (start_of tag)
    ∙ start-gathered tag word gives

-- the word of all workers is the merge of theirs
abbrev pub gathered_of : Tag → ℕ → Option Worker → ℕ
gathered_of tag word worker = gathered tag word (work worker).gives

pub gathered-all : (tag : Tag) (word : ℕ) (workers : List (Option Worker))
    → gathered tag word (given_by_all workers) ≡ total (merged tag) (start_of tag) (gathered_of tag word) workers
gathered-all tag word workers = total-flat_map (merged tag) (start_of tag) (gathered tag word) (λ worker. (work worker).gives) refl (gathered-append tag word) workers

-- ---- claims

pub plus_assoc : IsAssociative (λ (a b : ℕ). a + b)
plus_assoc a b c = omega arith

pub plus_comm : IsCommutative (λ (a b : ℕ). a + b)
plus_comm a b = omega arith

abbrev pub times : ℕ → List ℕ → ℕ
times task tasks = count_by (λ other. other == task) tasks

pub times-append : (task : ℕ) (tasks others : List ℕ) → times task (tasks ++ others) ≡ times task tasks + times task others
times-append task tasks others = sum_by-append (λ other. cond (other == task) 1 0) tasks others

pub times-cons : (task other : ℕ) (tasks : List ℕ) → times task (other ∷ tasks) ≡ cond (other == task) 1 0 + times task tasks
times-cons task other tasks = let one : 0 + cond (other == task) 1 0 ≡ cond (other == task) 1 0 = omega arith in
    times-append task (other ∷ []) tasks ∙ ap (λ (n : ℕ). n + times task tasks) one

abbrev pub times_of : ℕ → Option Worker → ℕ
times_of task worker = times task (work worker).claimed

pub times-all : (task : ℕ) (workers : List (Option Worker)) → times task (claimed_by_all workers) ≡ total (λ a b. a + b) 0 (times_of task) workers
times-all task workers = total-flat_map (λ a b. a + b) 0 (times task) (λ worker. (work worker).claimed) refl (times-append task) workers
