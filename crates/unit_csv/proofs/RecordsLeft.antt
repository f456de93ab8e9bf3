-- A reader's records, one by one: what a read gives is the first of those that were left.
use Rattle.std.proofs.Common.{◌≡◌, ◌∙◌, ◌+◌, ◌≤◌, ◌<◌, ◌++◌, ℕ, zero, suc, List, [], ◌∷◌, length, Bool, true, false, cond, Option, None, Some, IsSome, refl, sym, ap, ap₂, subst, arith, ◌⊎◌, inl, inr}
use Rattle.csv.specs.declared.parser.Config.{Config}
use Rattle.csv.specs.declared.parser.State.{State}
use Rattle.csv.specs.declared.parser.State.TheVariants as st
use Rattle.csv.specs.declared.reader.Reader.{Reader}
use Rattle.csv.specs.Machine.{Read, next_record, step, is_end, ends_at_end, fields_after, field_after}
use Rattle.csv.specs.Reading.{NextIs, ReadRecord, ReadsNext, default_config, pending_of, records_from, records_next, source_of}
use Rattle.unit_csv.specs.Records.{IsReading, records_left, records_of}

then_some : (b : Bool) (q p : Read) → cond b (Some q) None ≡ Some p → q ≡ p
then_some true q p e = cc e
then_some false q p e = cc e

step_cases : (b : Bool) (q p : Read) (o : Option Read) → cond b (Some q) o ≡ Some p → (q ≡ p) ⊎ (o ≡ Some p)
step_cases true q p o e = inl (cc e)
step_cases false q p o e = inr e

-- a byte ends the record, or is passed
next_cases : (cfg : Config) (s : State) (fields : List (List ℕ)) (field : List ℕ) (c : ℕ) (rest : List ℕ) (p : Read) → next_record cfg s fields field (c ∷ rest) ≡ Some p
    → (rest ≡ p.2) ⊎ (next_record cfg (step cfg s c).0 (fields_after (step cfg s c).1 fields field) (field_after (step cfg s c).1 c field) rest ≡ Some p)
unfolding next_record
next_cases cfg s fields field c rest p e =
    elim (step_cases (is_end (step cfg s c).1) (fields_after (step cfg s c).1 fields field, (step cfg s c).0, rest) p
    (next_record cfg (step cfg s c).0 (fields_after (step cfg s c).1 fields field) (field_after (step cfg s c).1 c field) rest) e) [
      | inl q ↦ inl (ap (λ (p : Read). p.2) q)
      | inr h ↦ inr h
    ]

-- a record leaves no more bytes than there were
no_more : (cfg : Config) (s : State) (fields : List (List ℕ)) (field xs : List ℕ) (p : Read) → next_record cfg s fields field xs ≡ Some p → length p.2 ≤ length xs
unfolding next_record
no_more cfg s fields field [] p e = subst (λ (p : Read). length p.2 ≤ 0) (then_some (ends_at_end s) (fields ++ (field ∷ []), st.StartRecord, []) p e) (omega arith)
no_more cfg s fields field (c ∷ rest) p e =
    elim (next_cases cfg s fields field c rest p e) [
      | inl left ↦ omega (arith, ap length left)
      | inr h ↦ let less = no_more cfg (step cfg s c).0 (fields_after (step cfg s c).1 fields field) (field_after (step cfg s c).1 c field) rest p h in omega (arith, less)
    ]

-- a record takes a byte, or ends the text
shorter : (cfg : Config) (s : State) (xs : List ℕ) (p : Read) → next_record cfg s [] [] xs ≡ Some p → (length p.2 < length xs) ⊎ ((p.1 ≡ st.StartRecord) × (p.2 ≡ []))
unfolding next_record
shorter cfg s [] p e = inr (subst (λ (p : Read). (p.1 ≡ st.StartRecord) × (p.2 ≡ [])) (then_some (ends_at_end s) ([] ∷ [], st.StartRecord, []) p e) (refl, refl))
shorter cfg s (c ∷ rest) p e =
    elim (next_cases cfg s [] [] c rest p e) [
      | inl left ↦ inl (omega (arith, ap length left))
      | inr h ↦ let less = no_more cfg (step cfg s c).0 (fields_after (step cfg s c).1 [] []) (field_after (step cfg s c).1 c []) rest p h in inl (omega (arith, less))
    ]

-- behind the end of the text there is no record
no_records : (cfg : Config) (n : ℕ) → records_from cfg n st.StartRecord [] ≡ []
unfolding records_from next_record
no_records cfg zero = refl
no_records cfg (suc n) = refl

ended : (cfg : Config) (n : ℕ) (s : State) (xs : List ℕ) → s ≡ st.StartRecord → xs ≡ [] → records_from cfg n s xs ≡ []
ended cfg n s xs at_start at_end = ap₂ (λ t z. records_from cfg n t z) at_start at_end ∙ no_records cfg n

-- every number of records above that of the bytes is enough
same_records : (cfg : Config) (n m : ℕ) (s : State) (xs : List ℕ) → length xs < n → length xs < m → records_from cfg n s xs ≡ records_from cfg m s xs
unfolding records_from
same_records cfg zero m s xs few enough = absurd (omega arith)
same_records cfg (suc n) zero s xs few enough = absurd (omega arith)
same_records cfg (suc n) (suc m) s xs few enough =
    let same : (o : Option Read) → next_record cfg s [] [] xs ≡ o → records_next (λ t z. records_from cfg n t z) o ≡ records_next (λ t z. records_from cfg m t z) o =
    λ o. elim o as (λ o. next_record cfg s [] [] xs ≡ o → records_next (λ t z. records_from cfg n t z) o ≡ records_next (λ t z. records_from cfg m t z) o) [
      | None ↦ λ e. refl
      | Some p ↦ λ e. ap (λ rest. p.0 ∷ rest) (elim (shorter cfg s xs p e) [
        | inl less ↦ same_records cfg n m p.1 p.2 (omega (arith, less)) (omega (arith, less))
        | inr end ↦ ended cfg n p.1 p.2 end.0 end.1 ∙ sym (ended cfg m p.1 p.2 end.0 end.1)
      ])
    ] in
    same (next_record cfg s [] [] xs) refl

-- what is left behind a record
behind : (cfg : Config) (s : State) (xs : List ℕ) (p : Read) → next_record cfg s [] [] xs ≡ Some p
    → records_from cfg (length xs) p.1 p.2 ≡ records_from cfg (length p.2 + 1) p.1 p.2
behind cfg s xs p e = elim (shorter cfg s xs p e) [
  | inl less ↦ same_records cfg (length xs) (length p.2 + 1) p.1 p.2 less (omega arith)
  | inr end ↦ ended cfg (length xs) p.1 p.2 end.0 end.1 ∙ sym (ended cfg (length p.2 + 1) p.1 p.2 end.0 end.1)
]

-- the first record of those that are left, and the others
first_of : (s : State) (xs : List ℕ) (o : Option Read) → next_record default_config s [] [] xs ≡ o
    → records_from default_config (length xs + 1) s xs ≡ records_next (λ t z. records_from default_config (length xs) t z) o
unfolding records_from
first_of s xs o e =
    let more : length xs + 1 ≡ suc (length xs) = omega arith in
    ap (λ n. records_from default_config n s xs) more ∙ ap (records_next (λ t z. records_from default_config (length xs) t z)) e

one_record : (s s2 : State) (xs : List ℕ) (after : Option (List ℕ)) (found : Bool) (fields : List (List ℕ)) → ReadsNext default_config s (Some xs) after found fields s2
    → found ≡ true → records_of s (Some xs) ≡ fields ∷ records_of s2 after
one_record s s2 xs None found fields reads was = absurd reads
one_record s s2 xs (Some ys) found fields reads was =
    let by : (o : Option Read) → next_record default_config s [] [] xs ≡ o → NextIs o found fields s2 ys → records_of s (Some xs) ≡ fields ∷ records_of s2 (Some ys) =
    λ o. elim o as (λ o. next_record default_config s [] [] xs ≡ o → NextIs o found fields s2 ys → records_of s (Some xs) ≡ fields ∷ records_of s2 (Some ys)) [
      | None ↦ λ e h. cc (was, h)
      | Some p ↦ λ e h. first_of s xs (Some p) e ∙ ap₂ (λ (f : List (List ℕ)) (fs : List (List (List ℕ))). f ∷ fs) (sym h.1)
          (behind default_config s xs p e ∙ sym (ap₂ (λ t z. records_from default_config (length z + 1) t z) h.2 h.3))
    ] in
    by (next_record default_config s [] [] xs) refl reads

no_record : (s s2 : State) (xs : List ℕ) (after : Option (List ℕ)) (found : Bool) (fields : List (List ℕ)) → ReadsNext default_config s (Some xs) after found fields s2
    → found ≡ false → records_of s (Some xs) ≡ []
no_record s s2 xs None found fields reads was = absurd reads
no_record s s2 xs (Some ys) found fields reads was =
    let by : (o : Option Read) → next_record default_config s [] [] xs ≡ o → NextIs o found fields s2 ys → records_of s (Some xs) ≡ [] =
    λ o. elim o as (λ o. next_record default_config s [] [] xs ≡ o → NextIs o found fields s2 ys → records_of s (Some xs) ≡ []) [
      | None ↦ λ e h. first_of s xs None e
      | Some p ↦ λ e h. cc (was, h.0)
    ] in
    by (next_record default_config s [] [] xs) refl reads

-- the bytes that are known to be left behind a read
still_known : (s s2 : State) (xs : List ℕ) (after : Option (List ℕ)) (found : Bool) (fields : List (List ℕ)) → ReadsNext default_config s (Some xs) after found fields s2 → IsSome after
still_known s s2 xs None found fields reads = absurd reads
still_known s s2 xs (Some ys) found fields reads = refl

-- behind a read the mark is no question any more
pending-source : {R : Type 0} (content : R → Option (List ℕ)) (reader : Reader R) → reader.bom_checked ≡ true → pending_of (content reader.rdr) reader ≡ source_of content reader
pending-source content reader checked = rw checked refl

-- what one read says of the records that are left
pub record Reads {R : Type 0} (old new : Reader R) (content : R → Option (List ℕ)) (found : Bool) (fields : List (List ℕ)) : Type 0 where
  pub one : found ≡ true → records_left old content ≡ fields ∷ records_left new content
  pub none : found ≡ false → records_left old content ≡ []
  pub known : IsSome (source_of content new)

reads_from : (s s2 : State) (before after : Option (List ℕ)) (found : Bool) (fields : List (List ℕ)) → IsSome before → ReadsNext default_config s before after found fields s2
    → (found ≡ true → records_of s before ≡ fields ∷ records_of s2 after) × ((found ≡ false → records_of s before ≡ []) × IsSome after)
reads_from s s2 None after found fields known reads = absurd (cc known)
reads_from s s2 (Some xs) after found fields known reads =
    (one_record s s2 xs after found fields reads, (no_record s s2 xs after found fields reads, still_known s s2 xs after found fields reads))

pub reads_record : {R : Type 0} (content : R → Option (List ℕ)) (old new : Reader R) (found : Bool) (fields : List (List ℕ))
    → IsReading old content → ReadRecord content old new found fields → Reads old new content found fields
reads_record content old new found fields reading read =
    let next : ReadsNext default_config old.state (source_of content old) (source_of content new) found fields new.state =
    subst (λ cfg. ReadsNext cfg old.state (source_of content old) (source_of content new) found fields new.state) reading.config
    (subst (λ after. ReadsNext old.config old.state (source_of content old) after found fields new.state) (pending-source content new read.1) read.0) in
    let all = reads_from old.state new.state (source_of content old) (source_of content new) found fields reading.known next in
    record { one = all.0; none = all.1.0; known = all.1.1 }
