-- Each row of the table of fields, beside the meaning of its name.
use Rattle.std.proofs.Common.{◌≡◌, ◌↔◌, ℕ, ◌+◌, ◌*◌, ◌<◌, ◌≤◌, List, [], ◌∷◌, ◌++◌, take, drop, Bool, true, false, cond, Option, Some, None, refl, ap, subst, arith}
use Rattle.std.specs.Option.{option_map_or}
use Rattle.std.specs.Str.{bytes_eq}
use Rattle.bq_disc.specs.Tasks.{Task, id_of}
use Rattle.bq_hooks.specs.Contexts.{PlaceFacts, PreemptFacts, PullFacts, place_header, place_bytes_below, preempt_bytes, pull_header, pull_bytes, task_bytes, u32_bytes, u64_bytes, as_number, nobody, or_nobody}
use Rattle.bq_hooks.specs.declared.hook.Hook.TheVariants.{Place, Preempt, Pull}
use Rattle.bq_verify.proofs.EachSlotLemmas.{◌then◌}
use Rattle.bq_policy_run.specs.declared.fields.FieldWidth.{FieldWidth}
use Rattle.bq_policy_run.specs.Fields.{NamedField, bytes_in, fields_of, once, row_named, several}
use Rattle.bq_policy_run.specs.FieldsLaw.{FieldHolds, Meaning, each, meaning_named, one, place_meanings, preempt_meanings, pull_meanings}
use Rattle.bq_policy_run.proofs.PieceLemmas.{load_holds, tasks_hold}

-- the row and the meaning have one name and as many fields, or numbers, up to the end of the context, and each field holds its bytes
pub record MatchesMeaning (context : List ℕ) (end : ℕ) (row : NamedField) (m : Meaning) : Type 0 where
  pub name : row.name ≡ m.name
  pub single : (row.count ≡ 1) ↔ (m.count ≡ 1)
  pub several : (1 < row.count) ↔ (1 < m.count)
  pub within : (number : ℕ) → (number < row.count) × (row.at + number * row.apart + bytes_in row.width ≤ end) ↔ (number < m.count)
  pub holds : (number : ℕ) → number < m.count → FieldHolds context (row.at + number * row.apart) row.width (m.bytes number)

-- each row beside its meaning
abbrev pub AllMatch : List ℕ → ℕ → List NamedField → List Meaning → Type 0
AllMatch context end [] [] = Unit {0}
AllMatch context end [] (m ∷ ms) = ⊥
AllMatch context end (row ∷ rows) [] = ⊥
AllMatch context end (row ∷ rows) (m ∷ ms) = MatchesMeaning context end row m × AllMatch context end rows ms

-- a row and its meaning, or neither
abbrev pub Beside : List ℕ → ℕ → Option NamedField → Option Meaning → Type 0
Beside context end None None = Unit {0}
Beside context end None (Some m) = ⊥
Beside context end (Some row) None = ⊥
Beside context end (Some row) (Some m) = MatchesMeaning context end row m

-- the row of a name stands beside the meaning of that name
pub named_beside : (context : List ℕ) (end : ℕ) (rows : List NamedField) (ms : List Meaning) (name : List ℕ)
    → AllMatch context end rows ms → Beside context end (row_named rows name) (meaning_named ms name)
named_beside context end [] [] name all = tt
named_beside context end [] (m ∷ ms) name all = absurd all
named_beside context end (row ∷ rows) [] name all = absurd all
named_beside context end (row ∷ rows) (m ∷ ms) name all =
    subst (λ n. Beside context end (row_named (row ∷ rows) name) (cond (bytes_eq n name) (Some m) (meaning_named ms name)))
    all.0.name (go (bytes_eq row.name name) all.0 (named_beside context end rows ms name all.1))
  where
    go : (found : Bool) → MatchesMeaning context end row m → Beside context end (row_named rows name) (meaning_named ms name)
        → Beside context end (cond found (Some row) (row_named rows name)) (cond found (Some m) (meaning_named ms name))
    go true here later = here
    go false here later = later

-- beside a row stands a meaning
pub meaning_beside : (context : List ℕ) (end : ℕ) (row : NamedField) (o : Option Meaning)
    → Beside context end (Some row) o → (m : Meaning) × (o ≡ Some m) × MatchesMeaning context end row m
meaning_beside context end row None h = absurd h
meaning_beside context end row (Some m) h = (m, refl, h)

-- beside a meaning stands a row
pub row_beside : (context : List ℕ) (end : ℕ) (o : Option NamedField) (m : Meaning)
    → Beside context end o (Some m) → (row : NamedField) × (o ≡ Some row) × MatchesMeaning context end row m
row_beside context end None m h = absurd h
row_beside context end (Some row) m h = (row, refl, h)

-- a field that stands once
once_matches : (context : List ℕ) (end : ℕ) (name : List ℕ) (at : ℕ) (width : FieldWidth) (bytes : List ℕ)
    → at + bytes_in width ≤ end → FieldHolds context at width bytes
    → MatchesMeaning context end (once name at width) (one name bytes)
once_matches context end name at width bytes fits h =
    let same : (number : ℕ) → at ≡ at + number * 0 = λ number. omega arith in
    record {
      name = refl;
      single = (λ e. e, λ e. e);
      several = (λ l. l, λ l. l);
      within = λ number. (λ k. k.0, λ l. (l, subst (λ a. a + bytes_in width ≤ end) (same number) fits));
      holds = λ number below. subst (λ a. FieldHolds context a width bytes) (same number) h;
    }

-- fields of one name, as many as end in the context
several_match : (context : List ℕ) (end : ℕ) (name : List ℕ) (at : ℕ) (width : FieldWidth) (apart count shown : ℕ)
    (bytes : ℕ → List ℕ)
    → 1 < count → 1 < shown → ((number : ℕ) → (number < count) × (at + number * apart + bytes_in width ≤ end) ↔ (number < shown))
    → ((number : ℕ) → number < shown → FieldHolds context (at + number * apart) width (bytes number))
    → MatchesMeaning context end (several name at width apart count) (each name shown bytes)
several_match context end name at width apart count shown bytes many much within holds =
    record {
      name = refl;
      single = (λ e. absurd (omega (arith, many, e)), λ e. absurd (omega (arith, much, e)));
      several = (λ l. much, λ l. many);
      within = within;
      holds = holds;
    }

-- the parts of the task that the rule would choose, and the own choice behind them
choice_read : (o : Option Task) (own rest : List ℕ) →
    (take 4 (task_bytes nobody o ++ own ++ rest) ≡ u32_bytes (or_nobody (id_of o)))
    × (take 4 (drop 4 (task_bytes nobody o ++ own ++ rest)) ≡ u32_bytes (option_map_or (λ (t : Task). t.weight) o 0))
    × (take 8 (drop 8 (task_bytes nobody o ++ own ++ rest)) ≡ u64_bytes (option_map_or (λ (t : Task). t.v) o 0))
    × (drop 16 (task_bytes nobody o ++ own ++ rest) ≡ own ++ rest)
choice_read None own rest = (refl, refl, refl, refl)
choice_read (Some t) own rest = (refl, refl, refl, refl)

-- the rows of place, in a context that shows the processors below a limit
pub place_match : (limit : ℕ) (f : PlaceFacts) → 1 < limit → limit ≤ 64
    → AllMatch (place_bytes_below limit f) (40 + 4 * limit) (fields_of Place) (place_meanings limit f)
unfolding place_bytes_below place_header
place_match limit f many few =
    let c : List ℕ = place_bytes_below limit f in
    let end : ℕ = 40 + 4 * limit in
    once_matches c end _ _ _ _ (omega arith) refl
    then once_matches c end _ _ _ _ (omega arith) refl
    then once_matches c end _ _ _ _ (omega arith) refl
    then once_matches c end _ _ _ _ (omega arith) refl
    then once_matches c end _ _ _ _ (omega arith) refl
    then once_matches c end _ _ _ _ (omega arith) refl
    then once_matches c end _ _ _ _ (omega arith) refl
    then once_matches c end _ _ _ _ (omega arith) refl
    then several_match c end _ _ _ _ _ _ _ (omega arith) many
    (λ k. (λ h. omega (arith, h.1), λ l. (omega (arith, l, few), omega (arith, l)))) (load_holds limit f)
    then tt

-- the rows of the table of `preempt` match its context
pub preempt_match : (f : PreemptFacts) → AllMatch (preempt_bytes f) 56 (fields_of Preempt) (preempt_meanings f)
unfolding preempt_bytes
preempt_match f =
    let c : List ℕ = preempt_bytes f in
    let end : ℕ = 56 in
    let read = choice_read f.choice (u32_bytes (as_number f.own)) (u32_bytes 0) in
    once_matches c end _ _ _ _ (omega arith) refl
    then once_matches c end _ _ _ _ (omega arith) refl
    then once_matches c end _ _ _ _ (omega arith) refl
    then once_matches c end _ _ _ _ (omega arith) refl
    then once_matches c end _ _ _ _ (omega arith) refl
    then once_matches c end _ _ _ _ (omega arith) refl
    then once_matches c end _ _ _ _ (omega arith) read.0
    then once_matches c end _ _ _ _ (omega arith) read.1
    then once_matches c end _ _ _ _ (omega arith) read.2
    then once_matches c end _ _ _ _ (omega arith) (ap (take 4) read.3)
    then tt

-- the rows of the table of `pull` match its context
pub pull_match : (f : PullFacts) → AllMatch (pull_bytes f) 160 (fields_of Pull) (pull_meanings f)
unfolding pull_bytes pull_header
pull_match f =
    let c : List ℕ = pull_bytes f in
    let end : ℕ = 160 in
    once_matches c end _ _ _ _ (omega arith) refl
    then once_matches c end _ _ _ _ (omega arith) refl
    then once_matches c end _ _ _ _ (omega arith) refl
    then once_matches c end _ _ _ _ (omega arith) refl
    then once_matches c end _ _ _ _ (omega arith) refl
    then once_matches c end _ _ _ _ (omega arith) refl
    then once_matches c end _ _ _ _ (omega arith) refl
    then several_match c end _ _ _ _ _ _ _ (omega arith) (omega arith) (λ k. (λ h. h.0, λ l. (l, omega (arith, l))))
    (λ k l. (tasks_hold f k l).0)
    then several_match c end _ _ _ _ _ _ _ (omega arith) (omega arith) (λ k. (λ h. h.0, λ l. (l, omega (arith, l))))
    (λ k l. (tasks_hold f k l).1)
    then several_match c end _ _ _ _ _ _ _ (omega arith) (omega arith) (λ k. (λ h. h.0, λ l. (l, omega (arith, l))))
    (λ k l. (tasks_hold f k l).2)
    then tt
