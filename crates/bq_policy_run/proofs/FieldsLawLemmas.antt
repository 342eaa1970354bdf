-- The field of a name holds what the name says.
use Rattle.std.proofs.Common.{◌≡◌, ℕ, ◌+◌, ◌*◌, List, length, Option, Some, inl, inr, refl, sym, subst, arith}
use Rattle.bq_hooks.proofs.LengthLemmas.{length-place_bytes_first, length-place_bytes_second, length-preempt_bytes, length-pull_bytes}
use Rattle.bq_hooks.specs.Hooks.{context_length_of}
use Rattle.bq_hooks.specs.declared.hook.Hook.{Hook}
use Rattle.bq_hooks.specs.declared.hook.Hook.TheVariants.{Place, Preempt, Pull}
use Rattle.bq_hooks.specs.declared.hook.Version.{Version}
use Rattle.bq_hooks.specs.declared.hook.Version.TheVariants.{First, Second}
use Rattle.bq_policy_run.specs.declared.fields.Field.{Field}
use Rattle.bq_policy_run.specs.Fields.{GoesBy, IsField, NamedField, fields_of, row_named}
use Rattle.bq_policy_run.specs.FieldsLaw.{FactsOf, FieldsAreAsNamed, FieldHolds, Meaning, MeansBytes, shown_context, meaning_named, meanings_of}
use Rattle.bq_policy_run.proofs.FieldTableLemmas.{AllMatch, Beside, MatchesMeaning, meaning_beside, named_beside, place_match, preempt_match, pull_match, row_beside}

-- each row of a hook's table, beside what its name says
all_match : (hook : Hook) (version : Version) (f : FactsOf hook)
    → AllMatch (shown_context hook version f) (context_length_of hook version) (fields_of hook) (meanings_of hook version f)
all_match Place First f = place_match 16 f (omega arith) (omega arith)
all_match Place Second f = place_match 64 f (omega arith) (omega arith)
all_match Preempt version f = preempt_match f
all_match Pull version f = pull_match f

-- what a row says of the context that is shown for these facts is what its name means
abbrev MatchesIn : (hook : Hook) → Version → FactsOf hook → NamedField → Meaning → Type 0
MatchesIn hook version f row m = MatchesMeaning (shown_context hook version f) (context_length_of hook version) row m

-- the meaning of the name of a row
meaning_of_row : (hook : Hook) (version : Version) (f : FactsOf hook) (name : List ℕ) (row : NamedField)
    → row_named (fields_of hook) name ≡ Some row
    → (m : Meaning) × (meaning_named (meanings_of hook version f) name ≡ Some m) × MatchesIn hook version f row m
meaning_of_row hook version f name row is =
    let c = shown_context hook version f in
    let end = context_length_of hook version in
    let ms = meanings_of hook version f in
    meaning_beside c end row (meaning_named ms name)
    (subst (λ (o : Option NamedField). Beside c end o (meaning_named ms name)) is
    (named_beside c end (fields_of hook) ms name (all_match hook version f)))

-- the row of the name of a meaning
row_of_meaning : (hook : Hook) (version : Version) (f : FactsOf hook) (name : List ℕ) (m : Meaning)
    → meaning_named (meanings_of hook version f) name ≡ Some m
    → (row : NamedField) × (row_named (fields_of hook) name ≡ Some row) × MatchesIn hook version f row m
row_of_meaning hook version f name m is =
    let c = shown_context hook version f in
    let end = context_length_of hook version in
    row_beside c end (row_named (fields_of hook) name) m
    (subst (λ (o : Option Meaning). Beside c end (row_named (fields_of hook) name) o) is
    (named_beside c end (fields_of hook) (meanings_of hook version f) name (all_match hook version f)))

-- the field of a name holds what the name says
field_holds : (hook : Hook) (version : Version) (f : FactsOf hook) (name : List ℕ) (field : Field)
    → IsField hook version name field
    → (bytes : List ℕ) × MeansBytes (meanings_of hook version f) name bytes
    × FieldHolds (shown_context hook version f) field.at field.width bytes
field_holds hook version f name field is = go is.named
  where
    go : GoesBy hook name field
        → (bytes : List ℕ) × MeansBytes (meanings_of hook version f) name bytes
        × FieldHolds (shown_context hook version f) field.at field.width bytes
    go (inl by) =
        let reported = meaning_of_row hook version f name by.row by.named in
        let single = reported.2.single.0 by.single.count in
        let at : field.at ≡ by.row.at + 0 * by.row.apart = omega (arith, by.single.at) in
        let here = reported.2.holds 0 (omega (arith, single)) in (
          reported.0.bytes 0,
          inl (record { meaning = reported.0; named = reported.1; single = single; is = refl }),
          rw (at, by.single.width) here,
        )
    go (inr by) =
        let has = by.has in
        let reported = meaning_of_row hook version f by.stem has.row has.named in
        let within = is.within in
        let below = (reported.2.within has.number).0 (has.numbered.below, rw (sym has.numbered.at, sym has.numbered.width) within) in
        let here = reported.2.holds has.number below in (
          reported.0.bytes has.number,
          inr (record {
            stem = by.stem;
            digits = by.digits;
            splits = by.splits;
            number = has.number;
            is_number = has.is_number;
            meaning = reported.0;
            named = reported.1;
            several = reported.2.several.0 has.numbered.count;
            below = below;
            is = refl;
          }),
          rw (has.numbered.at, has.numbered.width) here,
        )

-- the field of a name that says something
field_there : (hook : Hook) (version : Version) (f : FactsOf hook) (name bytes : List ℕ)
    → MeansBytes (meanings_of hook version f) name bytes → (field : Field) × IsField hook version name field
field_there hook version f name bytes (inl means) =
    let reported = row_of_meaning hook version f name means.meaning means.named in
    let row : NamedField = reported.0 in
    let single = reported.2.single.1 means.single in
    let within = (reported.2.within 0).1 (omega (arith, means.single)) in (
      record { at = row.at; width = row.width },
      record {
        named = inl (record { row = row; named = reported.1; single = record { count = single; at = refl; width = refl } });
        within = omega (arith, within.1);
      },
    )
field_there hook version f name bytes (inr means) =
    let reported = row_of_meaning hook version f means.stem means.meaning means.named in
    let row : NamedField = reported.0 in
    let within = (reported.2.within means.number).1 means.below in (
      record { at = row.at + means.number * row.apart; width = row.width },
      record {
        named = inr (record {
          stem = means.stem;
          digits = means.digits;
          splits = means.splits;
          has = record {
            row = row;
            named = reported.1;
            number = means.number;
            is_number = means.is_number;
            numbered = record { count = reported.2.several.1 means.several; below = within.0; at = refl; width = refl };
          };
        });
        within = within.1;
      },
    )

-- the context that is shown has the length of its hook and version
context_long : (hook : Hook) (version : Version) (f : FactsOf hook) → length (shown_context hook version f) ≡ context_length_of hook version
context_long Place First f = length-place_bytes_first f
context_long Place Second f = length-place_bytes_second f
context_long Preempt version f = length-preempt_bytes f
context_long Pull version f = length-pull_bytes f

-- the fields are those of the names that say something, and hold what these say
pub fields_are_as_named : FieldsAreAsNamed
fields_are_as_named = record { holds = field_holds; there = field_there; long = context_long }
