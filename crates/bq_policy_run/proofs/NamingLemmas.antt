-- Words that name no inputs, and inputs that fit the program.
use Rattle.std.proofs.Common.{◌≡◌, ℕ, List, length, replicate, Option, Some, None, inl, inr, sym, subst, ap, ◌∙◌, String, string_bytes}
use Rattle.std.specs.declared.alloc.Global.{Global}
use Rattle.std.proofs.lemmas.List.{length-replicate}
use Rattle.bq_hooks.specs.Hooks.{context_length_of}
use Rattle.bq_maps.specs.Arrays.{Arrays}
use Rattle.bq_verify.specs.Accepted.{Accepted}
use Rattle.bq_policy_run.specs.declared.inputs.Inputs.{Inputs}
use Rattle.bq_policy_run.specs.Naming.{IsContextNamed, SetsEntry, SetsFields, TextsInTurn}
use Rattle.bq_policy_run.specs.Runs.{FitsProgram}
use Rattle.bq_policy_run.proofs.InTurnLemmas.{IsSeen, turns_seen}
use Rattle.bq_policy_run.proofs.RefusalLemmas.{entry_seen, fields_seen, texts_seen}
use Rattle.bq_policy_check.specs.declared.words.RunWords.{RunWords}
use Rattle.bq_words.specs.Numbers.{number_in_base}
use Rattle.bq_words.specs.Durations.{duration_of}
use Rattle.bq_policy_run.specs.Running.{HasInputs, SetsParts, WritesTime}
use Rattle.bq_policy_check.specs.Given.{option_bytes}

-- what is no number of 64 bits, and no number with a unit, writes no time
pub no_time : (word : List ℕ) → duration_of word ≡ None → number_in_base 10 word ≡ None → (time : ℕ) → ¬ WritesTime word time
no_time word none other time (inl is) = let both : None ≡ Some time = sym other ∙ is.0 in absurd (cc)
no_time word none other time (inr is) = let both : None ≡ Some time = sym none ∙ is in absurd (cc)

-- the context that words begin with is one
begin_once : (word : Option (List ℕ)) (len : ℕ) (a b : List ℕ) → IsContextNamed word len a → IsContextNamed word len b → a ≡ b
begin_once None len a b one two = one ∙ sym two
begin_once (Some text) len a b one two = cc (one.0, two.0)

-- the context that words begin with has the length that is wanted
begin_long : (word : Option (List ℕ)) (len : ℕ) (a : List ℕ) → IsContextNamed word len a → length a ≡ len
begin_long None len a is = ap (λ (bs : List ℕ). length bs) is ∙ length-replicate len 0
begin_long (Some text) len a is = is.1

-- words that name inputs lead there from where they begin
pub parts_set : (w : RunWords) (program : Accepted) (before inputs : Inputs)
    → IsContextNamed (option_bytes w.context) (context_length_of program.hook program.version) before.context.items
    → before.maps.shapes ≡ program.shapes → before.board ≡ replicate 64 0 → HasInputs w program inputs
    → (after : Inputs) × SetsParts w program before after
parts_set w program before inputs begins shapes board has =
    let first : has.context.first ≡ before.context.items =
    begin_once (option_bytes w.context) (context_length_of program.hook program.version) has.context.first
    before.context.items has.context.begins begins in
    let seen : IsSeen (λ (words : List (String Global)). TextsInTurn SetsEntry words) (λ (maps : Arrays). maps.shapes) =
    turns_seen (λ (t : String Global). SetsEntry (string_bytes t)) (λ (maps : Arrays). maps.shapes)
    (texts_seen SetsEntry (λ (maps : Arrays). maps.shapes) entry_seen) in
    let moved =
    seen.moves w.entries.items has.maps.clean inputs.maps before.maps has.maps.entries
    (shapes ∙ sym has.maps.is_clean.shapes_are) in (
      record inputs { maps = moved.0 },
      record {
        fields =
            subst
            (λ (context : List ℕ). TextsInTurn (SetsFields program.hook program.version) w.fields.items context inputs.context.items)
            first has.context.fields;
        entries = moved.1;
        counters = rw board has.counters;
      },
    )

-- inputs that words name fit the program
pub named_fits : (w : RunWords) (program : Accepted) (inputs : Inputs) → HasInputs w program inputs → FitsProgram program inputs
named_fits w program inputs has =
    let fields =
    turns_seen (λ (t : String Global). SetsFields program.hook program.version (string_bytes t))
    (λ (context : List ℕ). length context)
    (texts_seen (SetsFields program.hook program.version) (λ (context : List ℕ). length context)
    (fields_seen program.hook program.version)) in
    let entries =
    turns_seen (λ (t : String Global). SetsEntry (string_bytes t)) (λ (maps : Arrays). maps.shapes)
    (texts_seen SetsEntry (λ (maps : Arrays). maps.shapes) entry_seen) in
    record {
      context =
          fields.keeps w.fields.items has.context.first inputs.context.items has.context.fields
          ∙ begin_long (option_bytes w.context) (context_length_of program.hook program.version) has.context.first has.context.begins;
      shapes = entries.keeps w.entries.items has.maps.clean inputs.maps has.maps.entries ∙ has.maps.is_clean.shapes_are;
    }
