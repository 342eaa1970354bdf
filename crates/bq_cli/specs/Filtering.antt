-- What a filter reads and writes.
use Rattle.std.specs.Prelude.{◌≡◌, ℕ, Bool, false, List, Option, ◌⊎◌}
use Rattle.std.specs.Io.KnownBytes.{Appends, Keeps}
use Rattle.bq_streams.specs.Counts.{call_count, failures_of}
use Rattle.bq_streams.specs.Faults.{IsStreamFault}
use Rattle.bq_streams.specs.Reading.{GivesAll, GivesSome}
use Rattle.bq_streams.specs.Writing.{AppendsPart}
use Rattle.bq_streams.specs.declared.counted.Counted.{Counted}
use Rattle.bq_streams.specs.declared.fault.StreamFault.{StreamFault}
use Rattle.bq_policy_file.specs.Asm.{AsmWrites}
use Rattle.bq_policy_file.specs.Check.{CheckWrites}
use Rattle.bq_policy_file.specs.Dis.{DisWrites}
use Rattle.bq_policy_file.specs.Forms.{AsksForForm, RefusesOptions}
use Rattle.bq_policy_file.specs.declared.form.ProgramForm.{ProgramForm}
use Rattle.bq_policy_file.specs.declared.options.Options.{Options}
use Rattle.bq_cli.specs.declared.filter.Filter.{Filter}
use Rattle.bq_cli.specs.declared.filter.Filter.TheVariants.{Asm, Check, Dis}

-- What a filter may write for an input, and whether it accepts the input then.
abbrev pub FilterWrites : Filter → List ℕ → Bool → List ℕ → Type 0
FilterWrites (Asm form) = AsmWrites form
FilterWrites Check = CheckWrites
FilterWrites Dis = DisWrites

-- The reader gave these bytes and has no more, and the writer got their answer.
pub record FiltersAll (Writes : List ℕ → Bool → List ℕ → Type 0) (from to old new : Option (List ℕ)) (accepted : Bool) : Type 0 where
  pub input : List ℕ
  pub output : List ℕ
  pub gave : GivesAll from to input
  pub added : Appends old new output
  pub answers : Writes input accepted output

-- The reader gave these bytes and has no more, and the writer got a beginning of their answer.
pub record AnswersPart (Writes : List ℕ → Bool → List ℕ → Type 0) (from to old new : Option (List ℕ)) : Type 0 where
  pub input : List ℕ
  pub output : List ℕ
  pub accepted : Bool
  pub gave : GivesAll from to input
  pub added : AppendsPart old new output
  pub answers : Writes input accepted output

-- The writer got nothing until now, or a beginning of the answer to all that the reader had.
abbrev pub FilteringBreaksOff : (List ℕ → Bool → List ℕ → Type 0) → Option (List ℕ) → Option (List ℕ) → Option (List ℕ) → Option (List ℕ) → Type 0
FilteringBreaksOff Writes from to old new = (GivesSome from to × Keeps old new) ⊎ AnswersPart Writes from to old new

-- The options ask for a form, and the writer got the answer in it to all that the reader had.
pub record AnswersInForm (o : Options) (from to old new : Option (List ℕ)) (accepted : Bool) : Type 0 where
  pub form : ProgramForm
  pub asks : AsksForForm o form
  pub answers : FiltersAll (AsmWrites form) from to old new accepted

-- Nothing was read, and the writer got the line that refuses the options.
pub record RefusesUnread (o : Options) (from to old new : Option (List ℕ)) (accepted : Bool) : Type 0 where
  pub line : List ℕ
  pub refuses : RefusesOptions o line
  pub refused : accepted ≡ false
  pub unread : to ≡ from
  pub added : Appends old new line

-- The options ask for a form, and the writer got nothing until now, or a beginning of the answer in that form.
pub record BreaksOffInForm (o : Options) (from to old new : Option (List ℕ)) : Type 0 where
  pub form : ProgramForm
  pub asks : AsksForForm o form
  pub breaks : FilteringBreaksOff (AsmWrites form) from to old new

-- Nothing was read, and the writer got a beginning of the line that refuses the options.
pub record RefusesInPart (o : Options) (from to old new : Option (List ℕ)) : Type 0 where
  pub line : List ℕ
  pub refuses : RefusesOptions o line
  pub unread : to ≡ from
  pub added : AppendsPart old new line

-- Nothing was read, and nothing written.
abbrev pub DoesNothing : Option (List ℕ) → Option (List ℕ) → Option (List ℕ) → Option (List ℕ) → Type 0
DoesNothing from to old new = (to ≡ from) × Keeps old new

-- `asm` came to its end: it answered the text in the form, or refused the options and read nothing
abbrev pub AsmFilters : Options → Option (List ℕ) → Option (List ℕ) → Option (List ℕ) → Option (List ℕ) → Bool → Type 0
AsmFilters o from to old new accepted = AnswersInForm o from to old new accepted ⊎ RefusesUnread o from to old new accepted

-- `asm` broke off: in its answer, in the line that refuses the options, or before it did anything
abbrev pub AsmFiltersInPart : Options → Option (List ℕ) → Option (List ℕ) → Option (List ℕ) → Option (List ℕ) → Type 0
AsmFiltersInPart o from to old new = BreaksOffInForm o from to old new ⊎ (RefusesInPart o from to old new ⊎ DoesNothing from to old new)

-- The fault of a reader and a writer that a command has led from their old counts to their new ones: it comes only for its cause.
abbrev pub IsFaultOf : {R W : Type 0} → Counted R → Counted R → Counted W → Counted W → StreamFault → Type 0
IsFaultOf input read output written why =
    IsStreamFault why (failures_of input) (failures_of read) (failures_of output) (failures_of written) (call_count input) (call_count read)
