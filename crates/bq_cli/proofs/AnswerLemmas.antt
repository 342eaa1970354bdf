-- How what was read, its answer, and what was written of it make what a command did.
use Rattle.std.proofs.Common.{◌≡◌, ℕ, Bool, List, subst, sym, inl, inr}
use Rattle.std.specs.Prelude.{Option}
use Rattle.std.specs.Io.KnownBytes.{Appends}
use Rattle.std.proofs.KnownBytes.{Keeps-refl}
use Rattle.bq_streams.specs.Writing.{AppendsPart}
use Rattle.bq_streams.specs.Reading.{GivesAll, GivesSome}
use Rattle.bq_cli.specs.Filtering.{FiltersAll, FilteringBreaksOff}

module _ (Writes : List ℕ → Bool → List ℕ → Type 0) (from to old : Option (List ℕ)) where
  -- if some was read and nothing was written, the command breaks off
  pub broken_before : GivesSome from to → FilteringBreaksOff Writes from to old old
  broken_before gave = inl (gave, Keeps-refl old)

  -- if all was read and its whole answer was written, the command has answered all of it
  pub answered : (new : Option (List ℕ)) (items input output : List ℕ) (accepted ended : Bool)
      → GivesAll from to items → input ≡ items → Writes input accepted output → (ended ≡ accepted) × Appends old new output
      → FiltersAll Writes from to old new ended
  answered new items input output accepted ended gave same answers wrote = record {
    input = input;
    output = output;
    gave = subst (GivesAll from to) (sym same) gave;
    added = wrote.1;
    answers = subst (λ a. Writes input a output) (sym wrote.0) answers;
  }

  -- if all was read and a beginning of its answer was written, the command breaks off
  pub broken_in : (new : Option (List ℕ)) (items input output : List ℕ) (accepted : Bool)
      → GivesAll from to items → input ≡ items → Writes input accepted output → AppendsPart old new output
      → FilteringBreaksOff Writes from to old new
  broken_in new items input output accepted gave same answers wrote = inr record {
    input = input;
    output = output;
    accepted = accepted;
    gave = subst (GivesAll from to) (sym same) gave;
    added = wrote;
    answers = answers;
  }
