-- What a writer gets of the texts that a sink makes.
use Rattle.std.specs.Prelude.{◌≡◌, ◌⊎◌, ℕ, List, [], Option}
use Rattle.std.specs.Io.KnownBytes.{Appends}
use Rattle.bq_trace.specs.TraceEvents.{TraceEvent}

-- the writer gets the text that was pending, and the sink is cleared
pub record Empties {S : Type 0} (pending : S → List ℕ) (Clears : S → S → Type 0) (old : S) (was : Option (List ℕ)) (new : S) (now : Option (List ℕ)) : Type 0 where
  pub cleared : Clears old new
  pub empty : pending new ≡ []
  pub added : Appends was now (pending old)

-- the pending bytes went to the output, or nothing has changed
abbrev pub IsPassedOn : {S : Type 0} → (S → List ℕ) → (S → S → Type 0) → S → Option (List ℕ) → S → Option (List ℕ) → Type 0
IsPassedOn pending Clears old was new now = ((new ≡ old) × (now ≡ was)) ⊎ Empties pending Clears old was new now

-- the sink takes an event, and then its text is passed on or kept
pub record TakesAndPasses {S : Type 0} (takes : S → ℕ → TraceEvent → S → Type 0) (pending : S → List ℕ) (Clears : S → S → Type 0)
    (old : S) (was : Option (List ℕ)) (n : ℕ) (traced : TraceEvent) (new : S) (now : Option (List ℕ)) : Type 0 where
  pub mid : S
  pub taken : takes old n traced mid
  pub passed : IsPassedOn pending Clears mid was new now
