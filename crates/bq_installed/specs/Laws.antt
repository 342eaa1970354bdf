-- Laws of policies: an accepted policy's answer depends only on what it is shown, and comes within its budget.
use Rattle.std.specs.Prelude.{◌≡◌, ℕ, List}
use Rattle.bq_bpf.specs.declared.board.CounterCall.{CounterCall}
use Rattle.bq_interp.specs.Laws.{AnswerAlike}
use Rattle.bq_verify.specs.Accepted.{Accepted}
use Rattle.bq_installed.specs.Answers.{Answers, RunsWithin}
use Rattle.bq_installed.specs.Standing.{IsAsked}

-- a policy that is asked answers within its budget, with at most sixteen calls of counters
abbrev pub AnswersWithin : Type 0
AnswersWithin =
    (policy : Accepted) (context : List ℕ) (maps maps' : List (List ℕ)) (now processor r0 steps : ℕ) (calls : List CounterCall) →
    IsAsked policy context maps now processor → Answers policy context maps now processor r0 maps' steps calls →
    RunsWithin policy steps calls

-- if the counters answer alike, a policy gives one answer, in as many steps, and leaves the same maps
abbrev pub AnswersOnce : Type 0
AnswersOnce =
    (policy : Accepted) (context : List ℕ) (maps maps' maps'' : List (List ℕ)) (now processor r0 r0' steps steps' : ℕ) (calls calls' : List CounterCall) →
    IsAsked policy context maps now processor →
    Answers policy context maps now processor r0 maps' steps calls → Answers policy context maps now processor r0' maps'' steps' calls' →
    AnswerAlike calls calls' → (r0 ≡ r0') × (maps' ≡ maps'') × (steps ≡ steps') × (calls ≡ calls')
