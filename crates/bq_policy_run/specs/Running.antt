-- What `run` answers to a policy's file.
use Rattle.std.specs.Prelude.{◌≡◌, ℕ, ◌+◌, ◌^◌, Bool, false, List, [], ◌++◌, is_some, length, replicate, ◌⊎◌, Option, Some, None, String, codes, string_bytes}
use Rattle.std.specs.declared.alloc.Global.{Global}
use Rattle.std.specs.Fmt.{decimal, digits}
use Rattle.bq_insn.specs.Slots.{spread}
use Rattle.bq_bpf.specs.declared.board.CounterCall.{CounterCall}
use Rattle.bq_bpf.specs.declared.board.TheConstants.{COUNTERS}
use Rattle.bq_explain.specs.declared.verdict.Verdict.{Verdict}
use Rattle.bq_explain.specs.declared.verdict.Verdict.TheVariants as verdict
use Rattle.bq_explain.specs.Verdicts.{IsAcceptedPolicy, IsRefusedPolicy, verdict_line}
use Rattle.bq_policy_run.specs.declared.inputs.Inputs.{Inputs}
use Rattle.bq_maps.specs.Arrays.{Arrays}
use Rattle.bq_bpf.specs.Runs.{start}
use Rattle.bq_bpf.specs.declared.runs.Env.{Env}
use Rattle.bq_interp.specs.declared.traced.Snapshot.{Snapshot}
use Rattle.bq_interp.specs.Progress.{setting_of}
use Rattle.bq_interp.specs.Snapshots.{AreSnapshots}
use Rattle.bq_policy_run.specs.Changes.{calls_text, changes_text, with_all}
use Rattle.bq_policy_run.specs.Naming.{AreZeroMaps, IsContextNamed, SetsCounter, SetsEntry, SetsFields, TextsInTurn}
use Rattle.bq_policy_run.specs.Permitting.{permission_of}
use Rattle.bq_policy_run.specs.Runs.{AreRuns, IsRun, PersistentState, kept_in}
use Rattle.bq_verify.specs.declared.cause.Cause.{Cause}
use Rattle.bq_verify.specs.Accepted.{Accepted}
use Rattle.bq_hooks.specs.Hooks.{context_length_of}
use Rattle.bq_hooks.specs.declared.hook.Hook.{Hook}
use Rattle.bq_policy_file.specs.declared.head.Head.{Head}
use Rattle.bq_policy_file.specs.declared.policy_source.PolicySource.{PolicySource}
use Rattle.bq_policy_file.specs.Files.{IsPolicy}
use Rattle.bq_policy_check.specs.declared.answered.Answered.{Answered}
use Rattle.bq_policy_check.specs.declared.answered.Answered.TheVariants.{Done, Refused}
use Rattle.bq_policy_check.specs.declared.words.RunWords.{RunWords}
use Rattle.bq_policy_run.specs.Judging.{BeginsWithWord}
use Rattle.bq_policy_check.specs.Refusing.{IsRefusedFile}
use Rattle.bq_policy_run.specs.Tracing.{ReportsSteps}
use Rattle.bq_words.specs.Durations.{duration_of}
use Rattle.bq_policy_check.specs.Given.{IsNumberBelow, IsWordsFault, GivesHead, option_bytes}

-- without a word the number is 0, and it is below that limit
abbrev pub IsNumberOrZero : ℕ → Option (List ℕ) → ℕ → Type 0
IsNumberOrZero limit None n = n ≡ 0
IsNumberOrZero limit (Some word) n = IsNumberBelow limit word n

-- the word writes this many nanoseconds: a number, or one with a unit, and it is below 2^64
abbrev pub WritesTime : List ℕ → ℕ → Type 0
WritesTime word n = IsNumberBelow (2 ^ 64) word n ⊎ (duration_of word ≡ Some n)

-- without a word the time is 0
abbrev pub IsTime : Option (List ℕ) → ℕ → Type 0
IsTime None n = n ≡ 0
IsTime (Some word) n = WritesTime word n

-- the time, of 64 bits, and the processor, of 32, are those that the words name
pub record HasClock (w : RunWords) (env : Env) : Type 0 where
  pub now : IsTime (option_bytes w.time) env.now
  pub processor : IsNumberOrZero (2 ^ 32) (option_bytes w.processor) env.processor

-- the context is all 0, or the bytes that a word names, with each field that words name in its turn
pub record HasContext (w : RunWords) (program : Accepted) (context : List ℕ) : Type 0 where
  pub first : List ℕ
  pub begins : IsContextNamed (option_bytes w.context) (context_length_of program.hook program.version) first
  pub fields : TextsInTurn (SetsFields program.hook program.version) w.fields.items first context

-- the maps are all 0, with each entry that words name in its turn
pub record HasMaps (w : RunWords) (program : Accepted) (maps : Arrays) : Type 0 where
  pub clean : Arrays
  pub is_clean : AreZeroMaps program.shapes clean
  pub entries : TextsInTurn SetsEntry w.entries.items clean maps

-- each field, entry and counter that words name leads in its turn from the one to the other
pub record SetsParts (w : RunWords) (program : Accepted) (before after : Inputs) : Type 0 where
  pub fields : TextsInTurn (SetsFields program.hook program.version) w.fields.items before.context.items after.context.items
  pub entries : TextsInTurn SetsEntry w.entries.items before.maps after.maps
  pub counters : TextsInTurn SetsCounter w.counters.items before.board after.board

-- the inputs are those that the words name
pub record HasInputs (w : RunWords) (program : Accepted) (inputs : Inputs) : Type 0 where
  pub clock : HasClock w inputs.env
  pub context : HasContext w program inputs.context.items
  pub maps : HasMaps w program inputs.maps
  pub counters : TextsInTurn SetsCounter w.counters.items (replicate COUNTERS 0) inputs.board

-- the line that tells an answer: in decimal and in hex, then what is said of it, and how many steps of the budget the run took
abbrev pub answer_line : ℕ → List ℕ → ℕ → ℕ → List ℕ
answer_line answer judged steps budget =
    codes "r0 " ++ (decimal answer ++ (codes " (0x" ++ (digits 16 false answer ++ (codes ")  " ++ (judged
    ++ (codes "  steps " ++ (decimal steps ++ (codes " of " ++ (decimal budget ++ codes "\n")))))))))

-- a line for each entry of these maps whose bytes are other now, and then one for each call of a counter
abbrev pub changed_text : Arrays → List (List ℕ) → List CounterCall → List ℕ
changed_text maps now calls = changes_text maps (with_all maps now) ++ calls_text calls

-- The first line tells the answer of a run on that context, with the rule's word on it. Then come the steps and what changed,
-- and at the end how long runs take
pub record ReportsRun (program : Accepted) (context : List ℕ) (answer steps : ℕ) (executed changed timing text : List ℕ) : Type 0 where
  pub judged : List ℕ
  pub word : BeginsWithWord (permission_of program.hook context answer) judged
  pub text_is : text ≡ answer_line answer judged steps program.budget ++ (executed ++ (changed ++ timing))

-- the number of runs before the last, of as many runs as the word says
abbrev pub IsCountBeforeLast : Option (List ℕ) → ℕ → Type 0
IsCountBeforeLast None n = n ≡ 0
IsCountBeforeLast (Some word) n = IsNumberBelow (2 ^ 32) word (n + 1)

-- This many runs of the program on those inputs, one after another, lead to maps and counters from which one more run starts.
-- Its steps, with its own calls of counters, begin from these snapshots of the machine. Shown are its answer, its steps if they
-- are asked for, each entry of the maps that all these runs changed, and its calls. Nothing is said of how long runs take unless
-- a number of runs is asked for
pub record HasRun (traced timed : Bool) (others : ℕ) (program : Accepted) (inputs : Inputs) (answered_as : Answered) : Type 0 where
  pub steps : ℕ
  pub calls : List CounterCall
  pub answer : ℕ
  pub before : PersistentState
  pub after : PersistentState
  pub snapshots : List Snapshot
  pub runs : AreRuns program inputs.context.items inputs.env.now inputs.env.processor others (kept_in inputs) before
  pub run : IsRun program inputs.context.items inputs.env.now inputs.env.processor before steps calls answer after
  pub are : AreSnapshots (setting_of program inputs.context.items inputs.env.now inputs.env.processor) (start before.maps) calls 0 snapshots
  pub each : length snapshots ≡ steps
  pub text : String Global
  pub is : answered_as ≡ Done text
  pub executed : List ℕ
  pub steps_reported : ReportsSteps traced program snapshots executed
  pub timing : List ℕ
  pub untimed : timed ≡ false → timing ≡ []
  pub reported : ReportsRun program inputs.context.items answer steps executed (changed_text inputs.maps after.maps calls) timing (string_bytes text)

-- what is answered: a run on the inputs that the words name, or that words which name none are refused
abbrev pub RunsInputs : RunWords → Accepted → ℕ → Answered → Type 0
RunsInputs w program others answered_as =
    IsWordsFault (HasInputs w program) answered_as ⊎ ((inputs : Inputs) × HasInputs w program inputs × HasRun w.report.is_traced (is_some w.report.repeat) others program inputs answered_as)

-- what is answered: a run after as many others as the words name, or that words which name no number of runs are refused
abbrev pub RunsProgram : RunWords → Accepted → Answered → Type 0
RunsProgram w program answered_as =
    IsWordsFault (IsCountBeforeLast (option_bytes w.report.repeat)) answered_as ⊎ ((others : ℕ) × IsCountBeforeLast (option_bytes w.report.repeat) others × RunsInputs w program others answered_as)

-- the program is that of the policy
pub record IsProgramOf (p : PolicySource) (program : Accepted) : Type 0 where
  pub slots : program.slots ≡ spread p.insns.items
  pub shapes : program.shapes ≡ p.form.shapes.items
  pub hook : program.hook ≡ p.form.hook
  pub version : program.version ≡ p.form.version

-- the text begins with the line that tells the verdict
abbrev pub BeginsWithVerdict : Hook → Verdict → List ℕ → Type 0
BeginsWithVerdict hook named text = (reason : List ℕ) × (text ≡ verdict_line hook named ++ reason)

-- the verifier refuses the policy, which it does to no straight program, and the text begins with the line that says so
pub record IsUnaccepted (p : PolicySource) (answered_as : Answered) : Type 0 where
  pub slot : ℕ
  pub cause : Cause
  pub refusal : IsRefusedPolicy p slot cause
  pub text : String Global
  pub is : answered_as ≡ Refused text
  pub reported : BeginsWithVerdict p.form.hook (verdict.Refused slot cause) (string_bytes text)

-- the verifier accepts the policy's program with its budget, which is the longest path, and it runs
pub record RunsAccepted (w : RunWords) (p : PolicySource) (answered_as : Answered) : Type 0 where
  pub program : Accepted
  pub of : IsProgramOf p program
  pub accepted : IsAcceptedPolicy p program.budget
  pub runs : RunsProgram w program answered_as

-- the answer for a policy: it is not accepted, or it is run
abbrev pub RunsPolicy : RunWords → PolicySource → Answered → Type 0
RunsPolicy w p answered_as = IsUnaccepted p answered_as ⊎ RunsAccepted w p answered_as

-- the answer for a file under a head: its fault, or the answer for its policy
abbrev pub RunsFile : RunWords → List ℕ → Head → Answered → Type 0
RunsFile w bytes h answered_as = IsRefusedFile bytes h answered_as ⊎ ((p : PolicySource) × IsPolicy bytes h p × RunsPolicy w p answered_as)

-- the answer for a file under the head that the words say; words that say none are refused
abbrev pub RunsTo : RunWords → List ℕ → Answered → Type 0
RunsTo w bytes answered_as = IsWordsFault (GivesHead w.policy) answered_as ⊎ ((h : Head) × GivesHead w.policy h × RunsFile w bytes h answered_as)
