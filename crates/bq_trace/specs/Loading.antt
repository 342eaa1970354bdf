-- Images that a trace installs, and the lines that refuse them.
use Rattle.std.specs.Prelude.{◌≡◌, ◌≢◌, ℕ, List, ◌⊎◌, Some, Result, Ok, Err, codes}
use Rattle.hex.specs.declared.error.FromHexError.{FromHexError}
use Rattle.hex.specs.Hex.{decode_of}
use Rattle.bq_verify.specs.Accepted.{Accepted}
use Rattle.bq_hooks.specs.declared.hook.Hook.{Hook}
use Rattle.bq_load.specs.Answers.{Loads, IsUnloaded}
use Rattle.bq_load.specs.Naming.{load_fault_text}
use Rattle.bq_load.specs.declared.fault.LoadFault.{LoadFault}
use Rattle.bq_load.specs.declared.fault.LoadFault.TheVariants as fault
use Rattle.bq_parts.specs.declared.event.Event.TheVariants.{Install}
use Rattle.bq_parts.specs.declared.reply.Reply.{Reply}
use Rattle.bq_parts.specs.declared.refusal.Refusal.{Refusal}
use Rattle.bq_words.specs.Refused.{refused_line}
use Rattle.bq_trace.specs.Machines.{TraceMachine}
use Rattle.bq_trace.specs.Doing.{DoesAndAnswers}

-- the line that refuses an image
abbrev pub load_fault_line : LoadFault → List ℕ
load_fault_line why = refused_line (load_fault_text why)

-- the line that refuses a word that is not hex
abbrev pub no_hex_line : List ℕ
no_hex_line = refused_line (codes "hex")

-- the word is not hex: it is refused, and the machine stays as it is
abbrev pub RefusesHex : TraceMachine → List ℕ → List ℕ → TraceMachine → Type 0
RefusesHex m image text n = (error : FromHexError) × (decode_of image ≡ Err error) × (text ≡ no_hex_line) × (n ≡ m)

-- the word spells bytes that do not load: they are refused, and the machine stays as it is
abbrev pub RefusesImage : TraceMachine → List ℕ → List ℕ → TraceMachine → Type 0
RefusesImage m image text n =
    (bytes : List ℕ) × (why : LoadFault) × (decode_of image ≡ Ok bytes) × IsUnloaded bytes why × (why ≢ fault.OutOfMemory) × (text ≡ load_fault_line why) × (n ≡ m)

-- the word spells the image of a program that is accepted, and its policy is installed as an event
abbrev pub InstallsImage : TraceMachine → ℕ → Hook → ℕ → List ℕ → List ℕ → TraceMachine → Type 0
InstallsImage m c hook generation image text n =
    (bytes : List ℕ) × (policy : Accepted) × (answer : Result Reply Refusal) × (decode_of image ≡ Ok bytes) × Loads bytes policy
    × DoesAndAnswers m (Install c hook generation (Some policy)) answer text n

-- An image is refused and nothing happens, or its policy is installed as an event.
abbrev pub LoadsAndAnswers : TraceMachine → ℕ → Hook → ℕ → List ℕ → List ℕ → TraceMachine → Type 0
LoadsAndAnswers m c hook generation image text n = RefusesHex m image text n ⊎ (RefusesImage m image text n ⊎ InstallsImage m c hook generation image text n)
