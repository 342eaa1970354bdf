-- What the verifier judges.
use Rattle.std.specs.Prelude.{ℕ, List, Option}
use Rattle.bq_insn.specs.declared.Insn.{Insn}
use Rattle.bq_insn.specs.Slots.{spread}
use Rattle.bq_bpf.specs.declared.shape.MapShape.{MapShape}
use Rattle.bq_hooks.specs.Hooks.{context_length_of}
use Rattle.bq_hooks.specs.declared.hook.Hook.{Hook}
use Rattle.bq_hooks.specs.declared.hook.Version.{Version}
use Rattle.bq_verify.specs.declared.subject.SubjectView.{SubjectView}
use Rattle.bq_verify.specs.declared.policy_form.PolicyForm.{PolicyForm}
use Rattle.bq_verify.specs.declared.program.Program.{Program}

-- what the verifier judges: the instruction of each slot, the shapes of the maps, and the number of bytes of the context
pub record Subject : Type 0 where
  pub slots : List (Option Insn)
  pub shapes : List MapShape
  pub context : ℕ

-- how many bytes the context of a policy of this form has
abbrev pub context_size_of : PolicyForm → ℕ
context_size_of form = context_length_of form.hook form.version

-- these slots as a program of this form
abbrev pub subject_of_slots : List (Option Insn) → PolicyForm → Subject
subject_of_slots slots form = record { slots = slots; shapes = form.shapes.items; context = context_size_of form }

-- these instructions, one after another, as a program for this hook and version with maps of these shapes
abbrev pub subject_of_insns : List Insn → Hook → Version → List MapShape → Subject
subject_of_insns insns hook version shapes = record { slots = spread insns; shapes = shapes; context = context_length_of hook version }

-- a program as it is handed to `verify`
abbrev pub subject_of_program : Program → Subject
subject_of_program program = subject_of_slots (spread program.insns.items) program.form

-- the specification's view of a `Subject` of the code
abbrev pub subject_of_view : SubjectView → Subject
subject_of_view subject = record { slots = subject.slots.now; shapes = subject.shapes.now; context = subject.context }
