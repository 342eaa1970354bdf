-- What the verifier judges of a policy.
use Rattle.bq_insn.specs.Slots.{spread}
use Rattle.bq_verify.specs.Subjects.{Subject, subject_of_slots}
use Rattle.bq_policy_file.specs.declared.policy_source.PolicySource.{PolicySource}

-- the program of a policy as the verifier takes it
abbrev pub subject_in : PolicySource → Subject
subject_in p = subject_of_slots (spread p.insns.items) p.form
