use Rattle.std.proofs.Common.{◌≡◌, true, rules, subst, sym}
use Rattle.bq_insn.specs.Faults.{is_program_length}
use Rattle.bq_insn.specs.Spelling.{spelling}
use Rattle.bq_insn.proofs.LengthLemmas.{program_length}
use Rattle.bq_policy_file.proofs.policy_source.PolicySource.image.Goals as goal

pub image_of-requires : goal.image_of-requires
image_of-requires c =
    let insns = c.args.self.now.insns.items in
    let bytes : c.encode.new.out.items ≡ spelling insns = search rules in
    subst (λ b. is_program_length b ≡ true) (sym bytes) (program_length insns (search rules))
