use Rattle.std.proofs.Common.{◌≡◌, ◌∙◌, sym}
use Rattle.bq_insn.specs.contracts.InsnPartialEq.TheImpl as impl
use Rattle.bq_installed.proofs.SameInsnLemmas.{insn_decides}
use Rattle.bq_installed.proofs.same.same_insn.Goals as goal

pub returns : goal.returns
returns c =
    let e : c.eq.result ≡ impl.eq-value.it c.args.insn.now c.args.other.now = c.eq.ensures in
    let h = insn_decides c.args.insn.now c.args.other.now in
    (λ k. h.0 (sym e ∙ k), λ k. e ∙ h.1 k)
