use Rattle.std.proofs.Common.{◌≡◌, Some, sym, ◌∙◌}
use Rattle.bq_needs.specs.Operands.{known_in}
use Rattle.bq_needs.proofs.NeedLemmas.{shown_good}
use Rattle.bq_needs.proofs.needs.access_need.Goals as goal

pub returns-in_default-lack_of : goal.returns-in_default-lack_of
returns-in_default-lack_of c =
    let known : known_in c.args.state.now c.in-Some.access.register ≡ Some c.in-Some-known.pointer =
    sym c.known.ensures ∙ c.in-Some-known.is in
    shown_good c.args.policy.now c.args.state.now c.args.insn c.in-Some.access c.in-Some-known.pointer
    (sym c.in-Some.ensures.is) known c.in_default-lack_of.ensures
