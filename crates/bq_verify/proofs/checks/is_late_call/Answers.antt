use Rattle.std.proofs.Common.{◌≡◌, ℕ, sym, subst, Option, Some, None}
use Rattle.std.specs.Prelude.{slice_index_or}
use Rattle.std.proofs.lemmas.Bool.{leb-true, le-leb}
use Rattle.bq_verify.specs.Paths.{IsMostCalls}
use Rattle.bq_verify.proofs.SoundLemmas.{late_by, late_many}
use Rattle.bq_verify.proofs.checks.is_late_call.Goals as goal

pub returns-then-is_counter_call : goal.returns-then-is_counter_call
returns-then-is_counter_call c =
    let known : Some c.in-Some.count ≡ slice_index_or c.args.most.now c.args.slot None = c.in-Some.ensures in
    let greatest = subst (λ (v : Option ℕ). IsMostCalls c.args.slots.now c.args.slot v) (sym known) c.requires.most in (
      λ many.
          late_by c.args.slots.now c.args.slot c.in-Some.count c.args.insn c.requires.here
          (sym c.if-is_counter_call.ensures.asks) greatest (leb-true 16 c.in-Some.count many),
      λ late. le-leb 16 c.in-Some.count (late_many c.args.slots.now c.args.slot c.in-Some.count greatest late),
    )
