use Rattle.std.proofs.Common.{◌≤◌, length, List, sym, subst, arith}
use Rattle.bq_insn.specs.declared.Insn.{Insn}
use Rattle.bq_insn.specs.Laws.{AllFit}
use Rattle.bq_insn.proofs.NumberLemmas.{numbers_more}
use Rattle.std.proofs.lemmas.Bool.Decides.{nat_tests}
use Rattle.std.proofs.lemmas.Grind.{common_steps}
use Rattle.bq_insn.proofs.FaultLemmas.{is_fault, has_length}
use Rattle.bq_insn.proofs.decode.decode.Goals as goal

pub returns-in-Err-clause-fault : goal.returns-in-Err-clause-fault
returns-in-Err-clause-fault c =
    let bytes = c.args.bytes.now in
    let before = c.loop-rest.invariant in
    let some : 1 ≤ length bytes = grind (arith, nat_tests) in
    is_fault bytes c.loop-rest.slot _ (has_length bytes c.if-bytes-ne0.false some c.if-bytes.false) (record {
      before = c.loop-rest.insns.items;
      rest = c.loop-rest.rest.now;
      are_insns = before.ranged;
      numbers = before.numbers;
      slot_is = before.slots;
      bytes_are = before.spelled;
      front = c.in-Err.ensures.err;
    })

pub loop-rest-preserved : goal.loop-rest-preserved
loop-rest-preserved c =
    let before = c.loop-rest.invariant in
    record {
      ranged = grind (arith, common_steps);
      numbers =
          subst (λ (l : List Insn). AllFit l) (sym c.in_ok-push.ensures.items)
          (numbers_more c.loop-rest.insns.items c.in-Ok.insn before.numbers c.in-Ok.ensures.ok.numbers);
      slots = grind (arith, common_steps);
      spelled = grind (arith, common_steps);
      left = grind (arith, common_steps);
      whole = grind (arith, common_steps);
    }
