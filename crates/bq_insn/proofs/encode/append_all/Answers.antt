use Rattle.std.proofs.Common.{◌∙◌, ◌++◌, ap, take}
use Rattle.std.proofs.lemmas.List.{take_all}
use Rattle.bq_insn.specs.Appending.{StartsWith}
use Rattle.bq_insn.specs.Spelling.{spelling}
use Rattle.bq_insn.proofs.EncodeLemmas.{starts_more, on_err, ranged_here, ranged_after, spelled_more}
use Rattle.bq_insn.proofs.encode.append_all.Goals as goal

pub returns-in_err-append-clause-err : goal.returns-in_err-append-clause-err
returns-in_err-append-clause-err c =
    let before : StartsWith c.args.out.now.items c.loop-insn.out.items =
    (spelling (take c.loop-insn.insn-index c.args.insns.now), c.loop-insn.invariant.added) in
    let after : StartsWith c.args.out.now.items c.append.new.out.items = starts_more _ _ _ before c.in_err-append.ensures.err in
    on_err c.from_residual.result after

pub append-requires : goal.append-requires
append-requires c = ranged_here c.args.insns.now c.loop-insn.insn-index _ c.loop-insn-test.true c.loop-insn.invariant.ranged

pub loop-insn-preserved : goal.loop-insn-preserved
loop-insn-preserved c = record {
  added =
      spelled_more c.args.out.now.items c.loop-insn.out.items c.append.new.out.items c.args.insns.now c.loop-insn.insn-index _
      c.loop-insn-test.true c.loop-insn.invariant.added c.in_ok-append.ensures.ok;
  ranged = ranged_after c.args.insns.now c.loop-insn.insn-index c.loop-insn-test.true c.loop-insn.invariant.ranged;
}

pub returns-clause-ok : goal.returns-clause-ok
returns-clause-ok c =
    c.loop-insn.invariant.added
    ∙ ap (λ insns. c.args.out.now.items ++ spelling insns) (take_all c.loop-insn.insn-index c.args.insns.now c.loop-insn-test.false)
