use Rattle.std.proofs.Common.{ℕ, ◌++◌, List, length, ap, arith}
use Rattle.bq_parts.specs.World.{loads_of}
use Rattle.bq_core.proofs.LoadLemmas.{one_more, one_longer, all_found, read_is_small}
use Rattle.bq_core.proofs.waking.loads_of.Goals as goal

pub loop-at-init : goal.loop-at-init
loop-at-init g c = record {
  goes_on = ap (λ (loads : List ℕ). loads ++ loads_of c.args.cpus.now c.args.inboxes.now) c.new-loads.ensures;
  counted = ap length c.new-loads.ensures;
}

pub load-requires : goal.load-requires
load-requires g c =
    let small =
    read_is_small c.args.cpus.now c.args.inboxes.now c.loop-at.at c.index-cpus-at.result c.index-inboxes-at.result
    (c.requires.small c.loop-at.at) c.index-cpus-at.is c.index-inboxes-at.is c.loop-at-test.true c.requires.same in
    record { few = omega (arith, small) }

pub overflow_cast-load : goal.overflow_cast-load
overflow_cast-load g c =
    let small =
    read_is_small c.args.cpus.now c.args.inboxes.now c.loop-at.at c.index-cpus-at.result c.index-inboxes-at.result
    (c.requires.small c.loop-at.at) c.index-cpus-at.is c.index-inboxes-at.is c.loop-at-test.true c.requires.same in
    omega (arith, c.load.ensures, small)

pub push-requires : goal.push-requires
push-requires g c = omega (arith, c.loop-at.invariant.counted, c.loop-at-test.true, c.requires.few)

pub loop-at-preserved : goal.loop-at-preserved
loop-at-preserved g c = record {
  goes_on =
      one_more c.args.cpus.now c.args.inboxes.now c.loop-at.loads c.push.new.self c.loop-at.at c.load.result
      c.index-cpus-at.result c.index-inboxes-at.result c.loop-at.invariant.goes_on c.push.ensures c.load.ensures
      c.index-cpus-at.is c.index-inboxes-at.is c.loop-at-test.true c.requires.same;
  counted = one_longer c.loop-at.loads c.push.new.self c.loop-at.at c.load.result c.push.ensures c.loop-at.invariant.counted;
}

pub returns : goal.returns
returns g c = all_found c.args.cpus.now c.args.inboxes.now c.loop-at.loads c.loop-at.at c.loop-at.invariant.goes_on c.loop-at-test.false
