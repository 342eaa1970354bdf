use Rattle.std.proofs.Common.{◌≡◌, [], subst, refl, rules, arith, take}
use Rattle.std.specs.Io.KnownBytes.{Consumes, IsAtEnd}
use Rattle.std.proofs.lemmas.Result.{IfOk-weaker}
use Rattle.bq_streams.specs.Counts.{counted_inner}
use Rattle.bq_timeline.proofs.WatchLemmas.{Underway-none, Underway-more, Underway-ends}
use Rattle.bq_timeline.proofs.whole_timeline.show.Goals as goal

pub returns-then-count-eq0-clause-timeline : goal.returns-then-count-eq0-clause-timeline
returns-then-count-eq0-clause-timeline g c =
    let so_far = c.loop.invariant.so_far in
    let from = g.R.Read.remaining (counted_inner c.loop.input) in
    let to = g.R.Read.remaining (counted_inner c.read.new.self) in
    let nothing : take c.in_ok-count.count c.read.new.buf ≡ [] = rw c.if-count-eq0.true refl in
    let consumed : Consumes from to [] = subst (Consumes from to) nothing c.in_ok-count.ensures.bytes.0 in
    let at_end : IsAtEnd to = c.in_ok-count.ensures.bytes.1 c.if-count-eq0.true (search rules) in
    IfOk-weaker c.finish.result _ _ (λ outcome f. Underway-ends _ _ _ _ _ _ _ _ outcome so_far consumed at_end (f so_far.rest so_far.stands))
    c.finish.ensures.reported

pub loop-preserved : goal.loop-preserved
loop-preserved g c =
    let so_far = c.loop.invariant.so_far in
    record {
      reads = search rules;
      writes = search rules;
      calls = omega arith;
      so_far =
          Underway-more _ _ _ _ _ _ _ _ _ _ so_far c.in_ok-count.ensures.bytes.0 (c.in_ok-feed.ensures.reported so_far.rest so_far.stands)
          c.in_ok-feed.ensures.empty;
    }

pub loop-init : goal.loop-init
loop-init g c = record {
  reads = refl;
  writes = refl;
  calls = omega arith;
  so_far =
      Underway-none _ _ _ _ c.new-timeline.ensures.progress c.new-timeline.ensures.begun c.new-timeline.ensures.schedule
      c.new-timeline.ensures.bad_or_refused c.new-timeline.ensures.blank c.new-timeline.ensures.text;
}
