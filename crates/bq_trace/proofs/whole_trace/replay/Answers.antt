use Rattle.std.proofs.Common.{◌≡◌, [], subst, refl, rules, arith, take}
use Rattle.std.specs.Io.KnownBytes.{Consumes, IsAtEnd}
use Rattle.std.proofs.KnownBytes.{Keeps-refl}
use Rattle.std.proofs.lemmas.Result.{IfOk-weaker, on_err_weaker}
use Rattle.bq_streams.specs.Counts.{counted_inner}
use Rattle.bq_streams.proofs.ResultLemmas.{OnErr-anyhow}
use Rattle.bq_trace.proofs.ReplayLemmas.{Underway-none, Underway-more, Underway-ends, Underway-breaks, Underway-stops}
use Rattle.bq_trace.proofs.whole_trace.replay.Goals as goal

pub returns-in_err-count-clause-part : goal.returns-in_err-count-clause-part
returns-in_err-count-clause-part g c = OnErr-anyhow _ (Underway-stops _ _ _ _ _ _ c.loop.invariant.so_far c.in_err-count.ensures.bytes)

pub returns-then-count-eq0-clause-ok : goal.returns-then-count-eq0-clause-ok
returns-then-count-eq0-clause-ok g c =
    let so_far = c.loop.invariant.so_far in
    let from = g.R.Read.remaining (counted_inner c.loop.input) in
    let to = g.R.Read.remaining (counted_inner c.read.new.self) in
    let nothing : take c.in_ok-count.count c.read.new.buf ≡ [] = rw c.if-count-eq0.true refl in
    let consumed : Consumes from to [] = subst (Consumes from to) nothing c.in_ok-count.ensures.bytes.0 in
    let at_end : IsAtEnd to = c.in_ok-count.ensures.bytes.1 c.if-count-eq0.true (search rules) in
    IfOk-weaker c.finish.result _ _
    (λ clean f. Underway-ends _ _ _ _ _ _ _ clean so_far consumed at_end (f so_far.rest so_far.stands)) c.finish.ensures.ok

pub returns-then-count-eq0-clause-part : goal.returns-then-count-eq0-clause-part
returns-then-count-eq0-clause-part g c =
    let so_far = c.loop.invariant.so_far in
    let from = g.R.Read.remaining (counted_inner c.loop.input) in
    let to = g.R.Read.remaining (counted_inner c.read.new.self) in
    let nothing : take c.in_ok-count.count c.read.new.buf ≡ [] = rw c.if-count-eq0.true refl in
    let consumed : Consumes from to [] = subst (Consumes from to) nothing c.in_ok-count.ensures.bytes.0 in
    on_err_weaker c.finish.result (λ b. Underway-breaks _ _ _ _ _ _ _ [] so_far consumed (b so_far.rest so_far.stands))
    c.finish.ensures.part

pub returns-in_err-session-clause-part : goal.returns-in_err-session-clause-part
returns-in_err-session-clause-part g c =
    let so_far = c.loop.invariant.so_far in
    OnErr-anyhow _
    (Underway-breaks _ _ _ _ _ _ _ _ so_far c.in_ok-count.ensures.bytes.0 (c.in_err-session.ensures.part so_far.rest so_far.stands))

pub loop-preserved : goal.loop-preserved
loop-preserved g c =
    let so_far = c.loop.invariant.so_far in
    record {
      reads = search rules;
      writes = search rules;
      calls = omega arith;
      so_far = Underway-more _ _ _ _ _ _ _ _ _ so_far c.in_ok-count.ensures.bytes.0 (c.in_ok-session.ensures.ok so_far.rest so_far.stands);
    }

pub returns-clause-part : goal.returns-clause-part
returns-clause-part g c = Underway-stops _ _ _ _ _ _ c.loop.invariant.so_far (Keeps-refl _)

pub loop-init : goal.loop-init
loop-init g c = record {
  reads = refl;
  writes = refl;
  calls = omega arith;
  so_far = Underway-none _ _ _ c.new-session.ensures.progress c.new-session.ensures.begun;
}
