use Rattle.std.proofs.Common.{◌≡◌, [], subst, refl, rules, arith, take, append-nil, sym}
use Rattle.std.specs.Io.KnownBytes.{Consumes, IsAtEnd}
use Rattle.std.proofs.KnownBytes.{Consumes-trans}
use Rattle.bq_streams.specs.Counts.{counted_inner}
use Rattle.bq_streams.proofs.ResultLemmas.{OnErr-anyhow}
use Rattle.bq_streams.specs.Reading.{GivesSome}
use Rattle.bq_streams.proofs.whole.read_whole.Goals as goal

pub returns-then-count-eq0-clause-all : goal.returns-then-count-eq0-clause-all
returns-then-count-eq0-clause-all g c =
    let from = g.R.Read.remaining (counted_inner c.args.input.now) in
    let to = g.R.Read.remaining (counted_inner c.read.new.self) in
    let nothing : take c.in_ok-count.count c.read.new.buf ≡ [] = rw c.if-count-eq0.true refl in
    let last : Consumes (g.R.Read.remaining (counted_inner c.loop.input)) to [] = subst (Consumes _ to) nothing c.in_ok-count.ensures.bytes.0 in
    let at_end : IsAtEnd to = c.in_ok-count.ensures.bytes.1 c.if-count-eq0.true (search rules) in
    (subst (Consumes from to) (append-nil c.loop.whole.items) (Consumes-trans _ _ _ _ _ c.loop.invariant.consumed last), at_end)

pub returns-in_err-extend_from_slice-clause-part : goal.returns-in_err-extend_from_slice-clause-part
returns-in_err-extend_from_slice-clause-part g c =
    let from = g.R.Read.remaining (counted_inner c.args.input.now) in
    let to = g.R.Read.remaining (counted_inner c.read.new.self) in
    let some : GivesSome from to = (_, Consumes-trans _ _ _ _ _ c.loop.invariant.consumed c.in_ok-count.ensures.bytes.0) in
    OnErr-anyhow _ some

pub loop-preserved : goal.loop-preserved
loop-preserved g c =
    let from = g.R.Read.remaining (counted_inner c.args.input.now) in
    let to = g.R.Read.remaining (counted_inner c.read.new.self) in
    record {
      reads = search rules;
      calls = omega arith;
      consumed =
          subst (Consumes from to) (sym c.in_ok-extend_from_slice.ensures.items)
          (Consumes-trans _ _ _ _ _ c.loop.invariant.consumed c.in_ok-count.ensures.bytes.0);
    }
