use Rattle.std.proofs.Common.{◌≡◌, ◌≤◌, ◌+◌, true, arith, rules, sym, ◌∙◌}
use mir.Syntax.{w16}
use mir.Val.{SFits}
use Rattle.bq_insn.specs.Slots.{byte_count}
use Rattle.bq_bpf.specs.Meaning.{word_of}
use Rattle.bq_transfer.proofs.LoadLemmas.{place_gives}
use Rattle.bq_transfer.proofs.PlaceLemmas.{sum_is, placed_in}
use Rattle.bq_transfer.proofs.access.locate.Goals as goal

pub returns-clause-finds : goal.returns-clause-finds
returns-clause-finds c =
    let distance : c.word_of_distance.result ≡ word_of c.args.access.off = search rules in
    place_gives c.args.shapes.now c.args.context c.args.state.now c.args.access.size c.args.access.base c.args.access.off
    c.in-Some.base c.in-Some-bound.bound c.alu-at.result c.in-Some.ensures c.in-Some-bound.ensures.bounds
    (c.in-Some-bound.ensures.small c.requires.context)
    (λ u w.
    rw (← sum_is u (word_of c.args.access.off))
    (c.alu-at.ensures.holds u (word_of c.args.access.off) w
    (omega (arith, c.single.ensures.lo, distance), omega (arith, c.single.ensures.hi, distance)))) (search rules)

pub returns-clause-there : goal.returns-clause-there
returns-clause-there c = λ kind place placed.
    let distance : c.word_of_distance.result ≡ word_of c.args.access.off = search rules in
    let short : SFits w16 c.args.access.off = search rules in
    let single = c.single.ensures.lo ∙ sym c.single.ensures.hi in
    let found =
    placed_in c.args.shapes.now c.args.context c.args.state.now c.args.access.size c.args.access.base c.args.access.off
    kind place short placed c.in-Some.base c.in-Some.ensures c.in-Some-bound.bound c.in-Some-bound.ensures.is
    (c.in-Some-bound.ensures.small c.requires.context) c.alu-at.result c.single.result.lo (c.single.ensures.lo ∙ distance)
    (λ e. c.alu-at.ensures.single_low e single) (λ e. c.alu-at.ensures.single_high e single) in
    (found.0, found.1, found.2)

pub returns-then-not-stays-clause-accepts : goal.returns-then-not-stays-clause-accepts
returns-then-not-stays-clause-accepts c = λ kind place placed.
    let distance : c.word_of_distance.result ≡ word_of c.args.access.off = search rules in
    let short : SFits w16 c.args.access.off = search rules in
    let single = c.single.ensures.lo ∙ sym c.single.ensures.hi in
    let found =
    placed_in c.args.shapes.now c.args.context c.args.state.now c.args.access.size c.args.access.base c.args.access.off
    kind place short placed c.in-Some.base c.in-Some.ensures c.in-Some-bound.bound c.in-Some-bound.ensures.is
    (c.in-Some-bound.ensures.small c.requires.context) c.alu-at.result c.single.result.lo (c.single.ensures.lo ∙ distance)
    (λ e. c.alu-at.ensures.single_low e single) (λ e. c.alu-at.ensures.single_high e single) in
    let inside : c.alu-at.result.hi + byte_count c.args.access.size ≤ c.in-Some-bound.bound = omega (arith, found.2, found.3) in
    let yes : c.stays.result ≡ true = c.stays.ensures.1 inside in
    cc
