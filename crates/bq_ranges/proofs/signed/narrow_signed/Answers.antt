use Rattle.std.proofs.Common.{◌≡◌, ◌<◌, true, false, arith}
use Rattle.bq_bpf.specs.Meaning.{modulus}
use Rattle.bq_insn.specs.declared.Condition.TheVariants as cond
use Rattle.bq_ranges.proofs.SignedLemmas.{at_most_below, at_most_trans, below_at_most, ends_meet, signed_meets}
use Rattle.bq_ranges.proofs.signed.narrow_signed.Goals as goal

pub returns-in-SignedGreater-true-clause-holds : goal.returns-in-SignedGreater-true-clause-holds
returns-in-SignedGreater-true-clause-holds c = λ a b p q h.
    let shows =
    signed_meets c.args.width c.sign-half.result cond.SignedGreater true a b c.sign-half.ensures (omega arith) (omega arith)
    (rw (c.in-SignedGreater-true.is-0, c.in-SignedGreater-true.is-1) at h) in
    c.above.ensures.holds a p (at_most_below c.sign-half.result c.lowest.result b a (c.lowest.ensures.below b q) shows)

pub returns-in-SignedGreater-true-clause-least : goal.returns-in-SignedGreater-true-clause-least
returns-in-SignedGreater-true-clause-least c = λ signed single.
    let same : c.lowest.result ≡ c.args.y.lo = omega arith in
    let small : c.args.y.lo < modulus c.args.width = omega arith in
    rw (c.in-SignedGreater-true.is-0, c.in-SignedGreater-true.is-1)
    (ends_meet c.args.width c.sign-half.result cond.SignedGreater true c.args.x c.args.y.lo _ c.above.result
    c.sign-half.ensures tt c.requires.left small (λ a h. rw (← same) h) c.above.ensures.ends)

pub returns-in-SignedGreater-false-clause-holds : goal.returns-in-SignedGreater-false-clause-holds
returns-in-SignedGreater-false-clause-holds c = λ a b p q h.
    let shows =
    signed_meets c.args.width c.sign-half.result cond.SignedGreater false a b c.sign-half.ensures (omega arith) (omega arith)
    (rw (c.in-SignedGreater-false.is-0, c.in-SignedGreater-false.is-1) at h) in
    c.at_most.ensures.holds a p (at_most_trans c.sign-half.result a b c.highest.result shows (c.highest.ensures.above b q))

pub returns-in-SignedGreater-false-clause-least : goal.returns-in-SignedGreater-false-clause-least
returns-in-SignedGreater-false-clause-least c = λ signed single.
    let same : c.highest.result ≡ c.args.y.lo = omega arith in
    let small : c.args.y.lo < modulus c.args.width = omega arith in
    rw (c.in-SignedGreater-false.is-0, c.in-SignedGreater-false.is-1)
    (ends_meet c.args.width c.sign-half.result cond.SignedGreater false c.args.x c.args.y.lo _ c.at_most.result
    c.sign-half.ensures tt c.requires.left small (λ a h. rw (← same) h) c.at_most.ensures.ends)

pub returns-in-SignedGreaterEqual-true-clause-holds : goal.returns-in-SignedGreaterEqual-true-clause-holds
returns-in-SignedGreaterEqual-true-clause-holds c = λ a b p q h.
    let shows =
    signed_meets c.args.width c.sign-half.result cond.SignedGreaterEqual true a b c.sign-half.ensures (omega arith)
    (omega arith) (rw (c.in-SignedGreaterEqual-true.is-0, c.in-SignedGreaterEqual-true.is-1) at h) in
    c.at_least.ensures.holds a p (at_most_trans c.sign-half.result c.lowest-in-SignedGreaterEqual-true.result b a
    (c.lowest-in-SignedGreaterEqual-true.ensures.below b q) shows)

pub returns-in-SignedGreaterEqual-true-clause-least : goal.returns-in-SignedGreaterEqual-true-clause-least
returns-in-SignedGreaterEqual-true-clause-least c = λ signed single.
    let same : c.lowest-in-SignedGreaterEqual-true.result ≡ c.args.y.lo = omega arith in
    let small : c.args.y.lo < modulus c.args.width = omega arith in
    rw (c.in-SignedGreaterEqual-true.is-0, c.in-SignedGreaterEqual-true.is-1)
    (ends_meet c.args.width c.sign-half.result cond.SignedGreaterEqual true c.args.x c.args.y.lo _ c.at_least.result
    c.sign-half.ensures tt c.requires.left small (λ a h. rw (← same) h) c.at_least.ensures.ends)

pub returns-in-SignedGreaterEqual-false-clause-holds : goal.returns-in-SignedGreaterEqual-false-clause-holds
returns-in-SignedGreaterEqual-false-clause-holds c = λ a b p q h.
    let shows =
    signed_meets c.args.width c.sign-half.result cond.SignedGreaterEqual false a b c.sign-half.ensures (omega arith)
    (omega arith) (rw (c.in-SignedGreaterEqual-false.is-0, c.in-SignedGreaterEqual-false.is-1) at h) in
    c.below.ensures.holds a p (below_at_most c.sign-half.result a b c.highest-in-SignedGreaterEqual-false.result shows
    (c.highest-in-SignedGreaterEqual-false.ensures.above b q))

pub returns-in-SignedGreaterEqual-false-clause-least : goal.returns-in-SignedGreaterEqual-false-clause-least
returns-in-SignedGreaterEqual-false-clause-least c = λ signed single.
    let same : c.highest-in-SignedGreaterEqual-false.result ≡ c.args.y.lo = omega arith in
    let small : c.args.y.lo < modulus c.args.width = omega arith in
    rw (c.in-SignedGreaterEqual-false.is-0, c.in-SignedGreaterEqual-false.is-1)
    (ends_meet c.args.width c.sign-half.result cond.SignedGreaterEqual false c.args.x c.args.y.lo _ c.below.result
    c.sign-half.ensures tt c.requires.left small (λ a h. rw (← same) h) c.below.ensures.ends)

pub returns-in-SignedLess-true-clause-holds : goal.returns-in-SignedLess-true-clause-holds
returns-in-SignedLess-true-clause-holds c = λ a b p q h.
    let shows =
    signed_meets c.args.width c.sign-half.result cond.SignedLess true a b c.sign-half.ensures (omega arith) (omega arith)
    (rw (c.in-SignedLess-true.is-0, c.in-SignedLess-true.is-1) at h) in
    c.below-in-SignedLess-true.ensures.holds a p
    (below_at_most c.sign-half.result a b c.highest-in-SignedLess-true.result shows (c.highest-in-SignedLess-true.ensures.above b q))

pub returns-in-SignedLess-true-clause-least : goal.returns-in-SignedLess-true-clause-least
returns-in-SignedLess-true-clause-least c = λ signed single.
    let same : c.highest-in-SignedLess-true.result ≡ c.args.y.lo = omega arith in
    let small : c.args.y.lo < modulus c.args.width = omega arith in
    rw (c.in-SignedLess-true.is-0, c.in-SignedLess-true.is-1)
    (ends_meet c.args.width c.sign-half.result cond.SignedLess true c.args.x c.args.y.lo _ c.below-in-SignedLess-true.result
    c.sign-half.ensures tt c.requires.left small (λ a h. rw (← same) h) c.below-in-SignedLess-true.ensures.ends)

pub returns-in-SignedLess-false-clause-holds : goal.returns-in-SignedLess-false-clause-holds
returns-in-SignedLess-false-clause-holds c = λ a b p q h.
    let shows =
    signed_meets c.args.width c.sign-half.result cond.SignedLess false a b c.sign-half.ensures (omega arith) (omega arith)
    (rw (c.in-SignedLess-false.is-0, c.in-SignedLess-false.is-1) at h) in
    c.at_least-in-SignedLess-false.ensures.holds a p
    (at_most_trans c.sign-half.result c.lowest-in-SignedLess-false.result b a (c.lowest-in-SignedLess-false.ensures.below b q) shows)

pub returns-in-SignedLess-false-clause-least : goal.returns-in-SignedLess-false-clause-least
returns-in-SignedLess-false-clause-least c = λ signed single.
    let same : c.lowest-in-SignedLess-false.result ≡ c.args.y.lo = omega arith in
    let small : c.args.y.lo < modulus c.args.width = omega arith in
    rw (c.in-SignedLess-false.is-0, c.in-SignedLess-false.is-1)
    (ends_meet c.args.width c.sign-half.result cond.SignedLess false c.args.x c.args.y.lo _
    c.at_least-in-SignedLess-false.result c.sign-half.ensures tt c.requires.left small (λ a h. rw (← same) h)
    c.at_least-in-SignedLess-false.ensures.ends)

pub returns-in-SignedLessEqual-true-clause-holds : goal.returns-in-SignedLessEqual-true-clause-holds
returns-in-SignedLessEqual-true-clause-holds c = λ a b p q h.
    let shows =
    signed_meets c.args.width c.sign-half.result cond.SignedLessEqual true a b c.sign-half.ensures (omega arith) (omega arith)
    (rw (c.in-SignedLessEqual-true.is-0, c.in-SignedLessEqual-true.is-1) at h) in
    c.at_most-in-SignedLessEqual-true.ensures.holds a p
    (at_most_trans c.sign-half.result a b c.highest-in-SignedLessEqual-true.result shows
    (c.highest-in-SignedLessEqual-true.ensures.above b q))

pub returns-in-SignedLessEqual-true-clause-least : goal.returns-in-SignedLessEqual-true-clause-least
returns-in-SignedLessEqual-true-clause-least c = λ signed single.
    let same : c.highest-in-SignedLessEqual-true.result ≡ c.args.y.lo = omega arith in
    let small : c.args.y.lo < modulus c.args.width = omega arith in
    rw (c.in-SignedLessEqual-true.is-0, c.in-SignedLessEqual-true.is-1)
    (ends_meet c.args.width c.sign-half.result cond.SignedLessEqual true c.args.x c.args.y.lo _
    c.at_most-in-SignedLessEqual-true.result c.sign-half.ensures tt c.requires.left small (λ a h. rw (← same) h)
    c.at_most-in-SignedLessEqual-true.ensures.ends)

pub returns-in-SignedLessEqual-false-clause-holds : goal.returns-in-SignedLessEqual-false-clause-holds
returns-in-SignedLessEqual-false-clause-holds c = λ a b p q h.
    let shows =
    signed_meets c.args.width c.sign-half.result cond.SignedLessEqual false a b c.sign-half.ensures (omega arith)
    (omega arith) (rw (c.in-SignedLessEqual-false.is-0, c.in-SignedLessEqual-false.is-1) at h) in
    c.above-in-SignedLessEqual-false.ensures.holds a p
    (at_most_below c.sign-half.result c.lowest-in-SignedLessEqual-false.result b a
    (c.lowest-in-SignedLessEqual-false.ensures.below b q) shows)

pub returns-in-SignedLessEqual-false-clause-least : goal.returns-in-SignedLessEqual-false-clause-least
returns-in-SignedLessEqual-false-clause-least c = λ signed single.
    let same : c.lowest-in-SignedLessEqual-false.result ≡ c.args.y.lo = omega arith in
    let small : c.args.y.lo < modulus c.args.width = omega arith in
    rw (c.in-SignedLessEqual-false.is-0, c.in-SignedLessEqual-false.is-1)
    (ends_meet c.args.width c.sign-half.result cond.SignedLessEqual false c.args.x c.args.y.lo _
    c.above-in-SignedLessEqual-false.result c.sign-half.ensures tt c.requires.left small (λ a h. rw (← same) h)
    c.above-in-SignedLessEqual-false.ensures.ends)
