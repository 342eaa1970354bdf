use Rattle.std.proofs.Common.{true, false, arith}
use Rattle.bq_insn.specs.declared.Condition.TheVariants as cond
use Rattle.bq_ranges.proofs.TestLemmas.{test_meets_side, ends_go}
use Rattle.bq_ranges.proofs.narrowing.narrow_words.Goals as goal

pub returns-in-Equal-true-clause-holds : goal.returns-in-Equal-true-clause-holds
returns-in-Equal-true-clause-holds c = λ a b p q h.
    let shows = test_meets_side cond.Equal true a b (omega arith) (omega arith) (rw (c.in-Equal-true.is-0, c.in-Equal-true.is-1) at h) in
    c.common.ensures.holds a p (rw shows q)

pub returns-in-Equal-true-clause-least : goal.returns-in-Equal-true-clause-least
returns-in-Equal-true-clause-least c = λ order single.
    rw (c.in-Equal-true.is-0, c.in-Equal-true.is-1)
    (ends_go cond.Equal true c.args.x c.args.y.lo _ c.common.result tt (omega arith) (λ a h. (h.0, omega arith)) c.common.ensures.ends)

pub returns-in-Equal-false-clause-holds : goal.returns-in-Equal-false-clause-holds
returns-in-Equal-false-clause-holds c = λ a b p q h.
    let shows = test_meets_side cond.Equal false a b (omega arith) (omega arith) (rw (c.in-Equal-false.is-0, c.in-Equal-false.is-1) at h) in
    c.apart.ensures.holds a b p q shows

pub returns-in-Equal-false-clause-least : goal.returns-in-Equal-false-clause-least
returns-in-Equal-false-clause-least c = λ order single.
    rw (c.in-Equal-false.is-0, c.in-Equal-false.is-1)
    (ends_go cond.Equal false c.args.x c.args.y.lo _ c.apart.result tt (omega arith) (λ a h. (h.0, h.1)) (c.apart.ensures.ends single))

pub returns-in-NotEqual-true-clause-holds : goal.returns-in-NotEqual-true-clause-holds
returns-in-NotEqual-true-clause-holds c = λ a b p q h.
    let shows =
    test_meets_side cond.NotEqual true a b (omega arith) (omega arith)
    (rw (c.in-NotEqual-true.is-0, c.in-NotEqual-true.is-1) at h) in
    c.apart-in-NotEqual-true.ensures.holds a b p q shows

pub returns-in-NotEqual-true-clause-least : goal.returns-in-NotEqual-true-clause-least
returns-in-NotEqual-true-clause-least c = λ order single.
    rw (c.in-NotEqual-true.is-0, c.in-NotEqual-true.is-1)
    (ends_go cond.NotEqual true c.args.x c.args.y.lo _ c.apart-in-NotEqual-true.result tt (omega arith) (λ a h. (h.0, h.1))
    (c.apart-in-NotEqual-true.ensures.ends single))

pub returns-in-NotEqual-false-clause-holds : goal.returns-in-NotEqual-false-clause-holds
returns-in-NotEqual-false-clause-holds c = λ a b p q h.
    let shows =
    test_meets_side cond.NotEqual false a b (omega arith) (omega arith)
    (rw (c.in-NotEqual-false.is-0, c.in-NotEqual-false.is-1) at h) in
    c.common-in-NotEqual-false.ensures.holds a p (rw shows q)

pub returns-in-NotEqual-false-clause-least : goal.returns-in-NotEqual-false-clause-least
returns-in-NotEqual-false-clause-least c = λ order single.
    rw (c.in-NotEqual-false.is-0, c.in-NotEqual-false.is-1)
    (ends_go cond.NotEqual false c.args.x c.args.y.lo _ c.common-in-NotEqual-false.result tt (omega arith)
    (λ a h. (h.0, omega arith)) c.common-in-NotEqual-false.ensures.ends)

pub returns-in-Greater-true-clause-holds : goal.returns-in-Greater-true-clause-holds
returns-in-Greater-true-clause-holds c = λ a b p q h.
    let shows =
    test_meets_side cond.Greater true a b (omega arith) (omega arith)
    (rw (c.in-Greater-true.is-0, c.in-Greater-true.is-1) at h) in
    c.above.ensures.holds a p (omega arith)

pub returns-in-Greater-true-clause-least : goal.returns-in-Greater-true-clause-least
returns-in-Greater-true-clause-least c = λ order single.
    rw (c.in-Greater-true.is-0, c.in-Greater-true.is-1)
    (ends_go cond.Greater true c.args.x c.args.y.lo _ c.above.result tt (omega arith) (λ a h. (h.0, omega arith)) c.above.ensures.ends)

pub returns-in-Greater-false-clause-holds : goal.returns-in-Greater-false-clause-holds
returns-in-Greater-false-clause-holds c = λ a b p q h.
    let shows =
    test_meets_side cond.Greater false a b (omega arith) (omega arith)
    (rw (c.in-Greater-false.is-0, c.in-Greater-false.is-1) at h) in
    c.at_most.ensures.holds a p (omega arith)

pub returns-in-Greater-false-clause-least : goal.returns-in-Greater-false-clause-least
returns-in-Greater-false-clause-least c = λ order single.
    rw (c.in-Greater-false.is-0, c.in-Greater-false.is-1)
    (ends_go cond.Greater false c.args.x c.args.y.lo _ c.at_most.result tt (omega arith)
    (λ a h. (h.0, omega arith)) c.at_most.ensures.ends)

pub returns-in-GreaterEqual-true-clause-holds : goal.returns-in-GreaterEqual-true-clause-holds
returns-in-GreaterEqual-true-clause-holds c = λ a b p q h.
    let shows =
    test_meets_side cond.GreaterEqual true a b (omega arith) (omega arith)
    (rw (c.in-GreaterEqual-true.is-0, c.in-GreaterEqual-true.is-1) at h) in
    c.at_least.ensures.holds a p (omega arith)

pub returns-in-GreaterEqual-true-clause-least : goal.returns-in-GreaterEqual-true-clause-least
returns-in-GreaterEqual-true-clause-least c = λ order single.
    rw (c.in-GreaterEqual-true.is-0, c.in-GreaterEqual-true.is-1)
    (ends_go cond.GreaterEqual true c.args.x c.args.y.lo _ c.at_least.result tt (omega arith)
    (λ a h. (h.0, omega arith)) c.at_least.ensures.ends)

pub returns-in-GreaterEqual-false-clause-holds : goal.returns-in-GreaterEqual-false-clause-holds
returns-in-GreaterEqual-false-clause-holds c = λ a b p q h.
    let shows =
    test_meets_side cond.GreaterEqual false a b (omega arith) (omega arith)
    (rw (c.in-GreaterEqual-false.is-0, c.in-GreaterEqual-false.is-1) at h) in
    c.below.ensures.holds a p (omega arith)

pub returns-in-GreaterEqual-false-clause-least : goal.returns-in-GreaterEqual-false-clause-least
returns-in-GreaterEqual-false-clause-least c = λ order single.
    rw (c.in-GreaterEqual-false.is-0, c.in-GreaterEqual-false.is-1)
    (ends_go cond.GreaterEqual false c.args.x c.args.y.lo _ c.below.result tt (omega arith)
    (λ a h. (h.0, omega arith)) c.below.ensures.ends)

pub returns-in-Less-true-clause-holds : goal.returns-in-Less-true-clause-holds
returns-in-Less-true-clause-holds c = λ a b p q h.
    let shows = test_meets_side cond.Less true a b (omega arith) (omega arith) (rw (c.in-Less-true.is-0, c.in-Less-true.is-1) at h) in
    c.below-in-Less-true.ensures.holds a p (omega arith)

pub returns-in-Less-true-clause-least : goal.returns-in-Less-true-clause-least
returns-in-Less-true-clause-least c = λ order single.
    rw (c.in-Less-true.is-0, c.in-Less-true.is-1)
    (ends_go cond.Less true c.args.x c.args.y.lo _ c.below-in-Less-true.result tt (omega arith)
    (λ a h. (h.0, omega arith)) c.below-in-Less-true.ensures.ends)

pub returns-in-Less-false-clause-holds : goal.returns-in-Less-false-clause-holds
returns-in-Less-false-clause-holds c = λ a b p q h.
    let shows = test_meets_side cond.Less false a b (omega arith) (omega arith) (rw (c.in-Less-false.is-0, c.in-Less-false.is-1) at h) in
    c.at_least-in-Less-false.ensures.holds a p (omega arith)

pub returns-in-Less-false-clause-least : goal.returns-in-Less-false-clause-least
returns-in-Less-false-clause-least c = λ order single.
    rw (c.in-Less-false.is-0, c.in-Less-false.is-1)
    (ends_go cond.Less false c.args.x c.args.y.lo _ c.at_least-in-Less-false.result tt (omega arith)
    (λ a h. (h.0, omega arith)) c.at_least-in-Less-false.ensures.ends)

pub returns-in-LessEqual-true-clause-holds : goal.returns-in-LessEqual-true-clause-holds
returns-in-LessEqual-true-clause-holds c = λ a b p q h.
    let shows =
    test_meets_side cond.LessEqual true a b (omega arith) (omega arith)
    (rw (c.in-LessEqual-true.is-0, c.in-LessEqual-true.is-1) at h) in
    c.at_most-in-LessEqual-true.ensures.holds a p (omega arith)

pub returns-in-LessEqual-true-clause-least : goal.returns-in-LessEqual-true-clause-least
returns-in-LessEqual-true-clause-least c = λ order single.
    rw (c.in-LessEqual-true.is-0, c.in-LessEqual-true.is-1)
    (ends_go cond.LessEqual true c.args.x c.args.y.lo _ c.at_most-in-LessEqual-true.result tt (omega arith)
    (λ a h. (h.0, omega arith)) c.at_most-in-LessEqual-true.ensures.ends)

pub returns-in-LessEqual-false-clause-holds : goal.returns-in-LessEqual-false-clause-holds
returns-in-LessEqual-false-clause-holds c = λ a b p q h.
    let shows =
    test_meets_side cond.LessEqual false a b (omega arith) (omega arith)
    (rw (c.in-LessEqual-false.is-0, c.in-LessEqual-false.is-1) at h) in
    c.above-in-LessEqual-false.ensures.holds a p (omega arith)

pub returns-in-LessEqual-false-clause-least : goal.returns-in-LessEqual-false-clause-least
returns-in-LessEqual-false-clause-least c = λ order single.
    rw (c.in-LessEqual-false.is-0, c.in-LessEqual-false.is-1)
    (ends_go cond.LessEqual false c.args.x c.args.y.lo _ c.above-in-LessEqual-false.result tt (omega arith)
    (λ a h. (h.0, omega arith)) c.above-in-LessEqual-false.ensures.ends)
