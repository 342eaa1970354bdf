use Rattle.std.proofs.Common.{refl, arith}
use Rattle.bq_bpf.specs.Meaning.{operate}
use Rattle.bq_ranges.proofs.OutcomeLemmas.{as_word, holds_low_word, held_bits, held_by_all, quotient_held, remainder_held, union_between, difference_between}
use Rattle.bq_ranges.proofs.TightLemmas.{as_difference}
use Rattle.bq_ranges.proofs.arithmetic.outcomes.Goals as goal

pub returns-in-Add-clause-holds : goal.returns-in-Add-clause-holds
unfolding operate
returns-in-Add-clause-holds c = λ x y p q. rw c.in-Add.is (c.add.ensures.holds x y p q)

pub returns-in-Add-clause-tight_low : goal.returns-in-Add-clause-tight_low
unfolding operate
returns-in-Add-clause-tight_low c = λ h.
    let small = rw c.in-Add.is at h in
    let end = c.add.ensures.tight_low small in
    rw c.in-Add.is (as_word c.args.width c.add.result.lo _ end (omega arith))

pub returns-in-Add-clause-tight_high : goal.returns-in-Add-clause-tight_high
unfolding operate
returns-in-Add-clause-tight_high c = λ h.
    let small = rw c.in-Add.is at h in
    let end = c.add.ensures.tight_high small in
    rw c.in-Add.is (as_word c.args.width c.add.result.hi _ end (omega arith))

pub returns-in-Mul-clause-holds : goal.returns-in-Mul-clause-holds
unfolding operate
returns-in-Mul-clause-holds c = λ x y p q. rw c.in-Mul.is (c.mul.ensures.holds x y p q)

pub returns-in-Mul-clause-tight_low : goal.returns-in-Mul-clause-tight_low
unfolding operate
returns-in-Mul-clause-tight_low c = λ h.
    let small = rw c.in-Mul.is at h in
    let end = c.mul.ensures.tight_low small in
    rw c.in-Mul.is (as_word c.args.width c.mul.result.lo _ end (omega arith))

pub returns-in-Mul-clause-tight_high : goal.returns-in-Mul-clause-tight_high
unfolding operate
returns-in-Mul-clause-tight_high c = λ h.
    let small = rw c.in-Mul.is at h in
    let end = c.mul.ensures.tight_high small in
    rw c.in-Mul.is (as_word c.args.width c.mul.result.hi _ end (omega arith))

pub returns-in-Sub-clause-holds : goal.returns-in-Sub-clause-holds
unfolding operate
returns-in-Sub-clause-holds c = λ x y p q. rw c.in-Sub.is (c.sub.ensures.holds x y p q)

pub returns-in-Sub-clause-tight_low : goal.returns-in-Sub-clause-tight_low
unfolding operate
returns-in-Sub-clause-tight_low c = λ h.
    let order = rw c.in-Sub.is at h in
    rw c.in-Sub.is (as_difference c.args.width c.sub.result.lo c.args.a.lo c.args.b.hi (c.sub.ensures.tight_low order) order (omega arith))

pub returns-in-Sub-clause-tight_high : goal.returns-in-Sub-clause-tight_high
unfolding operate
returns-in-Sub-clause-tight_high c = λ h.
    let order = rw c.in-Sub.is at h in
    rw c.in-Sub.is
    (as_difference c.args.width c.sub.result.hi c.args.a.hi c.args.b.lo (c.sub.ensures.tight_high order) (omega arith) (omega arith))

pub returns-in-Lsh-clause-holds : goal.returns-in-Lsh-clause-holds
unfolding operate
returns-in-Lsh-clause-holds c = λ x y p q. rw c.in-Lsh.is (c.lsh.ensures x y p q)

pub returns-in-Div-clause-holds : goal.returns-in-Div-clause-holds
unfolding operate
returns-in-Div-clause-holds c = λ x y p q.
    rw c.in-Div.is
    (quotient_held c.args.width c.args.a c.args.b c.div.result (omega arith) c.div.ensures.zero c.div.ensures.holds x y p q)

pub returns-in-Rem-clause-holds : goal.returns-in-Rem-clause-holds
unfolding operate
returns-in-Rem-clause-holds c = λ x y p q.
    rw c.in-Rem.is
    (remainder_held c.args.width c.args.a c.args.b c.rem.result (omega arith) c.rem.ensures.zero c.rem.ensures.holds x y p q)

pub returns-in-Or-clause-holds : goal.returns-in-Or-clause-holds
unfolding operate
returns-in-Or-clause-holds c = λ x y p q.
    rw c.in-Or.is
    (held_bits c.args.width c.or.result _ (union_between c.args.width x y (omega arith) (omega arith)).3 (c.or.ensures x y p q))

pub returns-in-Xor-clause-holds : goal.returns-in-Xor-clause-holds
unfolding operate
returns-in-Xor-clause-holds c = λ x y p q.
    rw c.in-Xor.is
    (held_bits c.args.width c.xor.result _ (difference_between c.args.width x y (omega arith) (omega arith)).1 (c.xor.ensures x y p q))

pub returns-in-And-clause-holds : goal.returns-in-And-clause-holds
unfolding operate
returns-in-And-clause-holds c =
    λ x y p q. rw c.in-And.is (holds_low_word c.args.width c.and.result _ (omega arith) (c.and.ensures.holds x y p q))

pub returns-in-Rsh-clause-holds : goal.returns-in-Rsh-clause-holds
unfolding operate
returns-in-Rsh-clause-holds c =
    λ x y p q. rw c.in-Rsh.is (holds_low_word c.args.width c.rsh.result _ (omega arith) (c.rsh.ensures.holds x y p q))

pub returns-in-Rsh-clause-tight_low : goal.returns-in-Rsh-clause-tight_low
unfolding operate
returns-in-Rsh-clause-tight_low c = λ h.
    let small = rw c.in-Rsh.is at h in
    let end = c.rsh.ensures.tight_low small in
    rw c.in-Rsh.is (as_word c.args.width c.rsh.result.lo _ end (omega arith))

pub returns-in-Rsh-clause-tight_high : goal.returns-in-Rsh-clause-tight_high
unfolding operate
returns-in-Rsh-clause-tight_high c = λ h.
    let small = rw c.in-Rsh.is at h in
    let end = c.rsh.ensures.tight_high small in
    rw c.in-Rsh.is (as_word c.args.width c.rsh.result.hi _ end (omega arith))

pub returns-in-Mov-clause-holds : goal.returns-in-Mov-clause-holds
unfolding operate
returns-in-Mov-clause-holds c = λ x y p q. rw c.in-Mov.is (holds_low_word c.args.width c.args.b _ c.requires.right q)

pub returns-in-Mov-clause-tight_low : goal.returns-in-Mov-clause-tight_low
unfolding operate
returns-in-Mov-clause-tight_low c = λ h. rw c.in-Mov.is (as_word c.args.width c.args.b.lo c.args.b.lo refl (omega arith))

pub returns-in-Mov-clause-tight_high : goal.returns-in-Mov-clause-tight_high
unfolding operate
returns-in-Mov-clause-tight_high c = λ h. rw c.in-Mov.is (as_word c.args.width c.args.b.hi c.args.b.hi refl (omega arith))

pub returns-in-Arsh-clause-holds : goal.returns-in-Arsh-clause-holds
unfolding operate
returns-in-Arsh-clause-holds c = λ x y p q. rw c.in-Arsh.is (c.arsh.ensures x y p q)

pub returns-in-Sdiv-clause-holds : goal.returns-in-Sdiv-clause-holds
returns-in-Sdiv-clause-holds c = λ x y p q. held_by_all c.args.width c.full.result _ c.full.ensures.lo c.full.ensures.hi
