use Rattle.std.proofs.Common.{◌*◌, ◌<◌, arith}
use Rattle.bq_bpf.specs.Meaning.{modulus}
use Rattle.bq_ranges.proofs.OutcomeLemmas.{products_held, held_by_all}
use Rattle.bq_ranges.proofs.arithmetic.mul.Goals.{in-Some+else-hi-greatest, in_default}
use Rattle.bq_ranges.proofs.arithmetic.mul.Goals as goal

pub returns-then-hi-greatest-clause-holds : goal.returns-then-hi-greatest-clause-holds
returns-then-hi-greatest-clause-holds c = λ x y p q.
    let between = products_held c.args.width c.args.a c.args.b x y (omega arith) p q in
    (omega arith, omega arith)

pub returns-clause-holds : goal.returns-clause-holds
returns-clause-holds c = λ x y p q. held_by_all c.args.width c.full.result _ c.full.ensures.lo c.full.ensures.hi

-- a product of this width is not too large
fits_not : (c : goal.After-full) → c.args.a.hi * c.args.b.hi < modulus c.args.width → ⊥
fits_not c small = elim c.match-checked_mul.branch [
  | in-Some+else-hi-greatest w ↦ omega (arith, w.in-Some.ensures.1, w.greatest.ensures)
  | in_default w ↦ w.in_default.ensures (omega arith)
]

pub returns-clause-tight_low : goal.returns-clause-tight_low
returns-clause-tight_low c = λ small. absurd (fits_not c small)

pub returns-clause-tight_high : goal.returns-clause-tight_high
returns-clause-tight_high c = λ small. absurd (fits_not c small)
