use Rattle.std.proofs.Common.{◌≡◌, ◌%◌, ◌^◌, inl, inr, sym, subst, ◌∙◌, arith}
use Rattle.std.proofs.lemmas.Bool.{false≢true}
use Rattle.bq_bpf.specs.Meaning.{modulus}
use Rattle.bq_insn.specs.declared.Condition.{Condition}
use Rattle.bq_ranges.specs.Tight.{IsByOrder, IsSigned}
use Rattle.bq_ranges.proofs.TestLemmas.{as_words}
use Rattle.bq_ranges.proofs.narrowing.narrow.Goals as goal

pub returns-in_default-clause-holds : goal.returns-in_default-clause-holds
returns-in_default-clause-holds c = λ a b p q h.
    let unsigned : IsSigned c.args.cond → ⊥ = λ signed. false≢true (sym c.if-is_signed.false ∙ c.is_signed.ensures.1 signed) in
    c.narrow_words.ensures.holds a (b % modulus c.args.width) p (c.low-y.ensures.holds b q)
    (sym (as_words c.args.width c.args.cond a b unsigned (omega arith)) ∙ h)

pub returns-in_default-clause-least : goal.returns-in_default-clause-least
returns-in_default-clause-least c = λ whole order single.
    let low = c.low-y.ensures.tight_low in
    let high = c.low-y.ensures.tight_high in
    let low_is : low.0 % 2 ^ 64 ≡ c.low-y.result.lo = rw whole at low.2 in
    let high_is : high.0 % 2 ^ 64 ≡ c.low-y.result.hi = rw whole at high.2 in
    let same : c.low-y.result.lo ≡ c.args.y.lo = omega (arith, low.1, low_is) in
    let one : c.low-y.result.lo ≡ c.low-y.result.hi = omega (arith, low.1, high.1, low_is, high_is) in
    elim order [
      | inl unsigned ↦ let ends = c.narrow_words.ensures.least unsigned one in rw same at ends
      | inr signed ↦ absurd (false≢true (sym c.if-is_signed.false ∙ c.is_signed.ensures.1 signed))
    ]

pub returns-then-x-greatest-clause-least : goal.returns-then-x-greatest-clause-least
returns-then-x-greatest-clause-least c = λ whole order single.
    let most = rw whole at c.greatest.ensures in
    absurd (omega arith)

pub returns-in-AnyBit-clause-least : goal.returns-in-AnyBit-clause-least
returns-in-AnyBit-clause-least c = λ whole order single.
    elim order [
      | inl unsigned ↦ absurd (subst (λ (cond : Condition). IsByOrder cond) c.in-AnyBit.is unsigned)
      | inr signed ↦ absurd (subst (λ (cond : Condition). IsSigned cond) c.in-AnyBit.is signed)
    ]
