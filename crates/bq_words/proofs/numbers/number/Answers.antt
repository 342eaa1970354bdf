use Rattle.std.proofs.Common.{◌≡◌, ◌<◌, ◌≤◌, ◌+◌, ◌*◌, ◌^◌, ◌∙◌, sym, ap, subst, arith, rules, get_or}
use Rattle.std.specs.Char.{digit_value}
use Rattle.std.proofs.lemmas.Bool.Decides.{nat_tests}
use Rattle.bq_words.proofs.NumberLemmas.{number_too_large, number_whole}
use Rattle.bq_words.proofs.numbers.number.Goals as goal

pub returns-in_err-checked_mul : goal.returns-in_err-checked_mul
returns-in_err-checked_mul c =
    let value = c.loop-byte.value in
    let here : c.from.result ≡ get_or c.args.word.now c.loop-byte.byte-index 0 = search rules in
    let digit = c.in_ok-digit.ensures.value.0 in
    let same = ap (λ b. value * b) c.from-in-loop-byte.ensures in
    let large = c.in_err-checked_mul.ensures in
    let sum : 2 ^ 64 ≤ value * c.args.base + digit_value c.from.result = omega (arith, large, same) in
    c.from_residual-in_err-checked_mul.ensures
    ∙ sym (number_too_large c.args.base value c.loop-byte.byte-index c.args.word.now c.loop-byte.invariant.so_far c.loop-byte-test.true
    (subst (λ b. digit_value b < c.args.base) here digit) (subst (λ b. 2 ^ 64 ≤ value * c.args.base + digit_value b) here sum))

pub returns-in_err-value : goal.returns-in_err-value
returns-in_err-value c =
    let value = c.loop-byte.value in
    let here : c.from.result ≡ get_or c.args.word.now c.loop-byte.byte-index 0 = search rules in
    let digit = c.in_ok-digit.ensures.value.0 in
    let same = ap (λ b. value * b) c.from-in-loop-byte.ensures in
    let large = c.in_err-value.ensures in
    let sum : 2 ^ 64 ≤ value * c.args.base + digit_value c.from.result = omega (arith, large, same, c.in_ok-digit.ensures.value.1) in
    c.from_residual-in_err-value.ensures
    ∙ sym (number_too_large c.args.base value c.loop-byte.byte-index c.args.word.now c.loop-byte.invariant.so_far c.loop-byte-test.true
    (subst (λ b. digit_value b < c.args.base) here digit) (subst (λ b. 2 ^ 64 ≤ value * c.args.base + digit_value b) here sum))

pub returns : goal.returns
returns c =
    sym (number_whole c.args.base c.loop-byte.value c.loop-byte.byte-index c.args.word.now c.loop-byte.invariant.so_far
    (grind (arith, nat_tests)) c.loop-byte-test.false c.loop-byte.invariant.fits)
