-- A mask that has a bit among those of a machine's processors allows one of them.
use Rattle.std.proofs.Common.{◌≡◌, ℕ, zero, suc, ◌+◌, ◌-◌, ◌*◌, ◌/◌, ◌%◌, ◌^◌, false, true, add-one, refl, sym, ap, ◌∙◌, subst, arith}
use Rattle.std.specs.List.{list_any, range_with_len}
use Rattle.std.specs.Prelude.{◌==◌, bit_and}
use Rattle.std.proofs.Math.Nat.{div-div-eq-div-mul}
use Rattle.std.proofs.lemmas.Bool.{eqb-false, or_parts, true_from_ne_false}
use Rattle.std.proofs.lemmas.Grind.{pow_more}
use Rattle.std.proofs.lemmas.Nat.{and_mask, mod-pow-add}
use Rattle.bq_workload.specs.Soundness.{allows_one}
use Rattle.bq_disc.specs.Masks.{allows}
use Rattle.bq_words.specs.Sizes.{processors_in}
use Rattle.bq_words.specs.declared.processor_count.ProcessorCount.{ProcessorCount}
use Rattle.bq_words.specs.declared.processor_count.ProcessorCount.TheVariants.{One, Two, Four, Eight, Sixteen, ThirtyTwo, SixtyFour}
use Rattle.bq_workload_file.specs.Workloads.{all_of}

-- where a mask allows no processor of a range, it has no bit there
none_allowed : (mask first count : ℕ) → list_any (allows mask) (range_with_len first count) ≡ false → mask / 2 ^ first % 2 ^ count ≡ 0
none_allowed mask first zero h = omega arith
none_allowed mask first (suc count) h =
    let rest = mask / 2 ^ first in
    let both = or_parts (allows mask first) (list_any (allows mask) (range_with_len (first + 1) count)) h in
    let even : rest % 2 ≡ 0 = omega (arith, eqb-false (rest % 2) 1 both.0) in
    let half : rest / 2 ≡ mask / 2 ^ (first + 1) =
    div-div-eq-div-mul mask (2 ^ first) 2 ∙ ap (λ (d : ℕ). mask / d) (sym (pow_more 2 first)) in
    let more : rest / 2 % 2 ^ count ≡ 0 = ap (λ (d : ℕ). d % 2 ^ count) half ∙ none_allowed mask (first + 1) count both.1 in
    let sum : rest / 2 % 2 ^ count * 2 + rest % 2 ≡ 0 = omega (arith, more, even) in
    let whole : rest % 2 ^ (count + 1) ≡ 0 = mod-pow-add rest count 1 ∙ sum in
    subst (λ (n : ℕ). rest % 2 ^ n ≡ 0) (add-one count) whole

-- a mask that has a bit among the first bits, this many
pub one-allowed : (mask processors : ℕ) → (bit_and mask (2 ^ processors - 1) == 0) ≡ false → allows_one processors mask ≡ true
one-allowed mask processors some =
    true_from_ne_false (allows_one processors mask) (λ none.
    let low : mask / 1 % 2 ^ processors ≡ 0 = none_allowed mask 0 processors none in
    let one : mask / 1 ≡ mask = omega arith in
    eqb-false (bit_and mask (2 ^ processors - 1)) 0 some (and_mask mask processors ∙ ap (λ (d : ℕ). d % 2 ^ processors) (sym one) ∙ low))

-- the mask of all processors
pub all-allowed : (size : ProcessorCount) → allows_one (processors_in size) (all_of size) ≡ true
all-allowed One = refl
all-allowed Two = refl
all-allowed Four = refl
all-allowed Eight = refl
all-allowed Sixteen = refl
all-allowed ThirtyTwo = refl
all-allowed SixtyFour = refl
