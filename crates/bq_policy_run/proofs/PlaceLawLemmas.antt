-- What a place context permits is what the rule permits.
use Rattle.std.proofs.Common.{◌≡◌, ℕ, suc, ◌+◌, ◌-◌, ◌<◌, ◌≤◌, ◌^◌, [], Bool, true, false, cond, ◌⊎◌, inl, inr, refl, sym, ap, ◌∙◌, subst, arith}
use Rattle.std.specs.Prelude.{◌%◌, ◌/◌, ◌==◌, ◌&&◌, min, nat_lt, slice_range}
use Rattle.std.proofs.lemmas.Bool.Decides.{nat_tests}
use Rattle.std.proofs.Math.Nat.{mod-lt, one-le-pow, pow-le-pow_right}
use Rattle.std.proofs.Math.Pow.{mod-mod-pow}
use Rattle.std.proofs.lemmas.Nat.{mod-pow-add, div-mul-add}
use Rattle.std.proofs.lemmas.Bool.{and_parts}
use Rattle.byteorder.specs.Endian.{little_number}
use Rattle.byteorder.specs.Numbers.{little_number-reads_back}
use Rattle.bq_hooks.specs.Contexts.{PlaceFacts, place_bytes_below, place_header}
use Rattle.bq_disc.specs.Masks.{allows}
use Rattle.bq_hooks.specs.Permitted.{may_place, may_preempt}
use Rattle.bq_policy_run.specs.declared.permitted.Permission.TheVariants.{Permitted, NotPermitted}
use Rattle.bq_policy_run.specs.PermittingLaw.{IsPermissionOn}
use Rattle.bq_policy_run.specs.Permitting.{context_number, place_permits, place_permission, preempt_permission}

-- a context shows as many processors as there are below its limit
count_shown : (limit : ℕ) (f : PlaceFacts) → limit ≤ 64 → context_number (place_bytes_below limit f) 32 ≡ min f.processors limit
unfolding place_bytes_below place_header
count_shown limit f h = little_number-reads_back 4 (min f.processors limit) [] (omega arith)

-- a context shows the bits of the mask for the processors below its limit
mask_shown : (limit : ℕ) (f : PlaceFacts) → limit ≤ 64
    → little_number 8 (slice_range (place_bytes_below limit f) 8 16) ≡ f.task.mask % 2 ^ min f.processors limit
unfolding place_bytes_below place_header
mask_shown limit f h =
    let count = min f.processors limit in
    let low : count ≤ 64 = omega arith in
    let high : 2 ^ count ≤ 2 ^ 64 = pow-le-pow_right (omega arith) low in
    let below : f.task.mask % 2 ^ count < 2 ^ count = mod-lt f.task.mask (one-le-pow count 2 (omega arith)) in
    little_number-reads_back 8 (f.task.mask % 2 ^ count) [] (omega (arith, high, below))

-- a low bit of a mask
bit_kept : (mask p more : ℕ) → mask % 2 ^ (suc more + p) / 2 ^ p % 2 ≡ mask / 2 ^ p % 2
bit_kept mask p more =
    let low : mask % 2 ^ p < 2 ^ p = mod-lt mask (one-le-pow p 2 (omega arith)) in
    ap (λ n. n / 2 ^ p % 2) (mod-pow-add mask (suc more) p)
    ∙ ap (λ n. n % 2) (div-mul-add (mask / 2 ^ p % 2 ^ suc more) (2 ^ p) (mask % 2 ^ p) low)
    ∙ ap (λ k. mask / 2 ^ p % 2 ^ k % 2) (let e : suc more ≡ more + 1 = omega arith in e)
    ∙ mod-mod-pow (mask / 2 ^ p) more 1

-- a mask that is cut to a number of bits still allows the same processors below that number
allows_kept : (mask p count : ℕ) → p < count → allows (mask % 2 ^ count) p ≡ allows mask p
allows_kept mask p count h =
    let more = count - suc p in
    let e : count ≡ suc more + p = omega arith in
    ap (λ k. allows (mask % 2 ^ k) p) e ∙ ap (λ n. n == 1) (bit_kept mask p more)

-- what a context permits is what the rule permits of the processors that it shows
permits_is : (limit : ℕ) (f : PlaceFacts) (r0 : ℕ) → limit ≤ 64
    → place_permits (place_bytes_below limit f) r0 ≡ (nat_lt r0 (min f.processors limit) && allows f.task.mask r0)
permits_is limit f r0 h =
    let count = min f.processors limit in
    (λ i. nat_lt r0 (count_shown limit f h i) && (nat_lt r0 64 && allows (mask_shown limit f h i) r0)) ∙ by_test (nat_lt r0 count) refl
  where
    by_test : (b : Bool) → nat_lt r0 (min f.processors limit) ≡ b
        → (nat_lt r0 (min f.processors limit) && (nat_lt r0 64 && allows (f.task.mask % 2 ^ min f.processors limit) r0))
        ≡ (nat_lt r0 (min f.processors limit) && allows f.task.mask r0)
    by_test false e = rw e refl
    by_test true e =
        let below : r0 < min f.processors limit = grind (arith, nat_tests) in
        let few : nat_lt r0 64 ≡ true = grind (arith, nat_tests) in
        rw (few, allows_kept f.task.mask r0 (min f.processors limit) below) refl

-- of the processors of which the context tells
test_of_limit : (limit processors r0 : ℕ) → (r0 < limit) ⊎ (processors ≤ limit) → nat_lt r0 (min processors limit) ≡ nat_lt r0 processors
test_of_limit limit processors r0 (inl h) = grind (arith, nat_tests)
test_of_limit limit processors r0 (inr h) = grind (arith, nat_tests)

-- a word by a test says what the test says
word_by_test : (b : Bool) → IsPermissionOn b (cond b Permitted NotPermitted)
word_by_test true = refl
word_by_test false = refl

-- the word on a place is the rule's, if the context shows that processor or the whole machine
pub place_is_rules : (limit : ℕ) (f : PlaceFacts) (r0 : ℕ) → limit ≤ 64 → (r0 < limit) ⊎ (f.processors ≤ limit)
    → IsPermissionOn (may_place f.processors f.task r0) (place_permission (place_bytes_below limit f) r0)
place_is_rules limit f r0 h t =
    let same : place_permits (place_bytes_below limit f) r0 ≡ may_place f.processors f.task r0 =
    permits_is limit f r0 h ∙ ap (λ b. b && allows f.task.mask r0) (test_of_limit limit f.processors r0 t) in
    subst (λ b. IsPermissionOn (may_place f.processors f.task r0) (cond b Permitted NotPermitted)) (sym same)
    (word_by_test (may_place f.processors f.task r0))

-- a word by a test permits an answer only where the test holds
is_permitted : (b : Bool) → cond b Permitted NotPermitted ≡ Permitted → b ≡ true
is_permitted true h = refl
is_permitted false h = cc

-- what the context permits is a processor that it shows
pub place_permitted : (limit : ℕ) (f : PlaceFacts) (r0 : ℕ) → limit ≤ 64
    → place_permission (place_bytes_below limit f) r0 ≡ Permitted
    → may_place f.processors f.task r0 ≡ true
place_permitted limit f r0 h e =
    let count = min f.processors limit in
    let may : (nat_lt r0 count && allows f.task.mask r0) ≡ true =
    sym (permits_is limit f r0 h) ∙ is_permitted (place_permits (place_bytes_below limit f) r0) e in
    let shown : nat_lt r0 count ≡ true = (and_parts (nat_lt r0 count) (allows f.task.mask r0) may).0 in
    let below : r0 < limit = grind (arith, nat_tests) in
    subst (IsPermissionOn (may_place f.processors f.task r0)) e (place_is_rules limit f r0 h (inl below))

-- the word on a preemption is the rule's
pub preempt_is_rules : (r0 : ℕ) → IsPermissionOn (may_preempt r0) (preempt_permission r0)
preempt_is_rules r0 = word_by_test (may_preempt r0)
