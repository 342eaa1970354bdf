-- EEVDF: lags add up to 0, so none is owed more than the others are ahead by together.
use Rattle.std.proofs.Common.{◌≡◌, ℕ, suc, zero, ◌+◌, ◌-◌, ◌*◌, ◌≤◌, List, [], ◌∷◌, length, refl, ap, arith}
use Rattle.std.specs.List.{AllByRecursion}
use Rattle.std.proofs.lemmas.List.Elements.{recursion_from_All}
use Rattle.std.proofs.Math.Nat.{mul-le-mul_left}
use Rattle.bq_weights.specs.VirtualTime.{vdelta_of}
use Rattle.bq_disc.specs.Tasks.{Task, without}
use Rattle.bq_disc.specs.Totals.{total_weight, weighted_sum}
use Rattle.bq_disc.specs.OneProcessor.{present_at}
use Rattle.bq_disc.proofs.SameSumLemmas.{sum_of-without}
use Rattle.bq_cfs.proofs.MoveLemmas.{each-without}
use Rattle.bq_fairness.specs.Work.{weight_present, weighted_v_at}
use Rattle.bq_fairness.specs.EevdfFairness.{most_ahead, ahead_together, NoneIsOwedMore, NoneIsOwedLong}
use Rattle.bq_fairness.proofs.SoundLemmas.{vdelta_of-weighted}
use Rattle.bq_fairness.proofs.SumLemmas.{length-sum}
use Rattle.bq_fairness.proofs.ListLemmas.{All-from_ids, weights_split, moments_split}

-- what each of some tasks is ahead by, each times its weight, together
together : (E r W M : ℕ) (xs : List Task) → AllByRecursion (λ t. W * t.v ≤ M + most_ahead E r W t.weight) xs
    → W * weighted_sum xs ≤ total_weight xs * M + ahead_together E r W xs
together E r W M [] h = omega arith
together E r W M (x ∷ xs) h =
    let here = mul-le-mul_left x.weight h.0 in
    omega (arith, here, together E r W M xs h.1)

-- where the others are ahead of the mean by at most B together, one is behind it by at most B
owed_by : (W M w v T S B : ℕ) → W ≡ w + T → M ≡ w * v + S → W * S ≤ T * M + B → w * M ≤ w * (W * v) + B
owed_by W M w v T S B split sum h =
    let a = ap (λ n. W * n) sum in
    let b = ap (λ n. n * M) split in
    omega arith

-- at a balanced processor none is owed more than what the others are ahead by together
pub none_is_owed_more : NoneIsOwedMore
none_is_owed_more E r p j b s bal f =
    let xs = present_at p in
    let others = without j xs in
    let W = weight_present p in
    let M = weighted_v_at p in
    let ahead : Task → Type 0 = λ t. W * t.v ≤ M + most_ahead E r W t.weight in
    let each = each-without ahead j xs (recursion_from_All ahead xs bal.each) in
    owed_by W M b.weight b.v (total_weight others) (weighted_sum others) (ahead_together E r W others)
    (weights_split j xs b f) (moments_split j xs b f) (together E r W M others each)

-- what one task is ahead by, measured in time: at most E at its own weight, and one rise at the weight of all, less its own
one_long : (E r W w s : ℕ) → W ≡ w + s → w * (E + s * vdelta_of r w) + 1024 * r * w ≤ w * E + 1024 * r * W
one_long E r W w s split =
    let a = mul-le-mul_left s (vdelta_of-weighted r w) in
    let b = ap (λ n. 1024 * r * n) split in
    omega arith

length_times : (x : Task) (xs : List Task) (W : ℕ) → length (x ∷ xs) * W ≡ W + length xs * W
length_times x xs W = let e : length (x ∷ xs) ≡ length xs + 1 = omega arith in let f = ap (λ n. n * W) e in omega arith

-- what the others are ahead by together, measured in time
long : (E r W : ℕ) (xs : List Task) → AllByRecursion (λ t. t.weight ≤ W) xs
    → ahead_together E r W xs + 1024 * r * total_weight xs ≤ total_weight xs * E + 1024 * r * (length xs * W)
long E r W [] h = omega arith
long E r W (x ∷ xs) h =
    let le = h.0 in
    let split : W ≡ x.weight + (W - x.weight) = omega arith in
    let one = one_long E r W x.weight (W - x.weight) split in
    let n = ap (λ k. 1024 * r * k) (length_times x xs W) in
    omega (arith, one, n, long E r W xs h.1)

-- the bound by what the others are ahead by, measured in time, is one by how many are present
long_by : (E r W w v M T n B : ℕ) → W ≡ w + T → w * M ≤ w * (W * v) + B
    → B + 1024 * r * T ≤ T * E + 1024 * r * (n * W) → (n ≡ 0 → B ≡ 0)
    → w * M ≤ w * (W * v) + (T * E + 1024 * r * ((n + 1 - 2) * W + w))
long_by E r W w v M T zero B split owed h none = let z = none refl in omega arith
long_by E r W w v M T (suc n) B split owed h none =
    let a = ap (λ k. 1024 * r * k) split in
    let less : suc n + 1 - 2 ≡ n = omega arith in
    rw less (omega arith)

-- where no others are present, what they are ahead by together is 0
none_ahead : (E r W : ℕ) (xs : List Task) → length xs ≡ 0 → ahead_together E r W xs ≡ 0
none_ahead E r W [] h = refl
none_ahead E r W (x ∷ xs) h = cc

-- where n are present, none is owed more than n - 2 rises, its own share of one, and E for the weight of the others
pub none_is_owed_long : NoneIsOwedLong
none_is_owed_long E r p j b s bal f =
    let xs = present_at p in
    let others = without j xs in
    let W = weight_present p in
    let few = All-from_ids (λ t. t.weight ≤ W) xs s.distinct (λ i t e. omega (arith, weights_split i xs t e)) in
    let each = each-without (λ t. t.weight ≤ W) j xs (recursion_from_All (λ t. t.weight ≤ W) xs few) in
    let split = weights_split j xs b f in
    let n : length xs ≡ length others + 1 = omega (arith, length-sum xs, length-sum others, sum_of-without (λ t. 1) j xs b f) in
    let less : W - b.weight ≡ total_weight others = omega arith in
    rw (n, less) (long_by E r W b.weight b.v (weighted_v_at p) (total_weight others) (length others)
    (ahead_together E r W others) split (none_is_owed_more E r p j b s bal f) (long E r W others each)
    (none_ahead E r W others))
