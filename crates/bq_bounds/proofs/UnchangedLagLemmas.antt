-- A stretch goes on, and no task can be owed more than one was before.
use Rattle.std.proofs.Common.{◌≡◌, ℕ, ◌-◌, ◌*◌, ◌/◌, ◌^◌, ◌≤◌, min, Bool, true, false, cond, leb, List, [], ◌∷◌, length, Option, Some, None, refl, sym, ap, subst, arith, mul-le-mul}
use Rattle.std.specs.Option.{option_map_or}
use Rattle.std.specs.List.{AllByRecursion}
use Rattle.std.proofs.lemmas.Bool.Decides.{nat_tests}
use Rattle.std.proofs.lemmas.Nat.{le-div}
use Rattle.std.proofs.Math.Nat.{div-mul-le_self}
use Rattle.bq_disc.specs.Tasks.{Task}
use Rattle.bq_disc.specs.Totals.{total_weight}
use Rattle.bq_disc.specs.Counts.{saturating_sum}
use Rattle.bq_bounds.specs.declared.charge.Charge.{Charge}
use Rattle.bq_bounds.specs.declared.stretch.Stretch.{Stretch}
use Rattle.bq_bounds.specs.declared.lags.Effect.{Effect}
use Rattle.bq_bounds.specs.declared.lags.Effect.TheVariants.{Passes, Decides, Breaks}
use Rattle.bq_bounds.specs.declared.lags.Lags.{Lags}
use Rattle.bq_bounds.specs.declared.glance.Glance.{Glance}
use Rattle.bq_bounds.specs.Watches.{greater}
use Rattle.bq_bounds.specs.Lags.{mean_at, lag_by, most_owed_by, most_owed, stretched}
use Rattle.bq_bounds.specs.LagWatches.{decided_in, owing, gone_on, lags_by}
use Rattle.bq_bounds.specs.Glances.{IsGlance, IsGlanceOf, at_most_owed}

-- there is a greatest, and it is not above a number
abbrev IsBelow : ℕ → Option Charge → Type 0
IsBelow n None = ⊥
IsBelow n (Some c) = c.difference ≤ n

-- the greatest of charges that are not above a number is not: of two, of one and those kept, and of many:
greater_below : (n : ℕ) (c d : Charge) (b : Bool) → leb d.difference c.difference ≡ b → c.difference ≤ n → d.difference ≤ n
    → (cond b c d).difference ≤ n
greater_below n c d true e h k = h
greater_below n c d false e h k = k

joined_below : (n : ℕ) (c : Charge) (o : Option Charge) → c.difference ≤ n → IsBelow n o
    → IsBelow n (Some (option_map_or (greater (Some c)) o c))
joined_below n c None h k = h
joined_below n c (Some d) h k = greater_below n c d (leb d.difference c.difference) refl h k

most_below : (n : ℕ) (f : Task → Charge) (t : Task) (xs : List Task)
    → AllByRecursion (λ u. (f u).difference ≤ n) (t ∷ xs) → IsBelow n (most_owed_by f (t ∷ xs))
most_below n f t [] h = h.0
most_below n f t (u ∷ xs) h = joined_below n (f t) (most_owed_by f (u ∷ xs)) h.0 (most_below n f u xs h.1)

-- a task of these is owed no more than the heaviest could be at the least v
owed_below : (w a mean m v least : ℕ) → w ≤ a → mean ≤ m → least ≤ v → w * (mean - v) / 1024 ≤ a * (m - least) / 1024
owed_below w a mean m v least hw hm hv =
    let product : w * (mean - v) ≤ a * (m - least) = mul-le-mul hw (omega arith) in
    le-div (w * (mean - v) / 1024) (a * (m - least)) 1024 (omega arith) (omega (arith, product, div-mul-le_self (w * (mean - v)) 1024))

-- none of the tasks of a glance is owed more than the glance says at most
lags_below : (g : Glance) (s z : Stretch) (mean n W : ℕ) (xs : List Task)
    → mean ≤ g.mean → AllByRecursion (λ (u : Task). g.least ≤ u.v) xs
    → AllByRecursion (λ (u : Task). u.weight ≤ s.heaviest) xs
    → AllByRecursion (λ u. (lag_by z mean n W u).difference ≤ min (at_most_owed g s) (2 ^ 64 - 1)) xs
lags_below g s z mean n W [] hm hv hw = tt
lags_below g s z mean n W (t ∷ xs) hm hv hw =
    let one = owed_below t.weight s.heaviest mean g.mean t.v g.least hw.0 hm hv.0 in
    (omega (arith, one), lags_below g s z mean n W xs hm hv.1 hw.1)

-- the greatest difference stays, or a greater one takes its place
stays : (best c : Charge) (b : Bool) → leb c.difference best.difference ≡ b → c.difference ≤ best.difference → cond b best c ≡ best
stays best c true e h = refl
stays best c false e h = absurd (grind (arith, nat_tests))

greatest_stays : (best c : Charge) (o : Option Charge) → o ≡ Some best → c.difference ≤ best.difference → Some (greater o c) ≡ o
greatest_stays best c o e h =
    let P : Option Charge → Type 0 = λ o. Some (greater o c) ≡ o in
    subst P (sym e) (ap (λ k. Some k) (stays best c (leb c.difference best.difference) refl h))

-- what is owed most changes only the count of the lags, if it is not above the greatest that is kept
owing_stays : (l : Lags) (best : Charge) (o : Option Charge) → l.greatest ≡ Some best → IsBelow best.difference o
    → owing o l ≡ record l { measured = saturating_sum l.measured 1 }
owing_stays l best None e r = absurd r
owing_stays l best (Some c) e r =
    ap (λ (k : Option Charge). record l { measured = saturating_sum l.measured 1; greatest = k })
    (greatest_stays best c l.greatest e r)

-- what is not above a number is not above a greater one
raised : (m n : ℕ) (o : Option Charge) → m ≤ n → IsBelow m o → IsBelow n o
raised m n None le h = h
raised m n (Some c) le h = omega (arith, le, h)

-- where no task can be owed more than the greatest, a stretch that goes on changes only itself and the count
unseen : (c : Effect) (rise : ℕ) (g : Glance) (s : Stretch) (l : Lags) (best : Charge) (t : Task) (xs : List Task)
    → l.greatest ≡ Some best → min (at_most_owed g s) (2 ^ 64 - 1) ≤ best.difference → IsGlanceOf g s t xs
    → gone_on c rise (t ∷ xs) s l ≡ record l { stretch = Some (decided_in c (stretched rise s)); measured = saturating_sum l.measured 1 }
unseen c rise g s l best t xs e low seen =
    let z = stretched rise s in
    let mean = mean_at (t ∷ xs) in
    let n = length (t ∷ xs) in
    let W = total_weight (t ∷ xs) in
    let each = lags_below g s z mean n W (t ∷ xs) seen.mean seen.least seen.lighter in
    let most = most_below (min (at_most_owed g s) (2 ^ 64 - 1)) (lag_by z mean n W) t xs each in
    let below = raised (min (at_most_owed g s) (2 ^ 64 - 1)) best.difference (most_owed z (t ∷ xs)) low most in
    ap (λ (k : Lags). record k { stretch = Some (decided_in c z) }) (owing_stays l best (most_owed z (t ∷ xs)) e below)

-- where a stretch goes on and none can be owed more than the greatest, only the stretch and the count change
pub only_stretch_changes : (c : Effect) (rise : ℕ) (g : Glance) (s : Stretch) (l : Lags) (best : Charge) (xs : List Task)
    → (c ≡ Breaks → ⊥) → l.greatest ≡ Some best → min (at_most_owed g s) (2 ^ 64 - 1) ≤ best.difference
    → IsGlance g (Some s) xs
    → lags_by c (Some s) rise xs l ≡ record l { stretch = Some (decided_in c (stretched rise s)); measured = saturating_sum l.measured 1 }
only_stretch_changes c rise g s l best [] goes e low seen = absurd seen
only_stretch_changes Passes rise g s l best (t ∷ xs) goes e low seen = unseen Passes rise g s l best t xs e low seen
only_stretch_changes Decides rise g s l best (t ∷ xs) goes e low seen = unseen Decides rise g s l best t xs e low seen
only_stretch_changes Breaks rise g s l best (t ∷ xs) goes e low seen = absurd (goes refl)
