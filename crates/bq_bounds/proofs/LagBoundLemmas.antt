-- EEVDF: the most that a task is owed in a stretch does not pass its bound.
use Rattle.std.proofs.Common.{◌≡◌, ℕ, ◌+◌, ◌-◌, ◌^◌, ◌≤◌, min, List, [], ◌∷◌, ◌++◌, length, Option, Some, None, refl, ap, sym, ◌∙◌, subst, arith}
use Rattle.std.specs.Prelude.{Contains, IfSome}
use Rattle.std.specs.Option.{option_map_or}
use Rattle.bq_disc.specs.Tasks.{Task}
use Rattle.bq_disc.specs.Orders.{Contains-later}
use Rattle.bq_disc.specs.Totals.{total_weight}
use Rattle.bq_disc.specs.OneProcessor.{Running, present_at, reading, charge, rise}
use Rattle.bq_disc.proofs.SetLemmas.{find_task-Contains}
use Rattle.bq_cfs.specs.Spread.{AreTasksSound}
use Rattle.bq_eevdf.specs.Eevdf.{eevdf}
use Rattle.bq_fairness.specs.Steps.{ProcessorStep, Pass, Decide, Enter, Leave, Mark, stepped, after_steps, DecidesWithin, EntersNew}
use Rattle.bq_fairness.proofs.SoundLemmas.{IsWellFormed, well_formed}
use Rattle.bq_fairness.proofs.StepLemmas.{well_formed_stepped}
use Rattle.bq_bounds.specs.declared.charge.Charge.{Charge}
use Rattle.bq_bounds.specs.declared.lags.Effect.{Effect}
use Rattle.bq_bounds.specs.declared.lags.Effect.TheVariants.{Passes, Decides}
use Rattle.bq_bounds.specs.declared.lags.Lags.{Lags}
use Rattle.bq_bounds.specs.declared.stretch.Stretch.{Stretch}
use Rattle.bq_bounds.specs.Watches.{greater}
use Rattle.bq_bounds.specs.Lags.{mean_at, owed, owed_at_most, beginning, stretched, lag_by, most_owed_by, most_owed}
use Rattle.bq_bounds.specs.LagWatches.{decided_in, owing, gone_on, lags_by, lags_after}
use Rattle.bq_bounds.specs.Owing.{KeepsTasks, KeepsAll}
use Rattle.bq_bounds.specs.Measures.{KeepsItsBound, stretch_by, stretch_after, AreLagsOf, LagsWithin}
use Rattle.bq_bounds.proofs.MeasureLemmas.{greater_within}
use Rattle.bq_bounds.proofs.OwedLemmas.{eevdf_owes_within}

-- What a stretch keeps

-- steps leave how far the furthest task was ahead when the stretch began: one step, and any:
ahead_by : (p : Running) (x : ProcessorStep) (s : Stretch) → (stretch_by p x s).ahead ≡ s.ahead
ahead_by p (Pass now) s = refl
ahead_by p Decide s = refl
ahead_by p (Enter t) s = refl
ahead_by p (Leave id) s = refl
ahead_by p Mark s = refl

ahead_stays : (p : Running) (ss : List ProcessorStep) (s : Stretch) → (stretch_after p ss s).ahead ≡ s.ahead
ahead_stays p [] s = refl
ahead_stays p (x ∷ ss) s = ahead_stays (stepped eevdf p x) ss (stretch_by p x s) ∙ ahead_by p x s

-- steps never lessen the greatest rise between two decisions: one step, and any:
most_by : (p : Running) (x : ProcessorStep) (s : Stretch) → s.most ≤ (stretch_by p x s).most
most_by p (Pass now) s = omega arith
most_by p Decide s = omega arith
most_by p (Enter t) s = omega arith
most_by p (Leave id) s = omega arith
most_by p Mark s = omega arith

most_grows : (p : Running) (ss : List ProcessorStep) (s : Stretch) → s.most ≤ (stretch_after p ss s).most
most_grows p [] s = omega arith
most_grows p (x ∷ ss) s = omega (arith, most_by p x s, most_grows (stepped eevdf p x) ss (stretch_by p x s))

-- The most of it bounds how far the clock rises between two decisions

-- the rise since a decision, and what the clock may still rise, stay below 2^48 by a reading
room_left : (n last now : ℕ) → n + (2 ^ 48 - 1 - last) ≤ 2 ^ 48 - 1
    → (n + (reading last now - last)) + (2 ^ 48 - 1 - reading last now) ≤ 2 ^ 48 - 1
room_left n last now h = omega arith

-- steps in which none comes or goes decide within the greatest rise of their stretch
decides_within : (p : Running) (ss : List ProcessorStep) (s : Stretch) (n r : ℕ)
    → s.since ≡ n → n ≤ s.most → n + (2 ^ 48 - 1 - p.last) ≤ 2 ^ 48 - 1 → KeepsAll ss → (stretch_after p ss s).most ≤ r
    → DecidesWithin r eevdf n p ss
decides_within p [] s n r e le room k h = tt
decides_within p (Pass now ∷ ss) s n r e le room k h =
    let m = charge eevdf p now in
    let next = stretched (rise p now) s in
    let left = room_left n p.last now room in
    let since : next.since ≡ n + rise p now = omega (arith, e, left) in
    let most : n + rise p now ≤ next.most = omega (arith, since) in
    (omega (arith, most, most_grows m ss next, h), decides_within m ss next (n + rise p now) r since most left k.1 h)
decides_within p (Decide ∷ ss) s n r e le room k h =
    (omega arith, decides_within (stepped eevdf p Decide) ss (decided_in Decides s) 0 r refl (omega arith) (omega arith) k.1 h)
decides_within p (Mark ∷ ss) s n r e le room k h =
    (omega (arith, le, most_grows (stepped eevdf p Mark) ss s, h), decides_within (stepped eevdf p Mark) ss s n r e le room k.1 h)
decides_within p (Enter t ∷ ss) s n r e le room k h = absurd k.0
decides_within p (Leave id ∷ ss) s n r e le room k h = absurd k.0

-- A processor where none comes or goes

-- where none comes or goes, none enters that is not new
enters : (p : Running) (x : ProcessorStep) → KeepsTasks x → EntersNew p x
enters p (Pass now) k = tt
enters p Decide k = tt
enters p (Enter t) k = absurd k
enters p (Leave id) k = tt
enters p Mark k = tt

-- steps in which none comes or goes leave a processor well formed
formed_after : (p : Running) (ss : List ProcessorStep) → IsWellFormed p → KeepsAll ss → IsWellFormed (after_steps eevdf p ss)
formed_after p [] w k = w
formed_after p (x ∷ ss) w k = formed_after (stepped eevdf p x) ss (well_formed_stepped eevdf p x w (enters p x k.0)) k.1

-- The most that is owed is what one is owed

-- the greatest of charges that keep their bounds keeps its own, of one and another, and of many:
joined : (c : Charge) (o : Option Charge) → KeepsItsBound c → IfSome o KeepsItsBound → KeepsItsBound (option_map_or (greater (Some c)) o c)
joined c None h k = h
joined c (Some d) h k = greater_within (Some c) d h k

most_within : (f : Task → Charge) (xs : List Task) → ((t : Task) → Contains xs t → KeepsItsBound (f t))
    → IfSome (most_owed_by f xs) KeepsItsBound
most_within f [] h = tt
most_within f (t ∷ xs) h =
    joined (f t) (most_owed_by f xs) (h t (0, omega arith, refl)) (most_within f xs (λ u c. h u (Contains-later t u xs c)))

-- numbers in order are in order when both are held below 2^64
held : (x y z : ℕ) → x ≤ y → z ≡ y → min x (2 ^ 64 - 1) ≤ min z (2 ^ 64 - 1)
held x y z h e = omega arith

-- what a task is owed keeps its bound if it is no more than a task may be owed in this stretch
lag_bound : (s : Stretch) (a mean n W : ℕ) (t : Task) → s.ahead ≡ a → owed mean t ≤ owed_at_most a s.most n W t.weight
    → KeepsItsBound (lag_by s mean n W t)
lag_bound s a mean n W t e h =
    held (owed mean t) (owed_at_most a s.most n W t.weight) (owed_at_most s.ahead s.most n W t.weight) h (ap (λ x. owed_at_most x s.most n W t.weight) e)

-- after steps in which none comes or goes, what is owed most keeps its bound
most_keeps : (p : Running) (ss : List ProcessorStep) → AreTasksSound p → KeepsAll ss
    → IfSome (most_owed (stretch_after p ss (beginning (present_at p))) (present_at (after_steps eevdf p ss))) KeepsItsBound
most_keeps p ss sound k =
    let start = beginning (present_at p) in
    let s = stretch_after p ss start in
    let xs = present_at (after_steps eevdf p ss) in
    let formed = formed_after p ss (well_formed p sound) k in
    let within = decides_within p ss start 0 s.most refl (omega arith) (omega arith) k (omega arith) in
    most_within (lag_by s (mean_at xs) (length xs) (total_weight xs)) xs (λ t c.
    let there = find_task-Contains xs t c.0 formed.distinct c.1 c.2 in
    lag_bound s start.ahead (mean_at xs) (length xs) (total_weight xs) t (ahead_stays p ss start)
    (eevdf_owes_within s.most p ss t.id t sound k within there))

-- More steps

-- some steps and then more are all of them in turn: at a processor, in a stretch, and if none comes or goes:
after_more : (p : Running) (ss more : List ProcessorStep) → after_steps eevdf p (ss ++ more) ≡ after_steps eevdf (after_steps eevdf p ss) more
after_more p [] more = refl
after_more p (x ∷ ss) more = after_more (stepped eevdf p x) ss more

stretch_more : (p : Running) (ss more : List ProcessorStep) (s : Stretch)
    → stretch_after p (ss ++ more) s ≡ stretch_after (after_steps eevdf p ss) more (stretch_after p ss s)
stretch_more p [] more s = refl
stretch_more p (x ∷ ss) more s = stretch_more (stepped eevdf p x) ss more (stretch_by p x s)

keeps_more : (ss more : List ProcessorStep) → KeepsAll ss → KeepsAll more → KeepsAll (ss ++ more)
keeps_more [] more k h = h
keeps_more (x ∷ ss) more k h = (k.0, keeps_more ss more k.1 h)

-- what is owed most after some more steps
most_keeps_more : (p : Running) (ss more : List ProcessorStep) → AreTasksSound p → KeepsAll ss → KeepsAll more
    → (let q = after_steps eevdf p ss in
    IfSome (most_owed (stretch_after q more (stretch_after p ss (beginning (present_at p)))) (present_at (after_steps eevdf q more)))
    KeepsItsBound)
most_keeps_more p ss more sound k h =
    let start = beginning (present_at p) in
    rw (← stretch_more p ss more start, ← after_more p ss more) (most_keeps p (ss ++ more) sound (keeps_more ss more k h))

-- The lags

-- the greatest that is kept still keeps its bound with one more charge that does, or with none
owing_within : (o : Option Charge) (l : Lags) → IfSome l.greatest KeepsItsBound → IfSome o KeepsItsBound
    → IfSome (owing o l).greatest KeepsItsBound
owing_within None l h k = h
owing_within (Some c) l h k = greater_within l.greatest c h k

-- lags with which a stretch goes on are those of its steps, if what is owed most keeps its bound
gone_within : (c : Effect) (rise : ℕ) (xs : List Task) (s : Stretch) (p : Running) (ss : List ProcessorStep) (l : Lags)
    → stretch_after p ss (beginning (present_at p)) ≡ decided_in c (stretched rise s) → IfSome l.greatest KeepsItsBound
    → IfSome (most_owed (stretched rise s) xs) KeepsItsBound
    → AreLagsOf p ss (gone_on c rise xs s l)
gone_within c rise xs s p ss l e h k =
    record { stretch = ap (λ (z : Stretch). Some z) (sym e); greatest = owing_within (most_owed (stretched rise s) xs) l h k }

-- a reading leaves lags that are those of the processor's steps, and so does a reading with a decision:
passes : (p : Running) (ss : List ProcessorStep) (now : ℕ) (l : Lags) → AreTasksSound p → KeepsAll ss → AreLagsOf p ss l
    → (let q = after_steps eevdf p ss in
    AreLagsOf p (ss ++ Pass now ∷ []) (lags_after Passes (rise q now) (present_at (stepped eevdf q (Pass now))) l))
passes p ss now l sound k are =
    let q = after_steps eevdf p ss in
    let more : List ProcessorStep = Pass now ∷ [] in
    let start = beginning (present_at p) in
    let s = stretch_after p ss start in
    let xs = present_at (after_steps eevdf q more) in
    let P : Option Stretch → Type 0 = λ o. AreLagsOf p (ss ++ more) (lags_by Passes o (rise q now) xs l) in
    subst P (sym are.stretch) (gone_within Passes (rise q now) xs s p (ss ++ more) l (stretch_more p ss more start)
    are.greatest (most_keeps_more p ss more sound k (tt, tt)))

decides : (p : Running) (ss : List ProcessorStep) (now : ℕ) (l : Lags)
    → AreTasksSound p → KeepsAll ss → AreLagsOf p ss l
    → (let q = after_steps eevdf p ss in
    AreLagsOf p (ss ++ Pass now ∷ Decide ∷ [])
    (lags_after Decides (rise q now) (present_at (after_steps eevdf q (Pass now ∷ Decide ∷ []))) l))
decides p ss now l sound k are =
    let q = after_steps eevdf p ss in
    let more : List ProcessorStep = Pass now ∷ Decide ∷ [] in
    let start = beginning (present_at p) in
    let s = stretch_after p ss start in
    let xs = present_at (after_steps eevdf q more) in
    let P : Option Stretch → Type 0 = λ o. AreLagsOf p (ss ++ more) (lags_by Decides o (rise q now) xs l) in
    subst P (sym are.stretch) (gone_within Decides (rise q now) xs s p (ss ++ more) l (stretch_more p ss more start)
    are.greatest (most_keeps_more p ss more sound k (tt, (tt, tt))))

-- under EEVDF, from the beginning of a stretch on, as long as none comes or goes, what is owed most does not pass its bound
pub lags_within : LagsWithin
lags_within = record {
  begins = λ p l h. record { stretch = refl; greatest = h };
  passes = passes;
  decides = decides;
}
