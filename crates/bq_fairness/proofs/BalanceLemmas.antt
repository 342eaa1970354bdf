-- EEVDF: a Tick keeps a processor balanced.
use Rattle.std.proofs.Common.{◌≡◌, ℕ, ◌+◌, ◌-◌, ◌*◌, ◌^◌, ◌≤◌, min, true, [], ◌∷◌, Option, Some, None, refl, ap, arith}
use Rattle.std.proofs.Math.Nat.{mul-le-mul_left}
use Rattle.std.proofs.lemmas.Bool.Decides.{nat_tests}
use Rattle.std.proofs.lemmas.List.Elements.{All-weaker}
use Rattle.bq_weights.specs.VirtualTime.{IsWeight, vdelta_of}
use Rattle.bq_disc.specs.Tasks.{Task, without}
use Rattle.bq_disc.specs.Totals.{total_weight, is_at_most_mean}
use Rattle.bq_disc.specs.Discipline.{Discipline}
use Rattle.bq_disc.specs.OneProcessor.{Running, present_at, ticked, rise}
use Rattle.bq_cfs.specs.Spread.{AreTasksSound}
use Rattle.bq_eevdf.specs.Eevdf.{eevdf}
use Rattle.bq_fairness.specs.Histories.{task_at}
use Rattle.bq_fairness.specs.Work.{weight_present, weighted_v_at}
use Rattle.bq_fairness.specs.EevdfFairness.{most_ahead, IsBalanced, BeginsBalanced, StaysBalanced, HistoryStaysBalanced}
use Rattle.bq_fairness.proofs.TickLemmas.{Change, Stays, Runs, tick_came}
use Rattle.bq_fairness.proofs.SoundLemmas.{of_each, vdelta_of-le, IsWellFormed, well_formed, change_rises, well_formed_ticked}
use Rattle.bq_fairness.proofs.SumLemmas.{total_weight-ticked, weighted_sum-busy, weighted_sum-idle}
use Rattle.bq_fairness.proofs.ListLemmas.{All-from_ids, of_some, IfSome-from, weights_split}
use Rattle.bq_fairness.proofs.PlaceLemmas.{current_present}
use Rattle.bq_fairness.proofs.EevdfFairLemmas.{tick_runs_eligible}

-- ids, weights and ends in the words of the law
pub well_formed_is_sound : (p : Running) → IsWellFormed p → AreTasksSound p
well_formed_is_sound p w = record {
  distinct = w.distinct;
  weights = All-from_ids (λ t. IsWeight t.weight) (present_at p) w.distinct w.weights;
  ends = All-from_ids (λ t. t.v ≤ 2 ^ 62) (present_at p) w.distinct w.ends;
}

-- a processor that is balanced, by ids
pub record IsLevel (E r : ℕ) (p : Running) : Type 0 where
  pub runs : (t : Task) → p.current ≡ Some t → weight_present p * t.v ≤ weighted_v_at p + E
  pub each : (i : ℕ) (t : Task) → task_at i p ≡ Some t → weight_present p * t.v ≤ weighted_v_at p + most_ahead E r (weight_present p) t.weight

-- at a balanced processor the task that runs and the task of each id keep their bounds
pub IsLevel-from_balanced : (E r : ℕ) (p : Running) → IsBalanced E r p → IsLevel E r p
IsLevel-from_balanced E r p b = record {
  runs = λ t e. of_some (λ x. weight_present p * x.v ≤ weighted_v_at p + E) p.current t b.current e;
  each = λ i t f. of_each (λ x. weight_present p * x.v ≤ weighted_v_at p + most_ahead E r (weight_present p) x.weight) p i t b.each f;
}

-- a well formed processor where the task that runs and the task of each id keep their bounds is balanced
pub IsBalanced-from_level : (E r : ℕ) (p : Running) → IsWellFormed p → IsLevel E r p → IsBalanced E r p
IsBalanced-from_level E r p w l = record {
  current = IfSome-from (λ t. weight_present p * t.v ≤ weighted_v_at p + E) p.current l.runs;
  each = All-from_ids (λ t. weight_present p * t.v ≤ weighted_v_at p + most_ahead E r (weight_present p) t.weight) (present_at p) w.distinct l.each;
}

-- The mean never falls

-- whether a task runs or none, a Tick does not lower the sum of weight times v
moment_up_by : (d : Discipline) (p : Running) (now : ℕ) (o : Option Task)
    → p.current ≡ o → IsWellFormed p → weighted_v_at p ≤ weighted_v_at (ticked d p now)
moment_up_by d p now None e w = omega (arith, weighted_sum-idle d p now e)
moment_up_by d p now (Some t) e w =
    let f = current_present p.queue p.mark p.current p.last t e in
    let ends = w.ends t.id t f in
    let up : t.v ≤ min (t.v + vdelta_of (rise p now) t.weight) (2 ^ 62) = omega arith in
    omega (arith, weighted_sum-busy d p now t e, mul-le-mul_left t.weight up)

-- a Tick does not lower the sum of weight times v
pub moment_up : (d : Discipline) (p : Running) (now : ℕ) → IsWellFormed p → weighted_v_at p ≤ weighted_v_at (ticked d p now)
moment_up d p now w = moment_up_by d p now p.current refl w

-- One that runs gets ahead by no more than its rise, less its own part in the mean

-- a task ahead of the mean by at most E that rises by at most `most` gets ahead by at most E and `most` at the others' weight
ahead_more : (W w s M N E x y g most : ℕ) → W ≡ w + s → y ≡ x + g → g ≤ most → W * x ≤ M + E → N + w * x ≡ M + w * y
    → W * y ≤ N + (E + s * most)
ahead_more W w s M N E x y g most split up le start moves =
    let a = ap (λ n. W * n) up in
    let b = ap (λ n. w * n) up in
    let c = ap (λ n. n * g) split in
    let e = mul-le-mul_left s le in
    omega arith

-- after a Tick a task is ahead of the mean by at most E and one rise, less its own part in the mean
ahead_by : (E r : ℕ) (p : Running) (now i : ℕ) (t u : Task) → IsWellFormed p → IsLevel E r p → rise p now ≤ r
    → task_at i p ≡ Some t → Change eevdf p now i t u
    → weight_present p * u.v ≤ weighted_v_at (ticked eevdf p now) + most_ahead E r (weight_present p) t.weight
ahead_by E r p now i t u w l le f (Stays e z) =
    let v : u.v ≡ t.v = ap (λ (x : Task). x.v) e in
    let h = l.each i t f in
    let up = moment_up eevdf p now w in
    rw v (omega arith)
ahead_by E r p now i t u w l le f (Runs c e z) =
    let ch : Change eevdf p now i t u = Runs c e z in
    let rs = change_rises eevdf p now i t u (w.ends i t f) ch in
    let ends = w.ends i t f in
    let v = rs.v in
    let most = rs.most in
    let mono = vdelta_of-le (rise p now) r t.weight (w.weights i t f).0 le in
    let up : u.v ≡ t.v + (u.v - t.v) = omega arith in
    let few : u.v - t.v ≤ vdelta_of r t.weight = omega arith in
    let split = weights_split i (present_at p) t f in
    let rest = total_weight (without i (present_at p)) in
    let moves = weighted_sum-busy eevdf p now t c in
    let own = ap (λ (x : Task). t.weight * x.v) e in
    let sum : weighted_v_at (ticked eevdf p now) + t.weight * t.v ≡ weighted_v_at p + t.weight * u.v = omega arith in
    let law =
    ahead_more (weight_present p) t.weight rest (weighted_v_at p) (weighted_v_at (ticked eevdf p now)) E t.v u.v (u.v - t.v)
    (vdelta_of r t.weight) split up few (l.runs t c) sum in
    let less : weight_present p - t.weight ≡ rest = omega arith in
    rw less law

-- an eligible task is ahead of the mean by no more than E, whatever E is
eligible_ahead : (W M E : ℕ) (t : Task) → is_at_most_mean W M t ≡ true → W * t.v ≤ M + E
eligible_ahead W M E t h = grind (arith, nat_tests)

-- a Tick keeps the bounds of the task that runs and of the task of each id
level_ticked : (E r : ℕ) (p : Running) (now : ℕ) → AreTasksSound p → IsWellFormed p → IsLevel E r p → rise p now ≤ r
    → IsLevel E r (ticked eevdf p now)
level_ticked E r p now s w l le =
    let q = ticked eevdf p now in
    record {
      runs = λ t e. eligible_ahead (weight_present q) (weighted_v_at q) E t (of_some _ q.current t (tick_runs_eligible p now s) e);
      each = λ i u f.
          let b = tick_came eevdf p now i u w.distinct f in
          let t = b.0 in
          let rs = change_rises eevdf p now i t u (w.ends i t b.1) b.2 in
          let h = ahead_by E r p now i t u w l le b.1 b.2 in
          rw (total_weight-ticked eevdf p now, rs.weight) h;
    }

-- where no task is ahead of the mean by more than E, the processor is balanced
pub begins_balanced : BeginsBalanced
begins_balanced E r p h = record {
  current =
      IfSome-from (λ t. weight_present p * t.v ≤ weighted_v_at p + E) p.current
      (λ t e. of_each (λ x. weight_present p * x.v ≤ weighted_v_at p + E) p t.id t h (current_present p.queue p.mark p.current p.last t e));
  each =
      All-weaker (λ x. weight_present p * x.v ≤ weighted_v_at p + E)
      (λ x. weight_present p * x.v ≤ weighted_v_at p + most_ahead E r (weight_present p) x.weight)
      (λ x k. omega arith) (present_at p) h;
}

-- a Tick at which the clock rises by at most r keeps a processor sound and balanced
pub stays_balanced : StaysBalanced
stays_balanced E r p now s b le =
    let w = well_formed p s in
    let next = well_formed_ticked eevdf p now w in (
      well_formed_is_sound (ticked eevdf p now) next,
      IsBalanced-from_level E r (ticked eevdf p now) next (level_ticked E r p now s w (IsLevel-from_balanced E r p b) le),
    )

-- any number of Ticks at which the clock rises by at most r keep a processor sound and balanced
pub history_stays_balanced : HistoryStaysBalanced
history_stays_balanced E r p [] s b le = (s, b)
history_stays_balanced E r p (now ∷ nows) s b le =
    let after = stays_balanced E r p now s b le.0 in
    history_stays_balanced E r (ticked eevdf p now) nows after.0 after.1 le.1
