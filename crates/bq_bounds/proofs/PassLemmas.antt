-- The task that runs while the clock is read a few times and nobody decides.
use Rattle.std.proofs.Common.{◌≡◌, ℕ, ◌+◌, ◌-◌, ◌≤◌, List, [], ◌∷◌, map, Option, Some, refl, sym, subst, arith}
use Rattle.bq_weights.specs.VirtualTime.{vdelta_of}
use Rattle.bq_disc.specs.Tasks.{Task}
use Rattle.bq_disc.specs.Discipline.{Discipline, charged}
use Rattle.bq_disc.specs.OneProcessor.{Running, reading}
use Rattle.bq_cfs.proofs.SpreadStayLemmas.{busy_processor}
use Rattle.bq_fairness.specs.Steps.{Pass, after_steps}
use Rattle.bq_fairness.proofs.SoundLemmas.{vdelta_of-le, vdelta_of-add}

-- a task that ran before the readings runs after them, by no more than the rise takes at its weight
pub record Ran (d : Discipline) (p : Running) (a : Task) (nows : List ℕ) : Type 0 where
  pub task : Task
  pub runs : (after_steps d p (map Pass nows)).current ≡ Some task
  pub weight : task.weight ≡ a.weight
  pub v : task.v ≤ a.v + vdelta_of ((after_steps d p (map Pass nows)).last - p.last) a.weight
  pub later : p.last ≤ (after_steps d p (map Pass nows)).last

-- a rise in two parts takes a task of this weight no further than the whole rise
split : (last at end w v x u : ℕ) → 15 ≤ w → last ≤ at → at ≤ end → x ≤ v + vdelta_of (at - last) w
    → u ≤ x + vdelta_of (end - at) w
    → u ≤ v + vdelta_of (end - last) w
split last at end w v x u low le le' h k =
    let add = vdelta_of-add (at - last) (end - at) w low in
    let whole = vdelta_of-le ((at - last) + (end - at)) (end - last) w low (omega arith) in
    omega arith

-- at a busy processor the task runs on through readings, no further than the rise takes it at its weight
ran : (d : Discipline) (q : List Task) (mark : ℕ) (a : Task) (last : ℕ) (nows : List ℕ)
    → 15 ≤ a.weight → Ran d (busy_processor q mark a last) a nows
ran d q mark a last [] low = record { task = a; runs = refl; weight = refl; v = omega arith; later = omega arith }
ran d q mark a last (now ∷ nows) low =
    let at = reading last now in
    let b = charged d a (at - last) in
    let rest = ran d q (d.mark mark (b ∷ q)) b at nows low in
    let end = (after_steps d (busy_processor q (d.mark mark (b ∷ q)) b at) (map Pass nows)).last in
    let first : b.v ≤ a.v + vdelta_of (at - last) a.weight = omega arith in
    let up : last ≤ at = omega arith in
    record {
      task = rest.task;
      runs = rest.runs;
      weight = rest.weight;
      v = split last at end a.weight a.v b.v rest.task.v low up rest.later first rest.v;
      later = let more = rest.later in omega arith;
    }

-- the current task of a processor still runs after some readings of the clock, and moved no more than these allow
pub ran_at : (d : Discipline) (p : Running) (a : Task) (nows : List ℕ) → p.current ≡ Some a → 15 ≤ a.weight → Ran d p a nows
ran_at d p a nows e low =
    let P : Option Task → Type 0 = λ o. Ran d (record p { current = o }) a nows in
    subst P (sym e) (ran d p.queue p.mark a p.last nows low)
