-- A decision changes who runs, and not who is present.
use Rattle.std.proofs.Common.{◌≡◌, ℕ, Bool, true, false, List, Option, Some, None, refl}
use Rattle.bq_disc.specs.Tasks.{Task, find_task, id_of}
use Rattle.bq_disc.specs.Queues.{HasDistinctIds}
use Rattle.bq_disc.specs.Discipline.{Discipline, next_of}
use Rattle.bq_disc.specs.OneProcessor.{Running, present_at, decided}
use Rattle.bq_fairness.proofs.PlaceLemmas.{same_started, distinct_started, last_started, same_exchanged, distinct_exchanged, last_exchanged}

-- what a decision keeps: each id stands for the task that it stood for, ids stay distinct, and the clock stands
pub record KeepsPresent (p q : Running) : Type 0 where
  pub same : (j : ℕ) → find_task j (present_at q) ≡ find_task j (present_at p)
  pub distinct : HasDistinctIds (present_at q)
  pub last : q.last ≡ p.last

-- a decision keeps who is present, at a processor given by its parts
decided_keeps : (d : Discipline) (q : List Task) (mark : ℕ) (o : Option Task) (last : ℕ) (b : Bool)
    → (let p : Running = record { queue = q; mark = mark; current = o; last = last } in
    HasDistinctIds (present_at p) → KeepsPresent p (decided d p o b))
decided_keeps d q mark None last b h = record {
  same = same_started q mark last (id_of (d.choice q));
  distinct = distinct_started q mark last (id_of (d.choice q)) h;
  last = last_started q mark last (id_of (d.choice q));
}
decided_keeps d q mark (Some u) last false h = record { same = λ j. refl; distinct = h; last = refl }
decided_keeps d q mark (Some u) last true h =
    let i = next_of d u q in
    record {
      same = λ j. same_exchanged q mark last i j u (find_task i q) refl h.0;
      distinct = distinct_exchanged q mark last i u (find_task i q) refl h;
      last = last_exchanged q mark last u (find_task i q);
    }

-- a decision keeps who is present, whatever the answer is
pub keeps_present : (d : Discipline) (p : Running) (b : Bool) → HasDistinctIds (present_at p) → KeepsPresent p (decided d p p.current b)
keeps_present d p b h = decided_keeps d p.queue p.mark p.current p.last b h
