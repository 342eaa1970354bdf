use Rattle.std.proofs.Common.{◌≡◌, ◌≤◌, ℕ, List, [], ◌∷◌, ◌++◌, length, Option, Some, sym, ap, ◌∙◌, append_assoc, append-nil, arith}
use Rattle.std.specs.Prelude.{find}
use Rattle.std.proofs.lemmas.Grind.{common_steps}
use Rattle.bq_disc.specs.Tasks.{Task}
use Rattle.bq_disc.specs.Queues.{follows, HasDistinctIds}
use Rattle.bq_disc.specs.Rising.{IsRising}
use Rattle.bq_trace.proofs.QueueWalkLemmas.{rest_after, rest_after-none, rest_after-next, rest_after-end}
use Rattle.bq_why.proofs.presence.add_queue.Goals as goal

-- one more task is added
adds_next : (items new : List Task) (last : Option (ℕ × ℕ)) (queue : List Task) (t : Task) (key : ℕ × ℕ) (whole : List Task)
    → key ≡ (t.v, t.id) → IsRising queue → HasDistinctIds queue → Some t ≡ find (follows last) queue → new ≡ items ++ t ∷ []
    → items ++ rest_after last queue ≡ whole
    → new ++ rest_after (Some key) queue ≡ whole
adds_next items new last queue t key whole same rising distinct found added so_far =
    ap (λ l. l ++ rest_after (Some key) queue) added ∙ append_assoc items (t ∷ []) (rest_after (Some key) queue)
    ∙ ap (λ l. items ++ l)
    (ap (λ (k : ℕ × ℕ). t ∷ rest_after (Some k) queue) same ∙ sym (rest_after-next last queue t rising distinct (sym found)))
    ∙ so_far

longer : (items new : List Task) (t : Task) → length items ≤ 1023 → new ≡ items ++ t ∷ [] → length new ≤ 1024
longer items new t few added = grind (arith, common_steps)

pub loop-last-init : goal.loop-last-init
loop-last-init g c = record { few = c.requires; all = ap (λ l. c.args.tasks.now.items ++ l) (rest_after-none c.args.cpu.now.running.queue) }

pub returns-in_default-clause-all : goal.returns-in_default-clause-all
returns-in_default-clause-all g c = λ few.
    let queue = c.args.cpu.now.running.queue in
    let items = c.loop-last.tasks.items in
    sym (append-nil items) ∙ ap (λ l. items ++ l) (sym (rest_after-end c.loop-last.last queue (sym c.in_default.ensures.task)))
    ∙ c.loop-last.invariant.all

pub loop-last-preserved : goal.loop-last-preserved
loop-last-preserved g c =
    let few : length c.loop-last.tasks.items ≤ 1023 = omega (arith, c.loop-last-test.true, c.len.ensures) in
    record {
      few = longer c.loop-last.tasks.items _ _ few c.in_ok-push.ensures.items;
      all = adds_next c.loop-last.tasks.items _ c.loop-last.last c.args.cpu.now.running.queue _ c.key.result _ c.key.ensures.value
          c.in-Some.ensures.rising c.in-Some.ensures.distinct c.in-Some.ensures.task c.in_ok-push.ensures.items c.loop-last.invariant.all;
    }
