-- A queue is written task by task.
use Rattle.std.proofs.Common.{◌≡◌, ℕ, ◌<◌, List, ◌∷◌, ◌++◌, length, Option, Some, None, sym, ap, subst, ◌∙◌, append_assoc, append-nil, arith}
use Rattle.std.specs.Prelude.{find}
use Rattle.bq_disc.specs.Tasks.{Task}
use Rattle.bq_disc.specs.Queues.{follows, HasDistinctIds}
use Rattle.bq_disc.specs.Rising.{IsRising}
use Rattle.bq_trace.specs.Texts.{spaced_entities, entity_text}
use Rattle.bq_trace.proofs.QueueWalkLemmas.{rest_after, rest_after-next, rest_after-end}

-- the tasks still to come are the next one and those after its v and id, as they were read
next_at : (last : Option (ℕ × ℕ)) (queue : List Task) (t : Task) (v id : ℕ)
    → v ≡ t.v → id ≡ t.id → IsRising queue → HasDistinctIds queue → Some t ≡ find (follows last) queue
    → rest_after last queue ≡ t ∷ rest_after (Some (v, id)) queue
next_at last queue t v id same_v same_id rising distinct found =
    subst (λ (k : ℕ). rest_after last queue ≡ t ∷ rest_after (Some (k, id)) queue) (sym same_v)
    (subst (λ (k : ℕ). rest_after last queue ≡ t ∷ rest_after (Some (t.v, k)) queue) (sym same_id)
    (rest_after-next last queue t rising distinct (sym found)))

-- one more task is written
pub writes_next : (old new whole : List ℕ) (last : Option (ℕ × ℕ)) (queue : List Task) (t : Task) (v id : ℕ)
    → v ≡ t.v → id ≡ t.id → IsRising queue → HasDistinctIds queue → Some t ≡ find (follows last) queue
    → new ≡ old ++ 32 ∷ entity_text t → old ++ spaced_entities (rest_after last queue) ≡ whole
    → new ++ spaced_entities (rest_after (Some (v, id)) queue) ≡ whole
writes_next old new whole last queue t v id same_v same_id rising distinct found added so_far =
    let after = rest_after (Some (v, id)) queue in
    ap (λ l. l ++ spaced_entities after) added ∙ append_assoc old (32 ∷ entity_text t) (spaced_entities after)
    ∙ ap (λ l. old ++ spaced_entities l) (sym (next_at last queue t v id same_v same_id rising distinct found)) ∙ so_far

-- once a task is written, fewer tasks are still to come
pub fewer_to_come : (last : Option (ℕ × ℕ)) (queue : List Task) (t : Task) (v id : ℕ)
    → v ≡ t.v → id ≡ t.id → IsRising queue → HasDistinctIds queue → Some t ≡ find (follows last) queue
    → length (rest_after (Some (v, id)) queue) < length (rest_after last queue)
fewer_to_come last queue t v id same_v same_id rising distinct found =
    let e = ap length (next_at last queue t v id same_v same_id rising distinct found) in
    omega (arith, e)

-- nothing is still to come
pub writes_all : (now whole : List ℕ) (last : Option (ℕ × ℕ)) (queue : List Task)
    → None ≡ find (follows last) queue → now ++ spaced_entities (rest_after last queue) ≡ whole → now ≡ whole
writes_all now whole last queue none so_far =
    sym (append-nil now) ∙ ap (λ l. now ++ spaced_entities l) (sym (rest_after-end last queue (sym none))) ∙ so_far
