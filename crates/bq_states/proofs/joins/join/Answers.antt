use Rattle.std.proofs.Common.{◌≡◌, ℕ, rules}
use Rattle.bq_states.specs.AbstractStates.{IsBase}
use Rattle.bq_states.proofs.WordLemmas.{describes_more}
use Rattle.bq_states.proofs.joins.join.Goals.{else-ne-via-then-ne+else-not-is_alike, else-ne-via-else-ne}
use Rattle.bq_states.proofs.joins.join.Goals as goal

pub returns-clause-right : goal.returns-clause-right
returns-clause-right c =
    let bases : (base : ℕ) → IsBase c.args.shapes.now c.in-Some-Some.b.kind base → IsBase c.args.shapes.now c.in-Some-Some.a.kind base =
    elim c.else-ne.branch [
      | else-ne-via-then-ne+else-not-is_alike w ↦ w.is_alike.ensures.left w.if-not-is_alike.false
      | else-ne-via-else-ne w ↦ λ base is.
          let same : c.in-Some-Some.b.kind ≡ c.in-Some-Some.a.kind = search rules in
          rw same at is
    ] in
    rw c.in-Some-Some.is-1
    (λ word d. describes_more c.args.shapes.now c.in-Some-Some.a.kind c.in-Some-Some.b c.hull.result word bases c.hull.ensures.right d)
