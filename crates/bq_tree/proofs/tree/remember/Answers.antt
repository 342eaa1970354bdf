use Rattle.bq_tree.proofs.SoundLemmas.{Knows-other}
use Rattle.bq_tree.proofs.IndexLemmas.{set_apart}
use Rattle.bq_tree.proofs.tree.remember.Goals as goal

pub returns-then-place-lt-IDS-clause-others : goal.returns-then-place-lt-IDS-clause-others
returns-then-place-lt-IDS-clause-others c = λ xs none k.
    Knows-other c.args.times.now _ c.args.id xs
    (λ i e. set_apart c.args.times.now c.from-place.result c.args.id i c.args.v c.from-place.ensures e) none k
