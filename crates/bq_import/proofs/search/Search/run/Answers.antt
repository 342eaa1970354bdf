use Rattle.bq_import.proofs.ForwardLemmas.{first_in_front}
use Rattle.bq_import.proofs.search.Search.run.Goals as goal

pub returns-clause-front : goal.returns-clause-front
returns-clause-front c =
    let now = c.visit.new.self in
    first_in_front c.args.old.now now.copy.slots.items now.copy.origins.items now.places.items
    c.in_ok-visit.ensures.ok.at.ordered.counted c.in_ok-visit.ensures.root
