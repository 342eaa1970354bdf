use Rattle.std.proofs.Common.{List, Option, Some, ap, ◌∙◌}
use Rattle.std.specs.Option.{option_map}
use Rattle.bq_disc.specs.Tasks.{Task, first_by, runs_before}
use Rattle.bq_disc.specs.Queues.{key_of}
use Rattle.bq_disc.specs.Chains.{chain_behind}
use Rattle.bq_disc.proofs.RisingLemmas.{head-first_by}
use Rattle.bq_disc.proofs.chain.ChainTaskOrder.least.Goals as goal

pub returns-in-None-clause-key : goal.returns-in-None-clause-key
returns-in-None-clause-key c =
    let first =
    c.in-None.ensures ∙ head-first_by (chain_behind c.self.inside.head) c.self.invariant.4
    ∙ ap (λ (xs : List Task). first_by runs_before xs) c.self.view_is in
    ap (λ (o : Option Task). option_map key_of o) first

pub returns-in-Some-clause-key : goal.returns-in-Some-clause-key
returns-in-Some-clause-key c =
    let first =
    c.in-Some.ensures ∙ head-first_by (chain_behind c.self.inside.head) c.self.invariant.4
    ∙ ap (λ (xs : List Task). first_by runs_before xs) c.self.view_is in
    ap (λ k. Some k) c.key.ensures.value ∙ ap (λ (o : Option Task). option_map key_of o) first
