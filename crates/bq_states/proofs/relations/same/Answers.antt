use Rattle.std.proofs.Common.{Option, ◌≡◌, ◌∙◌, subst, sym}
use Rattle.bq_states.specs.declared.relations.Related.{Related}
use Rattle.bq_states.specs.Relations.{IsRelatedBy}
use Rattle.bq_states.proofs.RelationLemmas.{option_same}
use Rattle.bq_states.proofs.relations.same.Goals as goal

pub returns-then-eq-clause-right : goal.returns-then-eq-clause-right
returns-then-eq-clause-right c =
    let same : c.args.a ≡ c.args.b = option_same c.args.a c.args.b (sym c.eq.ensures ∙ c.if-eq.true) in
    λ word is. subst (λ (r : Option Related). IsRelatedBy word r) (sym same) is
