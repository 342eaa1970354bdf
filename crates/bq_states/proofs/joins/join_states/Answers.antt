use Rattle.bq_states.proofs.JoinLemmas.{Contains-more, Has-both}
use Rattle.bq_states.proofs.joins.join_states.Goals as goal

pub returns-clause-left : goal.returns-clause-left
returns-clause-left c = λ f s same contains.
    Contains-more f s c.args.into.now _ (rw same c.join_all.ensures.left) c.keep_common.ensures.left
    (rw same c.join_all-2.ensures.left) c.join_parts.ensures.left c.keep_same.ensures.left
    c.keep_related.ensures.left contains

pub returns-clause-right : goal.returns-clause-right
returns-clause-right c = λ f s same contains.
    Contains-more f s c.args.other.now _ (rw same c.join_all.ensures.right) c.keep_common.ensures.right
    (rw same c.join_all-2.ensures.right) c.join_parts.ensures.right c.keep_same.ensures.right
    c.keep_related.ensures.right contains

pub returns-clause-stands : goal.returns-clause-stands
returns-clause-stands c =
    λ x.
    Has-both x c.args.into.now c.args.other.now _ c.join_all.ensures.stands c.keep_common.ensures.both
    c.join_all-2.ensures.stands
