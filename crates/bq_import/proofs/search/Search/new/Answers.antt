use Rattle.bq_import.proofs.StackLemmas.{nothing_begun}
use Rattle.bq_import.proofs.search.Search.new.Goals as goal

pub returns-clause-done : goal.returns-clause-done
returns-clause-done c = λ maps. record {
  at =
      nothing_begun maps c.args.old.now c.new.result.slots.items c.new.result.origins.items c.in_ok-no_places.field-0.items
      c.in_ok-none_open.field-0.items c.new-2.result.items (c.new.ensures.built maps c.args.old.now)
      c.new.ensures.empty c.in_ok-no_places.ensures.blank c.in_ok-no_places.ensures.room c.in_ok-none_open.ensures.blank
      c.in_ok-none_open.ensures.room c.new-2.ensures.items;
  none = c.new-2.ensures.items;
}
