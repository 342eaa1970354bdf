use Rattle.std.proofs.Common.{◌≡◌, Some, None, sym, ◌∙◌}
use Rattle.bq_hooks.specs.OwnPlace.{own_place}
use Rattle.bq_hooks.proofs.PlaceLemmas.{own_place_there, own_place_below}
use Rattle.bq_hooks.proofs.own_choice.own_place.Goals as goal

pub unreachable-requires : goal.unreachable-requires
unreachable-requires c =
    let t = c.args.task.now in
    let loads = c.args.loads.now in
    let there = own_place_there c.args.count loads t c.requires.usable in
    let none : own_place c.args.count loads t ≡ None = sym (rw (c.prev.ensures, c.mask.ensures) at c.first_place.ensures) ∙ c.in-None.is in
    let both = sym there.1 ∙ none in
    cc

pub returns-clause-below : goal.returns-clause-below
returns-clause-below c =
    let t = c.args.task.now in
    let loads = c.args.loads.now in
    let own : Some c.in-Some.place ≡ own_place c.args.count loads t =
    sym c.in-Some.is ∙ (rw (c.prev.ensures, c.mask.ensures) at c.first_place.ensures) in
    own_place_below c.args.count loads t c.in-Some.place c.requires.usable own
