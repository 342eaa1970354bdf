use Rattle.std.proofs.Common.{◌≡◌, Some, None, refl, ap, sym, subst, ◌∙◌}
use Rattle.std.specs.Prelude.{Option, IfSome}
use Rattle.bq_disc.specs.OneProcessor.{charge}
use Rattle.bq_hooks.specs.OwnPlace.{HasPlace}
use Rattle.bq_parts.specs.declared.carried.Carried.{Carried}
use Rattle.bq_parts.specs.Processors.{Processor}
use Rattle.bq_parts.specs.Choices.{SettledChoice, SettlesPlace, by_programs}
use Rattle.bq_parts.specs.Shares.{after_time}
use Rattle.bq_parts.proofs.LeaveLemmas.{placed_fits}
use Rattle.bq_parts.proofs.cpu.Cpu.end_wake.Goals as goal

pub returns-clause-share : goal.returns-clause-share
returns-clause-share g c =
    let d = g.Q.R.Discipline.discipline in
    let processor = c.args.processor in
    let now = c.args.now in
    let p : Processor = record (after_time d now c.args.self.now) { hand = None } in
    let carried = c.in-Some.carried in
    let placed = c.choose_place-placed in
    let settled : SettledChoice = record {
      choice = placed.result.choice;
      by = placed.result.by;
      steps = placed.result.steps;
      calls = placed.new.scratch;
      installed = placed.new.self.hooks.place;
    } in
    let charged : c.charge.new.self ≡ p =
    c.charge.ensures ∙ ap (λ (x : Processor). record x { running = charge d x.running now }) c.release.ensures.left in
    let settles =
    subst (λ (x : Processor). SettlesPlace (by_programs d) c.args.count processor x carried settled) charged
    placed.ensures.settled in
    let hand : c.args.self.now.hand ≡ Some carried = sym c.in-Some.ensures.carried in
    record {
      carried = carried;
      settled = settled;
      in_hand = hand;
      settles = settles;
      task = refl;
      to = refl;
      by = refl;
      steps = refl;
      asks = refl;
      here = placed.ensures.rest ∙ ap (λ (x : Processor). record x { hooks = record x.hooks { place = settled.installed } }) charged;
    }

pub returns-clause-below : goal.returns-clause-below
returns-clause-below g c =
    let d = g.Q.R.Discipline.discipline in
    let processor = c.args.processor in
    let now = c.args.now in
    let p : Processor = record (after_time d now c.args.self.now) { hand = None } in
    let carried = c.in-Some.carried in
    let placed = c.choose_place-placed in
    let settled : SettledChoice = record {
      choice = placed.result.choice;
      by = placed.result.by;
      steps = placed.result.steps;
      calls = placed.new.scratch;
      installed = placed.new.self.hooks.place;
    } in
    let charged : c.charge.new.self ≡ p =
    c.charge.ensures ∙ ap (λ (x : Processor). record x { running = charge d x.running now }) c.release.ensures.left in
    let settles =
    subst (λ (x : Processor). SettlesPlace (by_programs d) c.args.count processor x carried settled) charged
    placed.ensures.settled in
    let hand : c.args.self.now.hand ≡ Some carried = sym c.in-Some.ensures.carried in
    placed_fits d c.args.count processor p carried settled
    (subst (λ (o : Option Carried). IfSome o (λ x. HasPlace c.args.count x.task)) hand c.requires.usable) settles
