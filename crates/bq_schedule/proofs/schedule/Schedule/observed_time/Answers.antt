use Rattle.std.proofs.Common.{rules, tests, ◌≡◌, max, min, is_some, sym, ◌∙◌}
use Rattle.std.specs.List.{reduce}
use Rattle.std.proofs.lemmas.Iterator.{YieldsList-from_slice, YieldsList-from_map}
use Rattle.std.proofs.lemmas.Iterator.Adapters.{option_map_id}
use Rattle.std.proofs.lemmas.Iterator.Consumers.{min_from_yields_List, max_from_yields_List, YieldsList-from_filter_map, YieldsList-from_filter, YieldsList-at}
use Rattle.bq_schedule.specs.declared.figures.ProcessorFigures.{ProcessorFigures}
use Rattle.bq_schedule.specs.Observed.{observed_time, first_readings, last_readings}
use Rattle.bq_schedule.proofs.schedule.Schedule.observed_time.Goals as goal

pub returns : goal.returns
unfolding observed_time
returns c =
    let s = c.args.self.now in
    let first : c.min-first.result ≡ reduce min (first_readings s) =
    sym (option_map_id _)
    ∙ min_from_yields_List c.filter_map.result _ c.min-first.ensures.ran
    (YieldsList-from_filter_map _ (λ (p : ProcessorFigures). p.first)
    (YieldsList-at c.filter_map.ensures.source (YieldsList-from_slice s.processors (cc)))
    c.filter_map.ensures.closure (λ x r q k. search (rules, tests))) in
    let last : c.max-last.result ≡ reduce max (last_readings s) =
    sym (option_map_id _)
    ∙ max_from_yields_List c.map.result _ c.max-last.ensures.ran
    (YieldsList-from_map _ (λ (p : ProcessorFigures). p.last)
    (YieldsList-at c.map.ensures.source
    (YieldsList-from_filter _ (λ (p : ProcessorFigures). is_some p.first)
    (YieldsList-at c.filter.ensures.source (YieldsList-from_slice s.processors (cc)))
    c.filter.ensures.closure (λ x r q k. search (rules, tests))))
    c.map.ensures.closure (λ x r q k. search (rules, tests))) in
    cc
