use Rattle.std.proofs.Common.{◌≡◌, map, sym, ap, ◌∙◌}
use Rattle.std.specs.List.{sum_by}
use Rattle.bq_par.specs.Ticks.{one_tick, ticks_in}
use Rattle.bq_par.proofs.CountLemmas.{total_map}
use Rattle.bq_par.proofs.summary.counted.Goals as goal

pub confirmed_among-requires : goal.confirmed_among-requires
confirmed_among-requires c =
    let all : map (λ x. x.now) c.in_ok-records.records.items ≡ c.args.history.now = c.in_ok-records.ensures in
    record {
      stand = rw (c.deref-2.ensures.value, all) c.requires.stand;
      few = c.requires.few;
    }

pub returns : goal.returns
returns c =
    let records = c.in_ok-records.records.items in
    record {
      ticks = c.ticks_among.ensures ∙ (ap (λ vs. sum_by (λ v. one_tick v.now) vs) c.deref.ensures.value
          ∙ (sym (total_map one_tick (λ v. v.now) records) ∙ ap (λ l. ticks_in l) c.in_ok-records.ensures));
      confirmed = c.confirmed_among.ensures;
    }
