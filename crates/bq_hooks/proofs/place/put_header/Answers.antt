use Rattle.std.proofs.Common.{◌≡◌, ◌%◌, ◌^◌, min, ap, ◌∙◌}
use Rattle.bq_hooks.specs.Contexts.{PlaceFacts, if_shown, if_any_shown}
use Rattle.bq_hooks.proofs.PlaceByteLemmas.{place_header_filled}
use Rattle.bq_hooks.proofs.place.put_header.Goals as goal

pub returns : goal.returns
returns c =
    let shown : c.min-shown.result ≡ min c.facts.inside.processors c.args.limit = c.min-shown.ensures in
    let mask =
    c.low_bits.ensures ∙ ap (λ m. m % 2 ^ c.min-shown.result) c.mask.ensures ∙ ap (λ n. c.facts.inside.task.now.mask % 2 ^ n) shown
    ∙ ap (λ (x : PlaceFacts). x.task.mask % 2 ^ min x.processors c.args.limit) c.facts.view_is in
    let prev =
    c.if_any_shown.ensures ∙ ap (if_any_shown c.args.limit) c.prev.ensures
    ∙ ap (λ (x : PlaceFacts). if_any_shown c.args.limit x.task.prev) c.facts.view_is in
    record {
      filled =
          place_header_filled c.args.limit c.args.facts.now c.args.context.now c.put_u32.new.context c.put_u32-2.new.context
          c.put_u64.new.context c.put_u64-2.new.context c.put_four.new.context c.from.result c.weight.result
          c.low_bits.result c.slice.result c.if_shown.result c.if_any_shown.result c.min-shown.result c.if_shown-2.result
          (c.from.ensures ∙ c.id.ensures ∙ ap (λ (x : PlaceFacts). x.task.id) c.facts.view_is) c.put_u32.ensures.filled
          (c.weight.ensures.value ∙ ap (λ (x : PlaceFacts). x.task.weight) c.facts.view_is)
          c.put_u32-2.ensures.filled mask c.put_u64.ensures.filled
          (c.slice.ensures.value ∙ ap (λ (x : PlaceFacts). x.task.slice) c.facts.view_is) c.put_u64-2.ensures.filled
          (c.if_shown.ensures ∙ ap (λ (x : PlaceFacts). if_shown c.args.limit x.waking) c.facts.view_is) prev
          (shown ∙ ap (λ (x : PlaceFacts). min x.processors c.args.limit) c.facts.view_is)
          (c.if_shown-2.ensures ∙ ap (λ (x : PlaceFacts). if_shown c.args.limit x.own) c.facts.view_is)
          c.put_four.ensures.filled;
    }
