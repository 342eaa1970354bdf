use Rattle.std.proofs.Common.{◌≡◌, ap, ◌∙◌, slice_index, arith}
use Rattle.bq_hooks.specs.Contexts.{PlaceFacts}
use Rattle.bq_hooks.proofs.PlaceByteLemmas.{load_filled, place_filled}
use Rattle.bq_hooks.proofs.place.fill.Goals as goal

pub loop-processor-preserved : goal.loop-processor-preserved
loop-processor-preserved c =
    load_filled c.args.limit c.args.facts.now c.loop-processor.processor c.from.result
    c.loop-processor.context c.put_u32.new.context c.loop-processor.invariant
    (c.from.ensures ∙ c.get.ensures ∙ ap (λ (x : PlaceFacts). slice_index x.loads c.loop-processor.processor) c.facts.view_is)
    c.put_u32.ensures.filled

pub returns : goal.returns
returns c =
    let end : c.loop-processor.processor ≡ c.args.limit = omega (arith, c.loop-processor-test.false, c.loop-processor.auto.processor-end) in
    record {
      bytes = place_filled c.args.limit c.loop-processor.processor c.args.facts.now c.loop-processor.context end c.loop-processor.invariant
          (omega (arith, c.loop-processor.auto.context, c.put_header.auto.context, c.requires.room));
    }
