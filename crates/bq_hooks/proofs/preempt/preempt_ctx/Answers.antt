use Rattle.std.proofs.Common.{length, ap, ◌∙◌, arith}
use Rattle.bq_hooks.specs.Contexts.{PreemptFacts, as_number}
use Rattle.bq_hooks.proofs.PreemptByteLemmas.{preempt_filled}
use Rattle.bq_hooks.proofs.preempt.preempt_ctx.Goals as goal

pub returns : goal.returns
returns g c =
    record {
      bytes =
          preempt_filled c.args.facts.now c.args.context.now c.put_four.new.context c.put_u64.new.context
          c.put_u64-2.new.context c.put_task.new.context c.put_u32.new.context c.put_u32-2.new.context c.from.result
          c.len.result c.from-2.result c.weight.result c.v.result c.deadline.result c.as_number.result _
          (c.from.ensures ∙ ap (λ (x : PreemptFacts). x.processor) c.facts.view_is)
          (c.len.ensures ∙ ap (λ (x : PreemptFacts). length x.queue) c.facts.view_is)
          (c.from-2.ensures ∙ c.id.ensures ∙ ap (λ (x : PreemptFacts). x.current.id) c.facts.view_is)
          (c.weight.ensures.value ∙ ap (λ (x : PreemptFacts). x.current.weight) c.facts.view_is) c.put_four.ensures.filled
          (c.v.ensures.value ∙ ap (λ (x : PreemptFacts). x.current.v) c.facts.view_is) c.put_u64.ensures.filled
          (c.deadline.ensures.value ∙ ap (λ (x : PreemptFacts). x.current.deadline) c.facts.view_is)
          c.put_u64-2.ensures.filled (c.choice.ensures ∙ ap (λ (x : PreemptFacts). x.choice) c.facts.view_is)
          c.put_task.ensures.filled (c.as_number.ensures ∙ ap (λ (x : PreemptFacts). as_number x.own) c.facts.view_is)
          c.put_u32.ensures.filled c.put_u32-2.ensures.filled
          (omega (
            arith,
            c.put_u32-2.auto.context,
            c.put_u32.auto.context,
            c.put_task.auto.context,
            c.put_u64-2.auto.context,
            c.put_u64.auto.context,
            c.put_four.auto.context,
            c.fits-context,
          ));
    }
