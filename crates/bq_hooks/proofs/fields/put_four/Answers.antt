use Rattle.bq_hooks.specs.Contexts.{u32_bytes}
use Rattle.bq_hooks.proofs.FillingLemmas.{four_filled}
use Rattle.bq_hooks.proofs.fields.put_four.Goals as goal

pub returns : goal.returns
returns c =
    record {
      filled =
          four_filled c.args.at c.args.context.now c.put_u32.new.context c.put_u32-2.new.context c.put_u32-3.new.context
          c.put_u32-4.new.context (u32_bytes c.args.first) (u32_bytes c.args.second) (u32_bytes c.args.third)
          (u32_bytes c.args.fourth) c.put_u32.ensures.filled c.put_u32-2.ensures.filled c.put_u32-3.ensures.filled
          c.put_u32-4.ensures.filled;
    }
