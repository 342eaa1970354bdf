use Rattle.bq_hooks.specs.Contexts.{u32_bytes, u64_bytes}
use Rattle.bq_hooks.proofs.FillingLemmas.{three_filled}
use Rattle.bq_hooks.proofs.fields.put_figures.Goals as goal

pub returns : goal.returns
returns c =
    record {
      filled =
          three_filled c.args.at c.args.context.now c.put_u32.new.context c.put_u32-2.new.context c.put_u64.new.context
          (u32_bytes c.args.id) (u32_bytes c.args.weight) (u64_bytes c.args.v) c.put_u32.ensures.filled
          c.put_u32-2.ensures.filled c.put_u64.ensures.filled;
    }
