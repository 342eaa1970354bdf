use Rattle.std.proofs.Common.{◌-◌, drop, length, refl, arith}
use Rattle.bq_hooks.specs.Contexts.{u32_bytes}
use borrow.Rule.Slice.PartMut.{mid_of}
use Rattle.bq_hooks.proofs.FillingLemmas.{filled_behind}
use Rattle.bq_hooks.proofs.fields.put_u32.Goals as goal

pub returns : goal.returns
returns c =
    let at = c.args.at in
    let xs = c.args.context.now in
    record {
      filled =
          filled_behind at 4 (length xs - at) xs c.write_u32.new.buf (u32_bytes c.args.number)
          (drop 4 (mid_of at (length xs - at) xs)) c.write_u32.ensures refl (omega (arith, c.requires));
    }
