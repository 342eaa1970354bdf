use Rattle.std.proofs.Common.{◌-◌, drop, length, refl, arith}
use Rattle.bq_hooks.specs.Contexts.{u64_bytes}
use borrow.Rule.Slice.PartMut.{mid_of}
use Rattle.bq_hooks.proofs.FillingLemmas.{filled_behind}
use Rattle.bq_hooks.proofs.fields.put_u64.Goals as goal

pub returns : goal.returns
returns c =
    let at = c.args.at in
    let xs = c.args.context.now in
    record {
      filled =
          filled_behind at 8 (length xs - at) xs c.write_u64.new.buf (u64_bytes c.args.number)
          (drop 8 (mid_of at (length xs - at) xs)) c.write_u64.ensures refl (omega (arith, c.requires));
    }
