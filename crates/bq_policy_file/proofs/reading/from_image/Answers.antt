use Rattle.std.proofs.Common.{◌≡◌, rules, subst}
use Rattle.bq_insn.specs.Spelling.{spelling}
use Rattle.bq_load.specs.Layout.{IsImage}
use Rattle.bq_policy_file.proofs.reading.from_image.Goals as goal

pub returns-in-Some-clause-fault : goal.returns-in-Some-clause-fault
returns-in-Some-clause-fault c =
    let form = c.in_ok-form.field-0.form in
    let program = c.in_ok-form.field-0.program in
    let insns = c.in_ok-insns in
    let spelled : program.items ≡ spelling insns.insns.items = search rules in
    let is : IsImage c.args.bytes.now form.version form.hook form.shapes.items program.items = search rules in (
      insns.insns.items,
      record {
        version = form.version;
        hook = form.hook;
        shapes = form.shapes.items;
        image = subst (IsImage c.args.bytes.now form.version form.hook form.shapes.items) spelled is;
        well_formed = insns.ensures.well_formed;
        numbers = insns.ensures.numbers;
      },
      rw c.as_slice-2.ensures.value at c.in-Some.ensures,
    )
