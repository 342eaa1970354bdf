use Rattle.bq_insn.specs.Appending.{StartsWith}
use Rattle.bq_insn.proofs.EncodeLemmas.{on_err, starts_more}
use Rattle.std.proofs.Common.{ℕ, ◌/◌, ◌∙◌, ap}
use Rattle.std.specs.Int.{w32, to_le_bytes}
use Rattle.bq_load.specs.Layout.{image_opening, shapes_bytes}
use Rattle.bq_load.proofs.WritingLemmas.{four_parts}
use Rattle.bq_load.proofs.writing.append.Goals as goal

pub returns-in_err-append_shapes-clause-err : goal.returns-in_err-append_shapes-clause-err
returns-in_err-append_shapes-clause-err c =
    let opened : StartsWith c.args.out.now.items c.extend_from_slice.new.self.items = (_, c.in_ok-extend_from_slice.ensures.items) in
    on_err c.from_residual-in_err-append_shapes.result (starts_more _ _ _ opened c.in_err-append_shapes.ensures.err)

pub returns-in_err-extend_from_slice-2-clause-err : goal.returns-in_err-extend_from_slice-2-clause-err
returns-in_err-extend_from_slice-2-clause-err c =
    let opened : StartsWith c.args.out.now.items c.extend_from_slice.new.self.items = (_, c.in_ok-extend_from_slice.ensures.items) in
    let more : StartsWith c.extend_from_slice.new.self.items c.extend_from_slice-2.new.self.items =
    (_, c.in_err-extend_from_slice-2.ensures.items ∙ c.in_ok-append_shapes.ensures.ok) in
    on_err c.from_residual-in_err-extend_from_slice-2.result (starts_more _ _ _ opened more)

pub returns-in_err-extend_from_slice-3-clause-err : goal.returns-in_err-extend_from_slice-3-clause-err
returns-in_err-extend_from_slice-3-clause-err c =
    let opened : StartsWith c.args.out.now.items c.extend_from_slice.new.self.items = (_, c.in_ok-extend_from_slice.ensures.items) in
    let shaped : StartsWith c.extend_from_slice.new.self.items c.append_shapes.new.out.items = (_, c.in_ok-append_shapes.ensures.ok) in
    let more : StartsWith c.append_shapes.new.out.items c.extend_from_slice-3.new.self.items =
    (_, c.in_err-extend_from_slice-3.ensures.items ∙ c.in_ok-extend_from_slice-2.ensures.items) in
    on_err c.from_residual-in_err-extend_from_slice-3.result (starts_more _ _ _ (starts_more _ _ _ opened shaped) more)

pub returns-clause-ok : goal.returns-clause-ok
returns-clause-ok c =
    four_parts c.args.out.now.items c.extend_from_slice.new.self.items c.append_shapes.new.out.items
    c.extend_from_slice-2.new.self.items c.extend_from_slice-3.new.self.items _ _ _ _ _ _ _ _
    c.in_ok-extend_from_slice.ensures.items c.in_ok-append_shapes.ensures.ok c.in_ok-extend_from_slice-2.ensures.items
    c.in_ok-extend_from_slice-3.ensures.items
    (c.opening.ensures
    ∙ ap (image_opening c.args.image.now.form.version c.args.image.now.form.hook) (c.len-count.ensures ∙ c.args.image.now.form.shapes.ok.0))
    (ap shapes_bytes c.as_slice.ensures.value)
    (c.to_le_bytes.ensures ∙ ap (λ (n : ℕ). to_le_bytes w32 (n / 8)) (c.len.ensures ∙ c.args.image.now.program.ok.0))
    c.as_slice-2.ensures.value
