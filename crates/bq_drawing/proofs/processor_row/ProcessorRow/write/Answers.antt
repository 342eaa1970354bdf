use Rattle.std.proofs.Common.{List, [], ℕ, length, ◌++◌, ◌∙◌, ap, refl, string_bytes, subst}
use Rattle.std.specs.Prelude.{flat_map}
use Rattle.bq_disc.specs.Counts.{saturating_sum}
use Rattle.bq_drawing.specs.declared.lanes.TaskInterval.{TaskInterval}
use Rattle.bq_drawing.specs.declared.shapes.DrawnRun.{DrawnRun}
use Rattle.bq_drawing.specs.Lanes.{lanes_after, left_out}
use Rattle.bq_drawing.specs.Rows.{ArePutInOrder, DrawingRow}
use Rattle.bq_drawing.specs.Frames.{picture_setting}
use Rattle.bq_drawing.specs.Shapes.{arrow_of, drawn_run_text, waits_text, wakes_text}
use Rattle.bq_drawing.proofs.PictureLemmas.{row_written}
use Rattle.bq_drawing.proofs.processor_row.ProcessorRow.write.Goals as goal

pub returns : goal.returns
returns c =
    let s = picture_setting c.args.frame.now in
    let top = c.band_top-top.result in
    row_written s c.args.number c.args.self.now c.in_ok-waits.waits.items c.in_ok-wakes.wakes.items _ _ top _ _
    c.args.rows.now _ _ _ _ (subst (λ (l : List TaskInterval). ArePutInOrder l c.in_ok-waits.waits.items)
    (c.as_slice.ensures.value ∙ ap (λ (r : DrawingRow). r.waits) c.self.view_is) c.in_ok-waits.ensures)
    (subst (λ (l : List TaskInterval). ArePutInOrder l c.in_ok-wakes.wakes.items)
    (c.as_slice-2.ensures.value ∙ ap (λ (r : DrawingRow). r.wakes) c.self.view_is) c.in_ok-wakes.ensures)
    (c.in_ok-levels.ensures ∙ ap (λ (l : List TaskInterval). length (lanes_after (arrow_of s.extent) [] l)) c.as_slice-3.ensures.value)
    c.band_top-top.ensures (c.in_ok-below.ensures.lanes
    ∙ ap (λ (l : List TaskInterval). length (lanes_after (λ (wait : TaskInterval). wait) [] l)) c.as_slice-5.ensures.value)
    c.row_end-rows.ensures (c.in_ok-below.ensures.left_out
    ∙ ap (λ (l : List TaskInterval). saturating_sum 0 (left_out (λ (wait : TaskInterval). wait) [] l)) c.as_slice-5.ensures.value)
    c.saturating_add-rows.ensures (c.in_ok-above.ensures.left_out
    ∙ ap (λ (l : List TaskInterval). saturating_sum 0 (left_out (arrow_of s.extent) [] l)) c.as_slice-6.ensures.value)
    c.saturating_add-rows-2.ensures refl c.in_ok-insert.ensures.updates c.in_ok-write_labels.ensures
    c.in_ok-write_row_name.ensures (c.in_ok-write_runs.ensures
    ∙ ap (λ (l : List DrawnRun). string_bytes c.write_row_name.new.text ++ flat_map (drawn_run_text s top) l)
    (c.as_slice-4.ensures.value ∙ ap (λ (r : DrawingRow). r.runs) c.self.view_is))
    (c.in_ok-push_str.ensures.bytes ∙ ap (λ (t : List ℕ). string_bytes c.write_runs.new.text ++ t)
    (c.as_str.ensures.value ∙ c.in_ok-below.ensures.text ∙ ap (λ (l : List TaskInterval). waits_text s top l) c.as_slice-5.ensures.value))
    (c.in_ok-push_str-2.ensures.bytes ∙ ap (λ (t : List ℕ). string_bytes c.push_str.new.self ++ t)
    (c.as_str-2.ensures.value ∙ c.in_ok-above.ensures.text ∙ ap (λ (l : List TaskInterval). wakes_text s top l) c.as_slice-6.ensures.value))
