use Rattle.std.proofs.Common.{◌≡◌, ◌++◌, ◌∙◌, ap, length, string_bytes}
use Rattle.std.proofs.lemmas.List.{drop_all}
use Rattle.std.proofs.lemmas.Result.{on_ok_weaker}
use Rattle.bq_disc.specs.Counts.{saturating_sum}
use Rattle.bq_drawing.specs.Legends.{entries_text, key_text, key_top, leaves_out, left_out_text, line_height, text_if}
use Rattle.bq_drawing.specs.Frames.{picture_setting}
use Rattle.bq_drawing.proofs.LegendLemmas.{entries_end, entries_next}
use Rattle.bq_drawing.proofs.PictureLemmas.{both_added}
use Rattle.bq_drawing.proofs.legend.write_legend.Goals as goal

pub loop-place-preserved : goal.loop-place-preserved
loop-place-preserved c =
    entries_next (picture_setting c.args.frame.now) c.args.first c.args.tasks.now c.loop-place.place _ _ _ _ c.loop-place-test.true
    c.in_ok-write_entry.ensures c.loop-place.invariant

pub returns : goal.returns
returns c =
    let s = picture_setting c.args.frame.now in
    let tasks = c.args.tasks.now in
    let key = c.args.key.now in
    let old = string_bytes c.args.text.now in
    let now = string_bytes c.loop-place.text in
    let written = string_bytes c.write_key.new.text in
    let top = key_top (length tasks) c.args.first in
    let line = saturating_sum (saturating_sum top line_height) 14 in
    let entries = entries_text s c.args.first 0 tasks in
    let left = text_if (leaves_out key) (left_out_text key line) in
    let top_is : c.key_top-top.result ≡ top = c.key_top-top.ensures in
    let line_is : c.saturating_add-2.result ≡ line =
    c.saturating_add-2.ensures
    ∙ ap (λ n. saturating_sum n 14) (c.saturating_add.ensures ∙ ap (λ n. saturating_sum n line_height) top_is) in
    on_ok_weaker c.write_left_out.result
    (λ e.
    both_added old now (string_bytes c.write_left_out.new.text) entries (key_text key top ++ left)
    (entries_end s c.args.first c.loop-place.place tasks _ now (drop_all c.loop-place.place tasks c.loop-place-test.false)
    c.loop-place.invariant) (both_added now written (string_bytes c.write_left_out.new.text) (key_text key top) left
    (c.in_ok-write_key.ensures ∙ ap (λ n. now ++ key_text key n) top_is)
    (e ∙ ap (λ n. written ++ text_if (leaves_out key) (left_out_text key n)) line_is))) c.write_left_out.ensures
