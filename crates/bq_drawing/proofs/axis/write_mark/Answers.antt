use Rattle.std.proofs.Common.{◌≡◌, ◌++◌, ◌/◌, ◌∙◌, ap, sym, arith, true, nat_le, cond, [], string_bytes}
use Rattle.std.proofs.lemmas.Bool.Decides.{nat_tests}
use Rattle.std.proofs.lemmas.Result.{on_ok_weaker}
use Rattle.bq_disc.specs.Counts.{saturating_sum}
use Rattle.bq_drawing.specs.Axes.{grid_count, grid_line, axis_mark_text}
use Rattle.bq_drawing.specs.Scales.{moment_place}
use Rattle.bq_drawing.specs.Frames.{picture_setting}
use Rattle.bq_drawing.specs.Units.{unit_length}
use Rattle.bq_drawing.proofs.PictureLemmas.{both_added}
use Rattle.bq_drawing.proofs.axis.write_mark.Goals as goal

pub returns : goal.returns
returns c =
    let s = picture_setting c.args.frame.now in
    let place = moment_place s.extent c.args.at in
    let own = grid_count place (saturating_sum c.args.bottom 20) (c.args.at / unit_length s.unit) in
    let drawn : nat_le c.args.at s.extent.to ≡ true = search (arith, nat_tests, c.if-at-frame.false) in
    let reported : grid_count c.place-place.result.0 c.saturating_add.result (c.args.at / c.length.result) ≡ own
    = ap (λ p. grid_count p c.saturating_add.result (c.args.at / c.length.result)) c.place-place.ensures
    ∙ ap (λ line. grid_count place line (c.args.at / c.length.result)) c.saturating_add.ensures
    ∙ ap (λ unit. grid_count place (saturating_sum c.args.bottom 20) (c.args.at / unit)) c.length.ensures.value in
    on_ok_weaker c.write_grid_count.result
    (λ e. both_added (string_bytes c.args.text.now) (string_bytes c.write_grid_line.new.text) (string_bytes c.write_grid_count.new.text)
    (grid_line place c.args.top c.args.bottom) own
    (c.in_ok-write_grid_line.ensures ∙ ap (λ p. string_bytes c.args.text.now ++ grid_line p c.args.top c.args.bottom) c.place-place.ensures)
    (e ∙ ap (λ t. string_bytes c.write_grid_line.new.text ++ t) reported)
    ∙ ap (λ b. string_bytes c.args.text.now ++ cond b (axis_mark_text s c.args.top c.args.bottom c.args.at) []) (sym drawn))
    c.write_grid_count.ensures
