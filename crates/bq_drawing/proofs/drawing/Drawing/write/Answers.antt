use Rattle.std.proofs.Common.{◌≡◌, ℕ, List, Option, ◌++◌, ◌∙◌, ap, string_bytes, subst}
use Rattle.std.specs.Prelude.{find, unwrap_or}
use Rattle.bq_report.specs.Steps.{covers, round_steps}
use Rattle.bq_drawing.specs.declared.unit.TimeUnit.{TimeUnit}
use Rattle.bq_drawing.specs.Axes.{axis_text}
use Rattle.bq_drawing.specs.Headings.{heading_text}
use Rattle.bq_drawing.specs.Keys.{legend_top, tasks_shown}
use Rattle.bq_drawing.specs.Legends.{legend_text}
use Rattle.bq_drawing.specs.Scales.{rows_edge}
use Rattle.bq_drawing.specs.Frames.{drawn_in}
use Rattle.bq_drawing.specs.Units.{axis_step, unit_of_step}
use Rattle.bq_drawing.specs.Writing.{AreDrawn, key_beside}
use Rattle.bq_drawing.proofs.PictureLemmas.{drawing_whole}
use Rattle.bq_drawing.proofs.drawing.Drawing.write.Goals as goal

pub returns : goal.returns
returns c =
    let setting = drawn_in c.args.extent c.args.admitted.now c.args.names.now in
    let step : c.unwrap_or-step.result ≡ axis_step c.args.extent
    = c.unwrap_or-step.ensures ∙ ap (λ (o : Option ℕ). unwrap_or o 1)
    (c.round_step.ensures ∙ ap (λ n. find (λ (step : ℕ). covers n 10 step) round_steps) c.length.ensures) in
    let unit : c.of_step.result ≡ setting.unit = c.of_step.ensures ∙ ap unit_of_step step in
    let title = c.args.heading.now.title.now in
    let discipline = c.args.heading.now.discipline in
    let edge = c.in_ok-rows.rows.bottom in
    let held = c.args.self.now in
    drawing_whole c.args.window.now setting title discipline held c.in_ok-rows.rows _ _ _ _ _ _ _
    (subst (λ (u : TimeUnit). AreDrawn c.args.window.now (record setting { unit = u }) held c.in_ok-rows.rows) unit c.in_ok-rows.ensures)
    (c.in_ok-write.ensures
    ∙ ap (λ (u : TimeUnit). string_bytes c.new-text.result ++ heading_text (record setting { unit = u }) title discipline) unit
    ∙ ap (λ (t : List ℕ). t ++ heading_text setting title discipline) c.new-text.ensures.bytes)
    (c.in_ok-write_axis.ensures
    ∙ ap
    (λ (u : TimeUnit). string_bytes c.write.new.text ++ axis_text (record setting { unit = u }) c.unwrap_or-step.result rows_edge edge)
    unit
    ∙ ap (λ n. string_bytes c.write.new.text ++ axis_text setting n rows_edge edge) step)
    (c.in_ok-push_str.ensures.bytes ∙ ap (λ t. string_bytes c.write_axis.new.text ++ t) c.as_str.ensures.value)
    (c.in_ok-push_str-2.ensures.bytes ∙ ap (λ t. string_bytes c.push_str.new.self ++ t) c.as_str-2.ensures.value)
    (c.in_ok-push_str-3.ensures.bytes ∙ ap (λ t. string_bytes c.push_str-2.new.self ++ t) c.as_str-3.ensures.value)
    (c.in_ok-push_str-4.ensures.bytes
    ∙ ap (λ t. string_bytes c.push_str-3.new.self ++ t)
    (c.as_str-4.ensures.value ∙ c.in_ok-legend.ensures.text
    ∙ ap (λ (u : TimeUnit).
    legend_text (record setting { unit = u }) (tasks_shown setting.tasks held.tasks)
    (key_beside held.links c.in_ok-rows.rows) (legend_top edge)) unit)) c.in_ok-legend.ensures.height
