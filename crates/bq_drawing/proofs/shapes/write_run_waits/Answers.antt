use Rattle.std.proofs.Common.{List, ℕ, ◌++◌, ◌∙◌, ap, string_bytes}
use Rattle.std.proofs.lemmas.Result.{on_ok_weaker}
use Rattle.std.specs.Prelude.{codes}
use Rattle.bq_drawing.specs.declared.unit.Amount.{Amount}
use Rattle.bq_drawing.specs.Shapes.{latency_text}
use Rattle.bq_drawing.specs.Units.{amount_text, unit_name}
use Rattle.bq_drawing.proofs.PictureLemmas.{both_added}
use Rattle.bq_drawing.proofs.shapes.write_run_waits.Goals as goal

pub returns : goal.returns
returns c =
    let unit = c.args.frame.now.unit in
    let old = string_bytes c.args.text.now in
    on_ok_weaker _ (both_added old _ _
    (codes ", after " ++ (amount_text unit c.args.run.now.waited ++ (codes " " ++ (unit_name unit ++ codes " of waiting"))))
    (latency_text unit c.args.run.now.latency)
    (c.in_ok-write.ensures.bytes
    ∙ ap (λ (a : Amount).
    old ++ (codes ", after " ++ (amount_text a.unit a.time ++ (codes " " ++ (c.name-unit.result.now ++ codes " of waiting")))))
    c.amount-waited.ensures
    ∙ ap (λ (name : List ℕ).
    old ++ (codes ", after " ++ (amount_text unit c.args.run.now.waited ++ (codes " " ++ (name ++ codes " of waiting")))))
    c.name-unit.ensures)) c.write_latency.ensures
