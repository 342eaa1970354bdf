use Rattle.std.proofs.Common.{List, ℕ, ◌++◌, ◌∙◌, ap, string_bytes}
use Rattle.std.specs.Prelude.{codes}
use Rattle.bq_drawing.specs.declared.unit.Amount.{Amount}
use Rattle.bq_drawing.specs.Frames.{picture_setting}
use Rattle.bq_drawing.specs.Shapes.{wake_time}
use Rattle.bq_drawing.specs.Units.{amount_text}
use Rattle.bq_drawing.proofs.PictureLemmas.{added_as}
use Rattle.bq_drawing.proofs.shapes.write_wake_time.Goals as goal

pub returns : goal.returns
returns c =
    let reported : Amount → List ℕ → List ℕ
    = λ at name. codes " is woken at " ++ (amount_text at.unit at.time ++ (codes " " ++ (name ++ codes "</title></path>\n"))) in
    added_as c.write.result (string_bytes c.args.text.now) (string_bytes c.write.new.self)
    (wake_time (picture_setting c.args.frame.now) c.args.wake.now) (reported c.amount-at.result c.name-unit.result.now)
    (ap (λ (at : Amount). reported at c.name-unit.result.now) c.amount-at.ensures
    ∙ ap (λ (name : List ℕ). reported (record { time = c.args.wake.now.from; unit = c.args.frame.now.unit }) name) c.name-unit.ensures)
    c.write.ensures.bytes
