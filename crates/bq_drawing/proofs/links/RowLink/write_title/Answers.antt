use Rattle.std.proofs.Common.{List, ℕ, ◌++◌, ◌∙◌, ap, string_bytes}
use Rattle.std.proofs.lemmas.Result.{on_ok_weaker}
use Rattle.std.specs.Prelude.{codes}
use Rattle.bq_drawing.specs.declared.unit.Amount.{Amount}
use Rattle.bq_drawing.specs.Links.{act_text, name_head}
use Rattle.bq_drawing.specs.Frames.{picture_setting}
use Rattle.bq_drawing.specs.Units.{amount_text, unit_name}
use Rattle.bq_drawing.proofs.PictureLemmas.{both_added, last_added}
use Rattle.bq_drawing.proofs.links.RowLink.write_title.Goals as goal

pub returns : goal.returns
returns c =
    let s = picture_setting c.args.frame.now in
    let link = c.args.self.now in
    let reported : Amount → List ℕ → List ℕ
    = λ at name. codes " at " ++ (amount_text at.unit at.time ++ (codes " " ++ (name ++ codes "</title></g>\n"))) in
    let begun = string_bytes c.write_name_head.new.text in
    let act = act_text link.kind link.from.processor link.to.processor in
    let when = reported (record { time = link.to.at; unit = s.unit }) (unit_name s.unit) in
    on_ok_weaker c.write.result (λ e.
    both_added (string_bytes c.args.text.now) begun (string_bytes c.write.new.self) (name_head s link.task)
    (act ++ when) c.in_ok-write_name_head.ensures e)
    (last_added c.write.result begun (string_bytes c.write_act.new.text) (string_bytes c.write.new.self) act when
    (reported c.amount-at.result c.name-unit.result.now) c.in_ok-write_act.ensures
    (ap (λ (at : Amount). reported at c.name-unit.result.now) c.amount-at.ensures
    ∙ ap (λ (name : List ℕ). reported (record { time = link.to.at; unit = s.unit }) name) c.name-unit.ensures)
    c.write.ensures.bytes)
