use Rattle.std.proofs.Common.{ap, ◌∙◌, string_bytes}
use Rattle.bq_disc.specs.Counts.{saturating_sum}
use Rattle.bq_drawing.specs.Legends.{name_beginning}
use Rattle.bq_drawing.proofs.PictureLemmas.{last_added}
use Rattle.bq_drawing.proofs.legend.write_swatch.Goals as goal

pub returns : goal.returns
returns c =
    last_added c.write-2.result (string_bytes c.args.text.now) (string_bytes c.write.new.self)
    (string_bytes c.write-2.new.self) _ (name_beginning (saturating_sum c.args.left 26) (saturating_sum c.args.top 15))
    (name_beginning c.saturating_add-right.result c.saturating_add-line.result) c.in_ok-write.ensures.bytes
    (ap (λ left. name_beginning left c.saturating_add-line.result) c.saturating_add-right.ensures
    ∙ ap (λ line. name_beginning (saturating_sum c.args.left 26) line) c.saturating_add-line.ensures) c.write-2.ensures.bytes
