use Rattle.std.proofs.Common.{◌∙◌, ◌++◌, ap}
use Rattle.std.specs.Prelude.{string_bytes}
use Rattle.bq_explain.specs.TrailTexts.{join_text}
use Rattle.bq_explain.proofs.LineLemmas.{one_line_more}
use Rattle.bq_explain.proofs.trail_text.join_lines.Goals as goal

pub loop-join-preserved : goal.loop-join-preserved
loop-join-preserved c =
    one_line_more (join_text c.args.shapes.now) c.args.joins.now c.loop-join.join-index _ _
    (string_bytes c.loop-join.text) _ c.loop-join-test.true
    (c.in_ok-push_str.ensures.bytes
    ∙ ap (λ line. string_bytes c.loop-join.text ++ line)
    (c.as_str.ensures.value ∙ c.in_ok-line.ensures ∙ ap (join_text c.args.shapes.now) c.join-item.is))
    c.loop-join.invariant
