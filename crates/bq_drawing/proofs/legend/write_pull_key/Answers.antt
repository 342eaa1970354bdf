use Rattle.std.proofs.Common.{Bool, ◌++◌, ◌∙◌, ap, string_bytes, sym}
use Rattle.std.proofs.lemmas.Result.{on_ok_weaker}
use Rattle.bq_drawing.specs.Legends.{pull_key, text_if}
use Rattle.bq_drawing.proofs.PictureLemmas.{both_added}
use Rattle.bq_drawing.proofs.legend.write_pull_key.Goals as goal

pub returns : goal.returns
returns c =
    let old = string_bytes c.args.text.now in
    on_ok_weaker c.write-2.result
    (λ e. both_added old (string_bytes c.write.new.self) (string_bytes c.write-2.new.self) _ _ c.in_ok-write.ensures.bytes e
    ∙ ap (λ (so : Bool). old ++ text_if so (pull_key c.args.height c.args.line)) (sym c.if-not-has_pulls.false))
    c.write-2.ensures.bytes
