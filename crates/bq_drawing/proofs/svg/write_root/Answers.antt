use Rattle.std.proofs.Common.{string_bytes}
use Rattle.std.proofs.lemmas.Result.{on_ok_weaker}
use Rattle.bq_drawing.proofs.PictureLemmas.{both_added}
use Rattle.bq_drawing.proofs.svg.write_root.Goals as goal

pub returns : goal.returns
returns c =
    on_ok_weaker c.write-2.result (λ e.
    both_added (string_bytes c.args.text.now) (string_bytes c.write.new.self) (string_bytes c.write-2.new.self) _ _
    c.in_ok-write.ensures.bytes e) c.write-2.ensures.bytes
