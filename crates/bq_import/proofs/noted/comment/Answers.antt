use Rattle.std.proofs.Common.{◌≡◌, ◌++◌, inr}
use Rattle.std.specs.Prelude.{string_bytes, codes}
use Rattle.std.proofs.lemmas.Result.{IfOk-weaker}
use Rattle.bq_import.specs.Noted.{IsNote}
use Rattle.bq_import.proofs.noted.comment.Goals as goal

pub returns : goal.returns
returns c =
    let words = string_bytes c.args.words.now in
    IfOk-weaker c.format.result (λ note. string_bytes note ≡ codes "; " ++ (words ++ codes "\n"))
    (λ note. IsNote (string_bytes note)) (λ note is. inr (words, c.requires, is)) c.format.ensures.ok
