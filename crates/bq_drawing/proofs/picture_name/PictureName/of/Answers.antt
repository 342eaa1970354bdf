use Rattle.std.proofs.Common.{List, ℕ, ◌∙◌, ap}
use Rattle.std.proofs.lemmas.List.{drop_all}
use Rattle.std.specs.List.{fold}
use Rattle.bq_drawing.specs.PictureNames.{hash_basis, hash_of, mixed}
use Rattle.bq_drawing.proofs.HashLemmas.{hash_all, hash_more}
use Rattle.bq_drawing.proofs.picture_name.PictureName.of.Goals as goal

pub loop-byte-init : goal.loop-byte-init
loop-byte-init c =
    ap (λ hash. fold mixed hash c.as_bytes-bytes.result.now)
    (c.mixed-hash.ensures ∙ ap (λ letter. mixed hash_basis letter) c.theme_letter.ensures)

pub loop-byte-preserved : goal.loop-byte-preserved
loop-byte-preserved c =
    hash_more c.as_bytes-bytes.result.now c.loop-byte.byte-index _ c.loop-byte.hash _ _ c.loop-byte-test.true
    c.mixed-hash-in-loop-byte.ensures c.loop-byte.invariant

pub returns : goal.returns
returns c =
    hash_all c.as_bytes-bytes.result.now c.loop-byte.byte-index c.loop-byte.hash _
    (drop_all c.loop-byte.byte-index c.as_bytes-bytes.result.now c.loop-byte-test.false) c.loop-byte.invariant
    ∙ ap (λ (l : List ℕ). hash_of c.args.theme l) c.as_bytes-bytes.ensures.value
