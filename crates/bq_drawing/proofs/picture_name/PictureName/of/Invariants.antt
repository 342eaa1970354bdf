use Rattle.std.proofs.Common.{◌≡◌, drop}
use Rattle.std.specs.List.{fold}
use Rattle.bq_drawing.specs.PictureNames.{hash_of, mixed}
use Rattle.bq_drawing.proofs.picture_name.PictureName.of.Given as goal

-- the bytes that are left complete the hash
abbrev pub invariant-loop-byte : goal.invariant-loop-byte
invariant-loop-byte l = fold mixed l.hash (drop l.byte-index l.bytes) ≡ hash_of l.fn.theme l.bytes
