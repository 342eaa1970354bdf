use Rattle.hex.proofs.HexLemmas.{decode_of-encode_lower}
use Rattle.bq_simulate.proofs.line_laws.images_are_read.Goals as goal

pub returns : goal.returns
returns c = decode_of-encode_lower
