use Rattle.std.proofs.Common.{◌≡◌, ◌+◌, ◌∙◌, ap, sym, take, get_or, [], ◌∷◌, ◌++◌, arith}
use Rattle.std.proofs.lemmas.List.{length-take, take_more}
use Rattle.bq_workload_file.specs.Positions.{column_after, line_after}
use Rattle.bq_workload_file.proofs.PlaceLemmas.{column-low, line-low}
use Rattle.bq_workload_file.proofs.fault.position.Goals as goal

pub loop-byte-preserved : goal.loop-byte-preserved
loop-byte-preserved c =
    let bytes = c.args.before.now in
    let i = c.loop-byte.byte-index in
    let b = get_or bytes i 0 in
    let more : take (i + 1) bytes ≡ take i bytes ++ b ∷ [] = take_more bytes i 0 c.loop-byte-test.true in
    let line = c.passed-place.ensures.line (take i bytes) c.loop-byte.invariant.line ∙ ap line_after (sym more) in
    let column = c.passed-place.ensures.column (take i bytes) c.loop-byte.invariant.column ∙ ap column_after (sym more) in
    let short = length-take (i + 1) bytes in
    record {
      line = line;
      column = column;
      lines = let low = line-low (take (i + 1) bytes) in omega (arith, line, low, short);
      columns = let low = column-low (take (i + 1) bytes) in omega (arith, column, low, short);
    }
