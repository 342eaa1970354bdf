use Rattle.std.proofs.Common.{refl, string_bytes, subst}
use Rattle.std.specs.Io.KnownBytes.{Appends}
use Rattle.bq_streams.specs.Counts.{counted_inner}
use Rattle.bq_timeline.proofs.WatchLemmas.{watches_what_it_gets}
use Rattle.bq_timeline.proofs.whole_timeline.TimelineSoFar.feed.Goals as goal

pub returns-clause-reported : goal.returns-clause-reported
returns-clause-reported g c = λ begun stands.
    record {
      text = string_bytes c.run_piece.new.sink.screen.text;
      watches = watches_what_it_gets _ _ _ _ (c.in_ok-run_piece.ensures begun stands) refl refl refl;
      wrote =
          subst (Appends (g.W.Write.contents (counted_inner c.args.output.now)) (g.W.Write.contents (counted_inner c.write_text.new.self)))
          c.as_bytes-2.ensures.value c.in_ok-write_text.ensures.whole;
    }
