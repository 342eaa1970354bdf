use Rattle.std.proofs.Common.{◌≡◌, arith, refl}
use Rattle.bq_report.proofs.ReportLemmas.{lines_none, table}
use Rattle.bq_drawing.specs.Events.{tracks_text}
use Rattle.bq_drawing.specs.Perfetto.{perfetto_head}
use Rattle.bq_drawing.proofs.PerfettoLemmas.{tracks_more}
use Rattle.bq_drawing.proofs.perfetto.write_head.Goals as goal

pub loop-processor-init : goal.loop-processor-init
loop-processor-init c = record { within = omega arith; tracks = lines_none _ _ }

pub loop-processor-preserved : goal.loop-processor-preserved
loop-processor-preserved c = record {
  within = omega arith;
  tracks =
      tracks_more c.loop-processor.processor c.loop-processor.processor _ _ _ refl c.loop-processor.invariant.tracks
      c.in_ok-write_tracks.ensures;
}

pub returns : goal.returns
returns c =
    let end : c.loop-processor.processor ≡ c.args.processors =
    omega (arith, c.loop-processor.invariant.within, c.loop-processor-test.false) in
    table perfetto_head (λ p own. own ≡ tracks_text p) c.loop-processor.processor c.args.processors _ _ _ end c.in_ok-push_str.ensures.bytes
    c.loop-processor.invariant.tracks
