use Rattle.std.proofs.Common.{ℕ, List, [], subst}
use Rattle.std.specs.Prelude.{string_bytes}
use Rattle.std.specs.Io.KnownBytes.{Appends}
use Rattle.bq_streams.specs.Counts.{counted_inner}
use Rattle.bq_lines.specs.Kept.{KeepsLine}
use Rattle.bq_streams.specs.Writing.{AppendsPart}
use Rattle.bq_trace.specs.Writing.{GrowsByPiece}
use Rattle.bq_trace.specs.Feeding.{Continues, Feeds, BreaksOff}
use Rattle.bq_trace.specs.Reporting.{ReportsPiece}
use Rattle.bq_trace.specs.declared.trace_position.TracePosition.{TracePosition}
use Rattle.bq_trace.proofs.StoryTextLemmas.{gets_text, goes_on_text}
use Rattle.bq_streams.proofs.ResultLemmas.{OnErr-anyhow}
use Rattle.bq_trace.proofs.SessionLemmas.{feeds_none, feeds_part, feeds_all}
use Rattle.bq_trace.proofs.session.Session.run_piece.Goals as goal

pub returns-in_err-run_piece-clause-part : goal.returns-in_err-run_piece-clause-part
returns-in_err-run_piece-clause-part g c =
    let s = c.args.self.now in
    let w = g.W.Write.contents (counted_inner c.args.out.now) in
    let part : (begun : List ℕ) → KeepsLine s.begun begun → BreaksOff s begun c.args.piece.now w w =
    λ begun h. feeds_none s begun c.args.piece.now w in
    OnErr-anyhow _ part

pub returns-in_err-write_text-clause-part : goal.returns-in_err-write_text-clause-part
returns-in_err-write_text-clause-part g c =
    let piece = c.args.piece.now in
    let old = g.W.Write.contents (counted_inner c.args.out.now) in
    let new = g.W.Write.contents (counted_inner c.write_text.new.self) in
    let answers = string_bytes c.run_piece.new.sink in
    let s = c.self.inside.position in
    let t = c.run_piece.new.self in
    let written : AppendsPart old new answers = rw c.as_bytes.ensures.value at c.in_err-write_text.ensures.part in
    let on = c.in_ok-run_piece.ensures in
    let all : (begun : List ℕ) → KeepsLine s.begun begun → BreaksOff s begun piece old new =
    λ begun h.
    let reported : GrowsByPiece (string_bytes c.clear.new.self) answers (λ l. Continues s begun piece l t) =
    gets_text string_bytes c.clear.new.self c.run_piece.new.sink (λ reported. ReportsPiece s begun piece reported t)
    (λ l. Continues s begun piece l t) (goes_on_text s t begun piece) (on begun h) in
    let added : GrowsByPiece [] answers (λ l. Continues s begun piece l t) = rw c.clear.ensures.bytes at reported in
    feeds_part s t begun piece answers old new added written in
    OnErr-anyhow _
    (subst (λ (s : TracePosition). (begun : List ℕ) → KeepsLine s.begun begun → BreaksOff s begun piece old new) c.self.view_is all)

pub returns-clause-ok : goal.returns-clause-ok
returns-clause-ok g c =
    let piece = c.args.piece.now in
    let old = g.W.Write.contents (counted_inner c.args.out.now) in
    let new = g.W.Write.contents (counted_inner c.write_text.new.self) in
    let answers = string_bytes c.run_piece.new.sink in
    let s = c.self.inside.position in
    let t = c.run_piece.new.self in
    let written : Appends old new answers = rw c.as_bytes.ensures.value at c.in_ok-write_text.ensures.whole in
    let on = c.in_ok-run_piece.ensures in
    let all : (begun : List ℕ) → KeepsLine s.begun begun → Feeds s begun piece t old new =
    λ begun h.
    let reported : GrowsByPiece (string_bytes c.clear.new.self) answers (λ l. Continues s begun piece l t) =
    gets_text string_bytes c.clear.new.self c.run_piece.new.sink (λ reported. ReportsPiece s begun piece reported t)
    (λ l. Continues s begun piece l t) (goes_on_text s t begun piece) (on begun h) in
    let added : GrowsByPiece [] answers (λ l. Continues s begun piece l t) = rw c.clear.ensures.bytes at reported in
    feeds_all s t begun piece answers old new added written in
    subst (λ (s : TracePosition). (begun : List ℕ) → KeepsLine s.begun begun → Feeds s begun piece t old new) c.self.view_is all
