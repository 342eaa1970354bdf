use Rattle.std.proofs.Common.{ℕ, List, [], subst}
use Rattle.std.specs.Prelude.{string_bytes}
use Rattle.std.specs.Str.Lines.{lines}
use Rattle.std.specs.Io.KnownBytes.{Appends}
use Rattle.bq_streams.specs.Counts.{counted_inner}
use Rattle.bq_lines.specs.Kept.{KeepsLine}
use Rattle.bq_trace.specs.Trace.{AnswersAll}
use Rattle.bq_streams.specs.Writing.{AppendsPart}
use Rattle.bq_trace.specs.Writing.{GrowsByPiece}
use Rattle.bq_trace.specs.Feeding.{BreaksOff, Finishes}
use Rattle.bq_trace.specs.Reporting.{Story}
use Rattle.bq_trace.specs.declared.trace_position.TracePosition.{TracePosition}
use Rattle.bq_trace.proofs.StoryTextLemmas.{gets_text, story_text}
use Rattle.bq_streams.proofs.ResultLemmas.{OnErr-anyhow}
use Rattle.bq_trace.proofs.SessionLemmas.{feeds_none, finishes_part, finishes_all}
use Rattle.bq_trace.proofs.session.Session.run_last_line.Goals as goal

pub returns-in_err-run_last_line-clause-part : goal.returns-in_err-run_last_line-clause-part
returns-in_err-run_last_line-clause-part g c =
    let s = c.args.self.now in
    let w = g.W.Write.contents (counted_inner c.args.out.now) in
    let part : (begun : List ℕ) → KeepsLine s.begun begun → BreaksOff s begun [] w w = λ begun h. feeds_none s begun [] w in
    OnErr-anyhow _ part

pub returns-in_err-write_text-clause-part : goal.returns-in_err-write_text-clause-part
returns-in_err-write_text-clause-part g c =
    let old = g.W.Write.contents (counted_inner c.args.out.now) in
    let new = g.W.Write.contents (counted_inner c.write_text.new.self) in
    let answers = string_bytes c.run_last_line.new.sink in
    let s = c.self.inside.position in
    let t = c.run_last_line.new.self in
    let written : AppendsPart old new answers = rw c.as_bytes.ensures.value at c.in_err-write_text.ensures.part in
    let on = c.in_ok-run_last_line.ensures in
    let all : (begun : List ℕ) → KeepsLine s.begun begun → BreaksOff s begun [] old new =
    λ begun h.
    let reported : GrowsByPiece (string_bytes c.clear.new.self) answers (λ l. AnswersAll s.progress (lines begun) l t.progress) =
    gets_text string_bytes c.clear.new.self c.run_last_line.new.sink (λ reported. Story s.progress (lines begun) reported t.progress)
    (λ l. AnswersAll s.progress (lines begun) l t.progress) (story_text s.progress t.progress (lines begun)) (on begun h) in
    let added : GrowsByPiece [] answers (λ l. AnswersAll s.progress (lines begun) l t.progress) = rw c.clear.ensures.bytes at reported in
    finishes_part s t begun answers old new added written in
    OnErr-anyhow _
    (subst (λ (s : TracePosition). (begun : List ℕ) → KeepsLine s.begun begun → BreaksOff s begun [] old new) c.self.view_is all)

pub returns-clause-ok : goal.returns-clause-ok
returns-clause-ok g c =
    let old = g.W.Write.contents (counted_inner c.args.out.now) in
    let new = g.W.Write.contents (counted_inner c.write_text.new.self) in
    let answers = string_bytes c.run_last_line.new.sink in
    let s = c.self.inside.position in
    let t = c.run_last_line.new.self in
    let written : Appends old new answers = rw c.as_bytes.ensures.value at c.in_ok-write_text.ensures.whole in
    let on = c.in_ok-run_last_line.ensures in
    let all : (begun : List ℕ) → KeepsLine s.begun begun → Finishes s begun old new t.progress.clean =
    λ begun h.
    let reported : GrowsByPiece (string_bytes c.clear.new.self) answers (λ l. AnswersAll s.progress (lines begun) l t.progress) =
    gets_text string_bytes c.clear.new.self c.run_last_line.new.sink (λ reported. Story s.progress (lines begun) reported t.progress)
    (λ l. AnswersAll s.progress (lines begun) l t.progress) (story_text s.progress t.progress (lines begun)) (on begun h) in
    let added : GrowsByPiece [] answers (λ l. AnswersAll s.progress (lines begun) l t.progress) = rw c.clear.ensures.bytes at reported in
    finishes_all s t begun answers old new added written in
    subst (λ (s : TracePosition). (begun : List ℕ) → KeepsLine s.begun begun → Finishes s begun old new t.progress.clean) c.self.view_is all
