-- A comment is written if it is UTF-8, and no other.
use Rattle.std.proofs.Common.{◌≡◌, refl, string_bytes, sym, subst, ap, ◌∙◌, ◌++◌, ◌∷◌, []}
use Rattle.std.specs.Prelude.{OnOk}
use Rattle.std.proofs.lemmas.Result.{on_ok_weaker}
use Rattle.bq_trace.specs.Borrowed.{event_of}
use Rattle.bq_simulate.specs.Texts.{WritesEvent, image_at}
use Rattle.bq_simulate.proofs.TextLemmas.{writes_line, writes_none}
use Rattle.bq_simulate.proofs.trace_writer.TraceWriterSink.receive.Goals as goal

pub returns-in-Ok : goal.returns-in-Ok
returns-in-Ok c =
    let images = image_at c.args.self.now.images in
    let old = string_bytes c.args.self.now.text in
    subst (λ e.
    OnOk c.write.result
    ((c.args.self.now.images ≡ c.args.self.now.images) × WritesEvent images old (event_of e) (string_bytes c.write.new.self)))
    (sym c.in-Skipped.is) (on_ok_weaker c.write.result
    (λ e. (
      refl,
      writes_line images old (string_bytes c.write.new.self) c.in-Skipped.line.now c.in-Ok.ensures.cases.1
          (e ∙ ap (λ l. old ++ (l ++ 10 ∷ [])) c.in-Ok.ensures.cases.0),
    ))
    c.write.ensures.bytes)

pub returns-in-Err : goal.returns-in-Err
returns-in-Err c =
    let images = image_at c.args.self.now.images in
    let old = string_bytes c.args.self.now.text in
    subst (λ e. (c.args.self.now.images ≡ c.args.self.now.images) × WritesEvent images old (event_of e) old) (sym c.in-Skipped.is)
    (refl, writes_none images old c.in-Skipped.line.now c.in-Err.ensures.cases.0)
