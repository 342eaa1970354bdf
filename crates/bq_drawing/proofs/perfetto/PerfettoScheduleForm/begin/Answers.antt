use Rattle.std.proofs.Common.{◌≡◌, ◌∙◌, ap}
use Rattle.std.proofs.lemmas.Result.{on_ok_weaker}
use Rattle.bq_drawing.specs.declared.perfetto.Perfetto.{Perfetto}
use Rattle.bq_drawing.specs.PastEvents.{Past, empty_past}
use Rattle.bq_drawing.proofs.perfetto.PerfettoScheduleForm.begin.Goals as goal

same_history : (p : Perfetto) (h k : Past) → h ≡ k → ◌≡◌ {A = Perfetto} (record p { history = h }) (record p { history = k })
same_history p h k is = ap (λ (x : Past). record p { history = x }) is

pub returns-clause-history : goal.returns-clause-history
returns-clause-history c =
    on_ok_weaker _
    (λ _. same_history c.args.self.now c.in_ok-self.field-0 _ (c.in_ok-self.ensures ∙ ap (λ n. empty_past n 1024) c.processors.ensures))
    c.write_head.ensures
