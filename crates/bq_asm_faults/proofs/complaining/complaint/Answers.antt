use Rattle.std.proofs.Common.{rules, ◌≡◌, ℕ, List, subst}
use Rattle.bq_asm.specs.Lines.{lines_of}
use Rattle.bq_asm.specs.Faults.{FaultyLines}
use Rattle.bq_asm_faults.proofs.ComplaintLemmas.{faulty_is_none}
use Rattle.bq_asm_faults.proofs.complaining.complaint.Goals.{in-Ok-assemble, in-Err-OutOfMemory, in-Err-At+in_ok-line_complaint-in-Err-At}
use Rattle.bq_asm_faults.proofs.complaining.complaint.Goals as goal

pub returns-clause-complains : goal.returns-clause-complains
returns-clause-complains c =
    elim c.match-assemble.branch [
      | in-Ok-assemble w ↦ search rules
      | in-Err-OutOfMemory w ↦ search rules
      | in-Err-At+in_ok-line_complaint-in-Err-At w ↦
          let same : c.in-Ok.text.now ≡ c.args.text.now = search rules in
          let faulty : FaultyLines (lines_of c.in-Ok.text.now) w.in-Err-At.line w.in-Err-At.cause = search rules in
          let none = faulty_is_none c.args.text.now c.in-Ok.text.now w.in-Err-At.line w.in-Err-At.cause same faulty in
          rw w.result-is none
    ]

pub returns-clause-line : goal.returns-clause-line
returns-clause-line c =
    elim c.match-assemble.branch [
      | in-Ok-assemble w ↦ search rules
      | in-Err-OutOfMemory w ↦ search rules
      | in-Err-At+in_ok-line_complaint-in-Err-At w ↦
          let same : c.in-Ok.text.now ≡ c.args.text.now = search rules in
          let faulty : FaultyLines (lines_of c.in-Ok.text.now) w.in-Err-At.line w.in-Err-At.cause = search rules in
          rw w.result-is (λ _. record {
            line = w.in-Err-At.line;
            cause = w.in-Err-At.cause;
            fault = subst (λ (t : List ℕ). FaultyLines (lines_of t) w.in-Err-At.line w.in-Err-At.cause) same faulty;
            begins = w.in_ok-line_complaint-in-Err-At.ensures;
          })
    ]
