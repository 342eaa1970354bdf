-- The name stands in the note as it is quoted.
use Rattle.std.proofs.Common.{◌≡◌, ◌++◌, ℕ, List, OnOk, codes, string_bytes, subst}
use Rattle.bq_timeline.proofs.tasks_by_name.note_lacking.Goals as goal

pub returns : goal.returns
returns c =
    subst (λ (name : List ℕ).
    OnOk c.write.result
    (string_bytes c.write.new.self ≡ string_bytes c.args.notes.now ++ (codes "--tasks: no task is called " ++ (name ++ codes "\n"))))
    c.in_ok-name.ensures c.write.ensures.bytes
