-- Both names stand in the note as they are quoted.
use Rattle.std.proofs.Common.{◌≡◌, ◌++◌, ℕ, List, OnOk, codes, string_bytes, subst}
use Rattle.bq_timeline.specs.TasksByName.{quoted_name}
use Rattle.bq_timeline.proofs.tasks_by_name.note_near.Goals as goal

pub returns : goal.returns
returns c =
    subst (λ (near : List ℕ).
    OnOk c.write.result
    (string_bytes c.write.new.self ≡ string_bytes c.args.notes.now
    ++ (codes "--tasks: no task is called " ++ (quoted_name c.args.name.now ++ (codes "; did you mean " ++ (near ++ codes "?\n"))))))
    c.in_ok-near.ensures
    (subst (λ (name : List ℕ).
    OnOk c.write.result
    (string_bytes c.write.new.self ≡ string_bytes c.args.notes.now
    ++ (codes "--tasks: no task is called " ++ (name ++ (codes "; did you mean " ++ (string_bytes c.in_ok-near.near ++ codes "?\n"))))))
    c.in_ok-name.ensures c.write.ensures.bytes)
