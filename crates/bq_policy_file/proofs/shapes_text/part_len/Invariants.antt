use Rattle.std.proofs.Common.{◌≡◌, ◌==◌, take, false}
use Rattle.std.specs.List.{All}
use Rattle.bq_policy_file.proofs.shapes_text.part_len.Given as goal

-- none of the bytes so far is the mark
abbrev pub invariant-loop-at : goal.invariant-loop-at
invariant-loop-at l = All (λ b. (b == l.mark) ≡ false) (take l.at l.text)
