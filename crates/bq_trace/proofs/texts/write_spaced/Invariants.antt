use Rattle.std.proofs.Common.{take, ◌≡◌, ◌++◌, string_bytes}
use Rattle.bq_trace.specs.Texts.{spaced}
use Rattle.bq_trace.proofs.texts.write_spaced.Given as goal

-- the numbers so far are written
abbrev pub invariant-loop-number : goal.invariant-loop-number
invariant-loop-number l = string_bytes l.text ≡ string_bytes l.initial.text ++ spaced (take l.number-index l.numbers)
