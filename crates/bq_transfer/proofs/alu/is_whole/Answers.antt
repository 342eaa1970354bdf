use Rattle.std.proofs.Common.{arith}
use Rattle.bq_states.proofs.WordLemmas.{number_within, word_fits}
use Rattle.bq_transfer.proofs.ResultLemmas.{same_half, move_is_right}
use Rattle.bq_transfer.proofs.alu.is_whole.Goals as goal

pub returns-in-W64-default : goal.returns-in-W64-default
returns-in-W64-default c = λ yes shapes n d. rw c.in-W64-default.is-0 (move_is_right 0 n (word_fits shapes c.args.word n d))

pub returns-else-word-gt4294967295 : goal.returns-else-word-gt4294967295
returns-else-word-gt4294967295 c = λ yes shapes n d.
    let within = number_within shapes c.args.word n c.in-W32-Number.is-1 d in
    rw c.in-W32-Number.is-0 (same_half n (omega (arith, within)))
