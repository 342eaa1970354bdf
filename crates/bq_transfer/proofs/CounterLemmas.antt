-- Calls of counters.
use Rattle.std.proofs.Common.{ℕ, ◌^◌, ◌<◌, refl, pos}
use Rattle.bq_insn.specs.declared.Insn.TheVariants.{Call}
use Rattle.bq_bpf.specs.declared.board.CounterCall.TheVariants.{Add, Read}
use Rattle.bq_bpf.specs.Memory.{Setting, State}
use Rattle.bq_bpf.specs.Steps.{called}
use Rattle.bq_states.specs.declared.abstract_state.AbstractState.{AbstractState}
use Rattle.bq_transfer.specs.Transfers.{AsksFrom, IsBelow}
use Rattle.bq_states.specs.AbstractStates.{Contains}

-- helper 100 adds to a counter, where register 1 is below 64 and register 2 is set
pub asks_add : (state after : AbstractState) → IsBelow state 1 64 → IsBelow state 2 (2 ^ 64)
    → ((f : Setting) (s : State) (x : ℕ) → Contains f state s → x < 2 ^ 64 → Contains f after (called s x))
    → AsksFrom (Call (pos 100)) state after
asks_add state after counter amount answered f s x contains small =
    let i = counter f s contains in
    let d = amount f s contains in
    (Add i.0 d.0 x, refl, (refl, i.1, i.2, d.1), answered f s x contains small)

-- helper 101 reads a counter, where register 1 is below 64
pub asks_read : (state after : AbstractState) → IsBelow state 1 64
    → ((f : Setting) (s : State) (x : ℕ) → Contains f state s → x < 2 ^ 64 → Contains f after (called s x))
    → AsksFrom (Call (pos 101)) state after
asks_read state after counter answered f s x contains small =
    let i = counter f s contains in
    (Read i.0 x, refl, (refl, i.1, i.2), answered f s x contains small)
