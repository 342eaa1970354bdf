-- Laws of copies: a copy has the same runs, is safe within the same budgets, and has the same longest path.
use Rattle.std.specs.Prelude.{◌≡◌, ℕ, ◌↔◌, List, Option, length}
use Rattle.bq_insn.specs.declared.Insn.{Insn}
use Rattle.bq_bpf.specs.declared.shape.MapShape.{MapShape}
use Rattle.bq_bpf.specs.declared.board.CounterCall.{CounterCall}
use Rattle.bq_bpf.specs.Memory.{Setting}
use Rattle.bq_bpf.specs.Runs.{RunFrom, start}
use Rattle.bq_bpf.specs.Safe.{Safe}
use Rattle.bq_verify.specs.Edges.{IsForward}
use Rattle.bq_verify.specs.Paths.{IsGreatest, PathOut}
use Rattle.bq_verify.specs.Faults.{IsBadJump, RunsOut}
use Rattle.bq_import.specs.Copies.{IsCopy}

-- the setting with another program
abbrev pub with_program : Setting → List (Option Insn) → Setting
with_program f slots = record f { slots = slots }

-- whatever a run of one program gives, a run of the copy gives, in as many steps, with the same calls of counters
abbrev pub SameRuns : Type 0
SameRuns =
    (maps : ℕ) (old new : List (Option Insn)) (origin : List ℕ) → IsCopy maps old new origin →
    (f : Setting) (contents : List (List ℕ)) (n : ℕ) (calls : List CounterCall) (answer : ℕ) (after : List (List ℕ)) → length f.shapes ≡ maps →
    RunFrom (with_program f old) (start contents) n calls answer after ↔ RunFrom (with_program f new) (start contents) n calls answer after

-- a copy is safe within a budget exactly if the original is
abbrev pub SameSafety : Type 0
SameSafety =
    (maps : ℕ) (old new : List (Option Insn)) (origin : List ℕ) → IsCopy maps old new origin →
    (shapes : List MapShape) (context budget : ℕ) → length shapes ≡ maps → Safe old shapes context budget ↔ Safe new shapes context budget

-- the longest path of a copy has as many instructions as that of the original
abbrev pub SameBudget : Type 0
SameBudget =
    (maps : ℕ) (old new : List (Option Insn)) (origin : List ℕ) → IsCopy maps old new origin →
    (budget : ℕ) → IsGreatest (PathOut old 0) budget ↔ IsGreatest (PathOut new 0) budget

-- each jump of a copy goes to a later instruction, and none of its instructions goes on past the end
abbrev pub GoesForward : Type 0
GoesForward =
    (maps : ℕ) (old new : List (Option Insn)) (origin : List ℕ) → IsCopy maps old new origin →
    IsForward new × ((slot : ℕ) → IsBadJump new slot → ⊥) × ((slot : ℕ) → RunsOut new slot → ⊥)
