-- Paths of the control graph, and the greatest numbers over them.
use Rattle.std.specs.Prelude.{◌≡◌, ℕ, suc, ◌+◌, ◌≤◌, List, [], ◌∷◌, Option, Some, None, length, if◌then◌else◌}
use Rattle.bq_insn.specs.declared.Insn.{Insn}
use Rattle.bq_insn.specs.declared.Insn.TheVariants.{Exit}
use Rattle.bq_bpf.specs.Instructions.{asks_counter}
use Rattle.bq_bpf.specs.Steps.{instruction_at}
use Rattle.bq_verify.specs.Edges.{IsEdge}

-- the slots of the list are a path from `from`: an edge leads to each slot from the one before it
abbrev pub IsPath : List (Option Insn) → ℕ → List ℕ → Type 0
IsPath slots from [] = Unit {0}
IsPath slots from (next ∷ rest) = IsEdge slots from next × IsPath slots next rest

-- the last slot of the path
abbrev pub path_end : ℕ → List ℕ → ℕ
path_end from [] = from
path_end from (next ∷ rest) = path_end next rest

-- there is a path from the one slot to the other
pub record Path (slots : List (Option Insn)) (from to : ℕ) : Type 0 where
  pub rest : List ℕ
  pub is_path : IsPath slots from rest
  pub ends : path_end from rest ≡ to

-- there is a path of this many instructions from the slot to an EXIT
pub record PathOut (slots : List (Option Insn)) (from count : ℕ) : Type 0 where
  pub rest : List ℕ
  pub is_path : IsPath slots from rest
  pub exits : instruction_at slots (path_end from rest) ≡ Some Exit
  pub count_is : count ≡ suc (length rest)

-- the property holds for this number and for no greater one
pub record IsGreatest (P : ℕ → Type 0) (n : ℕ) : Type 0 where
  pub holds : P n
  pub bounds : (m : ℕ) → P m → m ≤ n

-- the number of counter calls that an instruction is: 1 or 0
abbrev pub counter_calls_of : Option Insn → ℕ
counter_calls_of None = 0
counter_calls_of (Some insn) = if asks_counter insn then 1 else 0

-- how many counter calls the path has before its last slot
abbrev pub calls_before_end : List (Option Insn) → ℕ → List ℕ → ℕ
calls_before_end slots from [] = 0
calls_before_end slots from (next ∷ rest) = counter_calls_of (instruction_at slots from) + calls_before_end slots next rest

-- there is a path from slot 0 to the slot with this many counter calls before the slot
pub record CallsOnWay (slots : List (Option Insn)) (slot count : ℕ) : Type 0 where
  pub rest : List ℕ
  pub is_path : IsPath slots 0 rest
  pub ends : path_end 0 rest ≡ slot
  pub count_is : calls_before_end slots 0 rest ≡ count

-- the greatest number of counter calls before the slot on any path from slot 0; None if no path leads there
abbrev pub IsMostCalls : List (Option Insn) → ℕ → Option ℕ → Type 0
IsMostCalls slots slot None = Path slots 0 slot → ⊥
IsMostCalls slots slot (Some count) = IsGreatest (CallsOnWay slots slot) count
