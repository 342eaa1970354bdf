-- The labels and the jumps of lines lie within the slots and the instructions of the lines.
use Rattle.std.proofs.Common.{◌≡◌, ℕ, ◌+◌, ◌<◌, ◌≤◌, List, [], ◌∷◌, ◌++◌, length, map, sym, Some, None, arith, subst, length-append}
use Rattle.std.specs.Prelude.{Option, Result, Ok, Err, pos}
use Rattle.std.specs.List.{All, AllByRecursion}
use Rattle.std.proofs.lemmas.List.Elements.{All-from_recursion}
use Rattle.bq_insn.specs.declared.Insn.{Insn}
use Rattle.bq_insn.specs.Slots.{slots_of}
use Rattle.bq_asm.specs.declared.fault.AssemblyCause.{AssemblyCause}
use Rattle.bq_asm.specs.Lines.{Line, Blank, Label, Instruction}
use Rattle.bq_asm.specs.Operands.{instruction_of}
use Rattle.bq_asm.specs.Assembly.{slots_read, slots_of_line, places_from}
use Rattle.bq_asm.specs.Faults.{slots_in}
use Rattle.bq_asm.specs.Jumps.{Awaited, target_of, awaited_at, insn_read, draft_of, drafts_of, jump_read, jumps_from}

-- what holds of each seen element holds of each
pub All-seen : {A B : Type 0} (P : B → Type 0) (f : A → B) (xs : List A) (ys : List B)
    → map f xs ≡ ys → AllByRecursion P ys → All (λ x. P (f x)) xs
All-seen {A} {B} P f xs ys same h = All-from_recursion (λ x. P (f x)) xs (each xs (subst (AllByRecursion P) (sym same) h))
  where
    each : (zs : List A) → AllByRecursion P (map f zs) → AllByRecursion (λ x. P (f x)) zs
    each [] k = tt
    each (z ∷ zs) k = (k.0, each zs k.1)

-- where lines end within a limit, each label that they set lies within it
pub places_within : (limit slot : ℕ) (lines : List Line) → slot + slots_in lines ≤ limit
    → AllByRecursion (λ p. p.1 ≤ limit) (places_from slot lines)
places_within limit slot [] h = tt
places_within limit slot (Blank ∷ lines) h = places_within limit (slot + 0) lines (omega arith)
places_within limit slot (Label name ∷ lines) h = (omega arith, places_within limit (slot + 0) lines (omega arith))
places_within limit slot (Instruction first operands ∷ lines) h =
    places_within limit (slot + slots_of_line (Instruction first operands)) lines (omega arith)

-- a jump whose next slot is within a limit, and which is one of this many instructions
abbrev pub IsNear : ℕ → ℕ → Awaited → Type 0
IsNear limit count jump = (jump.next ≤ limit) × (jump.index < count)

-- where an instruction ends within the limit and is among them, its waiting jump, if it has one, is near:
awaited_near : (limit count index next line : ℕ) (target : Option (List ℕ)) (more : List Awaited)
    → next ≤ limit → index < count → AllByRecursion (IsNear limit count) more
    → AllByRecursion (IsNear limit count) (awaited_at index next line target ++ more)
awaited_near limit count index next line None more h k rest = rest
awaited_near limit count index next line (Some label) more h k rest = ((h, k), rest)

read_near : (limit count index slot line : ℕ) (operands : List (List ℕ)) (read : Result Insn AssemblyCause) (more : List Awaited)
    → slot + slots_read read ≤ limit → index + length (insn_read read) ≤ count → AllByRecursion (IsNear limit count) more
    → AllByRecursion (IsNear limit count) (jump_read index slot line operands read ++ more)
read_near limit count index slot line operands (Err c) more h k rest = rest
read_near limit count index slot line operands (Ok i) more h k rest =
    awaited_near limit count index (slot + slots_of i) line (target_of i operands) more h (omega arith) rest

-- where lines end within a limit, each of their jumps to labels does, and is one of their instructions
pub jumps_within : (limit count index slot number : ℕ) (lines : List Line)
    → slot + slots_in lines ≤ limit → index + length (drafts_of lines) ≤ count
    → AllByRecursion (IsNear limit count) (jumps_from index slot number lines)
jumps_within limit count index slot number [] h k = tt
jumps_within limit count index slot number (Blank ∷ lines) h k =
    jumps_within limit count (index + 0) (slot + 0) (number + 1) lines (omega arith) (omega arith)
jumps_within limit count index slot number (Label name ∷ lines) h k =
    jumps_within limit count (index + 0) (slot + 0) (number + 1) lines (omega arith) (omega arith)
jumps_within limit count index slot number (Instruction first operands ∷ lines) h k =
    let line = Instruction first operands in
    let sum = length-append (draft_of line) (drafts_of lines) in
    read_near limit count index slot number operands (instruction_of first operands (Some (pos 0)))
    (jumps_from (index + length (draft_of line)) (slot + slots_of_line line) (number + 1) lines) (omega arith) (omega arith)
    (jumps_within limit count (index + length (draft_of line)) (slot + slots_of_line line) (number + 1) lines (omega arith) (omega arith))
