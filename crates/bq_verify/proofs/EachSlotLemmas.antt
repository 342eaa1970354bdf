-- What is shown of a program slot by slot, and over its edges.
use Rattle.std.proofs.Common.{◌≡◌, ℕ, zero, suc, ◌+◌, ◌<◌, Bool, true, false, List, [], ◌∷◌, Option, Some, None, refl, sym, subst, ◌∙◌, inl, inr, ℤ, arith}
use Rattle.std.specs.Prelude.{◌&&◌, ◌||◌}
use Rattle.std.proofs.lemmas.Option.{same_Some, none-some}
use Rattle.std.proofs.lemmas.Bool.{or_right}
use Rattle.bq_insn.specs.declared.Insn.{Insn}
use Rattle.bq_insn.specs.declared.Insn.TheVariants.{Exit}
use Rattle.bq_insn.specs.Slots.{slots_of}
use Rattle.bq_bpf.specs.Steps.{LeadsTo, instruction_at}
use Rattle.bq_verify.specs.Edges.{IsEdge, IsStart}
use Rattle.bq_bpf.specs.Instructions.{Leaves, distance_of, goes_on}
use Rattle.bq_verify.specs.Paths.{IsPath, Path, path_end}
use Rattle.bq_verify.proofs.EdgeLemmas.{Path-push, exit_is_last}
use Rattle.bq_verify.specs.Straight.{held_along, OnEachPath, always}

-- a fact of each instruction and its slot
abbrev pub AllAt : (ℕ → Insn → Type 0) → ℕ → List (Option Insn) → Type 0
AllAt P n [] = Unit {0}
AllAt P n (None ∷ rest) = AllAt P (n + 1) rest
AllAt P n (Some insn ∷ rest) = P n insn × AllAt P (n + 1) rest

-- what is true of all instructions and their slots is true of the one at a given slot
pub at_slot : (P : ℕ → Insn → Type 0) (n : ℕ) (slots : List (Option Insn))
    → AllAt P n slots → (k : ℕ) (insn : Insn) → instruction_at slots k ≡ Some insn → P (n + k) insn
at_slot P n [] all k insn here = absurd (none-some insn here)
at_slot P n (None ∷ rest) all zero insn here = absurd (none-some insn here)
at_slot P n (None ∷ rest) all (suc k) insn here =
    let e : (n + 1) + k ≡ n + suc k = omega arith in
    subst (λ (m : ℕ). P m insn) e (at_slot P (n + 1) rest all k insn here)
at_slot P n (Some i ∷ rest) all zero insn here =
    let e : n ≡ n + zero = omega arith in
    subst (λ (m : ℕ). P m insn) e (subst (λ (j : Insn). P n j) (same_Some i insn here) all.0)
at_slot P n (Some i ∷ rest) all (suc k) insn here =
    let e : (n + 1) + k ≡ n + suc k = omega arith in
    subst (λ (m : ℕ). P m insn) e (at_slot P (n + 1) rest all.1 k insn here)

-- what is true of all instructions of a whole program and their slots is true of the one at a given slot
pub each_slot : (program : List (Option Insn)) (P : ℕ → Insn → Type 0)
    → AllAt P 0 program → (k : ℕ) (insn : Insn) → instruction_at program k ≡ Some insn → P k insn
each_slot program P all k insn here = let e : 0 + k ≡ k = omega arith in subst (λ (m : ℕ). P m insn) e (at_slot P 0 program all k insn here)

infixr 5 ◌then◌
-- what is true of one thing of a list, and of those behind it
pub ◌then◌ : {A B : Type 0} → A → B → A × B
◌then◌ a b = (a, b)

-- what holds at the start of a path, and over each edge, holds at its end
pub holds_along_path : (slots : List (Option Insn)) (makes leaves : Option Insn → Bool) (P : ℕ → Bool → Type 0)
    → ((from to : ℕ) (held : Bool) → IsEdge slots from to → P from held →
    P to (makes (instruction_at slots from) || (leaves (instruction_at slots from) && held)))
    → (rest : List ℕ) (from : ℕ) (held : Bool) → IsPath slots from rest → P from held
    → P (path_end from rest) (held_along slots makes leaves held from rest)
holds_along_path slots makes leaves P step [] from held path p = p
holds_along_path slots makes leaves P step (next ∷ rest) from held path p =
    holds_along_path slots makes leaves P step rest next _ path.1 (step from next held path.0 p)

-- what each instruction before a slot makes so is so there on each path
pub made_before : (slots : List (Option Insn)) (makes leaves : Option Insn → Bool) (first : Bool) (slot : ℕ)
    → 0 < slot → ((from : ℕ) → IsEdge slots from slot → makes (instruction_at slots from) ≡ true)
    → OnEachPath slots makes leaves first slot
made_before slots makes leaves first slot later made rest path ends =
    holds_along_path slots makes leaves (λ n held. n ≡ slot → held ≡ true)
    (λ from to held edge p same.
    let m : makes (instruction_at slots from) ≡ true = made from (subst (λ (n : ℕ). IsEdge slots from n) same edge) in
    rw m refl) rest 0 first path (λ same. absurd (omega arith)) ends

-- what the first instruction makes so, and what holds at each later slot, is so after each slot
from_first : (slots : List (Option Insn)) (makes : Option Insn → Bool)
    → makes (instruction_at slots 0) ≡ true → (from : ℕ) (held : Bool) → (0 < from → held ≡ true)
    → (makes (instruction_at slots from) || held) ≡ true
from_first slots makes made zero held p = rw made refl
from_first slots makes made (suc n) held p = let h : held ≡ true = p (omega arith) in rw h (or_right _ true refl)

-- what the first instruction makes so, and each leaves so, is so at each later slot
pub made_first : (slots : List (Option Insn)) (makes : Option Insn → Bool)
    → makes (instruction_at slots 0) ≡ true → (slot : ℕ) → 0 < slot
    → OnEachPath slots makes always false slot
made_first slots makes made slot later rest path ends =
    holds_along_path slots makes always (λ n held. 0 < n → held ≡ true)
    (λ from to held edge p le. from_first slots makes made from held p)
    rest 0 false path (λ le. absurd (omega arith)) (rw ends later)

-- where an instruction that does not jump leads to, it leads from the slot that is before it
pub goes_next : (program : List (Option Insn)) (before : ℕ → ℕ) (n : ℕ) (insn : Insn)
    → instruction_at program n ≡ Some insn → distance_of insn ≡ None → n ≡ before (n + slots_of insn)
    → (to : ℕ) → Leaves insn n to
    → n ≡ before to
goes_next program before n insn here none is to (inl on) = subst (λ (k : ℕ). n ≡ before k) (sym on.1) is
goes_next program before n insn here none is to (inr jump) = absurd (none-some jump.0 (sym none ∙ jump.1))

-- an EXIT leads nowhere
pub goes_nowhere : (program : List (Option Insn)) (before : ℕ → ℕ) (n : ℕ)
    → instruction_at program n ≡ Some Exit → (to : ℕ) → Leaves Exit n to → n ≡ before to
goes_nowhere program before n here to leaves =
    absurd (exit_is_last program n to here (record { insn = Exit; here = here; leaves = leaves }))

-- an edge goes on from an instruction to the next
pub edge_on : (program : List (Option Insn)) (n : ℕ) (insn : Insn)
    → instruction_at program n ≡ Some insn → goes_on insn ≡ true → IsEdge program n (n + slots_of insn)
edge_on program n insn here goes = record { insn = insn; here = here; leaves = inl (goes, refl) }

-- a path goes on from an instruction to the next
pub path_on : (program : List (Option Insn)) (n : ℕ) (insn : Insn)
    → instruction_at program n ≡ Some insn → goes_on insn ≡ true → Path program 0 n
    → Path program 0 (n + slots_of insn)
path_on program n insn here goes p = Path-push program 0 n (n + slots_of insn) p (edge_on program n insn here goes)

-- where no instruction jumps, no jump is bad
pub no_jump : (program : List (Option Insn)) (slot : ℕ) (d : ℤ)
    → None ≡ Some d → ((to : ℕ) → LeadsTo slot d to → slot < to → IsStart program to → ⊥) → ⊥
no_jump program slot d jumps nowhere = none-some d jumps

-- a register below 10 is not register 10
pub not_frame : (r : ℕ) → r < 10 → Some r ≡ Some 10 → ⊥
not_frame r lt e = let ten : ℕ = 10 in let same : r ≡ 10 = cc in omega arith
