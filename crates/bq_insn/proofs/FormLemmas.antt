-- The table of opcodes, read both ways.
use Rattle.std.proofs.Common.{◌≡◌, ℕ, zero, suc, ◌^◌, ◌<◌, Bool, true, false, refl, sym, ap, ◌∙◌, inl, inr, ◌⊎◌, arith}
use Rattle.std.specs.Prelude.{◌&&◌, ◌==◌, Option, Some, None}
use Rattle.std.proofs.lemmas.Bool.Decides.{nat_tests}
use Rattle.std.proofs.lemmas.Bool.{and_parts, false≢true}
use Rattle.bq_insn.specs.declared.Width.{Width}
use Rattle.bq_insn.specs.declared.Width.TheVariants.{W32, W64}
use Rattle.bq_insn.specs.declared.Operation.{Operation}
use Rattle.bq_insn.specs.declared.Operation.TheVariants as op
use Rattle.bq_insn.specs.declared.Condition.{Condition}
use Rattle.bq_insn.specs.declared.Condition.TheVariants as cond
use Rattle.bq_insn.specs.declared.Order.TheVariants.{Little, Big, Swapped}
use Rattle.bq_insn.specs.declared.Size.TheVariants.{Byte, Half, Word, Double}
use Rattle.bq_insn.specs.declared.form.Form.{Form}
use Rattle.bq_insn.specs.declared.form.Form.TheVariants as form
use Rattle.bq_insn.specs.Table.{opcode_of, form_of, is_form}
use Rattle.bq_insn.specs.Laws.{OneTable}

-- a test that holds of each number below n
below : ℕ → (ℕ → Bool) → Bool
below zero p = true
below (suc n) p = p n && below n p

-- a number below the next is that one, or below it
place : (k n : ℕ) → k < suc n → (k ≡ n) ⊎ (k < n)
place k n lt = grind arith

-- a test at each of them
by_place : (p : ℕ → Bool) (k n : ℕ) → (k ≡ n) ⊎ (k < n) → p n ≡ true → (k < n → p k ≡ true) → p k ≡ true
by_place p k n (inl same) here less = ap p same ∙ here
by_place p k n (inr lt) here less = less lt

-- what holds of each number below n holds of this one
below-at : (n : ℕ) (p : ℕ → Bool) → below n p ≡ true → (k : ℕ) → k < n → p k ≡ true
unfolding below
below-at zero p h k lt = absurd (omega arith)
below-at (suc n) p h k lt =
    let parts = and_parts (p n) (below n p) h in
    by_place p k n (place k n lt) parts.0 (below-at n p parts.1 k)

-- a form that stands under an opcode is one of the table, and has that opcode
agrees_with : ℕ → Option Form → Bool
agrees_with n None = true
agrees_with n (Some f) = (opcode_of f == n) && is_form f

-- forms agree with their opcodes at each of the 256 opcodes, which is computed
all_agree : below 256 (λ n. agrees_with n (form_of n)) ≡ true
unfolding below agrees_with
all_agree = refl

-- the form of an opcode has that opcode, and is one of the table
pub in_table : (n : ℕ) (f : Form) → n < 2 ^ 8 → form_of n ≡ Some f → (n ≡ opcode_of f) × (is_form f ≡ true)
unfolding agrees_with
in_table n f lt h =
    let parts =
    and_parts (opcode_of f == n) (is_form f)
    (sym (ap (agrees_with n) h) ∙ below-at 256 (λ k. agrees_with k (form_of k)) all_agree n lt) in
    let test : (opcode_of f == n) ≡ true = parts.0 in
    (grind (arith, nat_tests), parts.1)

-- the operation that stands in the table
abbrev pub plain : Operation → Operation
plain op.Sdiv = op.Div
plain op.Srem = op.Rem
plain o = o

-- under the opcode of an operation stands the plain one
pub known_alu : (w : Width) (o : Operation) (r : Bool) → form_of (opcode_of (form.Alu w o r)) ≡ Some (form.Alu w (plain o) r)
known_alu W32 o true =
    elim o as (λ x. form_of (opcode_of (form.Alu W32 x true)) ≡ Some (form.Alu W32 (plain x) true)) [ op.Add ↦ refl | _ ↦ refl ]
known_alu W32 o false =
    elim o as (λ x. form_of (opcode_of (form.Alu W32 x false)) ≡ Some (form.Alu W32 (plain x) false)) [ op.Add ↦ refl | _ ↦ refl ]
known_alu W64 o true =
    elim o as (λ x. form_of (opcode_of (form.Alu W64 x true)) ≡ Some (form.Alu W64 (plain x) true)) [ op.Add ↦ refl | _ ↦ refl ]
known_alu W64 o false =
    elim o as (λ x. form_of (opcode_of (form.Alu W64 x false)) ≡ Some (form.Alu W64 (plain x) false)) [ op.Add ↦ refl | _ ↦ refl ]

-- under the opcode of a branch stands that branch
pub known_branch : (w : Width) (c : Condition) (r : Bool) → form_of (opcode_of (form.Branch w c r)) ≡ Some (form.Branch w c r)
known_branch W32 c true =
    elim c as (λ x. form_of (opcode_of (form.Branch W32 x true)) ≡ Some (form.Branch W32 x true)) [ cond.Equal ↦ refl | _ ↦ refl ]
known_branch W32 c false =
    elim c as (λ x. form_of (opcode_of (form.Branch W32 x false)) ≡ Some (form.Branch W32 x false)) [ cond.Equal ↦ refl | _ ↦ refl ]
known_branch W64 c true =
    elim c as (λ x. form_of (opcode_of (form.Branch W64 x true)) ≡ Some (form.Branch W64 x true)) [ cond.Equal ↦ refl | _ ↦ refl ]
known_branch W64 c false =
    elim c as (λ x. form_of (opcode_of (form.Branch W64 x false)) ≡ Some (form.Branch W64 x false)) [ cond.Equal ↦ refl | _ ↦ refl ]

-- a form of the table is plain
pub is_plain : (w : Width) (o : Operation) (r : Bool) → is_form (form.Alu w o r) ≡ true → plain o ≡ o
is_plain w op.Sdiv r h = absurd (false≢true h)
is_plain w op.Srem r h = absurd (false≢true h)
is_plain w o r h = refl

-- a form of the table stands under its opcode
pub form_is_known : (f : Form) → is_form f ≡ true → form_of (opcode_of f) ≡ Some f
form_is_known (form.Alu w o r) h = known_alu w o r ∙ ap (λ (x : Operation). Some (form.Alu w x r)) (is_plain w o r h)
form_is_known (form.Neg W32) h = refl
form_is_known (form.Neg W64) h = refl
form_is_known (form.End Little) h = refl
form_is_known (form.End Big) h = refl
form_is_known (form.End Swapped) h = refl
form_is_known (form.Load Double true) h = absurd (false≢true h)
form_is_known (form.Load Byte true) h = refl
form_is_known (form.Load Half true) h = refl
form_is_known (form.Load Word true) h = refl
form_is_known (form.Load Byte false) h = refl
form_is_known (form.Load Half false) h = refl
form_is_known (form.Load Word false) h = refl
form_is_known (form.Load Double false) h = refl
form_is_known (form.StoreImm Byte) h = refl
form_is_known (form.StoreImm Half) h = refl
form_is_known (form.StoreImm Word) h = refl
form_is_known (form.StoreImm Double) h = refl
form_is_known (form.StoreReg Byte) h = refl
form_is_known (form.StoreReg Half) h = refl
form_is_known (form.StoreReg Word) h = refl
form_is_known (form.StoreReg Double) h = refl
form_is_known form.Wide h = refl
form_is_known form.Goto h = refl
form_is_known form.Goto32 h = refl
form_is_known (form.Branch w c r) h = known_branch w c r
form_is_known form.Call h = refl
form_is_known form.Exit h = refl

-- the two readings are one table
pub one_table : OneTable
one_table n f lt = (in_table n f lt, λ h. ap form_of h.0 ∙ form_is_known f h.1)
