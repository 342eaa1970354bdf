-- What words say is an instruction in range, with numbers of its fields' types.
use Rattle.std.proofs.Common.{◌≡◌, ℕ, ◌^◌, ◌<◌, ◌≤◌, List, [], ◌∷◌, take, drop, length, refl, Bool, true, false, Some, None, arith, subst}
use Rattle.std.specs.Prelude.{Option, Result, Ok, Err, ℤ, pos, FitsSigned, if◌then◌else◌, option_map, position, ◌&&◌, ◌==◌, IfSome, IfOk}
use Rattle.std.specs.Int.{w16, w32}
use Rattle.std.specs.List.{list_all, AllByRecursion}
use Rattle.std.specs.Str.{bytes_eq}
use Rattle.std.proofs.lemmas.Bool.Decides.{nat_tests}
use Rattle.std.proofs.lemmas.Int.{ints}
use Rattle.std.proofs.lemmas.Bool.{and_from, false≢true}
use Rattle.bq_insn.specs.declared.Width.TheVariants.{W32, W64}
use Rattle.bq_insn.specs.declared.Bits.TheVariants.{B8, B16, B32, B64}
use Rattle.bq_insn.specs.declared.Size.TheVariants.{Byte, Half, Word, Double}
use Rattle.bq_insn.specs.declared.Insn.{Insn}
use Rattle.bq_insn.specs.Spelling.{is_insn, is_register}
use Rattle.bq_insn.specs.Laws.{Fits}
use Rattle.bq_asm.specs.declared.fault.AssemblyCause.{AssemblyCause}
use Rattle.bq_asm.specs.declared.fault.AssemblyCause.TheVariants as cause
use Rattle.bq_asm.specs.declared.mnemonic.Mnemonic.{Mnemonic}
use Rattle.bq_asm.specs.declared.mnemonic.Mnemonic.TheVariants as name
use Rattle.bq_asm.specs.declared.operand.Operand.{Operand}
use Rattle.bq_asm.specs.declared.operand.Operand.TheVariants as operand
use Rattle.bq_asm.specs.declared.operand_kind.OperandKind.{OperandKind}
use Rattle.bq_asm.specs.declared.operand_kind.OperandKind.TheVariants as kind
use Rattle.bq_asm.specs.Named.{named, entry_with, table}
use Rattle.bq_asm.specs.Numbers.{imm_of, offset_of, distance_in_word, wide_of, register_named, begins_number}
use Rattle.bq_asm.specs.Operands.{number_place, register_place, source_place, is_sign, inside, based, cut_at, memory_place, is_label, label_place, operand_of, each_operand, with_next, kind_list, kinds_of, insn_from, made, instruction_of, instruction_from}
use Rattle.bq_asm.proofs.RangeLemmas.{imm_fits, offset_fits, distance_fits, wide_fits, register_fits}
use Rattle.bq_asm.proofs.ReadingLemmas.{made_from}

-- a distance fits a near target
abbrev pub DistanceFits : Option ℤ → Type 0
DistanceFits d = IfSome d (FitsSigned w16)

-- the numbers of an operand are in the ranges of its kind
abbrev pub IsInRange : Operand → Type 0
IsInRange (operand.Register r) = r ≤ 10
IsInRange (operand.Number z) = FitsSigned w32 z
IsInRange (operand.Wide n) = n < 2 ^ 64
IsInRange (operand.Memory r z) = (r ≤ 10) × FitsSigned w16 z
IsInRange (operand.Near z) = FitsSigned w16 z
IsInRange (operand.Far z) = FitsSigned w32 z

-- the cause why a word is no number: Number if it begins as one, else Word
abbrev refused : Bool → Result Operand AssemblyCause
refused b = if b then Err cause.Number else Err cause.Word

-- what is read in a number's place is in range where the number is:
refused_good : (b : Bool) → IfOk (refused b) IsInRange
refused_good true = tt
refused_good false = tt

number_good : (o : Option Operand) (w : List ℕ) → IfSome o IsInRange → IfOk (number_place o w) IsInRange
number_good (Some o) w h = h
number_good None w h = refused_good (begins_number w)

-- what a function makes of each value with some property is in range, and so is what it makes of an optional one
module _ {A : Type 0} (P : A → Type 0) (f : A → Operand) (h : (x : A) → P x → IsInRange (f x)) where
  mapped : (o : Option A) → IfSome o P → IfSome (option_map f o) IsInRange
  mapped None k = tt
  mapped (Some x) k = h x k

-- what is read in a place for a register, an immediate or either of them is in range, by cases:
register_good : (o : Option ℕ) → IfSome o (λ r. r ≤ 10) → IfOk (register_place o) IsInRange
register_good None h = tt
register_good (Some r) h = h

imm_good : (w : List ℕ) → IfSome (option_map (λ z. operand.Number z) (imm_of w)) IsInRange
imm_good w = mapped (FitsSigned w32) (λ z. operand.Number z) (λ z h. h) (imm_of w) (imm_fits w)

source_good : (o : Option ℕ) (w : List ℕ) → IfSome o (λ r. r ≤ 10) → IfOk (source_place o w) IsInRange
source_good (Some r) w h = h
source_good None w h = number_good (option_map (λ z. operand.Number z) (imm_of w)) w (imm_good w)

-- the offset 0 fits 16 bits with a sign
zero_fits : FitsSigned w16 (pos 0)
zero_fits = omega (arith, ints)

-- what is read as a place in memory is in range, by cases:
based_good : (o : Option ℕ) (rest : List ℕ) → IfSome o (λ r. r ≤ 10) → IfOk (based o rest) IsInRange
based_good None rest h = tt
based_good (Some r) rest h = by (length rest == 0)
  where
    by : (b : Bool)
        → IfOk (if b then Ok (operand.Memory r (pos 0)) else number_place (option_map (λ z. operand.Memory r z) (offset_of rest)) rest)
        IsInRange
    by true = (h, zero_fits)
    by false =
        number_good (option_map (λ z. operand.Memory r z) (offset_of rest)) rest
        (mapped (FitsSigned w16) (λ z. operand.Memory r z) (λ z k. (h, k)) (offset_of rest) (offset_fits rest))

cut_good : (at : Option ℕ) (inner : List ℕ) → IfOk (cut_at at inner) IsInRange
cut_good None inner = based_good (register_named inner) [] (register_fits inner)
cut_good (Some i) inner = based_good (register_named (take i inner)) (drop i inner) (register_fits (take i inner))

memory_good : (o : Option (List ℕ)) → IfOk (memory_place o) IsInRange
memory_good None = tt
memory_good (Some inner) = cut_good (position is_sign inner) inner

-- a label's distance that is in range is an operand in range
label_good : (o : Option Operand) → IfSome o IsInRange → IfOk (label_place o) IsInRange
label_good None h = tt
label_good (Some o) h = h

-- what fits 16 bits with a sign fits 32
wider : (z : ℤ) → FitsSigned w16 z → FitsSigned w32 z
wider z h = omega (arith, ints, h)

-- what is read in a near or far target's place is in range, if the distance to its label is near:
near_good : (w : List ℕ) (d : Option ℤ) → DistanceFits d → IfOk (operand_of kind.Near w d) IsInRange
near_good w d h = by (is_label w)
  where
    by : (b : Bool)
        → IfOk
        (if b then label_place (option_map (λ z. operand.Near z) d) else number_place (option_map (λ z. operand.Near z) (offset_of w)) w)
        IsInRange
    by true = label_good (option_map (λ z. operand.Near z) d) (mapped (FitsSigned w16) (λ z. operand.Near z) (λ z k. k) d h)
    by false =
        number_good (option_map (λ z. operand.Near z) (offset_of w)) w
        (mapped (FitsSigned w16) (λ z. operand.Near z) (λ z k. k) (offset_of w) (offset_fits w))

far_good : (w : List ℕ) (d : Option ℤ) → DistanceFits d → IfOk (operand_of kind.Far w d) IsInRange
far_good w d h = by (is_label w)
  where
    by : (b : Bool)
        → IfOk
        (if b then label_place (option_map (λ z. operand.Far z) d) else number_place (option_map (λ z. operand.Far z) (distance_in_word w)) w)
        IsInRange
    by true = label_good (option_map (λ z. operand.Far z) d) (mapped (FitsSigned w16) (λ z. operand.Far z) (λ z k. wider z k) d h)
    by false =
        number_good (option_map (λ z. operand.Far z) (distance_in_word w)) w
        (mapped (FitsSigned w32) (λ z. operand.Far z) (λ z k. k) (distance_in_word w) (distance_fits w))

-- what is read in any operand's place is in range
operand_good : (k : OperandKind) (w : List ℕ) (d : Option ℤ) → DistanceFits d → IfOk (operand_of k w d) IsInRange
operand_good kind.Register w d h = register_good (register_named w) (register_fits w)
operand_good kind.Source w d h = source_good (register_named w) w (register_fits w)
operand_good kind.Number w d h = number_good (option_map (λ z. operand.Number z) (imm_of w)) w (imm_good w)
operand_good kind.Wide w d h =
    number_good (option_map (λ n. operand.Wide n) (wide_of w)) w
    (mapped (λ n. n < 2 ^ 64) (λ n. operand.Wide n) (λ n k. k) (wide_of w) (wide_fits w))
operand_good kind.Memory w d h = memory_good (inside w)
operand_good kind.Near w d h = near_good w d h
operand_good kind.Far w d h = far_good w d h

-- an operand in range before others in range makes a list in range
next_good : (a : Result Operand AssemblyCause) (b : Result (List Operand) AssemblyCause)
    → IfOk a IsInRange → IfOk b (AllByRecursion IsInRange) → IfOk (with_next a b) (AllByRecursion IsInRange)
next_good (Ok o) (Ok os) h k = (h, k)
next_good (Ok o) (Err c) h k = tt
next_good (Err c) (Ok os) h k = tt
next_good (Err c) (Err d) h k = tt

-- all operands that are read are in range, where the distance to a label fits
operands_good : (ks : List OperandKind) (ws : List (List ℕ)) (d : Option ℤ)
    → DistanceFits d → IfOk (each_operand ks ws d) (AllByRecursion IsInRange)
operands_good [] [] d h = tt
operands_good [] (w ∷ ws) d h = tt
operands_good (k ∷ ks) [] d h = tt
operands_good (k ∷ ks) (w ∷ ws) d h = next_good (operand_of k w d) (each_operand ks ws d) (operand_good k w d h) (operands_good ks ws d h)

-- in range, with numbers of its fields' types
pub record IsFine (i : Insn) : Type 0 where
  pub in_range : is_insn i ≡ true
  pub fits : Fits i

-- a first word that the table has: widths are in range
is_name : Mnemonic → Bool
is_name (name.MovSx w B64) = false
is_name (name.MovSx W32 B32) = false
is_name (name.End order B8) = false
is_name (name.LoadSigned Double) = false
is_name m = true

-- if operands make an instruction, it is in range and its numbers fit:
IfFine : Option Insn → Type 0
IfFine None = Unit {0}
IfFine (Some i) = IsFine i

-- numbers up to 10 are registers, by cases:
register_is : (r : ℕ) → r ≤ 10 → is_register r ≡ true
register_is r h = grind (arith, nat_tests)

two_registers : (r s : ℕ) → r ≤ 10 → s ≤ 10 → (is_register r && is_register s) ≡ true
two_registers r s h k = and_from (is_register r) (is_register s) (register_is r h) (register_is s k)

one_register : (r : ℕ) → r ≤ 10 → (is_register r && true) ≡ true
one_register r h = and_from (is_register r) true (register_is r h) refl

-- a first word of the table and operands in range make an instruction in range
insn_fine : (m : Mnemonic) (os : List Operand) → is_name m ≡ true → AllByRecursion IsInRange os → IfFine (insn_from m os)
unfolding is_name IfFine
insn_fine (name.Alu w o) (operand.Register d ∷ operand.Number n ∷ []) h g = record { in_range = one_register d g.0; fits = g.1.0 }
insn_fine (name.Alu w o) (operand.Register d ∷ operand.Register s ∷ []) h g = record { in_range = two_registers d s g.0 g.1.0; fits = tt }
insn_fine (name.MovSx w B8) (operand.Register d ∷ operand.Register s ∷ []) h g =
    record { in_range = two_registers d s g.0 g.1.0; fits = tt }
insn_fine (name.MovSx w B16) (operand.Register d ∷ operand.Register s ∷ []) h g =
    record { in_range = two_registers d s g.0 g.1.0; fits = tt }
insn_fine (name.MovSx W64 B32) (operand.Register d ∷ operand.Register s ∷ []) h g =
    record { in_range = two_registers d s g.0 g.1.0; fits = tt }
insn_fine (name.MovSx W32 B32) (operand.Register d ∷ operand.Register s ∷ []) h g = absurd (false≢true h)
insn_fine (name.MovSx w B64) (operand.Register d ∷ operand.Register s ∷ []) h g = absurd (false≢true h)
insn_fine (name.Neg w) (operand.Register d ∷ []) h g = record { in_range = register_is d g.0; fits = tt }
insn_fine (name.End order B8) (operand.Register d ∷ []) h g = absurd (false≢true h)
insn_fine (name.End order B16) (operand.Register d ∷ []) h g = record { in_range = register_is d g.0; fits = tt }
insn_fine (name.End order B32) (operand.Register d ∷ []) h g = record { in_range = register_is d g.0; fits = tt }
insn_fine (name.End order B64) (operand.Register d ∷ []) h g = record { in_range = register_is d g.0; fits = tt }
insn_fine (name.Load Byte) (operand.Register d ∷ operand.Memory s off ∷ []) h g =
    record { in_range = two_registers d s g.0 g.1.0.0; fits = g.1.0.1 }
insn_fine (name.Load Half) (operand.Register d ∷ operand.Memory s off ∷ []) h g =
    record { in_range = two_registers d s g.0 g.1.0.0; fits = g.1.0.1 }
insn_fine (name.Load Word) (operand.Register d ∷ operand.Memory s off ∷ []) h g =
    record { in_range = two_registers d s g.0 g.1.0.0; fits = g.1.0.1 }
insn_fine (name.Load Double) (operand.Register d ∷ operand.Memory s off ∷ []) h g =
    record { in_range = two_registers d s g.0 g.1.0.0; fits = g.1.0.1 }
insn_fine (name.LoadSigned Double) (operand.Register d ∷ operand.Memory s off ∷ []) h g = absurd (false≢true h)
insn_fine (name.LoadSigned Byte) (operand.Register d ∷ operand.Memory s off ∷ []) h g =
    record { in_range = two_registers d s g.0 g.1.0.0; fits = g.1.0.1 }
insn_fine (name.LoadSigned Half) (operand.Register d ∷ operand.Memory s off ∷ []) h g =
    record { in_range = two_registers d s g.0 g.1.0.0; fits = g.1.0.1 }
insn_fine (name.LoadSigned Word) (operand.Register d ∷ operand.Memory s off ∷ []) h g =
    record { in_range = two_registers d s g.0 g.1.0.0; fits = g.1.0.1 }
insn_fine (name.StoreImm size) (operand.Memory d off ∷ operand.Number n ∷ []) h g =
    record { in_range = register_is d g.0.0; fits = (g.0.1, g.1.0) }
insn_fine (name.StoreReg size) (operand.Memory d off ∷ operand.Register s ∷ []) h g =
    record { in_range = two_registers d s g.0.0 g.1.0; fits = g.0.1 }
insn_fine name.Imm64 (operand.Register d ∷ operand.Wide v ∷ []) h g = record { in_range = register_is d g.0; fits = g.1.0 }
insn_fine name.MapRef (operand.Register d ∷ operand.Number n ∷ []) h g = record { in_range = register_is d g.0; fits = g.1.0 }
insn_fine name.Goto (operand.Near z ∷ []) h g = record { in_range = refl; fits = g.0 }
insn_fine name.Goto32 (operand.Far z ∷ []) h g = record { in_range = refl; fits = g.0 }
insn_fine (name.Branch w c) (operand.Register d ∷ operand.Number n ∷ operand.Near z ∷ []) h g =
    record { in_range = one_register d g.0; fits = (g.1.0, g.1.1.0) }
insn_fine (name.Branch w c) (operand.Register d ∷ operand.Register s ∷ operand.Near z ∷ []) h g =
    record { in_range = two_registers d s g.0 g.1.0; fits = (tt, g.1.1.0) }
insn_fine name.Call (operand.Number n ∷ []) h g = record { in_range = refl; fits = g.0 }
insn_fine name.Exit [] h g = record { in_range = refl; fits = tt }
insn_fine m os h g = tt

-- what the table has, has widths in range
entries_named : (word : List ℕ) (es : List (List ℕ × Mnemonic))
    → list_all (λ e. is_name e.1) es ≡ true → IfSome (entry_with word es) (λ m. is_name m ≡ true)
entries_named word [] h = tt
entries_named word (e ∷ es) h = by (bytes_eq e.0 word) (is_name e.1) refl h (λ l. entries_named word es l)
  where
    by : (b c : Bool) → is_name e.1 ≡ c → (c && list_all (λ e. is_name e.1) es) ≡ true
        → (list_all (λ e. is_name e.1) es ≡ true → IfSome (entry_with word es) (λ m. is_name m ≡ true))
        → IfSome (if b then Some e.1 else entry_with word es) (λ m. is_name m ≡ true)
    by true true k l more = k
    by false true k l more = more l
    by b false k l more = absurd (false≢true l)

-- a first word that is read is one that the table has
is_named : (word : List ℕ) → IfSome (named word) (λ m. is_name m ≡ true)
unfolding is_name
is_named word = entries_named word table refl

-- an instruction made of operands in range is in range
made_fine : (m : Mnemonic) (r : Result (List Operand) AssemblyCause) (i : Insn)
    → is_name m ≡ true → IfOk r (AllByRecursion IsInRange) → made m r ≡ Ok i → IsFine i
unfolding IfFine
made_fine m r i h g e =
    let from = made_from m r i e in
    subst IfFine from.2 (insn_fine m from.0 h (subst (λ x. IfOk x (AllByRecursion IsInRange)) from.1 g))

-- what words say is in range
pub instruction_fine : (first : List ℕ) (operands : List (List ℕ)) (d : Option ℤ) (i : Insn)
    → DistanceFits d → instruction_of first operands d ≡ Ok i → IsFine i
instruction_fine first operands d i h e = by (named first) (is_named first) e
  where
    by : (m : Option Mnemonic) → IfSome m (λ m. is_name m ≡ true) → instruction_from m operands d ≡ Ok i → IsFine i
    by None n k = absurd (let bad : Err cause.Word ≡ Ok i = k in cc)
    by (Some m) n k =
        made_fine m (each_operand (kind_list (kinds_of m)) operands d) i n
        (operands_good (kind_list (kinds_of m)) operands d h) k
