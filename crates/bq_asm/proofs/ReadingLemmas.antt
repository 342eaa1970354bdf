-- How what an instruction's words say depends on the distance to its label.
use Rattle.std.proofs.Common.{◌≡◌, ℕ, List, [], ◌∷◌, length, refl, sym, ap, ◌∙◌, Bool, true, false, Some, None, arith, inl, inr, subst, ⊎_elim}
use Rattle.std.specs.Prelude.{Option, Result, Ok, Err, ℤ, pos, ◌⊎◌, if◌then◌else◌, option_map}
use Rattle.std.specs.List.{list_all}
use Rattle.std.specs.Option.{ok_or}
use Rattle.std.proofs.lemmas.Bool.{false≢true}
use Rattle.bq_insn.specs.declared.Width.{Width}
use Rattle.bq_insn.specs.declared.Condition.{Condition}
use Rattle.bq_insn.specs.declared.Insn.{Insn}
use Rattle.bq_insn.specs.declared.Insn.TheVariants as insn
use Rattle.bq_insn.specs.Slots.{slots_of}
use Rattle.bq_asm.specs.declared.fault.AssemblyCause.{AssemblyCause}
use Rattle.bq_asm.specs.declared.fault.AssemblyCause.TheVariants as cause
use Rattle.bq_asm.specs.declared.mnemonic.Mnemonic.{Mnemonic}
use Rattle.bq_asm.specs.declared.mnemonic.Mnemonic.TheVariants as name
use Rattle.bq_asm.specs.declared.operand.Operand.{Operand}
use Rattle.bq_asm.specs.declared.operand.Operand.TheVariants as operand
use Rattle.bq_asm.specs.declared.operand_kind.OperandKind.{OperandKind}
use Rattle.bq_asm.specs.declared.operand_kind.OperandKind.TheVariants as kind
use Rattle.bq_asm.specs.Named.{named}
use Rattle.bq_asm.specs.Lines.{last_word}
use Rattle.bq_asm.specs.Operands.{is_label, operand_of, number_place, label_place, each_operand, with_next, kind_list, kinds_of, insn_from, made, lesser, register_place, source_place, instruction_of, instruction_from}
use Rattle.bq_asm.specs.Numbers.{register_named, offset_of, distance_in_word}
use Rattle.bq_asm.specs.Jumps.{is_jump, target_of, jump_aimed}
use Rattle.bq_asm.proofs.CountLemmas.{count_wrong}

-- whether a first word says a jump
abbrev pub is_jump_name : Mnemonic → Bool
is_jump_name name.Goto = true
is_jump_name name.Goto32 = true
is_jump_name (name.Branch w c) = true
is_jump_name m = false

-- how many slots an instruction takes is known by its first word
abbrev pub size_of : Mnemonic → ℕ
size_of name.Imm64 = 2
size_of name.MapRef = 2
size_of m = 1

-- an instruction is a jump and has its size by its first word
pub record HasShape (m : Mnemonic) (i : Insn) : Type 0 where
  pub jump : is_jump i ≡ is_jump_name m
  pub size : slots_of i ≡ size_of m

-- if operands make an instruction of a first word, it has the shape of that word:
IfShape : Mnemonic → Option Insn → Type 0
IfShape m None = Unit {0}
IfShape m (Some i) = HasShape m i

shaped : (m : Mnemonic) (os : List Operand) → IfShape m (insn_from m os)
unfolding IfShape
shaped (name.Alu w o) (operand.Register d ∷ operand.Number n ∷ []) = record { jump = refl; size = refl }
shaped (name.Alu w o) (operand.Register d ∷ operand.Register s ∷ []) = record { jump = refl; size = refl }
shaped (name.MovSx w b) (operand.Register d ∷ operand.Register s ∷ []) = record { jump = refl; size = refl }
shaped (name.Neg w) (operand.Register d ∷ []) = record { jump = refl; size = refl }
shaped (name.End order b) (operand.Register d ∷ []) = record { jump = refl; size = refl }
shaped (name.Load size) (operand.Register d ∷ operand.Memory s off ∷ []) = record { jump = refl; size = refl }
shaped (name.LoadSigned size) (operand.Register d ∷ operand.Memory s off ∷ []) = record { jump = refl; size = refl }
shaped (name.StoreImm size) (operand.Memory d off ∷ operand.Number n ∷ []) = record { jump = refl; size = refl }
shaped (name.StoreReg size) (operand.Memory d off ∷ operand.Register s ∷ []) = record { jump = refl; size = refl }
shaped name.Imm64 (operand.Register d ∷ operand.Wide v ∷ []) = record { jump = refl; size = refl }
shaped name.MapRef (operand.Register d ∷ operand.Number n ∷ []) = record { jump = refl; size = refl }
shaped name.Goto (operand.Near z ∷ []) = record { jump = refl; size = refl }
shaped name.Goto32 (operand.Far z ∷ []) = record { jump = refl; size = refl }
shaped (name.Branch w c) (operand.Register d ∷ operand.Number n ∷ operand.Near z ∷ []) = record { jump = refl; size = refl }
shaped (name.Branch w c) (operand.Register d ∷ operand.Register s ∷ operand.Near z ∷ []) = record { jump = refl; size = refl }
shaped name.Call (operand.Number n ∷ []) = record { jump = refl; size = refl }
shaped name.Exit [] = record { jump = refl; size = refl }
shaped m os = tt

shaped_by : (m : Mnemonic) (os : List Operand) (i : Insn) → insn_from m os ≡ Some i → HasShape m i
unfolding IfShape
shaped_by m os i h = subst (IfShape m) h (shaped m os)

-- where the answer is no cause, there was an instruction
some_from_ok : (o : Option Insn) (i : Insn) → ok_or o cause.Word ≡ Ok i → o ≡ Some i
some_from_ok None i h = absurd (let e : Err cause.Word ≡ Ok i = h in cc)
some_from_ok (Some j) i h = let e : Ok j ≡ Ok i = h in cc

-- an instruction is made of operands
pub made_from : (m : Mnemonic) (r : Result (List Operand) AssemblyCause) (i : Insn)
    → made m r ≡ Ok i → (os : List Operand) × (r ≡ Ok os) × (insn_from m os ≡ Some i)
made_from m (Err c) i h = absurd (let e : Err c ≡ Ok i = h in cc)
made_from m (Ok os) i h = (os, refl, some_from_ok (insn_from m os) i h)

-- an instruction that is made is a jump, and has its size, by its first word
pub made_shape : (m : Mnemonic) (r : Result (List Operand) AssemblyCause) (i : Insn) → made m r ≡ Ok i → HasShape m i
made_shape m r i h = let from = made_from m r i h in shaped_by m from.0 i from.2

-- what the words after this first word say
abbrev pub read : Mnemonic → List (List ℕ) → Option ℤ → Result Insn AssemblyCause
read m operands d = made m (each_operand (kind_list (kinds_of m)) operands d)

-- whether no distance stands in an operand's place
is_steady : OperandKind → Bool
is_steady kind.Near = false
is_steady kind.Far = false
is_steady k = true

-- without a target among the places, the operands are the same for any two distances
steady_operands : (ks : List OperandKind) (ws : List (List ℕ)) (d e : Option ℤ)
    → list_all is_steady ks ≡ true → each_operand ks ws d ≡ each_operand ks ws e
unfolding is_steady
steady_operands [] [] d e h = refl
steady_operands [] (w ∷ ws) d e h = refl
steady_operands (k ∷ ks) [] d e h = refl
steady_operands (kind.Register ∷ ks) (w ∷ ws) d e h = ap (with_next (operand_of kind.Register w d)) (steady_operands ks ws d e h)
steady_operands (kind.Source ∷ ks) (w ∷ ws) d e h = ap (with_next (operand_of kind.Source w d)) (steady_operands ks ws d e h)
steady_operands (kind.Number ∷ ks) (w ∷ ws) d e h = ap (with_next (operand_of kind.Number w d)) (steady_operands ks ws d e h)
steady_operands (kind.Wide ∷ ks) (w ∷ ws) d e h = ap (with_next (operand_of kind.Wide w d)) (steady_operands ks ws d e h)
steady_operands (kind.Memory ∷ ks) (w ∷ ws) d e h = ap (with_next (operand_of kind.Memory w d)) (steady_operands ks ws d e h)
steady_operands (kind.Near ∷ ks) (w ∷ ws) d e h = absurd (false≢true h)
steady_operands (kind.Far ∷ ks) (w ∷ ws) d e h = absurd (false≢true h)

-- the distance does not matter, and no label waits for it
pub record IsSteady (m : Mnemonic) (operands : List (List ℕ)) : Type 0 where
  pub same : (d e : Option ℤ) → read m operands d ≡ read m operands e
  pub none : (i : Insn) → read m operands (Some (pos 0)) ≡ Ok i → target_of i operands ≡ None

-- what is read, with this distance where it is a jump
abbrev pub aimed_by : ℤ → Result Insn AssemblyCause → Result Insn AssemblyCause
aimed_by z (Ok i) = Ok (jump_aimed i z)
aimed_by z (Err c) = Err c

-- a label stands in the target's place
pub record IsAimed (m : Mnemonic) (operands : List (List ℕ)) : Type 0 where
  pub label : is_label (last_word operands) ≡ true
  pub jump : is_jump_name m ≡ true
  pub set : (z : ℤ) → read m operands (Some z) ≡ aimed_by z (read m operands (Some (pos 0)))
  pub unset : (i : Insn) → read m operands (Some (pos 0)) ≡ Ok i → read m operands None ≡ Err cause.LabelMissing
  pub never : (i : Insn) → read m operands None ≡ Ok i → ⊥

-- a choice between two equal things is that thing
both_same : (o : Option (List ℕ)) (b : Bool) → (if b then o else o) ≡ o
both_same o true = refl
both_same o false = refl

-- an instruction has no label as its target where its last word is no label, or where it is no jump:
no_label : (i : Insn) (operands : List (List ℕ)) → is_label (last_word operands) ≡ false → target_of i operands ≡ None
no_label i operands h = ap (λ b. if is_jump i then (if b then Some (last_word operands) else None) else None) h ∙ both_same None (is_jump i)

no_jump : (i : Insn) (operands : List (List ℕ)) → is_jump i ≡ false → target_of i operands ≡ None
no_jump i operands h = ap (λ b. if b then (if is_label (last_word operands) then Some (last_word operands) else None) else None) h

-- for a first word that says no jump, and whose operands are no targets, the distance does not matter
steady_name : (m : Mnemonic) (operands : List (List ℕ)) → is_jump_name m ≡ false
    → list_all is_steady (kind_list (kinds_of m)) ≡ true
    → IsSteady m operands
steady_name m operands plain ks = record {
  same = λ d e. ap (made m) (steady_operands (kind_list (kinds_of m)) operands d e ks);
  none = λ i h. no_jump i operands ((made_shape m (each_operand (kind_list (kinds_of m)) operands (Some (pos 0))) i h).jump ∙ plain);
}

-- with a wrong number of operands the distance does not matter
miscounted : (m : Mnemonic) (operands : List (List ℕ)) → (length operands ≡ length (kind_list (kinds_of m)) → ⊥) → IsSteady m operands
miscounted m operands wrong =
    let word = λ (d : Option ℤ). ap (made m) (count_wrong (kind_list (kinds_of m)) operands d wrong) in
    record {
      same = λ d e. word d ∙ sym (word e);
      none = λ i h. absurd (let e : Err cause.Word ≡ Ok i = sym (word (Some (pos 0))) ∙ h in cc);
    }

-- a word in a near or far target's place
near : (w : List ℕ) (d : Option ℤ) (b : Bool) → is_label w ≡ b → operand_of kind.Near w d
    ≡ (if b then label_place (option_map (λ z. operand.Near z) d) else number_place (option_map (λ z. operand.Near z) (offset_of w)) w)
near w d b e =
    ap
    (λ b. if b then label_place (option_map (λ z. operand.Near z) d) else number_place (option_map (λ z. operand.Near z) (offset_of w)) w)
    e

far : (w : List ℕ) (d : Option ℤ) (b : Bool) → is_label w ≡ b → operand_of kind.Far w d
    ≡ (if b then label_place (option_map (λ z. operand.Far z) d) else number_place (option_map (λ z. operand.Far z) (distance_in_word w)) w)
far w d b e =
    ap
    (λ b. if b then label_place (option_map (λ z. operand.Far z) d) else number_place (option_map (λ z. operand.Far z) (distance_in_word w)) w)
    e

-- a `goto` to a word, near or far, has a label as its target, or the distance to a label does not matter:
goto : (w : List ℕ) (b : Bool) → is_label w ≡ b → IsSteady name.Goto (w ∷ []) ⊎ IsAimed name.Goto (w ∷ [])
goto w false e =
    let at = λ (d : Option ℤ). ap (λ t. made name.Goto (with_next t (Ok []))) (near w d false e) in
    inl (record { same = λ d f. at d ∙ sym (at f); none = λ i h. no_label i (w ∷ []) e })
goto w true e =
    let at = λ (d : Option ℤ). ap (λ t. made name.Goto (with_next t (Ok []))) (near w d true e) in
    inr (record {
      label = e;
      jump = refl;
      set = λ z. at (Some z) ∙ sym (ap (aimed_by z) (at (Some (pos 0))));
      unset = λ i h. at None;
      never = λ i h. let no : Err cause.LabelMissing ≡ Ok i = sym (at None) ∙ h in cc;
    })

goto32 : (w : List ℕ) (b : Bool) → is_label w ≡ b → IsSteady name.Goto32 (w ∷ []) ⊎ IsAimed name.Goto32 (w ∷ [])
goto32 w false e =
    let at = λ (d : Option ℤ). ap (λ t. made name.Goto32 (with_next t (Ok []))) (far w d false e) in
    inl (record { same = λ d f. at d ∙ sym (at f); none = λ i h. no_label i (w ∷ []) e })
goto32 w true e =
    let at = λ (d : Option ℤ). ap (λ t. made name.Goto32 (with_next t (Ok []))) (far w d true e) in
    inr (record {
      label = e;
      jump = refl;
      set = λ z. at (Some z) ∙ sym (ap (aimed_by z) (at (Some (pos 0))));
      unset = λ i h. at None;
      never = λ i h. let no : Err cause.LabelMissing ≡ Ok i = sym (at None) ∙ h in cc;
    })

-- a branch, by what stands in the places before its target
module _ (width : Width) (cond : Condition) where
  -- the branch that its operands make, or the least cause among them
  branch : Result Operand AssemblyCause → Result Operand AssemblyCause → Result Operand AssemblyCause → Result Insn AssemblyCause
  branch a b t = made (name.Branch width cond) (with_next a (with_next b (with_next t (Ok []))))

  -- the distance of a branch that is read can be set later to what it would be read with
  branch_set : (a b : Result Operand AssemblyCause) (y z : ℤ) → branch a b (Ok (operand.Near z)) ≡ aimed_by z (branch a b (Ok (operand.Near y)))
  unfolding branch
  branch_set (Ok (operand.Register d)) (Ok (operand.Number n)) y z = refl
  branch_set (Ok (operand.Register d)) (Ok (operand.Register s)) y z = refl
  branch_set (Ok o) (Ok p) y z = refl
  branch_set (Ok o) (Err c) y z = refl
  branch_set (Err c) (Ok p) y z = refl
  branch_set (Err c) (Err d) y z = refl

  -- a branch that is read with some distance is refused for its label where no distance is known
  branch_unset : (a b : Result Operand AssemblyCause) (y : ℤ) (i : Insn)
      → branch a b (Ok (operand.Near y)) ≡ Ok i
      → branch a b (Err cause.LabelMissing) ≡ Err cause.LabelMissing
  unfolding branch
  branch_unset (Ok o) (Ok p) y i h = refl
  branch_unset (Ok o) (Err c) y i h = absurd (let no : Err c ≡ Ok i = h in cc)
  branch_unset (Err c) (Ok p) y i h = absurd (let no : Err c ≡ Ok i = h in cc)
  branch_unset (Err c) (Err d) y i h = absurd (let no : Err (lesser c d) ≡ Ok i = h in cc)

  -- a branch whose target is not read is not read
  branch_never : (a b : Result Operand AssemblyCause) (c : AssemblyCause) (i : Insn) → branch a b (Err c) ≡ Ok i → ⊥
  unfolding branch
  branch_never (Ok o) (Ok p) c i h = let no : Err c ≡ Ok i = h in cc
  branch_never (Ok o) (Err d) c i h = let no : Err (lesser d c) ≡ Ok i = h in cc
  branch_never (Err d) (Ok p) c i h = let no : Err (lesser d c) ≡ Ok i = h in cc
  branch_never (Err d) (Err e) c i h = let no : Err (lesser d (lesser e c)) ≡ Ok i = h in cc

  -- a branch with a label as its target waits for the label, and otherwise the distance to a label does not matter
  branch_depends : (a b w : List ℕ) (label : Bool) → is_label w ≡ label
      → IsSteady (name.Branch width cond) (a ∷ b ∷ w ∷ []) ⊎ IsAimed (name.Branch width cond) (a ∷ b ∷ w ∷ [])
  unfolding branch
  branch_depends a b w false e =
      let first = register_place (register_named a) in
      let second = source_place (register_named b) b in
      let at = λ (d : Option ℤ). ap (branch first second) (near w d false e) in
      inl (record { same = λ d f. at d ∙ sym (at f); none = λ i h. no_label i (a ∷ b ∷ w ∷ []) e })
  branch_depends a b w true e =
      let first = register_place (register_named a) in
      let second = source_place (register_named b) b in
      let at = λ (d : Option ℤ). ap (branch first second) (near w d true e) in
      inr (record {
        label = e;
        jump = refl;
        set = λ z. at (Some z) ∙ branch_set first second (pos 0) z ∙ sym (ap (aimed_by z) (at (Some (pos 0))));
        unset = λ i h. at None ∙ branch_unset first second (pos 0) i (sym (at (Some (pos 0))) ∙ h);
        never = λ i h. branch_never first second cause.LabelMissing i (sym (at None) ∙ h);
      })

-- either the distance does not matter for what is read, or a label stands in the target's place
pub steady_or_aimed : (m : Mnemonic) (operands : List (List ℕ)) → IsSteady m operands ⊎ IsAimed m operands
unfolding is_steady
steady_or_aimed name.Goto [] = inl (miscounted name.Goto [] (λ e. omega arith))
steady_or_aimed name.Goto (w ∷ []) = goto w (is_label w) refl
steady_or_aimed name.Goto (w ∷ v ∷ ws) = inl (miscounted name.Goto (w ∷ v ∷ ws) (λ e. omega arith))
steady_or_aimed name.Goto32 [] = inl (miscounted name.Goto32 [] (λ e. omega arith))
steady_or_aimed name.Goto32 (w ∷ []) = goto32 w (is_label w) refl
steady_or_aimed name.Goto32 (w ∷ v ∷ ws) = inl (miscounted name.Goto32 (w ∷ v ∷ ws) (λ e. omega arith))
steady_or_aimed (name.Branch x c) [] = inl (miscounted (name.Branch x c) [] (λ e. omega arith))
steady_or_aimed (name.Branch x c) (a ∷ []) = inl (miscounted (name.Branch x c) (a ∷ []) (λ e. omega arith))
steady_or_aimed (name.Branch x c) (a ∷ b ∷ []) = inl (miscounted (name.Branch x c) (a ∷ b ∷ []) (λ e. omega arith))
steady_or_aimed (name.Branch x c) (a ∷ b ∷ w ∷ []) = branch_depends x c a b w (is_label w) refl
steady_or_aimed (name.Branch x c) (a ∷ b ∷ w ∷ v ∷ ws) = inl (miscounted (name.Branch x c) (a ∷ b ∷ w ∷ v ∷ ws) (λ e. omega arith))
steady_or_aimed m operands = inl (steady_name m operands refl refl)

-- no label stands in the target's place, and the distance does not matter
pub record IsPlain (first : List ℕ) (operands : List (List ℕ)) (i : Insn) : Type 0 where
  pub target : target_of i operands ≡ None
  pub same : (d : Option ℤ) → instruction_of first operands d ≡ Ok i

-- a label stands in the target's place
pub record IsAwaiting (first : List ℕ) (operands : List (List ℕ)) (i : Insn) : Type 0 where
  pub jump : is_jump i ≡ true
  pub target : target_of i operands ≡ Some (last_word operands)
  pub unset : instruction_of first operands None ≡ Err cause.LabelMissing
  pub set : (z : ℤ) → instruction_of first operands (Some z) ≡ Ok (jump_aimed i z)

-- an instruction that is read is one or the other
pub plain_or_awaiting : (first : List ℕ) (operands : List (List ℕ)) (i : Insn)
    → instruction_of first operands (Some (pos 0)) ≡ Ok i
    → IsPlain first operands i ⊎ IsAwaiting first operands i
plain_or_awaiting first operands i h = by (named first) refl h
  where
    by : (m : Option Mnemonic) → named first ≡ m → instruction_from m operands (Some (pos 0)) ≡ Ok i
        → IsPlain first operands i ⊎ IsAwaiting first operands i
    by None n k = absurd (let bad : Err cause.Word ≡ Ok i = k in cc)
    by (Some m) n k =
        ⊎_elim
        (λ s. inl (record { target = s.none i k; same = λ d. ap (λ x. instruction_from x operands d) n ∙ s.same d (Some (pos 0)) ∙ k }))
        (λ a.
        let jump = (made_shape m (each_operand (kind_list (kinds_of m)) operands (Some (pos 0))) i k).jump ∙ a.jump in
        inr (record {
          jump = jump;
          target =
              ap (λ b. if b then (if is_label (last_word operands) then Some (last_word operands) else None) else None) jump
              ∙ ap (λ b. if b then Some (last_word operands) else None) a.label;
          unset = ap (λ x. instruction_from x operands None) n ∙ a.unset i k;
          set = λ z. ap (λ x. instruction_from x operands (Some z)) n ∙ a.set z ∙ ap (aimed_by z) k;
        })) (steady_or_aimed m operands)

-- what the words after this first word say, as `read`, whose name a field of the next record has too
abbrev what_is_read : Mnemonic → List (List ℕ) → Option ℤ → Result Insn AssemblyCause
what_is_read m operands d = read m operands d

-- a line's words are read, with no distance known yet, as an instruction of this many slots
pub record IsRead (first : List ℕ) (operands : List (List ℕ)) (size : ℕ) : Type 0 where
  pub insn : Insn
  pub read : instruction_of first operands (Some (pos 0)) ≡ Ok insn
  pub slots : slots_of insn ≡ size

-- what is read with a distance set in it comes from an instruction that was read
aimed_from : (z : ℤ) (r : Result Insn AssemblyCause) (i : Insn) → aimed_by z r ≡ Ok i → (j : Insn) × (r ≡ Ok j)
aimed_from z (Ok j) i h = (j, refl)
aimed_from z (Err c) i h = absurd (let bad : Err c ≡ Ok i = h in cc)

-- what is read with some distance is read with the distance 0 too, and has that size
pub read_again : (first : List ℕ) (operands : List (List ℕ)) (d : Option ℤ) (i : Insn)
    → instruction_of first operands d ≡ Ok i → IsRead first operands (slots_of i)
read_again first operands d i h = by (named first) refl h
  where
    sized : (m : Mnemonic) (j : Insn) → named first ≡ Some m → what_is_read m operands d ≡ Ok i
        → what_is_read m operands (Some (pos 0)) ≡ Ok j
        → IsRead first operands (slots_of i)
    sized m j n k l = record {
      insn = j;
      read = ap (λ x. instruction_from x operands (Some (pos 0))) n ∙ l;
      slots =
          (made_shape m (each_operand (kind_list (kinds_of m)) operands (Some (pos 0))) j l).size
          ∙ sym (made_shape m (each_operand (kind_list (kinds_of m)) operands d) i k).size;
    }

    awaited : (m : Mnemonic) (a : IsAimed m operands) (e : Option ℤ)
        → what_is_read m operands e ≡ Ok i → (j : Insn) × (what_is_read m operands (Some (pos 0)) ≡ Ok j)
    awaited m a None k = absurd (a.never i k)
    awaited m a (Some z) k = aimed_from z (what_is_read m operands (Some (pos 0))) i (sym (a.set z) ∙ k)

    by : (m : Option Mnemonic) → named first ≡ m → instruction_from m operands d ≡ Ok i → IsRead first operands (slots_of i)
    by None n k = absurd (let bad : Err cause.Word ≡ Ok i = k in cc)
    by (Some m) n k = ⊎_elim
        (λ s. sized m i n k (s.same (Some (pos 0)) d ∙ k))
        (λ a. let j = awaited m a d k in sized m j.0 n k j.1)
        (steady_or_aimed m operands)

-- a jump takes one slot
pub jump_slots : (i : Insn) → is_jump i ≡ true → slots_of i ≡ 1
jump_slots (insn.Goto off) h = refl
jump_slots (insn.Goto32 n) h = refl
jump_slots (insn.Branch w c d src off) h = refl
jump_slots i h = absurd (false≢true h)

-- a jump takes the same slots whatever its distance, and other instructions do not change
pub aimed_slots : (i : Insn) (z : ℤ) → slots_of (jump_aimed i z) ≡ slots_of i
aimed_slots (insn.Goto off) z = refl
aimed_slots (insn.Goto32 n) z = refl
aimed_slots (insn.Branch w c d src off) z = refl
aimed_slots i z = refl
