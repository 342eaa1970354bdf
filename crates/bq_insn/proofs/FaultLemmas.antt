-- What the fields of a slot without a fault are.
use Rattle.std.proofs.Common.{◌≡◌, ℕ, ◌≤◌, Bool, true, false, refl, sym, ap, ◌∙◌, inl, inr, ◌⊎◌, List, length, ◌%◌, arith}
use Rattle.std.specs.Prelude.{◌&&◌, ◌||◌, ◌==◌, nat_lt, nat_le, Option, Some, None, if◌then◌else◌}
use Rattle.std.proofs.lemmas.Bool.Decides.{nat_tests}
use Rattle.std.proofs.lemmas.Bool.{or_parts}
use Rattle.bq_insn.specs.declared.form.Form.{Form}
use Rattle.bq_insn.specs.declared.uses.Use.{Use}
use Rattle.bq_insn.specs.declared.uses.Use.TheVariants.{Unused, Register, Value}
use Rattle.bq_insn.specs.declared.slot.Slot.{Slot}
use Rattle.bq_insn.specs.declared.fault.DecodeCause.{DecodeCause}
use Rattle.bq_insn.specs.declared.fault.DecodeCause.TheVariants as cause
use Rattle.bq_insn.specs.Table.{form_of}
use Rattle.bq_insn.specs.Uses.{uses_of}
use Rattle.bq_insn.specs.declared.fault.DecodeFault.TheVariants.{At}
use Rattle.bq_insn.specs.Spelling.{slot, is_register}
use Rattle.bq_insn.specs.Faults.{is_stray, has_bad_register, has_stray_field, has_stray_second, has_no_variant, has_no_width, is_cut, cause_at_slot, cause_of_form, Faulty, IsDecodeFault, is_program_length}

-- none of the tests finds a fault
pub record IsClean (f : Form) (s : Slot) (next : Option Slot) : Type 0 where
  pub registers : has_bad_register (uses_of f) s ≡ false
  pub fields : has_stray_field (uses_of f) s ≡ false
  pub second : has_stray_second f s next ≡ false
  pub variant : has_no_variant f s ≡ false
  pub width : has_no_width f s ≡ false
  pub whole : is_cut f next ≡ false

-- the least cause of five tests
chain : Bool → Bool → Bool → Bool → Bool → Option DecodeCause
chain a b c d e =
    if a then Some cause.Register else if b then Some cause.Field else if c then Some cause.Offset else if d
    then Some cause.Imm else if e then Some cause.WideCut else None

-- it names none where no test does
chain_none : (a b c d e : Bool) → chain a b c d e ≡ None → (a ≡ false) × (b ≡ false) × (c ≡ false) × (d ≡ false) × (e ≡ false)
unfolding chain
chain_none true b c d e h = absurd (let e : Some cause.Register ≡ None = h in cc)
chain_none false true c d e h = absurd (let e : Some cause.Field ≡ None = h in cc)
chain_none false false true d e h = absurd (let e : Some cause.Offset ≡ None = h in cc)
chain_none false false false true e h = absurd (let e : Some cause.Imm ≡ None = h in cc)
chain_none false false false false true h = absurd (let e : Some cause.WideCut ≡ None = h in cc)
chain_none false false false false false h = (refl, refl, refl, refl, refl)

-- a slot without a cause passes each test
pub is_clean : (f : Form) (s : Slot) (next : Option Slot) → cause_at_slot f s next ≡ None → IsClean f s next
unfolding chain
is_clean f s next h =
    let all =
    chain_none (has_bad_register (uses_of f) s) (has_stray_field (uses_of f) s || has_stray_second f s next)
    (has_no_variant f s) (has_no_width f s) (is_cut f next) h in
    let fields = or_parts (has_stray_field (uses_of f) s) (has_stray_second f s next) all.1 in
    record { registers = all.0; fields = fields.0; second = fields.1; variant = all.2; width = all.3; whole = all.4 }

-- what a field without a fault holds
abbrev pub kept : Use → ℕ → ℕ
kept Unused n = 0
kept Register n = n
kept Value n = n

-- a field that is not stray holds what is kept
kept_same : (u : Use) (n : ℕ) → is_stray u n ≡ false → kept u n ≡ n
kept_same Unused n h = grind (arith, nat_tests)
kept_same Register n h = refl
kept_same Value n h = refl

-- slots are equal by their fields
pub same_slot : (s : Slot) (o d r f i : ℕ) → o ≡ s.opcode → d ≡ s.dst → r ≡ s.src → f ≡ s.offset → i ≡ s.imm → slot o d r f i ≡ s
same_slot s o d r f i a b c e g =
    ap (λ (x : ℕ). slot x d r f i) a ∙ ap (λ (x : ℕ). slot s.opcode x r f i) b ∙ ap (λ (x : ℕ). slot s.opcode s.dst x f i) c
    ∙ ap (λ (x : ℕ). slot s.opcode s.dst s.src x i) e ∙ ap (λ (x : ℕ). slot s.opcode s.dst s.src s.offset x) g

-- a slot without stray fields is what its form keeps of it
pub no_strays_is_kept : (f : Form) (s : Slot) (o : ℕ) → o ≡ s.opcode → has_stray_field (uses_of f) s ≡ false
    → slot o (kept (uses_of f).dst s.dst) (kept (uses_of f).src s.src) (kept (uses_of f).offset s.offset) (kept (uses_of f).imm s.imm) ≡ s
no_strays_is_kept f s o h clean =
    let u = uses_of f in
    let a = or_parts (is_stray u.dst s.dst) (is_stray u.src s.src || (is_stray u.offset s.offset || is_stray u.imm s.imm)) clean in
    let b = or_parts (is_stray u.src s.src) (is_stray u.offset s.offset || is_stray u.imm s.imm) a.1 in
    let c = or_parts (is_stray u.offset s.offset) (is_stray u.imm s.imm) b.1 in
    same_slot s o _ _ _ _ h (kept_same u.dst s.dst a.0) (kept_same u.src s.src b.0) (kept_same u.offset s.offset c.0)
    (kept_same u.imm s.imm c.1)

-- a field that is not over 10 is a register
pub register_of : (r : ℕ) → nat_lt 10 r ≡ false → is_register r ≡ true
register_of r h = grind (arith, nat_tests)

-- the length is no cause of a slot
never_length : (a b c d e : Bool) → chain a b c d e ≡ Some cause.Length → ⊥
unfolding chain
never_length true b c d e h = let same : Some cause.Register ≡ Some cause.Length = h in cc
never_length false true c d e h = let same : Some cause.Field ≡ Some cause.Length = h in cc
never_length false false true d e h = let same : Some cause.Offset ≡ Some cause.Length = h in cc
never_length false false false true e h = let same : Some cause.Imm ≡ Some cause.Length = h in cc
never_length false false false false true h = let same : Some cause.WideCut ≡ Some cause.Length = h in cc
never_length false false false false false h = let same : None ≡ Some cause.Length = h in cc

-- the length is no cause at a slot without a form
cause_is_none_of_length : (o : Option Form) (s : Slot) (next : Option Slot) → cause_of_form o s next ≡ Some cause.Length → ⊥
unfolding chain
cause_is_none_of_length None s next h = let same : Some cause.Opcode ≡ Some cause.Length = h in cc
cause_is_none_of_length (Some f) s next h =
    never_length (has_bad_register (uses_of f) s) (has_stray_field (uses_of f) s || has_stray_second f s next)
    (has_no_variant f s) (has_no_width f s) (is_cut f next) h

-- a fault at a slot
pub is_fault : (bytes : List ℕ) (slot : ℕ) (c : DecodeCause) → is_program_length bytes ≡ true → Faulty bytes slot c → IsDecodeFault bytes (At slot c)
is_fault bytes slot cause.Length h f =
    absurd (cause_is_none_of_length (form_of f.front.slot.opcode) f.front.slot f.front.next f.front.cause_is)
is_fault bytes slot cause.Opcode h f = (h, f)
is_fault bytes slot cause.Register h f = (h, f)
is_fault bytes slot cause.Field h f = (h, f)
is_fault bytes slot cause.Offset h f = (h, f)
is_fault bytes slot cause.Imm h f = (h, f)
is_fault bytes slot cause.WideCut h f = (h, f)

-- the length of 1 to 4096 slots
pub has_length : (bytes : List ℕ) → length bytes % 8 ≡ 0 → 1 ≤ length bytes → length bytes ≤ 32768 → is_program_length bytes ≡ true
has_length bytes whole low high =
    let a : (length bytes % 8 == 0) ≡ true = grind (arith, nat_tests) in
    let b : nat_le 1 (length bytes) ≡ true = grind (arith, nat_tests) in
    let d : nat_le (length bytes) 32768 ≡ true = grind (arith, nat_tests) in
    ap (λ (x : Bool). x && (nat_le 1 (length bytes) && nat_le (length bytes) 32768)) a
    ∙ ap (λ (x : Bool). x && nat_le (length bytes) 32768) b ∙ d

-- what a fault is: that of the length, or that of a slot
pub fault_parts : (bytes : List ℕ) (s : ℕ) (c : DecodeCause) → IsDecodeFault bytes (At s c)
    → ((c ≡ cause.Length) × (s ≡ 0) × (is_program_length bytes ≡ false)) ⊎ ((is_program_length bytes ≡ true) × Faulty bytes s c)
fault_parts bytes s cause.Length f = inl (refl, f.0, f.1)
fault_parts bytes s cause.Opcode f = inr f
fault_parts bytes s cause.Register f = inr f
fault_parts bytes s cause.Field f = inr f
fault_parts bytes s cause.Offset f = inr f
fault_parts bytes s cause.Imm f = inr f
fault_parts bytes s cause.WideCut f = inr f

-- no test is true and false
pub not_both : {P : Type 0} (b : Bool) → b ≡ true → b ≡ false → P
not_both b h k = absurd (let e : true ≡ false = sym h ∙ k in cc)
