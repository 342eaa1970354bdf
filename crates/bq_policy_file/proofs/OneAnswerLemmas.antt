-- An input has one answer.
use Rattle.std.proofs.Common.{◌≡◌, ℕ, true, false, List, ◌++◌, ◌⊎◌, inl, inr, refl, sym, ap, subst, ◌∙◌, arith}
use Rattle.std.specs.Prelude.{codes}
use Rattle.hex.specs.Hex.{encode_lower}
use Rattle.bq_insn.specs.declared.Insn.{Insn}
use Rattle.bq_insn.specs.Spelling.{spelling}
use Rattle.bq_insn.specs.declared.fault.DecodeFault.TheVariants.{At}
use Rattle.bq_insn.specs.Faults.{IsDecodeFault}
use Rattle.bq_insn.proofs.UniqueLemmas as insn
use Rattle.bq_insn.proofs.OneFaultLemmas as fault
use Rattle.bq_insn.proofs.LengthLemmas as lengths
use Rattle.bq_asm.specs.Text.{listing_text}
use Rattle.bq_asm.proofs.LawLemmas as asm
use Rattle.bq_bpf.specs.declared.shape.MapShape.{MapShape}
use Rattle.bq_hooks.specs.declared.hook.Hook.{Hook}
use Rattle.bq_hooks.specs.declared.hook.Version.{Version}
use Rattle.bq_load.specs.Layout.{header_bytes, IsImage}
use Rattle.bq_policy_file.specs.declared.form.ProgramForm.{ProgramForm}
use Rattle.bq_policy_file.specs.declared.form.ProgramForm.TheVariants.{Program, Image}
use Rattle.bq_policy_file.specs.Forms.{SpellsForm}
use Rattle.bq_policy_file.specs.HexText.{IsNoHex}
use Rattle.bq_words.specs.Refused.{refused_line}
use Rattle.bq_asm.specs.declared.fault.AsmFault.TheVariants as assembly
use Rattle.bq_asm.specs.Causes.{assembly_fault_text as asm_text}
use Rattle.bq_insn.specs.Causes.{decode_fault_text as dis_text}
use Rattle.bq_insn.proofs.LengthLemmas.{well_formed_in_range}
use Rattle.bq_policy_file.specs.Asm.{IsAssembled, IsNoText, IsFaultyText}
use Rattle.bq_policy_file.specs.Dis.{IsListed, IsFaultyProgram}
use Rattle.bq_policy_file.specs.Laws.{OneAssembly, OneListing}

-- a text that is assembled is not refused
assembled_or_refused : (form : ProgramForm) (text x y : List ℕ) → IsAssembled form text x → IsNoText text y ⊎ IsFaultyText text y → ⊥
assembled_or_refused form text x y p (inl q) = q.0 p.is_text
assembled_or_refused form text x y p (inr q) = asm.no_program_is_faulty text p.insns q.1 q.2 p.assembles q.3

-- the bytes of an image are determined by its parts
one_image : (a b : List ℕ) (version : Version) (hook : Hook) (shapes : List MapShape) (program : List ℕ)
    → IsImage a version hook shapes program → IsImage b version hook shapes program → a ≡ b
one_image a b version hook shapes program p q =
    let slots : p.slots ≡ q.slots = omega (arith, p.framed.whole, q.framed.whole) in
    p.framed.bytes_are ∙ ap (λ n. header_bytes (record { version = version; hook = hook; shapes = shapes; slots = n }) ++ program) slots
    ∙ sym q.framed.bytes_are

-- a program has one spelling in a form
one_spelling : (form : ProgramForm) (insns : List Insn) (a b : List ℕ) → SpellsForm form insns a → SpellsForm form insns b → a ≡ b
one_spelling Program insns a b p q = p ∙ sym q
one_spelling (Image i) insns a b p q = one_image a b i.version i.hook i.shapes.items (spelling insns) p q

-- a text is refused with one answer, and assembled to one:
one_text_refusal : (text x y : List ℕ) → IsNoText text x ⊎ IsFaultyText text x → IsNoText text y ⊎ IsFaultyText text y → x ≡ y
one_text_refusal text x y (inl p) (inl q) = p.1 ∙ sym q.1
one_text_refusal text x y (inl p) (inr q) = absurd (p.0 q.0)
one_text_refusal text x y (inr p) (inl q) = absurd (q.0 p.0)
one_text_refusal text x y (inr p) (inr q) =
    let same = asm.one_fault text p.1 q.1 p.2 q.2 p.3 q.3 in
    p.4 ∙ ap (λ n. refused_line (asm_text (assembly.At n p.2))) same.0
    ∙ ap (λ c. refused_line (asm_text (assembly.At q.1 c))) same.1 ∙ sym q.4

same_assembly : (form : ProgramForm) (text x y : List ℕ) → IsAssembled form text x → IsAssembled form text y → x ≡ y
same_assembly form text x y p q =
    let insns : p.insns ≡ q.insns = asm.one_program text p.insns q.insns p.assembles q.assembles in
    let bytes : p.bytes ≡ q.bytes =
    one_spelling form q.insns p.bytes q.bytes (subst (λ l. SpellsForm form l p.bytes) insns p.spells) q.spells in
    p.line ∙ ap (λ b. encode_lower b ++ codes "\n") bytes ∙ sym q.line

-- in each form a text is either assembled or refused, and with one text
pub one_assembly : OneAssembly
one_assembly form text true true x y p q = (refl, same_assembly form text x y p q)
one_assembly form text true false x y p q = absurd (assembled_or_refused form text x y p q)
one_assembly form text false true x y p q = absurd (assembled_or_refused form text y x q p)
one_assembly form text false false x y p q = (refl, one_text_refusal text x y p q)

-- hex that is listed is not refused
listed_or_refused : (text x y : List ℕ) → IsListed text x → (IsNoHex text × (y ≡ refused_line (codes "hex"))) ⊎ IsFaultyProgram text y → ⊥
listed_or_refused text x y p (inl q) = cc (p.1, q.0.1)
listed_or_refused text x y p (inr q) =
    let same : q.0 ≡ spelling p.0 = cc (p.1, q.1) in
    lengths.no_program_is_refused p.0 q.2 q.3 p.2 p.3 (subst (λ b. IsDecodeFault b (At q.2 q.3)) same q.4)

-- hex is refused with one answer
one_hex_refusal : (text x y : List ℕ) → (IsNoHex text × (x ≡ refused_line (codes "hex"))) ⊎ IsFaultyProgram text x
    → (IsNoHex text × (y ≡ refused_line (codes "hex"))) ⊎ IsFaultyProgram text y → x ≡ y
one_hex_refusal text x y (inl p) (inl q) = p.1 ∙ sym q.1
one_hex_refusal text x y (inl p) (inr q) = cc (p.0.1, q.1)
one_hex_refusal text x y (inr p) (inl q) = cc (p.1, q.0.1)
one_hex_refusal text x y (inr p) (inr q) =
    let bytes : p.0 ≡ q.0 = cc (p.1, q.1) in
    let same = fault.one_fault q.0 p.2 q.2 p.3 q.3 (subst (λ b. IsDecodeFault b (At p.2 p.3)) bytes p.4) q.4 in
    p.5 ∙ ap (λ n. refused_line (dis_text (At n p.3))) same.0
    ∙ ap (λ c. refused_line (dis_text (At q.2 c))) same.1 ∙ sym q.5

-- a text is either listed or refused, and with one text
pub one_listing : OneListing
one_listing text true true x y p q =
    let bytes : spelling p.0 ≡ spelling q.0 = cc (p.1, q.1) in (
      refl,
      p.4 ∙ ap listing_text (insn.one_program p.0 q.0 (well_formed_in_range p.0 p.2) (well_formed_in_range q.0 q.2) p.3 q.3 bytes)
          ∙ sym q.4,
    )
one_listing text true false x y p q = absurd (listed_or_refused text x y p q)
one_listing text false true x y p q = absurd (listed_or_refused text y x q p)
one_listing text false false x y p q = (refl, one_hex_refusal text x y p q)
