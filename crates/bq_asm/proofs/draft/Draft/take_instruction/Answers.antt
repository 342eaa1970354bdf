use Rattle.std.proofs.Common.{◌≡◌, ◌≤◌, ◌<◌, ◌+◌, ◌∙◌, sym, ap, subst, refl, arith, length, map, List, Some, ◌++◌}
use Rattle.std.specs.Prelude.{pos, Ok}
use Rattle.bq_insn.specs.Slots.{slots_of}
use Rattle.bq_asm.specs.declared.fault.AssemblyCause.TheVariants.{Slots}
use Rattle.bq_asm.specs.Draft.{IsDraftOf, RefusesLine}
use Rattle.bq_asm.specs.Lines.{Line, Instruction}
use Rattle.bq_asm.specs.Operands.{word_texts, instruction_of}
use Rattle.bq_asm.specs.Faults.{slots_in, cause_at_line, cause_of_insn}
use Rattle.bq_asm.specs.Assembly.{slots_read}
use Rattle.bq_asm.specs.Jumps.{awaited_by, awaited_at, insn_read, jump_read, places_of}
use Rattle.bq_asm.proofs.DraftLemmas.{places_kept, slots_more, drafts_more, jumps_more, insn_fits, insn_over}
use Rattle.bq_asm.proofs.draft.Draft.take_instruction.Goals as goal

pub returns-clause-ok : goal.returns-clause-ok
returns-clause-ok c = λ before is count.
    let old = c.args.self.now in
    let operands = word_texts c.args.operands.now in
    let line = Instruction c.args.first.now operands in
    let insn = c.in-Ok.insn in
    let read : instruction_of c.args.first.now operands (Some (pos 0)) ≡ Ok insn = sym c.instruction_of.ensures ∙ c.in-Ok.is in
    let index = length old.insns.items in
    let size : c.slots.result ≡ slots_of insn = c.slots.ensures in
    let under : old.slots + c.slots.result ≤ 4096 = c.if-next-gt-SLOTS.false in
    let same : old.slots ≡ slots_in before = is.slots in
    let fits : slots_in before + slots_of insn ≤ 4096 = omega (arith, size, under, same) in (
      insn_fits (slots_in before) insn _ read fits,
      record {
        labels = places_kept (places_of old.labels) before line is.labels (λ s. refl);
        slots = ap (λ n. old.slots + n) (c.slots.ensures ∙ sym (ap slots_read read)) ∙ slots_more old.slots before line is.slots;
        insns =
            c.in_ok-push.ensures.items ∙ ap (λ is. old.insns.items ++ is) (sym (ap insn_read read))
            ∙ drafts_more old.insns.items before line is.insns;
        jumps =
            c.in_ok-push_jump.ensures.ok
            ∙ (λ i.
            map awaited_by old.jumps.items
            ++ awaited_at ((c.len-index.ensures ∙ old.insns.ok.0) i) (old.slots + c.slots.ensures i) c.args.number
            (c.target_of.ensures i))
            ∙ ap (λ js. map awaited_by old.jumps.items ++ js) (sym (ap (jump_read index old.slots c.args.number operands) read))
            ∙ jumps_more (map awaited_by old.jumps.items) index old.slots c.args.number before line is.jumps
            (ap length is.insns) is.slots count;
      },
    )

pub returns-in-Err-clause-fault : goal.returns-in-Err-clause-fault
returns-in-Err-clause-fault c =
    let line = Instruction c.args.first.now (word_texts c.args.operands.now) in
    let faulty : (before : List Line) → IsDraftOf before c.args.self.now → cause_at_line before line ≡ Some c.in-Err.cause = λ before is.
    ap (cause_of_insn (slots_in before)) (sym c.instruction_of.ensures ∙ c.in-Err.is) in
    subst (RefusesLine c.args.self.now c.args.number line) (sym c.refusal.ensures) (refl, faulty)

pub returns-then-next-gt-SLOTS-clause-fault : goal.returns-then-next-gt-SLOTS-clause-fault
returns-then-next-gt-SLOTS-clause-fault c =
    let line = Instruction c.args.first.now (word_texts c.args.operands.now) in
    let insn = c.in-Ok.insn in
    let full : (before : List Line) → IsDraftOf before c.args.self.now → cause_at_line before line ≡ Some Slots = λ before is.
    let over : 4096 < slots_in before + slots_of insn =
    let same = is.slots in
    let size = c.slots.ensures in let more = c.if-next-gt-SLOTS.true in omega (arith, same, size, more) in
    insn_over (slots_in before) insn _ (sym c.instruction_of.ensures ∙ c.in-Ok.is) over in
    subst (RefusesLine c.args.self.now c.args.number line) (sym c.refusal-then-next-gt-SLOTS.ensures) (refl, full)
