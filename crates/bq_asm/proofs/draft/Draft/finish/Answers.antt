use Rattle.std.proofs.Common.{◌+◌, ◌<◌, ◌≤◌, ◌∙◌, sym, ap, arith, subst, length, map, inr, drop, Ok, Err}
use Rattle.std.proofs.lemmas.List.{take_at}
use Rattle.bq_asm.specs.declared.fault.AssemblyCause.TheVariants.{LabelMissing}
use Rattle.bq_asm.specs.declared.fault.AsmFault.TheVariants.{At}
use Rattle.bq_asm.specs.Draft.{Fails}
use Rattle.bq_asm.specs.Assembly.{places_from, AssemblesFrom}
use Rattle.bq_asm.specs.Faults.{slots_in}
use Rattle.bq_asm.specs.Jumps.{awaited_by, places_of, jumps_from, drafts_of, with_jumps}
use Rattle.bq_asm.proofs.WithinLemmas.{All-seen, places_within, jumps_within, IsNear}
use Rattle.bq_asm.proofs.CleanLemmas.{passes_all, first_from_missing}
use Rattle.bq_asm.proofs.draft.Draft.finish.Goals as goal

pub set_jumps-requires-clause-labels : goal.set_jumps-requires-clause-labels
set_jumps-requires-clause-labels c =
    let lines = c.requires.0 in
    let is = c.requires.1 in
    let few : 0 + slots_in lines ≤ 4096 = let same = is.slots in let few = c.args.self.few in omega (arith, same, few) in
    All-seen (λ p. p.1 ≤ 4096) (λ e. (e.0.now, e.1)) c.args.self.labels.entries (places_from 0 lines) is.labels
    (places_within 4096 0 lines few)

pub set_jumps-requires-clause-jumps : goal.set_jumps-requires-clause-jumps
set_jumps-requires-clause-jumps c =
    let lines = c.requires.0 in
    let is = c.requires.1 in
    let few : 0 + slots_in lines ≤ 4096 = let same = is.slots in let few = c.args.self.few in omega (arith, same, few) in
    let count = length c.as_mut_slice.result.now in
    let all : 0 + length (drafts_of lines) ≤ count =
    let same = ap length is.insns in let value = ap length c.as_mut_slice.ensures.value in omega (arith, same, value) in
    All-seen (IsNear 4096 count) awaited_by c.as_slice.result.now (jumps_from 0 0 1 lines)
    (ap (map awaited_by) c.as_slice.ensures.value ∙ is.jumps) (jumps_within 4096 count 0 0 1 lines few all)

pub returns-in-Ok-clause-ok : goal.returns-in-Ok-clause-ok
returns-in-Ok-clause-ok c = λ lines is clean.
    let places = places_of c.args.self.labels in
    let set =
    (λ i. with_jumps places (map awaited_by (sym c.as_slice.ensures.value i)) (sym c.as_mut_slice.ensures.value i))
    ∙ c.in-Ok.ensures.ok in
    let p =
    passes_all lines places (map awaited_by c.args.self.jumps.items) c.args.self.insns.items (Ok c.set_jumps.new.insns)
    clean is.labels is.jumps is.insns set in
    let some : 0 < slots_in lines = let same = is.slots in let more = c.if-self-eq0.false in omega (arith, same, more) in
    let all =
    take_at c.set_jumps.new.insns (drop (length c.set_jumps.new.insns) c.args.self.insns.items) c.args.self.insns.len
    (c.set_jumps.auto.insns ∙ c.as_mut_slice.ensures.len) in
    (some, subst (AssemblesFrom (places_from 0 lines) 0 lines) (sym p.1 ∙ sym all) p.2)

pub returns-clause-fault : goal.returns-clause-fault
returns-clause-fault c =
    let places = places_of c.args.self.labels in
    let missing : Fails c.args.self (At c.in-Err.line LabelMissing) = λ lines is clean.
    let set =
    (λ i. with_jumps places (map awaited_by (sym c.as_slice.ensures.value i)) (sym c.as_mut_slice.ensures.value i))
    ∙ c.in-Err.ensures.missing in
    let p =
    passes_all lines places (map awaited_by c.args.self.jumps.items) c.args.self.insns.items (Err c.in-Err.line)
    clean is.labels is.jumps is.insns set in
    let some : 0 < slots_in lines = let same = is.slots in let more = c.if-self-eq0.false in omega (arith, same, more) in
    inr (some, first_from_missing lines c.in-Err.line p) in
    subst (Fails c.args.self) (sym c.refusal-in-Err.ensures) missing
