use Rattle.std.proofs.Common.{◌∙◌, sym, ap, subst, append-nil, ◌∷◌, []}
use Rattle.std.specs.Option.{option_to_list}
use Rattle.bq_insn.specs.Spelling.{slot_bytes}
use Rattle.bq_insn.proofs.EncodeLemmas.{FitRegisters, slots_fit, one_appended, two_appended, on_err}
use Rattle.bq_insn.proofs.encode.append.Goals as goal

pub append_to-requires-clause-dst : goal.append_to-requires-clause-dst
append_to-requires-clause-dst c = (slots_fit c.args.insn c.slots_of-second.result c.requires c.slots_of-second.ensures).0

pub append_to-requires-clause-src : goal.append_to-requires-clause-src
append_to-requires-clause-src c = (slots_fit c.args.insn c.slots_of-second.result c.requires c.slots_of-second.ensures).1

pub returns-in_err-append_to-clause-err : goal.returns-in_err-append_to-clause-err
returns-in_err-append_to-clause-err c =
    on_err c.from_residual.result ([], c.in_err-append_to.ensures.err ∙ sym (append-nil c.args.out.now.items))

pub append_to-requires-in-Some-clause-dst : goal.append_to-requires-in-Some-clause-dst
append_to-requires-in-Some-clause-dst c =
    let fit = slots_fit c.args.insn c.slots_of-second.result c.requires c.slots_of-second.ensures in
    (subst (λ o. FitRegisters (option_to_list o)) c.in-Some.is fit.2).0

pub append_to-requires-in-Some-clause-src : goal.append_to-requires-in-Some-clause-src
append_to-requires-in-Some-clause-src c =
    let fit = slots_fit c.args.insn c.slots_of-second.result c.requires c.slots_of-second.ensures in
    (subst (λ o. FitRegisters (option_to_list o)) c.in-Some.is fit.2).1

pub returns-in_err-append_to-2-clause-err : goal.returns-in_err-append_to-2-clause-err
returns-in_err-append_to-2-clause-err c =
    on_err c.from_residual-in_err-append_to-2.result
    (slot_bytes c.slots_of-second.result.0, c.in_err-append_to-2.ensures.err ∙ c.in_ok-append_to.ensures.ok)

pub returns-in_ok-append_to-2-clause-ok : goal.returns-in_ok-append_to-2-clause-ok
returns-in_ok-append_to-2-clause-ok c =
    two_appended c.args.out.now.items c.append_to.new.out.items _ c.args.insn c.slots_of-second.result.0
    c.in-Some.second c.in_ok-append_to.ensures.ok c.in_ok-append_to-2.ensures.ok
    (c.slots_of-second.ensures ∙ ap (λ o. c.slots_of-second.result.0 ∷ option_to_list o) c.in-Some.is)

pub returns-in_default-clause-ok : goal.returns-in_default-clause-ok
returns-in_default-clause-ok c =
    one_appended c.args.out.now.items _ c.args.insn c.slots_of-second.result.0 c.in_ok-append_to.ensures.ok
    (c.slots_of-second.ensures ∙ ap (λ o. c.slots_of-second.result.0 ∷ option_to_list o) c.in_default.is)
