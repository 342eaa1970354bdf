use Rattle.std.proofs.Common.{◌≡◌, refl, arith, rules}
use Rattle.std.proofs.lemmas.Bool.{false≢true}
use Rattle.bq_bpf.specs.Meaning.{word_of}
use Rattle.bq_states.specs.declared.abstract_state.AbstractValue.{AbstractValue}
use Rattle.bq_states.specs.declared.abstract_state.ValueKind.TheVariants.{Number}
use Rattle.bq_states.proofs.WordLemmas.{describes_number}
use Rattle.bq_transfer.proofs.WriteLemmas.{carries_imm}
use Rattle.bq_transfer.proofs.stores.store_imm.Goals as goal

pub returns-clause-transfers : goal.returns-clause-transfers
returns-clause-transfers c =
    let word : AbstractValue = record { kind = Number; offset = c.single.result } in
    let is : c.word_of_imm.result ≡ word_of c.args.imm = search rules in
    carries_imm c.args.shapes.now c.args.context c.args.access.base c.args.access.off c.args.imm c.args.access.size word
    c.args.state.now c.store.new.state c.in_ok-store.field-0
    (λ f. describes_number f.shapes c.single.result (word_of c.args.imm)
    (omega (arith, is, c.single.ensures.lo), omega (arith, is, c.single.ensures.hi))) c.in_ok-store.ensures.stores

pub returns-in_err-store-clause-accepts : goal.returns-in_err-store-clause-accepts
returns-in_err-store-clause-accepts c = λ place placed.
    absurd (false≢true ((c.in_err-store.ensures.accepts refl place placed).0))

pub returns-clause-accepts : goal.returns-clause-accepts
returns-clause-accepts c = λ place placed.
    (refl, (c.in_ok-store.ensures.accepts refl place placed).1)

pub returns-in_err-store-clause-entry : goal.returns-in_err-store-clause-entry
returns-in_err-store-clause-entry c = λ map place placed.
    absurd (false≢true ((c.in_err-store.ensures.entry refl map place placed).0))

pub returns-clause-entry : goal.returns-clause-entry
returns-clause-entry c = λ map place placed.
    (refl, (c.in_ok-store.ensures.entry refl map place placed).1)
