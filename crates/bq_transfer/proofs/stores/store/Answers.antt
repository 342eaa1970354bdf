use Rattle.std.proofs.Common.{refl}
use Rattle.std.proofs.lemmas.Bool.{false≢true}
use Rattle.bq_states.specs.declared.abstract_state.ValueKind.TheVariants.{Entry, Stack}
use Rattle.bq_transfer.proofs.PlaceLemmas.{stack_inside, stack_or_entry}
use Rattle.bq_transfer.proofs.WriteLemmas.{stores_if_ok, stores_in_entry}
use Rattle.bq_transfer.proofs.stores.store.Goals as goal

pub returns-in-Stack-clause-stores : goal.returns-in-Stack-clause-stores
returns-in-Stack-clause-stores c =
    stores_if_ok c.args.shapes.now c.args.context c.args.access.base c.args.access.off c.args.access.size c.args.word
    c.in_ok-found.found.at c.in_ok-found.found.kind c.args.state.now c.store_on_stack.new.state c.store_on_stack.result
    c.store_on_stack.ensures.slot c.in-Stack.is c.in_ok-found.ensures.finds c.store_on_stack.ensures.contains

pub returns-else-ne-clause-stores : goal.returns-else-ne-clause-stores
returns-else-ne-clause-stores c =
    stores_in_entry c.args.shapes.now c.args.context c.args.access.base c.args.access.off c.args.access.size c.args.word
    c.in_ok-found.found.at c.in_ok-found.found.kind _ c.args.state.now c.in-Entry.is c.in_ok-found.ensures.finds

pub returns-in_err-found-clause-accepts : goal.returns-in_err-found-clause-accepts
returns-in_err-found-clause-accepts c = λ number place placed.
    absurd (false≢true (c.in_err-found.ensures.accepts Stack place placed))

pub returns-in-Stack-clause-accepts : goal.returns-in-Stack-clause-accepts
returns-in-Stack-clause-accepts c = λ number place placed.
    let there = c.in_ok-found.ensures.there Stack place placed in
    let inside =
    stack_inside c.args.shapes.now c.args.context c.args.state.now c.args.access.size c.args.access.base
    c.args.access.off Stack place refl placed in
    c.store_on_stack.ensures.accepts number place there.1 there.2 inside

pub returns-else-ne-clause-accepts : goal.returns-else-ne-clause-accepts
returns-else-ne-clause-accepts c = λ number place placed.
    let there = c.in_ok-found.ensures.there Stack place placed in
    absurd (stack_or_entry c.in_ok-found.found.kind _ there.0 c.in-Entry.is)

pub returns-in_default : goal.returns-in_default
returns-in_default c = record {
  stores = tt;
  inside = tt;
  obligations = λ insn access reads uses. access;
  accepts = λ number place placed.
      let there = c.in_ok-found.ensures.there Stack place placed in
      absurd (c.in_default.not-Stack there.0);
  entry = λ number map place placed.
      let there = c.in_ok-found.ensures.there (Entry map) place placed in
      absurd (c.in_default.not-Entry map there.0);
}

pub returns-in_err-found-clause-entry : goal.returns-in_err-found-clause-entry
returns-in_err-found-clause-entry c = λ number map place placed.
    absurd (false≢true (c.in_err-found.ensures.accepts (Entry map) place placed))

pub returns-in-Stack-clause-entry : goal.returns-in-Stack-clause-entry
returns-in-Stack-clause-entry c = λ number map place placed.
    let there = c.in_ok-found.ensures.there (Entry map) place placed in
    absurd (stack_or_entry c.in_ok-found.found.kind map c.in-Stack.is there.0)

pub returns-else-ne-clause-obligations : goal.returns-else-ne-clause-obligations
returns-else-ne-clause-obligations c = tt

pub returns-else-ne-clause-inside : goal.returns-else-ne-clause-inside
returns-else-ne-clause-inside c = tt

pub returns-then-ne-clause-accepts : goal.returns-then-ne-clause-accepts
returns-then-ne-clause-accepts c = λ number place placed.
    let there = c.in_ok-found.ensures.there Stack place placed in
    absurd (stack_or_entry c.in_ok-found.found.kind _ there.0 c.in-Entry.is)

pub returns-then-ne-clause-stores : goal.returns-then-ne-clause-stores
returns-then-ne-clause-stores c = tt

pub returns-then-ne-clause-inside : goal.returns-then-ne-clause-inside
returns-then-ne-clause-inside c = tt

pub returns-else-ne-clause-entry : goal.returns-else-ne-clause-entry
returns-else-ne-clause-entry c = λ number map place placed. (refl, refl, refl)
