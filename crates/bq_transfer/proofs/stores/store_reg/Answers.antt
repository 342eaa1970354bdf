use Rattle.std.proofs.Common.{◌≡◌, ℕ, List, Option, refl, sym, subst}
use Rattle.std.proofs.lemmas.Bool.{false≢true}
use Rattle.bq_states.specs.declared.abstract_state.ValueKind.TheVariants.{Number}
use Rattle.bq_states.specs.declared.abstract_state.AbstractValue.{AbstractValue}
use Rattle.bq_states.specs.declared.relations.Related.{Related}
use Rattle.bq_states.specs.Certainty.{Scalar, CertaintyHolds}
use Rattle.bq_states.proofs.LearnLemmas.{found_at}
use Rattle.bq_transfer.proofs.WriteLemmas.{carries_reg}
use Rattle.bq_transfer.proofs.stores.store_reg.Goals as goal

pub returns-clause-transfers : goal.returns-clause-transfers
returns-clause-transfers c =
    carries_reg c.args.shapes.now c.args.context c.args.access.base c.args.src c.args.access.off c.args.access.size
    c.in-Some.word c.args.state.now c.store.new.state c.in_ok-slot.slot c.link_slot.new.classes c.link_slot.new.related
    (λ f s contains. found_at f c.args.state.now s c.args.src c.in-Some.word c.in-Some.ensures contains)
    c.in_ok-slot.ensures.stores c.link_slot.ensures.copies

pub returns-in_err-slot-clause-accepts : goal.returns-in_err-slot-clause-accepts
returns-in_err-slot-clause-accepts c = λ scalar place placed.
    let number : c.in-Some.word.kind ≡ Number =
    subst (λ (v : Option AbstractValue). CertaintyHolds Scalar v) (sym c.in-Some.ensures) scalar in
    absurd (false≢true ((c.in_err-slot.ensures.accepts number place placed).0))

pub returns-clause-accepts : goal.returns-clause-accepts
returns-clause-accepts c = λ scalar place placed.
    let number : c.in-Some.word.kind ≡ Number =
    subst (λ (v : Option AbstractValue). CertaintyHolds Scalar v) (sym c.in-Some.ensures) scalar in
    let stored = (c.in_ok-slot.ensures.accepts number place placed).1 in
    (refl, record { registers_same = stored.registers_same; stored = stored.stored; set = stored.set; plain = stored.plain })

pub returns-in_err-slot-clause-entry : goal.returns-in_err-slot-clause-entry
returns-in_err-slot-clause-entry c = λ scalar map place placed.
    let number : c.in-Some.word.kind ≡ Number =
    subst (λ (v : Option AbstractValue). CertaintyHolds Scalar v) (sym c.in-Some.ensures) scalar in
    absurd (false≢true ((c.in_err-slot.ensures.entry number map place placed).0))

pub returns-clause-entry : goal.returns-clause-entry
returns-clause-entry c = λ scalar map place placed.
    let number : c.in-Some.word.kind ≡ Number =
    subst (λ (v : Option AbstractValue). CertaintyHolds Scalar v) (sym c.in-Some.ensures) scalar in
    let unchanged = c.in_ok-slot.ensures.entry number map place placed in (
      refl,
      subst (λ (classes : List ℕ). record c.store.new.state { classes = classes; related = c.link_slot.new.related } ≡ c.args.state.now)
          (sym (c.link_slot.ensures.none unchanged.2))
          (subst (λ (related : List (Option Related)). record c.store.new.state { related = related } ≡ c.args.state.now)
          (sym (c.link_slot.ensures.unrelated unchanged.2)) unchanged.1),
    )
