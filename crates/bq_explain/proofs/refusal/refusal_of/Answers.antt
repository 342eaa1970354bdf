use Rattle.std.proofs.Common.{◌≡◌, ◌∙◌, List, Option, ap, sym, subst}
use Rattle.bq_insn.specs.declared.Insn.{Insn}
use Rattle.bq_insn.specs.Slots.{spread}
use Rattle.bq_verify.specs.Edges.{IsStart}
use Rattle.bq_verify.proofs.EdgeLemmas.{start_inside}
use Rattle.bq_policy_file.specs.Subjects.{subject_in}
use Rattle.bq_explain.specs.Explained.{IsOfState, IsPlaceOfSlot}
use Rattle.bq_explain.proofs.ExplainLemmas.{refused_here, refused_faultless, refusal_of_graph, refusal_of_state}
use Rattle.bq_explain.proofs.refusal.refusal_of.Goals as goal

pub unreachable-requires : goal.unreachable-requires
unreachable-requires c =
    let same : c.as_slice-2.result.now ≡ spread c.args.policy.now.insns.items =
    c.as_slice-2.ensures.value ∙ c.in_ok-slots.ensures ∙ ap spread c.as_slice.ensures.value in
    c.in_default.ensures.none (subst (λ (s : List (Option Insn)). IsStart s c.args.slot) (sym same)
    (refused_here (subject_in c.args.policy.now) c.args.slot c.args.cause c.requires.refusal))

pub state_refusal-requires-clause-slots : goal.state_refusal-requires-clause-slots
state_refusal-requires-clause-slots c = c.as_slice-in-State.ensures.value ∙ c.in_ok-slots.ensures ∙ ap spread c.as_slice.ensures.value

pub state_refusal-requires-clause-faultless : goal.state_refusal-requires-clause-faultless
state_refusal-requires-clause-faultless c =
    refused_faultless (subject_in c.args.policy.now) c.args.slot c.args.cause c.requires.refusal (subst IsOfState (sym c.in-State.is) tt)

pub state_refusal-requires-clause-inside : goal.state_refusal-requires-clause-inside
state_refusal-requires-clause-inside c =
    let same : c.as_slice-in-State.result.now ≡ spread c.args.policy.now.insns.items =
    c.as_slice-in-State.ensures.value ∙ c.in_ok-slots.ensures ∙ ap spread c.as_slice.ensures.value in
    let inside =
    start_inside (spread c.args.policy.now.insns.items) c.args.slot
    (refused_here (subject_in c.args.policy.now) c.args.slot c.args.cause c.requires.refusal) in
    rw (same, c.in-Some.ensures.place.slot_is) inside

pub state_refusal-requires-clause-of_state : goal.state_refusal-requires-clause-of_state
state_refusal-requires-clause-of_state c = subst IsOfState (sym c.in-State.is) tt

pub returns-in-Graph : goal.returns-in-Graph
returns-in-Graph c =
    let same : c.as_slice-2.result.now ≡ spread c.args.policy.now.insns.items =
    c.as_slice-2.ensures.value ∙ c.in_ok-slots.ensures ∙ ap spread c.as_slice.ensures.value in
    rw c.in-Graph.is (refusal_of_graph c.args.policy.now c.args.slot c.in-Graph.named c.in-Some.place c.graph_refusal.result
    (subst (λ (s : List (Option Insn)). IsPlaceOfSlot s c.args.slot c.in-Some.place) same c.in-Some.ensures.place)
    c.graph_refusal.ensures.place c.graph_refusal.ensures.cause c.graph_refusal.ensures.finds c.graph_refusal.ensures.made)

pub returns : goal.returns
returns c =
    let same : c.as_slice-2.result.now ≡ spread c.args.policy.now.insns.items =
    c.as_slice-2.ensures.value ∙ c.in_ok-slots.ensures ∙ ap spread c.as_slice.ensures.value in
    let there : c.as_slice-in-State.result.now ≡ spread c.args.policy.now.insns.items =
    c.as_slice-in-State.ensures.value ∙ c.in_ok-slots.ensures ∙ ap spread c.as_slice.ensures.value in
    refusal_of_state c.args.policy.now c.args.slot c.args.cause
    c.as_slice-in-State.result.now there c.in-Some.place c.state_refusal.result
    (subst (λ (s : List (Option Insn)). IsPlaceOfSlot s c.args.slot c.in-Some.place) same c.in-Some.ensures.place)
    c.state_refusal.ensures.place c.state_refusal.ensures.cause c.state_refusal.ensures.finds c.state_refusal.ensures.made
