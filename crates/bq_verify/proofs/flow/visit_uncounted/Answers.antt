use Rattle.bq_states.specs.Learnt.{IsLasting}
use Rattle.std.proofs.Common.{rules, ℕ, Bool, Some, ◌≡◌, ◌+◌, ◌<◌, length, arith, refl, sym, ap, subst, ◌∙◌, true, false, inl, inr}
use Rattle.bq_insn.specs.declared.Insn.{Insn}
use Rattle.bq_states.specs.declared.abstract_state.ValueKind.TheVariants.{EntryOrNull}
use Rattle.bq_transfer.specs.After.{After, IsFoundSide}
use Rattle.bq_transfer.specs.Ready.{IsReady}
use Rattle.bq_states.specs.Certainty.{Has, Outlasts}
use Rattle.bq_transfer.specs.Sides.{is_found}
use Rattle.bq_insn.proofs.OptionLemmas.{some_none}
use Rattle.bq_verify.specs.Subjects.{subject_of_view}
use Rattle.bq_verify.proofs.SideLemmas.{transferred_if_no_jump, differ_if_goes_on, differ_if_jumps, has_tested, sure_outlasts_test, lasting_after}
use Rattle.bq_transfer.proofs.CertaintyLemmas.{has_left, not_both}
use mir.Syntax.{w16, w32}
use mir.Val.{SFits}
use Rattle.std.proofs.lemmas.Int.{ints}
use Rattle.std.proofs.lemmas.Bool.{false≢true}
use Rattle.std.proofs.lemmas.Result.{IfOk-weaker, IfErr-weaker, err_from_is_err_and}
use Rattle.bq_insn.specs.Slots.{slots_of}
use Rattle.bq_insn.specs.declared.Insn.TheVariants.{Branch, Goto, Goto32}
use Rattle.bq_bpf.specs.Steps.{LeadsTo, instruction_at}
use Rattle.bq_verify.specs.Edges.{IsEdge}
use Rattle.bq_bpf.specs.Instructions.{Leaves}
use Rattle.bq_verify.proofs.EdgeLemmas.{start_inside}
use Rattle.bq_verify.specs.Control.{IsKnown}
use Rattle.bq_verify.proofs.PassLemmas.{goes_apart, goes_on, goes_there, goes_far}
use Rattle.bq_verify.proofs.flow.visit_uncounted.Goals as goal

pub returns-in_ok-wait-in-Goto-clause-goes : goal.returns-in_ok-wait-in-Goto-clause-goes
returns-in_ok-wait-in-Goto-clause-goes c =
    let distance : c.from.result ≡ c.in-Goto.off = search rules in
    let fits : SFits w16 c.in-Goto.off = search rules in
    let leads : LeadsTo c.args.slot c.in-Goto.off c.target-to.result = omega (arith, ints, c.target-to.ensures.to) in
    let here : instruction_at c.args.subject.now.slots.now c.args.slot ≡ Some (Goto c.in-Goto.off) = rw c.in-Goto.is at c.requires.here in
    goes_there (subject_of_view c.args.subject.now) c.args.slot c.args.state.now
    (IsKnown c.wait.new.pending c.args.state.now false (c.args.slot + 1)) c.in-Goto.off c.target-to.result here leads
    (λ f s shapes at contains. inl (c.in_ok-wait-in-Goto.ensures.added f s shapes at contains))

pub returns-in_ok-wait-in-Goto32-clause-goes : goal.returns-in_ok-wait-in-Goto32-clause-goes
returns-in_ok-wait-in-Goto32-clause-goes c =
    let distance : c.from-in-Goto32.result ≡ c.in-Goto32.imm = search rules in
    let fits : SFits w32 c.in-Goto32.imm = search rules in
    let leads : LeadsTo c.args.slot c.in-Goto32.imm c.target-to-in-Goto32.result = omega (arith, ints, c.target-to-in-Goto32.ensures.to) in
    let here : instruction_at c.args.subject.now.slots.now c.args.slot ≡ Some (Goto32 c.in-Goto32.imm) =
    rw c.in-Goto32.is at c.requires.here in
    goes_far (subject_of_view c.args.subject.now) c.args.slot c.args.state.now
    (IsKnown c.wait-in-Goto32.new.pending c.args.state.now false (c.args.slot + 1)) c.in-Goto32.imm c.target-to-in-Goto32.result
    here leads (λ f s shapes at contains. inl (c.in_ok-wait-in-Goto32.ensures.added f s shapes at contains))

pub wait-requires-in_default : goal.wait-requires-in_default
wait-requires-in_default c =
    let edge : IsEdge c.args.subject.now.slots.now c.args.slot (c.args.slot + slots_of c.args.insn) =
    record { insn = c.args.insn; here = c.requires.here; leaves = c.in_ok-transfer-in_default.ensures.straight c.args.slot } in
    let inside : c.args.slot + slots_of c.args.insn < length c.args.subject.now.slots.now =
    start_inside c.args.subject.now.slots.now _
    (c.requires.passable.sound.forward c.args.slot (c.args.slot + slots_of c.args.insn) edge).1 in
    record { here = rw (c.slots-count.ensures, c.requires.room) inside }

pub returns-in_ok-wait-in_default : goal.returns-in_ok-wait-in_default
returns-in_ok-wait-in_default c = record {
  long = search rules;
  kept = c.in_ok-wait-in_default.ensures.kept;
  goes =
      goes_on (subject_of_view c.args.subject.now) c.args.slot c.args.state.now
      (IsKnown c.wait-in_default.new.pending c.transfer.new.state false (c.args.slot + 1)) c.args.insn c.transfer.new.state
      c.requires.here c.in_ok-transfer-in_default.ensures.straight c.in_ok-transfer-in_default.ensures.transfers
      (λ f s shapes at contains. inl (c.in_ok-wait-in_default.ensures.added f s shapes (rw c.slots-count.ensures at) contains));
  obligations = tt;
  accepts = λ ready. tt;
  sure = λ ready x k waits after.
      record {
        waiting =
            c.in_ok-wait-in_default.ensures.has x k waits (λ same.
            (c.in_ok-transfer-in_default.ensures.accepts ready).1 x c.args.slot k
            (after (record {
              insn = c.args.insn;
              here = c.requires.here;
              leaves =
                  subst (λ (n : ℕ). Leaves c.args.insn c.args.slot n)
                  (sym (same ∙ ap (λ (n : ℕ). c.args.slot + n) c.slots-count.ensures))
                  (c.in_ok-transfer-in_default.ensures.straight c.args.slot);
            })));
        transferred = λ live. absurd (false≢true live);
      };
}

pub returns-in-Branch-clause-goes : goal.returns-in-Branch-clause-goes
returns-in-Branch-clause-goes c =
    let distance : c.from-in-Branch.result ≡ c.in-Branch.off = search rules in
    let fits : SFits w16 c.in-Branch.off = search rules in
    let leads : LeadsTo c.args.slot c.in-Branch.off c.target-to-in-Branch.result = omega (arith, ints, c.target-to-in-Branch.ensures.to) in
    let here : instruction_at c.args.subject.now.slots.now c.args.slot
    ≡ Some (Branch c.in-Branch.width c.in-Branch.cond c.in-Branch.dst c.in-Branch.src c.in-Branch.off) =
    rw c.in-Branch.is at c.requires.here in
    IfOk-weaker c.branch-alloc.result _ _
    (λ live parts.
    goes_apart (subject_of_view c.args.subject.now) c.args.slot c.args.state.now
    (IsKnown c.branch-alloc.new.pending c.branch-alloc.new.state live (c.args.slot + 1)) c.in-Branch.width c.in-Branch.cond
    c.in-Branch.dst c.in-Branch.src c.in-Branch.off c.target-to-in-Branch.result here leads parts)
    c.branch-alloc.ensures.parts

pub returns-then-count-eq1 : goal.returns-then-count-eq1
returns-then-count-eq1 c = record {
  long = search rules;
  kept = λ f s shapes waits. waits;
  goes =
      goes_on (subject_of_view c.args.subject.now) c.args.slot c.args.state.now
      (IsKnown c.args.pending.now c.transfer.new.state true (c.args.slot + 1)) c.args.insn c.transfer.new.state
      c.requires.here c.in_ok-transfer-in_default.ensures.straight c.in_ok-transfer-in_default.ensures.transfers
      (λ f s shapes at contains. inr (refl, at ∙ ap (λ (n : ℕ). c.args.slot + n) one, contains));
  obligations = tt;
  accepts = λ ready. tt;
  sure = λ ready x k waits after.
      record {
        waiting = waits;
        transferred = λ live same.
            (c.in_ok-transfer-in_default.ensures.accepts ready).1 x c.args.slot k
            (after (record {
              insn = c.args.insn;
              here = c.requires.here;
              leaves =
                  subst (λ (n : ℕ). Leaves c.args.insn c.args.slot n) (sym (same ∙ ap (λ (n : ℕ). c.args.slot + n) (sym one)))
                  (c.in_ok-transfer-in_default.ensures.straight c.args.slot);
            }));
      };
}
  where
    one : slots_of c.args.insn ≡ 1
    one = omega (arith, c.slots-count.ensures)

pub returns-in_ok-wait-in-Goto-clause-sure : goal.returns-in_ok-wait-in-Goto-clause-sure
returns-in_ok-wait-in-Goto-clause-sure c = λ ready x k waits after.
    let distance : c.from.result ≡ c.in-Goto.off = search rules in
    let fits : SFits w16 c.in-Goto.off = search rules in
    let leads : LeadsTo c.args.slot c.in-Goto.off c.target-to.result = omega (arith, ints, c.target-to.ensures.to) in
    let here : instruction_at c.args.subject.now.slots.now c.args.slot ≡ Some (Goto c.in-Goto.off) = rw c.in-Goto.is at c.requires.here in
    let edge : IsEdge c.args.subject.now.slots.now c.args.slot c.target-to.result =
    record { insn = Goto c.in-Goto.off; here = here; leaves = inr (c.in-Goto.off, refl, leads) } in
    record {
      waiting =
          c.in_ok-wait-in-Goto.ensures.has x k waits (λ same.
          has_left x c.args.slot k (Goto c.in-Goto.off) c.args.state.now (λ r gives. some_none _ _ gives refl)
          (λ n r gives. gives) (λ kind o r gives. gives) (λ i stores. stores)
          (subst (λ (i : Insn). After x c.args.slot k i c.args.state.now) c.in-Goto.is
          (after (subst (λ (n : ℕ). IsEdge c.args.subject.now.slots.now c.args.slot n) (sym same) edge))));
      transferred = λ live. absurd (false≢true live);
    }

pub returns-in_ok-wait-in-Goto32-clause-sure : goal.returns-in_ok-wait-in-Goto32-clause-sure
returns-in_ok-wait-in-Goto32-clause-sure c = λ ready x k waits after.
    let distance : c.from-in-Goto32.result ≡ c.in-Goto32.imm = search rules in
    let fits : SFits w32 c.in-Goto32.imm = search rules in
    let leads : LeadsTo c.args.slot c.in-Goto32.imm c.target-to-in-Goto32.result = omega (arith, ints, c.target-to-in-Goto32.ensures.to) in
    let here : instruction_at c.args.subject.now.slots.now c.args.slot ≡ Some (Goto32 c.in-Goto32.imm) =
    rw c.in-Goto32.is at c.requires.here in
    let edge : IsEdge c.args.subject.now.slots.now c.args.slot c.target-to-in-Goto32.result =
    record { insn = Goto32 c.in-Goto32.imm; here = here; leaves = inr (c.in-Goto32.imm, refl, leads) } in
    record {
      waiting =
          c.in_ok-wait-in-Goto32.ensures.has x k waits (λ same.
          has_left x c.args.slot k (Goto32 c.in-Goto32.imm) c.args.state.now (λ r gives. some_none _ _ gives refl)
          (λ n r gives. gives) (λ kind o r gives. gives) (λ i stores. stores)
          (subst (λ (i : Insn). After x c.args.slot k i c.args.state.now) c.in-Goto32.is
          (after (subst (λ (n : ℕ). IsEdge c.args.subject.now.slots.now c.args.slot n) (sym same) edge))));
      transferred = λ live. absurd (false≢true live);
    }

pub returns-in-Branch-clause-sure : goal.returns-in-Branch-clause-sure
returns-in-Branch-clause-sure c = λ ready.
    let distance : c.from-in-Branch.result ≡ c.in-Branch.off = search rules in
    let fits : SFits w16 c.in-Branch.off = search rules in
    let leads : LeadsTo c.args.slot c.in-Branch.off c.target-to-in-Branch.result = omega (arith, ints, c.target-to-in-Branch.ensures.to) in
    let insn : Insn = Branch c.in-Branch.width c.in-Branch.cond c.in-Branch.dst c.in-Branch.src c.in-Branch.off in
    let here : instruction_at c.args.subject.now.slots.now c.args.slot ≡ Some insn = rw c.in-Branch.is at c.requires.here in
    let there : IsEdge c.args.subject.now.slots.now c.args.slot c.target-to-in-Branch.result =
    record { insn = insn; here = here; leaves = inr (c.in-Branch.off, refl, leads) } in
    let next : IsEdge c.args.subject.now.slots.now c.args.slot (c.args.slot + 1) =
    record { insn = insn; here = here; leaves = inl (refl, refl) } in
    let needs =
    subst (λ (i : Insn). IsReady c.args.subject.now.shapes.now c.args.subject.now.context c.args.state.now i)
    c.in-Branch.is ready in
    elim needs.1 [
      | inl numbers ↦
          IfOk-weaker c.branch-alloc.result _ _
          (λ live sure x k waits after.
          let left = λ (edge : IsEdge c.args.subject.now.slots.now c.args.slot k).
          let after' = subst (λ (i : Insn). After x c.args.slot k i c.args.state.now) c.in-Branch.is (after edge) in
          let on : Outlasts x c.in-Branch.dst × IsLasting x × Has x c.args.state.now = (
            sure_outlasts_test x c.args.slot k c.in-Branch.width c.in-Branch.cond c.in-Branch.dst c.in-Branch.src
                c.in-Branch.off c.args.state.now after',
            lasting_after x c.args.slot k c.in-Branch.width c.in-Branch.cond c.in-Branch.dst c.in-Branch.src
                c.in-Branch.off c.args.state.now after',
            has_left x c.args.slot k insn c.args.state.now (λ r gives. some_none _ _ gives refl) (λ n r gives. gives)
                (λ kind o r gives. not_both _ (EntryOrNull gives.1) 0 numbers.0 gives.4) (λ i stores. stores) after',
          ) in
          on in
          sure x k waits
          (λ same. left (subst (λ (n : ℕ). IsEdge c.args.subject.now.slots.now c.args.slot n) (sym same) there))
          (λ same. left (subst (λ (n : ℕ). IsEdge c.args.subject.now.slots.now c.args.slot n) (sym same) next)))
          (c.branch-alloc.ensures.number_test_known numbers.0 numbers.1)
      | inr check ↦
          IfOk-weaker c.branch-alloc.result _ _
          (λ live sure x k waits after.
          let tested =
          λ (found : Bool) (edge : IsEdge c.args.subject.now.slots.now c.args.slot k)
          (side : IsFoundSide c.in-Branch.cond c.in-Branch.off c.args.slot k → found ≡ true).
          has_tested x c.args.slot k c.in-Branch.width c.in-Branch.cond c.in-Branch.dst
          c.in-Branch.src c.in-Branch.off check.1 found c.args.state.now check.2 side
          (subst (λ (i : Insn). After x c.args.slot k i c.args.state.now) c.in-Branch.is (after edge)) in
          sure check.1 (check.0, check.2) x k waits
          (λ same.
          let at = subst (λ (n : ℕ). LeadsTo c.args.slot c.in-Branch.off n) (sym same) leads in
          tested (is_found c.in-Branch.cond true)
          (subst (λ (n : ℕ). IsEdge c.args.subject.now.slots.now c.args.slot n) (sym same) there)
          (differ_if_jumps c.in-Branch.cond c.in-Branch.off c.args.slot k at)) (λ same.
          tested (is_found c.in-Branch.cond false)
          (subst (λ (n : ℕ). IsEdge c.args.subject.now.slots.now c.args.slot n) (sym same) next)
          (differ_if_goes_on c.in-Branch.cond c.in-Branch.off c.args.slot k same))) c.branch-alloc.ensures.null_check_known
    ]

pub returns-in-Branch-clause-accepts : goal.returns-in-Branch-clause-accepts
returns-in-Branch-clause-accepts c = λ ready.
    let needs =
    subst (λ (i : Insn). IsReady c.args.subject.now.shapes.now c.args.subject.now.context c.args.state.now i)
    c.in-Branch.is ready in
    elim needs.1 [
      | inl numbers ↦ c.branch-alloc.ensures.number_test_accepted needs.0 numbers.0 numbers.1
      | inr check ↦ c.branch-alloc.ensures.null_check_accepted check.1 needs.0 (check.0, check.2)
    ]

pub transfer-requires-clause-transferred : goal.transfer-requires-clause-transferred
transfer-requires-clause-transferred c =
    transferred_if_no_jump c.args.insn c.in_default.not-Exit c.in_default.not-Goto c.in_default.not-Goto32
    c.in_default.not-Branch

pub returns-in_err-visit_exit-in-Exit-clause-obligations : goal.returns-in_err-visit_exit-in-Exit-clause-obligations
returns-in_err-visit_exit-in-Exit-clause-obligations c =
    let error = err_from_is_err_and c.from_residual.result c.from_residual.ensures.1 in
    rw (error.1, error.2, c.in-Exit.is) c.in_err-visit_exit-in-Exit.ensures.obligations

pub returns-in_err-visit_exit-in-Exit-clause-accepts : goal.returns-in_err-visit_exit-in-Exit-clause-accepts
returns-in_err-visit_exit-in-Exit-clause-accepts c = λ ready.
    absurd (false≢true (c.in_err-visit_exit-in-Exit.ensures.accepts
    (subst (λ (i : Insn). IsReady c.args.subject.now.shapes.now c.args.subject.now.context c.args.state.now i) c.in-Exit.is ready)))

pub returns-in_err-transfer-in_default-clause-obligations : goal.returns-in_err-transfer-in_default-clause-obligations
returns-in_err-transfer-in_default-clause-obligations c =
    let error =
    err_from_is_err_and c.from_residual-in_err-transfer-in_default.result
    c.from_residual-in_err-transfer-in_default.ensures.1 in
    rw (error.1, error.2) c.in_err-transfer-in_default.ensures.obligations

pub returns-in_err-transfer-in_default-clause-accepts : goal.returns-in_err-transfer-in_default-clause-accepts
returns-in_err-transfer-in_default-clause-accepts c = λ ready. absurd (false≢true (c.in_err-transfer-in_default.ensures.accepts ready).0)

pub returns-in_err-wait-in-Goto-clause-obligations : goal.returns-in_err-wait-in-Goto-clause-obligations
returns-in_err-wait-in-Goto-clause-obligations c =
    let error = err_from_is_err_and c.from_residual-in_err-wait-in-Goto.result c.from_residual-in_err-wait-in-Goto.ensures.1 in
    rw (error.1, error.2) tt

pub returns-in_err-wait-in-Goto-clause-accepts : goal.returns-in_err-wait-in-Goto-clause-accepts
returns-in_err-wait-in-Goto-clause-accepts c = λ ready.
    let error = err_from_is_err_and c.from_residual-in_err-wait-in-Goto.result c.from_residual-in_err-wait-in-Goto.ensures.1 in
    rw (error.1, error.2) refl

pub returns-in_err-wait-in-Goto32-clause-obligations : goal.returns-in_err-wait-in-Goto32-clause-obligations
returns-in_err-wait-in-Goto32-clause-obligations c =
    let error = err_from_is_err_and c.from_residual-in_err-wait-in-Goto32.result c.from_residual-in_err-wait-in-Goto32.ensures.1 in
    rw (error.1, error.2) tt

pub returns-in_err-wait-in-Goto32-clause-accepts : goal.returns-in_err-wait-in-Goto32-clause-accepts
returns-in_err-wait-in-Goto32-clause-accepts c = λ ready.
    let error = err_from_is_err_and c.from_residual-in_err-wait-in-Goto32.result c.from_residual-in_err-wait-in-Goto32.ensures.1 in
    rw (error.1, error.2) refl

pub returns-in-Branch-clause-obligations : goal.returns-in-Branch-clause-obligations
returns-in-Branch-clause-obligations c =
    rw c.in-Branch.is (IfErr-weaker c.branch-alloc.result _ _
    (λ stop obligations. obligations (Branch c.in-Branch.width c.in-Branch.cond c.in-Branch.dst c.in-Branch.src c.in-Branch.off) tt tt)
    c.branch-alloc.ensures.obligations)

pub returns-in_ok-visit_exit-in-Exit-clause-goes : goal.returns-in_ok-visit_exit-in-Exit-clause-goes
returns-in_ok-visit_exit-in-Exit-clause-goes c = λ f s setting same contains.
    let got = c.in_ok-visit_exit-in-Exit.ensures.answers f s contains in
    inl (got.0, record { here = rw (setting.slots_are, same) (rw c.in-Exit.is at c.requires.here); answer_is = got.1; maps_are = refl })
