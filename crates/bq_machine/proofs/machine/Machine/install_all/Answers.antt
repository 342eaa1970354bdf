use Rattle.std.proofs.Common.{◌≡◌, ◌∷◌, ◌++◌, ◌<◌, ◌+◌, ◌-◌, [], List, length, slice_index_or, vec_len, append_assoc, ap, sym, ◌∙◌, arith, rules, subst, ℕ}
use Rattle.std.specs.Prelude.{unwrap_or}
use Rattle.std.proofs.lemmas.List.Elements.{All-take}
use Rattle.bq_history.specs.declared.shared_state.Receipt.{Receipt}
use Rattle.bq_parts.specs.declared.event.Event.TheVariants.{Install}
use Rattle.bq_shared.specs.declared.record.Record.{Record}
use Rattle.bq_machine.specs.Calls.{AreInstalls}
use Rattle.bq_machine.proofs.InstallLemmas.{installs_more}
use Rattle.bq_machine.proofs.machine.Machine.install_all.Goals as goal

pub push_receipt-requires : goal.push_receipt-requires
push_receipt-requires g c = omega (
  arith,
  c.installs-test.true,
  c.len-number-end.ensures,
  c.args.self.now.counted,
  c.installs.invariant.made,
  c.installs.invariant.room,
)

pub installs-preserved : goal.installs-preserved
installs-preserved g c =
    let at = c.installs in
    let was = at.invariant in
    let x = c.install-receipt.result in
    let start = c.args.working.now.caller in
    let called = rw was.caller at c.install-receipt.ensures.caller in
    let d = c.in-Some.prepared in
    let many = vec_len at.prepared_installs in
    let full : 0 < many = omega (arith, was.left, c.installs-test.true, c.len-number-end.ensures, c.args.self.now.counted) in
    let there : many - 1 < length at.prepared_installs.items = omega (arith, full, at.prepared_installs.ok.0) in
    let last : d ≡ slice_index_or at.prepared_installs.items (many - 1) d = ap (λ o. unwrap_or o d) (sym c.in-Some.is ∙ c.pop.ensures.value d full) in
    let of : d.installed.policy ≡ c.args.loading.policy.now = ap (λ s. s.installed.policy) last ∙ was.same (many - 1) d there in
    let event = rw of at c.install-receipt.ensures.event in
    let zero : at.number ≡ 0 + at.number = omega arith in
    let next : x.entry.event ≡ Install (0 + at.number) c.args.loading.hook c.args.loading.generation c.args.loading.policy.now =
    subst (λ (k : ℕ). x.entry.event ≡ Install k c.args.loading.hook c.args.loading.generation c.args.loading.policy.now) zero event in
    record {
      caller =
          called ∙ ap (λ (l : List (Receipt Record)). (start.0, l))
          (append_assoc start.1 at.installs.items (x ∷ []) ∙ ap (λ (l : List (Receipt Record)). start.1 ++ l) (sym c.push_receipt.ensures.items));
      account = c.install-receipt.ensures.account;
      left = search rules;
      same =
          rw c.pop.ensures.rest
          (All-take (λ s. s.installed.policy ≡ c.args.loading.policy.now) (vec_len at.prepared_installs - 1) at.prepared_installs.items was.same);
      made = search rules;
      room = omega (arith, was.room, c.push_receipt.ensures.capacity);
      are =
          rw c.push_receipt.ensures.items (installs_more 0 at.number c.args.loading.hook c.args.loading.generation
          c.args.loading.policy.now at.installs.items x was.are next);
    }

pub returns-clause-installs : goal.returns-clause-installs
returns-clause-installs g c =
    let done : c.installs.number ≡ g.row.P =
    omega (arith, c.installs-test.false, c.len-number-end.ensures, c.args.self.now.counted, c.installs.invariant.left) in
    subst (λ (k : ℕ). AreInstalls 0 k c.args.loading.hook c.args.loading.generation c.args.loading.policy.now c.installs.installs.items)
    done c.installs.invariant.are
