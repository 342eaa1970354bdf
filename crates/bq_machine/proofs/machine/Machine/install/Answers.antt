use Rattle.std.proofs.Common.{◌≡◌, ◌<◌, ℕ, List, None, refl, ap, subst, ◌∙◌, arith}
use Rattle.std.proofs.lemmas.Bool.{lt-leb}
use Rattle.bq_installed.specs.Answers.{fresh_maps}
use Rattle.bq_installed.specs.Installed.{InstalledFacts}
use Rattle.bq_parts.specs.declared.event.Event.TheVariants.{Install}
use Rattle.bq_parts.specs.Refusals.{argument_refusal}
use Rattle.bq_parts.specs.Shares.{Installs}
use Rattle.bq_core.proofs.InstallLemmas.{install_suits}
use Rattle.bq_shared.specs.Parts.{cpu_part}
use Rattle.bq_shared.proofs.CallStepLemmas.{install_moves}
use Rattle.bq_machine.proofs.BriefLemmas.{installs_brief}
use Rattle.bq_machine.proofs.machine.Machine.install.Goals as goal

pub replace-reply-requires : goal.replace-reply-requires
replace-reply-requires g c =
    let n = c.args.self.now.recorder.history.setup in
    let h = c.args.hook in
    let generation = c.args.generation in
    let i = c.args.prepared.installed in
    let below : c.args.processor < n = omega (arith, c.requires.inside, c.args.self.now.setup) in
    let fits : argument_refusal n (Install c.args.processor h generation i.policy) ≡ None =
    rw (lt-leb n c.args.processor below, c.requires.hook) refl in
    rw c.set_generation.ensures (install_suits n c.args.processor generation h i.policy fits)

pub commit_one-requires-clause-may : goal.commit_one-requires-clause-may
commit_one-requires-clause-may g c =
    let d = g.Q.R.Discipline.discipline in
    let n = c.args.self.now.recorder.history.setup in
    let h = c.args.hook in
    let generation = c.args.generation in
    let i = c.args.prepared.installed in
    let s = c.set_generation.new.self in
    let own = c.cpu.inside.cell.content in
    let k = c.deref_mut-journal.result.now.1 in
    let r = c.replace-reply.result in
    let q = c.replace-reply.new.self in
    let same : own.number ≡ c.args.processor =
    ap (λ x. x.number) (c.cpu.view_is ∙ c.deref_mut-cpu.ensures.value) ∙ c.lock_processor-guard.ensures.own in
    let below : c.args.processor < n = omega (arith, c.requires.inside, c.args.self.now.setup) in
    let fits : argument_refusal n (Install c.args.processor h generation i.policy) ≡ None =
    rw (lt-leb n c.args.processor below, c.requires.hook) refl in
    let whole : s ≡ record { policy = i.policy; generation = generation; maps = fresh_maps i.policy } =
    c.set_generation.ensures
    ∙ ap (λ (m : List (List ℕ)). record { policy = i.policy; generation = generation; maps = m }) c.args.prepared.fresh in
    let had : Installs h k.drawn own.state s r q = rw c.kept.ensures at c.replace-reply.ensures.share in
    let share = subst (λ (x : InstalledFacts). Installs h k.drawn own.state x r q) whole had in (
      cpu_part own.number own.state,
      c.cpu.invariant.0,
      rw (
        c.draft-draft.ensures,
        c.new.ensures,
        c.install_event.ensures,
        c.answer_twice.ensures.for_history,
        c.no_calls.ensures.for_history,
        c.args.prepared.history_is,
        same,
      ) (install_moves d n c.args.processor generation h i.policy own.state q k r fits share),
    )

pub commit_one-requires-clause-reported : goal.commit_one-requires-clause-reported
commit_one-requires-clause-reported g c = rw (c.draft-draft.ensures, c.new.ensures, c.no_calls.ensures.for_history) c.requires.account

pub answer_twice-requires : goal.answer_twice-requires
answer_twice-requires g c = installs_brief c.args.hook _ _ _ c.replace-reply.result c.replace-reply.new.self c.replace-reply.ensures.share
