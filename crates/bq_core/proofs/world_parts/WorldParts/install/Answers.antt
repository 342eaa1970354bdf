use Rattle.std.proofs.Common.{◌≡◌, ℕ, [], Option, None, refl, sym, ap, subst, ◌∙◌, inr}
use Rattle.std.specs.Prelude.{Result}
use Rattle.std.proofs.lemmas.List.{length-set}
use Rattle.bq_hooks.specs.declared.hook.Hook.{Hook}
use Rattle.bq_disc.specs.Discipline.{Discipline}
use Rattle.bq_verify.specs.Accepted.{Accepted}
use Rattle.bq_installed.specs.Answers.{fresh_maps}
use Rattle.bq_installed.specs.Installed.{InstalledFacts, IsFor}
use Rattle.bq_parts.specs.declared.event.Event.TheVariants.{Install}
use Rattle.bq_parts.specs.declared.reply.Reply.{Reply}
use Rattle.bq_parts.specs.declared.refusal.Refusal.{Refusal}
use Rattle.bq_parts.specs.Processors.{Processor}
use Rattle.bq_parts.specs.World.{World, processor_at, count_in, with_processor}
use Rattle.bq_parts.specs.Refusals.{argument_refusal}
use Rattle.bq_parts.specs.Choices.{by_programs}
use Rattle.bq_parts.specs.Shares.{Installs}
use Rattle.bq_parts.specs.Steps.{WorldStep}
use Rattle.bq_core.proofs.StepLemmas.{borrowed, in_range, write_back_processor}
use Rattle.bq_core.proofs.InstallLemmas.{install_there, install_suits}
use Rattle.bq_core.proofs.ShareStepLemmas.{installs_step}
use Rattle.bq_core.proofs.world_parts.WorldParts.install.Goals as goal

-- a processor's share of an Install is the world's step, where the parts are known by equations
installs_at : (d : Discipline) (w w' : World) (processor n drawn : ℕ) (h : Hook) (o : Option Accepted) (new : InstalledFacts)
    (r : Result Reply Refusal) (p q : Processor)
    → argument_refusal (count_in w) (Install processor h n o) ≡ None
    → new ≡ record { policy = o; generation = n; maps = fresh_maps o } → drawn ≡ w.drawn → p ≡ processor_at w processor
    → Installs h drawn p new r q → w' ≡ with_processor w processor q
    → WorldStep (by_programs d) w (Install processor h n o) [] r w'
installs_at d w w' processor n drawn h o new r p q fits same number place share e =
    rw e (installs_step d w processor n h o r q fits (rw (number, place, same) at share))

pub returns-in_default : goal.returns-in_default
returns-in_default g c = record { step = (refl, refl, inr (c.in_default.ensures.want, c.requires.fits, refl)) }

pub index_mut-requires : goal.index_mut-requires
index_mut-requires g c =
    in_range c.self.view_is c.from.ensures c.self.inside.cpus.ok.0
    (install_there (count_in c.args.self.now) c.args.processor c.args.generation c.args.hook c.args.policy c.requires.fits)

pub replace-requires : goal.replace-requires
replace-requires g c =
    subst (λ (o : Option Accepted). IsFor c.args.hook o) (sym (ap (λ (a : InstalledFacts). a.policy) c.in-Ok.ensures.installed))
    (install_suits (count_in c.args.self.now) c.args.processor c.args.generation c.args.hook c.args.policy c.requires.fits)

pub invariant_of-self : goal.invariant_of-self
invariant_of-self g c =
    (length-set c.self.inside.cpus.items c.from.result c.replace.new.self ∙ c.self.invariant.0, c.self.invariant.1, c.self.invariant.2)

pub returns : goal.returns
returns g c =
    let w = c.args.self.now in
    let processor = c.args.processor in
    let place =
    borrowed c.self.view_is c.from.ensures
    (install_there (count_in w) processor c.args.generation c.args.hook c.args.policy c.requires.fits)
    c.index_mut.ensures.value in
    let number = ap (λ (v : World). v.drawn) c.self.view_is in
    let step =
    installs_at g.Q.R.Discipline.discipline w _ processor c.args.generation c.self.inside.drawn
    c.args.hook c.args.policy c.in-Ok.installed c.replace.result c.index_mut.result.now
    c.replace.new.self c.requires.fits c.in-Ok.ensures.installed number place c.replace.ensures.share
    (write_back_processor _ w _ processor c.replace.new.self c.self.view_is c.from.ensures) in
    record { step = step }
