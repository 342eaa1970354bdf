-- The generations that stand at the hooks of a world.
use Rattle.std.proofs.Common.{◌≡◌, ℕ, ◌+◌, ◌-◌, ◌<◌, ◌≤◌, ◌^◌, List, Option, refl, sym, subst, ap, ◌∙◌, arith}
use Rattle.std.specs.Prelude.{Ok}
use Rattle.bq_bpf.specs.declared.board.CounterCall.{CounterCall}
use Rattle.bq_disc.specs.Discipline.{Discipline}
use Rattle.bq_hooks.specs.declared.hook.Hook.{Hook}
use Rattle.bq_hooks.specs.declared.hook.Hook.TheVariants.{Place, Preempt, Pull}
use Rattle.bq_installed.specs.Answers.{fresh_maps}
use Rattle.bq_installed.specs.Installed.{InstalledFacts, HooksFacts, at_hook, with_installed}
use Rattle.bq_parts.specs.declared.event.Event.TheVariants.{Draw, Install}
use Rattle.bq_parts.specs.declared.reply.Reply.{Reply}
use Rattle.bq_parts.specs.declared.reply.Reply.TheVariants.{Drawn}
use Rattle.bq_parts.specs.Choices.{by_programs}
use Rattle.bq_disc.specs.Counts.{saturating_sum}
use Rattle.bq_parts.specs.Processors.{Processor, new_processor}
use Rattle.bq_parts.specs.Steps.{WorldStep}
use Rattle.bq_parts.specs.World.{World, count_in, opening_world, processor_at, with_processor}
use Rattle.bq_verify.specs.Accepted.{Accepted}
use Rattle.bq_core.proofs.OnTheWayLemmas.{same_everywhere}
use Rattle.bq_core.proofs.EachProcessorLemmas.{at_set_else}
use Rattle.bq_parts.proofs.RefusalLemmas.{accepted, not_refused_is_there}
use Rattle.bq_simulate.specs.Kept.{IsNewerFrom, WereDrawn}
use Rattle.bq_simulate.specs.KeptLaws.{GenerationsAreNewer}

-- the generation that stands at a hook of a processor
abbrev generation_at : World → ℕ → Hook → ℕ
generation_at w processor hook = (at_hook hook (processor_at w processor).hooks).generation

-- at each hook of a new processor the generation is 0
nothing_stands : (hook : Hook) → (at_hook hook new_processor.hooks).generation ≡ 0
nothing_stands Place = refl
nothing_stands Preempt = refl
nothing_stands Pull = refl

-- in a new world each generation at a hook was drawn
opened : (count : ℕ) → WereDrawn (opening_world count)
opened count processor hook = omega (
  arith,
  ap (λ (p : Processor). (at_hook hook p.hooks).generation) (same_everywhere new_processor count processor),
  nothing_stands hook,
)

-- answers that are equal say the same number that was drawn
number_drawn : (m n : ℕ) → Drawn m ≡ Drawn n → m ≡ n
number_drawn m n h = cc

-- the next number is newer than all
drawn : (d : Discipline) (w v : World) (calls : List CounterCall) (generation : ℕ)
    → w.drawn < 2 ^ 64 - 1 → WereDrawn w → WorldStep (by_programs d) w Draw calls (Ok (Drawn generation)) v
    → (v.drawn ≡ w.drawn + 1) × WereDrawn v × IsNewerFrom 0 generation v
drawn d w v calls generation early h step =
    let n : ℕ = saturating_sum w.drawn 1 in
    let is : generation ≡ n = number_drawn generation n step.1.0 in
    let more : n ≡ w.drawn + 1 = omega (arith, early) in
    let all : v.drawn ≡ w.drawn + 1 = ap (λ (x : World). x.drawn) step.1.2 ∙ more in
    let same : (k : ℕ) (hook : Hook) → generation_at v k hook ≡ generation_at w k hook =
    λ k hook. ap (λ (x : World). generation_at x k hook) step.1.2 in (
      all,
      λ k hook. omega (arith, same k hook, h k hook, all),
      record { drawn = omega (arith, is, more, all); newer = λ k hook low. omega (arith, same k hook, h k hook, is, more) },
    )

-- the generations at the hooks of a processor after one hook was changed
installed_low : (most : ℕ) (hook other : Hook) (ps : HooksFacts) (new : InstalledFacts)
    → new.generation ≤ most → ((x : Hook) → (at_hook x ps).generation ≤ most)
    → (at_hook other (with_installed hook ps new)).generation ≤ most
installed_low most Place Place ps new low h = low
installed_low most Place Preempt ps new low h = h Preempt
installed_low most Place Pull ps new low h = h Pull
installed_low most Preempt Place ps new low h = h Place
installed_low most Preempt Preempt ps new low h = low
installed_low most Preempt Pull ps new low h = h Pull
installed_low most Pull Place ps new low h = h Place
installed_low most Pull Preempt ps new low h = h Preempt
installed_low most Pull Pull ps new low h = low

-- a generation that is installed at a processor stays newer than those at the processors after it, and none is drawn
installed : (d : Discipline) (w v : World) (calls : List CounterCall) (r : Reply) (processor generation : ℕ)
    (hook : Hook) (policy : Option Accepted)
    → IsNewerFrom processor generation w → WereDrawn w
    → WorldStep (by_programs d) w (Install processor hook generation policy) calls (Ok r) v
    → (v.drawn ≡ w.drawn) × WereDrawn v × IsNewerFrom (processor + 1) generation v
installed d w v calls r processor generation hook policy newer h step =
    let k = step.1 in
    let q : Processor = k.0 in
    let p : Processor = processor_at w processor in
    let new : InstalledFacts = record { policy = policy; generation = generation; maps = fresh_maps policy } in
    let low = (not_refused_is_there (count_in w) processor _ (accepted w (Install processor hook generation policy) step.0).0).0 in
    let here : (other : Hook) → (at_hook other q.hooks).generation ≤ w.drawn = λ other.
    subst (λ (x : Processor). (at_hook other x.hooks).generation ≤ w.drawn) (sym k.1.2)
    (installed_low w.drawn hook other p.hooks new newer.drawn (h processor)) in
    let were : WereDrawn (with_processor w processor q) =
    at_set_else (λ n (x : Processor). (other : Hook) → (at_hook other x.hooks).generation ≤ w.drawn) w.processors
    processor q new_processor low here (λ n apart. h n) in
    let left : (n : ℕ) (other : Hook) → processor + 1 ≤ n
    → generation_at (with_processor w processor q) n other < generation =
    at_set_else (λ n (x : Processor). (other : Hook) → processor + 1 ≤ n → (at_hook other x.hooks).generation < generation)
    w.processors processor q new_processor low (λ other late. absurd (omega (arith, late)))
    (λ n apart other late. newer.newer n other (omega (arith, late))) in (
      ap (λ (x : World). x.drawn) k.3,
      subst (λ (x : World). WereDrawn x) (sym k.3) were,
      subst (λ (x : World). IsNewerFrom (processor + 1) generation x) (sym k.3) (record { drawn = newer.drawn; newer = left }),
    )

-- a generation that is drawn is newer than all that stand at hooks
pub generations_are_newer : GenerationsAreNewer
generations_are_newer = record { opened = opened; drawn = drawn; installed = installed }
