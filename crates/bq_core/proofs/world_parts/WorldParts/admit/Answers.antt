use Rattle.std.proofs.Common.{◌≡◌, ℕ, ◌<◌, None, length, refl, ap, ◌∙◌, arith, rules, FitsSigned, w8, inr}
use Rattle.std.specs.Prelude.{ℤ}
use Rattle.std.proofs.lemmas.Bool.Decides.{nat_tests}
use Rattle.std.proofs.lemmas.Int.{to_z-of_z}
use Rattle.bq_parts.specs.declared.event.Event.TheVariants.{Admit}
use Rattle.bq_parts.specs.Moves.{admitted}
use Rattle.bq_parts.specs.Refusals.{argument_refusal}
use Rattle.bq_parts.specs.World.{World, count_in}
use Rattle.bq_core.proofs.SizeLemmas.{entries_admitted}
use Rattle.bq_core.proofs.ShareStepLemmas.{admits_at}
use Rattle.bq_core.proofs.world_parts.WorldParts.admit.Goals as goal

-- an admission whose arguments are not refused is to an entry
is_entry : (count id : ℕ) (nice : ℤ) (mask slice : ℕ) → argument_refusal count (Admit id nice mask slice) ≡ None → id < 1024
is_entry count id nice mask slice h = grind (arith, nat_tests)

pub new_task-requires-clause-few : goal.new_task-requires-clause-few
new_task-requires-clause-few g c =
    let n : c.len.result ≡ length c.self.inside.cpus.items = omega arith in
    rw (n ∙ c.self.invariant.0) c.self.invariant.1

pub new_task-requires-clause-fits : goal.new_task-requires-clause-fits
new_task-requires-clause-fits g c =
    let w = c.args.self.now in
    let n : c.len.result ≡ length c.self.inside.cpus.items = omega arith in
    let count : c.len.result ≡ count_in w = n ∙ ap (λ (v : World). length v.processors) c.self.view_is in
    let fits : FitsSigned w8 c.args.nice = search rules in
    let same = to_z-of_z w8 c.args.nice fits in
    rw (count, same) c.requires.fits

pub admit-requires : goal.admit-requires
admit-requires g c = record { below = is_entry (count_in c.args.self.now) c.args.task c.args.nice c.args.mask c.args.slice c.requires.fits }

pub returns : goal.returns
returns g c =
    let w = c.args.self.now in
    let n : c.len.result ≡ length c.self.inside.cpus.items = omega arith in
    let count : c.len.result ≡ count_in w = n ∙ ap (λ (v : World). length v.processors) c.self.view_is in
    let fits : FitsSigned w8 c.args.nice = search rules in
    let same = to_z-of_z w8 c.args.nice fits in
    let made : c.in-Ok.new ≡ admitted (count_in w) c.args.task c.args.nice c.args.mask c.args.slice = rw (count, same) at c.in-Ok.ensures in
    let step =
    admits_at g.Q.R.Discipline.discipline w _ c.args.task c.args.nice c.args.mask c.args.slice c.in-Ok.new c.admit.result
    _ c.admit.new.self c.requires.fits made (ap (λ (v : World). v.lobby) c.self.view_is) c.admit.ensures.share
    (ap (λ (v : World). record v { lobby = c.admit.new.self }) c.self.view_is) in
    record { step = step }

pub returns-in_default : goal.returns-in_default
returns-in_default g c = record { step = (refl, refl, inr (tt, c.requires.fits, refl)) }

pub invariant_of-self : goal.invariant_of-self
invariant_of-self g c = (
  c.self.invariant.0,
  c.self.invariant.1,
  entries_admitted c.args.task c.in-Ok.new c.self.inside.lobby c.admit.new.self c.admit.result c.admit.ensures.share
      ∙ c.self.invariant.2,
)
