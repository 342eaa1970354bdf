use Rattle.std.proofs.Common.{◌≡◌, ℕ, ◌+◌, ◌-◌, ◌<◌, true, length, arith, subst}
use Rattle.std.specs.Prelude.{slice_set}
use Rattle.bq_explain.proofs.MakerLemmas.{IsSwept, swept_first, swept_last, swept_off, swept_makes, swept_leads}
use Rattle.bq_explain.proofs.makers.sweep_makers.Goals.{in-Off, in-Makes+in_ok-push-in-Makes, in-Leads}
use Rattle.bq_explain.proofs.makers.sweep_makers.Goals as goal

pub loop-done-init : goal.loop-done-init
loop-done-init c =
    let all : c.args.slot ≡ c.args.slot - 0 = omega arith in
    let first =
    swept_first c.args.slots.now c.args.register c.args.slot c.requires.sound c.args.leading.now
    c.requires.inside c.requires.room c.requires.blank in
    subst (λ (n : ℕ).
    IsSwept c.args.slots.now c.args.register c.args.slot n (slice_set c.args.leading.now c.args.slot true)
    c.new-makers.result.items) all (rw c.new-makers.ensures.items first)

pub loop-done-preserved : goal.loop-done-preserved
loop-done-preserved c =
    let slots = c.args.slots.now in
    let register = c.args.register in
    let slot = c.args.slot in
    let leading = c.loop-done.leading in
    let makers = c.loop-done.makers.items in
    let here : ℕ = slot - 1 - c.loop-done.done in
    let less : here < slot = omega arith in
    let inside : here < length slots = omega arith in
    let behind : slot - c.loop-done.done ≡ here + 1 = omega arith in
    let next : here ≡ slot - (c.loop-done.done + 1) = omega arith in
    let was = subst (λ (n : ℕ). IsSwept slots register slot n leading makers) behind c.loop-done.invariant in
    let part = c.role_of.ensures slot less was.are in
    elim c.match-role_of.branch [
      | in-Off w ↦
          subst (λ (n : ℕ). IsSwept slots register slot n c.match-role_of.leading c.match-role_of.makers.items) next
          (rw (w.leading-is, w.makers-is)
          (swept_off slots register slot c.requires.sound here less leading was.are inside makers was (rw w.in-Off.is at part)))
      | in-Makes+in_ok-push-in-Makes w ↦
          subst (λ (n : ℕ). IsSwept slots register slot n c.match-role_of.leading c.match-role_of.makers.items) next
          (rw (w.leading-is, w.makers-is, w.in_ok-push-in-Makes.ensures.items)
          (swept_makes slots register slot c.requires.sound here less leading was.are inside makers was (rw w.in-Makes.is at part)))
      | in-Leads w ↦
          subst (λ (n : ℕ). IsSwept slots register slot n c.match-role_of.leading c.match-role_of.makers.items) next
          (rw (w.leading-is, w.makers-is)
          (swept_leads slots register slot c.requires.sound here less leading was.are inside makers was (rw w.in-Leads.is at part)))
    ]

pub returns : goal.returns
returns c =
    let end : c.args.slot - c.loop-done.done ≡ 0 = omega arith in
    swept_last c.args.slots.now c.args.register c.args.slot c.requires.sound c.loop-done.leading c.loop-done.makers.items
    (subst (λ (n : ℕ). IsSwept c.args.slots.now c.args.register c.args.slot n c.loop-done.leading c.loop-done.makers.items)
    end c.loop-done.invariant)
