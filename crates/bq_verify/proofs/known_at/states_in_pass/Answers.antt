use Rattle.std.proofs.Common.{rules, ◌≡◌, ◌<◌, ◌+◌, arith, subst, sym}
use Rattle.bq_verify.specs.Subjects.{subject_of_view}
use Rattle.bq_verify.specs.Control.{IsKnown}
use Rattle.bq_verify.specs.declared.refused.Refused.TheVariants.{OutOfMemory}
use Rattle.bq_verify.proofs.KnownLemmas.{AreKnownBefore, contains_runs, covered_before, covered_on_arrival, known_until, none_before, one_more_known, knows_arrival}
use Rattle.bq_verify.proofs.SureLemmas.{straight_earlier, sure_arrived, sure_start}
use Rattle.bq_verify.proofs.known_at.states_in_pass.Goals as goal

pub loop-slot-init : goal.loop-slot-init
loop-slot-init c = record {
  long = c.requires.room;
  known =
      subst (AreKnownBefore (subject_of_view c.args.subject.now) 0) (sym c.in_ok-states.ensures.items)
      (none_before (subject_of_view c.args.subject.now));
  rest = λ target seen later rest.
      contains_runs (subject_of_view c.args.subject.now) target seen c.args.pending.now c.start-state.result
      c.requires.passable.first c.start-state.ensures.contains rest;
  sure = λ straight.
      sure_start c.args.subject.now.slots.now c.args.pending.now c.start-state.result c.requires.passable.sound
      c.requires.blank c.start-state.ensures.context c.start-state.ensures.frame c.start-state.ensures.plain;
}

pub returns-in-Err-At : goal.returns-in-Err-At
returns-in-Err-At c =
    let here =
    knows_arrival (subject_of_view c.args.subject.now) c.requires.passable.sound c.requires.passable.small
    c.loop-slot.slot c.loop-slot.pending c.arrive-live.new.pending c.loop-slot.state c.arrive-live.new.state
    c.loop-slot.live c.arrive-live.result c.then_some.result c.arrive-live.ensures.known c.arrive-live.ensures.empty
    (λ seen. c.loop-slot.invariant.rest c.loop-slot.slot seen (omega arith)) c.then_some.ensures in
    known_until (subject_of_view c.args.subject.now) (c.loop-slot.slot + 1) c.args.until c.push.new.self.items
    (λ k past within inside straight.
    let until = straight_earlier (subject_of_view c.args.subject.now) (c.loop-slot.slot + 1) k past straight in
    let sure =
    sure_arrived c.args.subject.now.slots.now c.loop-slot.pending c.arrive-live.new.pending c.loop-slot.state
    c.arrive-live.new.state c.loop-slot.live c.arrive-live.result c.loop-slot.slot c.arrive-live.ensures.waits
    c.arrive-live.ensures.has (c.loop-slot.invariant.sure
    (straight_earlier (subject_of_view c.args.subject.now) c.loop-slot.slot (c.loop-slot.slot + 1) (omega arith) until)) in
    let memory : c.in-Err-At.field-0 ≡ OutOfMemory = c.in-Err-At.ensures.accepts until sure in
    let other = c.in-Err-At.field-0-is in
    absurd (let no : ⊥ = cc in no))
    (one_more_known (subject_of_view c.args.subject.now) c.loop-slot.slot c.loop-slot.states.items c.push.new.self.items
    c.then_some.result c.loop-slot.invariant.known c.in_ok-push.ensures.items here)

pub loop-slot-preserved : goal.loop-slot-preserved
loop-slot-preserved c =
    let here =
    knows_arrival (subject_of_view c.args.subject.now) c.requires.passable.sound c.requires.passable.small
    c.loop-slot.slot c.loop-slot.pending c.arrive-live.new.pending c.loop-slot.state c.arrive-live.new.state
    c.loop-slot.live c.arrive-live.result c.then_some.result c.arrive-live.ensures.known c.arrive-live.ensures.empty
    (λ seen. c.loop-slot.invariant.rest c.loop-slot.slot seen (omega arith)) c.then_some.ensures in
    record {
      long = search rules;
      known =
          one_more_known (subject_of_view c.args.subject.now) c.loop-slot.slot c.loop-slot.states.items c.push.new.self.items
          c.then_some.result c.loop-slot.invariant.known c.in_ok-push.ensures.items here;
      rest = λ target seen later rest.
          c.loop-slot.invariant.rest target seen (omega (arith, later))
          (covered_on_arrival (subject_of_view c.args.subject.now) target seen c.loop-slot.slot
          (IsKnown c.loop-slot.pending c.loop-slot.state c.loop-slot.live c.loop-slot.slot)
          (IsKnown c.arrive-live.new.pending c.arrive-live.new.state c.arrive-live.result c.loop-slot.slot)
          c.arrive-live.ensures.known (covered_before (subject_of_view c.args.subject.now)
          c.requires.passable.sound c.requires.passable.small target seen c.loop-slot.slot
          (IsKnown c.arrive-live.new.pending c.arrive-live.new.state c.arrive-live.result c.loop-slot.slot)
          (IsKnown c.pass_slot.new.pending c.pass_slot.new.state c.in-Ok.on (c.loop-slot.slot + 1))
          (let before : c.loop-slot.slot < target = omega (arith, later) in before) c.in-Ok.ensures.passes rest));
      sure = λ straight.
          c.in-Ok.ensures.sure straight (sure_arrived c.args.subject.now.slots.now c.loop-slot.pending
          c.arrive-live.new.pending c.loop-slot.state c.arrive-live.new.state c.loop-slot.live c.arrive-live.result
          c.loop-slot.slot c.arrive-live.ensures.waits c.arrive-live.ensures.has
          (c.loop-slot.invariant.sure
          (straight_earlier (subject_of_view c.args.subject.now) c.loop-slot.slot (c.loop-slot.slot + 1) (omega arith) straight)));
    }

pub returns : goal.returns
returns c =
    known_until (subject_of_view c.args.subject.now) c.loop-slot.slot c.args.until c.loop-slot.states.items
    (λ k past within inside straight.
    let covered : k < c.count_until-count.result = c.count_until-count.ensures.covers k within inside in
    absurd (let no : ⊥ = omega (arith, covered, past) in no))
    c.loop-slot.invariant.known
