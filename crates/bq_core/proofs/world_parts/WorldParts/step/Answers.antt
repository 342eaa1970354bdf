use Rattle.std.proofs.Common.{rules, FitsSigned, w8, ◌≡◌, ◌≢◌, ℕ, ◌<◌, List, [], Option, Some, None, refl, sym, ap, subst, ◌∙◌, inl, leb-false}
use Rattle.std.specs.Prelude.{ℤ, Result, ◌==◌, nat_le}
use Rattle.std.proofs.lemmas.Int.{to_z-of_z}
use Rattle.std.proofs.lemmas.Bool.{eqb-false}
use Rattle.bq_bpf.specs.Counters.{Through}
use Rattle.bq_bpf.specs.declared.board.CounterCall.{CounterCall}
use Rattle.bq_parts.specs.declared.event.Event.{Event}
use Rattle.bq_parts.specs.declared.event.Event.TheVariants.{Admit, Retire, BeginWake, Pull}
use Rattle.bq_parts.specs.declared.reply.Reply.{Reply}
use Rattle.bq_parts.specs.declared.refusal.Refusal.{Refusal}
use Rattle.bq_parts.specs.declared.refusal.Refusal.TheVariants as no
use Rattle.bq_parts.specs.World.{World, count_in}
use Rattle.bq_parts.specs.Refusals.{refusal, argument_refusal, state_refusal, either_refusal}
use Rattle.bq_parts.specs.Choices.{PolicySemantics, by_programs}
use Rattle.bq_parts.specs.Steps.{WorldStep}
use Rattle.bq_parts.proofs.RefusalLemmas.{not_refused_is_there, first_refusal_passed}
use Rattle.bq_core.proofs.world_parts.WorldParts.step.Goals as goal

-- where the test of the arguments found none, none of the event that it is is refused
none_refused : {count n : ℕ} {e e' : Event} {r : Option Refusal}
    → r ≡ argument_refusal n e → r ≡ None → n ≡ count → e ≡ e' → argument_refusal count e' ≡ None
none_refused {count} {n} {e} {e'} f g h k =
    ap (λ (m : ℕ). argument_refusal m e') (sym h) ∙ ap (λ (x : Event). argument_refusal n x) (sym k) ∙ sym f ∙ g

-- where it found one, the world refuses the event so
one_refused : (w : World) (e : Event) (n : ℕ) (o : Option Refusal) (r : Refusal)
    → o ≡ argument_refusal n e → o ≡ Some r → n ≡ count_in w → refusal w e ≡ Some r
one_refused w e n o r f g h =
    ap (λ (x : Option Refusal). either_refusal x (state_refusal w e)) (ap (λ (m : ℕ). argument_refusal m e) (sym h) ∙ sym f ∙ g)

-- the task that retires has an entry
retires_entry : (count id : ℕ) → argument_refusal count (Retire id) ≡ None → id < 1024
retires_entry count id h = leb-false 1024 id (first_refusal_passed (nat_le 1024 id) no.NoTask None h).0

-- the processor where a wake begins is there, and the task has an entry
begins_inside : (count processor id : ℕ) → argument_refusal count (BeginWake processor id) ≡ None → (processor < count) × (id < 1024)
begins_inside count processor id h =
    let f = not_refused_is_there count processor _ h in
    (f.0, leb-false 1024 id (first_refusal_passed (nat_le 1024 id) no.NoTask None f.1).0)

-- the two processors of a pull are there, and differ
pulls_inside : (count processor from now : ℕ) → argument_refusal count (Pull processor from now) ≡ None
    → (processor < count) × (from < count) × (processor ≢ from)
pulls_inside count processor from now h =
    let f = not_refused_is_there count processor _ h in
    let k = not_refused_is_there count from _ f.1 in
    (f.0, k.0, eqb-false processor from (first_refusal_passed (processor == from) no.SameProcessor None k.1).0)

-- a step by what the event is, is one by the event
step_at : (s : PolicySemantics) (w w' : World) (e e' : Event) (calls : List CounterCall) (r : Result Reply Refusal)
    → e ≡ e' → WorldStep s w e' calls r w' → WorldStep s w e calls r w'
step_at s w w' e e' calls r h k = subst (λ (x : Event). WorldStep s w x calls r w') (sym h) k

-- a step by what the event is, that asked nothing of the counters, is a step by the event
step_unasked : (s : PolicySemantics) (w w' : World) (e e' : Event) (calls : List CounterCall) (r : Result Reply Refusal)
    → calls ≡ [] → e ≡ e' → WorldStep s w e' [] r w' → WorldStep s w e calls r w'
step_unasked s w w' e e' calls r f h k = subst (λ (cs : List CounterCall). WorldStep s w e cs r w') (sym f) (step_at s w w' e e' [] r h k)

-- where nothing is asked of the counters, the board stays
none_asked : {B : Type 0} (leads : B → CounterCall → B → Type 0) (board : B) (calls : List CounterCall)
    → calls ≡ [] → Through leads board calls board
none_asked leads board calls h = rw h refl

pub argument_refusal-requires : goal.argument_refusal-requires
argument_refusal-requires g c = c.processors.ensures.few

pub returns-in-Some-clause-step : goal.returns-in-Some-clause-step
returns-in-Some-clause-step g c = (
  c.clear.ensures,
  refl,
  inl (one_refused c.args.self.now c.args.event c.processors.result c.argument_refusal.result c.in-Some.refusal
      c.argument_refusal.ensures c.in-Some.is c.processors.ensures.value),
)

pub returns-in-Some-clause-board : goal.returns-in-Some-clause-board
returns-in-Some-clause-board g c = none_asked g.B.Board.leads c.args.board.now c.clear.new.self c.clear.ensures

pub admit-requires : goal.admit-requires
admit-requires g c =
    let fits : FitsSigned w8 c.in-Admit.nice = search rules in
    let same = to_z-of_z w8 c.in-Admit.nice fits in
    record {
      fits =
          subst (λ (n : ℤ). argument_refusal (count_in c.args.self.now) (Admit c.in-Admit.task n c.in-Admit.mask c.in-Admit.slice) ≡ None)
          (sym same) (none_refused c.argument_refusal.ensures c.in_default.is c.processors.ensures.value c.in-Admit.is);
    }

pub returns-in-Admit-clause-step : goal.returns-in-Admit-clause-step
returns-in-Admit-clause-step g c =
    let fits : FitsSigned w8 c.in-Admit.nice = search rules in
    let same = to_z-of_z w8 c.in-Admit.nice fits in
    let is = c.in-Admit.is ∙ ap (λ (n : ℤ). Admit c.in-Admit.task n c.in-Admit.mask c.in-Admit.slice) (sym same) in
    step_unasked (by_programs g.Q.R.Discipline.discipline) c.args.self.now c.admit.new.self c.args.event _ c.clear.new.self
    c.admit.result c.clear.ensures is c.admit.ensures.step

pub returns-in-Admit-clause-board : goal.returns-in-Admit-clause-board
returns-in-Admit-clause-board g c = none_asked g.B.Board.leads c.args.board.now c.clear.new.self c.clear.ensures

pub retire-requires : goal.retire-requires
retire-requires g c = record {
  below =
      retires_entry (count_in c.args.self.now) c.in-Retire.task
      (none_refused c.argument_refusal.ensures c.in_default.is c.processors.ensures.value c.in-Retire.is);
}

pub returns-in-Retire-clause-step : goal.returns-in-Retire-clause-step
returns-in-Retire-clause-step g c =
    step_unasked (by_programs g.Q.R.Discipline.discipline) c.args.self.now c.retire.new.self c.args.event _ c.clear.new.self
    c.retire.result c.clear.ensures c.in-Retire.is c.retire.ensures.step

pub returns-in-Retire-clause-board : goal.returns-in-Retire-clause-board
returns-in-Retire-clause-board g c = none_asked g.B.Board.leads c.args.board.now c.clear.new.self c.clear.ensures

pub returns-in-Draw-clause-step : goal.returns-in-Draw-clause-step
returns-in-Draw-clause-step g c =
    step_unasked (by_programs g.Q.R.Discipline.discipline) c.args.self.now c.draw.new.self c.args.event _ c.clear.new.self
    c.draw.result c.clear.ensures c.in-Draw.is c.draw.ensures.step

pub returns-in-Draw-clause-board : goal.returns-in-Draw-clause-board
returns-in-Draw-clause-board g c = none_asked g.B.Board.leads c.args.board.now c.clear.new.self c.clear.ensures

pub install-requires : goal.install-requires
install-requires g c = record { fits = none_refused c.argument_refusal.ensures c.in_default.is c.processors.ensures.value c.in-Install.is }

pub returns-in-Install-clause-step : goal.returns-in-Install-clause-step
returns-in-Install-clause-step g c =
    step_unasked (by_programs g.Q.R.Discipline.discipline) c.args.self.now c.install.new.self c.args.event _ c.clear.new.self
    c.install.result c.clear.ensures c.in-Install.is c.install.ensures.step

pub returns-in-Install-clause-board : goal.returns-in-Install-clause-board
returns-in-Install-clause-board g c = none_asked g.B.Board.leads c.args.board.now c.clear.new.self c.clear.ensures

pub begin_wake-requires : goal.begin_wake-requires
begin_wake-requires g c =
    let inside =
    begins_inside (count_in c.args.self.now) c.in-BeginWake.processor c.in-BeginWake.task
    (none_refused c.argument_refusal.ensures c.in_default.is c.processors.ensures.value c.in-BeginWake.is) in
    record { orderly = c.requires.orderly; inside = inside.0; below = inside.1 }

pub returns-in-BeginWake-clause-step : goal.returns-in-BeginWake-clause-step
returns-in-BeginWake-clause-step g c =
    step_unasked (by_programs g.Q.R.Discipline.discipline) c.args.self.now c.begin_wake.new.self c.args.event _
    c.clear.new.self c.begin_wake.result c.clear.ensures c.in-BeginWake.is c.begin_wake.ensures.step

pub returns-in-BeginWake-clause-board : goal.returns-in-BeginWake-clause-board
returns-in-BeginWake-clause-board g c = none_asked g.B.Board.leads c.args.board.now c.clear.new.self c.clear.ensures

pub end_wake-requires : goal.end_wake-requires
end_wake-requires g c = record {
  orderly = c.requires.orderly;
  inside =
      (not_refused_is_there (count_in c.args.self.now) c.in-EndWake.processor None
      (none_refused c.argument_refusal.ensures c.in_default.is c.processors.ensures.value c.in-EndWake.is)).0;
  no_calls = c.clear.ensures;
}

pub returns-in-EndWake-clause-step : goal.returns-in-EndWake-clause-step
returns-in-EndWake-clause-step g c =
    step_at (by_programs g.Q.R.Discipline.discipline) c.args.self.now c.end_wake.new.self c.args.event _
    c.end_wake.new.scratch c.end_wake.result c.in-EndWake.is c.end_wake.ensures.step

pub returns-in-EndWake-clause-board : goal.returns-in-EndWake-clause-board
returns-in-EndWake-clause-board g c = c.end_wake.ensures.board

pub drain-requires : goal.drain-requires
drain-requires g c = record {
  orderly = c.requires.orderly;
  inside =
      (not_refused_is_there (count_in c.args.self.now) c.in-Drain.processor None
      (none_refused c.argument_refusal.ensures c.in_default.is c.processors.ensures.value c.in-Drain.is)).0;
  no_calls = c.clear.ensures;
}

pub returns-in-Drain-clause-step : goal.returns-in-Drain-clause-step
returns-in-Drain-clause-step g c =
    step_at (by_programs g.Q.R.Discipline.discipline) c.args.self.now c.drain.new.self c.args.event _ c.drain.new.scratch
    c.drain.result c.in-Drain.is c.drain.ensures.step

pub returns-in-Drain-clause-board : goal.returns-in-Drain-clause-board
returns-in-Drain-clause-board g c = c.drain.ensures.board

pub tick-requires : goal.tick-requires
tick-requires g c = record {
  orderly = c.requires.orderly;
  inside =
      (not_refused_is_there (count_in c.args.self.now) c.in-Tick.processor None
      (none_refused c.argument_refusal.ensures c.in_default.is c.processors.ensures.value c.in-Tick.is)).0;
  no_calls = c.clear.ensures;
}

pub returns-in-Tick-clause-step : goal.returns-in-Tick-clause-step
returns-in-Tick-clause-step g c =
    step_at (by_programs g.Q.R.Discipline.discipline) c.args.self.now c.tick.new.self c.args.event _ c.tick.new.scratch
    c.tick.result c.in-Tick.is c.tick.ensures.step

pub returns-in-Tick-clause-board : goal.returns-in-Tick-clause-board
returns-in-Tick-clause-board g c = c.tick.ensures.board

pub block-requires : goal.block-requires
block-requires g c = record {
  orderly = c.requires.orderly;
  inside =
      (not_refused_is_there (count_in c.args.self.now) c.in-Block.processor None
      (none_refused c.argument_refusal.ensures c.in_default.is c.processors.ensures.value c.in-Block.is)).0;
}

pub returns-in-Block-clause-step : goal.returns-in-Block-clause-step
returns-in-Block-clause-step g c =
    step_unasked (by_programs g.Q.R.Discipline.discipline) c.args.self.now c.block.new.self c.args.event _ c.clear.new.self
    c.block.result c.clear.ensures c.in-Block.is c.block.ensures.step

pub returns-in-Block-clause-board : goal.returns-in-Block-clause-board
returns-in-Block-clause-board g c = none_asked g.B.Board.leads c.args.board.now c.clear.new.self c.clear.ensures

pub pull-requires : goal.pull-requires
pull-requires g c =
    let inside =
    pulls_inside (count_in c.args.self.now) c.in-Pull.processor c.in-Pull.from c.in-Pull.now
    (none_refused c.argument_refusal.ensures c.in_default.is c.processors.ensures.value c.in-Pull.is) in
    record { orderly = c.requires.orderly; inside = inside.0; inside_from = inside.1; apart = inside.2; no_calls = c.clear.ensures }

pub returns-in-Pull-clause-step : goal.returns-in-Pull-clause-step
returns-in-Pull-clause-step g c =
    step_at (by_programs g.Q.R.Discipline.discipline) c.args.self.now c.pull.new.self c.args.event _ c.pull.new.scratch
    c.pull.result c.in-Pull.is c.pull.ensures.step

pub returns-in-Pull-clause-board : goal.returns-in-Pull-clause-board
returns-in-Pull-clause-board g c = c.pull.ensures.board
