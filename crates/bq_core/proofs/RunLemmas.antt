-- Runs of events, one step after another: a run and one more step are a run.
use Rattle.std.proofs.Common.{List, [], ◌∷◌, ◌++◌, refl, subst}
use Rattle.std.specs.Prelude.{Result}
use Rattle.bq_bpf.specs.declared.board.CounterCall.{CounterCall}
use Rattle.bq_bpf.specs.Counters.{Through}
use Rattle.bq_parts.specs.declared.event.Event.{Event}
use Rattle.bq_parts.specs.declared.reply.Reply.{Reply}
use Rattle.bq_parts.specs.declared.refusal.Refusal.{Refusal}
use Rattle.bq_parts.specs.World.{World}
use Rattle.bq_parts.specs.Choices.{PolicySemantics}
use Rattle.bq_parts.specs.Steps.{WorldStep, WorldRun, ThroughAll}

-- a run of a world and one more step are a run
pub run_more : (s : PolicySemantics) (w mid w' : World) (es : List Event) (e : Event) (calls : List (List CounterCall))
    (c : List CounterCall) (answers : List (Result Reply Refusal)) (a : Result Reply Refusal)
    → WorldRun s w es calls answers mid → WorldStep s mid e c a w'
    → WorldRun s w (es ++ e ∷ []) (calls ++ c ∷ []) (answers ++ a ∷ []) w'
run_more s w mid w' [] e [] c [] a run step = (w', subst (λ v. WorldStep s v e c a w') run step, refl)
run_more s w mid w' (x ∷ es) e (k ∷ calls) c (b ∷ answers) a run step =
    (run.0, run.1, run_more s run.0 mid w' es e calls c answers a run.2 step)
run_more s w mid w' es e calls c answers a run step = absurd run

-- one more step leads the counters on by what it asked of them
pub through_more : {B : Type 0} (leads : B → CounterCall → B → Type 0) (old mid new : B) (calls : List (List CounterCall))
    (c : List CounterCall)
    → ThroughAll leads old calls mid → Through leads mid c new → ThroughAll leads old (calls ++ c ∷ []) new
through_more leads old mid new [] c all next = (new, subst (λ b. Through leads b c new) all next, refl)
through_more leads old mid new (k ∷ calls) c all next = (all.0, all.1, through_more leads all.0 mid new calls c all.2 next)
