-- A wake that is not refused begins and ends.
use Rattle.std.proofs.Common.{◌≡◌, ℕ, true, ◌++◌, refl, Result, Ok, Err}
use Rattle.std.specs.Prelude.{is_ok}
use Rattle.bq_parts.specs.declared.event.Event.TheVariants.{BeginWake, EndWake}
use Rattle.bq_parts.specs.declared.reply.Reply.{Reply}
use Rattle.bq_parts.specs.declared.refusal.Refusal.{Refusal}
use Rattle.bq_trace.specs.Machines.{TraceMachine}
use Rattle.bq_trace.specs.TraceEvents.{TraceEvent, Reported, Gets}
use Rattle.bq_trace.specs.Reporting.{Happens, EndHappens, WakeHappens}
use Rattle.bq_trace.proofs.TakingLemmas.{TakesAll-append}

-- if the begin of a wake was not refused, its end is what follows it
ends : (begun answer : Result Reply Refusal) (mid k : TraceMachine) (n c now : ℕ) (reported : Reported)
    → is_ok begun ≡ true → Happens mid n (EndWake c now) answer reported k
    → EndHappens begun mid n c now reported k
ends (Ok reply) answer mid k n c now reported ok h = (answer, h)
ends (Err refusal) answer mid k n c now reported ok h = cc

-- where the begin and then the end are reported, the wake is reported
pub wakes_both : {S : Type 0} (takes : S → ℕ → TraceEvent → S → Type 0) (m mid k : TraceMachine) (n c task now : ℕ)
    (begun answer : Result Reply Refusal) (old middle new : S)
    → is_ok begun ≡ true → Gets takes old middle (λ reported. Happens m n (BeginWake c task) begun reported mid)
    → Gets takes middle new (λ reported. Happens mid n (EndWake c now) answer reported k)
    → Gets takes old new (λ reported. WakeHappens m n c task now reported k)
wakes_both takes m mid k n c task now begun answer old middle new ok first second = record {
  reported = first.reported ++ second.reported;
  taken = TakesAll-append takes old middle new first.reported second.reported first.taken second.taken;
  holds = record {
    begun = begun;
    mid = mid;
    first = first.reported;
    more = second.reported;
    begins = first.holds;
    ends = ends begun answer mid k n c now second.reported ok second.holds;
    whole = refl;
  };
}
