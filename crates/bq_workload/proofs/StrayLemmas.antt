-- Why a switch fails, and what it plans where nothing runs any more.
use Rattle.std.proofs.Common.{◌≡◌, ℕ, inr, Bool, false, List, Option, None, Some, sym, ap, ◌∙◌, subst}
use Rattle.std.specs.Prelude.{slice_get}
use Rattle.std.proofs.lemmas.Option.{same_Some}
use Rattle.bq_workload.specs.declared.processor_state.ProcessorState.{ProcessorState}
use Rattle.bq_workload.specs.declared.progress.TaskProgress.{TaskProgress}
use Rattle.bq_workload.specs.declared.periods.Periods.{Periods}
use Rattle.bq_workload.specs.declared.roster.Roster.{Roster}
use Rattle.bq_workload.specs.Accounts.{Accounts, accounts_of, accounts_charged, is_same}
use Rattle.bq_workload.specs.Plans.{PlansNone, PlansRun, PlansSwitch, PlansUnless}
use Rattle.bq_workload.specs.Strays.{IsStraySwitch, IsStrayTakeover}
use Rattle.bq_workload.proofs.ListLemmas.{changed_at-here}
use Rattle.bq_workload.proofs.ProcessorAgreesLemmas.{charged-is, since_now}

-- a switch fails where another task is to run, or none, at a processor whose time is counted
pub switched-astray : (p now : ℕ) (run next : Option ℕ) (l : ProcessorState) (old mid : Roster)
    → slice_get old.by_processor.items p ≡ Some l → is_same l.run run ≡ false
    → accounts_of mid ≡ accounts_charged p now (accounts_of old) → mid.periods ≡ old.periods → run ≡ next
    → IsStrayTakeover mid.periods p next now (accounts_of mid)
    → IsStraySwitch old.periods p run now (accounts_of old)
switched-astray p now run next l old mid at other is periods same astray =
    let here : IsStrayTakeover old.periods p run now (accounts_charged p now (accounts_of old)) =
    subst (λ (o : Option ℕ). IsStrayTakeover old.periods p o now (accounts_charged p now (accounts_of old))) (sym same)
    (subst (λ (a : Accounts). IsStrayTakeover old.periods p next now a) is
    (subst (λ (k : Periods). IsStrayTakeover k p next now (accounts_of mid)) periods astray)) in
    inr record { processor_state = l; at = at; other = other; astray = inr here }

-- where the time of a processor is counted, its next look stays
pub same-look : (p now : ℕ) (l m : ProcessorState) (old mid : Roster)
    → slice_get old.by_processor.items p ≡ Some l → accounts_of mid ≡ accounts_charged p now (accounts_of old)
    → slice_get mid.by_processor.items p ≡ Some m
    → m.look ≡ l.look
same-look p now l m old mid at is there =
    let a : Accounts = accounts_of old in
    let new : slice_get mid.by_processor.items p ≡ Some (since_now now l) =
    ap (λ (z : Accounts). slice_get z.by_processor p) (is ∙ charged-is p now l a at)
    ∙ changed_at-here (since_now now) a.by_processor p l at in
    ap (λ (k : ProcessorState). k.look) (same_Some m (since_now now l) (sym there ∙ new))

-- nothing runs any more at a processor whose time is counted
pub idled-plans : (p now : ℕ) (run : Option ℕ) (l m : ProcessorState) (by_task : List TaskProgress)
    (old mid : Roster) (x : List ℕ)
    → slice_get old.by_processor.items p ≡ Some l → is_same l.run run ≡ false → run ≡ None
    → accounts_of mid ≡ accounts_charged p now (accounts_of old) → mid.event_queue ≡ old.event_queue → mid.periods ≡ old.periods
    → slice_get mid.by_processor.items p ≡ Some m → PlansNone mid.periods p now m.look mid.event_queue x
    → PlansSwitch old.periods p run now (accounts_of old) by_task old.event_queue x
idled-plans p now run l m by_task old mid x at other none is event_queue periods there plans =
    let look : m.look ≡ l.look = same-look p now l m old mid at is there in
    let one : PlansNone old.periods p now l.look mid.event_queue x =
    subst (λ (k : Periods). PlansNone k p now l.look mid.event_queue x) periods
    (subst (λ (o : Option ℕ). PlansNone mid.periods p now o mid.event_queue x) look plans) in
    let two : PlansNone old.periods p now l.look old.event_queue x =
    subst (λ (q : List ℕ). PlansNone old.periods p now l.look q x) event_queue one in
    let runs : PlansRun old.periods p run now l by_task old.event_queue x =
    subst (λ (o : Option ℕ). PlansRun old.periods p o now l by_task old.event_queue x) (sym none) two in
    record {
      processor_state = l;
      at = at;
      plans = subst (λ (b : Bool). PlansUnless b old.periods p run now l by_task old.event_queue x) (sym other) runs;
    }
