-- All that is kept from the opening of a simulation on.
use Rattle.std.proofs.Common.{◌≡◌, ℕ, ◌≤◌, inl, inr, List, [], ◌∷◌, length, Option, Some, None, refl, sym, subst, ap, ◌∙◌, arith}
use Rattle.std.specs.Prelude.{Ok}
use Rattle.std.proofs.lemmas.Option.{none-some}
use Rattle.bq_core.proofs.SizeLemmas.{step_count}
use Rattle.bq_parts.specs.Choices.{by_programs}
use Rattle.bq_parts.specs.World.{count_in}
use Rattle.bq_trace.specs.Machines.{discipline_of}
use Rattle.bq_parts.specs.declared.event.Event.{Event}
use Rattle.bq_parts.specs.declared.event.Event.TheVariants.{Block, Pull, Tick}
use Rattle.bq_trace.specs.TraceEvents.{Reported}
use Rattle.bq_verify.specs.Accepted.{Accepted}
use Rattle.bq_words.specs.Sizes.{processors_in}
use Rattle.bq_words.proofs.SizeLemmas.{processors_in-few}
use Rattle.bq_workload.specs.declared.action.Action.{Action}
use Rattle.bq_workload.specs.declared.action.Action.TheVariants.{Run, Sleep, Wait, Wake}
use Rattle.bq_workload.specs.declared.due.Due.{Due}
use Rattle.bq_workload.specs.declared.due.Due.TheVariants as due
use Rattle.bq_workload.specs.declared.progress.TaskProgress.{TaskProgress}
use Rattle.bq_workload.specs.declared.periods.Periods.{Periods}
use Rattle.bq_workload.specs.declared.workload.TaskKind.{TaskKind}
use Rattle.bq_workload.specs.declared.workload.Workload.{Workload}
use Rattle.bq_workload.specs.Accounts.{Accounts, accounts_charged}
use Rattle.bq_workload.specs.Next.{IsNextDue}
use Rattle.bq_workload.specs.Soundness.{first_flaw}
use Rattle.bq_simulate.specs.declared.driver.Driver.{Driver}
use Rattle.bq_simulate.specs.Deeds.{Acts, Beats, Book, Deed, Happens, Joins, DeedsLead, Looks, Misses, Reaches, Rings, after_act, after_answer, after_beat, after_look}
use Rattle.bq_simulate.specs.Drives.{ReadingRises, Starts, reading_of_event}
use Rattle.bq_simulate.specs.Kept.{IsKept, StandAtActions}
use Rattle.bq_simulate.specs.KeptLaws.{AllIsKept, BeginningsAreKept, DeedsLeadIn}
use Rattle.bq_simulate.specs.Simulations.{opening_book, periods_of}
use Rattle.bq_simulate.specs.Steps.{AreInOrder, AreJustEvents, AreWake, FollowsAction, DeedsMeet, Opens, MetDue, WakesTask, deeds_of, pulls_of}
use Rattle.bq_simulate.proofs.AccountsReadLemmas.{changed_at-length}
use Rattle.bq_simulate.proofs.BookLemmas.{kept-by}
use Rattle.bq_simulate.proofs.MeetAgreeLemmas.{meetings_agree, step_of, world_of}
use Rattle.bq_simulate.proofs.MeetOnTimeLemmas.{meetings_are_on_time}
use Rattle.bq_simulate.proofs.NothingMissedLemmas.{nothing_is_missed}
use Rattle.bq_simulate.proofs.SimulationAgreeLemmas.{none_kept, opened_open, part}
use Rattle.bq_simulate.proofs.SoundWorkloadLemmas.{sound_times}
use Rattle.bq_simulate.proofs.StandsAtActionLemmas.{charged_keeps, count_of_places, event_keeps, standing_is_kept}

-- What is done at an instant

-- a reading that is no later than an instant
abbrev pub IsReadBy : ℕ → Option ℕ → Type 0
IsReadBy now None = Unit {0}
IsReadBy now (Some reading) = reading ≤ now

-- deeds of which none is a task that joins, with readings that are no later than an instant
abbrev pub AreBy : ℕ → List Deed → Type 0
AreBy now [] = Unit {0}
AreBy now (Happens event reply ∷ deeds) = IsReadBy now (reading_of_event event) × AreBy now deeds
AreBy now (Joins kind home ∷ deeds) = ⊥
AreBy now (Acts processor task at action aim ∷ deeds) = AreBy now deeds
AreBy now (Rings task at ∷ deeds) = AreBy now deeds
AreBy now (Reaches task ∷ deeds) = AreBy now deeds
AreBy now (Misses task ∷ deeds) = AreBy now deeds
AreBy now (Beats processor at ∷ deeds) = AreBy now deeds
AreBy now (Looks processor at source ∷ deeds) = AreBy now deeds

-- one event that is read by then is such a list of deeds, and so is the empty list:
one_by : (now : ℕ) (event : Event) (deeds : List Deed) → IsReadBy now (reading_of_event event) → AreJustEvents (event ∷ []) deeds → AreBy now deeds
one_by now event deeds read (reply, more, is, none) = subst (λ l. AreBy now l) (sym is) (read, subst (λ l. AreBy now l) (sym none) tt)

none_by : (now : ℕ) (deeds : List Deed) → deeds ≡ [] → AreBy now deeds
none_by now deeds none = subst (λ l. AreBy now l) (sym none) tt

-- the deeds of a wake at that instant, those that follow an action and those of a pull are such a list:
wake_by : (now from task : ℕ) (deeds : List Deed) → AreWake from task now deeds → AreBy now deeds
wake_by now from task deeds (begun, placed, drained, to, at, is) =
    let same : now ≤ now = omega arith in
    subst (λ l. AreBy now l) (sym is) (tt, (same, (same, tt)))

wakes_by : (now task processor : ℕ) (deeds : List Deed) → WakesTask task processor now deeds → AreBy now deeds
wakes_by now task processor deeds (inl is) = subst (λ l. AreBy now l) (sym is) tt
wakes_by now task processor deeds (inr (more, is, wake)) = subst (λ l. AreBy now l) (sym is) (wake_by now processor task more wake)

follow_by : (action : Option Action) (aim : Option ℕ) (processor now : ℕ) (deeds : List Deed)
    → FollowsAction action aim processor now deeds → AreBy now deeds
follow_by None aim processor now deeds follow = one_by now (Block processor now) deeds (omega arith) follow
follow_by (Some (Run asked)) aim processor now deeds follow = none_by now deeds follow
follow_by (Some (Sleep asked)) aim processor now deeds follow = one_by now (Block processor now) deeds (omega arith) follow
follow_by (Some Wait) aim processor now deeds follow = one_by now (Block processor now) deeds (omega arith) follow
follow_by (Some (Wake kind)) None processor now deeds follow = absurd follow
follow_by (Some (Wake kind)) (Some task) processor now deeds follow = wakes_by now task processor deeds follow

pulls_by : (source : Option ℕ) (processor now : ℕ) (deeds : List Deed) → AreJustEvents (pulls_of processor now source) deeds → AreBy now deeds
pulls_by None processor now deeds none = none_by now deeds none
pulls_by (Some from) processor now deeds just = one_by now (Pull processor from now) deeds (omega arith) just

-- the deeds that meet what comes due at that instant are such a list
met_by : (due : Due) (now : ℕ) (deeds : List Deed) → DeedsMeet due now deeds → AreBy now deeds
met_by (due.End processor) now deeds (task, action, aim, more, is, follow) =
    subst (λ l. AreBy now l) (sym is) (follow_by action aim processor now more follow)
met_by (due.Wake task) now deeds (home, more, is, wake) = subst (λ l. AreBy now l) (sym is) (wake_by now home task more wake)
met_by (due.Tick processor) now deeds (more, is, just) =
    subst (λ l. AreBy now l) (sym is) (one_by now (Tick processor now) more (omega arith) just)
met_by (due.Look processor) now deeds (source, more, is, just) = subst (λ l. AreBy now l) (sym is) (pulls_by source processor now more just)

-- a last reading that rises by a reading no later than an instant is no later than that
rises_by : (now last next : ℕ) (reading : Option ℕ) → IsReadBy now reading → ReadingRises last reading next → last ≤ now → next ≤ now
rises_by now last next None read rises low = omega (arith, rises, low)
rises_by now last next (Some reading) read rises low = omega (arith, rises.2, read)

-- there are as many tasks once one has taken up its next action
act_count : (kinds : List TaskKind) (seed processor task now : ℕ) (c : TaskProgress) (b : Book)
    → length (after_act kinds seed processor task now c b).accounts.by_task ≡ length b.accounts.by_task
act_count kinds seed processor task now c b =
    changed_at-length _ (accounts_charged processor now b.accounts).by_task task
    ∙ charged_keeps (λ (x : Accounts). length x.by_task ≡ length b.accounts.by_task)
    (count_of_places (length b.accounts.by_task)) processor now b.accounts refl

-- no clock was given a later reading, and there are as many tasks and processors
pub by_kept : (kinds : List TaskKind) (seed : ℕ) (periods : Periods) (d e : Driver) (b c : Book) (now : ℕ)
    (deeds : List Deed) (reported : Reported)
    → AreBy now deeds → DeedsLead kinds seed periods d b deeds reported e c → d.now ≤ now
    → (e.now ≤ now) × (length c.accounts.by_task ≡ length b.accounts.by_task) × (count_in (world_of e) ≡ count_in (world_of d))
by_kept kinds seed periods d e b c now [] reported are (none, same, kept) low = (
  subst (λ (x : Driver). x.now ≤ now) (sym same) low,
  ap (λ (x : Book). length x.accounts.by_task) kept,
  ap (λ (x : Driver). count_in (world_of x)) same,
)
by_kept kinds seed periods d e b c now (Happens event reply ∷ deeds) reported are
    (due, mid, first, rest, does, leads, whole) low =
    let later =
    by_kept kinds seed periods mid e (after_answer periods event reply b) c now deeds rest are.1 leads
    (rises_by now d.now mid.now (reading_of_event event) are.0 does.rises low) in
    let step = step_of d event reply first mid does in (
      later.0,
      later.1 ∙ event_keeps (λ (x : Accounts). length x.by_task ≡ length b.accounts.by_task)
          (count_of_places (length b.accounts.by_task)) periods event reply b.accounts refl,
      later.2 ∙ step_count (by_programs (discipline_of d.machine.discipline)) (world_of d) event does.happens.moves.step.calls
          (Ok reply) (world_of mid) step,
    )
by_kept kinds seed periods d e b c now (Joins kind home ∷ deeds) reported are leads low = absurd are
by_kept kinds seed periods d e b c now (Acts at task then action aim ∷ deeds) reported are (k, done, is, to, leads) low =
    let later = by_kept kinds seed periods d e (after_act kinds seed at task then k b) c now deeds reported are leads low in
    (later.0, later.1 ∙ act_count kinds seed at task then k b, later.2)
by_kept kinds seed periods d e b c now (Rings task then ∷ deeds) reported are (k, there, asleep, timer, leads) low =
    by_kept kinds seed periods d e b c now deeds reported are leads low
by_kept kinds seed periods d e b c now (Reaches task ∷ deeds) reported are (k, there, waits, leads) low =
    by_kept kinds seed periods d e b c now deeds reported are leads low
by_kept kinds seed periods d e b c now (Misses task ∷ deeds) reported are (k, there, waits, leads) low =
    by_kept kinds seed periods d e b c now deeds reported are leads low
by_kept kinds seed periods d e b c now (Beats at then ∷ deeds) reported are (ticks, busy, leads) low =
    by_kept kinds seed periods d e (after_beat periods at then b) c now deeds reported are leads low
by_kept kinds seed periods d e b c now (Looks at then source ∷ deeds) reported are (looks, from, leads) low =
    by_kept kinds seed periods d e (after_look periods at then b) c now deeds reported are leads low

-- From one thing to the next

-- no task stands anywhere yet
pub none_stands : (w : Workload) → StandAtActions w.tasks.items (opening_book w.machine)
none_stands w = record { tasks = λ task c at. absurd (none-some c at); streams = refl }

-- once a simulation has opened all is kept, at instant 0
opened : (policies : List Accepted) (w : Workload) (d e : Driver) (b : Book) (deeds : List Deed) (first reported : Reported)
    → first_flaw w ≡ None → Starts w.machine.discipline w.machine.size first d
    → Opens policies (processors_in w.machine.size) w.tasks.items deeds
    → DeedsLeadIn w d (opening_book w.machine) deeds reported e b
    → IsKept w.tasks.items 0 e b
opened policies w d e b deeds first reported sound starts opens leads =
    let o = opened_open policies w d e b deeds first reported starts opens leads in
    record {
      agrees = o.agree;
      on_time = o.on_time;
      read = omega (arith, o.read);
      standing = standing_is_kept w d e (opening_book w.machine) b deeds reported sound leads (none_stands w);
      all = o.tasks_there;
      few = omega (arith, o.processors_there, processors_in-few w.machine.size);
    }

-- what comes next is not past and comes by the end, and at that instant all is kept
comes : (w : Workload) (d : Driver) (b : Book) (due : Due) (now time : ℕ)
    → first_flaw w ≡ None → IsKept w.tasks.items now d b → IsNextDue w.machine.duration b.accounts due time
    → (now ≤ time) × (time ≤ w.machine.duration) × IsKept w.tasks.items time d b
comes w d b due now time sound h next =
    let m = nothing_is_missed w.machine.duration now time b.accounts due (sound_times w sound).duration h.on_time next in (
      m.0,
      m.1,
      record { agrees = h.agrees; on_time = m.2; read = omega (arith, h.read, m.0); standing = h.standing; all = h.all; few = h.few },
    )

-- all is kept once what comes due is met
met : (w : Workload) (d e : Driver) (b c : Book) (due : Due) (now : ℕ) (deeds : List Deed) (reported : Reported)
    → first_flaw w ≡ None → now ≤ w.machine.duration → DeedsMeet due now deeds → DeedsLeadIn w d b deeds reported e c
    → IsKept w.tasks.items now d b
    → IsKept w.tasks.items now e c
met w d e b c due now deeds reported sound until meet leads h =
    let kinds = w.tasks.items in
    let seed = w.machine.seed in
    let periods = periods_of w.machine in
    let times = sound_times w sound in
    let by = by_kept kinds seed periods d e b c now deeds reported (met_by due now deeds meet) leads h.read in
    record {
      agrees = meetings_agree kinds seed periods d e b c due now deeds reported meet leads h.agrees;
      on_time =
          meetings_are_on_time kinds seed periods d e b c due now deeds reported times.tick times.balance
          (omega (arith, times.duration, until)) meet leads h.agrees h.on_time;
      read = by.0;
      standing = standing_is_kept w d e b c deeds reported sound leads h.standing;
      all = by.1 ∙ h.all;
      few = omega (arith, by.2, h.few);
    }

-- all is kept from one thing to the next
pub all_is_kept : AllIsKept
all_is_kept = record { opened = opened; comes = comes; met = met }

-- along all that is met
steps_kept : (w : Workload) (d e : Driver) (b c : Book) (steps : List MetDue) (reported : Reported) (now : ℕ)
    → first_flaw w ≡ None → AreInOrder w.tasks.items w.machine.seed (periods_of w.machine) b steps
    → DeedsLeadIn w d b (deeds_of steps) reported e c → now ≤ w.machine.duration → IsKept w.tasks.items now d b
    → (last : ℕ) × (last ≤ w.machine.duration) × IsKept w.tasks.items last e c
steps_kept w d e b c [] reported now sound order leads low h = (
  now,
  low,
  none_kept (IsKept w.tasks.items now) w.tasks.items w.machine.seed (periods_of w.machine) d e b c []
      reported refl leads h,
)
steps_kept w d e b c (step ∷ steps) reported now sound order leads low h =
    let kinds = w.tasks.items in
    let seed = w.machine.seed in
    let periods = periods_of w.machine in
    let s = part kinds seed periods d e b c step.deeds (deeds_of steps) reported leads in
    let next = comes w d b step.due now step.at sound h order.0 in
    let after = met w d s.mid b s.book step.due step.at step.deeds s.first sound next.1 step.meet s.one next.2 in
    let book = kept-by kinds seed periods d s.mid b s.book step.deeds s.first s.one in
    steps_kept w s.mid e s.book c steps s.more step.at sound
    (subst (λ x. AreInOrder kinds seed periods x steps) (sym book) order.1) s.two next.1 after

-- all is kept wherever a simulation has been followed to
pub beginnings_are_kept : BeginningsAreKept
beginnings_are_kept policies w reported sound s =
    let kinds = w.tasks.items in
    let seed = w.machine.seed in
    let periods = periods_of w.machine in
    let start = opening_book w.machine in
    let p = s.proceeds in
    let m = p.meets in
    let t =
    part kinds seed periods s.opening s.closing start s.book p.opening p.met s.more
    (subst (λ l. DeedsLead kinds seed periods s.opening start l s.more s.closing s.book) p.whole s.leads) in
    let start_kept = opened policies w s.opening t.mid t.book p.opening s.first t.first sound s.starts p.opens t.one in
    let book = kept-by kinds seed periods s.opening t.mid start t.book p.opening t.first t.one in
    steps_kept w t.mid s.closing t.book s.book m.steps t.more 0 sound
    (subst (λ x. AreInOrder kinds seed periods x m.steps) (sym book) m.order)
    (subst (λ l. DeedsLead kinds seed periods t.mid t.book l t.more s.closing s.book) m.whole t.two) (omega arith) start_kept
