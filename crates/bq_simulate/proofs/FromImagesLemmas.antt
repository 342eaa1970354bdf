-- What a simulation installs: the policies that it was given, and nothing beside them.
use Rattle.std.proofs.Common.{◌≡◌, ℕ, ◌+◌, zero, suc, List, [], ◌∷◌, ◌++◌, Option, None, Some, map, sym, subst, inl, inr}
use Rattle.std.specs.List.{AllByRecursion}
use Rattle.bq_workload.specs.declared.action.Action.{Action}
use Rattle.bq_workload.specs.declared.action.Action.TheVariants.{Run, Wake}
use Rattle.bq_workload.specs.declared.due.Due.{Due}
use Rattle.bq_workload.specs.declared.due.Due.TheVariants as due
use Rattle.bq_workload.specs.declared.periods.Periods.{Periods}
use Rattle.bq_workload.specs.declared.workload.TaskKind.{TaskKind}
use Rattle.bq_workload.specs.declared.workload.Workload.{Workload}
use Rattle.bq_parts.specs.declared.event.Event.{Event}
use Rattle.bq_parts.specs.declared.event.Event.TheVariants.{Block, Install, Tick}
use Rattle.bq_trace.specs.TraceEvents.{Reported}
use Rattle.bq_verify.specs.Accepted.{Accepted}
use Rattle.bq_simulate.specs.Deeds.{Book, Deed, Happens, events_of}
use Rattle.bq_simulate.specs.Replays.{AreOfImages, IsFromImages, IsLoadedFromImage}
use Rattle.bq_simulate.specs.Simulations.{IsSimulation, Proceeds}
use Rattle.bq_simulate.specs.Steps.{AreAdmitted, AreAllAdmitted, AreInstalled, AreJustEvents, AreWake, FollowsAction, DeedsMeet, MetDue, deeds_of, pulls_of}
use Rattle.bq_simulate.specs.Texts.{ByHook}

-- each policy that the deeds install is that of the image at its hook
abbrev InstallsImages : ByHook → List Deed → Type 0
InstallsImages images deeds = AllByRecursion (IsFromImages images) (events_of deeds)

-- deeds keep to the images where each part of them does, and where each of their events does, by cases:
joined : (images : ByHook) (xs ys : List Deed) → InstallsImages images xs → InstallsImages images ys → InstallsImages images (xs ++ ys)
joined images [] ys h k = k
joined images (Happens event reply ∷ xs) ys h k = (h.0, joined images xs ys h.1 k)
joined images (deed ∷ xs) ys h k = joined images xs ys h k

same : (images : ByHook) {xs ys : List Deed} → ys ≡ xs → InstallsImages images xs → InstallsImages images ys
same images is h = subst (InstallsImages images) (sym is) h

parts : (images : ByHook) {whole : List Deed} (xs ys : List Deed)
    → whole ≡ xs ++ ys → InstallsImages images xs → InstallsImages images ys → InstallsImages images whole
parts images xs ys is h k = same images is (joined images xs ys h k)

just : (images : ByHook) (events : List Event) (deeds : List Deed)
    → AllByRecursion (IsFromImages images) events → AreJustEvents events deeds → InstallsImages images deeds
just images [] deeds h is = same images is tt
just images (event ∷ events) deeds h (reply, more, is, rest) = same images is (h.0, just images events more h.1 rest)

-- a policy of its image, installed at some processors
installs : (images : ByHook) (generation : ℕ) (policy : Accepted) (processors : List ℕ) → IsLoadedFromImage (images policy.hook) policy
    → AllByRecursion (IsFromImages images) (map (λ processor. Install processor policy.hook generation (Some policy)) processors)
installs images generation policy [] h = tt
installs images generation policy (processor ∷ processors) h = (h, installs images generation policy processors h)

-- policies of images that are installed one after another are those of the images
installed : (images : ByHook) (processors : ℕ) (policies : List Accepted) (deeds : List Deed)
    → AreOfImages images policies → AreInstalled processors policies deeds → InstallsImages images deeds
installed images processors [] deeds h is = same images is tt
installed images processors (policy ∷ policies) deeds h (some, more, is, (generation, drawn, one, rest), others) =
    let first : InstallsImages images some = same images one (tt, just images _ drawn (installs images generation policy _ h.0) rest) in
    parts images some more is first (installed images processors policies more h.1 others)

-- whatever else is done installs nothing

-- admissions install nothing, of the tasks of one kind or of all kinds:
admitted : (images : ByHook) (processors number : ℕ) (kind : TaskKind) (task count : ℕ) (deeds : List Deed)
    → AreAdmitted processors number kind task count deeds → InstallsImages images deeds
admitted images processors number kind task zero deeds is = same images is tt
admitted images processors number kind task (suc count) deeds (some, more, is, (reply, home, allowed, one), rest) =
    parts images some more is (same images one (tt, tt)) (admitted images processors number kind (task + 1) count more rest)

all_admitted : (images : ByHook) (processors number task : ℕ) (kinds : List TaskKind) (deeds : List Deed)
    → AreAllAdmitted processors number task kinds deeds → InstallsImages images deeds
all_admitted images processors number task [] deeds is = same images is tt
all_admitted images processors number task (kind ∷ kinds) deeds (some, more, is, one, rest) =
    parts images some more is (admitted images processors number kind task kind.count some one)
    (all_admitted images processors (number + 1) (task + kind.count) kinds more rest)

-- a wake, a block and what follows an action install nothing:
wakes : (images : ByHook) (from task now : ℕ) (deeds : List Deed) → AreWake from task now deeds → InstallsImages images deeds
wakes images from task now deeds (begun, placed, drained, to, at, is) = same images is (tt, (tt, (tt, tt)))

blocks : (images : ByHook) (processor now : ℕ) (deeds : List Deed) → AreJustEvents (Block processor now ∷ []) deeds → InstallsImages images deeds
blocks images processor now deeds is = just images (Block processor now ∷ []) deeds (tt, tt) is

follows : (images : ByHook) (action : Option Action) (aim : Option ℕ) (processor now : ℕ) (deeds : List Deed)
    → FollowsAction action aim processor now deeds → InstallsImages images deeds
follows images (Some (Run asked)) aim processor now deeds is = same images is tt
follows images (Some (Wake kind)) (Some task) processor now deeds (inl is) = same images is tt
follows images (Some (Wake kind)) (Some task) processor now deeds (inr (more, is, woken)) =
    same images is (wakes images processor task now more woken)
follows images (Some (Wake kind)) None processor now deeds is = absurd is
follows images action aim processor now deeds is = blocks images processor now deeds is

-- the ticks of some processors, and the pull of one, install nothing:
ticks : (images : ByHook) (now : ℕ) (processors : List ℕ)
    → AllByRecursion (IsFromImages images) (map (λ processor. Tick processor now) processors)
ticks images now [] = tt
ticks images now (processor ∷ processors) = (tt, ticks images now processors)

pulls : (images : ByHook) (processor now : ℕ) (source : Option ℕ) → AllByRecursion (IsFromImages images) (pulls_of processor now source)
pulls images processor now None = tt
pulls images processor now (Some from) = (tt, tt)

-- what is done when a thing comes due installs nothing, and so does all that is done for several:
meets : (images : ByHook) (due : Due) (now : ℕ) (deeds : List Deed) → DeedsMeet due now deeds → InstallsImages images deeds
meets images (due.End processor) now deeds (task, action, aim, more, is, rest) =
    same images is (follows images action aim processor now more rest)
meets images (due.Wake task) now deeds (home, more, is, rest) = same images is (wakes images home task now more rest)
meets images (due.Tick processor) now deeds (more, is, rest) = same images is (just images (Tick processor now ∷ []) more (tt, tt) rest)
meets images (due.Look processor) now deeds (source, more, is, rest) =
    same images is (just images (pulls_of processor now source) more (pulls images processor now source) rest)

all_met : (images : ByHook) (steps : List MetDue) → InstallsImages images (deeds_of steps)
all_met images [] = tt
all_met images (step ∷ steps) =
    joined images step.deeds (deeds_of steps) (meets images step.due step.at step.deeds step.meet) (all_met images steps)

-- a simulation that proceeds with policies of images installs only those
proceeds : (images : ByHook) (policies : List Accepted) (processors : ℕ) (kinds : List TaskKind) (seed : ℕ)
    (periods : Periods) (most end : ℕ) (b : Book) (deeds : List Deed)
    → AreOfImages images policies → Proceeds policies processors kinds seed periods most end b deeds
    → InstallsImages images deeds
proceeds images policies processors kinds seed periods most end b deeds h p =
    let opens = p.opens in
    let first = installed images processors policies opens.installs h opens.installed in
    let then = all_admitted images processors 0 0 kinds opens.admissions opens.admitted in
    parts images p.opening p.met p.whole (parts images opens.installs opens.admissions opens.whole first then)
    (same images p.meets.whole (all_met images p.meets.steps))

-- where the policies that a simulation is given are those of images, so are the policies that it installs
pub installs_of_images : (images : ByHook) (policies : List Accepted) (w : Workload) (reported : Reported)
    (s : IsSimulation policies w reported)
    → AreOfImages images policies → AllByRecursion (IsFromImages images) (events_of s.deeds)
installs_of_images images policies w reported s h =
    let e = s.ends in
    let until = proceeds images policies _ _ _ _ _ _ _ e.until h e.proceeds in
    parts images e.until e.last e.whole until (just images _ e.last (ticks images w.machine.duration _) e.ticks)
