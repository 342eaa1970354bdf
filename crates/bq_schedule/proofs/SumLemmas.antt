-- The times of tasks and processors are the sums of their slices.
use Rattle.std.proofs.Common.{◌≡◌, ◌≢◌, ℕ, ◌+◌, ◌-◌, ◌*◌, ◌^◌, ◌<◌, ◌≤◌, Bool, true, false, List, [], ◌∷◌, ◌++◌, length, get_or, Option, Some, None, refl, sym, ap, ◌∙◌, inl, inr, get_or-set_same, get_or-set_other, eqb, ltb, cond, append-nil, suc, arith}
use Rattle.std.specs.Prelude.{slice_set, option_to_list, All}
use Rattle.std.specs.List.{sum_by}
use Rattle.std.proofs.lemmas.Bool.Decides.{eqb_tells}
use Rattle.std.proofs.lemmas.List.{get_or-replicate, length-replicate}
use Rattle.std.proofs.lemmas.List.Elements.{All-from_get_or}
use Rattle.std.proofs.lemmas.List.Sums.{sum_by-cons, sum_by_push, sum_by-set, sum_by-le}
use Rattle.bq_disc.specs.declared.clock.TheConstants.{LATEST}
use Rattle.bq_disc.specs.OneProcessor.{reading}
use Rattle.bq_schedule.specs.declared.slice.Slice.{Slice}
use Rattle.bq_schedule.specs.declared.change.Start.{Start}
use Rattle.bq_schedule.specs.declared.figures.ProcessorFigures.{ProcessorFigures}
use Rattle.bq_schedule.specs.declared.figures.TaskFigures.{TaskFigures}
use Rattle.bq_disc.specs.Counts.{saturating_sum}
use Rattle.bq_schedule.specs.Histories.{AnsweredEvent, History}
use Rattle.bq_schedule.specs.Figures.{Figures, unread, unknown, processor_in_figures, task_in_figures, figures_with_processor, figures_with_task}
use Rattle.bq_schedule.specs.Passing.{slice_between, slice_at, slice_length, figures_read, processor_read, with_charged, task_charged}
use Rattle.bq_schedule.specs.Slices.{ShownByAnswer, shown_by_answer, clock_after, clock, slice_shown, slices, time_if, time_in, is_of, is_slice_at}
use Rattle.bq_schedule.specs.Steps.{figures_after, figures}
use Rattle.bq_schedule.specs.Laws.{IsShownWithin, IsOfProcessors}
use Rattle.bq_schedule.proofs.TestLemmas.{Tells}
use Rattle.bq_schedule.proofs.FrameLemmas.{Works, KeepsWorks, tasks-read_at, processors-read_at}
use Rattle.bq_schedule.proofs.SliceTimeLemmas.{slice_seen, shown-seen}
use Rattle.bq_schedule.proofs.ClockLemmas.{Shows, figures-clocks, shows-after, count-figures, within-figures, processor-read_at}

-- what a slice is worth, if there is one
abbrev pub time_of : (Slice → Bool) → Option Slice → ℕ
time_of chosen None = 0
time_of chosen (Some s) = time_if chosen s

-- one more slice, or none, adds what it is worth
time_in-more : (chosen : Slice → Bool) (xs : List Slice) (o : Option Slice)
    → time_in chosen (xs ++ option_to_list o) ≡ time_in chosen xs + time_of chosen o
time_in-more chosen xs None = ap (time_in chosen) (append-nil xs) ∙ omega arith
time_in-more chosen xs (Some s) = sum_by_push (time_if chosen) xs s

-- each slice is chosen
abbrev pub any : Slice → Bool
any s = true

-- a length that is chosen or not counts for no more than itself
time_if-le : (b : Bool) (n : ℕ) → cond b n 0 ≤ n
time_if-le true n = omega arith
time_if-le false n = omega arith

-- some slices take no more than all of them
time_in-le : (chosen : Slice → Bool) (xs : List Slice) → time_in chosen xs ≤ time_in any xs
time_in-le chosen [] = omega arith
time_in-le chosen (x ∷ xs) =
    omega (
      arith,
      sum_by-cons (time_if chosen) x xs,
      sum_by-cons (time_if any) x xs,
      time_if-le (chosen x) (x.to - x.from),
      time_in-le chosen xs,
    )

-- lists alike under f have the same sum
sums_alike : (f : ProcessorFigures → ℕ) (xs ys : List ProcessorFigures)
    → length xs ≡ length ys → ((j : ℕ) → f (get_or xs j unread) ≡ f (get_or ys j unread))
    → sum_by f xs ≡ sum_by f ys
sums_alike f [] [] e h = refl
sums_alike f [] (y ∷ ys) e h = absurd (omega arith)
sums_alike f (x ∷ xs) [] e h = absurd (omega arith)
sums_alike f (x ∷ xs) (y ∷ ys) e h =
    let tails : length xs ≡ length ys = omega arith in
    omega (arith, sum_by-cons f x xs, sum_by-cons f y ys, h 0, sums_alike f xs ys tails (λ j. h (suc j)))

-- the last reading of a processor
abbrev pub last_of : ProcessorFigures → ℕ
last_of p = p.last

-- all clocks together
abbrev pub clocks_of : Figures → ℕ
clocks_of s = sum_by last_of s.processors

-- a slice between two readings is no longer than what lies between them
slice_between-le_rise : (processor from to : ℕ) (running : Option Start) (b : Bool)
    → ltb from to ≡ b → from ≤ to → time_of any (slice_between processor from to running) ≤ to - from
slice_between-le_rise processor from to None b e h = omega arith
slice_between-le_rise processor from to (Some start) true e h = rw e (omega arith)
slice_between-le_rise processor from to (Some start) false e h = rw e (omega arith)

-- a slice is no longer than its clock has risen
slice-le-rise : (processor now : ℕ) (p : ProcessorFigures) → time_of any (slice_at processor p now) + p.last ≤ reading p.last now
slice-le-rise processor now p =
    omega (arith, slice_between-le_rise processor p.last (reading p.last now) p.running (ltb p.last (reading p.last now)) refl (omega arith))

-- a reading raises all clocks together by no less than its slice
clocks_of-read_at : (processor now : ℕ) (s : Figures) → processor < length s.processors
    → clocks_of s + time_of any (slice_at processor (processor_in_figures s processor) now) ≤ clocks_of (figures_read processor now s)
clocks_of-read_at processor now s inside =
    let p = processor_in_figures s processor in
    omega (
      arith,
      slice-le-rise processor now p,
      sum_by-set last_of s.processors processor (processor_read processor p now) unread inside,
      ap (λ l. sum_by last_of l) (processors-read_at processor now s),
    )

-- what keeps the works keeps all clocks together
clocks_of-kept : (s t : Figures) → KeepsWorks s t → clocks_of t ≡ clocks_of s
clocks_of-kept s t h = sums_alike last_of t.processors s.processors h.count (λ j. ap (λ (w : Works). w.last) (h.at j))

-- an answered event raises all clocks together by no less than its slice
clocks_of-shown : (s s' : Figures) (o : Option ShownByAnswer) → IsShownWithin (length s.processors) o → Shows s s' o
    → clocks_of s + time_of any (slice_seen s o) ≤ clocks_of s'
clocks_of-shown s s' None w h = omega (arith, clocks_of-kept s s' h.0)
clocks_of-shown s s' (Some x) w h = omega (arith, clocks_of-kept (figures_read x.processor x.now s) s' h.0, clocks_of-read_at x.processor x.now s w)

-- all slices together are no longer than all clocks
slices-le-clocks : (count : ℕ) (past : History) → IsOfProcessors count past → time_in any (slices past) ≤ clocks_of (figures count past)
slices-le-clocks count [] h = omega arith
slices-le-clocks count (m ∷ past) h =
    let s = figures count past in
    let o = shown_by_answer m.event m.answer in
    let w = within-figures count past m h in
    omega (
      arith,
      slices-le-clocks count past h.1,
      clocks_of-shown s (figures_after s m.event m.answer) o w (shows-after s m.event m.answer w),
      time_in-more any (slices past) (slice_shown past o),
      ap (time_of any) (shown-seen count past o h.1 h.0),
    )

-- each clock is at most the latest reading, by a reading, by an answered event, and in each history:
short_if : (b : Bool) (last now : ℕ) → last ≤ LATEST → cond b (reading last now) last ≤ LATEST
short_if true last now h = omega arith
short_if false last now h = h

short_after : (processor last : ℕ) (o : Option ShownByAnswer) → last ≤ LATEST → clock_after processor last o ≤ LATEST
short_after processor last None h = h
short_after processor last (Some x) h = short_if (eqb x.processor processor) last x.now h

clock-is-short : (processor : ℕ) (past : History) → clock processor past ≤ LATEST
clock-is-short processor [] = omega arith
clock-is-short processor (m ∷ past) =
    short_after processor (clock processor past) (shown_by_answer m.event m.answer) (clock-is-short processor past)

-- the greatest sum of the clocks of 255 processors, in nanoseconds: below 2^56
abbrev pub most_of_clocks : ℕ
most_of_clocks = 255 * LATEST

-- all clocks together stay within that sum
pub clocks_of-le : (count : ℕ) (past : History) → count ≤ 255 → IsOfProcessors count past
    → clocks_of (figures count past) ≤ most_of_clocks
clocks_of-le count past few h =
    let s = figures count past in
    let all : All (λ (p : ProcessorFigures). last_of p ≤ LATEST) s.processors =
    All-from_get_or (λ (p : ProcessorFigures). last_of p ≤ LATEST) s.processors unread (λ i inside.
    let i' : i < count = omega (arith, count-figures count past h) in
    omega (arith, (figures-clocks count past i h i').0, clock-is-short i past)) in
    omega (arith, count-figures count past h, sum_by-le last_of LATEST s.processors all)

-- the time of a task rises by the slices that are of it
task-charged : (s : Figures) (x : Slice) (id : ℕ) (b : Bool) → id < length s.tasks
    → Tells b (x.task ≡ id) (x.task ≢ id)
    → (task_in_figures (figures_with_task s x.task (task_charged (task_in_figures s x.task) (x.to - x.from))) id).time
    ≡ cond b (saturating_sum (task_in_figures s id).time (x.to - x.from)) (task_in_figures s id).time
task-charged s x id true inside (inl same) =
    ap (λ k. (get_or (slice_set s.tasks k (task_charged (task_in_figures s k) (x.to - x.from))) id unknown).time) same.1
    ∙ ap (λ (t : TaskFigures). t.time) (get_or-set_same s.tasks id (task_charged (task_in_figures s id) (x.to - x.from)) unknown inside)
task-charged s x id false inside (inl same) = absurd (cc)
task-charged s x id true inside (inr other) = absurd (cc)
task-charged s x id false inside (inr other) =
    ap (λ (t : TaskFigures). t.time)
    (get_or-set_other s.tasks x.task id (task_charged (task_in_figures s x.task) (x.to - x.from)) unknown (λ e. other.1 (sym e)))

-- a sum that fits in 64 bits is counted in full
saturating_sum-is : (b : Bool) (n more : ℕ) → n + cond b more 0 ≤ 2 ^ 64 - 1
    → cond b (saturating_sum n more) n ≡ n + cond b more 0
saturating_sum-is true n more h = omega arith
saturating_sum-is false n more h = omega arith

-- a charge adds a slice to the time of its task, and of no other, if the time fits in 64 bits
time-charged : (s : Figures) (o : Option Slice) (id : ℕ) → id < length s.tasks
    → (task_in_figures s id).time + time_of (is_of id) o ≤ 2 ^ 64 - 1
    → (task_in_figures (with_charged s o) id).time ≡ (task_in_figures s id).time + time_of (is_of id) o
time-charged s None id inside fits = omega arith
time-charged s (Some x) id inside fits =
    task-charged s x id (eqb x.task id) inside (eqb_tells x.task id)
    ∙ saturating_sum-is (eqb x.task id) (task_in_figures s id).time (x.to - x.from) fits

-- an answered event adds its slice to the time of its task, and of no other, if the time fits in 64 bits
time-shown : (s s' : Figures) (o : Option ShownByAnswer) (id : ℕ) → id < length s.tasks
    → (task_in_figures s id).time + time_of (is_of id) (slice_seen s o) ≤ 2 ^ 64 - 1 → Shows s s' o
    → (task_in_figures s' id).time ≡ (task_in_figures s id).time + time_of (is_of id) (slice_seen s o)
time-shown s s' None id inside fits h = omega (arith, h.0.times id)
time-shown s s' (Some x) id inside fits h =
    h.0.times id ∙ time-charged (figures_with_processor s x.processor (processor_read x.processor (processor_in_figures s x.processor) x.now))
    (slice_at x.processor (processor_in_figures s x.processor) x.now) id inside fits

-- after an answered event there are as many tasks as before
tasks-shown : (s s' : Figures) (o : Option ShownByAnswer) → Shows s s' o → length s'.tasks ≡ length s.tasks
tasks-shown s s' None h = h.0.tasks
tasks-shown s s' (Some x) h = h.0.tasks ∙ tasks-read_at x.processor x.now s

-- the figures of a history have 1024 tasks
pub tasks-figures : (count : ℕ) (past : History) → IsOfProcessors count past → length (figures count past).tasks ≡ 1024
tasks-figures count [] h = length-replicate 1024 unknown
tasks-figures count (m ∷ past) h =
    let s = figures count past in
    tasks-shown s _ (shown_by_answer m.event m.answer) (shows-after s m.event m.answer (within-figures count past m h))
    ∙ tasks-figures count past h.1

-- any part of the slices fits in 64 bits, with the next slice
fits-next : (chosen : Slice → Bool) (count : ℕ) (past : History) (m : AnsweredEvent) → count ≤ 255 → IsOfProcessors count (m ∷ past) →
    time_in chosen (slices past) + time_of chosen (slice_shown past (shown_by_answer m.event m.answer)) ≤ 2 ^ 64 - 1
fits-next chosen count past m few h =
    omega (
      arith,
      time_in-more chosen (slices past) (slice_shown past (shown_by_answer m.event m.answer)),
      time_in-le chosen (slices (m ∷ past)),
      slices-le-clocks count (m ∷ past) h,
      clocks_of-le count (m ∷ past) few h,
    )

-- the time of a task is the sum of its slices
pub time_is_sum_of_slices : (count : ℕ) (past : History) → count ≤ 255 → IsOfProcessors count past → (id : ℕ) → id < 1024
    → (task_in_figures (figures count past) id).time ≡ time_in (is_of id) (slices past)
time_is_sum_of_slices count [] few h id inside = ap (λ (t : TaskFigures). t.time) (get_or-replicate 1024 id unknown unknown inside)
time_is_sum_of_slices count (m ∷ past) few h id inside =
    let s = figures count past in
    let o = shown_by_answer m.event m.answer in
    let before = time_is_sum_of_slices count past few h.1 id inside in
    let seen = ap (time_of (is_of id)) (shown-seen count past o h.1 h.0) in
    let inside' : id < length s.tasks = omega (arith, tasks-figures count past h.1) in
    let fits : (task_in_figures s id).time + time_of (is_of id) (slice_seen s o) ≤ 2 ^ 64 - 1 =
    omega (arith, before, seen, fits-next (is_of id) count past m few h) in
    omega (
      arith,
      before,
      seen,
      time_in-more (is_of id) (slices past) (slice_shown past o),
      time-shown s (figures_after s m.event m.answer) o id inside' fits (shows-after s m.event m.answer (within-figures count past m h)),
    )

-- the busy time of a processor rises by the slices that are there
busy-read_at : (processor now j : ℕ) (s : Figures) (b : Bool)
    → j < length s.processors → Tells b (processor ≡ j) (processor ≢ j)
    → (cond b (processor_read processor (processor_in_figures s processor) now) (processor_in_figures s j)).busy
    ≡ cond b (saturating_sum (processor_in_figures s j).busy (slice_length (slice_at processor (processor_in_figures s processor) now)))
    (processor_in_figures s j).busy
busy-read_at processor now j s true inside (inl same) =
    ap (λ k. saturating_sum (processor_in_figures s k).busy (slice_length (slice_at processor (processor_in_figures s processor) now))) same.1
busy-read_at processor now j s false inside (inl same) = refl
busy-read_at processor now j s true inside (inr other) = absurd (cc)
busy-read_at processor now j s false inside (inr other) = refl

-- all slices of a reading are at its processor
cond-none : (b : Bool) → ◌≡◌ {A = ℕ} (cond b 0 0) 0
cond-none true = refl
cond-none false = refl

time_of-some : (processor j from to : ℕ) (start : Start) (b : Bool) →
    time_of (is_slice_at j) (cond b (Some (record { processor = processor; task = start.task; from = from; to = to })) None)
    ≡ cond (eqb processor j) (slice_length (cond b (Some (record { processor = processor; task = start.task; from = from; to = to })) None)) 0
time_of-some processor j from to start true = refl
time_of-some processor j from to start false = sym (cond-none (eqb processor j))

time_of-at : (processor j from to : ℕ) (running : Option Start)
    → time_of (is_slice_at j) (slice_between processor from to running)
    ≡ cond (eqb processor j) (slice_length (slice_between processor from to running)) 0
time_of-at processor j from to None = sym (cond-none (eqb processor j))
time_of-at processor j from to (Some start) = time_of-some processor j from to start (ltb from to)

-- an answered event adds its slice to the busy time of its processor, and of no other, if the time fits in 64 bits
busy-shown : (s s' : Figures) (o : Option ShownByAnswer) (j : ℕ) → j < length s.processors
    → (processor_in_figures s j).busy + time_of (is_slice_at j) (slice_seen s o) ≤ 2 ^ 64 - 1 → Shows s s' o
    → (processor_in_figures s' j).busy ≡ (processor_in_figures s j).busy + time_of (is_slice_at j) (slice_seen s o)
busy-shown s s' None j inside fits h = ap (λ (w : Works). w.busy) (h.0.at j) ∙ omega arith
busy-shown s s' (Some x) j inside fits h =
    let p = processor_in_figures s x.processor in
    let at = time_of-at x.processor j p.last (reading p.last x.now) p.running in
    let fits' : (processor_in_figures s j).busy + cond (eqb x.processor j) (slice_length (slice_at x.processor p x.now)) 0
    ≤ 2 ^ 64 - 1 = omega (arith, at, fits) in
    ap (λ (w : Works). w.busy) (h.0.at j)
    ∙ ap (λ (q : ProcessorFigures). q.busy) (processor-read_at x.processor x.now j s inside)
    ∙ busy-read_at x.processor x.now j s (eqb x.processor j) inside (eqb_tells x.processor j)
    ∙ saturating_sum-is (eqb x.processor j) (processor_in_figures s j).busy (slice_length (slice_at x.processor p x.now)) fits'
    ∙ omega (arith, at)

-- the busy time of a processor is the sum of its slices
pub busy_is_sum_of_slices : (count : ℕ) (past : History) → count ≤ 255 → IsOfProcessors count past
    → (processor : ℕ) → processor < count
    → (processor_in_figures (figures count past) processor).busy ≡ time_in (is_slice_at processor) (slices past)
busy_is_sum_of_slices count [] few h processor inside =
    ap (λ (p : ProcessorFigures). p.busy) (get_or-replicate count processor unread unread inside)
busy_is_sum_of_slices count (m ∷ past) few h processor inside =
    let s = figures count past in
    let o = shown_by_answer m.event m.answer in
    let before = busy_is_sum_of_slices count past few h.1 processor inside in
    let seen = ap (time_of (is_slice_at processor)) (shown-seen count past o h.1 h.0) in
    let inside' : processor < length s.processors = omega (arith, count-figures count past h.1) in
    let fits : (processor_in_figures s processor).busy + time_of (is_slice_at processor) (slice_seen s o) ≤ 2 ^ 64 - 1 =
    omega (arith, before, seen, fits-next (is_slice_at processor) count past m few h) in
    omega (
      arith,
      before,
      seen,
      time_in-more (is_slice_at processor) (slices past) (slice_shown past o),
      busy-shown s (figures_after s m.event m.answer) o processor inside' fits (shows-after s m.event m.answer (within-figures count past m h)),
    )

-- the times of tasks and the busy times of processors are the sums of their slices
pub adds_up : (count : ℕ) (past : History) → count ≤ 255 → IsOfProcessors count past →
    ((id : ℕ) → id < 1024 → (task_in_figures (figures count past) id).time ≡ time_in (is_of id) (slices past))
    × ((processor : ℕ) → processor < count → (processor_in_figures (figures count past) processor).busy ≡ time_in (is_slice_at processor) (slices past))
adds_up count past few h = (time_is_sum_of_slices count past few h, busy_is_sum_of_slices count past few h)
