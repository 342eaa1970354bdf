-- Slices and idle time fill the observed time.
use Rattle.std.proofs.Common.{◌≡◌, ◌≢◌, ℕ, ◌+◌, ◌-◌, ◌<◌, ◌≤◌, Bool, true, false, [], ◌∷◌, length, Option, Some, None, refl, sym, ap, ◌∙◌, inl, inr, eqb, ltb, cond, subst, arith}
use Rattle.std.proofs.lemmas.Bool.Decides.{eqb_tells}
use Rattle.std.proofs.lemmas.List.{get_or-replicate}
use Rattle.bq_disc.specs.OneProcessor.{reading}
use Rattle.bq_schedule.specs.declared.slice.Slice.{Slice}
use Rattle.bq_schedule.specs.declared.change.Start.{Start}
use Rattle.bq_schedule.specs.declared.figures.ProcessorFigures.{ProcessorFigures}
use Rattle.bq_schedule.specs.Histories.{History}
use Rattle.bq_schedule.specs.Figures.{Figures, unread, processor_in_figures}
use Rattle.bq_schedule.specs.Passing.{slice_between, slice_at, slice_length, passed, processor_read, figures_read}
use Rattle.bq_schedule.specs.Observed.{observed_time, idle_in}
use Rattle.bq_schedule.specs.Slices.{ShownByAnswer, shown_by_answer}
use Rattle.bq_schedule.specs.Steps.{figures_after, figures}
use Rattle.bq_schedule.specs.Laws.{IsOfProcessors, window_since, FillsObservedTime}
use Rattle.bq_schedule.proofs.TestLemmas.{Tells}
use Rattle.bq_schedule.proofs.FrameLemmas.{Works, works, RunsAs}
use Rattle.bq_schedule.proofs.ClockLemmas.{Shows, shows-after, count-figures, within-figures, processor-read_at}
use Rattle.bq_schedule.proofs.ObservedLemmas.{window-observed}
use Rattle.bq_schedule.proofs.SumLemmas.{busy_is_sum_of_slices}

-- nothing ran before the first reading, and since then no more than the clock rose
abbrev pub IsFilled : Option ℕ → ℕ → ℕ → Option Start → Type 0
IsFilled None last busy running = (busy ≡ 0) × (running ≡ None)
IsFilled (Some first) last busy running = first + busy ≤ last

-- nothing ran at a processor before its first reading, and since then no more than its clock rose
abbrev pub Filled : ProcessorFigures → Type 0
Filled p = IsFilled p.first p.last p.busy p.running

-- once the clock was read that is true, whichever task runs
abbrev pub HasBegun : Works → Type 0
HasBegun w = (first : ℕ) × (w.first ≡ Some first) × (first + w.busy ≤ w.last)

-- a processor for which that is true is filled
begun : (p : ProcessorFigures) → HasBegun (works p) → Filled p
begun p h = rw h.1 h.2

-- a slice is no longer than its clock rises
length-le-rise : (processor from to : ℕ) (running : Option Start) (b : Bool)
    → ltb from to ≡ b → from ≤ to → from + slice_length (slice_between processor from to running) ≤ to
length-le-rise processor from to None b e h = omega arith
length-le-rise processor from to (Some start) true e h = rw e (omega arith)
length-le-rise processor from to (Some start) false e h = rw e (omega arith)

-- after a reading whose slice is no longer than the clock rose, no more ran since the first reading than the clock rose
begun-read_as : (p : ProcessorFigures) (to : ℕ) (s : Option Slice) (first : Option ℕ)
    → p.first ≡ first → p.last + slice_length s ≤ to → (p.running ≡ None → slice_length s ≡ 0)
    → IsFilled first p.last p.busy p.running
    → HasBegun (works (passed p to s))
begun-read_as p to s None e le none h = (to, rw e refl, omega (arith, h.0, none h.1))
begun-read_as p to s (Some first) e le none h = (first, rw e refl, omega (arith, h))

-- a reading begins a processor's time, or goes on with it
begun-read : (processor now : ℕ) (p : ProcessorFigures) → Filled p → HasBegun (works (processor_read processor p now))
begun-read processor now p h =
    begun-read_as p (reading p.last now) (slice_at processor p now) p.first refl
    (length-le-rise processor p.last (reading p.last now) p.running (ltb p.last (reading p.last now)) refl (omega arith))
    (λ none. ap (λ o. slice_length (slice_between processor p.last (reading p.last now) o)) none)
    h

-- of two processors with the same works, that run the same, both are filled or neither
same_works : (p q : ProcessorFigures) → works q ≡ works p → q.running ≡ p.running → Filled p → Filled q
same_works p q w r h =
    let first : q.first ≡ p.first = ap (λ (x : Works). x.first) w in
    let last : q.last ≡ p.last = ap (λ (x : Works). x.last) w in
    let busy : q.busy ≡ p.busy = ap (λ (x : Works). x.busy) w in
    rw (first, last, busy, r) h

-- at another processor nothing changes that this reads
runs_elsewhere : (o : Option (Option ℕ)) (s s' : Figures) (processor j : ℕ)
    → j ≢ processor → RunsAs o processor s s' → (processor_in_figures s' j).running ≡ (processor_in_figures s j).running
runs_elsewhere None s s' processor j ne h = h.at j
runs_elsewhere (Some run) s s' processor j ne h = h.1 j ne

-- an answered event leaves a processor filled, its own and each other:
filled-there : (s s' : Figures) (x : ShownByAnswer) (j : ℕ) (b : Bool)
    → eqb x.processor j ≡ b → j < length s.processors → Shows s s' (Some x) → Filled (processor_in_figures s j)
    → Tells b (x.processor ≡ j) (x.processor ≢ j)
    → Filled (processor_in_figures s' j)
filled-there s s' x j true is inside h f (inl same) =
    let r = processor-read_at x.processor x.now j s inside in
    let q = processor_read x.processor (processor_in_figures s x.processor) x.now in
    let read : processor_in_figures (figures_read x.processor x.now s) j ≡ q = r ∙ ap (λ b. cond b q (processor_in_figures s j)) is in
    let P : Works → Type 0 = λ w. HasBegun w in
    let Q : ℕ → Type 0 = λ k. Filled (processor_in_figures s k) in
    begun (processor_in_figures s' j)
    (subst P (sym (h.0.at j ∙ ap works read)) (begun-read x.processor x.now (processor_in_figures s x.processor) (subst Q (sym same.1) f)))
filled-there s s' x j false is inside h f (inr other) =
    let q = processor_read x.processor (processor_in_figures s x.processor) x.now in
    let read : processor_in_figures (figures_read x.processor x.now s) j ≡ processor_in_figures s j =
    processor-read_at x.processor x.now j s inside ∙ ap (λ b. cond b q (processor_in_figures s j)) is in
    same_works (processor_in_figures s j) (processor_in_figures s' j) (h.0.at j ∙ ap works read)
    (runs_elsewhere x.run s s' x.processor j (λ e. other.1 (sym e)) h.1) f
filled-there s s' x j false is inside h f (inl same) = absurd (cc)
filled-there s s' x j true is inside h f (inr other) = absurd (cc)

filled-shown : (s s' : Figures) (o : Option ShownByAnswer) (j : ℕ) → j < length s.processors → Shows s s' o
    → Filled (processor_in_figures s j)
    → Filled (processor_in_figures s' j)
filled-shown s s' None j inside h f = same_works (processor_in_figures s j) (processor_in_figures s' j) (h.0.at j) (h.1.at j) f
filled-shown s s' (Some x) j inside h f = filled-there s s' x j (eqb x.processor j) refl inside h f (eqb_tells x.processor j)

-- in each history no processor ran before its first reading, nor longer since then than its clock rose
pub figures_are_filled : (count : ℕ) (past : History) (processor : ℕ)
    → IsOfProcessors count past → processor < count → Filled (processor_in_figures (figures count past) processor)
figures_are_filled count [] processor h inside =
    let P : ProcessorFigures → Type 0 = λ p. Filled p in
    subst P (sym (get_or-replicate count processor unread unread inside)) (refl, refl)
figures_are_filled count (m ∷ past) processor h inside =
    let s = figures count past in
    filled-shown s (figures_after s m.event m.answer) (shown_by_answer m.event m.answer) processor (omega (arith, count-figures count past h.1))
    (shows-after s m.event m.answer (within-figures count past m h)) (figures_are_filled count past processor h.1 inside)

-- this much work fits in the time from the first reading to the last; with the idle time it fills a time
abbrev pub Fills : ProcessorFigures → ℕ → ℕ → Type 0
Fills p observed work = (work ≤ window_since p.first p.last) × (work + idle_in observed p ≡ observed)

-- of a filled processor, busy time fits between its first and last reading, and with idle time it fills the observed time
fills_if : (first : Option ℕ) (p : ProcessorFigures) (observed : ℕ) → p.first ≡ first → ((first : ℕ) → p.first ≡ Some first → p.last - first ≤ observed)
    → IsFilled first p.last p.busy p.running → Fills p observed p.busy
fills_if None p observed e within h = (omega (arith, h.0), omega (arith, h.0))
fills_if (Some first) p observed e within h = (rw e (omega (arith, h)), omega (arith, h, within first e))

-- the slices of a processor fit between its first reading and its last; with its idle time they fill the observed time
pub fills_observed_time : FillsObservedTime
fills_observed_time count past processor few h inside =
    let s = figures count past in
    let p = processor_in_figures s processor in
    subst (Fills p (observed_time s)) (busy_is_sum_of_slices count past few h processor inside)
    (fills_if p.first p (observed_time s) refl
    (λ first e. window-observed s processor first (omega (arith, count-figures count past h, inside)) e)
    (figures_are_filled count past processor h inside))
