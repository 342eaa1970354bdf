-- The runs that are reported are those that the slices make.
use Rattle.std.proofs.Common.{◌≡◌, ◌≢◌, ℕ, ◌<◌, Bool, true, false, List, [], ◌∷◌, ◌++◌, length, Option, Some, None, refl, sym, ap, ◌∙◌, inl, inr, eqb, ltb, cond, append-nil, append_assoc, arith, eqb-true}
use Rattle.std.specs.Prelude.{option_to_list, ◌&&◌}
use Rattle.std.proofs.lemmas.Bool.Decides.{eqb_tells}
use Rattle.std.proofs.lemmas.List.{get_or-replicate}
use Rattle.std.proofs.lemmas.List.Elements.{filter-append}
use Rattle.std.proofs.lemmas.Bool.{and_parts}
use Rattle.bq_schedule.specs.declared.slice.Slice.{Slice}
use Rattle.bq_schedule.specs.declared.figures.ProcessorFigures.{ProcessorFigures}
use Rattle.bq_schedule.specs.Histories.{History}
use Rattle.bq_schedule.specs.Figures.{Figures, unread, processor_in_figures}
use Rattle.bq_schedule.specs.Passing.{continues_run, joined_run, ended_run, processor_read}
use Rattle.bq_schedule.specs.Slices.{ShownByAnswer, shown_by_answer, runner, slice_of, slice_shown, slices, slices_at, is_slice_at, slice_joined, runs}
use Rattle.bq_schedule.specs.Steps.{change, figures_after, figures}
use Rattle.bq_schedule.specs.Laws.{IsShownWithin, IsOfProcessors, reported_if, reported_runs, ReportsRuns}
use Rattle.bq_schedule.proofs.TestLemmas.{Tells}
use Rattle.bq_schedule.proofs.FrameLemmas.{Works}
use Rattle.bq_schedule.proofs.ClockLemmas.{Shows, shows-after, count-figures, within-figures, processor-read_at}
use Rattle.bq_schedule.proofs.SliceTimeLemmas.{slice_seen, run_seen, seen-change, shown-seen}
use Rattle.bq_schedule.proofs.ApartLemmas.{at_only, filter-one}

-- the last of some runs is joined to another slice
abbrev pub last_joined : List Slice → Slice → List Slice
last_joined [] y = y ∷ []
last_joined (r ∷ []) y = cond (continues_run r y) (record r { to = y.to } ∷ []) (r ∷ y ∷ [])
last_joined (r ∷ (q ∷ rs)) y = r ∷ last_joined (q ∷ rs) y

-- it makes no odds at which end slices are joined first
joined-one : (x r y : Slice) (b c d : Bool) → continues_run r y ≡ b → continues_run x r ≡ c → continues_run (record x { to = r.to }) y ≡ d
    → (c ≡ true → d ≡ b)
    → slice_joined x (cond b (record r { to = y.to } ∷ []) (r ∷ y ∷ [])) ≡ last_joined (cond c (record x { to = r.to } ∷ []) (x ∷ r ∷ [])) y
joined-one x r y true true d is on next same = rw (on, next, same refl) refl
joined-one x r y true false d is on next same = rw (on, is) refl
joined-one x r y false true d is on next same = rw (on, next, same refl) refl
joined-one x r y false false d is on next same = rw (on, is) refl

-- where a slice continues another, what continues the second continues the two joined, and nothing else does
same_task : (x r y : Slice) → continues_run x r ≡ true → continues_run (record x { to = r.to }) y ≡ continues_run r y
same_task x r y e = ap (λ k. eqb k y.task && eqb r.to y.from) (eqb-true x.task r.task (and_parts (eqb x.task r.task) (eqb x.to r.from) e).0)

-- the same where more than one run stands between, and then for any runs:
joined-many : (x r q y : Slice) (rs : List Slice) (c : Bool) → continues_run x r ≡ c
    → cond c (record x { to = r.to } ∷ last_joined (q ∷ rs) y) (x ∷ r ∷ last_joined (q ∷ rs) y)
    ≡ last_joined (cond c (record x { to = r.to } ∷ q ∷ rs) (x ∷ r ∷ q ∷ rs)) y
joined-many x r q y rs true e = refl
joined-many x r q y rs false e = refl

joined-last : (x y : Slice) (rs : List Slice) → slice_joined x (last_joined rs y) ≡ last_joined (slice_joined x rs) y
joined-last x y [] = refl
joined-last x y (r ∷ []) =
    joined-one x r y (continues_run r y) (continues_run x r) (continues_run (record x { to = r.to }) y) refl refl refl (same_task x r y)
joined-last x y (r ∷ (q ∷ rs)) = joined-many x r q y rs (continues_run x r) refl

-- the runs of slices with one more at the end are the runs before, with that slice joined to the last
runs-push : (xs : List Slice) (y : Slice) → runs (xs ++ y ∷ []) ≡ last_joined (runs xs) y
runs-push [] y = refl
runs-push (x ∷ xs) y = ap (slice_joined x) (runs-push xs y) ∙ joined-last x y (runs xs)

-- what is reported, and what may go on
last-front : (front : List Slice) (r y : Slice) → last_joined (front ++ r ∷ []) y ≡ front ++ last_joined (r ∷ []) y
last-front [] r y = refl
last-front (f ∷ []) r y = refl
last-front (f ∷ (g ∷ gs)) r y = ap (λ zs. f ∷ zs) (last-front (g ∷ gs) r y)

-- a run that a slice continues goes on with it; one that it does not continue is reported, and the slice goes on
reported-one : (front : List Slice) (r y : Slice) (b : Bool) → continues_run r y ≡ b
    → front ++ cond b (record r { to = y.to } ∷ []) (r ∷ y ∷ [])
    ≡ (front ++ option_to_list (cond b None (Some r))) ++ option_to_list (cond b (Some (record r { to = y.to })) (Some y))
reported-one front r y true e = ap (λ zs. zs ++ record r { to = y.to } ∷ []) (sym (append-nil front))
reported-one front r y false e = sym (append_assoc front (r ∷ []) (y ∷ []))

-- what was reported and what goes on are some runs, and nothing was reported where nothing goes on
pub record AreRuns (reported : List Slice) (run : Option Slice) (xs : List Slice) : Type 0 where
  pub all : reported ++ option_to_list run ≡ runs xs
  pub first : run ≡ None → reported ≡ []

-- after a slice some run goes on
some_run : (r y : Slice) (b : Bool) → cond b (Some (record r { to = y.to })) (Some y) ≡ None → ⊥
some_run r y true e = cc
some_run r y false e = cc

-- with one more slice, or none, what was reported and what goes on are still the runs
more : (reported : List Slice) (run o : Option Slice) (xs : List Slice)
    → AreRuns reported run xs
    → AreRuns (reported ++ option_to_list (ended_run run o)) (joined_run run o) (xs ++ option_to_list o)
more reported None None xs h = record {
  all = ap (λ zs. zs ++ []) (append-nil reported) ∙ h.all ∙ ap runs (sym (append-nil xs));
  first = λ e. append-nil reported ∙ h.first e;
}
more reported (Some r) None xs h =
    record { all = ap (λ zs. zs ++ r ∷ []) (append-nil reported) ∙ h.all ∙ ap runs (sym (append-nil xs)); first = λ e. cc }
more reported None (Some y) xs h =
    let none : reported ≡ [] = h.first refl in
    let empty : runs xs ≡ [] = sym h.all ∙ append-nil reported ∙ none in
    record {
      all = ap (λ zs. (zs ++ []) ++ y ∷ []) none ∙ sym (runs-push xs y ∙ ap (λ zs. last_joined zs y) empty);
      first = λ e. cc;
    }
more reported (Some r) (Some y) xs h = record {
  all =
      sym
      (runs-push xs y ∙ ap (λ zs. last_joined zs y) (sym h.all) ∙ last-front reported r y ∙ reported-one reported r y (continues_run r y) refl);
  first = λ e. absurd (some_run r y (continues_run r y) e);
}

-- what an answered event ends at a processor, and which run it makes there
run-there : (s s' : Figures) (x : ShownByAnswer) (j : ℕ) (b : Bool) → eqb x.processor j ≡ b → j < length s.processors → Shows s s' (Some x) →
    (processor_in_figures s' j).run ≡ cond b (joined_run (processor_in_figures s x.processor).run (slice_seen s (Some x))) (processor_in_figures s j).run
run-there s s' x j true e inside h =
    let q = processor_read x.processor (processor_in_figures s x.processor) x.now in
    ap (λ (w : Works). w.run) (h.0.at j)
    ∙ ap (λ (p : ProcessorFigures). p.run) (processor-read_at x.processor x.now j s inside ∙ ap (λ c. cond c q (processor_in_figures s j)) e)
run-there s s' x j false e inside h =
    let q = processor_read x.processor (processor_in_figures s x.processor) x.now in
    ap (λ (w : Works). w.run) (h.0.at j)
    ∙ ap (λ (p : ProcessorFigures). p.run) (processor-read_at x.processor x.now j s inside ∙ ap (λ c. cond c q (processor_in_figures s j)) e)

-- a slice of another processor does not count here
only-cond : (l : Bool) (processor j id from to : ℕ) (b : Bool)
    → eqb processor j ≡ b
    → at_only j (cond l (Some (record { processor = processor; task = id; from = from; to = to })) None)
    ≡ cond b (cond l (Some (record { processor = processor; task = id; from = from; to = to })) None) None
only-cond true processor j id from to true e = rw e refl
only-cond true processor j id from to false e = rw e refl
only-cond false processor j id from to true e = refl
only-cond false processor j id from to false e = refl

only-there : (processor j from to : ℕ) (who : Option ℕ) (b : Bool)
    → eqb processor j ≡ b
    → at_only j (slice_of processor who from to) ≡ cond b (slice_of processor who from to) None
only-there processor j from to None true e = refl
only-there processor j from to None false e = refl
only-there processor j from to (Some id) true e = only-cond (ltb from to) processor j id from to true e
only-there processor j from to (Some id) false e = only-cond (ltb from to) processor j id from to false e

-- the reported runs of a processor, and the one that may go on, are those that its slices make
abbrev pub AreReportedRuns : ℕ → ℕ → History → Type 0
AreReportedRuns count processor past =
    AreRuns (reported_runs count processor past) (processor_in_figures (figures count past) processor).run (slices_at processor past)

-- reports, a run that goes on, and slices may each be put for what equals them
same_runs : (reported reported' : List Slice) (run run' : Option Slice) (xs xs' : List Slice)
    → reported' ≡ reported → run' ≡ run → xs' ≡ xs → AreRuns reported run xs → AreRuns reported' run' xs'
same_runs reported reported' run run' xs xs' t r x h = record {
  all = ap (λ zs. zs ++ option_to_list run') t ∙ ap (λ o. reported ++ option_to_list o) r ∙ h.all ∙ ap runs (sym x);
  first = λ e. t ∙ h.first (sym r ∙ e);
}

-- after an answered event that shows a processor, the reported runs of a processor and the one that may go on are those of its slices
reported-there : (count : ℕ) (past : History) (processor : ℕ) (s' : Figures) (x : ShownByAnswer) (run : Option Slice) (b : Bool)
    → IsOfProcessors count past → IsShownWithin count (Some x) → processor < count → Shows (figures count past) s' (Some x)
    → run ≡ run_seen (figures count past) (Some x) → eqb x.processor processor ≡ b
    → Tells b (x.processor ≡ processor) (x.processor ≢ processor)
    → AreReportedRuns count processor past
    → AreRuns (reported_runs count processor past ++ cond b (option_to_list run) []) (processor_in_figures s' processor).run
    (slices_at processor past ++ option_to_list (at_only processor (slice_shown past (Some x))))
reported-there count past processor s' x run true h w inside k is e (inl same) t =
    let s = figures count past in
    let p = processor_in_figures s x.processor in
    let here : p.run ≡ (processor_in_figures s processor).run = ap (λ k. (processor_in_figures s k).run) same.1 in
    let o = slice_seen s (Some x) in
    let shown : slice_shown past (Some x) ≡ o = sym (shown-seen count past (Some x) h w) in
    let only : at_only processor (slice_shown past (Some x)) ≡ o =
    only-there x.processor processor _ _ (runner x.processor past) true e ∙ shown in
    same_runs _ _ _ _ _ _
    (ap (λ z. reported_runs count processor past ++ option_to_list z) (is ∙ ap (λ z. ended_run z o) here))
    (run-there s s' x processor true e (omega (arith, inside, count-figures count past h)) k ∙ ap (λ z. joined_run z o) here)
    (ap (λ z. slices_at processor past ++ option_to_list z) only)
    (more (reported_runs count processor past) (processor_in_figures s processor).run o (slices_at processor past) t)
reported-there count past processor s' x run false h w inside k is e (inr other) t =
    let s = figures count past in
    same_runs _ _ _ _ _ _ (append-nil (reported_runs count processor past))
    (run-there s s' x processor false e (omega (arith, inside, count-figures count past h)) k)
    (ap (λ z. slices_at processor past ++ option_to_list z) (only-there x.processor processor _ _ (runner x.processor past) false e)
    ∙ append-nil (slices_at processor past)) t
reported-there count past processor s' x run true h w inside k is e (inr other) t = absurd (cc)
reported-there count past processor s' x run false h w inside k is e (inl same) t = absurd (cc)

-- so they are after each answered event, whether it shows a processor or not
reported-step : (count : ℕ) (past : History) (processor : ℕ) (s' : Figures) (o : Option ShownByAnswer) (run : Option Slice)
    → IsOfProcessors count past → IsShownWithin count o → processor < count → Shows (figures count past) s' o
    → run ≡ run_seen (figures count past) o → AreReportedRuns count processor past
    → AreRuns (reported_runs count processor past ++ reported_if processor o run) (processor_in_figures s' processor).run
    (slices_at processor past ++ option_to_list (at_only processor (slice_shown past o)))
reported-step count past processor s' None run h w inside k is t =
    same_runs _ _ _ _ _ _ (append-nil (reported_runs count processor past)) (ap (λ (v : Works). v.run) (k.0.at processor))
    (append-nil (slices_at processor past)) t
reported-step count past processor s' (Some x) run h w inside k is t =
    reported-there count past processor s' x run (eqb x.processor processor) h w inside k is refl
    (eqb_tells x.processor processor) t

-- so they are in each history
reported : (count : ℕ) (past : History) (processor : ℕ) → IsOfProcessors count past → processor < count
    → AreReportedRuns count processor past
reported count [] processor h inside =
    let none : (processor_in_figures (figures count []) processor).run ≡ None =
    ap (λ (p : ProcessorFigures). p.run) (get_or-replicate count processor unread unread inside) in
    record { all = ap (λ o. [] ++ option_to_list o) none; first = λ e. refl }
reported count (m ∷ past) processor h inside =
    let s = figures count past in
    let o = shown_by_answer m.event m.answer in
    let w = within-figures count past m h in
    let is : slices_at processor (m ∷ past) ≡ slices_at processor past ++ option_to_list (at_only processor (slice_shown past o)) =
    filter-append (is_slice_at processor) (slices past) (option_to_list (slice_shown past o))
    ∙ ap (λ ys. slices_at processor past ++ ys) (filter-one processor (slice_shown past o)) in
    same_runs _ _ _ _ _ _ refl refl is
    (reported-step count past processor (figures_after s m.event m.answer) o (change s m.event m.answer).run h.1 h.0 inside
    (shows-after s m.event m.answer w) (seen-change s m.event m.answer w).run (reported count past processor h.1 inside))

-- in each history the reported runs of a processor, with the last one, are the runs of its slices
pub reports_runs : ReportsRuns
reports_runs count past processor h inside = (reported count past processor h inside).all
