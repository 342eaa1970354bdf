-- Each start that is reported ends with one stop, except for that of the task which runs.
use Rattle.std.proofs.Common.{◌≡◌, ◌≢◌, ℕ, ◌<◌, Bool, true, false, List, [], ◌∷◌, ◌++◌, Option, Some, None, refl, sym, ap, ◌∙◌, ◌⊎◌, inl, inr, eqb, cond, subst, append-nil, append_assoc, arith, ne_eqb, eq-eqb}
use Rattle.std.specs.Prelude.{option_to_list, filter, map}
use Rattle.std.proofs.lemmas.Bool.Decides.{eqb_tells}
use Rattle.std.proofs.lemmas.List.{get_or-replicate, map-append}
use Rattle.std.proofs.lemmas.List.Elements.{filter-append}
use Rattle.bq_parts.specs.declared.event.Event.{Event}
use Rattle.bq_schedule.specs.declared.change.Start.{Start}
use Rattle.bq_schedule.specs.declared.change.Stop.{Stop}
use Rattle.bq_schedule.specs.declared.change.StopReason.{StopReason}
use Rattle.bq_schedule.specs.declared.figures.ProcessorFigures.{ProcessorFigures}
use Rattle.bq_schedule.specs.Histories.{History}
use Rattle.bq_schedule.specs.Figures.{Figures, unread, processor_in_figures}
use Rattle.bq_schedule.specs.Running.{starts_as, stop_of, is_run_by}
use Rattle.bq_schedule.specs.Slices.{ShownByAnswer, shown_by_answer}
use Rattle.bq_schedule.specs.Steps.{time_at, change, figures}
use Rattle.bq_schedule.specs.Switches.{why_left, is_start_at, is_stop_at, reported_starts, reported_stops, starts_reported_at, stops_reported_at}
use Rattle.bq_schedule.specs.Laws.{IsShownWithin, IsOfProcessors, EndsStarts}
use Rattle.bq_schedule.proofs.TestLemmas.{Tells}
use Rattle.bq_schedule.proofs.SwitchLemmas.{Switches, ReportsRunning, ReportsSwitch, start_if, stop_if, begun-here, answer_reports, runs_here}

-- starts and stops of one processor, of at most one
filter-starts : (j : ℕ) (o : Option Start) → ((st : Start) → o ≡ Some st → st.processor ≡ j)
    → filter (is_start_at j) (option_to_list o) ≡ option_to_list o
filter-starts j None h = refl
filter-starts j (Some st) h = rw (h st refl) (rw (eq-eqb j j refl) refl)

filter-no_starts : (j : ℕ) (o : Option Start) → ((st : Start) → o ≡ Some st → st.processor ≢ j)
    → filter (is_start_at j) (option_to_list o) ≡ []
filter-no_starts j None h = refl
filter-no_starts j (Some st) h = rw (ne_eqb st.processor j (h st refl)) refl

filter-no_stops : (j : ℕ) (o : Option Stop) → ((sp : Stop) → o ≡ Some sp → sp.start.processor ≢ j)
    → filter (is_stop_at j) (option_to_list o) ≡ []
filter-no_stops j None h = refl
filter-no_stops j (Some sp) h = rw (ne_eqb sp.start.processor j (h sp refl)) refl

-- what ran before and what begins is what ceases and what runs afterwards
abbrev pub Pairs : ℕ → Option Start → Option Start → Option Stop → Option Start → Type 0
Pairs j running running' stop start =
    option_to_list running ++ filter (is_start_at j) (option_to_list start)
    ≡ map (λ (sp : Stop). sp.start) (filter (is_stop_at j) (option_to_list stop)) ++ option_to_list running'

-- where nothing starts or stops at a processor and what runs stays, starts and stops pair there
pairs-none : (j : ℕ) (running running' : Option Start) (stop : Option Stop) (start : Option Start)
    → filter (is_stop_at j) (option_to_list stop) ≡ [] → filter (is_start_at j) (option_to_list start) ≡ []
    → running' ≡ running
    → Pairs j running running' stop start
pairs-none j running running' stop start stops starts same =
    ap (λ l. option_to_list running ++ l) starts ∙ append-nil (option_to_list running) ∙ ap (λ o. option_to_list o) (sym same)
    ∙ ap (λ l. map (λ (sp : Stop). sp.start) l ++ option_to_list running') (sym stops)

-- where a task stops and another starts, or none, the stop ends the start that ran, and the new start runs
pairs-new : (j at : ℕ) (reason : StopReason) (running start : Option Start)
    → ((st : Start) → running ≡ Some st → st.processor ≡ j) → ((st : Start) → start ≡ Some st → st.processor ≡ j)
    → Pairs j running start (stop_of reason at running) start
pairs-new j at reason None start ran begun = filter-starts j start begun
pairs-new j at reason (Some old) start ran begun =
    let stops : filter (is_stop_at j) (option_to_list (stop_of reason at (Some old))) ≡ option_to_list (stop_of reason at (Some old)) =
    rw (ran old refl) (rw (eq-eqb j j refl) refl) in
    ap (λ l. old ∷ l) (filter-starts j start begun) ∙ ap (λ l. map (λ (sp : Stop). sp.start) l ++ option_to_list start) (sym stops)

-- a switch pairs starts and stops at its processor, whether another task runs or not
pairs-if : (b : Bool) (j processor at : ℕ) (reason : StopReason) (run : Option ℕ) (u : Figures) (running running' : Option Start)
    (stop : Option Stop) (start : Option Start)
    → processor ≡ j → ((st : Start) → running ≡ Some st → st.processor ≡ j) → stop ≡ cond b None (stop_of reason at running)
    → start ≡ cond b None (starts_as processor at run u) → running' ≡ cond b running (starts_as processor at run u)
    → Pairs j running running' stop start
pairs-if true j processor at reason run u running running' stop start same ran stops starts runs =
    pairs-none j running running' stop start (ap (λ o. filter (is_stop_at j) (option_to_list o)) stops)
    (ap (λ o. filter (is_start_at j) (option_to_list o)) starts) runs
pairs-if false j processor at reason run u running running' stop start same ran stops starts runs =
    let begun : (st : Start) → starts_as processor at run u ≡ Some st → st.processor ≡ j =
    λ st e. begun-here false processor at run u None st e (λ none. cc) ∙ same in
    let P : Option Stop → Option Start → Option Start → Type 0 = λ sp st r. Pairs j running r sp st in
    let p1 : P (stop_of reason at running) (starts_as processor at run u) (starts_as processor at run u) =
    pairs-new j at reason running (starts_as processor at run u) ran begun in
    rw (stops, starts, runs) p1

-- a switch pairs starts and stops at each processor, its own and the others
pairs-there : (s s' : Figures) (reason : StopReason) (processor at : ℕ) (run : Option ℕ) (stop : Option Stop)
    (start : Option Start) (j : ℕ) (b : Bool)
    → Switches s s' reason processor at run stop start → Tells b (processor ≡ j) (processor ≢ j)
    → ((i : ℕ) (st : Start) → ((i ≡ j) ⊎ (i ≡ processor)) → (processor_in_figures s i).running ≡ Some st → st.processor ≡ i)
    → Pairs j (processor_in_figures s j).running (processor_in_figures s' j).running stop start
pairs-there s s' reason processor at run stop start j b t (inl same) here =
    let running = (processor_in_figures s processor).running in
    let p : Pairs j running (processor_in_figures s' processor).running stop start =
    pairs-if (is_run_by running run) j processor at reason run t.before running (processor_in_figures s' processor).running stop start same.1
    (λ st e. here processor st (inr refl) e ∙ same.1) t.stops t.starts t.runs in
    let P : ℕ → Type 0 = λ k. Pairs j (processor_in_figures s k).running (processor_in_figures s' k).running stop start in
    subst P same.1 p
pairs-there s s' reason processor at run stop start j b t (inr other) here =
    let running = (processor_in_figures s processor).running in
    pairs-none j (processor_in_figures s j).running (processor_in_figures s' j).running stop start
    (filter-no_stops j stop (λ sp e is.
    other.1 (sym
    (here processor sp.start (inr refl) (stop_if (is_run_by running run) running reason at run sp refl (sym t.stops ∙ e)).start)
    ∙ is))) (filter-no_starts j start
    (λ st e is. other.1 (sym (start_if (is_run_by running run) running processor at run t.before st refl (sym t.starts ∙ e)).here ∙ is)))
    (t.others j (λ is. other.1 (sym is)))

-- so does an answer, whether it says who runs or not
pairs-run : (s s' : Figures) (reason : StopReason) (processor at : ℕ) (o : Option (Option ℕ)) (stop : Option Stop)
    (start : Option Start) (j : ℕ)
    → ReportsRunning s s' reason processor at o stop start
    → ((i : ℕ) (st : Start) → ((i ≡ j) ⊎ (i ≡ processor)) → (processor_in_figures s i).running ≡ Some st → st.processor ≡ i)
    → Pairs j (processor_in_figures s j).running (processor_in_figures s' j).running stop start
pairs-run s s' reason processor at None stop start j t here =
    pairs-none j (processor_in_figures s j).running (processor_in_figures s' j).running stop start
    (ap (λ o. filter (is_stop_at j) (option_to_list o)) t.0)
    (ap (λ o. filter (is_start_at j) (option_to_list o)) t.1) (t.2.at j)
pairs-run s s' reason processor at (Some run) stop start j t here =
    pairs-there s s' reason processor at run stop start j (eqb processor j) t (eqb_tells processor j) here

-- either of two processors that are there is there
is_inside : (count i j processor : ℕ) → (i ≡ j) ⊎ (i ≡ processor) → j < count → processor < count → i < count
is_inside count i j processor (inl e) a b = omega arith
is_inside count i j processor (inr e) a b = omega arith

-- each answered event of a history pairs starts and stops at each processor
pairs-shown : (count : ℕ) (past : History) (s' : Figures) (e : Event) (o : Option ShownByAnswer) (stop : Option Stop)
    (start : Option Start) (j : ℕ)
    → IsOfProcessors count past → IsShownWithin count o → j < count → ReportsSwitch (figures count past) s' e o stop start
    → Pairs j (processor_in_figures (figures count past) j).running (processor_in_figures s' j).running stop start
pairs-shown count past s' e None stop start j h w inside t =
    pairs-none j (processor_in_figures (figures count past) j).running
    (processor_in_figures s' j).running stop start (ap (λ o. filter (is_stop_at j) (option_to_list o)) t.0)
    (ap (λ o. filter (is_start_at j) (option_to_list o)) t.1) (t.2.at j)
pairs-shown count past s' e (Some x) stop start j h w inside t =
    pairs-run (figures count past) s' (why_left e) x.processor (time_at x.processor x.now (figures count past)) x.run stop
    start j t (λ i st which is. runs_here count past h i st (is_inside count i j x.processor which inside w) is)

-- starts and stops that pair up to an answered event, and at that answered event, pair together
grown-pairs : (a r f r' : List Start) (b g : List Stop) → a ≡ map (λ (sp : Stop). sp.start) b ++ r
    → r ++ f ≡ map (λ (sp : Stop). sp.start) g ++ r'
    → a ++ f ≡ map (λ (sp : Stop). sp.start) (b ++ g) ++ r'
grown-pairs a r f r' b g before now =
    ap (λ l. l ++ f) before ∙ append_assoc (map (λ (sp : Stop). sp.start) b) r f ∙ ap (λ l. map (λ (sp : Stop). sp.start) b ++ l) now
    ∙ sym (append_assoc (map (λ (sp : Stop). sp.start) b) (map (λ (sp : Stop). sp.start) g) r')
    ∙ ap (λ l. l ++ r') (sym (map-append (λ (sp : Stop). sp.start) b g))

-- each start ends with one stop, except for that of the task which runs
pub ends_starts : EndsStarts
ends_starts count [] processor h inside =
    sym (ap (λ (p : ProcessorFigures). option_to_list p.running) (get_or-replicate count processor unread unread inside))
ends_starts count (m ∷ past) processor h inside =
    let c = change (figures count past) m.event m.answer in
    let starts : starts_reported_at count processor (m ∷ past)
    ≡ starts_reported_at count processor past ++ filter (is_start_at processor) (option_to_list c.start) =
    filter-append (is_start_at processor) (reported_starts count past) (option_to_list c.start) in
    let stops : stops_reported_at count processor (m ∷ past)
    ≡ stops_reported_at count processor past ++ filter (is_stop_at processor) (option_to_list c.stop) =
    filter-append (is_stop_at processor) (reported_stops count past) (option_to_list c.stop) in
    starts ∙ grown-pairs (starts_reported_at count processor past)
    (option_to_list (processor_in_figures (figures count past) processor).running)
    (filter (is_start_at processor) (option_to_list c.start))
    (option_to_list (processor_in_figures (figures count (m ∷ past)) processor).running) (stops_reported_at count processor past)
    (filter (is_stop_at processor) (option_to_list c.stop)) (ends_starts count past processor h.1 inside)
    (pairs-shown count past (figures count (m ∷ past)) m.event (shown_by_answer m.event m.answer) c.stop c.start processor h.1
    h.0 inside (answer_reports count past m h))
    ∙ ap (λ l. map (λ (sp : Stop). sp.start) l ++ option_to_list (processor_in_figures (figures count (m ∷ past)) processor).running) (sym stops)
