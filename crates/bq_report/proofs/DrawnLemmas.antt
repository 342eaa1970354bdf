-- A map as a whole: how long its columns are, and its parts one behind another.
use Rattle.std.proofs.Common.{◌≡◌, ◌∙◌, ℕ, ◌+◌, ◌-◌, ◌≤◌, List, [], ◌∷◌, ◌++◌, length, replicate, Option, Some, None, refl, sym, ap, subst, append_assoc, append-nil, inl, inr}
use Rattle.std.specs.Prelude.{OnOk, Result, Ok, Err, codes, find, if◌then◌else◌, is_ok}
use Rattle.std.proofs.lemmas.List.{replicate_more}
use Rattle.bq_schedule.specs.declared.slice.Slice.{Slice}
use Rattle.bq_schedule.specs.Figures.{Figures}
use Rattle.bq_report.specs.declared.extent.Extent.{Extent}
use Rattle.bq_report.specs.declared.grid.Grid.{Grid}
use Rattle.bq_report.specs.declared.legend.Legend.{Legend}
use Rattle.bq_report.specs.declared.map_row.Column.{Column}
use Rattle.bq_report.specs.declared.window.Window.{Window}
use Rattle.bq_report.specs.Extents.{IsInWindow, SpansReadings}
use Rattle.bq_report.specs.Legends.{DrawsRows, Notes}
use Rattle.bq_report.specs.MapRows.{RunsRow}
use Rattle.bq_report.specs.Maps.{IsDrawn, IsDrawnBy, IsLegend, IsMap, all_columns, all_runs, columns_in, empty_map_row, grid_over, rows_text, ruler_text, step_over}
use Rattle.bq_report.specs.Names.{NamedTasks}
use Rattle.bq_report.specs.Reports.{GrowsByPart}
use Rattle.bq_report.specs.Steps.{covers, round_steps}

-- no row is added yet
pub rows_none : (rows : List RunsRow) → rows ≡ rows ++ replicate 0 empty_map_row
rows_none rows = sym (append-nil rows)

-- one more row without a run is added
pub rows_more : (old now next : List RunsRow) (n : ℕ) (row : RunsRow)
    → now ≡ old ++ replicate n empty_map_row → row ≡ empty_map_row → next ≡ now ++ (row ∷ [])
    → next ≡ old ++ replicate (n + 1) empty_map_row
rows_more old now next n row before is more =
    more ∙ ap (λ rows. rows ++ (row ∷ [])) before ∙ append_assoc old (replicate n empty_map_row) (row ∷ [])
    ∙ ap (λ own. old ++ (replicate n empty_map_row ++ (own ∷ []))) is ∙ ap (λ rows. old ++ rows) (replicate_more n empty_map_row)

-- what was found by these figures is the step over the extent
pub step_is : (e : Extent) (width span count : ℕ) (found : Option ℕ)
    → found ≡ find (λ (step : ℕ). covers span count step) round_steps → span ≡ e.to - e.from → count ≡ columns_in width
    → found ≡ step_over e width
step_is e width span count found is long wide =
    is ∙ ap (λ n. find (λ (step : ℕ). covers n count step) round_steps) long
    ∙ ap (λ n. find (λ (step : ℕ). covers (e.to - e.from) n step) round_steps) wide

-- a map by the step that was found
pub drawn_by_step : (w : Window) (names : NamedTasks) (tasks : List ℕ) (rows : List RunsRow) (e : Extent)
    (found wanted : Option ℕ) (step : ℕ) (g : Grid) (old new : List ℕ)
    → found ≡ wanted → found ≡ Some step → g ≡ grid_over e step → GrowsByPart (IsDrawn w names tasks rows g) old new
    → GrowsByPart (IsDrawnBy w names tasks rows e wanted) old new
drawn_by_step w names tasks rows e found wanted step g old new are is over drawn = (
  drawn.0,
  subst (λ o. IsDrawnBy w names tasks rows e o drawn.0) (sym is ∙ are)
      (subst (λ grid. IsDrawn w names tasks rows grid drawn.0) over drawn.1),
  drawn.2,
)

-- nothing is drawn where no step was found
pub drawn_by_none : (w : Window) (names : NamedTasks) (tasks : List ℕ) (rows : List RunsRow) (e : Extent)
    (found wanted : Option ℕ) (text : List ℕ)
    → found ≡ wanted → found ≡ None → GrowsByPart (IsDrawnBy w names tasks rows e wanted) text text
drawn_by_none w names tasks rows e found wanted text are is =
    ([], subst (λ o. IsDrawnBy w names tasks rows e o []) (sym is ∙ are) refl, sym (append-nil text))

-- parts of a text that are joined from the left are the same joined from the right
regroup : (old a b c : List ℕ) → ((old ++ a) ++ b) ++ c ≡ old ++ (a ++ (b ++ c))
regroup old a b c = simp append_assoc

-- the ruler, the rows and the legend, in order, are a map
pub map_added : (w : Window) (names : NamedTasks) (tasks : List ℕ) (rows : List RunsRow) (g : Grid) (first last : Legend)
    (old ruled drawn next : List ℕ)
    → ruled ≡ old ++ ruler_text g → ((e : Extent) → Notes e [] [] first) → DrawsRows w rows tasks g (length rows) first last ruled drawn
    → ((runs : List Slice) → (columns : List Column) → Notes g.extent runs columns last
    → GrowsByPart (IsLegend names tasks g runs columns) drawn next)
    → GrowsByPart (IsDrawn w names tasks rows g) old next
map_added w names tasks rows g first last old ruled drawn next ruler none draws below =
    let legend = below (all_runs draws.drawn) (all_columns draws.drawn) (draws.noted [] [] (none g.extent)) in (
      _,
      record { drawn = draws.drawn; legend = legend.0; shown = draws.shown; below = legend.1; whole = refl },
      legend.2 ∙ ap (λ t. t ++ legend.0) (draws.added ∙ ap (λ t. t ++ rows_text tasks draws.drawn) ruler)
          ∙ regroup old (ruler_text g) (rows_text tasks draws.drawn) legend.0,
    )

-- what is drawn over the time that passes is the map; the window, the width and the tasks are as they were
pub map_of_time : (w u : Window) (names : NamedTasks) (s : Figures) (tasks others : List ℕ) (width breadth : ℕ)
    (rows : List RunsRow) (e : Extent) (old new : List ℕ)
    → (u ≡ w) × (breadth ≡ width) × (others ≡ tasks) → IsInWindow u e → SpansReadings u s e
    → GrowsByPart (IsDrawnBy u names others rows e (step_over e breadth)) old new
    → GrowsByPart (IsMap w names s tasks width rows) old new
map_of_time w u names s tasks others width breadth rows e old new same within spans drawn = (
  drawn.0,
  inl (record {
    extent = e;
    in_window = subst (λ v. IsInWindow v e) same.0 within;
    spans = subst (λ v. SpansReadings v s e) same.0 spans;
    drawn = subst (λ v. IsDrawnBy v names tasks rows e (step_over e width) drawn.0) same.0
        (subst (λ ts. IsDrawnBy u names ts rows e (step_over e width) drawn.0) same.2
        (subst (λ n. IsDrawnBy u names others rows e (step_over e n) drawn.0) same.1 drawn.1));
  }),
  drawn.2,
)

-- what is appended, where memory does not run out
pub pushed : {T E : Type 0} (r : Result T E) (old part new : List ℕ)
    → new ≡ (if is_ok r then old ++ part else old) → OnOk r (new ≡ old ++ part)
pushed (Ok done) old part new is = is
pushed (Err error) old part new is = tt

-- where no time passes the map says so
pub map_of_no_time : (w u : Window) (names : NamedTasks) (s : Figures) (tasks : List ℕ) (width : ℕ) (rows : List RunsRow) (old new : List ℕ)
    → u ≡ w → ((e : Extent) → SpansReadings u s e → e.to ≤ e.from) → new ≡ old ++ codes "no time passes in what is shown\n"
    → GrowsByPart (IsMap w names s tasks width rows) old new
map_of_no_time w u names s tasks width rows old new same none shows = (
  codes "no time passes in what is shown\n",
  inr (record { none = λ e spans. none e (subst (λ v. SpansReadings v s e) (sym same) spans); shows = refl }),
  shows,
)
