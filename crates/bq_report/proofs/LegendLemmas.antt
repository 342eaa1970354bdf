-- The text of a map, a part behind another, and what its legend knows.
use Rattle.std.proofs.Common.{◌≡◌, ◌∙◌, ◌↔◌, ℕ, zero, suc, ◌+◌, ◌<◌, ◌≤◌, Bool, true, cond, nat_lt, ◌&&◌, IsTrue, List, [], ◌∷◌, ◌++◌, length, get_or, set, take, Option, Contains, refl, sym, ap, subst, arith, append_assoc, append-nil, add-one, inl, inr}
use Rattle.std.specs.Prelude.{codes}
use Rattle.std.specs.BTreeMap.{is_at}
use Rattle.std.specs.BTreeSet.{contains}
use Rattle.std.specs.Ordering.{nat_cmp}
use Rattle.std.proofs.lemmas.Bool.{and_parts, cases_eq}
use Rattle.std.proofs.lemmas.Bool.Decides.{Decides-ltb}
use Rattle.std.proofs.lemmas.List.{get_or-set_other, length-set, take_more}
use Rattle.std.proofs.lemmas.List.Concat.{flat_map-append}
use Rattle.std.proofs.lemmas.List.Elements.{Contains-append_left, Contains-push, Contains-push_cases}
use Rattle.bq_schedule.specs.declared.slice.Slice.{Slice}
use Rattle.bq_schedule.specs.Figures.{Figures, processor_in_figures}
use Rattle.bq_report.specs.declared.amounts.Unit.{Unit}
use Rattle.bq_report.specs.declared.extent.Extent.{Extent}
use Rattle.bq_report.specs.declared.grid.Grid.{Grid}
use Rattle.bq_report.specs.declared.legend.Legend.{Legend}
use Rattle.bq_report.specs.declared.map_row.Column.{Column}
use Rattle.bq_report.specs.declared.map_row.Column.TheVariants.{Task, Hidden, Idle}
use Rattle.bq_report.specs.declared.window.Window.{Window}
use Rattle.bq_report.specs.Amounts.{moment_text}
use Rattle.bq_report.specs.Legends.{DrawsRows, Notes, NotesMore}
use Rattle.bq_report.specs.Longest.{time_between}
use Rattle.bq_report.specs.MapRows.{RunsRow}
use Rattle.bq_report.specs.Maps.{AreColumns, DrawnRow, RowsHold, HoldsLast, IsColumnNote, IsDrawnRow, IsHiddenNote, IsLegend, IsLegendLine, IsLineOfTask, RunsIn, all_columns, all_runs, drawn_row, empty_map_row, letter_at, letters, map_row_of, map_row_text, rows_text, lettered_task, unit_for}
use Rattle.bq_report.specs.Names.{NamedTasks}
use Rattle.bq_report.specs.Reports.{GrowsByPart, AreParts}
use Rattle.bq_report.specs.Windows.{ShowsProcessor}
use Rattle.bq_report.proofs.LongestLemmas.{time_pushed, time_pushed_other}
use Rattle.bq_report.proofs.NameLemmas.{is_at-equal, is_at-other}
use Rattle.bq_report.proofs.ReportLemmas.{AreParts-more, AreParts-none, AreParts-same, part_missing, part_there}

-- whether each of these is a character of ASCII
abbrev are_ascii : List ℕ → Bool
are_ascii [] = true
are_ascii (letter ∷ rest) = nat_lt letter 128 && are_ascii rest

-- of such a list each place holds a character of ASCII, and `*` stands for what is past its end
ascii_at : (l : List ℕ) → are_ascii l ≡ true → (place : ℕ) → get_or l place 42 < 128
ascii_at [] h place = omega arith
ascii_at (letter ∷ rest) h zero = (Decides-ltb letter 128).0 (and_parts (nat_lt letter 128) (are_ascii rest) h).0
ascii_at (letter ∷ rest) h (suc place) = ascii_at rest (and_parts (nat_lt letter 128) (are_ascii rest) h).1 place

-- every letter is a character of ASCII
pub letter_ascii : (place : ℕ) → letter_at place < 128
letter_ascii place = ascii_at letters refl place

-- these runs and columns are noted, by equal lists
notes_as : (e : Extent) (runs others : List Slice) (columns rest : List Column) (l : Legend)
    → runs ≡ others → columns ≡ rest → Notes e runs columns l → Notes e others rest l
notes_as e runs others columns rest l same alike known =
    subst (λ rs. Notes e rs rest l) same (subst (λ cs. Notes e runs cs l) alike known)

-- with no more runs and columns a legend stays as it is
pub notes_none : (e : Extent) (l : Legend) → NotesMore e [] [] l l
notes_none e l ran before known = notes_as e ran (ran ++ []) before (before ++ []) l (sym (append-nil ran)) (sym (append-nil before)) known

-- runs and columns are noted, and then others
pub notes_joined : (e : Extent) (ra rb : List Slice) (a b : List Column) (first then last : Legend)
    → NotesMore e ra a first then → NotesMore e rb b then last → NotesMore e (ra ++ rb) (a ++ b) first last
notes_joined e ra rb a b first then last one two ran before known =
    notes_as e ((ran ++ ra) ++ rb) (ran ++ (ra ++ rb)) ((before ++ a) ++ b) (before ++ (a ++ b)) last
    (append_assoc ran ra rb) (append_assoc before a b) (two (ran ++ ra) (before ++ a) (one ran before known))

-- runs and columns that are equal are noted alike
pub notes_of : (e : Extent) (ra rb : List Slice) (a b : List Column) (old new : Legend)
    → ra ≡ rb → a ≡ b → NotesMore e ra a old new → NotesMore e rb b old new
notes_of e ra rb a b old new same alike noted =
    subst (λ runs. NotesMore e runs b old new) same (subst (λ columns. NotesMore e ra columns old new) alike noted)

-- one more column is noted
pub notes_next : (e : Extent) (columns : List Column) (i : ℕ) (d : Column) (first then last : Legend)
    → i < length columns → NotesMore e [] (take i columns) first then → NotesMore e [] (get_or columns i d ∷ []) then last
    → NotesMore e [] (take (i + 1) columns) first last
notes_next e columns i d first then last lt before one =
    notes_of e [] [] (take i columns ++ (get_or columns i d ∷ [])) (take (i + 1) columns) first last refl (sym (take_more columns i d lt))
    (notes_joined e [] [] (take i columns) (get_or columns i d ∷ []) first then last before one)

-- one more run is noted
pub runs_next : (e : Extent) (runs : List Slice) (i : ℕ) (d : Slice) (first then last : Legend)
    → i < length runs → NotesMore e (take i runs) [] first then → NotesMore e (get_or runs i d ∷ []) [] then last
    → NotesMore e (take (i + 1) runs) [] first last
runs_next e runs i d first then last lt before one =
    notes_of e (take i runs ++ (get_or runs i d ∷ [])) (take (i + 1) runs) [] [] first last (sym (take_more runs i d lt)) refl
    (notes_joined e (take i runs) (get_or runs i d ∷ []) [] [] first then last before one)

-- among columns with one more at the end, any other than that one is among those before
other_column : (before : List Column) (column wanted : Column)
    → ¬ (column ≡ wanted) → Contains (before ++ (column ∷ [])) wanted → Contains before wanted
other_column before column wanted not stands = elim (Contains-push_cases before column wanted stands) [
  | inl there ↦ there
  | inr is ↦ absurd (not is)
]

-- a column of another kind changes nothing of what is known of this one
same_known : (b c : Bool) (before : List Column) (column wanted : Column)
    → c ≡ b → ¬ (column ≡ wanted) → (IsTrue b ↔ Contains before wanted)
    → (IsTrue c ↔ Contains (before ++ (column ∷ [])) wanted)
same_known b c before column wanted is not known = (
  λ h. Contains-append_left before (column ∷ []) wanted (known.0 (sym is ∙ h)),
  λ stands. is ∙ known.1 (other_column before column wanted not stands),
)

-- a column of this kind is known
now_known : (c : Bool) (before : List Column) (column : Column) → c ≡ true → (IsTrue c ↔ Contains (before ++ (column ∷ [])) column)
now_known c before column is = (λ h. Contains-push before column, λ stands. is)

-- with no more runs, a legend that has noted the same tasks as running knows all that run
same_ran : (e : Extent) (ran : List Slice) (old new : Legend) → new.ran ≡ old.ran
    → ((task : ℕ) → IsTrue (contains nat_cmp old.ran task) ↔ RunsIn e ran task)
    → (task : ℕ) → IsTrue (contains nat_cmp new.ran task) ↔ RunsIn e (ran ++ []) task
same_ran e ran old new is known =
    subst (λ runs. (task : ℕ) → IsTrue (contains nat_cmp new.ran task) ↔ RunsIn e runs task) (sym (append-nil ran))
    (subst (λ set. (task : ℕ) → IsTrue (contains nat_cmp set task) ↔ RunsIn e ran task) (sym is) known)

-- the column of a task is noted
pub notes_task : (e : Extent) (old new : Legend) (column : Column) (task : ℕ) → column ≡ Task task
    → ((q : ℕ) → contains nat_cmp new.tasks q ≡ cond (is_at (nat_cmp task) q) true (contains nat_cmp old.tasks q))
    → new.ran ≡ old.ran → new.has_hidden ≡ old.has_hidden → NotesMore e [] (column ∷ []) old new
notes_task e old new column task is sets same rest ran before known =
    subst (λ own. Notes e (ran ++ []) (before ++ (own ∷ [])) new) (sym is) (record {
      ran = same_ran e ran old new same known.ran;
      tasks = λ q. elim (cases_eq task q) [
        | inl is ↦ subst (λ u. IsTrue (contains nat_cmp new.tasks u) ↔ Contains (before ++ (Task task ∷ [])) (Task u)) is
            (now_known (contains nat_cmp new.tasks task) before (Task task)
            (sets task ∙ ap (λ b. cond b true (contains nat_cmp old.tasks task)) (is_at-equal task task refl)))
        | inr not ↦ same_known (contains nat_cmp old.tasks q) (contains nat_cmp new.tasks q) before (Task task) (Task q)
            (sets q ∙ ap (λ b. cond b true (contains nat_cmp old.tasks q)) (is_at-other task q not)) (λ e. not (cc)) (known.tasks q)
      ];
      hidden = same_known old.has_hidden new.has_hidden before (Task task) Hidden rest (λ e. cc) known.hidden;
    })

-- a column of hidden tasks is noted
pub notes_hidden : (e : Extent) (old new : Legend) (column : Column) → column ≡ Hidden → new.ran ≡ old.ran → new.tasks ≡ old.tasks
    → new.has_hidden ≡ true → NotesMore e [] (column ∷ []) old new
notes_hidden e old new column is same rest has ran before known =
    subst (λ own. Notes e (ran ++ []) (before ++ (own ∷ [])) new) (sym is) (record {
      ran = same_ran e ran old new same known.ran;
      tasks = λ q. same_known (contains nat_cmp old.tasks q) (contains nat_cmp new.tasks q) before Hidden (Task q)
          (ap (λ t. contains nat_cmp t q) rest) (λ e. cc) (known.tasks q);
      hidden = now_known new.has_hidden before Hidden has;
    })

-- a column of no task is noted
pub notes_idle : (e : Extent) (l : Legend) (column : Column) → column ≡ Idle → NotesMore e [] (column ∷ []) l l
notes_idle e l column is ran before known =
    subst (λ own. Notes e (ran ++ []) (before ++ (own ∷ [])) l) (sym is) (record {
      ran = same_ran e ran l l refl known.ran;
      tasks = λ q. same_known (contains nat_cmp l.tasks q) (contains nat_cmp l.tasks q) before Idle (Task q) refl (λ e. cc) (known.tasks q);
      hidden = same_known l.has_hidden l.has_hidden before Idle Hidden refl (λ e. cc) known.hidden;
    })

-- what is known of the runs, with one more, tells what is known with it
noted_run : (e : Extent) (ran : List Slice) (run : Slice) (old new : Legend)
    → ((task : ℕ) → IsTrue (contains nat_cmp new.ran task) ↔ RunsIn e (ran ++ (run ∷ [])) task)
    → new.tasks ≡ old.tasks → new.has_hidden ≡ old.has_hidden
    → (before : List Column) → Notes e ran before old → Notes e (ran ++ (run ∷ [])) (before ++ []) new
noted_run e ran run old new told tasks hidden before known =
    subst (λ columns. Notes e (ran ++ (run ∷ [])) columns new) (sym (append-nil before)) (record {
      ran = told;
      tasks = subst (λ set. (task : ℕ) → IsTrue (contains nat_cmp set task) ↔ Contains before (Task task)) (sym tasks) known.tasks;
      hidden = subst (λ has. IsTrue has ↔ Contains before Hidden) (sym hidden) known.hidden;
    })

-- the task of a run in the extent is noted
pub notes_run : (e : Extent) (old new : Legend) (run : Slice) → 0 < time_between e.from e.to run
    → ((q : ℕ) → contains nat_cmp new.ran q ≡ cond (is_at (nat_cmp run.task) q) true (contains nat_cmp old.ran q))
    → new.tasks ≡ old.tasks → new.has_hidden ≡ old.has_hidden → NotesMore e (run ∷ []) [] old new
notes_run e old new run lasts sets tasks hidden ran before known =
    noted_run e ran run old new
    (λ q. elim (cases_eq run.task q) [
      | inl is ↦ (
        λ h. omega (arith, time_pushed e.from e.to ran run q is),
        λ h. sets q ∙ ap (λ b. cond b true (contains nat_cmp old.ran q)) (is_at-equal run.task q is),
      )
      | inr not ↦
          let same : contains nat_cmp new.ran q ≡ contains nat_cmp old.ran q
          = sets q ∙ ap (λ b. cond b true (contains nat_cmp old.ran q)) (is_at-other run.task q not) in (
            λ h. omega (arith, time_pushed_other e.from e.to ran run q not, (known.ran q).0 (sym same ∙ h)),
            λ h. same ∙ (known.ran q).1 (omega (arith, h, time_pushed_other e.from e.to ran run q not)),
          )
    ])
    tasks hidden before known

-- a task with its note, if there is one, is a line
pub line_added : (names : NamedTasks) (columns : List Column) (place task : ℕ) (old written noted ended : List ℕ)
    → written ≡ old ++ lettered_task names place task → GrowsByPart (IsColumnNote columns task) written noted → ended ≡ noted ++ codes "\n"
    → GrowsByPart (IsLineOfTask names columns place task) old ended
line_added names columns place task old written noted ended write note end = (
  lettered_task names place task ++ (note.0 ++ codes "\n"),
  (note.0, note.1, refl),
  end ∙ ap (λ t. t ++ codes "\n") (note.2 ∙ ap (λ t. t ++ note.0) write)
      ∙ append_assoc (old ++ lettered_task names place task) note.0 (codes "\n")
      ∙ append_assoc old (lettered_task names place task) (note.0 ++ codes "\n"),
)

-- parts of a text that are joined from the left are the same joined from the right
regroup : (old a m b n e l : List ℕ) → (((old ++ (a ++ (m ++ b))) ++ n) ++ e) ++ l ≡ old ++ (a ++ (m ++ (b ++ (n ++ (e ++ l)))))
regroup old a m b n e l = simp append_assoc

-- the parts of a legend, in order, are a legend
pub legend_added : (names : NamedTasks) (tasks own : List ℕ) (g : Grid) (unit : Unit) (old headed noted ended next : List ℕ)
    (runs : List Slice) (columns : List Column)
    → own ≡ tasks → unit ≡ unit_for g.step → headed ≡ old ++ (codes "\na column is " ++ (moment_text g.step unit ++ codes "; . is idle"))
    → GrowsByPart (IsHiddenNote columns) headed noted → ended ≡ noted ++ codes "\n"
    → GrowsByPart (AreParts (IsLegendLine names own g.extent runs columns) (length own)) ended next
    → GrowsByPart (IsLegend names tasks g runs columns) old next
legend_added names tasks own g unit old headed noted ended next runs columns are is head note end lines =
    let all : next
    ≡ (((old ++ (codes "\na column is " ++ (moment_text g.step (unit_for g.step) ++ codes "; . is idle"))) ++ note.0) ++ codes "\n")
    ++ lines.0 = lines.2 ∙ ap (λ t. t ++ lines.0) (end ∙ ap (λ t. t ++ codes "\n") (note.2 ∙ ap (λ t. t ++ note.0)
    (head ∙ ap (λ u. old ++ (codes "\na column is " ++ (moment_text g.step u ++ codes "; . is idle"))) is))) in (
      _,
      record {
        note = note.0;
        lines = lines.0;
        hidden = note.1;
        each = subst (λ ts. AreParts (IsLegendLine names ts g.extent runs columns) (length ts) lines.0) are lines.1;
        whole = refl;
      },
      all ∙ regroup old (codes "\na column is ") (moment_text g.step (unit_for g.step)) (codes "; . is idle") note.0 (codes "\n") lines.0,
    )

-- no row is drawn yet
pub draws_none : (w : Window) (rows : List RunsRow) (tasks : List ℕ) (g : Grid) (l : Legend) (text : List ℕ)
    → DrawsRows w rows tasks g 0 l l text text
draws_none w rows tasks g l text = record {
  drawn = [];
  shown = AreParts-none (IsDrawnRow w rows g);
  noted = notes_none g.extent l;
  added = sym (append-nil text);
}

-- no row is drawn yet, by an equal legend and an equal text
pub draws_at : (w : Window) (rows : List RunsRow) (tasks : List ℕ) (g : Grid) (number : ℕ) (first last next : Legend)
    (old now then : List ℕ)
    → next ≡ last → then ≡ now → DrawsRows w rows tasks g number first last old now
    → DrawsRows w rows tasks g number first next old then
draws_at w rows tasks g number first last next old now then is reads draws =
    subst (λ l. DrawsRows w rows tasks g number first l old then) (sym is)
    (subst (λ t. DrawsRows w rows tasks g number first last old t) (sym reads) draws)

-- a row that is shown is drawn
pub draws_more : (w : Window) (rows : List RunsRow) (tasks : List ℕ) (g : Grid) (number : ℕ) (first l ran last : Legend)
    (old now next : List ℕ) (row : RunsRow) (runs : List Slice) (columns a b : List Column)
    → DrawsRows w rows tasks g number first l old now → ShowsProcessor w number
    → row ≡ map_row_of rows number → runs ≡ row.shown → AreColumns row g columns → a ≡ columns → b ≡ columns
    → NotesMore g.extent runs [] l ran → next ≡ now ++ map_row_text tasks number a
    → ((e : Extent) → NotesMore e [] b ran last)
    → DrawsRows w rows tasks g (number + 1) first last old next
draws_more w rows tasks g number first l ran last old now next row runs columns a b draws shown is own are written read noted line more =
    let drawn : DrawnRow = drawn_row rows number columns in
    let part : IsDrawnRow w rows g number (drawn ∷ []) =
    part_there (ShowsProcessor w number)
    (λ part. (cs : List Column) × AreColumns (map_row_of rows number) g cs × (part ≡ drawn_row rows number cs ∷ []))
    (drawn ∷ []) shown (columns, subst (λ r. AreColumns r g columns) is are, refl) in
    let more_noted : NotesMore g.extent (all_runs (drawn ∷ [])) (all_columns (drawn ∷ [])) l last =
    notes_of g.extent (runs ++ []) (all_runs (drawn ∷ [])) b (all_columns (drawn ∷ [])) l last
    (ap (λ rs. rs ++ []) (own ∙ ap (λ r. r.shown) is)) (read ∙ sym (append-nil columns))
    (notes_joined g.extent runs [] [] b l ran last noted (more g.extent)) in
    record {
      drawn = draws.drawn ++ (drawn ∷ []);
      shown = AreParts-more (IsDrawnRow w rows g) number draws.drawn (drawn ∷ []) draws.shown part;
      noted =
          notes_of g.extent (all_runs draws.drawn ++ all_runs (drawn ∷ [])) (all_runs (draws.drawn ++ (drawn ∷ [])))
          (all_columns draws.drawn ++ all_columns (drawn ∷ [])) (all_columns (draws.drawn ++ (drawn ∷ []))) first last
          (sym (flat_map-append (λ (r : DrawnRow). r.runs) draws.drawn (drawn ∷ [])))
          (sym (flat_map-append (λ (r : DrawnRow). r.columns) draws.drawn (drawn ∷ [])))
          (notes_joined g.extent (all_runs draws.drawn) (all_runs (drawn ∷ [])) (all_columns draws.drawn) (all_columns (drawn ∷ []))
          first l last draws.noted more_noted);
      added =
          line ∙ ap (λ cs. now ++ map_row_text tasks number cs) written
          ∙ ap (λ t. t ++ map_row_text tasks number columns) draws.added
          ∙ append_assoc old (rows_text tasks draws.drawn) (map_row_text tasks number columns)
          ∙ ap (λ t. old ++ t) (ap (λ t. rows_text tasks draws.drawn ++ t) (sym (append-nil (map_row_text tasks number columns)))
          ∙ sym (flat_map-append (λ (r : DrawnRow). map_row_text tasks r.number r.columns) draws.drawn (drawn ∷ [])));
    }

-- a row that is not shown is not drawn
pub draws_same : (w : Window) (rows : List RunsRow) (tasks : List ℕ) (g : Grid) (number : ℕ) (first last : Legend) (old now : List ℕ)
    → DrawsRows w rows tasks g number first last old now → ¬ (ShowsProcessor w number) → DrawsRows w rows tasks g (number + 1) first last old now
draws_same w rows tasks g number first last old now draws not = record {
  drawn = draws.drawn;
  shown =
      AreParts-same (IsDrawnRow w rows g) number draws.drawn draws.shown
      (part_missing (ShowsProcessor w number)
      (λ part. (cs : List Column) × AreColumns (map_row_of rows number) g cs × (part ≡ drawn_row rows number cs ∷ [])) not);
  noted = draws.noted;
  added = draws.added;
}

-- where one row changes, there are as many, and those behind it stay
pub rows_behind : (old now next : List RunsRow) (number : ℕ) (row : RunsRow)
    → next ≡ set now number row → length now ≡ length old → ((p : ℕ) → number ≤ p → map_row_of now p ≡ map_row_of old p)
    → (length next ≡ length old) × ((p : ℕ) → number + 1 ≤ p → map_row_of next p ≡ map_row_of old p)
rows_behind old now next number row is count same = (
  ap length is ∙ length-set now number row ∙ count,
  λ p h. ap (λ rows. map_row_of rows p) is ∙ get_or-set_other now number p row empty_map_row (omega (arith, h)) ∙ same p (omega (arith, h)),
)

-- no last run is held yet
pub last_none : (w : Window) (s : Figures) (rows : List RunsRow) → HoldsLast w s 0 rows rows
unfolding HoldsLast
last_none w s rows = refl

-- the last run of one more processor is held
pub last_more : (w : Window) (s : Figures) (number : ℕ) (old now next : List RunsRow) (run : Option Slice) → HoldsLast w s number old now
    → run ≡ (processor_in_figures s number).run → RowsHold w run now next → HoldsLast w s (number + 1) old next
unfolding HoldsLast
last_more w s number old now next run before is holds =
    subst (λ n. HoldsLast w s n old next) (sym (add-one number)) (now, before, subst (λ r. RowsHold w r now next) is holds)
