-- The runs of a picture: held, and drawn, and the picture as a whole.
use Rattle.std.proofs.Common.{◌≡◌, ℕ, ◌+◌, ◌<◌, List, [], ◌∷◌, ◌++◌, Option, Some, drop, get_or, length, refl, sym, ap, ◌∙◌, subst, append_assoc, append-nil, add-one, arith, inl, string_bytes, ◌*◌, BTreeMap}
use Rattle.std.proofs.lemmas.List.{at_drop_more}
use Rattle.std.proofs.lemmas.List.Concat.{flat_map-append}
use Rattle.std.proofs.lemmas.Result.{on_ok_weaker}
use Rattle.std.specs.BTreeMap.{Updates, get}
use Rattle.std.specs.Option.{option_map}
use Rattle.std.specs.Ordering.{nat_cmp}
use Rattle.std.specs.Prelude.{OnOk, Result, codes, flat_map}
use Rattle.bq_disc.specs.Counts.{saturating_sum}
use Rattle.bq_schedule.specs.declared.change.Change.{Change}
use Rattle.bq_schedule.specs.declared.change.Stop.{Stop}
use Rattle.bq_schedule.specs.declared.change.Wake.{Wake}
use Rattle.bq_schedule.specs.declared.figures.ProcessorFigures.{ProcessorFigures}
use Rattle.bq_schedule.specs.declared.slice.Slice.{Slice}
use Rattle.bq_schedule.specs.Figures.{Figures, processor_in_figures, task_in_figures}
use Rattle.bq_report.specs.declared.extent.Extent.{Extent}
use Rattle.bq_report.specs.declared.window.Window.{Window}
use Rattle.bq_report.specs.Names.{NamedTasks}
use Rattle.bq_report.specs.Reports.{GrowsByPart}
use Rattle.bq_report.specs.Windows.{Shows, ShowsProcessor}
use Rattle.bq_drawing.specs.declared.written_rows.WrittenRows.{WrittenRows}
use Rattle.bq_drawing.specs.declared.lanes.TaskInterval.{TaskInterval}
use Rattle.bq_drawing.specs.declared.legend.Key.{Key}
use Rattle.bq_drawing.specs.declared.links.RowLink.{RowLink}
use Rattle.bq_drawing.specs.declared.links.LinkKind.{LinkKind}
use Rattle.bq_drawing.specs.declared.picture_options.PictureOptions.{PictureOptions}
use Rattle.bq_drawing.specs.declared.svg.Svg.{Svg}
use Rattle.bq_words.specs.declared.discipline_name.DisciplineName.{DisciplineName}
use Rattle.bq_drawing.specs.Axes.{axis_text}
use Rattle.bq_drawing.specs.Headings.{heading_text, title_of}
use Rattle.bq_drawing.specs.Holdings.{Held, HoldsChange, HoldsPull, HoldsRun, HoldsRunners, HoldsStart, HoldsWait, HoldsWaiting, HoldsWake, Stops, wait_at, with_stop, with_wake}
use Rattle.bq_drawing.specs.Keys.{legend_key, legend_of, legend_top, tasks_shown}
use Rattle.bq_drawing.specs.Legends.{legend_height, legend_text}
use Rattle.bq_drawing.specs.Links.{link_line, links_text}
use Rattle.bq_drawing.specs.Lanes.{lane_of, lanes_after, left_out, lanes_taken}
use Rattle.bq_drawing.specs.Pictures.{IsDrawing, IsDrawnOver, IsHead, IsPicture, IsPictureOf}
use Rattle.bq_drawing.specs.Scales.{band_height, lane_height, level_height, row_gap, rows_edge}
use Rattle.bq_drawing.specs.Rows.{ArePutInOrder, DrawingRow, Rows, labels_text, drawing_row_of, drawing_row_text}
use Rattle.bq_drawing.specs.Runs.{run_ended_by, run_on}
use Rattle.bq_drawing.specs.Frames.{PictureSetting, drawn_in}
use Rattle.bq_drawing.specs.Shapes.{arrow_of, band_text, in_lanes, label_text, row_name, drawn_run_text, shape_in, waits_text, wakes_text}
use Rattle.bq_drawing.specs.Escapes.{xml_letter}
use Rattle.bq_drawing.specs.Units.{axis_step}
use Rattle.bq_drawing.specs.Writing.{AreDrawn, IsRowWritten, IsRowWrittenIf, key_beside}

-- no run that goes on is held yet
pub runners_none : (w : Window) (s : Figures) (rows : Held) → HoldsRunners w s 0 rows rows
unfolding HoldsRunners
runners_none w s rows = refl

-- the runs that are held go on by the run of one more processor
pub runner_held : (w : Window) (s : Figures) (number : ℕ) (p : ProcessorFigures) (old now new : Held) → HoldsRunners w s number old now
    → p ≡ processor_in_figures s number → HoldsRun w p.running (run_on p) now new → HoldsRunners w s (number + 1) old new
unfolding HoldsRunners
runner_held w s number p old now new before is holds =
    let here : HoldsRun w (processor_in_figures s number).running (run_on (processor_in_figures s number)) now new =
    subst (λ q. HoldsRun w q.running (run_on q) now new) is holds in
    subst (λ n. HoldsRunners w s n old new) (sym (add-one number)) (now, before, here)

-- what is held of the runs that go on at all processors
pub runners_all : (w : Window) (s : Figures) (number : ℕ) (old new : Held)
    → number ≡ 64 → HoldsRunners w s number old new → HoldsRunners w s 64 old new
runners_all w s number old new is holds = subst (λ n. HoldsRunners w s n old new) is holds

-- ---- the whole

-- a text that has grown twice
pub both_added : (old t1 t2 a b : List ℕ) → t1 ≡ old ++ a → t2 ≡ t1 ++ b → t2 ≡ old ++ (a ++ b)
both_added old t1 t2 a b e1 e2 = e2 ∙ ap (λ t. t ++ b) e1 ∙ append_assoc old a b

-- what is added last stands by a result that may tell a failure
pub last_added : {T E : Type 0} (r : Result T E) (old now new a b reported : List ℕ)
    → now ≡ old ++ a → reported ≡ b → OnOk r (new ≡ now ++ reported) → OnOk r (new ≡ old ++ (a ++ b))
last_added r old now new a b reported e1 is e2 = on_ok_weaker r (λ e. both_added old now new a b e1 (e ∙ ap (λ t. now ++ t) is)) e2

-- what is added last stands by a result that may tell a failure, where nothing stands before it
pub added_as : {T E : Type 0} (r : Result T E) (old new a reported : List ℕ)
    → reported ≡ a → OnOk r (new ≡ old ++ reported) → OnOk r (new ≡ old ++ a)
added_as r old new a reported is e1 = on_ok_weaker r (λ e. e ∙ ap (λ t. old ++ t) is) e1

-- a text that grows three times has grown by all three parts, in order
all_added : (old t1 t2 t3 a b c : List ℕ) → t1 ≡ old ++ a → t2 ≡ t1 ++ b → t3 ≡ t2 ++ c → t3 ≡ old ++ (a ++ (b ++ c))
all_added old t1 t2 t3 a b c e1 e2 e3 = both_added old t1 t3 a (b ++ c) e1 (both_added t1 t2 t3 b c e2 e3)

-- a row: its band and its name, then its runs, its waits and its wakes, and the names upon the runs
pub row_written : (s : PictureSetting) (number : ℕ) (row : DrawingRow) (waits wakes : List TaskInterval) (levels lanes top below above : ℕ)
    (old new : WrittenRows) (t1 t2 t3 : List ℕ)
    → ArePutInOrder row.waits waits → ArePutInOrder row.wakes wakes
    → levels ≡ length (lanes_after (arrow_of s.extent) [] wakes) → top ≡ saturating_sum old.bottom (levels * level_height + 4)
    → lanes ≡ length (lanes_after (λ (wait : TaskInterval). wait) [] waits)
    → new.bottom ≡ saturating_sum top (band_height + (lanes * lane_height + row_gap))
    → below ≡ saturating_sum 0 (left_out (λ (wait : TaskInterval). wait) [] waits)
    → new.waits_left_out ≡ saturating_sum old.waits_left_out below
    → above ≡ saturating_sum 0 (left_out (arrow_of s.extent) [] wakes)
    → new.wakes_left_out ≡ saturating_sum old.wakes_left_out above
    → new.links ≡ old.links → Updates nat_cmp old.bands new.bands number (Some top)
    → string_bytes new.labels ≡ string_bytes old.labels ++ flat_map (label_text s top) row.runs
    → t1 ≡ string_bytes old.text ++ (band_text top ++ row_name number top) → t2 ≡ t1 ++ flat_map (drawn_run_text s top) row.runs
    → t3 ≡ t2 ++ waits_text s top waits → string_bytes new.text ≡ t3 ++ wakes_text s top wakes
    → IsRowWritten s number row old new
row_written s number row waits wakes levels lanes top below above old new t1 t2 t3 first second high at wide ends few less
    some fewer links bands labels e1 e2 e3 e4 =
    let drawn = flat_map (drawn_run_text s top) row.runs in
    let under = waits_text s top waits in
    let over = wakes_text s top wakes in
    record {
      placed = record { number = number; top = top; row = record { runs = row.runs; waits = waits; wakes = wakes } };
      is_placed = record {
        of_processor = refl;
        below = at ∙ ap (λ n. saturating_sum old.bottom (n * level_height + 4)) high;
        runs_stay = refl;
        waits_in_order = first;
        wakes_in_order = second;
      };
      text =
          all_added (string_bytes old.text) t1 t2 (string_bytes new.text) (band_text top ++ row_name number top) drawn (under ++ over) e1 e2
          (both_added t2 t3 (string_bytes new.text) under over e3 e4)
          ∙ ap (λ t. string_bytes old.text ++ t) (append_assoc (band_text top) (row_name number top) (drawn ++ (under ++ over)));
      labels = labels;
      links = links;
      bands = bands;
      bottom = ends ∙ ap (λ n. saturating_sum top (band_height + (n * lane_height + row_gap))) wide;
      waits =
          less ∙ ap (λ n. saturating_sum old.waits_left_out n) few
          ∙ counted_anew old.waits_left_out (left_out (λ (wait : TaskInterval). wait) [] waits);
      wakes =
          fewer ∙ ap (λ n. saturating_sum old.wakes_left_out n) some
          ∙ counted_anew old.wakes_left_out (left_out (arrow_of s.extent) [] wakes);
    }
  where
    counted_anew : (n more : ℕ) → saturating_sum n (saturating_sum 0 more) ≡ saturating_sum n more
    counted_anew n more = omega arith

-- one more of some shapes that stand one after another
pub shapes_next : {A : Type 0} (draw : A → List ℕ) (items : List A) (i : ℕ) (d : A) (whole now next : List ℕ)
    → i < length items → next ≡ now ++ draw (get_or items i d) → now ++ flat_map draw (drop i items) ≡ whole
    → next ++ flat_map draw (drop (i + 1) items) ≡ whole
shapes_next {A} draw items i d whole now next there e is =
    let later = flat_map draw (drop (i + 1) items) in
    ap (λ t. t ++ later) e ∙ append_assoc now (draw (get_or items i d)) later
    ∙ sym (at_drop_more (λ (l : List A). now ++ flat_map draw l) items i d there) ∙ is

-- once no item is left the shapes are those of all items
pub shapes_end : {A : Type 0} (draw : A → List ℕ) (items : List A) (i : ℕ) (whole now : List ℕ) → drop i items ≡ []
    → now ++ flat_map draw (drop i items) ≡ whole → now ≡ whole
shapes_end {A} draw items i whole now none is = sym (append-nil now) ∙ sym (ap (λ (l : List A). now ++ flat_map draw l) none) ∙ is

-- the lines between rows go on by one more line
pub line_written : (kind : LinkKind) (s : PictureSetting) (links : List RowLink) (i : ℕ) (d : RowLink)
    (old now next : WrittenRows) (whole : List ℕ)
    → i < length links → now ≡ record old { links = now.links }
    → string_bytes next.links ≡ string_bytes now.links ++ link_line kind s (get nat_cmp now.bands) (get_or links i d)
    → string_bytes now.links ++ flat_map (link_line kind s (get nat_cmp old.bands)) (drop i links) ≡ whole
    → string_bytes next.links ++ flat_map (link_line kind s (get nat_cmp old.bands)) (drop (i + 1) links) ≡ whole
line_written kind s links i d old now next whole there same e is =
    shapes_next (link_line kind s (get nat_cmp old.bands)) links i d whole (string_bytes now.links)
    (string_bytes next.links) there
    (e ∙ ap (λ (m : BTreeMap ℕ ℕ). string_bytes now.links ++ link_line kind s (get nat_cmp m) (get_or links i d))
    (ap (λ (r : WrittenRows). r.bands) same)) is

-- the drawn lanes go on by one more interval
pub lanes_next : (room : TaskInterval → TaskInterval) (draw : ℕ → TaskInterval → List ℕ) (lanes after : List ℕ) (items : List TaskInterval)
    (i : ℕ) (d place : TaskInterval) (lane : Option ℕ) (whole now next : List ℕ)
    → i < length items → place ≡ room (get_or items i d) → lane ≡ lane_of place lanes → after ≡ lanes_taken lane place.to lanes
    → next ≡ now ++ shape_in draw lane (get_or items i d) → now ++ in_lanes room draw lanes (drop i items) ≡ whole
    → next ++ in_lanes room draw after (drop (i + 1) items) ≡ whole
unfolding in_lanes
lanes_next room draw lanes after items i d place lane whole now next there needs takes keeps e is =
    let here = get_or items i d in
    let later = drop (i + 1) items in
    let shape = shape_in draw (lane_of (room here) lanes) here in
    let own : lane ≡ lane_of (room here) lanes = takes ∙ ap (λ (p : TaskInterval). lane_of p lanes) needs in
    let kept : after ≡ lanes_taken lane (room here).to lanes = keeps ∙ ap (λ (p : TaskInterval). lanes_taken lane p.to lanes) needs in
    let added : next ≡ now ++ shape = e ∙ ap (λ (l : Option ℕ). now ++ shape_in draw l here) own in
    let left : after ≡ lanes_taken (lane_of (room here) lanes) (room here).to lanes =
    kept ∙ ap (λ (l : Option ℕ). lanes_taken l (room here).to lanes) own in
    ap (λ t. t ++ in_lanes room draw after later) added ∙ append_assoc now shape (in_lanes room draw after later)
    ∙ ap (λ (l : List ℕ). now ++ (shape ++ in_lanes room draw l later)) left
    ∙ sym (at_drop_more (λ (l : List TaskInterval). now ++ in_lanes room draw lanes l) items i d there) ∙ is

-- once no interval is left the drawn lanes are those of all intervals
pub lanes_end : (room : TaskInterval → TaskInterval) (draw : ℕ → TaskInterval → List ℕ) (lanes : List ℕ) (items : List TaskInterval) (i : ℕ)
    (whole now : List ℕ)
    → drop i items ≡ [] → now ++ in_lanes room draw lanes (drop i items) ≡ whole → now ≡ whole
unfolding in_lanes
lanes_end room draw lanes items i whole now none is =
    sym (append-nil now) ∙ sym (ap (λ (l : List TaskInterval). now ++ in_lanes room draw lanes l) none) ∙ is

-- the text that XML writes goes on by one more character
pub letters_more : (old now next yielded : List ℕ) (letter : ℕ) → now ≡ old ++ flat_map xml_letter yielded → next ≡ now ++ xml_letter letter
    → next ≡ old ++ flat_map xml_letter (yielded ++ letter ∷ [])
letters_more old now next yielded letter so_far e =
    let all : flat_map xml_letter (yielded ++ letter ∷ []) ≡ flat_map xml_letter yielded ++ xml_letter letter
    = flat_map-append xml_letter yielded (letter ∷ []) ∙ ap (λ t. flat_map xml_letter yielded ++ t) (append-nil (xml_letter letter)) in
    e ∙ ap (λ t. t ++ xml_letter letter) so_far ∙ append_assoc old (flat_map xml_letter yielded) (xml_letter letter)
    ∙ ap (λ t. old ++ t) (sym all)

-- the row of a processor that is there, and is shown
pub row_there : (w : Window) (s : PictureSetting) (rows : Rows) (number : ℕ) (row : DrawingRow) (old new : WrittenRows)
    → number < length rows → ShowsProcessor w number → row ≡ drawing_row_of rows number → IsRowWritten s number row old new
    → IsRowWrittenIf w s rows number old new
row_there w s rows number row old new there shown is written =
    inl (record { exists = there; shown = shown }, subst (λ r. IsRowWritten s number r old new) is written)

-- what stands above, the axis, the lines between rows, and what stands behind them
pub drawing_whole : (w : Window) (s : PictureSetting) (title : List ℕ) (discipline : Option DisciplineName) (held : Held) (written : WrittenRows)
    (height : ℕ) (t0 t1 t2 t3 t4 t5 : List ℕ)
    → AreDrawn w s held written → t0 ≡ heading_text s title discipline
    → t1 ≡ t0 ++ axis_text s (axis_step s.extent) rows_edge written.bottom → t2 ≡ t1 ++ string_bytes written.links
    → t3 ≡ t2 ++ string_bytes written.text → t4 ≡ t3 ++ string_bytes written.labels
    → t5 ≡ t4 ++ legend_text s (tasks_shown s.tasks held.tasks) (key_beside held.links written) (legend_top written.bottom)
    → height
    ≡ saturating_sum (legend_top written.bottom) (legend_height (length (tasks_shown s.tasks held.tasks)) (key_beside held.links written))
    → IsDrawing w s title discipline held height t5
drawing_whole w s title discipline held written height t0 t1 t2 t3 t4 t5 drawn_so e0 e1 e2 e3 e4 e5 high =
    let are = drawn_so.are_written in
    let axis = axis_text s (axis_step s.extent) rows_edge written.bottom in
    let drawn = flat_map (drawing_row_text s) are.placed in
    let lines = links_text s are.placed held.links in
    let labels = flat_map (labels_text s) are.placed in
    let legend = legend_of s held are.placed written.bottom in
    let behind = drawn ++ (labels ++ legend) in
    let key : key_beside held.links written ≡ legend_key s held.links are.placed
    = ap (λ n. record (key_beside held.links written) { waits_left_out = n }) are.waits
    ∙ ap (λ n. record (legend_key s held.links are.placed) { wakes_left_out = n }) are.wakes in
    record {
      placed = are.placed;
      edge = written.bottom;
      are_placed = are.are_placed;
      is_high =
          high
          ∙ ap (λ (k : Key). saturating_sum (legend_top written.bottom) (legend_height (length (tasks_shown s.tasks held.tasks)) k)) key;
      whole = all_added t0 t1 t2 t5 axis lines behind e1 (e2 ∙ ap (λ t. t1 ++ t) drawn_so.lines)
          (all_added t2 t3 t4 t5 drawn labels legend (e3 ∙ ap (λ t. t2 ++ t) are.text) (e4 ∙ ap (λ t. t3 ++ t) are.labels)
          (e5 ∙ ap (λ (k : Key). t4 ++ legend_text s (tasks_shown s.tasks held.tasks) k (legend_top written.bottom)) key))
          ∙ ap (λ t. t ++ (axis ++ (lines ++ behind))) e0;
    }

-- a picture: its head, what is drawn, and its end
pub picture_added : (w : Window) (options : PictureOptions) (s : PictureSetting) (discipline : Option DisciplineName) (held : Held)
    (height : ℕ) (head drawn old t1 t2 t3 : List ℕ)
    → IsDrawing w s (title_of options) discipline held height drawn → IsHead options drawn height head → t1 ≡ old ++ head
    → t2 ≡ t1 ++ drawn → t3 ≡ t2 ++ codes "</svg>\n"
    → GrowsByPart (IsPicture w options s discipline held) old t3
picture_added w options s discipline held height head drawn old t1 t2 t3 is is_head e1 e2 e3 = (
  head ++ (drawn ++ codes "</svg>\n"),
  record { head = head; drawn = drawn; height = height; is_drawing = is; is_head = is_head; whole = refl },
  all_added old t1 t2 t3 head drawn (codes "</svg>\n") e1 e2 e3,
)

-- the picture at the end: only the runs and the waits that go on have come to what was held
pub picture_at_end : (held between last : Svg) (s : Figures) (names : NamedTasks) (e : Extent) (old new : List ℕ)
    → between ≡ record held { drawing = between.drawing } → last ≡ record between { drawing = last.drawing }
    → HoldsRunners held.window s 64 held.drawing between.drawing
    → HoldsWaiting between.window s 1024 between.drawing last.drawing → IsDrawnOver last.window s e
    → GrowsByPart (IsPicture last.window last.options (drawn_in e last.admitted names) last.discipline last.drawing) old new
    → GrowsByPart (IsPictureOf held.window held.options held.discipline s names held.admitted held.drawing) old new
picture_at_end held between last s names e old new first second runs waits over added =
    let whole : last ≡ record held { drawing = last.drawing } = second ∙ ap (λ (v : Svg). record v { drawing = last.drawing }) first in
    let own : GrowsByPart (IsPicture held.window held.options (drawn_in e held.admitted names) held.discipline last.drawing) old new
    = subst (λ (v : Svg). GrowsByPart (IsPicture v.window v.options (drawn_in e v.admitted names) v.discipline last.drawing) old new) whole added in (
      own.0,
      record {
        running = between.drawing;
        held = last.drawing;
        extent = e;
        holds_runs = runs;
        holds_waits = subst (λ w. HoldsWaiting w s 1024 between.drawing last.drawing) (ap (λ (v : Svg). v.window) first) waits;
        drawn_over = subst (λ (v : Svg). IsDrawnOver v.window s e) whole over;
        whole = own.1;
      },
      own.2,
    )

-- ---- what is held

-- no wait that goes on is held yet
pub waiting_none : (w : Window) (s : Figures) (rows : Held) → HoldsWaiting w s 0 rows rows
unfolding HoldsWaiting
waiting_none w s rows = refl

-- the waits that are held go on by the wait of one more task
pub waiting_held : (w : Window) (s : Figures) (id : ℕ) (wait : Option Slice) (old now new : Held) → HoldsWaiting w s id old now
    → wait ≡ wait_at s id (task_in_figures s id).processor → HoldsWait w wait now new → HoldsWaiting w s (id + 1) old new
unfolding HoldsWaiting
waiting_held w s id wait old now new before is holds =
    let here : HoldsWait w (wait_at s id (task_in_figures s id).processor) now new = subst (λ own. HoldsWait w own now new) is holds in
    subst (λ n. HoldsWaiting w s n old new) (sym (add-one id)) (now, before, here)

-- what is held of the waits of all tasks that still wait
pub waiting_all : (w : Window) (s : Figures) (id : ℕ) (old new : Held)
    → id ≡ 1024 → HoldsWaiting w s id old new → HoldsWaiting w s 1024 old new
waiting_all w s id old new is holds = subst (λ n. HoldsWaiting w s n old new) is holds

-- a wake that is shown
pub wake_held : (w : Window) (wake : Option Wake) (k : Wake) (old new : Held)
    → wake ≡ Some k → Shows w k.to k.task k.at → new ≡ with_wake (Some k) old → HoldsWake w wake old new
wake_held w wake k old new is shown e =
    let own : HoldsWake w (Some k) old new = (Some k, (shown, refl), e) in
    subst (λ (o : Option Wake). HoldsWake w o old new) (sym is) own

-- all that a change tells, part after part
pub change_held : (change : Change) (v0 v1 v2 v3 : Svg) (new : Held)
    → v1 ≡ record v0 { drawing = v1.drawing } → v2 ≡ record v1 { drawing = v2.drawing }
    → v3 ≡ record v2 { drawing = v3.drawing; stops = v3.stops }
    → HoldsWake v0.window change.wake v0.drawing v1.drawing → HoldsPull v1.window change.pull v1.drawing v2.drawing
    → HoldsRun v2.window (option_map (λ (s : Stop). s.start) change.stop) (run_ended_by change.stop) v2.drawing v3.drawing
    → v3.stops.entries ≡ with_stop change.stop v2.stops.entries
    → HoldsStart v3.window v3.stops.entries change.start v3.drawing new
    → HoldsChange v0.window change v0.stops.entries v3.stops.entries v0.drawing new
change_held change v0 v1 v2 v3 new s1 s2 s3 wake pull stop stops start =
    let w1 : v1.window ≡ v0.window = ap (λ (v : Svg). v.window) s1 in
    let w2 : v2.window ≡ v0.window = ap (λ (v : Svg). v.window) s2 ∙ w1 in
    let w3 : v3.window ≡ v0.window = ap (λ (v : Svg). v.window) s3 ∙ w2 in
    let before : v2.stops.entries ≡ v0.stops.entries = ap (λ (v : Svg). v.stops.entries) s2 ∙ ap (λ (v : Svg). v.stops.entries) s1 in
    record {
      woken = v1.drawing;
      pulled = v2.drawing;
      stopped = v3.drawing;
      wake = wake;
      pull = subst (λ w. HoldsPull w change.pull v1.drawing v2.drawing) w1 pull;
      stop = subst (λ w. HoldsRun w (option_map (λ (s : Stop). s.start) change.stop) (run_ended_by change.stop) v2.drawing v3.drawing) w2 stop;
      stops = stops ∙ ap (λ (l : Stops). with_stop change.stop l) before;
      start = subst (λ w. HoldsStart w v3.stops.entries change.start v3.drawing new) w3 start;
    }
