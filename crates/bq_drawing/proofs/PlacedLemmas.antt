-- The rows of a picture, placed one below another, and the lanes of their waits and wakes.
use Rattle.std.proofs.Common.{◌≡◌, ◌≢◌, ℕ, zero, suc, ◌+◌, ◌<◌, ◌≤◌, ◌^◌, true, false, cond, List, [], ◌∷◌, ◌++◌, Option, Some, None, drop, get_or, length, refl, sym, ap, ◌∙◌, subst, append-nil, add-one, arith, inl, inr, ⊎_elim, BTreeMap, string_bytes}
use Rattle.std.proofs.lemmas.Bool.{cases_eq}
use Rattle.std.proofs.lemmas.Bool.Decides.{nat_tests}
use Rattle.std.proofs.lemmas.List.{at_drop_more}
use Rattle.std.proofs.lemmas.List.Concat.{flat_map-append}
use Rattle.std.proofs.lemmas.List.Folds.{find-append}
use Rattle.std.proofs.lemmas.List.Sums.{sum_by-append}
use Rattle.std.specs.BTreeMap.{get, is_at}
use Rattle.std.specs.List.{sum_by}
use Rattle.std.specs.Map.{lookup}
use Rattle.std.specs.Option.{option_map, option_or}
use Rattle.std.specs.Ordering.{nat_cmp}
use Rattle.std.specs.Prelude.{◌==◌, find, flat_map}
use Rattle.bq_disc.specs.Counts.{saturating_sum}
use Rattle.bq_schedule.proofs.CountLemmas.{saturating_sum-both}
use Rattle.bq_report.specs.declared.window.Window.{Window}
use Rattle.bq_drawing.specs.declared.written_rows.WrittenRows.{WrittenRows}
use Rattle.bq_drawing.specs.declared.lanes.TaskInterval.{TaskInterval}
use Rattle.bq_drawing.specs.declared.links.RowLink.{RowLink}
use Rattle.bq_drawing.specs.declared.links.LinkKind.{LinkKind}
use Rattle.bq_drawing.specs.declared.links.LinkKind.TheVariants.{Migration, Pull}
use Rattle.bq_drawing.specs.Holdings.{Held}
use Rattle.bq_drawing.specs.Links.{link_line, link_if, same_kind}
use Rattle.bq_drawing.specs.Lanes.{lane_of, lanes_after, left_out, lanes_taken, without_lane}
use Rattle.bq_drawing.specs.Scales.{rows_edge}
use Rattle.bq_drawing.specs.Rows.{ArePlaced, HasRow, IsNextRow, IsNoRow, PlacedRow, Rows, labels_text, drawing_row_of, drawing_row_text, top_at}
use Rattle.bq_drawing.specs.Frames.{PictureSetting}
use Rattle.bq_drawing.specs.Shapes.{arrow_of}
use Rattle.bq_drawing.specs.Writing.{AreDrawn, AreWritten, IsRowWritten, IsRowWrittenIf}

-- ---- lanes

-- the lanes when one more has taken its own
pub lanes_more : (room : TaskInterval → TaskInterval) (lanes after : List ℕ) (items : List TaskInterval) (i : ℕ)
    (d place : TaskInterval) (lane : Option ℕ) (whole : List ℕ)
    → i < length items → place ≡ room (get_or items i d) → lane ≡ lane_of place lanes → after ≡ lanes_taken lane place.to lanes
    → lanes_after room lanes (drop i items) ≡ whole
    → lanes_after room after (drop (i + 1) items) ≡ whole
unfolding lanes_after
lanes_more room lanes after items i d place lane whole there needs takes keeps is =
    let here = get_or items i d in
    let own : lane ≡ lane_of (room here) lanes = takes ∙ ap (λ (p : TaskInterval). lane_of p lanes) needs in
    let left : after ≡ lanes_taken (lane_of (room here) lanes) (room here).to lanes
    = keeps ∙ ap (λ (p : TaskInterval). lanes_taken lane p.to lanes) needs ∙ ap (λ (l : Option ℕ). lanes_taken l (room here).to lanes) own in
    ap (λ (l : List ℕ). lanes_after room l (drop (i + 1) items)) left
    ∙ sym (at_drop_more (λ (l : List TaskInterval). lanes_after room lanes l) items i d there) ∙ is

-- once no interval is left there are as many lanes as for all of them
pub lanes_all : (room : TaskInterval → TaskInterval) (lanes : List ℕ) (items : List TaskInterval) (i : ℕ) (whole : List ℕ) → drop i items ≡ []
    → lanes_after room lanes (drop i items) ≡ whole → length lanes ≡ length whole
unfolding lanes_after
lanes_all room lanes items i whole none is =
    ap (λ (l : List ℕ). length l) (sym (ap (λ (l : List TaskInterval). lanes_after room lanes l) none) ∙ is)

-- the count of those left out goes on by one more interval, which may find no lane
pub left_more : (room : TaskInterval → TaskInterval) (lanes after : List ℕ) (items : List TaskInterval) (i : ℕ)
    (d place : TaskInterval) (lane : Option ℕ) (whole now next : ℕ)
    → i < length items → place ≡ room (get_or items i d) → lane ≡ lane_of place lanes → after ≡ lanes_taken lane place.to lanes
    → next ≡ saturating_sum now (without_lane lane) → saturating_sum now (left_out room lanes (drop i items)) ≡ whole
    → saturating_sum next (left_out room after (drop (i + 1) items)) ≡ whole
unfolding left_out
left_more room lanes after items i d place lane whole now next there needs takes keeps e is =
    let here = get_or items i d in
    let own : lane ≡ lane_of (room here) lanes = takes ∙ ap (λ (p : TaskInterval). lane_of p lanes) needs in
    let left : after ≡ lanes_taken (lane_of (room here) lanes) (room here).to lanes
    = keeps ∙ ap (λ (p : TaskInterval). lanes_taken lane p.to lanes) needs ∙ ap (λ (l : Option ℕ). lanes_taken l (room here).to lanes) own in
    let later = drop (i + 1) items in
    ap (λ n. saturating_sum n (left_out room after later)) (e ∙ ap (λ (l : Option ℕ). saturating_sum now (without_lane l)) own)
    ∙ saturating_sum-both now (without_lane (lane_of (room here) lanes)) (left_out room after later)
    ∙ ap (λ (l : List ℕ). saturating_sum now (without_lane (lane_of (room here) lanes) + left_out room l later)) left
    ∙ sym (at_drop_more (λ (l : List TaskInterval). saturating_sum now (left_out room lanes l)) items i d there) ∙ is

-- once no interval is left the count of those left out is that of all of them
pub left_all : (room : TaskInterval → TaskInterval) (lanes : List ℕ) (items : List TaskInterval) (i whole now : ℕ) → drop i items ≡ [] → now < 2 ^ 64
    → saturating_sum now (left_out room lanes (drop i items)) ≡ whole → now ≡ whole
unfolding left_out
left_all room lanes items i whole now none small is =
    let same : saturating_sum now 0 ≡ now = omega (arith, small) in
    sym same ∙ sym (ap (λ (l : List TaskInterval). saturating_sum now (left_out room lanes l)) none) ∙ is

-- ---- rows

-- no row of a processor that is still to come
none_yet : (w : Window) (s : PictureSetting) (rows : Rows) (number : ℕ) (placed : List PlacedRow) (edge q : ℕ)
    → ArePlaced w s rows number placed edge → number ≤ q
    → find (λ (p : PlacedRow). p.number == q) placed ≡ None
unfolding ArePlaced
none_yet w s rows zero placed edge q is from = ap (find (λ (p : PlacedRow). p.number == q)) is.0
none_yet w s rows (suc number) placed edge q (above, before, are, way) from =
    let earlier : find (λ (p : PlacedRow). p.number == q) above ≡ None =
    none_yet w s rows number above before q are (omega (arith, from)) in
    ⊎_elim (λ (there : HasRow w rows number × IsNextRow s number (drawing_row_of rows number) above before placed edge).
    let next = there.1.next in
    let apart : (next.number == q) ≡ false = ap (λ n. n == q) there.1.is_placed.of_processor ∙ grind (arith, nat_tests, from) in
    ap (find (λ (p : PlacedRow). p.number == q)) there.1.comes_last ∙ find-append (λ (p : PlacedRow). p.number == q) above (next ∷ [])
    ∙ ap (λ (o : Option PlacedRow). option_or o (find (λ (p : PlacedRow). p.number == q) (next ∷ []))) earlier
    ∙ ap (λ b. cond b (Some next) None) apart)
    (λ (none : ¬ (HasRow w rows number) × IsNoRow above before placed edge).
    ap (find (λ (p : PlacedRow). p.number == q)) none.1.placed_stay ∙ earlier) way

-- the bands when one more row is there
bands_next : (placed : List PlacedRow) (next : PlacedRow) (number : ℕ) (old new : BTreeMap ℕ ℕ) → next.number ≡ number
    → find (λ (p : PlacedRow). p.number == number) placed ≡ None
    → ((q : ℕ) → get nat_cmp new q ≡ cond (is_at (nat_cmp number) q) (Some next.top) (get nat_cmp old q))
    → ((q : ℕ) → get nat_cmp old q ≡ top_at placed q) → (q : ℕ) → get nat_cmp new q ≡ top_at (placed ++ next ∷ []) q
bands_next placed next number old new own none sets before q =
    let joined : find (λ (p : PlacedRow). p.number == q) (placed ++ next ∷ [])
    ≡ option_or (find (λ (p : PlacedRow). p.number == q) placed) (cond (next.number == q) (Some next) None) =
    find-append (λ (p : PlacedRow). p.number == q) placed (next ∷ []) in
    ⊎_elim (λ (same : number ≡ q).
    let here : is_at (nat_cmp number) q ≡ true = grind (arith, nat_tests, same) in
    let this : (next.number == q) ≡ true = ap (λ n. n == q) own ∙ grind (arith, nat_tests, same) in
    let empty : find (λ (p : PlacedRow). p.number == q) placed ≡ None =
    subst (λ n. find (λ (p : PlacedRow). p.number == n) placed ≡ None) same none in
    sets q ∙ ap (λ b. cond b (Some next.top) (get nat_cmp old q)) here
    ∙ sym (ap (option_map (λ (p : PlacedRow). p.top))
    (joined ∙ ap (λ (o : Option PlacedRow). option_or o (cond (next.number == q) (Some next) None)) empty
    ∙ ap (λ b. cond b (Some next) None) this)))
    (λ (not : number ≢ q).
    let other : is_at (nat_cmp number) q ≡ false = grind (arith, nat_tests, not) in
    let apart : (next.number == q) ≡ false = ap (λ n. n == q) own ∙ grind (arith, nat_tests, not) in
    sets q ∙ ap (λ b. cond b (Some next.top) (get nat_cmp old q)) other ∙ before q
    ∙ sym (ap (option_map (λ (p : PlacedRow). p.top))
    (joined ∙ ap (λ b. option_or (find (λ (p : PlacedRow). p.number == q) placed) (cond b (Some next) None)) apart
    ∙ or_none (find (λ (p : PlacedRow). p.number == q) placed)))) (cases_eq number q)
  where
    or_none : (o : Option PlacedRow) → option_or o None ≡ o
    or_none None = refl
    or_none (Some p) = refl

-- one more row adds its text behind that of the others, and its count to theirs:
more_text : (draw : PlacedRow → List ℕ) (placed : List PlacedRow) (next : PlacedRow) (old new : List ℕ)
    → old ≡ flat_map draw placed → new ≡ old ++ draw next → new ≡ flat_map draw (placed ++ next ∷ [])
more_text draw placed next old new before e =
    e ∙ ap (λ t. t ++ draw next) before ∙ ap (λ t. flat_map draw placed ++ t) (sym (append-nil (draw next)))
    ∙ sym (flat_map-append draw placed (next ∷ []))

more_left : (count : PlacedRow → ℕ) (placed : List PlacedRow) (next : PlacedRow) (old new : ℕ)
    → old ≡ saturating_sum 0 (sum_by count placed) → new ≡ saturating_sum old (count next)
    → new ≡ saturating_sum 0 (sum_by count (placed ++ next ∷ []))
more_left count placed next old new before e =
    let sum : sum_by count (placed ++ next ∷ []) ≡ sum_by count placed + (0 + count next) = sum_by-append count placed (next ∷ []) in
    e ∙ ap (λ n. saturating_sum n (count next)) before ∙ saturating_sum-both 0 (sum_by count placed) (count next)
    ∙ ap (λ n. saturating_sum 0 n) (sym (sum ∙ ap (λ n. sum_by count placed + n) (omega arith)))

-- no row is written yet
pub rows_none : (w : Window) (s : PictureSetting) (rows : Rows) (written : WrittenRows)
    → string_bytes written.text ≡ [] → string_bytes written.labels ≡ [] → written.bands.entries ≡ []
    → written.bottom ≡ rows_edge → written.waits_left_out ≡ 0 → written.wakes_left_out ≡ 0
    → AreWritten w s rows 0 written
unfolding ArePlaced
rows_none w s rows written text labels bands bottom waits wakes = record {
  placed = [];
  are_placed = (refl, bottom);
  text = text;
  labels = labels;
  bands = λ q. ap (lookup (is_at (nat_cmp q))) bands;
  waits = waits;
  wakes = wakes;
}

-- one more row is written
pub rows_next : (w : Window) (s : PictureSetting) (rows : Rows) (number : ℕ) (old new : WrittenRows) → AreWritten w s rows number old
    → IsRowWrittenIf w s rows number old new → AreWritten w s rows (number + 1) new
unfolding ArePlaced
rows_next w s rows number old new before way =
    subst (λ n. AreWritten w s rows n new) (sym (add-one number))
    (⊎_elim (λ (there : HasRow w rows number × IsRowWritten s number (drawing_row_of rows number) old new).
    let is = there.1 in
    let next = is.placed in
    record {
      placed = before.placed ++ next ∷ [];
      are_placed = (
        before.placed,
        old.bottom,
        before.are_placed,
        inl (there.0, record { next = next; is_placed = is.is_placed; comes_last = refl; ends = is.bottom }),
      );
      text = more_text (drawing_row_text s) before.placed next _ _ before.text is.text;
      labels = more_text (labels_text s) before.placed next _ _ before.labels is.labels;
      bands = bands_next before.placed next number old.bands new.bands is.is_placed.of_processor
          (none_yet w s rows number before.placed old.bottom number before.are_placed (omega arith)) is.bands.0 before.bands;
      waits =
          more_left (λ (p : PlacedRow). left_out (λ (wait : TaskInterval). wait) [] p.row.waits) before.placed next _ _
          before.waits is.waits;
      wakes = more_left (λ (p : PlacedRow). left_out (arrow_of s.extent) [] p.row.wakes) before.placed next _ _ before.wakes is.wakes;
    }) (λ (none : ¬ (HasRow w rows number) × (new ≡ old)).
    subst (λ (now : WrittenRows). AreWritten w s rows (suc number) now) (sym none.1) (record {
      placed = before.placed;
      are_placed = (before.placed, old.bottom, before.are_placed, inr (none.0, record { placed_stay = refl; edge_stays = refl }));
      text = before.text;
      labels = before.labels;
      bands = before.bands;
      waits = before.waits;
      wakes = before.wakes;
    })) way)

-- a row leaves the lines as they are
pub lines_stay : (w : Window) (s : PictureSetting) (rows : Rows) (number : ℕ) (old new : WrittenRows) → IsRowWrittenIf w s rows number old new
    → new.links ≡ old.links
lines_stay w s rows number old new way = ⊎_elim
    (λ (there : HasRow w rows number × IsRowWritten s number (drawing_row_of rows number) old new). there.1.links)
    (λ (none : ¬ (HasRow w rows number) × (new ≡ old)). ap (λ (r : WrittenRows). r.links) none.1)
    way

-- lines between rows are the same by the same bands: one line, and all of some kind:
line_same : (kind : LinkKind) (s : PictureSetting) (f g : ℕ → Option ℕ)
    → ((q : ℕ) → f q ≡ g q) → (link : RowLink) → link_line kind s f link ≡ link_line kind s g link
line_same kind s f g same link =
    ap (λ (o : Option ℕ). cond (same_kind link.kind kind) (link_if s link o (f link.to.processor)) []) (same link.from.processor)
    ∙ ap (λ (o : Option ℕ). cond (same_kind link.kind kind) (link_if s link (g link.from.processor) o) []) (same link.to.processor)

lines_same : (kind : LinkKind) (s : PictureSetting) (f g : ℕ → Option ℕ) → ((q : ℕ) → f q ≡ g q) → (links : List RowLink)
    → flat_map (link_line kind s f) links ≡ flat_map (link_line kind s g) links
lines_same kind s f g same [] = refl
lines_same kind s f g same (link ∷ later) =
    ap (λ t. t ++ flat_map (link_line kind s f) later) (line_same kind s f g same link)
    ∙ ap (λ t. link_line kind s g link ++ t) (lines_same kind s f g same later)

-- the rows of as many processors as there can be, and the lines that are drawn since
pub drawn_all : (w : Window) (s : PictureSetting) (held : Held) (number : ℕ) (r0 r1 r2 : WrittenRows) → number ≡ 64 → string_bytes r0.links ≡ []
    → AreWritten w s held.rows number r0 → r1 ≡ record r0 { links = r1.links } → r2 ≡ record r1 { links = r2.links }
    → string_bytes r1.links ≡ string_bytes r0.links ++ flat_map (link_line Migration s (get nat_cmp r0.bands)) held.links
    → string_bytes r2.links ≡ string_bytes r1.links ++ flat_map (link_line Pull s (get nat_cmp r1.bands)) held.links → AreDrawn w s held r2
drawn_all w s held number r0 r1 r2 end none are s1 s2 e1 e2 =
    let all : AreWritten w s held.rows 64 r0 = subst (λ n. AreWritten w s held.rows n r0) end are in
    let tops = top_at all.placed in
    let migrations = flat_map (link_line Migration s tops) held.links in
    let pulls = flat_map (link_line Pull s tops) held.links in
    let bands : r1.bands ≡ r0.bands = ap (λ (r : WrittenRows). r.bands) s1 in
    let first : string_bytes r1.links ≡ migrations =
    e1 ∙ ap (λ t. t ++ flat_map (link_line Migration s (get nat_cmp r0.bands)) held.links) none
    ∙ lines_same Migration s (get nat_cmp r0.bands) tops all.bands held.links in
    let second : string_bytes r2.links ≡ migrations ++ pulls =
    e2 ∙ ap (λ t. t ++ flat_map (link_line Pull s (get nat_cmp r1.bands)) held.links) first
    ∙ ap (λ t. migrations ++ t)
    (lines_same Pull s (get nat_cmp r1.bands) tops (λ q. ap (λ (m : BTreeMap ℕ ℕ). get nat_cmp m q) bands ∙ all.bands q) held.links) in
    let whole : r2 ≡ record r0 { links = r2.links } = s2 ∙ ap (λ (r : WrittenRows). record r { links = r2.links }) s1 in
    let now : WrittenRows = record r0 { links = r2.links } in
    let drawn : AreDrawn w s held now = record {
      are_written = record {
        placed = all.placed;
        are_placed = all.are_placed;
        text = all.text;
        labels = all.labels;
        bands = all.bands;
        waits = all.waits;
        wakes = all.wakes;
      };
      lines = second;
    } in
    subst (λ (r : WrittenRows). AreDrawn w s held r) (sym whole) drawn
