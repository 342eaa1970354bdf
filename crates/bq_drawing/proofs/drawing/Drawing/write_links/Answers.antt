use Rattle.std.proofs.Common.{rules, ◌≡◌, ◌+◌, ◌≤◌, ◌++◌, ◌∙◌, List, ap, drop, length, string_bytes, subst, sym}
use Rattle.std.proofs.lemmas.List.{drop_all}
use Rattle.std.specs.BTreeMap.{get}
use Rattle.std.specs.Ordering.{nat_cmp}
use Rattle.std.specs.Prelude.{flat_map}
use Rattle.bq_drawing.specs.declared.written_rows.WrittenRows.{WrittenRows}
use Rattle.bq_drawing.specs.declared.links.RowLink.{RowLink}
use Rattle.bq_drawing.specs.Links.{link_line}
use Rattle.bq_drawing.specs.Frames.{picture_setting}
use Rattle.bq_drawing.proofs.PictureLemmas.{line_written, shapes_end}
use Rattle.bq_drawing.proofs.drawing.Drawing.write_links.Goals as goal

pub loop-link-preserved : goal.loop-link-preserved
loop-link-preserved c =
    let s = picture_setting c.args.frame.now in
    let draw = link_line c.args.kind s (get nat_cmp c.args.rows.now.bands) in
    let links = c.args.self.now.links in
    let items = c.deref-link-items.result.now in
    let whole = string_bytes c.args.rows.now.links ++ flat_map draw links in
    let next = string_bytes c.write_link.new.self.links in
    let i = c.loop-link.link-index in
    let are : items ≡ links = search rules in
    record {
      text =
          subst (λ (l : List RowLink). next ++ flat_map draw (drop (i + 1) l) ≡ whole) are
          (line_written c.args.kind s items i _ c.args.rows.now c.loop-link.rows c.write_link.new.self whole
          c.loop-link-test.true c.loop-link.invariant.same c.in_ok-write_link.ensures.text
          (subst (λ (l : List RowLink). string_bytes c.loop-link.rows.links ++ flat_map draw (drop i l) ≡ whole)
          (sym are) c.loop-link.invariant.text));
      same =
          c.write_link.ensures.unchanged
          ∙ ap (λ (r : WrittenRows). record r { links = c.write_link.new.self.links }) c.loop-link.invariant.same;
    }

pub returns-clause-text : goal.returns-clause-text
returns-clause-text c =
    let links = c.args.self.now.links in
    let are : c.deref-link-items.result.now ≡ links = search rules in
    shapes_end (link_line c.args.kind (picture_setting c.args.frame.now) (get nat_cmp c.args.rows.now.bands)) links c.loop-link.link-index _ _
    (drop_all c.loop-link.link-index links (subst (λ (l : List RowLink). length l ≤ c.loop-link.link-index) are c.loop-link-test.false))
    c.loop-link.invariant.text
