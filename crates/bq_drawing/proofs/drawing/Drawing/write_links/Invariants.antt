use Rattle.std.proofs.Common.{◌≡◌, ◌++◌, drop}
use Rattle.std.specs.BTreeMap.{get}
use Rattle.std.specs.Ordering.{nat_cmp}
use Rattle.std.specs.Prelude.{flat_map, string_bytes}
use Rattle.bq_drawing.specs.Links.{link_line}
use Rattle.bq_drawing.specs.Frames.{picture_setting}
use Rattle.bq_drawing.proofs.drawing.Drawing.write_links.Given as goal

-- the lines that are left complete the text, and all else stays
abbrev pub invariant-loop-link : goal.invariant-loop-link
invariant-loop-link l = record {
  text : string_bytes l.rows.links
      ++ flat_map (link_line l.kind (picture_setting l.frame) (get nat_cmp l.fn.rows.bands)) (drop l.link-index l.self.links)
      ≡ string_bytes l.fn.rows.links ++ flat_map (link_line l.kind (picture_setting l.frame) (get nat_cmp l.fn.rows.bands)) l.self.links;
  same : l.rows ≡ record l.fn.rows { links = l.rows.links };
}
