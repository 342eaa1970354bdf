use Rattle.std.proofs.Common.{◌≡◌, ℕ, List, ◌++◌, ◌∙◌, ap, nat_lt, string_bytes}
use Rattle.std.specs.Prelude.{codes}
use Rattle.std.proofs.lemmas.Result.{on_ok_weaker}
use Rattle.bq_drawing.specs.Links.{link_end, enters_at, leaves_at, link_text, link_title}
use Rattle.bq_drawing.specs.Scales.{moment_place}
use Rattle.bq_drawing.specs.Frames.{colour_of, picture_setting}
use Rattle.bq_drawing.proofs.PictureLemmas.{both_added}
use Rattle.bq_drawing.proofs.links.RowLink.write.Goals as goal

pub returns : goal.returns
returns c =
    let s = picture_setting c.args.frame.now in
    let link = c.args.self.now in
    let from = c.args.top_from in
    let to = c.args.top_to in
    let old = string_bytes c.args.text.now in
    let first = s.extent.from in
    let left = moment_place s.extent link.from.at in
    let begin = enters_at link (leaves_at from to) (link_end from to) first in
    let right = moment_place s.extent link.to.at in
    let end = link_end from to in
    let drawn : ℕ → ℕ → ℕ → ℕ → ℕ → List ℕ
    = λ a b x y colour. codes "<g>" ++ link_text link.kind colour a b x y (nat_lt from to) in
    let enters : c.enters_at.result ≡ begin
    = c.enters_at.ensures ∙ ap (λ b. enters_at link b c.ends_at-end.result first) c.leaves_at-begin.ensures
    ∙ ap (λ e. enters_at link (leaves_at from to) e first) c.ends_at-end.ensures in
    let same : drawn c.place.result.0 c.enters_at.result c.place-2.result.0 c.ends_at-end.result c.colour-colour.result
    ≡ drawn left begin right end (colour_of s.tasks link.task)
    = ap (λ a. drawn a c.enters_at.result c.place-2.result.0 c.ends_at-end.result c.colour-colour.result) c.place.ensures
    ∙ ap (λ b. drawn left b c.place-2.result.0 c.ends_at-end.result c.colour-colour.result) enters
    ∙ ap (λ x. drawn left begin x c.ends_at-end.result c.colour-colour.result) c.place-2.ensures
    ∙ ap (λ y. drawn left begin right y c.colour-colour.result) c.ends_at-end.ensures
    ∙ ap (λ colour. drawn left begin right end colour) c.colour-colour.ensures in
    let line : string_bytes c.write_line.new.text ≡ old ++ drawn left begin right end (colour_of s.tasks link.task) =
    both_added old (string_bytes c.write_group.new.text) (string_bytes c.write_line.new.text) _ _ c.in_ok-write_group.ensures
    c.in_ok-write_line.ensures
    ∙ ap (λ (t : List ℕ). old ++ t) same in
    on_ok_weaker c.write_title.result
    (λ e. both_added old (string_bytes c.write_line.new.text) (string_bytes c.write_title.new.text)
    (drawn left begin right end (colour_of s.tasks link.task)) (link_title s link) line e)
    c.write_title.ensures
