-- There are lines, so the head stands above them.
use Rattle.std.proofs.Common.{◌≡◌, ◌++◌, ℕ, List, [], ap, append_assoc, arith, string_bytes, sym, ◌∙◌}
use Rattle.std.proofs.lemmas.Result.{on_ok_weaker}
use Rattle.bq_timeline.specs.ScreenTexts.{bounds_head}
use Rattle.bq_timeline.proofs.AnyFormLemmas.{if_ok, under_head}
use Rattle.bq_timeline.proofs.bounds_table.write_table.Goals as goal

pub returns : goal.returns
returns c =
    let lines = c.args.lines.now in
    let old = string_bytes c.args.text.now in
    let there : lines ≡ [] → ⊥ = grind arith in
    on_ok_weaker c.push_str-2.result
    (λ (e : string_bytes c.push_str-2.new.self ≡ string_bytes c.push_str.new.self ++ lines).
    e ∙ ap (λ (t : List ℕ). t ++ lines) c.in_ok-push_str.ensures.bytes ∙ append_assoc old bounds_head lines
    ∙ ap (λ (t : List ℕ). old ++ t) (sym (under_head lines there)))
    (if_ok c.push_str-2.result _ _ _ c.push_str-2.ensures.bytes)
