use Rattle.std.proofs.Common.{◌≡◌, ◌+◌, ◌-◌, ◌∷◌, ◌∙◌, sym, ap, arith, take, drop, length, ◌<◌}
use Rattle.std.proofs.lemmas.Grind.{common_steps}
use Rattle.bq_words.specs.Words.{parts}
use Rattle.bq_policy_file.proofs.ShapesTextLemmas.{parts-first, parts-only}
use Rattle.bq_policy_file.proofs.shapes_text.cut.Goals as goal

pub returns-then-len-text : goal.returns-then-len-text
returns-then-len-text c = parts-only c.args.mark c.args.text.now c.part_len-len.result c.part_len-len.ensures c.if-len-text.true

pub returns : goal.returns
returns c =
    let text = c.args.text.now in
    let len = c.part_len-len.result in
    let more : len < length text = omega (arith, c.part_len-len.ensures.within, c.if-len-text.false) in
    let all : take (length text - (len + 1)) (drop (len + 1) text) ≡ drop (len + 1) text = grind (arith, common_steps) in
    parts-first c.args.mark text len c.part_len-len.ensures more ∙ ap (λ r. take len text ∷ parts c.args.mark r) (sym all)
