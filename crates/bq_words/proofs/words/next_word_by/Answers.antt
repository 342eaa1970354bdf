use Rattle.std.proofs.Common.{◌≡◌, ◌<◌, ◌-◌, ◌∷◌, ◌∙◌, sym, ap, arith, take, drop, length}
use Rattle.std.proofs.lemmas.Grind.{common_steps}
use Rattle.bq_words.specs.Words.{words_by}
use Rattle.bq_words.proofs.WordLemmas.{words-first}
use Rattle.bq_words.proofs.words.next_word_by.Goals as goal

pub returns : goal.returns
returns g c =
    let p = g.B.Blank.is_blank in
    let text = c.without_blanks-text.result.now in
    let len = c.word_len-len.result in
    let some : 0 < len = omega arith in
    let all : take (length text - len) (drop len text) ≡ drop len text = grind (arith, common_steps) in
    sym c.without_blanks-text.ensures.same ∙ words-first p text len c.word_len-len.ensures some
    ∙ ap (λ r. take len text ∷ words_by p r) (sym all)
