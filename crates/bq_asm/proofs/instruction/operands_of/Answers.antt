use Rattle.std.proofs.Common.{◌∙◌, sym, Some}
use Rattle.std.specs.Prelude.{pos}
use Rattle.std.proofs.lemmas.List.{length-map}
use Rattle.bq_asm.proofs.CountLemmas.{count_wrong}
use Rattle.bq_asm.specs.Operands.{kind_list, word_texts}
use Rattle.bq_asm.proofs.instruction.operands_of.Goals as goal

pub returns-then-words-count_of : goal.returns-then-words-count_of
returns-then-words-count_of c =
    sym (count_wrong (kind_list c.args.kinds) (word_texts c.args.words.now) (Some (pos 0))
    (λ e. c.if-words-count_of.true (sym (length-map c.args.words.now (λ w. w.now)) ∙ e ∙ sym c.count_of.ensures)))
