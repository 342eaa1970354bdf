use Rattle.std.proofs.Common.{◌<◌, length, refl, arith}
use Rattle.bq_states.proofs.CopyLemmas.{class_given}
use Rattle.bq_states.proofs.copies.class_of.Goals as goal

pub returns-then-class-ne0-clause-word : goal.returns-then-class-ne0-clause-word
returns-then-class-ne0-clause-word c = λ s n was has. ((was, was.1 c.args.place c.if-class-ne0.true), refl)

pub returns-clause-word : goal.returns-clause-word
returns-clause-word c = λ s n copies has.
    let there : c.args.place < length c.retire.new.classes = omega arith in
    class_given c.args.classes.now c.retire.new.classes c.args.related.now c.unrelate.new.related c.args.place
    c.own_class-own.result c.args.beside n s there c.retire.ensures.keeps (c.retire.ensures.gone c.own_class-own.ensures.some)
    c.own_class-own.ensures.other c.unrelate.ensures copies has
