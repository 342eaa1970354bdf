use Rattle.std.proofs.Common.{◌<◌, length, arith}
use Rattle.bq_states.proofs.CopyLemmas.{copies_linked}
use Rattle.bq_states.proofs.copies.link.Goals as goal

pub returns : goal.returns
returns c = λ s n copies has copy.
    let there : c.args.to < length c.class_of-class.new.classes = omega (arith, c.class_of-class.ensures.long) in
    let given = c.class_of-class.ensures.word s n copies has in
    copies_linked c.class_of-class.new.classes c.class_of-class.new.related c.args.to c.args.from c.class_of-class.result s
    given.0.0.0 there given.0.1 given.0.0.1 given.0.0.2 copy
