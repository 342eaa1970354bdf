use Rattle.std.proofs.Common.{◌≡◌, refl, rules}
use Rattle.bq_ranges.specs.Within.{Within}
use Rattle.bq_states.proofs.WordLemmas.{describes_as_number}
use Rattle.bq_states.proofs.learnt.sharpen_right.Goals as goal

pub returns-then-known-class-clause-contains : goal.returns-then-known-class-clause-contains
returns-then-known-class-clause-contains c = λ f s was relates within. (was, refl)

pub returns-clause-contains : goal.returns-clause-contains
returns-clause-contains c = λ f s was relates within.
    let here : c.args.known.left ≡ c.args.class = search rules in
    let left : Within c.args.learnt (was.copies.0 c.args.known.left) = rw here within in
    let right : Within c.right-offset.result (was.copies.0 c.args.known.right) =
    c.right-offset.ensures (was.copies.0 c.args.known.left) (was.copies.0 c.args.known.right) relates left
    (c.word_of_class-before.ensures f s was relates.right) in
    c.sharpen_class.ensures.contains f s was
    (describes_as_number f.shapes c.number.result (was.copies.0 c.args.known.right) c.number.ensures.kind
    (rw c.number.ensures.offset right))
