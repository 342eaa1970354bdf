use Rattle.std.proofs.Common.{◌≡◌, refl, rules}
use Rattle.bq_ranges.specs.Within.{Within}
use Rattle.bq_states.proofs.WordLemmas.{describes_as_number}
use Rattle.bq_states.proofs.learnt.sharpen_left.Goals as goal

pub returns-then-known-class-clause-contains : goal.returns-then-known-class-clause-contains
returns-then-known-class-clause-contains c = λ f s was relates within. (was, refl)

pub returns-in-Some-clause-contains : goal.returns-in-Some-clause-contains
returns-in-Some-clause-contains c = λ f s was relates within.
    let here : c.args.known.right ≡ c.args.class = search rules in
    let right : Within c.args.learnt (was.copies.0 c.args.known.right) = rw here within in
    let narrowed =
    c.left.ensures (was.copies.0 c.args.known.left) (was.copies.0 c.args.known.right) relates
    (c.word_of_class-before.ensures f s was relates.left) right in
    let left : Within c.in-Some.offset (was.copies.0 c.args.known.left) = rw c.in-Some.is at narrowed in
    c.sharpen_class.ensures.contains f s was
    (describes_as_number f.shapes c.number.result (was.copies.0 c.args.known.left) c.number.ensures.kind
    (rw c.number.ensures.offset left))

pub returns-in_default-clause-contains : goal.returns-in_default-clause-contains
returns-in_default-clause-contains c = λ f s was relates within. (was, refl)
