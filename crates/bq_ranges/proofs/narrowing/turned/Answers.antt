use Rattle.std.proofs.Common.{refl, ap}
use Rattle.std.specs.Prelude.{not}
use Rattle.bq_bpf.specs.Meaning.{compares}
use Rattle.bq_ranges.proofs.TestLemmas.{common_turned, same_turned}
use Rattle.bq_ranges.proofs.narrowing.turned.Goals as goal

pub returns-in-Greater : goal.returns-in-Greater
unfolding compares
returns-in-Greater c = λ width a b. rw c.in-Greater.is refl

pub returns-in-GreaterEqual : goal.returns-in-GreaterEqual
unfolding compares
returns-in-GreaterEqual c = λ width a b. rw c.in-GreaterEqual.is refl

pub returns-in-Less : goal.returns-in-Less
unfolding compares
returns-in-Less c = λ width a b. rw c.in-Less.is refl

pub returns-in-LessEqual : goal.returns-in-LessEqual
unfolding compares
returns-in-LessEqual c = λ width a b. rw c.in-LessEqual.is refl

pub returns-in-SignedGreater : goal.returns-in-SignedGreater
unfolding compares
returns-in-SignedGreater c = λ width a b. rw c.in-SignedGreater.is refl

pub returns-in-SignedGreaterEqual : goal.returns-in-SignedGreaterEqual
unfolding compares
returns-in-SignedGreaterEqual c = λ width a b. rw c.in-SignedGreaterEqual.is refl

pub returns-in-SignedLess : goal.returns-in-SignedLess
unfolding compares
returns-in-SignedLess c = λ width a b. rw c.in-SignedLess.is refl

pub returns-in-SignedLessEqual : goal.returns-in-SignedLessEqual
unfolding compares
returns-in-SignedLessEqual c = λ width a b. rw c.in-SignedLessEqual.is refl

pub returns-in-Equal : goal.returns-in-Equal
unfolding compares
returns-in-Equal c = λ width a b. rw c.in-Equal.is (same_turned _ _)

pub returns-in-NotEqual : goal.returns-in-NotEqual
unfolding compares
returns-in-NotEqual c = λ width a b. rw c.in-NotEqual.is (ap not (same_turned _ _))

pub returns-in-AnyBit : goal.returns-in-AnyBit
unfolding compares
returns-in-AnyBit c = λ width a b. rw c.in-AnyBit.is (common_turned _ _)
