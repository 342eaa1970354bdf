-- What is booked is the time that passes, except for what rounding loses.
use Rattle.bq_fairness.proofs.WorkLemmas.{books_the_time}
use Rattle.bq_fairness.proofs.processor_laws.books_the_time.Goals as goal

pub returns : goal.returns
returns c = books_the_time
