use Rattle.std.proofs.Common.{refl}
use Rattle.bq_transfer.proofs.ResultLemmas.{number_on_side}
use Rattle.bq_transfer.proofs.sides.side.Goals as goal

pub returns-in-Some : goal.returns-in-Some
returns-in-Some c = record {
  fits = c.in-Some.ensures.fits;
  obligations = tt;
  compared = c.in-Some.ensures.compared;
  accepts = λ left right. refl;
  number = λ left right. number_on_side c.in-Some.side (c.in-Some.ensures.numbers left right);
  checks = λ map check answer. refl;
  tested = c.in-Some.ensures.tested;
}

pub returns-in-None : goal.returns-in-None
returns-in-None c = record {
  fits = tt;
  obligations = λ insn uses. uses;
  compared = tt;
  accepts = λ left right. absurd (c.in-None.ensures.numbers left right);
  number = λ left right. tt;
  checks = λ map check answer. absurd (c.in-None.ensures.tested map check answer);
  tested = λ map check answer. tt;
}
