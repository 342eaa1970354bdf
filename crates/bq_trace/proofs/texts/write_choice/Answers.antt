use Rattle.std.proofs.Common.{rules, lit<}
use Rattle.std.proofs.lemmas.Fmt.{decimal_digit}
use Rattle.bq_trace.proofs.texts.write_choice.Goals as goal

pub returns-then-steps-eq0 : goal.returns-then-steps-eq0
returns-then-steps-eq0 c = rw (c.in-Discipline.is, c.if-steps-eq0.true, decimal_digit 0 (lit< tt)) (search rules)
