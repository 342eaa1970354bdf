use Rattle.std.proofs.Common.{sym, subst, rules, ◌≡◌, None}
use Rattle.bq_lines.specs.Kept.{KeepsLine}
use Rattle.bq_lines.proofs.KeptLemmas.{short_line-unkept}
use Rattle.bq_lines.proofs.partial_line.PartialLine.last.Goals as goal

pub returns-then-self : goal.returns-then-self
returns-then-self c =
    λ line h. let none : c.args.self.now ≡ None = search rules in sym (short_line-unkept line (subst (λ k. KeepsLine k line) none h))
