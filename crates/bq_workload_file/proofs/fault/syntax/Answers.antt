use Rattle.std.proofs.Common.{◌≡◌, ◌≤◌, is_some, take, length, ap, sym, ◌∙◌, rules}
use Rattle.std.proofs.lemmas.Bool.{false≢true}
use Rattle.bq_workload_file.specs.Positions.{column_after, line_after}
use Rattle.bq_workload_file.proofs.fault.syntax.Goals as goal

pub returns-in-Ok : goal.returns-in-Ok
returns-in-Ok c =
    let text = c.args.text.now in
    let at = c.min-at.result in
    let within : at ≤ length text = search rules in
    let line : c.position-line.result.0 ≡ line_after (take at text) = search rules in
    let column : c.position-line.result.1 ≡ column_after (take at text) = search rules in
    (c.requires (λ m. absurd (false≢true (sym (c.span.ensures.none.1 m) ∙ ap is_some c.in-Some.is))), (at, within, line, column))
