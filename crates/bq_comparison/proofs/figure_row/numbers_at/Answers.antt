use Rattle.std.proofs.Common.{arith}
use Rattle.std.proofs.lemmas.Grind.{common_steps}
use Rattle.std.proofs.lemmas.List.Elements.{filter_map-append}
use Rattle.bq_comparison.proofs.figure_row.numbers_at.Goals as goal
use Rattle.bq_comparison.proofs.figure_row.numbers_at.Goals.{in-Some+in_ok-push, in_default}

pub runs-preserved : goal.runs-preserved
runs-preserved c =
    elim c.match-number_at.branch [
      | in-Some+in_ok-push w ↦ record { so_far = grind (arith, common_steps, filter_map-append); few = grind (arith, common_steps) }
      | in_default w ↦ record { so_far = grind (arith, common_steps, filter_map-append); few = grind (arith, common_steps) }
    ]
