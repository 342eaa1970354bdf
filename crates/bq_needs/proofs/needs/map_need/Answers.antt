use Rattle.std.proofs.Common.{rules, SFits, ap, to_z-of_z}
use Rattle.std.specs.Int.{w32}
use Rattle.bq_needs.specs.declared.needs.Need.TheVariants.{Map}
use Rattle.bq_needs.proofs.needs.map_need.Goals as goal

pub returns-else-is_map : goal.returns-else-is_map
returns-else-is_map c =
    let fits : SFits w32 c.args.index = search rules in
    (ap Map (to_z-of_z fits), λ is. let no = simp (to_z-of_z fits) at c.if-is_map.ensures in let e = no.1 is in absurd cc)
