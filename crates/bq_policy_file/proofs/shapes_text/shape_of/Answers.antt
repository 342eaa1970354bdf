use Rattle.std.proofs.Common.{◌∙◌, sym, rules}
use Rattle.bq_policy_file.proofs.NamedShapesLemmas.{no_shape}
use Rattle.bq_policy_file.proofs.shapes_text.shape_of.Goals as goal

pub returns-then-is_some-clause-none : goal.returns-then-is_some-clause-none
returns-then-is_some-clause-none c =
    no_shape c.args.text.now c.cut.result.0.now c.cut-2.result.0.now c.cut.result.1 c.cut-2.result.1 c.in_ok-after.field-0
    c.cut.ensures (search rules) c.cut-2.ensures (sym c.is_some.ensures ∙ c.if-is_some.true)
