-- The first words that are said of a policy.
use Rattle.std.specs.Prelude.{ℕ, List, [], ◌∷◌, ◌++◌, codes}
use Rattle.std.specs.Fmt.{decimal}
use Rattle.bq_insn.specs.declared.TheConstants.{SLOTS}
use Rattle.bq_bpf.specs.declared.shape.MapShape.{MapShape}
use Rattle.bq_hooks.specs.Hooks.{hook_word, version_number}
use Rattle.bq_policy_file.specs.declared.policy_source.PolicySource.{PolicySource}
use Rattle.bq_policy_file.specs.MarkLines.{more_maps}
use Rattle.bq_explain.specs.declared.verdict.Verdict.{Verdict}
use Rattle.bq_explain.specs.declared.verdict.Verdict.TheVariants.{Accepted}
use Rattle.bq_explain.specs.Verdicts.{verdict_line}

-- the maps by their shapes, as `--maps` takes them
abbrev pub map_shapes_text : List MapShape → List ℕ
map_shapes_text [] = codes "none"
map_shapes_text (first ∷ rest) = decimal first.value_size ++ (codes ":" ++ (decimal first.entries ++ more_maps rest))

-- the words on a policy that is accepted: its hook, its budget, its version and its maps
abbrev pub accepted_beginning : PolicySource → ℕ → List ℕ
accepted_beginning p budget =
    codes "accepted " ++ (hook_word p.form.hook ++ (codes " budget " ++ (decimal budget ++ (codes " of " ++ (decimal SLOTS ++ (codes ", version "
    ++ (decimal (version_number p.form.version) ++ (codes ", maps " ++ map_shapes_text p.form.shapes.items))))))))

-- the first words on a policy: those of an accepted one, or otherwise the whole line of the verdict
abbrev pub text_beginning : PolicySource → Verdict → List ℕ
text_beginning p (Accepted budget) = accepted_beginning p budget
text_beginning p verdict = verdict_line p.form.hook verdict
