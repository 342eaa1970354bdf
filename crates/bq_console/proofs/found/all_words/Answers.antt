use Rattle.std.proofs.Common.{◌∙◌, ap, sym, map, arith}
use Rattle.std.proofs.lemmas.Grind.{common_steps}
use Rattle.std.proofs.lemmas.Result.{IfOk-weaker}
use Rattle.std.specs.Prelude.{[], option_map, unwrap_or}
use Rattle.clap.proofs.WalkLemmas.{raw_values-rows}
use Rattle.clap.specs.Matches.{found_of}
use Rattle.bq_console.proofs.found.all_words.Goals as goal

pub returns-in-Some : goal.returns-in-Some
returns-in-Some c =
    let found =
    ap (option_map (λ s. map (λ v. v.now) s.now)) (sym c.in-Some.is) ∙ c.get_strs.ensures
    ∙ raw_values-rows (found_of c.args.matches.now) c.args.option.now in
    IfOk-weaker c.texts_of.result _ _ (λ all same. same ∙ ap (λ o. unwrap_or o []) found) c.texts_of.ensures

pub returns-in-None : goal.returns-in-None
returns-in-None c =
    let found =
    ap (option_map (λ s. map (λ v. v.now) s.now)) (sym c.in-None.is) ∙ c.get_strs.ensures
    ∙ raw_values-rows (found_of c.args.matches.now) c.args.option.now in
    grind (arith, common_steps, ap (λ o. unwrap_or o []) found)
