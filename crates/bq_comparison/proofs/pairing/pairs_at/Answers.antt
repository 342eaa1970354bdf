use Rattle.std.proofs.Common.{◌≡◌, ◌+◌, ◌<◌, [], ◌∷◌, ◌++◌, length, get_or, take, ap, ◌∙◌, arith}
use Rattle.std.specs.List.{filter_map, zip}
use Rattle.std.proofs.lemmas.Grind.{common_steps}
use Rattle.std.proofs.lemmas.List.{length-take, take_more}
use Rattle.std.proofs.lemmas.List.Elements.{filter_map-append}
use Rattle.bq_comparison.specs.Pairs.{pair_at, pairs_at}
use Rattle.bq_comparison.specs.declared.runs.RunFigures.{RunFigures}
use Rattle.bq_comparison.proofs.PairLemmas.{zip-more}
use Rattle.bq_comparison.proofs.pairing.pairs_at.Goals as goal
use Rattle.bq_comparison.proofs.pairing.pairs_at.Goals.{in-Some+in_ok-push, in_default}

pub runs-preserved : goal.runs-preserved
runs-preserved c =
    let ours = c.args.ours.now in
    let theirs = c.args.theirs.now in
    let i = c.runs.index in
    let run : RunFigures = c.index-ours-index.result in
    let other : RunFigures = c.index-theirs-index.result in
    let inside : i < length ours = c.runs-test.true in
    let within : i < length theirs = omega arith in
    let run_is : run ≡ get_or ours i run = c.index-ours-index.is in
    let other_is : other ≡ get_or theirs i other = c.index-theirs-index.is in
    let as_long : length (take i ours) ≡ length (take i theirs) = omega (arith, length-take i ours, length-take i theirs) in
    let more : pairs_at c.args.place (take (i + 1) ours) (take (i + 1) theirs)
    ≡ pairs_at c.args.place (take i ours) (take i theirs) ++ filter_map (pair_at c.args.place) ((run, other) ∷ []) =
    rw (take_more ours i run inside, take_more theirs i other within, ← run_is, ← other_is)
    (ap (filter_map (pair_at c.args.place)) (zip-more (take i ours) (take i theirs) run other as_long)
    ∙ filter_map-append (pair_at c.args.place) (zip (take i ours) (take i theirs)) ((run, other) ∷ [])) in
    elim c.match-pair_of.branch [
      | in-Some+in_ok-push w ↦ record { so_far = grind (arith, common_steps, more); few = grind (arith, common_steps) }
      | in_default w ↦ record { so_far = grind (arith, common_steps, more); few = grind (arith, common_steps) }
    ]
