use Rattle.std.proofs.Common.{◌≡◌, ◌/◌, sym, ap, ◌∙◌, Some, None}
use Rattle.std.specs.Prelude.{slice_get}
use Rattle.std.specs.Option.{option_map}
use Rattle.bq_history.specs.Chains.{row_below}
use Rattle.bq_history.proofs.ChunkingLemmas.{in_chunk, no_chunk}
use Rattle.bq_history.proofs.ended.ClosedRecords.logged.Goals as goal

pub returns-in_err-chunk : goal.returns-in_err-chunk
returns-in_err-chunk g c =
    let none : slice_get (row_below c.self.inside.tree) (c.args.place / 16) ≡ None =
    sym c.at.ensures ∙ ap (λ x. option_map (λ b. b.now) x) c.in_err-chunk.was in
    ap (λ x. option_map (λ r. r.now) x) c.from_residual.ensures
    ∙ (sym (no_chunk (row_below c.self.inside.tree) c.args.place c.self.invariant.1 none)
    ∙ ap (λ x. slice_get x c.args.place) c.self.view_is)

pub returns : goal.returns
returns g c =
    let some : slice_get (row_below c.self.inside.tree) (c.args.place / 16) ≡ Some c.in_ok-chunk.chunk.now =
    sym c.at.ensures ∙ ap (λ x. option_map (λ b. b.now) x) c.in_ok-chunk.was in
    c.at-2.ensures
    ∙ (in_chunk (row_below c.self.inside.tree) c.args.place c.in_ok-chunk.chunk.now c.self.invariant.1 some
    ∙ ap (λ x. slice_get x c.args.place) c.self.view_is)
