use Rattle.std.proofs.Common.{◌≡◌, ℕ, ◌+◌, ◌++◌, ◌∷◌, [], List, take, sym, ap, ◌∙◌, arith}
use Rattle.std.proofs.lemmas.List.{flat_map_more, take_more}
use Rattle.bq_bpf.specs.declared.shape.MapShape.{MapShape}
use Rattle.bq_insn.specs.Appending.{StartsWith}
use Rattle.bq_insn.proofs.EncodeLemmas.{on_err}
use Rattle.bq_load.specs.Layout.{shape_bytes, shapes_bytes}
use Rattle.bq_load.proofs.writing.append_shapes.Goals as goal

pub returns-in_err-extend_from_slice-clause-err : goal.returns-in_err-extend_from_slice-clause-err
returns-in_err-extend_from_slice-clause-err c =
    let part : StartsWith c.args.out.now.items c.extend_from_slice.new.self.items =
    (shapes_bytes (take c.loop-shape.shape-index c.args.shapes.now), c.in_err-extend_from_slice.ensures.items ∙ c.loop-shape.invariant) in
    on_err c.from_residual.result part

pub loop-shape-preserved : goal.loop-shape-preserved
loop-shape-preserved c =
    let index : ℕ = c.loop-shape.shape-index in
    let before : List ℕ = c.args.out.now.items in
    let passed : List MapShape = take index c.args.shapes.now in
    let more : take (index + 1) c.args.shapes.now ≡ passed ++ c.shape-item.result ∷ [] =
    take_more c.args.shapes.now index c.shape-item.result (omega arith)
    ∙ ap (λ (s : MapShape). passed ++ s ∷ []) (sym c.shape-item.is) in
    c.in_ok-extend_from_slice.ensures.items ∙ ap (λ (b : List ℕ). c.loop-shape.out.items ++ b) c.bytes_of.ensures
    ∙ ap (λ (o : List ℕ). o ++ shape_bytes c.shape-item.result) c.loop-shape.invariant
    ∙ flat_map_more shape_bytes before passed c.shape-item.result
    ∙ ap (λ (s : List MapShape). before ++ shapes_bytes s) (sym more)
