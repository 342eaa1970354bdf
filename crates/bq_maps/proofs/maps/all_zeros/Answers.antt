use Rattle.std.proofs.Common.{◌≡◌, ℕ, ◌+◌, ◌*◌, ◌++◌, ◌∷◌, [], Vec, Global, List, take, map, length, replicate, ◌∙◌, ap, sym, refl, arith}
use Rattle.std.proofs.lemmas.List.{map_push, take_more, length-replicate}
use Rattle.bq_bpf.specs.declared.shape.MapShape.{MapShape}
use Rattle.bq_maps.proofs.ShapeLemmas.{have_more, zero_more, zeros_are_bytes}
use Rattle.bq_maps.proofs.maps.all_zeros.Goals as goal

pub loop-shape-preserved : goal.loop-shape-preserved
loop-shape-preserved c =
    let f : Vec ℕ Global → List ℕ = λ v. v.items in
    let before = c.loop-shape.invariant in
    let size : ℕ = c.from.result * c.from-in-loop-shape.result in
    let all : c.push.new.self.items ≡ c.loop-shape.all.items ++ c.in_ok-zeros.field-0 ∷ [] = c.in_ok-push.ensures.items in
    let contents : map f c.push.new.self.items ≡ map f c.loop-shape.all.items ++ replicate size 0 ∷ [] =
    ap (map f) all ∙ map_push f c.loop-shape.all.items c.in_ok-zeros.field-0
    ∙ ap (λ (l : List ℕ). map f c.loop-shape.all.items ++ l ∷ []) c.in_ok-zeros.ensures in
    let more = take_more c.args.shapes.now c.loop-shape.shape-index c.shape-item.result (omega arith) in
    let shapes : take (c.loop-shape.shape-index + 1) c.args.shapes.now
    ≡ take c.loop-shape.shape-index c.args.shapes.now ++ c.shape-item.result ∷ [] =
    more ∙ ap (λ (s : MapShape). take c.loop-shape.shape-index c.args.shapes.now ++ s ∷ []) (sym c.shape-item.is) in
    let sized : length (replicate {A = ℕ} size 0) ≡ c.shape-item.result.value_size * c.shape-item.result.entries =
    length-replicate {A = ℕ} size 0 ∙ rw (c.from.ensures, c.from-in-loop-shape.ensures) refl in
    record {
      have =
          rw (shapes, contents) (have_more (take c.loop-shape.shape-index c.args.shapes.now) (map f c.loop-shape.all.items)
          c.shape-item.result (replicate size 0) before.have sized (zeros_are_bytes size));
      zero = rw contents (zero_more (map f c.loop-shape.all.items) size before.zero);
    }
