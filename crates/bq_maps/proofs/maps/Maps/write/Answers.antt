use Rattle.std.proofs.Common.{◌≡◌, ℕ, ◌<◌, List, map, length, Vec, Global, sym, ◌∙◌, ap, arith}
use Rattle.std.proofs.lemmas.List.{length-map}
use Rattle.bq_maps.specs.Arrays.{Arrays}
use Rattle.bq_bpf.specs.Memory.{overwrite}
use Rattle.bq_bpf.proofs.MapLemmas.{have_overwritten}
use Rattle.bq_maps.proofs.ShapeLemmas.{bytes_after}
use Rattle.bq_maps.proofs.maps.Maps.write.Goals as goal

pub invariant_of-self : goal.invariant_of-self
invariant_of-self c =
    let f : Vec ℕ Global → List ℕ = λ v. v.items in
    let shapes_are : c.args.self.now.shapes ≡ c.self.inside.shapes.items = ap (λ (a : Arrays). a.shapes) (sym c.self.view_is) in
    let bytes_are : c.args.self.now.bytes ≡ map f c.self.inside.bytes.items = ap (λ (a : Arrays). a.bytes) (sym c.self.view_is) in
    let there = rw shapes_are at c.requires.there in
    let inside = rw bytes_are at c.requires.inside in
    let many = c.self.invariant.as_many in
    let below : c.args.m < length c.self.inside.bytes.items = omega (arith, length-map c.self.inside.bytes.items f) in
    let after : c.paste.new.into ≡ overwrite c.index_mut.result.now.items c.args.at c.args.bytes.now =
    c.paste.ensures ∙ ap (λ (l : List ℕ). overwrite l c.args.at c.args.bytes.now) c.as_mut_slice.ensures.value in
    let long : length c.paste.new.into ≡ c.index_mut.result.now.len = c.paste.auto.into ∙ c.as_mut_slice.ensures.len in
    rw (bytes_after c.self.inside.bytes.items c.args.m c.index_mut.result.now c.paste.new.into c.args.bytes.now c.args.at
    below c.index_mut.ensures.value long after)
    (have_overwritten c.self.inside.shapes.items (map f c.self.inside.bytes.items) c.args.m c.args.at c.args.bytes.now
    c.self.invariant there inside (λ i. let fits = c.type_inv.bytes i in omega arith))

pub returns : goal.returns
returns c =
    let f : Vec ℕ Global → List ℕ = λ v. v.items in
    let shapes_are : c.args.self.now.shapes ≡ c.self.inside.shapes.items = ap (λ (a : Arrays). a.shapes) (sym c.self.view_is) in
    let bytes_are : c.args.self.now.bytes ≡ map f c.self.inside.bytes.items = ap (λ (a : Arrays). a.bytes) (sym c.self.view_is) in
    let there = rw shapes_are at c.requires.there in
    let many = c.self.invariant.as_many in
    let below : c.args.m < length c.self.inside.bytes.items = omega (arith, length-map c.self.inside.bytes.items f) in
    let after : c.paste.new.into ≡ overwrite c.index_mut.result.now.items c.args.at c.args.bytes.now =
    c.paste.ensures ∙ ap (λ (l : List ℕ). overwrite l c.args.at c.args.bytes.now) c.as_mut_slice.ensures.value in
    let long : length c.paste.new.into ≡ c.index_mut.result.now.len = c.paste.auto.into ∙ c.as_mut_slice.ensures.len in
    rw (← c.self.view_is) (ap (λ (b : List (List ℕ)). let a : Arrays = record { shapes = c.self.inside.shapes.items; bytes = b } in a)
    (bytes_after c.self.inside.bytes.items c.args.m c.index_mut.result.now c.paste.new.into c.args.bytes.now c.args.at
    below c.index_mut.ensures.value long after))
