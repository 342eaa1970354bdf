use Rattle.std.proofs.Common.{◌≡◌, ◌-◌, length, arith, sym, ◌∙◌, Some, ℤ, pos, to_z, w16}
use Rattle.std.proofs.lemmas.Int.{ints}
use Rattle.bq_verify.proofs.EdgeLemmas.{start_inside}
use Rattle.bq_import.specs.Search.{copy_place, JumpsTo}
use Rattle.bq_import.proofs.SearchLemmas.{jumps_to, if_some}
use Rattle.bq_import.proofs.backward.Backward.distance.Goals as goal

pub overflow_sub-result : goal.overflow_sub-result
overflow_sub-result c =
    let at : copy_place c.args.places.now c.in-Some.to ≡ Some c.in-Some-place_at.place = sym c.place_at.ensures ∙ c.in-Some-place_at.is in
    let inside =
    start_inside c.args.self.now.slots.items c.in-Some-place_at.place
    (c.requires.known c.in-Some.to c.in-Some-place_at.place at).start in
    omega (arith, inside)

pub overflow_sub-result-2 : goal.overflow_sub-result-2
overflow_sub-result-2 c =
    let at : copy_place c.args.places.now c.in-Some.to ≡ Some c.in-Some-place_at.place = sym c.place_at.ensures ∙ c.in-Some-place_at.is in
    let inside =
    start_inside c.args.self.now.slots.items c.in-Some-place_at.place
    (c.requires.known c.in-Some.to c.in-Some-place_at.place at).start in
    omega (arith, inside)

pub returns : goal.returns
returns c =
    let place = c.in-Some-place_at.place in
    let at : copy_place c.args.places.now c.in-Some.to ≡ Some place = sym c.place_at.ensures ∙ c.in-Some-place_at.is in
    let stands = c.requires.known c.in-Some.to place at in
    let inside = start_inside c.args.self.now.slots.items place stands.start in
    let short = c.requires.short in
    let distance : ℤ = to_z w16 (c.len.result - place - 1) in
    let is : distance ≡ pos (length c.args.self.now.slots.items - place - 1) = omega (arith, ints, inside, short) in
    if_some (JumpsTo c.args.self.now.slots.items c.args.self.now.origins.items distance) c.args.jump c.in-Some.to c.in-Some.is
    (jumps_to c.args.self.now.slots.items c.args.self.now.origins.items c.in-Some.to place distance inside is stands)
