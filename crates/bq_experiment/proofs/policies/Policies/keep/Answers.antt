-- Each policy stays that of its image, and so is the one that comes.
use Rattle.std.proofs.Common.{◌≡◌, ◌∷◌, ◌++◌, [], None, map, take, arith, ap, ◌∙◌}
use Rattle.std.proofs.lemmas.List.{map-append}
use Rattle.bq_experiment.specs.PoliciesAndImages.{PoliciesAndImages, image_for, with_images, image_as_bytes}
use Rattle.bq_experiment.proofs.PolicyImageLemmas.{AreOfTheirImages-adds, front_as_before}
use Rattle.bq_experiment.proofs.policies.Policies.keep.Goals as goal

pub invariant_of-self : goal.invariant_of-self
invariant_of-self c = rw c.in_err-push.ensures.items c.self.invariant

pub invariant_of-self-in-Err : goal.invariant_of-self-in-Err
invariant_of-self-in-Err c =
    let before = c.self.inside.images in
    let images : c.truncate.new.self.items ≡ before.items =
    c.truncate.ensures.items ∙ ap (take c.len-count.result) c.in_ok-push.ensures.items
    ∙ front_as_before c.len-count.result before.items ((c.args.hook, c.args.image) ∷ []) (omega arith) in
    rw (images, c.in-Err.ensures.items) c.self.invariant

pub invariant_of-self-in_default : goal.invariant_of-self-in_default
invariant_of-self-in_default c =
    let inside = c.self.inside in
    let old : PoliciesAndImages = with_images inside.loaded.items inside.images.items in
    let new : PoliciesAndImages = with_images c.push-2.new.self.items c.push.new.self.items in
    let images : new.images ≡ old.images ++ (c.args.hook, c.args.image.items) ∷ [] =
    ap (map image_as_bytes) c.in_ok-push.ensures.items ∙ map-append image_as_bytes inside.images.items ((c.args.hook, c.args.image) ∷ []) in
    let free : image_for old.images c.args.hook ≡ None =
    ap (λ (s : PoliciesAndImages). image_for s.images c.args.hook) c.self.view_is ∙ c.requires.free in
    AreOfTheirImages-adds c.args.hook c.args.image.items c.args.policy old new
    (record { loaded = c.in_default.ensures.items; images = images }) c.requires.hook free c.requires.of c.self.invariant
