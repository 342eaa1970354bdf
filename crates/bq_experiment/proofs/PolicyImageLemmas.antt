-- Policies and their images, as more of them come.
use Rattle.std.proofs.Common.{◌≡◌, ℕ, true, false, Bool, List, [], ◌∷◌, ◌++◌, Option, Some, None, length, refl, take, sym, ap, ◌∙◌, cond, subst}
use Rattle.std.specs.Prelude.{IsSome, is_some}
use Rattle.std.specs.Option.{option_map}
use Rattle.bq_hooks.specs.declared.hook.Hook.{Hook}
use Rattle.bq_parts.specs.Refusals.{same_hook}
use Rattle.bq_simulate.specs.Replays.{AreOfImages, IsLoadedFromImage}
use Rattle.bq_simulate.specs.Texts.{ByHook}
use Rattle.bq_simulate.specs.Simulations.{Accepted}
use Rattle.bq_simulate.proofs.EventTakenLemmas.{same_hook_itself}
use Rattle.bq_experiment.specs.PoliciesAndImages.{AddsPolicy, AreOfTheirImages, PoliciesAndImages, image_for}

-- an image that is there stays when one more comes, by cases:
stays_by : (here : Bool) (image : Option (List ℕ)) (old new : Option (List ℕ)) (bytes : List ℕ)
    → (old ≡ Some bytes → new ≡ Some bytes) → cond here image old ≡ Some bytes
    → cond here image new ≡ Some bytes
stays_by true image old new bytes f there = there
stays_by false image old new bytes f there = f there

stays : (images : List (Hook × List ℕ)) (more : Hook × List ℕ) (hook : Hook) (bytes : List ℕ)
    → image_for images hook ≡ Some bytes → image_for (images ++ more ∷ []) hook ≡ Some bytes
stays [] more hook bytes there = cc
stays ((place, image) ∷ images) more hook bytes there =
    stays_by (same_hook place hook) (Some image) (image_for images hook) (image_for (images ++ more ∷ []) hook)
    bytes (stays images more hook bytes) there

-- an image that comes to a hook at which none was is there, by cases:
comes_by : (here : Bool) (image : List ℕ) (old new : Option (List ℕ)) (bytes : List ℕ)
    → (old ≡ None → new ≡ Some bytes) → cond here (Some image) old ≡ None
    → cond here (Some image) new ≡ Some bytes
comes_by true image old new bytes f free = cc
comes_by false image old new bytes f free = f free

comes : (images : List (Hook × List ℕ)) (hook : Hook) (bytes : List ℕ)
    → image_for images hook ≡ None → image_for (images ++ (hook, bytes) ∷ []) hook ≡ Some bytes
comes [] hook bytes free = rw (same_hook_itself hook) refl
comes ((place, image) ∷ images) hook bytes free =
    comes_by (same_hook place hook) image (image_for images hook) (image_for (images ++ (hook, bytes) ∷ []) hook) bytes
    (comes images hook bytes) free

-- a policy that is that of its image is that of the image when it stands there
of_image : (image : Option (List ℕ)) (bytes : List ℕ) (policy : Accepted)
    → image ≡ Some bytes → IsLoadedFromImage (Some bytes) policy → IsLoadedFromImage image policy
of_image image bytes policy is h = subst (λ (i : Option (List ℕ)). IsLoadedFromImage i policy) (sym is) h

-- policies that are those of their images stay so when one more image comes
stay : (images : List (Hook × List ℕ)) (more : Hook × List ℕ) (policies : List Accepted)
    → AreOfImages (image_for images) policies → AreOfImages (image_for (images ++ more ∷ [])) policies
stay images more [] h = tt
stay images more (policy ∷ policies) h =
    let one = h.0 in (
      record { bytes = one.bytes; there = stays images more policy.hook one.bytes one.there; each = one.each; loads = one.loads },
      stay images more policies h.1,
    )

-- policies that are those of their images, and one more such policy, all are
push : (images : ByHook) (policies : List Accepted) (policy : Accepted)
    → AreOfImages images policies → IsLoadedFromImage (images policy.hook) policy
    → AreOfImages images (policies ++ policy ∷ [])
push images [] policy h one = (one, tt)
push images (p ∷ policies) policy h one = (h.0, push images policies policy h.1 one)

-- each policy is that of its image, too, after one more came with an image for a hook at which none was
pub AreOfTheirImages-adds : (hook : Hook) (image : List ℕ) (policy : Accepted) (old new : PoliciesAndImages)
    → AddsPolicy hook image policy old new → policy.hook ≡ hook → image_for old.images hook ≡ None
    → IsLoadedFromImage (Some image) policy → AreOfTheirImages old
    → AreOfTheirImages new
AreOfTheirImages-adds hook image policy old new adds at free of h =
    let more = old.images ++ (hook, image) ∷ [] in
    let there : image_for more policy.hook ≡ Some image = ap (image_for more) at ∙ comes old.images hook image free in
    let all =
    push (image_for more) old.loaded policy (stay old.images (hook, image) old.loaded h)
    (of_image (image_for more policy.hook) image policy there of) in
    subst (λ (l : List Accepted). AreOfImages (image_for new.images) l) (sym adds.loaded)
    (subst (λ (i : List (Hook × List ℕ)). AreOfImages (image_for i) (old.loaded ++ policy ∷ [])) (sym adds.images) all)

-- the first members of a list are the same after others came behind them
pub front_as_before : {A : Type 0} (count : ℕ) (xs ys : List A) → count ≡ length xs → take count (xs ++ ys) ≡ xs
front_as_before {A = A} count xs ys is = rw is (all xs)
  where
    all : (l : List A) → take (length l) (l ++ ys) ≡ l
    all [] = refl
    all (x ∷ l) = ap (λ (rest : List A). x ∷ rest) (all l)

-- what is found is there
pub found_is_there : {A B : Type 0} (f : A → B) (o : Option A) (image : Option B) → option_map f o ≡ image → is_some o ≡ true → IsSome image
found_is_there f None image is there = cc
found_is_there f (Some x) image is there = subst IsSome is refl

-- what is not found is not there
pub not_found : {A B : Type 0} (f : A → B) (o : Option A) (image : Option B) → option_map f o ≡ image → is_some o ≡ false → image ≡ None
not_found f None image is absent = sym is
not_found f (Some x) image is absent = cc
