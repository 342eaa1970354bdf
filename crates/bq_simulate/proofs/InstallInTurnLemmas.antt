-- Policies that are installed one after another.
use Rattle.std.proofs.Common.{◌≡◌, ℕ, ◌+◌, List, [], ◌∷◌, ◌++◌, Some, take, refl, sym, ap, ◌∙◌, subst, append_assoc, append-nil}
use Rattle.std.specs.Prelude.{slice_get}
use Rattle.std.proofs.lemmas.List.{take_more}
use Rattle.std.proofs.lemmas.Option.{get_or_from_slice_get, slice_get_within}
use Rattle.bq_parts.specs.declared.event.Event.TheVariants.{Install}
use Rattle.bq_verify.specs.Accepted.{Accepted}
use Rattle.bq_simulate.specs.Deeds.{Deed}
use Rattle.bq_simulate.specs.Steps.{AreInstalled, IsInstalled, installs_of}
use Rattle.bq_simulate.proofs.AllProcessorsLemmas.{each_more}

-- the policy at one processor more
pub installs_more : (count generation : ℕ) (policy : Accepted)
    → installs_of (count + 1) generation policy
    ≡ installs_of count generation policy ++ Install count policy.hook generation (Some policy) ∷ []
installs_more count generation policy = each_more (λ processor. Install processor policy.hook generation (Some policy)) count

-- one policy more
AreInstalled-more : (processors : ℕ) (policies : List Accepted) (policy : Accepted) (xs ys : List Deed)
    → AreInstalled processors policies xs → IsInstalled processors policy ys
    → AreInstalled processors (policies ++ policy ∷ []) (xs ++ ys)
AreInstalled-more processors [] policy xs ys none one = (ys, [], ap (λ (l : List Deed). l ++ ys) none ∙ sym (append-nil ys), one, refl)
AreInstalled-more processors (p ∷ policies) policy xs ys (some, more, whole, is, rest) one = (
  some,
  more ++ ys,
  ap (λ (l : List Deed). l ++ ys) whole ∙ append_assoc some more ys,
  is,
  AreInstalled-more processors policies policy more ys rest one,
)

-- the policy of this number, after those before it
pub AreInstalled-next : (processors : ℕ) (policies : List Accepted) (number : ℕ) (policy : Accepted) (xs ys : List Deed)
    → slice_get policies number ≡ Some policy → AreInstalled processors (take number policies) xs
    → IsInstalled processors policy ys
    → AreInstalled processors (take (number + 1) policies) (xs ++ ys)
AreInstalled-next processors policies number policy xs ys there before one =
    let is : take (number + 1) policies ≡ take number policies ++ policy ∷ [] =
    take_more policies number policy (slice_get_within policies number policy there)
    ∙ ap (λ (p : Accepted). take number policies ++ p ∷ []) (get_or_from_slice_get policies number policy policy there) in
    subst (λ (l : List Accepted). AreInstalled processors l (xs ++ ys)) (sym is)
    (AreInstalled-more processors (take number policies) policy xs ys before one)
