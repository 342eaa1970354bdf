-- What a loop over writes leaves.
use Rattle.std.proofs.Common.{◌≡◌, ℕ, List, [], ◌++◌, take, drop, refl, sym, ap, ◌∙◌, append_assoc, take-append-drop, Option}
use Rattle.std.specs.Io.KnownBytes.{Appends}
use Rattle.std.proofs.KnownBytes.{Appends-nil, Appends-trans}
use Rattle.bq_streams.specs.Writing.{LeavesRest}

-- where nothing is written the whole text is left
pub Leaves-none : (a : Option (List ℕ)) (text : List ℕ) → LeavesRest a a text text
Leaves-none a text = record { done = []; whole = refl; added = Appends-nil a }

-- what is written of the rest leaves this many bytes less of the text
pub Leaves-more : (a b c : Option (List ℕ)) (text rest new : List ℕ) (n : ℕ)
    → LeavesRest a b text rest → Appends b c (take n rest) → new ≡ drop n rest → LeavesRest a c text new
Leaves-more a b c text rest new n h more is = record {
  done = h.done ++ take n rest;
  whole =
      h.whole ∙ ap (λ l. h.done ++ l) (sym (take-append-drop n rest) ∙ ap (λ l. take n rest ++ l) (sym is))
      ∙ sym (append_assoc h.done (take n rest) new);
  added = Appends-trans a b c h.done (take n rest) h.added more;
}
