use Rattle.std.proofs.Common.{◌≡◌, ℕ, zero, suc, List, [], ◌∷◌, ◌++◌, length, length-append, Option, None, get_or, refl, ap, arith}
use Rattle.bq_verify.proofs.waiting.nothing_waits.Goals as goal

blank_pushed : {A : Type 0} (xs : List (Option A)) (k : ℕ) → ((j : ℕ) → get_or xs j None ≡ None) → get_or (xs ++ None ∷ []) k None ≡ None
blank_pushed [] zero h = refl
blank_pushed [] (suc k) h = refl
blank_pushed (x ∷ xs) zero h = h 0
blank_pushed (x ∷ xs) (suc k) h = blank_pushed xs k (λ j. h (suc j))

pub loop-preserved : goal.loop-preserved
loop-preserved c = record {
  room = omega (arith, ap length c.in_ok-push.ensures.items, length-append c.loop.pending.items (None ∷ []));
  blank = λ k. rw c.in_ok-push.ensures.items (blank_pushed c.loop.pending.items k c.loop.invariant.blank);
}
