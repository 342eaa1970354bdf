-- The part of a text before its first byte that passes a test, such as the beginning of a comment.
use Rattle.std.proofs.Common.{◌≡◌, ℕ, List, length, take, refl, sym, ap, true, false, cond, arith, take_all}
use Rattle.std.specs.Prelude.{position, nat_lt, Bool, Some, None, ◌≤◌}
use Rattle.std.specs.List.{position_or_len, before_first}
use Rattle.std.proofs.lemmas.Bool.Decides.{nat_tests}

-- the first byte that passes, and what stands before it
pub before_first-some : (p : ℕ → Bool) (text : List ℕ) (at : ℕ) → position p text ≡ Some at → take at text ≡ before_first p text
before_first-some p text at h = by (nat_lt (position_or_len p text) (length text)) h
  where
    by : (b : Bool) → cond b (Some (position_or_len p text)) None ≡ Some at → take at text ≡ before_first p text
    by true e = let same : position_or_len p text ≡ at = cc in ap (λ n. take n text) (sym same)
    by false e = absurd (let no : None ≡ Some at = e in cc)

-- where no byte of a text passes, all of it stands before the first that would
pub before_first-none : (p : ℕ → Bool) (text : List ℕ) → position p text ≡ None → text ≡ before_first p text
before_first-none p text h = by (nat_lt (position_or_len p text) (length text)) refl h
  where
    by : (b : Bool) → nat_lt (position_or_len p text) (length text) ≡ b → cond b (Some (position_or_len p text)) None ≡ None
        → text ≡ before_first p text
    by true t e = absurd (let no : Some (position_or_len p text) ≡ None = e in cc)
    by false t e =
        let long : length text ≤ position_or_len p text = grind (arith, nat_tests, t) in
        sym (take_all (position_or_len p text) text long)
