-- Words of printable bytes, and lines of such words.
use Rattle.std.proofs.Common.{◌≡◌, ℕ, ◌+◌, ◌<◌, ◌≤◌, List, [], ◌∷◌, ◌++◌, length, refl, ap, ◌∙◌, Bool, true, false, cond, ltb, arith, length-append}
use Rattle.std.specs.Prelude.{filter, ◌&&◌, nat_le}
use Rattle.std.specs.List.{All, AllByRecursion, list_all}
use Rattle.std.proofs.lemmas.List.Elements.{All-from_recursion}
use Rattle.std.proofs.lemmas.List.Splits.{slice_split_at, slice_split_none}
use Rattle.std.proofs.lemmas.List.Folds.{list_all-append}
use Rattle.std.proofs.lemmas.Bool.Decides.{nat_tests}
use Rattle.std.proofs.lemmas.Bool.{and_parts}
use Rattle.bq_words.specs.Words.{words, is_space}
use Rattle.bq_lines.specs.Bytes.{is_allowed}
use Rattle.bq_simulate.specs.Spelling.{spaced_words}

-- printable ASCII, and no space
abbrev pub is_plain : ℕ → Bool
is_plain b = nat_le 33 b && nat_le b 126

-- not empty, and of only such bytes
pub record IsPlain (w : List ℕ) : Type 0 where
  pub some : 0 < length w
  pub each : list_all is_plain w ≡ true

-- a plain byte is no space, and is allowed in a line:
plain_no_space : (b : ℕ) → is_plain b ≡ true → is_space b ≡ false
plain_no_space b h = grind (arith, nat_tests)

plain_allowed : (b : ℕ) → is_plain b ≡ true → is_allowed b ≡ true
plain_allowed b h = grind (arith, nat_tests)

-- what each plain byte is, each byte of a plain word is
of_each : (P : ℕ → Type 0) → ((b : ℕ) → is_plain b ≡ true → P b) → (w : List ℕ) → list_all is_plain w ≡ true → AllByRecursion P w
of_each P along [] h = tt
of_each P along (b ∷ w) h = let parts = and_parts (is_plain b) (list_all is_plain w) h in (along b parts.0, of_each P along w parts.1)

-- no byte of a plain word is a space
no_space : (w : List ℕ) → IsPlain w → All (λ b. is_space b ≡ false) w
no_space w h = All-from_recursion (λ b. is_space b ≡ false) w (of_each (λ b. is_space b ≡ false) plain_no_space w h.each)

-- where each byte passes a test all of them pass it
passes : (p : ℕ → Bool) (w : List ℕ) → AllByRecursion (λ b. p b ≡ true) w → list_all p w ≡ true
passes p [] h = refl
passes p (b ∷ w) h = rw h.0 (passes p w h.1)

-- each byte of a plain word is allowed in a line
allowed_word : (w : List ℕ) → IsPlain w → list_all is_allowed w ≡ true
allowed_word w h = passes is_allowed w (of_each (λ b. is_allowed b ≡ true) plain_allowed w h.each)

-- a word that is not empty is kept in front of the others
kept_word : (w : List ℕ) (ws : List (List ℕ)) → 0 < length w → cond (ltb 0 (length w)) (w ∷ ws) ws ≡ w ∷ ws
kept_word w ws some = let e : ltb 0 (length w) ≡ true = grind (arith, nat_tests) in ap (λ t. cond t (w ∷ ws) ws) e

-- a plain word and what follows a space after it
words-plain : (w rest : List ℕ) → IsPlain w → words (w ++ 32 ∷ rest) ≡ w ∷ words rest
words-plain w rest h =
    ap (filter (λ x. ltb 0 (length x))) (slice_split_at is_space w 32 rest (no_space w h) refl)
    ∙ kept_word w (words rest) h.some

-- a plain word by itself
words-last : (w : List ℕ) → IsPlain w → words w ≡ w ∷ []
words-last w h = ap (filter (λ x. ltb 0 (length x))) (slice_split_none is_space w (no_space w h)) ∙ kept_word w [] h.some

-- the words of a line of plain words are these
pub words-spaced : (ws : List (List ℕ)) → AllByRecursion IsPlain ws → words (spaced_words ws) ≡ ws
words-spaced [] h = refl
words-spaced (w ∷ []) h = words-last w h.0
words-spaced (w ∷ x ∷ ws) h = words-plain w (spaced_words (x ∷ ws)) h.0 ∙ ap (λ l. w ∷ l) (words-spaced (x ∷ ws) h.1)

-- where two words and a space pass a test, the words with a space between them pass it
all_with_space : (p : ℕ → Bool) (w rest : List ℕ) → list_all p w ≡ true → p 32 ≡ true → list_all p rest ≡ true
    → list_all p (w ++ 32 ∷ rest) ≡ true
all_with_space p w rest first space more = list_all-append p w (32 ∷ rest) ∙ rw (first, space, more) refl

-- each byte of such a line may stand in it
pub allowed-spaced : (ws : List (List ℕ)) → AllByRecursion IsPlain ws → list_all is_allowed (spaced_words ws) ≡ true
allowed-spaced [] h = refl
allowed-spaced (w ∷ []) h = allowed_word w h.0
allowed-spaced (w ∷ x ∷ ws) h = all_with_space is_allowed w (spaced_words (x ∷ ws)) (allowed_word w h.0) refl (allowed-spaced (x ∷ ws) h.1)

-- how long a line may be that has these words
abbrev pub room : List (List ℕ) → ℕ
room [] = 0
room (w ∷ ws) = length w + (1 + room ws)

-- a line is no longer than the room for its words
pub length-spaced : (ws : List (List ℕ)) → length (spaced_words ws) ≤ room ws
length-spaced [] = omega arith
length-spaced (w ∷ []) = omega arith
length-spaced (w ∷ x ∷ ws) = let more = length-spaced (x ∷ ws) in omega (arith, length-append w (32 ∷ spaced_words (x ∷ ws)))
