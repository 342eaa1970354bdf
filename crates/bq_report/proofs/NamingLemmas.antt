-- What a comment names, found one part after another.
use Rattle.std.proofs.Common.{◌≡◌, ℕ, ◌-◌, true, false, List, [], ◌∷◌, ◌++◌, length, take, drop, Option, Some, None, IfNone, Result, Ok, Err, is_ok, MatchResult, refl, sym, ap, ◌∙◌, subst, arith, true≢false}
use Rattle.std.specs.Prelude.{codes, position, ◌==◌, nat_eq}
use Rattle.std.specs.Cmp.Lexicographic.{pointwise, bytes_decides}
use Rattle.std.specs.Result.{result_ok}
use Rattle.std.specs.Str.{IsTrimAscii, IsUtf8, trim}
use Rattle.std.proofs.lemmas.List.{take-append-drop, length-take-le, length-drop, take_all}
use Rattle.std.proofs.lemmas.List.Quantifiers.{position-Some}
use Rattle.std.proofs.lemmas.Option.{same_Some, none-some}
use Rattle.std.proofs.lemmas.Str.Ascii.{trim_ascii_is}
use Rattle.bq_report.specs.Names.{IsNaming, task_number}

-- a comment names no task, where nothing was found
pub names_none : {A : Type 0} (comment : List ℕ) (o : Option A) → ((task : ℕ) (name : List ℕ) → IsNaming comment task name → ⊥)
    → IfNone o ((task : ℕ) (name : List ℕ) → ¬ (IsNaming comment task name))
names_none comment None none = none
names_none comment (Some x) none = tt

-- a text is trimmed in one way
pub one_trim : (s r q : List ℕ) → IsTrimAscii s r → IsTrimAscii s q → r ≡ q
one_trim s r q a b = trim_ascii_is s r _ refl a ∙ sym (trim_ascii_is s q _ refl b)

-- the parts of a comment that names a task are those that are found
mark_is : (comment behind name : List ℕ) (task : ℕ) → IsTrimAscii comment (codes "#" ++ behind)
    → (n : IsNaming comment task name) → n.behind_mark ≡ behind
mark_is comment behind name task found n = ap (drop 1) (one_trim comment _ _ n.mark found)

word_is : (comment first behind name : List ℕ) (task : ℕ) → IsTrimAscii comment (codes "#" ++ first)
    → IsTrimAscii first (codes "task " ++ behind)
    → (n : IsNaming comment task name) → n.behind_word ≡ behind
word_is comment first behind name task mark found n =
    ap (drop 5) (one_trim first _ _
    (subst (λ s. IsTrimAscii s (codes "task " ++ n.behind_word)) (mark_is comment first name task mark n) n.word) found)

one_line : (comment first second line name : List ℕ) (task : ℕ)
    → IsTrimAscii comment (codes "#" ++ first) → IsTrimAscii first (codes "task " ++ second) → IsTrimAscii second line
    → (n : IsNaming comment task name) → n.number ++ n.text ≡ line
one_line comment first second line name task mark word found n =
    one_trim second _ _ (subst (λ s. IsTrimAscii s (n.number ++ n.text)) (word_is comment first second name task mark word n) n.parts) found

-- what stands before the end of the first of two lists
pub before_end : (a b : List ℕ) → take (length a) (a ++ b) ≡ a
before_end [] b = refl
before_end (x ∷ a) b = ap (λ t. x ∷ t) (before_end a b)

-- what stands behind the end of the first of two lists
pub behind_end : (a b : List ℕ) → drop (length a) (a ++ b) ≡ b
behind_end [] b = refl
behind_end (x ∷ a) b = behind_end a b

-- a slice from a place on is all that stands from there
pub from_place : (k : ℕ) (xs : List ℕ) → take (length xs - k) (drop k xs) ≡ drop k xs
from_place k xs = take_all (length xs - k) (drop k xs) (omega (arith, length-drop k xs))

-- a text that begins with another is that and what stands behind it
pub cut_off : (head text rest : List ℕ) → pointwise nat_eq (take (length head) text) head ≡ true
    → rest ≡ drop (length head) text
    → text ≡ head ++ rest
cut_off head text rest begins behind =
    sym (take-append-drop (length head) text)
    ∙ ap (λ t. t ++ drop (length head) text) ((bytes_decides (take (length head) text) head).0 begins)
    ∙ ap (λ t. head ++ t) (sym behind)

-- the line behind a comment's mark and word
pub record IsLine (comment line : List ℕ) : Type 0 where
  pub first : List ℕ
  pub second : List ℕ
  pub mark : IsTrimAscii comment (codes "#" ++ first)
  pub word : IsTrimAscii first (codes "task " ++ second)
  pub rest : IsTrimAscii second line

-- where the first space of a line stands
abbrev pub first_space : List ℕ → Option ℕ
first_space line = position (λ byte. byte == 32) line

module _ (comment line name : List ℕ) (task : ℕ) (l : IsLine comment line) (n : IsNaming comment task name) where
  -- the number and the name make up the line
  pub line_is : n.number ++ n.text ≡ line
  line_is = one_line comment l.first l.second line name task l.mark l.word l.rest n

  space_is : first_space line ≡ Some (length n.number)
  space_is = ap first_space (sym line_is) ∙ n.first_space

  -- there is a space in the line
  pub has_space : (found : Option ℕ) → found ≡ first_space line → found ≡ None → ⊥
  has_space found is none = none-some (length n.number) (sym none ∙ is ∙ space_is)

  end_is : (found : Option ℕ) (end : ℕ) → found ≡ first_space line → found ≡ Some end → end ≡ length n.number
  end_is found end is at = same_Some end (length n.number) (sym at ∙ is ∙ space_is)

  -- before it stands the number
  pub number_is : (found : Option ℕ) (end : ℕ) → found ≡ first_space line → found ≡ Some end → take end line ≡ n.number
  number_is found end is at =
      ap (λ k. take k line) (end_is found end is at) ∙ ap (take (length n.number)) (sym line_is) ∙ before_end n.number n.text

  -- behind the space stands the name
  pub text_is : (found : Option ℕ) (end : ℕ) → found ≡ first_space line → found ≡ Some end → drop end line ≡ n.text
  text_is found end is at =
      ap (λ k. drop k line) (end_is found end is at) ∙ ap (drop (length n.number)) (sym line_is) ∙ behind_end n.number n.text

-- what stands before the first space and behind it names a task, where the one is a number and the other is text
pub names_task : (comment line name : List ℕ) (task : ℕ) → IsLine comment line
    → (found : Option ℕ) (end : ℕ) → found ≡ first_space line → found ≡ Some end → task_number (take end line) ≡ Some task
    → IsUtf8 (drop end line) → name ≡ trim (drop end line)
    → IsNaming comment task name
names_task comment line name task l found end is at number text named =
    let whole = take-append-drop end line in
    let within = (position-Some (λ byte. byte == 32) line end 0 (sym is ∙ at)).0 in
    record {
      behind_mark = l.first;
      behind_word = l.second;
      number = take end line;
      text = drop end line;
      mark = l.mark;
      word = l.word;
      parts = subst (IsTrimAscii l.second) (sym whole) l.rest;
      first_space = ap first_space whole ∙ sym is ∙ at ∙ ap Some (sym (length-take-le end line (omega (arith, within))));
      is_number = number;
      is_text = text;
      is_name = named;
    }

-- bytes that are refused are no text
pub no_text : {A E : Type 0} (P : A → Type 0) (Q : E → Type 0) (bytes : List ℕ) (r : Result A E)
    → MatchResult r P (λ e. (IsUtf8 bytes → ⊥) × Q e) → false ≡ is_ok r → IsUtf8 bytes → ⊥
no_text P Q bytes (Ok x) h is n = true≢false (sym is)
no_text P Q bytes (Err e) h is n = h.0 n

-- what a result has, where it is this
pub at_ok : {A E : Type 0} (P : A → Type 0) (Q : E → Type 0) (r : Result A E) (x : A) → MatchResult r P Q → Some x ≡ result_ok r → P x
at_ok P Q (Ok y) x h is = subst P (sym (same_Some x y is)) h
at_ok P Q (Err e) x h is = absurd (none-some x (sym is))

-- the line, as it is come to
pub is_line : (comment t first u second line : List ℕ) → IsTrimAscii comment t
    → pointwise nat_eq (take 1 t) (codes "#") ≡ true → first ≡ drop 1 t → IsTrimAscii first u
    → pointwise nat_eq (take 5 u) (codes "task ") ≡ true → second ≡ drop 5 u → IsTrimAscii second line
    → IsLine comment line
is_line comment t first u second line trimmed begins behind trimmed_again shows rest last = record {
  first = first;
  second = second;
  mark = subst (IsTrimAscii comment) (cut_off (codes "#") t first begins behind) trimmed;
  word = subst (IsTrimAscii first) (cut_off (codes "task ") u second shows rest) trimmed_again;
  rest = last;
}

-- a comment without the mark names no task
pub no_mark : (comment t name : List ℕ) (task : ℕ) → IsTrimAscii comment t → pointwise nat_eq (take 1 t) (codes "#") ≡ false
    → IsNaming comment task name
    → ⊥
no_mark comment t name task trimmed not_there n =
    let begins : true ≡ pointwise nat_eq (take 1 t) (codes "#") =
    ap (λ s. pointwise nat_eq (take 1 s) (codes "#")) (one_trim comment _ t n.mark trimmed) in
    true≢false (begins ∙ not_there)

-- a comment without the word names no task
pub no_word : (comment t first u name : List ℕ) (task : ℕ) → IsTrimAscii comment t
    → pointwise nat_eq (take 1 t) (codes "#") ≡ true → first ≡ drop 1 t → IsTrimAscii first u
    → pointwise nat_eq (take 5 u) (codes "task ") ≡ false → IsNaming comment task name
    → ⊥
no_word comment t first u name task trimmed begins behind trimmed_again not_there n =
    let mark = subst (IsTrimAscii comment) (cut_off (codes "#") t first begins behind) trimmed in
    let word = subst (λ s. IsTrimAscii s (codes "task " ++ n.behind_word)) (mark_is comment first name task mark n) n.word in
    let shows : true ≡ pointwise nat_eq (take 5 u) (codes "task ") =
    ap (λ s. pointwise nat_eq (take 5 s) (codes "task ")) (one_trim first _ u word trimmed_again) in
    true≢false (shows ∙ not_there)

-- a comment names one task, and gives it one name
pub one_naming : (comment : List ℕ) (t u : ℕ) (a b : List ℕ) → IsNaming comment t a → IsNaming comment u b → (t ≡ u) × (a ≡ b)
one_naming comment t u a b n m =
    let line : IsLine comment (n.number ++ n.text) =
    record { first = n.behind_mark; second = n.behind_word; mark = n.mark; word = n.word; rest = n.parts } in
    let number =
    sym (before_end n.number n.text) ∙ number_is comment (n.number ++ n.text) b u line m _ (length n.number) refl n.first_space in
    let text =
    sym (behind_end n.number n.text) ∙ text_is comment (n.number ++ n.text) b u line m _ (length n.number) refl n.first_space in (
      same_Some t u (sym n.is_number ∙ ap task_number number ∙ m.is_number),
      n.is_name ∙ ap trim text ∙ sym m.is_name,
    )
