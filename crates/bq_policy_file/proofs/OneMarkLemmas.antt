-- Of the lines of a text one mark is the first that is refused, for one cause.
use Rattle.std.proofs.Common.{◌≡◌, ℕ, ◌+◌, ◌<◌, List, [], ◌∷◌, ◌++◌, length, true, false, Some, None, Option, inl, inr, refl, sym, ap, subst, ◌∙◌, arith, Global, is_some}
use Rattle.std.proofs.lemmas.Bool.{cases_lt}
use Rattle.std.specs.Str.{bytes_eq}
use Rattle.std.specs.declared.vec.Vec.{Vec}
use Rattle.bq_bpf.specs.declared.shape.MapShape.{MapShape}
use Rattle.bq_policy_file.specs.declared.fault.HeadCause.{HeadCause}
use Rattle.bq_policy_file.specs.declared.fault.HeadCause.TheVariants as cause
use Rattle.bq_policy_file.specs.declared.head.Head.{Head}
use Rattle.bq_policy_file.specs.declared.mark.Key.{Key}
use Rattle.bq_policy_file.specs.declared.mark.Key.TheVariants as key
use Rattle.bq_policy_file.specs.Files.{shapes_in}
use Rattle.bq_policy_file.specs.Heads.{HasKey, IsBadAt, IsBadLine, StatesHead}
use Rattle.bq_policy_file.specs.Marks.{are_known, key_word, mark_words}
use Rattle.bq_policy_file.proofs.NoFaultLemmas.{no_bad_line}
use Rattle.bq_policy_file.proofs.OneHeadLemmas.{one_format, one_hook, one_maps}

-- a key is determined by its word
other_word : (a b : Key) → bytes_eq (key_word a) (key_word b) ≡ false → bytes_eq (key_word b) (key_word b) ≡ true
    → key_word a ≡ key_word b
    → ⊥
other_word a b apart own e = let same = ap (λ w. bytes_eq w (key_word b)) e in cc

-- keys that have the same word are the same
one_key : (a b : Key) → key_word a ≡ key_word b → a ≡ b
one_key key.Hook key.Hook e = refl
one_key key.Hook key.Maps e = absurd (other_word key.Hook key.Maps refl refl e)
one_key key.Hook key.Format e = absurd (other_word key.Hook key.Format refl refl e)
one_key key.Maps key.Hook e = absurd (other_word key.Maps key.Hook refl refl e)
one_key key.Maps key.Maps e = refl
one_key key.Maps key.Format e = absurd (other_word key.Maps key.Format refl refl e)
one_key key.Format key.Hook e = absurd (other_word key.Format key.Hook refl refl e)
one_key key.Format key.Maps e = absurd (other_word key.Format key.Maps refl refl e)
one_key key.Format key.Format e = refl

-- a line says one key
one_stated_key : (a b : Key) (line v w : List ℕ) → mark_words line ≡ Some (key_word a ∷ v ∷ [])
    → mark_words line ≡ Some (key_word b ∷ w ∷ [])
    → a ≡ b
one_stated_key a b line v w p q = one_key a b (cc)

-- a mark of a key and one word is known
known_key : (k : Key) (word : List ℕ) → are_known (Some (key_word k ∷ word ∷ [])) ≡ true
known_key key.Hook word = refl
known_key key.Maps word = refl
known_key key.Format word = refl

-- a line that says a key is known
not_unknown : (k : Key) (line word : List ℕ) → mark_words line ≡ Some (key_word k ∷ word ∷ []) → are_known (mark_words line) ≡ false → ⊥
not_unknown k line word is unknown = let known : are_known (mark_words line) ≡ true = ap are_known is ∙ known_key k word in cc

-- shapes are named exactly where maps are
some_in : (maps : Option (Vec MapShape Global)) → is_some (shapes_in maps) ≡ is_some maps
some_in None = refl
some_in (Some maps) = refl

-- two heads that the same lines say have the same keys
same_key : (ls : List (List ℕ)) (a b : Head) (k : Key) → StatesHead ls a → StatesHead ls b → HasKey a k → HasKey b k
same_key ls a b key.Hook s t has = subst (λ x. is_some x ≡ true) (one_hook ls a b s t) has
same_key ls a b key.Maps s t has = sym (some_in b.maps) ∙ sym (ap (λ x. is_some x) (one_maps ls a b s t)) ∙ some_in a.maps ∙ has
same_key ls a b key.Format s t has = subst (λ x. is_some x ≡ true) (one_format ls a b s t) has

-- a key is not both there and not
one_cause : (ls : List (List ℕ)) (a b : Head) (line : List ℕ) (c d : HeadCause)
    → StatesHead ls a → StatesHead ls b → IsBadLine a line c → IsBadLine b line d → c ≡ d
one_cause ls a b line cause.Unknown cause.Unknown s t f g = refl
one_cause ls a b line cause.Unknown (cause.Value l) s t f g = absurd (not_unknown l line g.0 g.1 f)
one_cause ls a b line cause.Unknown (cause.Twice l) s t f g = absurd (not_unknown l line g.0 g.1 f)
one_cause ls a b line (cause.Value k) cause.Unknown s t f g = absurd (not_unknown k line f.0 f.1 g)
one_cause ls a b line (cause.Twice k) cause.Unknown s t f g = absurd (not_unknown k line f.0 f.1 g)
one_cause ls a b line (cause.Value k) (cause.Value l) s t f g = ap (λ n. cause.Value n) (one_stated_key k l line f.0 g.0 f.1 g.1)
one_cause ls a b line (cause.Twice k) (cause.Twice l) s t f g = ap (λ n. cause.Twice n) (one_stated_key k l line f.0 g.0 f.1 g.1)
one_cause ls a b line (cause.Value k) (cause.Twice l) s t f g =
    absurd (f.3 (same_key ls b a k t s (subst (HasKey b) (one_stated_key l k line g.0 f.0 g.1 f.1) g.2)))
one_cause ls a b line (cause.Twice k) (cause.Value l) s t f g =
    absurd (g.3 (same_key ls a b l s t (subst (HasKey a) (one_stated_key k l line f.0 g.0 f.1 g.1) f.2)))

-- of two beginnings of a list the longer has the other, and the element after it
within : (xs ys : List (List ℕ)) (x : List ℕ) (us vs : List (List ℕ))
    → xs ++ x ∷ us ≡ ys ++ vs → length xs < length ys → (mid : List (List ℕ)) × (ys ≡ xs ++ x ∷ mid)
within [] [] x us vs e less = absurd (omega (arith, less))
within [] (y ∷ ys) x us vs e less = let same : x ≡ y = cc in (ys, ap (λ z. z ∷ ys) (sym same))
within (z ∷ xs) [] x us vs e less = absurd (omega (arith, less))
within (z ∷ xs) (y ∷ ys) x us vs e less =
    let first : z ≡ y = cc in
    let rest : xs ++ x ∷ us ≡ ys ++ vs = cc in
    let later = within xs ys x us vs rest (omega (arith, less)) in
    (later.0, λ i. sym first i ∷ later.1 i)

-- two of one length are the same, and so is the element after them
same_front : (xs ys : List (List ℕ)) (x y : List ℕ) (us vs : List (List ℕ))
    → xs ++ x ∷ us ≡ ys ++ y ∷ vs → length xs ≡ length ys → (xs ≡ ys) × (x ≡ y)
same_front [] [] x y us vs e same = (refl, cc)
same_front [] (b ∷ ys) x y us vs e same = absurd (omega (arith, same))
same_front (a ∷ xs) [] x y us vs e same = absurd (omega (arith, same))
same_front (a ∷ xs) (b ∷ ys) x y us vs e same =
    let first : a ≡ b = cc in
    let rest : xs ++ x ∷ us ≡ ys ++ y ∷ vs = cc in
    let later = same_front xs ys x y us vs rest (omega (arith, same)) in
    (λ i. first i ∷ later.0 i, later.1)

-- no bad line stands before another
earlier : (ls : List (List ℕ)) (m n : ℕ) (c d : HeadCause) (b : IsBadAt ls m c) (e : IsBadAt ls n d) → length b.before < length e.before → ⊥
earlier ls m n c d b e less =
    let found = within b.before e.before b.line b.rest (e.line ∷ e.rest) (sym b.lines_are ∙ e.lines_are) less in
    no_bad_line e.before e.head m c e.stated (record {
      before = b.before;
      line = b.line;
      rest = found.0;
      lines_are = found.1;
      number_is = b.number_is;
      head = b.head;
      stated = b.stated;
      bad = b.bad;
    })

-- two bad lines after as many are one, with one cause
at_one_place : (ls : List (List ℕ)) (m n : ℕ) (c d : HeadCause) (b : IsBadAt ls m c) (e : IsBadAt ls n d)
    → length b.before ≡ length e.before → (m ≡ n) × (c ≡ d)
at_one_place ls m n c d b e same =
    let front = same_front b.before e.before b.line e.line b.rest e.rest (sym b.lines_are ∙ e.lines_are) same in
    let stated : StatesHead e.before b.head = subst (λ l. StatesHead l b.head) front.0 b.stated in
    let bad : IsBadLine b.head e.line c = subst (λ l. IsBadLine b.head l c) front.1 b.bad in
    (b.number_is ∙ ap (λ k. k + 1) same ∙ sym e.number_is, one_cause e.before b.head e.head e.line c d stated e.stated bad e.bad)

-- lines have one bad line at most, with one cause
pub one_bad_line : (ls : List (List ℕ)) (m n : ℕ) (c d : HeadCause) → IsBadAt ls m c → IsBadAt ls n d → (m ≡ n) × (c ≡ d)
one_bad_line ls m n c d b e =
    elim (cases_lt (length b.before) (length e.before)) [
      | inl less ↦ absurd (earlier ls m n c d b e less)
      | inr more ↦
          elim (cases_lt (length e.before) (length b.before)) [
            | inl less ↦ absurd (earlier ls n m d c e b less)
            | inr few ↦ at_one_place ls m n c d b e (omega (arith, more, few))
          ]
    ]
