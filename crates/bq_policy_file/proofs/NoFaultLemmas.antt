-- Lines that say a head have no line that is refused.
use Rattle.std.proofs.Common.{◌≡◌, ℕ, List, [], ◌∷◌, ◌++◌, true, false, Some, None, Option, refl, sym, ap, subst, ◌∙◌}
use Rattle.std.specs.Prelude.{IsSome}
use Rattle.std.specs.List.{list_all}
use Rattle.std.proofs.lemmas.Bool.{and_parts}
use Rattle.std.proofs.lemmas.Grind.{flat_map-append}
use Rattle.std.proofs.lemmas.List.Folds.{list_all-append}
use Rattle.bq_bpf.specs.declared.shape.MapShape.{MapShape}
use Rattle.bq_hooks.specs.Hooks.{hook_of, version_of}
use Rattle.bq_hooks.specs.declared.hook.Hook.{Hook}
use Rattle.bq_hooks.specs.declared.hook.Version.{Version}
use Rattle.bq_policy_file.specs.declared.fault.HeadCause.{HeadCause}
use Rattle.bq_policy_file.specs.declared.fault.HeadCause.TheVariants as cause
use Rattle.bq_policy_file.specs.declared.head.Head.{Head}
use Rattle.bq_policy_file.specs.declared.mark.Key.{Key}
use Rattle.bq_policy_file.specs.declared.mark.Key.TheVariants as key
use Rattle.bq_policy_file.specs.Files.{Differ, DiffersIn, shapes_in}
use Rattle.bq_policy_file.specs.Heads.{IsBadAt, IsBadLine, IsStated, NamesMapShapes, StatesHead}
use Rattle.bq_policy_file.specs.Marks.{are_known, key_word, mark_words, value_in, values}
use Rattle.bq_policy_file.specs.ReadBack.{AsksNothing}

-- of words one of which stands there, it is the only one and stands for a value
stated_has : {A : Type 0} (P : List ℕ → A → Type 0) (before rest : List (List ℕ)) (word : List ℕ) (x : Option A)
    → IsStated P (before ++ word ∷ rest) x → (value : A) × P word value × (before ≡ [])
stated_has P [] [] word (Some v) h = (v, h, refl)
stated_has P [] [] word None h = absurd h
stated_has P [] (r ∷ rest) word x h = absurd h
stated_has P (b ∷ []) rest word x h = absurd h
stated_has P (b ∷ c ∷ before) rest word x h = absurd h

-- the value of a key in a line that says it is the word behind it
own_value : (k : Key) (word : List ℕ) → value_in (key_word k) (Some (key_word k ∷ word ∷ [])) ≡ word ∷ []
own_value key.Hook word = refl
own_value key.Maps word = refl
own_value key.Format word = refl

-- what the lines say of a key, where one of them says a word of it
values_at : (key : Key) (before rest : List (List ℕ)) (line word : List ℕ)
    → mark_words line ≡ Some (key_word key ∷ word ∷ [])
    → values key (before ++ line ∷ rest) ≡ values key before ++ word ∷ values key rest
values_at k before rest line word is =
    flat_map-append (λ l. value_in (key_word k) (mark_words l)) before (line ∷ rest)
    ∙ ap (λ m. values k before ++ (value_in (key_word k) m ++ values k rest)) is
    ∙ ap (λ ws. values k before ++ (ws ++ values k rest)) (own_value k word)

-- what is known of the value of a key, at a line that says it
abbrev IsAlone : {A : Type 0} → (List ℕ → A → Type 0) → List ℕ → List (List ℕ) → Type 0
IsAlone {A} P word before = (value : A) × P word value × (before ≡ [])

-- where a line says a key of a head, its word names the value, and no line before says that key
alone : {A : Type 0} (P : List ℕ → A → Type 0) (key : Key) (before rest : List (List ℕ)) (line word : List ℕ) (x : Option A)
    → mark_words line ≡ Some (key_word key ∷ word ∷ []) → IsStated P (values key (before ++ line ∷ rest)) x
    → IsAlone P word (values key before)
alone P key before rest line word x is h =
    stated_has P (values key before) (values key rest) word x
    (subst (λ ws. IsStated P ws x) (values_at key before rest line word is) h)

-- nothing is known of a key of which nothing is said
not_known : {A : Type 0} (P : List ℕ → A → Type 0) (ws : List (List ℕ)) (x : Option A) → ws ≡ [] → IsStated P ws x → IsSome x → ⊥
not_known P ws None e h some = absurd (let no : false ≡ true = some in cc)
not_known P ws (Some v) e h some = subst (λ us. IsStated P us (Some v)) e h

-- where the marks of all lines are known the mark of each is
known_at : (before rest : List (List ℕ)) (line : List ℕ) → list_all (λ l. are_known (mark_words l)) (before ++ line ∷ rest) ≡ true
    → are_known (mark_words line) ≡ true
known_at before rest line h =
    let known = λ (l : List ℕ). are_known (mark_words l) in
    let parts = and_parts (list_all known before) (list_all known (line ∷ rest)) (sym (list_all-append known before (line ∷ rest)) ∙ h) in
    (and_parts (known line) (list_all known rest) parts.1).0

-- where all lines say a head no line is bad after those before it
bad_line : (head after : Head) (before rest : List (List ℕ)) (line : List ℕ) (named : HeadCause)
    → StatesHead (before ++ line ∷ rest) head → StatesHead before after → IsBadLine after line named → ⊥
bad_line head after before rest line cause.Unknown s t bad =
    let known = known_at before rest line s.known in let other : are_known (mark_words line) ≡ false = bad in cc
bad_line head after before rest line (cause.Value key.Hook) s t bad =
    let one = alone (λ word hook. hook_of word ≡ Some hook) key.Hook before rest line bad.0 head.hook bad.1 s.hook in
    let none : hook_of bad.0 ≡ None = bad.2 in
    let some = one.1 in
    cc
bad_line head after before rest line (cause.Value key.Maps) s t bad =
    let one = alone NamesMapShapes key.Maps before rest line bad.0 head.maps bad.1 s.maps in
    bad.2 one.0.items one.1
bad_line head after before rest line (cause.Value key.Format) s t bad =
    let one = alone (λ word version. version_of word ≡ Some version) key.Format before rest line bad.0 head.format bad.1 s.format in
    let none : version_of bad.0 ≡ None = bad.2 in
    let some = one.1 in
    cc
bad_line head after before rest line (cause.Twice key.Hook) s t bad =
    let one = alone (λ word hook. hook_of word ≡ Some hook) key.Hook before rest line bad.0 head.hook bad.1 s.hook in
    not_known (λ word hook. hook_of word ≡ Some hook) (values key.Hook before) after.hook one.2 t.hook bad.2
bad_line head after before rest line (cause.Twice key.Maps) s t bad =
    let one = alone NamesMapShapes key.Maps before rest line bad.0 head.maps bad.1 s.maps in
    not_known NamesMapShapes (values key.Maps before) after.maps one.2 t.maps bad.2
bad_line head after before rest line (cause.Twice key.Format) s t bad =
    let one = alone (λ word version. version_of word ≡ Some version) key.Format before rest line bad.0 head.format bad.1 s.format in
    not_known (λ word version. version_of word ≡ Some version) (values key.Format before) after.format one.2 t.format bad.2

-- lines that say a head have no bad one
pub no_bad_line : (ls : List (List ℕ)) (head : Head) (number : ℕ) (named : HeadCause) → StatesHead ls head → IsBadAt ls number named → ⊥
no_bad_line ls head number named s bad =
    bad_line head bad.head bad.before bad.rest bad.line named
    (subst (λ l. StatesHead l head) bad.lines_are s) bad.stated bad.bad

-- nothing that is asked for differs
pub nothing_differs : (h : Head) (key : Key) (hook : Option Hook) (maps : Option (List MapShape)) (format : Option Version)
    → AsksNothing h → DiffersIn key h hook maps format → ⊥
nothing_differs h key.Hook hook maps format a d = subst (λ x. Differ x hook) a.hook d
nothing_differs h key.Maps hook maps format a d = subst (λ x. Differ (shapes_in x) maps) a.maps d.1
nothing_differs h key.Format hook maps format a d = subst (λ x. Differ x format) a.format d.2
