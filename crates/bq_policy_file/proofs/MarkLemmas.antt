-- The marks of a policy, line by line, and the head that they say.
use Rattle.std.proofs.Common.{◌≡◌, ℕ, ◌^◌, ◌<◌, ◌≤◌, List, [], ◌∷◌, ◌++◌, length, map, Bool, true, false, Some, None, Option, refl, sym, ap, subst, ◌∙◌, arith, append_assoc, append-nil, Global}
use Rattle.std.specs.Prelude.{nat_le, ◌&&◌, ◌||◌, not, codes, replicate}
use Rattle.std.specs.List.{AllByRecursion, list_all}
use Rattle.std.specs.Option.{ForSome}
use Rattle.std.specs.Fmt.{decimal}
use Rattle.std.specs.declared.vec.Vec.{Vec}
use Rattle.std.proofs.lemmas.Bool.{and_parts, leb-true, lt-ltb, ne_eqb, not-true}
use Rattle.std.proofs.lemmas.Grind.{flat_map-append}
use Rattle.std.proofs.lemmas.List.{length-append}
use Rattle.std.proofs.lemmas.List.Elements.{All-from_recursion}
use Rattle.bq_bpf.specs.declared.shape.MapShape.{MapShape}
use Rattle.bq_policy_file.specs.ShapesText.{NamesShapes}
use Rattle.bq_hooks.specs.Hooks.{hook_word}
use Rattle.bq_hooks.specs.declared.hook.Hook.{Hook}
use Rattle.bq_hooks.specs.declared.hook.Hook.TheVariants.{Place, Preempt, Pull}
use Rattle.bq_hooks.specs.declared.hook.Version.{Version}
use Rattle.bq_hooks.specs.declared.hook.Version.TheVariants.{First, Second}
use Rattle.bq_hooks.proofs.HookLemmas.{hook_of-hook_word}
use Rattle.bq_words.specs.Words.{is_space, words}
use Rattle.bq_words.proofs.WordLemmas.{words-blank, words-word}
use Rattle.bq_asm.specs.Lines.{Blank, parsed_line}
use Rattle.bq_asm.proofs.DigitLemmas.{is_digit, list_all-append, list_all-weaker, decimal_digits}
use Rattle.bq_policy_file.specs.declared.head.Head.{Head}
use Rattle.bq_policy_file.specs.declared.mark.Key.TheVariants as key
use Rattle.bq_policy_file.specs.declared.policy_source.PolicySource.{PolicySource}
use Rattle.bq_policy_file.specs.Heads.{StatesHead}
use Rattle.bq_policy_file.specs.Marks.{key_word, mark_words}
use Rattle.bq_policy_file.proofs.HeadLemmas.{states_nothing, states_mark, states_no_mark}
use Rattle.bq_policy_file.specs.MarkLines.{AreMarks, shape_text, more_maps, maps_mark, format_mark}
use Rattle.bq_asm.proofs.ListingLemmas.{is_line_byte}
use Rattle.bq_policy_file.proofs.LineLemmas.{AreClean, ended}
use Rattle.bq_policy_file.proofs.ShapeLemmas.{names_shapes, shapes_text}

-- the mark that says the hook
abbrev pub hook_line : Hook → List ℕ
hook_line h = codes ";@ hook " ++ hook_word h

-- the mark that says the maps, if there are some
abbrev pub maps_lines : List MapShape → List (List ℕ)
maps_lines [] = []
maps_lines (first ∷ rest) = (codes ";@ maps " ++ shapes_text first rest) ∷ []

-- the mark that says the version, if it is the second
abbrev pub format_lines : Version → List (List ℕ)
format_lines First = []
format_lines Second = codes ";@ format 2" ∷ []

-- all marks of a policy, in order
abbrev pub mark_lines : Hook → List MapShape → Version → List (List ℕ)
mark_lines h shapes v = hook_line h ∷ (maps_lines shapes ++ format_lines v)

-- the marks of maps and of the format are their lines, each ended:
maps_ended : (shapes : List MapShape) → maps_mark shapes ≡ ended (maps_lines shapes)
maps_ended [] = refl
maps_ended (first ∷ rest) =
    let size = decimal first.value_size in
    let entries = decimal first.entries in
    let more = more_maps rest in
    let whole : size ++ (58 ∷ (entries ++ (more ++ codes "\n"))) ≡ shapes_text first rest ++ codes "\n" =
    ap (λ t. size ++ 58 ∷ t) (sym (append_assoc entries more (codes "\n")))
    ∙ sym (append_assoc size (58 ∷ (entries ++ more)) (codes "\n"))
    ∙ ap (λ t. t ++ codes "\n") (sym (append_assoc size (58 ∷ entries) more)) in
    ap (λ t. codes ";@ maps " ++ t) whole ∙ sym (append-nil (codes ";@ maps " ++ (shapes_text first rest ++ codes "\n")))

format_ended : (v : Version) → format_mark v ≡ ended (format_lines v)
format_ended First = refl
format_ended Second = refl

-- the marks are these lines
pub marks_ended : (p : PolicySource) (marks : List ℕ) → AreMarks p marks
    → marks ≡ ended (mark_lines p.form.hook p.form.shapes.items p.form.version)
marks_ended p marks are =
    let others : maps_mark p.form.shapes.items ++ format_mark p.form.version
    ≡ ended (maps_lines p.form.shapes.items ++ format_lines p.form.version) =
    (λ i. maps_ended p.form.shapes.items i ++ format_ended p.form.version i)
    ∙ sym (flat_map-append (λ l. l ++ 10 ∷ []) (maps_lines p.form.shapes.items) (format_lines p.form.version)) in
    are ∙ ap (λ t. codes ";@ hook " ++ (hook_word p.form.hook ++ (10 ∷ t))) others
    ∙ ap (λ t. codes ";@ hook " ++ t)
    (sym (append_assoc (hook_word p.form.hook) (10 ∷ []) (ended (maps_lines p.form.shapes.items ++ format_lines p.form.version))))

-- a byte of a word of a line
abbrev is_plain : ℕ → Bool
is_plain b = not (is_space b) && is_line_byte b

-- digits, and so numbers, are such bytes:
digit_plain : (b : ℕ) → is_digit b ≡ true → is_plain b ≡ true
digit_plain b h =
    let parts = and_parts (nat_le 48 b) (nat_le b 57) h in
    let low : 48 ≤ b = leb-true 48 b parts.0 in
    let high : b ≤ 57 = leb-true b 57 parts.1 in
    (λ i.
    not (ne_eqb b 32 (λ e. omega arith) i || ne_eqb b 9 (λ e. omega arith) i)
    && (lt-ltb b 128 (omega arith) i && (not (ne_eqb b 10 (λ e. omega arith) i) && not (ne_eqb b 13 (λ e. omega arith) i))))

decimal_plain : (n : ℕ) → n < 2 ^ 64 → list_all is_plain (decimal n) ≡ true
decimal_plain n h = list_all-weaker is_digit is_plain digit_plain (decimal n) (decimal_digits n h)

-- the texts of shapes, one or several, are of such bytes:
shape_plain : (s : MapShape) → list_all is_plain (shape_text s) ≡ true
shape_plain s =
    list_all-append is_plain (decimal s.value_size) (58 ∷ decimal s.entries)
    (decimal_plain s.value_size (omega (arith, s.greatest_size)))
    (decimal_plain s.entries (omega (arith, s.greatest_entries)))

more_plain : (shapes : List MapShape) → list_all is_plain (more_maps shapes) ≡ true
more_plain [] = refl
more_plain (s ∷ shapes) = list_all-append is_plain (shape_text s) (more_maps shapes) (shape_plain s) (more_plain shapes)

text_plain : (first : MapShape) (rest : List MapShape) → list_all is_plain (shapes_text first rest) ≡ true
text_plain first rest = list_all-append is_plain (shape_text first) (more_maps rest) (shape_plain first) (more_plain rest)

-- a word of such bytes has no blank
no_blank : (w : List ℕ) → list_all is_plain w ≡ true → AllByRecursion (λ b. is_space b ≡ false) w
no_blank [] h = tt
no_blank (b ∷ w) h =
    let parts = and_parts (is_plain b) (list_all is_plain w) h in
    (not-true (is_space b) (and_parts (not (is_space b)) (is_line_byte b) parts.0).0, no_blank w parts.1)

-- the line of a hook is clean, and so are those of maps:
hook_clean : (h : Hook) → list_all is_line_byte (hook_line h) ≡ true
hook_clean Place = refl
hook_clean Preempt = refl
hook_clean Pull = refl

maps_clean : (shapes : List MapShape) → AreClean (maps_lines shapes)
maps_clean [] = tt
maps_clean (first ∷ rest) = (
  list_all-weaker is_plain is_line_byte (λ b k. (and_parts (not (is_space b)) (is_line_byte b) k).1) (shapes_text first rest)
      (text_plain first rest),
  tt,
)

-- the lines of marks are clean
pub marks_clean : (h : Hook) (shapes : List MapShape) (v : Version) → AreClean (mark_lines h shapes v)
marks_clean h [] First = (hook_clean h, tt)
marks_clean h [] Second = (hook_clean h, (refl, tt))
marks_clean h (first ∷ rest) First = (hook_clean h, maps_clean (first ∷ rest))
marks_clean h (first ∷ rest) Second = (hook_clean h, ((maps_clean (first ∷ rest)).0, (refl, tt)))

-- to the assembler they are comments
pub marks_blank : (h : Hook) (shapes : List MapShape) (v : Version)
    → (n : ℕ) × (map parsed_line (mark_lines h shapes v) ≡ replicate n Blank)
marks_blank h [] First = (1, refl)
marks_blank h [] Second = (2, refl)
marks_blank h (first ∷ rest) First = (2, refl)
marks_blank h (first ∷ rest) Second = (3, refl)

-- the line of a hook says the hook's word
hook_states : (h : Hook) → mark_words (hook_line h) ≡ Some (key_word key.Hook ∷ hook_word h ∷ [])
hook_states Place = refl
hook_states Preempt = refl
hook_states Pull = refl

-- the text of shapes is not empty
text_some : (first : MapShape) (rest : List MapShape) → 0 < length (shapes_text first rest)
text_some first rest =
    let size = decimal first.value_size in
    let entries = decimal first.entries in
    omega (arith, length-append (size ++ 58 ∷ entries) (more_maps rest), length-append size (58 ∷ entries))

-- the line of maps says the text of their shapes
maps_state : (first : MapShape) (rest : List MapShape)
    → mark_words (codes ";@ maps " ++ shapes_text first rest) ≡ Some (key_word key.Maps ∷ shapes_text first rest ∷ [])
maps_state first rest =
    let t = shapes_text first rest in
    let some : 0 < length t = text_some first rest in
    let plain = All-from_recursion (λ b. is_space b ≡ false) t (no_blank t (text_plain first rest)) in
    ap (λ ws. Some ws) (words-blank is_space 32 (codes "maps " ++ t) refl
    ∙ words-word is_space (codes "maps") (32 ∷ t) (omega arith)
    (All-from_recursion (λ b. is_space b ≡ false) (codes "maps") (refl, (refl, (refl, (refl, tt))))) refl
    ∙ ap (λ ws. codes "maps" ∷ ws)
    (words-blank is_space 32 t refl ∙ ap words (sym (append-nil t)) ∙ words-word is_space t [] some plain tt))

-- what was said, and what one line more says
abbrev pub head_of : (h : Option Hook) (maps : Option (Vec MapShape Global)) (v : Option Version)
    → ForSome maps (λ shapes. length shapes.items ≤ 8) → Head
head_of h maps v few = record { hook = h; maps = maps; format = v; few = few }

-- the maps, if there are some
abbrev pub maps_stated : Vec MapShape Global → List MapShape → Option (Vec MapShape Global)
maps_stated shapes [] = None
maps_stated shapes (first ∷ rest) = Some shapes

-- the version, if it is the second
abbrev pub format_stated : Version → Option Version
format_stated First = None
format_stated Second = Some Second

-- if maps are said, they are at most eight
abbrev pub AreFew : Option (Vec MapShape Global) → Type 0
AreFew maps = ForSome maps (λ shapes. length shapes.items ≤ 8)

-- of maps that are not said there are not too many
pub AreFew-none : AreFew None
AreFew-none = λ shapes e. absurd (let none : None ≡ Some shapes = e in cc)

-- at most eight maps that are said are not too many
pub AreFew-some : (shapes : Vec MapShape Global) → length shapes.items ≤ 8 → AreFew (Some shapes)
AreFew-some shapes h = λ x e. let same : shapes ≡ x = cc in subst (λ (v : Vec MapShape Global). length v.items ≤ 8) same h

-- at most eight maps are not too many, whether they are said or not
pub AreFew-stated : (shapes : Vec MapShape Global) (items : List MapShape) → length shapes.items ≤ 8 → AreFew (maps_stated shapes items)
AreFew-stated shapes [] h = AreFew-none
AreFew-stated shapes (first ∷ rest) h = AreFew-some shapes h

-- the head that the marks say
abbrev pub stated_head : PolicySource → Head
stated_head p =
    head_of (Some p.form.hook) (maps_stated p.form.shapes p.form.shapes.items) (format_stated p.form.version)
    (AreFew-stated p.form.shapes p.form.shapes.items p.form.few)

-- the head before any line says something of it
begun : Head
begun = head_of None None None AreFew-none

-- the lines of marks say the head so far: first the hook, then the maps, and then the format:
states_hook : (h : Hook) (few : AreFew None) → StatesHead (hook_line h ∷ []) (head_of (Some h) None None few)
unfolding begun
states_hook h few =
    states_mark begun (head_of (Some h) None None few) key.Hook [] (hook_line h) (hook_word h)
    (h, refl, hook_of-hook_word h, refl, refl, refl) (hook_states h) (states_nothing begun refl refl refl)

states_maps : (h : Hook) (shapes : Vec MapShape Global) (items : List MapShape) (few : AreFew (maps_stated shapes items))
    → length items ≤ 8 → shapes.items ≡ items
    → StatesHead (hook_line h ∷ maps_lines items) (head_of (Some h) (maps_stated shapes items) None few)
states_maps h shapes [] few eight e = states_hook h few
states_maps h shapes (first ∷ rest) few eight e =
    let names : NamesShapes (shapes_text first rest) shapes.items =
    subst (NamesShapes (shapes_text first rest)) (sym e) (names_shapes first rest eight) in
    states_mark (head_of (Some h) None None AreFew-none) (head_of (Some h) (Some shapes) None few) key.Maps (hook_line h ∷ [])
    (codes ";@ maps " ++ shapes_text first rest) (shapes_text first rest) (shapes, refl, names, refl, refl, refl)
    (maps_state first rest) (states_hook h AreFew-none)

states_format : (h : Hook) (maps : Option (Vec MapShape Global)) (v : Version)
    (few : ForSome maps (λ shapes. length shapes.items ≤ 8)) (before : List (List ℕ))
    → StatesHead before (head_of (Some h) maps None few)
    → StatesHead (before ++ format_lines v) (head_of (Some h) maps (format_stated v) few)
states_format h maps First few before s = subst (λ ls. StatesHead ls (head_of (Some h) maps None few)) (sym (append-nil before)) s
states_format h maps Second few before s =
    states_mark (head_of (Some h) maps None few) (head_of (Some h) maps (Some Second) few) key.Format before
    (codes ";@ format 2") (codes "2") (Second, refl, refl, refl, refl, refl) refl s

-- lines that are no marks
abbrev pub AreNoMarks : List (List ℕ) → Type 0
AreNoMarks ls = AllByRecursion (λ l. mark_words l ≡ None) ls

-- lines that are no marks leave the head as it was said
states_others : (head : Head) (before others : List (List ℕ))
    → AreNoMarks others → StatesHead before head → StatesHead (before ++ others) head
states_others head before [] h s = subst (λ ls. StatesHead ls head) (sym (append-nil before)) s
states_others head before (l ∷ others) h s =
    subst (λ ls. StatesHead ls head) (append_assoc before (l ∷ []) others)
    (states_others head (before ++ l ∷ []) others h.1 (states_no_mark head before l h.0 s))

-- the marks of a policy, and lines that are none
pub states_policy : (p : PolicySource) (others : List (List ℕ))
    → AreNoMarks others
    → StatesHead (mark_lines p.form.hook p.form.shapes.items p.form.version ++ others) (stated_head p)
states_policy p others h =
    states_others (stated_head p) (mark_lines p.form.hook p.form.shapes.items p.form.version) others h
    (states_format p.form.hook (maps_stated p.form.shapes p.form.shapes.items) p.form.version
    (AreFew-stated p.form.shapes p.form.shapes.items p.form.few) (hook_line p.form.hook ∷ maps_lines p.form.shapes.items)
    (states_maps p.form.hook p.form.shapes p.form.shapes.items
    (AreFew-stated p.form.shapes p.form.shapes.items p.form.few) p.form.few refl))
