-- Tasks that words name, part by part and number by number, and moments that run backwards.
use Rattle.std.proofs.Common.{◌≡◌, ℕ, suc, ◌+◌, ◌-◌, ◌<◌, ◌≤◌, List, [], ◌∷◌, ◌++◌, refl, sym, ap, ◌∙◌, append_assoc, append-nil, arith, Some, None, Option, true}
use Rattle.std.specs.Prelude.{option_and_then, option_map}
use Rattle.std.specs.List.{range_with_len, slice_split}
use Rattle.bq_words.specs.ProcessorSets.{is_comma}
use Rattle.bq_timeline.specs.Settings.{AddsPart, RunBackwards, from_asked, is_name, tasks_in_parts, tasks_of_part, to_asked}
use Rattle.bq_timeline.specs.declared.settings.ShownWords.{ShownWords}

-- a range begins with its first number
range_next : (next last : ℕ) → next ≤ last
    → range_with_len next (last + 1 - next) ≡ next ∷ range_with_len (next + 1) (last + 1 - (next + 1))
range_next next last h =
    let count : last + 1 - next ≡ suc (last + 1 - (next + 1)) = omega (arith, h) in
    ap (λ n. range_with_len next n) count

-- the first number of a range is taken, and the others are left
pub range_on : (all old new : List ℕ) (next last : ℕ) → next < last → old ++ range_with_len next (last + 1 - next) ≡ all
    → new ≡ old ++ next ∷ []
    → new ++ range_with_len (next + 1) (last + 1 - (next + 1)) ≡ all
range_on all old new next last h so_far e =
    let rest = range_with_len (next + 1) (last + 1 - (next + 1)) in
    ap (λ l. l ++ rest) e ∙ append_assoc old (next ∷ []) rest ∙ ap (λ l. old ++ l) (sym (range_next next last (omega (arith, h)))) ∙ so_far

-- the only number of a range is taken
pub range_done : (all old new : List ℕ) (next last : ℕ) → next ≡ last → old ++ range_with_len next (last + 1 - next) ≡ all
    → new ≡ old ++ last ∷ []
    → new ≡ all
range_done all old new next last same so_far e =
    let none : last + 1 - (next + 1) ≡ 0 = omega (arith, same) in
    let one : range_with_len next (last + 1 - next) ≡ last ∷ [] =
    range_next next last (omega (arith, same)) ∙ ap (λ n. next ∷ range_with_len (next + 1) n) none ∙ ap (λ k. k ∷ []) same in
    e ∙ ap (λ l. old ++ l) (sym one) ∙ so_far

-- tasks before those that stand before others
map_join : (old some new : List ℕ) (o : Option (List ℕ)) → new ≡ old ++ some
    → option_map (λ more. new ++ more) o ≡ option_map (λ more. old ++ more) (option_map (λ more. some ++ more) o)
map_join old some new None e = refl
map_join old some new (Some more) e = ap (λ l. Some (l ++ more)) e ∙ ap (λ l. Some l) (append_assoc old some more)

-- the tasks of a part and those of the parts behind it
parts_in : (rest part : List ℕ) (parts : List (List ℕ)) (o : Option (List ℕ))
    → slice_split is_comma rest ≡ part ∷ parts → tasks_of_part part ≡ o
    → tasks_in_parts (slice_split is_comma rest) ≡ option_and_then (λ some. option_map (λ more. some ++ more) (tasks_in_parts parts)) o
parts_in rest part parts o split e =
    ap (λ ps. tasks_in_parts ps) split ∙ ap (λ p. option_and_then (λ some. option_map (λ more. some ++ more) (tasks_in_parts parts)) p) e

-- a part's tasks are added, and the parts behind it are left
pub tasks_on : (old new rest part more : List ℕ) (word : Option (List ℕ))
    → slice_split is_comma rest ≡ part ∷ slice_split is_comma more → AddsPart part old new
    → option_map (λ l. old ++ l) (tasks_in_parts (slice_split is_comma rest)) ≡ word
    → option_map (λ l. new ++ l) (tasks_in_parts (slice_split is_comma more)) ≡ word
tasks_on old new rest part more word split adds so_far =
    map_join old adds.0 new (tasks_in_parts (slice_split is_comma more)) adds.2
    ∙ ap (λ o. option_map (λ l. old ++ l) o) (sym (parts_in rest part (slice_split is_comma more) (Some adds.0) split adds.1))
    ∙ so_far

-- a part names no tasks, so the word names none
pub tasks_none : (old rest part : List ℕ) (parts : List (List ℕ)) (word : Option (List ℕ))
    → slice_split is_comma rest ≡ part ∷ parts → tasks_of_part part ≡ None
    → option_map (λ l. old ++ l) (tasks_in_parts (slice_split is_comma rest)) ≡ word
    → None ≡ word
tasks_none old rest part parts word split none so_far =
    ap (λ o. option_map (λ l. old ++ l) o) (sym (parts_in rest part parts None split none)) ∙ so_far

-- the last part's tasks are added
pub tasks_done : (old new rest : List ℕ) (word : Option (List ℕ))
    → slice_split is_comma rest ≡ rest ∷ [] → AddsPart rest old new
    → option_map (λ l. old ++ l) (tasks_in_parts (slice_split is_comma rest)) ≡ word
    → Some new ≡ word
tasks_done old new rest word split adds so_far =
    ap (λ l. Some l) (adds.2 ∙ ap (λ l. old ++ l) (sym (append-nil adds.0)))
    ∙ ap (λ o. option_map (λ l. old ++ l) o) (sym (parts_in rest rest [] (Some adds.0) split adds.1)) ∙ so_far

-- a name adds no task by its number
pub name_adds : (part old : List ℕ) → is_name part ≡ true → AddsPart part old old
name_adds part old name = ([], rw name refl, sym (append-nil old))

-- the last moment that the words name is before the first
pub runs_backwards : (w : ShownWords) (from to : ℕ) → from_asked w ≡ Some from → to_asked w ≡ Some to → to < from → RunBackwards w
runs_backwards w from to first last h = (from, to, first, last, h)
