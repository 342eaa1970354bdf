-- The comments that name tasks: each is a line of a trace that says nothing.
use Rattle.std.proofs.Common.{◌≡◌, ◌+◌, ◌-◌, ◌*◌, ◌^◌, ◌<◌, ◌≤◌, ℕ, zero, suc, None, Bool, true, false, cond, ltb, List, [], ◌∷◌, ◌++◌, String, Global, length, map, take, get_or, refl, sym, ap, ◌∙◌, arith, codes, decimal, string_bytes, subst}
use Rattle.std.specs.Prelude.{◌==◌, filter}
use Rattle.std.specs.List.{AllByRecursion, list_all, range_with_len}
use Rattle.std.specs.Str.{IsUtf8, chars, chars_after, continuation_len, lead_bits}
use Rattle.std.proofs.lemmas.Bool.{and_parts}
use Rattle.std.proofs.lemmas.Bool.Decides.{nat_tests}
use Rattle.std.proofs.lemmas.List.{length-append, length-map, length-take, map-append, map_more}
use Rattle.std.proofs.lemmas.List.Elements.{All-from_recursion}
use Rattle.std.proofs.lemmas.List.Folds.{list_all-append}
use Rattle.std.proofs.lemmas.List.FromFn.{length-map-range_with_len}
use Rattle.std.proofs.lemmas.List.Splits.{slice_split_at}
use Rattle.std.proofs.lemmas.List.Sums.{sum_by-cons}
use Rattle.std.proofs.lemmas.Str.{IsUtf8-from_ascii, is_utf8-from_IsUtf8}
use Rattle.bq_workload.specs.declared.workload.TaskKind.{TaskKind}
use Rattle.bq_workload.specs.declared.workload.Workload.{Workload}
use Rattle.bq_workload.specs.Kinds.{tasks_in}
use Rattle.bq_workload.specs.Soundness.{first_flaw}
use Rattle.bq_workload.proofs.SoundLemmas.{sound-few, sound-named}
use Rattle.bq_report.specs.Names.{Learns, NamedTasks}
use Rattle.bq_timeline.specs.Comments.{ViewerRests}
use Rattle.bq_timeline.specs.declared.viewer.Viewer.{Viewer}
use Rattle.bq_lines.specs.Bytes.{is_allowed}
use Rattle.bq_lines.specs.Lines.{reading_of, reading_of_words}
use Rattle.bq_lines.specs.declared.command.LineReading.TheVariants as reads
use Rattle.bq_simulate.proofs.LineLawLemmas.{allowed_whole}
use Rattle.bq_simulate.proofs.NumberWordLemmas.{plain_decimal, short_decimal}
use Rattle.bq_simulate.proofs.PlainWordLemmas.{allowed-spaced}
use Rattle.bq_simulate.specs.Replays.{IsComment}
use Rattle.bq_simulate.specs.Texts.{ByHook, reported_lines}
use Rattle.bq_words.specs.Words.{is_space, words}
use Rattle.bq_experiment.specs.Names.{LearnsAll, comment_by, comment_of, comments_by, comments_from, comments_of, name_of_task, names_of_kind, names_of, plain_name, plain_of}
use Rattle.bq_experiment.specs.Traces.{skipped}

-- the comments of some tasks and of those behind them are the comments of all, joined
comments_by-append : (spell : List ℕ → List ℕ) (task : ℕ) (xs ys : List (List ℕ))
    → comments_by spell task (xs ++ ys) ≡ comments_by spell task xs ++ comments_by spell (task + length xs) ys
comments_by-append spell task [] ys = ap (λ n. comments_by spell n ys) (omega arith)
comments_by-append spell task (x ∷ xs) ys =
    let behind : (task + 1) + length xs ≡ task + length (x ∷ xs) = omega arith in
    ap (λ l. comment_by spell task x ∷ l) (comments_by-append spell (task + 1) xs ys)
    ∙ ap (λ n. comment_by spell task x ∷ (comments_by spell (task + 1) xs ++ comments_by spell n ys)) behind

-- there is one comment for each name
pub length-comments_by : (spell : List ℕ → List ℕ) (task : ℕ) (names : List (List ℕ)) → length (comments_by spell task names) ≡ length names
length-comments_by spell task [] = refl
length-comments_by spell task (name ∷ names) = let h = length-comments_by spell (task + 1) names in omega arith

-- the comments of one task more are those before and its own
pub comments-more : (spell : List ℕ → List ℕ) (names : List (String Global)) (task : ℕ) (name : String Global)
    → task < length names
    → comments_by spell 0 (map string_bytes (take (task + 1) names))
    ≡ comments_by spell 0 (map string_bytes (take task names)) ++ comment_by spell task (string_bytes (get_or names task name)) ∷ []
comments-more spell names task name low =
    let before = map string_bytes (take task names) in
    let so_far : 0 + length before ≡ task = simp (length-map, length-take) (omega arith) in
    ap (comments_by spell 0) (map_more string_bytes names task name low)
    ∙ comments_by-append spell 0 before (string_bytes (get_or names task name) ∷ [])
    ∙ ap (λ n. comments_by spell 0 before ++ comment_by spell n (string_bytes (get_or names task name)) ∷ []) so_far

-- the reported comments of one task more are those before and its own
pub reported-more : (names : List (String Global)) (task : ℕ) (name : String Global) (line : List ℕ)
    → task < length names → line ≡ comment_of task (string_bytes (get_or names task name))
    → map skipped (comments_from 0 (map string_bytes (take task names))) ++ skipped line ∷ []
    ≡ map skipped (comments_from 0 (map string_bytes (take (task + 1) names)))
reported-more names task name line low is =
    let before = comments_from 0 (map string_bytes (take task names)) in
    ap (λ l. map skipped before ++ skipped l ∷ []) is
    ∙ sym (ap (map skipped) (comments-more plain_name names task name low)
    ∙ map-append skipped before (comment_of task (string_bytes (get_or names task name)) ∷ []))

-- what is learnt from some comments, and then from one more, is learnt from all of them
pub learns_more : (xs : List (List ℕ)) (comment : List ℕ) (old mid new : NamedTasks)
    → LearnsAll xs old mid → Learns comment mid new → LearnsAll (xs ++ comment ∷ []) old new
learns_more [] comment old mid new h k = (new, subst (λ (n : NamedTasks). Learns comment n new) h k, refl)
learns_more (x ∷ xs) comment old mid new h k = (h.0, h.1, learns_more xs comment h.0 mid new h.2 k)

-- what a viewer keeps in one step and keeps in the next it keeps in both
pub rests_on : (a b c : Viewer) → ViewerRests a b → ViewerRests b c → ViewerRests a c
rests_on a b c h k = record { schedule = k.schedule ∙ h.schedule; bad_or_refused = k.bad_or_refused ∙ h.bad_or_refused; asked = k.asked ∙ h.asked }

-- what is left of a text has at most one character more than it has bytes
chars_after_short : (n c : ℕ) (bs : List ℕ) → length (chars_after n c bs) ≤ length bs + 1
chars_after_short zero c [] = omega arith
chars_after_short zero c (b ∷ bs) = let h = chars_after_short (continuation_len b) (lead_bits b) bs in omega arith
chars_after_short (suc n) c [] = omega arith
chars_after_short (suc n) c (b ∷ bs) = let h = chars_after_short n (c * 64 + (b - 128)) bs in omega (arith, h)

-- a text has no more characters than bytes
chars_short : (bs : List ℕ) → length (chars bs) ≤ length bs
unfolding chars
chars_short [] = omega arith
chars_short (b ∷ bs) = let h = chars_after_short (continuation_len b) (lead_bits b) bs in omega (arith, h)

-- a plain name is no longer than the name that it was made of
plain_short : (name : List ℕ) → length (plain_name name) ≤ length name
plain_short name = let h = chars_short name in simp length-map (omega arith)

-- a plain character may stand in a line
plain_allowed : (letter : ℕ) → is_allowed (plain_of letter) ≡ true
plain_allowed letter = grind (arith, nat_tests)

-- so may each character of a plain name
plains_allowed : (letters : List ℕ) → list_all is_allowed (map plain_of letters) ≡ true
plains_allowed [] = refl
plains_allowed (letter ∷ letters) = rw (plain_allowed letter) (plains_allowed letters)

-- each byte of such a comment may stand in a line
allowed_comment : (task : ℕ) (name : List ℕ) → task < 2 ^ 64 → list_all is_allowed (comment_of task name) ≡ true
allowed_comment task name fits =
    let number : list_all is_allowed (decimal task) ≡ true = allowed-spaced (decimal task ∷ []) (plain_decimal task fits, tt) in
    let plain : list_all is_allowed (plain_name name) ≡ true = plains_allowed (chars name) in
    list_all-append is_allowed (decimal task) (codes " " ++ plain_name name) ∙ rw (number, plain) refl

-- what may stand in a line is UTF-8
byte_ascii : (b : ℕ) → is_allowed b ≡ true → b < 128
byte_ascii b h = grind (arith, nat_tests)

-- each byte of a text that may stand in a line is below 128
bytes_ascii : (bs : List ℕ) → list_all is_allowed bs ≡ true → (i : ℕ) → get_or bs i 0 < 128
bytes_ascii [] h i = omega arith
bytes_ascii (b ∷ bs) h zero = byte_ascii b (and_parts (is_allowed b) (list_all is_allowed bs) h).0
bytes_ascii (b ∷ bs) h (suc i) = bytes_ascii bs (and_parts (is_allowed b) (list_all is_allowed bs) h).1 i

-- its first word is `#`
first_word : (task : ℕ) (name : List ℕ) → reading_of_words (words (comment_of task name)) ≡ reads.Skipped
first_word task name =
    let rest = codes "task " ++ (decimal task ++ (codes " " ++ plain_name name)) in
    let parts = slice_split_at is_space (codes "#") 32 rest (All-from_recursion (λ b. is_space b ≡ false) (codes "#") (refl, tt)) refl in
    ap (λ (parts : List (List ℕ)). reading_of_words (filter (λ w. ltb 0 (length w)) parts)) parts

-- no longer than a name that such a comment has room for
abbrev pub IsShort : List ℕ → Type 0
IsShort name = length name ≤ 2000

-- four texts, one behind the other, are as long as the four together
length-parts : (a b c d : List ℕ) → length (a ++ (b ++ (c ++ d))) ≡ length a + (length b + (length c + length d))
length-parts a b c d = simp length-append refl

-- a comment that names a task by a short name is short enough for a line
short_comment : (task : ℕ) (name : List ℕ) → task < 2 ^ 64 → IsShort name → length (comment_of task name) ≤ 131072
short_comment task name fits short =
    let number = short_decimal task fits in
    let plain = plain_short name in
    let begins : length (codes "# task ") ≡ 7 = refl in
    let blank : length (codes " ") ≡ 1 = refl in
    let whole : length (comment_of task name)
    ≡ length (codes "# task ") + (length (decimal task) + (length (codes " ") + length (plain_name name))) =
    length-parts (codes "# task ") (decimal task) (codes " ") (plain_name name) in
    omega (arith, short, number, plain, whole, begins, blank)

-- a comment that names a task is a comment of a trace
is_comment : (task : ℕ) (name : List ℕ) → task < 2 ^ 64 → IsShort name → IsComment (comment_of task name)
unfolding reading_of
is_comment task name fits short =
    let allowed = allowed_comment task name fits in
    let room = short_comment task name fits short in
    let fit : ltb 131072 (length (comment_of task name)) ≡ false = grind (arith, nat_tests) in
    record { whole = allowed_whole (comment_of task name) allowed; reads = rw (fit, allowed) (first_word task name) }

-- the comments that name tasks by short names are comments of a trace
are_comments_from : (task : ℕ) (names : List (List ℕ)) → task + length names ≤ 2 ^ 64 → AllByRecursion IsShort names
    → AllByRecursion IsComment (comments_from task names)
are_comments_from task [] few short = tt
are_comments_from task (name ∷ names) few short =
    (is_comment task name (omega arith) short.0, are_comments_from (task + 1) names (omega arith) short.1)

-- each of them is written
lines_from : (images : ByHook) (task : ℕ) (names : List (List ℕ))
    → task + length names ≤ 2 ^ 64
    → reported_lines images (map skipped (comments_from task names)) ≡ comments_from task names
lines_from images task [] few = refl
lines_from images task (name ∷ names) few =
    let line = comment_of task name in
    let utf8 : IsUtf8 line = IsUtf8-from_ascii line (bytes_ascii line (allowed_comment task name (omega arith))) in
    ap (λ b. cond b (line ∷ []) [] ++ reported_lines images (map skipped (comments_from (task + 1) names))) (is_utf8-from_IsUtf8 line utf8)
    ∙ ap (λ l. line ∷ l) (lines_from images (task + 1) names (omega arith))

-- there is a name for each task
length-names_of : (kinds : List TaskKind) → length (names_of kinds) ≡ tasks_in kinds
length-names_of [] = refl
length-names_of (kind ∷ kinds) =
    let mine = length-map-range_with_len (name_of_task kind) 0 kind.count in
    let others = length-names_of kinds in
    let parts : length (names_of (kind ∷ kinds)) ≡ length (names_of_kind kind) + length (names_of kinds) =
    length-append (names_of_kind kind) (names_of kinds) in
    let sum : tasks_in (kind ∷ kinds) ≡ kind.count + tasks_in kinds = sum_by-cons (λ (k : TaskKind). k.count) kind kinds in
    omega (arith, mine, others, parts, sum)

-- what holds of each text of two lists holds of each text of both, joined
all_both : (P : List ℕ → Type 0) (xs ys : List (List ℕ)) → AllByRecursion P xs → AllByRecursion P ys → AllByRecursion P (xs ++ ys)
all_both P [] ys h k = k
all_both P (x ∷ xs) ys h k = (h.0, all_both P xs ys h.1 k)

-- the name of one task of a kind is short, where the kind's name is, and so are those of its tasks and of all tasks:
short_name_in : (kind : TaskKind) (number : ℕ) → length (string_bytes kind.name) ≤ 1024 → number < 2 ^ 64 → IsShort (name_of_task kind number)
short_name_in kind number named fits = of (kind.count == 1)
  where
    of : (b : Bool) → IsShort (cond b (string_bytes kind.name) (string_bytes kind.name ++ (codes "-" ++ decimal number)))
    of true = omega arith
    of false =
        let digits = short_decimal number fits in
        let dash : length (codes "-") ≡ 1 = refl in
        let whole : length (string_bytes kind.name ++ (codes "-" ++ decimal number))
        ≡ length (string_bytes kind.name) + (length (codes "-") + length (decimal number)) = simp length-append refl in
        omega (arith, named, digits, whole, dash)

short_names_in : (kind : TaskKind) (first count : ℕ) → length (string_bytes kind.name) ≤ 1024 → first + count ≤ 1024
    → AllByRecursion IsShort (map (name_of_task kind) (range_with_len first count))
short_names_in kind first zero named few = tt
short_names_in kind first (suc count) named few =
    (short_name_in kind first named (omega arith), short_names_in kind (first + 1) count named (omega arith))

short_names_of : (kinds : List TaskKind) → AllByRecursion (λ (kind : TaskKind). length (string_bytes kind.name) ≤ 1024) kinds
    → tasks_in kinds ≤ 1024
    → AllByRecursion IsShort (names_of kinds)
short_names_of [] named few = tt
short_names_of (kind ∷ kinds) named few =
    let sum : tasks_in (kind ∷ kinds) ≡ kind.count + tasks_in kinds = sum_by-cons (λ (k : TaskKind). k.count) kind kinds in
    all_both IsShort (names_of_kind kind) (names_of kinds) (short_names_in kind 0 kind.count named.0 (omega arith))
    (short_names_of kinds named.1 (omega arith))

-- a workload without a flaw has few enough names for the numbers of its tasks to fit
few_names : (w : Workload) → first_flaw w ≡ None → 0 + length (names_of w.tasks.items) ≤ 2 ^ 64
few_names w sound = let few = sound-few w sound in let same = length-names_of w.tasks.items in omega (arith, few, same)

-- the lines that tell the comments of a workload without a flaw are these comments
pub lines_named : (images : ByHook) (w : Workload) → first_flaw w ≡ None
    → reported_lines images (map skipped (comments_of w)) ≡ comments_of w
lines_named images w sound = lines_from images 0 (names_of w.tasks.items) (few_names w sound)

-- each of them is a comment of a trace
pub are_comments : (w : Workload) → first_flaw w ≡ None → AllByRecursion IsComment (comments_of w)
are_comments w sound =
    are_comments_from 0 (names_of w.tasks.items) (few_names w sound)
    (short_names_of w.tasks.items (sound-named w sound) (sound-few w sound))
