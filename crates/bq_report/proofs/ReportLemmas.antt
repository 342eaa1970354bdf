-- The parts of a report, as text and as JSON, one behind another.
use Rattle.std.proofs.Common.{◌≡◌, ℕ, ◌+◌, ◌<◌, Bool, true, false, true≢false, IsTrue, List, [], ◌∷◌, ◌++◌, ◌↔◌, refl, ap, sym, ◌∙◌, subst, append_assoc, append-nil, add-one, arith, inl, inr, Option, Some, None, ℤ, pos, negsuc, ◌||◌, ◌≤◌, nat_eq}
use Rattle.std.specs.Prelude.{codes, IsSorted, IsPermutation}
use Rattle.std.specs.Ordering.{nat_cmp}
use Rattle.std.proofs.lemmas.Bool.Decides.{nat_tests}
use Rattle.serde_json.specs.Data.{Data}
use Rattle.serde_json.specs.Find.{is_float, of_integer}
use Rattle.serde_json.specs.Written.{compact_text, has_float}
use Rattle.bq_schedule.specs.declared.figures.HookFigures.{HookFigures}
use Rattle.bq_schedule.specs.declared.figures.ProcessorFigures.{ProcessorFigures}
use Rattle.bq_schedule.specs.declared.figures.TaskFigures.{TaskFigures}
use Rattle.bq_schedule.specs.declared.percentiles.Percentiles.{Percentiles}
use Rattle.bq_schedule.specs.Figures.{Figures, processor_in_figures, task_in_figures}
use Rattle.bq_schedule.specs.Observed.{observed_time}
use Rattle.bq_schedule.specs.Runnable.{fair_of}
use Rattle.bq_schedule.specs.WakeLatencies.{Tasks, latencies_of, percentiles_of}
use Rattle.bq_report.specs.declared.window.Window.{Window}
use Rattle.bq_report.specs.Columns.{hook_line_if, hook_lines, latency_line, missed_line, nearest, processor_report_line, right, task_line}
use Rattle.bq_report.specs.Names.{NamedTasks, name_of}
use Rattle.bq_report.specs.Objects.{latency_object, missed_member, number_or_null, processor_object, task_object, text_or_null}
use Rattle.bq_report.specs.Reports.{GrowsByPart, AreElements, AreHookLines, AreParts, ArePercentiles, HasHooks, HasProcessor, HasTask, IsHookTable, IsJsonReport, IsLatencyLine, IsPartIf, IsProcessorLine, IsProcessorObject, IsReport, IsTable, IsTaskLine, IsTaskObject, WasAsked, elements_text, hook_head, hook_head_unless, latency_head, processor_head, separator_if, task_head, under_hook_head}
use Rattle.bq_report.specs.Timehist.{name_text}
use Rattle.bq_report.specs.Waits.{still_waiting}
use Rattle.bq_report.specs.Windows.{ShowsProcessor}

-- there is no part before the first number
pub AreParts-none : {A : Type 0} (Is : ℕ → List A → Type 0) → AreParts Is 0 []
unfolding AreParts
AreParts-none Is = refl

-- a number's part stands behind those before it
pub AreParts-more : {A : Type 0} (Is : ℕ → List A → Type 0) (number : ℕ) (before own : List A)
    → AreParts Is number before → Is number own → AreParts Is (number + 1) (before ++ own)
unfolding AreParts
AreParts-more {A} Is number before own are is =
    subst (λ n. AreParts Is n (before ++ own)) (sym (add-one number)) (before, own, are, is, refl)

-- a number has no part: the parts are those before it
pub AreParts-same : {A : Type 0} (Is : ℕ → List A → Type 0) (number : ℕ) (before : List A)
    → AreParts Is number before → Is number [] → AreParts Is (number + 1) before
AreParts-same {A} Is number before are is =
    subst (λ parts. AreParts Is (number + 1) parts) (append-nil before) (AreParts-more Is number before [] are is)

-- the parts of as many numbers as there are
pub AreParts-end : {A : Type 0} (Is : ℕ → List A → Type 0) (number end : ℕ) (parts : List A)
    → number ≡ end → AreParts Is number parts → AreParts Is end parts
AreParts-end {A} Is number end parts is are = subst (λ n. AreParts Is n parts) is are

-- the part that is there
pub part_there : {A : Type 0} (Holds : Type 0) (IsLike : List A → Type 0) (part : List A)
    → Holds → IsLike part → IsPartIf A Holds IsLike part
part_there {A} Holds IsLike part holds is = record { there = λ _. is; nothing = λ none. absurd (none holds) }

-- no part, as its condition does not hold
pub part_missing : {A : Type 0} (Holds : Type 0) (IsLike : List A → Type 0) → ¬ Holds → IsPartIf A Holds IsLike []
part_missing {A} Holds IsLike none = record { there = λ holds. absurd (none holds); nothing = λ _. refl }

-- a test that fails tells that its condition does not hold
pub test_fails : (b : Bool) (P : Type 0) → (IsTrue b ↔ P) → b ≡ false → ¬ P
test_fails b P decides is holds = true≢false (sym (decides.1 holds) ∙ is)

-- a text to which a part is added that is there
pub adds_part : (Holds : Type 0) (IsLike : List ℕ → Type 0) (old new own : List ℕ)
    → Holds → IsLike own → new ≡ old ++ own → GrowsByPart (IsPartIf ℕ Holds IsLike) old new
adds_part Holds IsLike old new own holds is e = (own, part_there Holds IsLike own holds is, e)

-- a text to which no part is added
pub adds_none : (Holds : Type 0) (IsLike : List ℕ → Type 0) (text : List ℕ) → ¬ Holds → GrowsByPart (IsPartIf ℕ Holds IsLike) text text
adds_none Holds IsLike text none = ([], part_missing Holds IsLike none, sym (append-nil text))

-- a text that stays as it is grew by no lines
pub lines_none : (Is : ℕ → List ℕ → Type 0) (text : List ℕ) → GrowsByPart (AreParts Is 0) text text
lines_none Is text = ([], AreParts-none Is, sym (append-nil text))

-- a text that grew by some lines, and by one more, grew by all of them
pub lines_more : (Is : ℕ → List ℕ → Type 0) (number : ℕ) (old now next : List ℕ)
    → GrowsByPart (AreParts Is number) old now → GrowsByPart (Is number) now next
    → GrowsByPart (AreParts Is (number + 1)) old next
lines_more Is number old now next lines line = (
  lines.0 ++ line.0,
  AreParts-more Is number lines.0 line.0 lines.1 line.1,
  line.2 ∙ ap (λ l. l ++ line.0) lines.2 ∙ append_assoc old lines.0 line.0,
)

-- the lines of as many numbers as there are
pub lines_end : (Is : ℕ → List ℕ → Type 0) (number count : ℕ) (old next : List ℕ)
    → number ≡ count → GrowsByPart (AreParts Is number) old next → GrowsByPart (AreParts Is count) old next
lines_end Is number count old next is lines = (lines.0, AreParts-end Is number count lines.0 is lines.1, lines.2)

-- the lines of as many numbers as there are, under the head: a table
pub table : (head : List ℕ) (Is : ℕ → List ℕ → Type 0) (number count : ℕ) (old now next : List ℕ) → number ≡ count → now ≡ old ++ head
    → GrowsByPart (AreParts Is number) now next → GrowsByPart (IsTable head Is count) old next
table head Is number count old now next is under lines = (
  head ++ lines.0,
  (lines.0, AreParts-end Is number count lines.0 is lines.1, refl),
  lines.2 ∙ ap (λ l. l ++ lines.0) under ∙ append_assoc old head lines.0,
)

-- ---- the table of the policies

-- whether a text has any byte
abbrev pub is_there : List ℕ → Bool
is_there [] = false
is_there (byte ∷ bytes) = true

-- text that has lines still has them with more before it, or behind it:
there_behind : (a b : List ℕ) → is_there b ≡ true → is_there (a ++ b) ≡ true
there_behind [] b h = h
there_behind (x ∷ a) b h = refl

there_before : (a b : List ℕ) → is_there a ≡ true → is_there (a ++ b) ≡ true
there_before [] b h = absurd (true≢false (sym h))
there_before (x ∷ a) b h = refl

-- a hook at which a policy was asked has a line
hook_there : (p : ℕ) (name : List ℕ) (h : HookFigures) → 0 < h.asked → is_there (hook_line_if p name h) ≡ true
hook_there p name h more =
    let e : nat_eq h.asked 0 ≡ false = grind (arith, nat_tests) in
    rw e (there_behind (right 5 p) _ refl)

-- a policy that was asked has lines
pub lines_there : (p : ℕ) (f : ProcessorFigures) → WasAsked f → is_there (hook_lines p f) ≡ true
lines_there p f (inl asked) = there_before _ _ (hook_there p (codes "place") f.place asked)
lines_there p f (inr (inl asked)) =
    there_behind (hook_line_if p (codes "place") f.place) _
    (there_before _ _ (hook_there p (codes "preempt") f.preempt asked))
lines_there p f (inr (inr asked)) =
    there_behind (hook_line_if p (codes "place") f.place) _
    (there_behind (hook_line_if p (codes "preempt") f.preempt) _ (hook_there p (codes "pull") f.pull asked))

-- more lines stand behind those before them, or under the head where there were none
under_more : (lines own : List ℕ) → is_there own ≡ true
    → under_hook_head (lines ++ own) ≡ under_hook_head lines ++ (hook_head_unless (is_there lines) ++ own)
under_more [] [] h = absurd (true≢false (sym h))
under_more [] (x ∷ own) h = refl
under_more (l ∷ lines) own h = sym (append_assoc hook_head (l ∷ lines) own)

-- the text is an old one and the lines of the processors below a number, under their head if there are any
abbrev pub HooksBelow : Window → Figures → ℕ → Bool → List ℕ → List ℕ → Type 0
HooksBelow w s number has old now =
    (lines : List ℕ) × AreParts (AreHookLines w s) number lines × (now ≡ old ++ under_hook_head lines) × (has ≡ is_there lines)

-- before the first processor there is no line
pub hooks_none : (w : Window) (s : Figures) (text : List ℕ) → HooksBelow w s 0 false text text
hooks_none w s text = ([], AreParts-none (AreHookLines w s), sym (append-nil text), refl)

-- a processor's lines stand behind those before it, or under the head
pub hooks_more : (w : Window) (s : Figures) (number : ℕ) (f : ProcessorFigures) (has : Bool) (old now headed next : List ℕ)
    → HooksBelow w s number has old now → f ≡ processor_in_figures s number → ShowsProcessor w number × WasAsked f
    → headed ≡ now ++ hook_head_unless has → next ≡ headed ++ hook_lines number f → HooksBelow w s (number + 1) true old next
hooks_more w s number f has old now headed next below is asked head lines =
    let there : WasAsked (processor_in_figures s number) = subst WasAsked is asked.1 in
    let own = hook_lines number (processor_in_figures s number) in
    let some : is_there own ≡ true = lines_there number (processor_in_figures s number) there in
    let part : AreHookLines w s number own =
    part_there (HasHooks w s number) (λ l. l ≡ own) own (record { shown = asked.0; asked = there }) refl in
    let all : next ≡ ((old ++ under_hook_head below.0) ++ hook_head_unless (is_there below.0)) ++ own =
    lines ∙ ap (λ g. headed ++ hook_lines number g) is
    ∙ ap (λ l. l ++ own)
    (head ∙ ap (λ b. now ++ hook_head_unless b) below.3 ∙ ap (λ l. l ++ hook_head_unless (is_there below.0)) below.2) in (
      below.0 ++ own,
      AreParts-more (AreHookLines w s) number below.0 own below.1 part,
      all ∙ append_assoc (old ++ under_hook_head below.0) (hook_head_unless (is_there below.0)) own
          ∙ append_assoc old (under_hook_head below.0) (hook_head_unless (is_there below.0) ++ own)
          ∙ ap (λ l. old ++ l) (sym (under_more below.0 own some)),
      sym (there_behind below.0 own some),
    )

-- a processor without lines leaves the lines of the hooks as they were
pub hooks_same : (w : Window) (s : Figures) (number : ℕ) (f : ProcessorFigures) (has : Bool) (old now : List ℕ)
    → HooksBelow w s number has old now → f ≡ processor_in_figures s number → ¬ (ShowsProcessor w number × WasAsked f)
    → HooksBelow w s (number + 1) has old now
hooks_same w s number f has old now below is none =
    let missing : ¬ (HasHooks w s number) = λ h. none (h.shown, subst WasAsked (sym is) h.asked) in (
      below.0,
      AreParts-same (AreHookLines w s) number below.0 below.1
          (part_missing (HasHooks w s number) (λ l. l ≡ hook_lines number (processor_in_figures s number)) missing),
      below.2,
      below.3,
    )

-- the lines of a processor's hooks, by an equal text and an equal mark
pub hooks_at : (w : Window) (s : Figures) (number : ℕ) (has has_now : Bool) (old now here : List ℕ)
    → has_now ≡ has → here ≡ now → HooksBelow w s number has old now → HooksBelow w s number has_now old here
hooks_at w s number has has_now old now here is same below = (below.0, below.1, same ∙ below.2, is ∙ below.3)

-- the lines of all processors: the table
pub hooks_table : (w : Window) (s : Figures) (number : ℕ) (has : Bool) (old now : List ℕ)
    → number ≡ 64 → HooksBelow w s number has old now → GrowsByPart (IsHookTable w s) old now
hooks_table w s number has old now is below =
    (under_hook_head below.0, (below.0, AreParts-end (AreHookLines w s) number 64 below.0 is below.1, refl), below.2)

-- ---- the elements of an array

-- whether the next element is the first: these, behind others, are none
abbrev pub still_first : Bool → List Data → Bool
still_first first [] = first
still_first first (d ∷ ds) = false

-- behind an element the next one is not the first, whatever stands between
still_later : (ds : List Data) → still_first false ds ≡ false
still_later [] = refl
still_later (d ∷ ds) = refl

-- one more element stands behind the others, with what precedes it
elements_last : (first : Bool) (ds : List Data) (d : Data)
    → elements_text first (ds ++ d ∷ []) ≡ elements_text first ds ++ (separator_if (still_first first ds) ++ compact_text d)
elements_last first [] d = ap (λ t. separator_if first ++ t) (append-nil (compact_text d))
elements_last first (e ∷ ds) d =
    ap (λ t. separator_if first ++ (compact_text e ++ t))
    (elements_last false ds d ∙ ap (λ b. elements_text false ds ++ (separator_if b ++ compact_text d)) (still_later ds))
    ∙ ap (λ t. separator_if first ++ t)
    (sym (append_assoc (compact_text e) (elements_text false ds) (separator_if false ++ compact_text d)))
    ∙ sym (append_assoc (separator_if first) (compact_text e ++ elements_text false ds) (separator_if false ++ compact_text d))

-- the text is an old one and the elements of the numbers below a number
abbrev pub ElementsBelow : (ℕ → List Data → Type 0) → ℕ → Bool → List ℕ → List ℕ → Type 0
ElementsBelow Is number first old now =
    (ds : List Data) × AreParts Is number ds × (now ≡ old ++ elements_text true ds) × (first ≡ still_first true ds)

-- before the first number there is no element
pub elements_none : (Is : ℕ → List Data → Type 0) (text : List ℕ) → ElementsBelow Is 0 true text text
elements_none Is text = ([], AreParts-none Is, sym (append-nil text), refl)

-- behind a last element the next one is not the first
not_first : (ds : List Data) (d : Data) → false ≡ still_first true (ds ++ d ∷ [])
not_first [] d = refl
not_first (e ∷ ds) d = refl

-- a number's element stands behind those before it
pub elements_more : (Is : ℕ → List Data → Type 0) (number : ℕ) (first : Bool) (old now next : List ℕ) (d : Data)
    → ElementsBelow Is number first old now → Is number (d ∷ []) → next ≡ now ++ (separator_if first ++ compact_text d)
    → ElementsBelow Is (number + 1) false old next
elements_more Is number first old now next d below is e = (
  below.0 ++ d ∷ [],
  AreParts-more Is number below.0 (d ∷ []) below.1 is,
  e ∙ ap (λ b. now ++ (separator_if b ++ compact_text d)) below.3
      ∙ ap (λ t. t ++ (separator_if (still_first true below.0) ++ compact_text d)) below.2
      ∙ append_assoc old (elements_text true below.0) _ ∙ ap (λ t. old ++ t) (sym (elements_last true below.0 d)),
  not_first below.0 d,
)

-- a number without an element
pub elements_same : (Is : ℕ → List Data → Type 0) (number : ℕ) (first : Bool) (old now : List ℕ)
    → ElementsBelow Is number first old now → Is number [] → ElementsBelow Is (number + 1) first old now
elements_same Is number first old now below is = (below.0, AreParts-same Is number below.0 below.1 is, below.2, below.3)

-- the elements below a number, by an equal text and an equal mark
pub elements_at : (Is : ℕ → List Data → Type 0) (number : ℕ) (first first_now : Bool) (old now here : List ℕ)
    → first_now ≡ first → here ≡ now → ElementsBelow Is number first old now
    → ElementsBelow Is number first_now old here
elements_at Is number first first_now old now here is same below = (below.0, below.1, same ∙ below.2, is ∙ below.3)

-- the elements of as many numbers as there are
pub elements_all : (Is : ℕ → List Data → Type 0) (number count : ℕ) (first : Bool) (old now : List ℕ)
    → number ≡ count → ElementsBelow Is number first old now → GrowsByPart (AreElements Is count) old now
elements_all Is number count first old now is below =
    (elements_text true below.0, (below.0, AreParts-end Is number count below.0 is below.1, refl), below.2)

-- ---- single lines and objects

-- the line of a task that has one
pub task_line_added : (w : Window) (names : NamedTasks) (s : Figures) (id : ℕ) (old new : List ℕ) (b : Bool)
    (name : List ℕ) (f : TaskFigures) (wide fair : ℕ)
    → (IsTrue b ↔ HasTask w s id) → b ≡ true → name ≡ name_text names id → f ≡ task_in_figures s id → wide ≡ fair_of s id
    → fair ≡ nearest wide → new ≡ old ++ task_line id name f fair
    → GrowsByPart (IsTaskLine w names s id) old new
task_line_added w names s id old new b name f wide fair decides true_ is_name is_figures is_wide is_fair e =
    let line = task_line id (name_text names id) (task_in_figures s id) (nearest (fair_of s id)) in
    adds_part (HasTask w s id) (λ own. own ≡ line) old new line (decides.0 true_) refl
    (e ∙ ap (λ n. old ++ task_line id n f fair) is_name ∙ ap (λ g. old ++ task_line id (name_text names id) g fair) is_figures
    ∙ ap (λ n. old ++ task_line id (name_text names id) (task_in_figures s id) n) (is_fair ∙ ap nearest is_wide))

-- percentiles of a task's latencies, which were sorted for them
pub are_percentiles : (latencies now sorted : List ℕ) (p : Percentiles)
    → now ≡ latencies → p ≡ percentiles_of sorted → IsSorted nat_cmp sorted → IsPermutation now sorted
    → ArePercentiles latencies p
are_percentiles latencies now sorted p is value in_order same =
    record { sorted = sorted; in_order = in_order; same = subst (λ l. IsPermutation l sorted) is same; value = value }

-- the line of the latencies of a task that has one
pub latency_line_added : (w : Window) (names : NamedTasks) (s : Figures) (latencies : List ℕ) (id : ℕ) (old new : List ℕ)
    (b : Bool) (name : List ℕ) (f : TaskFigures) (p : Percentiles) (still : Option ℕ)
    → (IsTrue b ↔ HasTask w s id) → b ≡ true → name ≡ name_text names id → f ≡ task_in_figures s id → ArePercentiles latencies p
    → still ≡ still_waiting s id → new ≡ old ++ latency_line id name f.wakes p still
    → GrowsByPart (IsLatencyLine w names s latencies id) old new
latency_line_added w names s latencies id old new b name f p still decides true_ is_name is_figures are is_still e =
    let line = latency_line id (name_text names id) (task_in_figures s id).wakes p (still_waiting s id) in
    adds_part (HasTask w s id) (λ own.
    (q : Percentiles) × ArePercentiles latencies q
    × (own ≡ latency_line id (name_text names id) (task_in_figures s id).wakes q (still_waiting s id)))
    old new line (decides.0 true_) (p, are, refl)
    (e ∙ ap (λ n. old ++ latency_line id n f.wakes p still) is_name
    ∙ ap (λ (g : TaskFigures). old ++ latency_line id (name_text names id) g.wakes p still) is_figures
    ∙ ap (λ t. old ++ latency_line id (name_text names id) (task_in_figures s id).wakes p t) is_still)

-- the line of the latencies of one more task, whose latencies are those that it had before the first
pub latencies_more : (w : Window) (names : NamedTasks) (s : Figures) (first now_of : Tasks) (id : ℕ) (old now next : List ℕ)
    → GrowsByPart (AreParts (λ i. IsLatencyLine w names s (latencies_of first i) i) id) old now
    → latencies_of now_of id ≡ latencies_of first id → GrowsByPart (IsLatencyLine w names s (latencies_of now_of id) id) now next
    → GrowsByPart (AreParts (λ i. IsLatencyLine w names s (latencies_of first i) i) (id + 1)) old next
latencies_more w names s first now_of id old now next lines is line =
    lines_more (λ i. IsLatencyLine w names s (latencies_of first i) i) id old now next lines
    (subst (λ l. GrowsByPart (IsLatencyLine w names s l id) now next) is line)

-- the tasks behind this one have the latencies that they had
pub others_kept : (first now next : Tasks) (id : ℕ) → ((other : ℕ) → id ≤ other → latencies_of now other ≡ latencies_of first other)
    → ((other : ℕ) → ¬ (other ≡ id) → latencies_of next other ≡ latencies_of now other) → (other : ℕ) → id + 1 ≤ other
    → latencies_of next other ≡ latencies_of first other
others_kept first now next id rest others other h = others other (λ e. absurd (omega (arith, e, h))) ∙ rest other (omega (arith, h))

-- the line of a processor that has one
pub processor_line_added : (w : Window) (s : Figures) (p : ℕ) (old new : List ℕ) (b : Bool) (observed : ℕ) (f : ProcessorFigures)
    → (IsTrue b ↔ HasProcessor w s p) → b ≡ true → observed ≡ observed_time s → f ≡ processor_in_figures s p
    → new ≡ old ++ processor_report_line p observed f
    → GrowsByPart (IsProcessorLine w s p) old new
processor_line_added w s p old new b observed f decides true_ all is e =
    let line = processor_report_line p (observed_time s) (processor_in_figures s p) in
    adds_part (HasProcessor w s p) (λ own. own ≡ line) old new line (decides.0 true_) refl
    (e ∙ ap (λ time. old ++ processor_report_line p time f) all ∙ ap (λ g. old ++ processor_report_line p (observed_time s) g) is)

-- the object of a processor that has one
pub processor_there : (w : Window) (s : Figures) (p observed : ℕ) (f : ProcessorFigures)
    → HasProcessor w s p → observed ≡ observed_time s → f ≡ processor_in_figures s p → IsProcessorObject w s p (processor_object p observed f ∷ [])
processor_there w s p observed f holds all is =
    part_there (HasProcessor w s p) (λ own. own ≡ processor_object p (observed_time s) (processor_in_figures s p) ∷ [])
    (processor_object p observed f ∷ []) holds
    (ap (λ time. processor_object p time f ∷ []) all ∙ ap (λ g. processor_object p (observed_time s) g ∷ []) is)

-- the object of a task that has one
pub task_there : (w : Window) (names : NamedTasks) (s : Figures) (latencies : List ℕ) (id : ℕ) (p : Percentiles)
    → HasTask w s id → ArePercentiles latencies p
    → IsTaskObject w names s latencies id (task_object names s id p ∷ [])
task_there w names s latencies id p holds are =
    part_there (HasTask w s id) (λ own. (q : Percentiles) × ArePercentiles latencies q × (own ≡ task_object names s id q ∷ []))
    (task_object names s id p ∷ []) holds (p, are, refl)

-- no number or null, no text or null, and no integer is a float:
no_float_in_number : (o : Option ℕ) → has_float (number_or_null o) ≡ false
no_float_in_number None = refl
no_float_in_number (Some n) = refl

no_float_in_text : (o : Option (List ℕ)) → has_float (text_or_null o) ≡ false
no_float_in_text None = refl
no_float_in_text (Some t) = refl

no_float_in_integer : (z : ℤ) → is_float (of_integer z) ≡ false
no_float_in_integer (pos n) = refl
no_float_in_integer (negsuc n) = refl

-- of four conditions that fail none holds
four_false : (a b c d : Bool) → a ≡ false → b ≡ false → c ≡ false → d ≡ false → (a || (b || (c || (d || false)))) ≡ false
four_false false false false false ea eb ec ed = refl
four_false true b c d ea eb ec ed = absurd (true≢false ea)
four_false false true c d ea eb ec ed = absurd (true≢false eb)
four_false false false true d ea eb ec ed = absurd (true≢false ec)
four_false false false false true ea eb ec ed = absurd (true≢false ed)

-- no figure of a task's latencies is a float
no_float_in_latency : (p : Percentiles) → has_float (latency_object p) ≡ false
no_float_in_latency p =
    four_false (has_float (number_or_null p.greatest)) (has_float (number_or_null p.p50)) (has_float (number_or_null p.p95))
    (has_float (number_or_null p.p99)) (no_float_in_number p.greatest) (no_float_in_number p.p50) (no_float_in_number p.p95)
    (no_float_in_number p.p99)

-- no figure of a task is a float
pub no_float_in_task : (names : NamedTasks) (s : Figures) (id : ℕ) (p : Percentiles) → has_float (task_object names s id p) ≡ false
unfolding task_object
no_float_in_task names s id p =
    four_false (has_float (latency_object p)) (has_float (text_or_null (name_of names id)))
    (is_float (of_integer (task_in_figures s id).nice)) (has_float (number_or_null (still_waiting s id))) (no_float_in_latency p)
    (no_float_in_text (name_of names id)) (no_float_in_integer (task_in_figures s id).nice) (no_float_in_number (still_waiting s id))

-- no figure of a processor is a float
pub no_float_in_processor : (p observed : ℕ) (f : ProcessorFigures) → has_float (processor_object p observed f) ≡ false
unfolding processor_object
no_float_in_processor p observed f = refl

-- an element that is this object
pub element_of : (v d : Data) (first : Bool) (old new : List ℕ) → v ≡ d → has_float d ≡ false
    → (has_float v ≡ false → new ≡ old ++ (separator_if first ++ compact_text v)) → new ≡ old ++ (separator_if first ++ compact_text d)
element_of v d first old new is none added =
    subst (λ x. has_float x ≡ false → new ≡ old ++ (separator_if first ++ compact_text x)) is added none

-- ---- the wholes

-- parts of a text that are joined from the left are the same joined from the right
regroup : (t a b c d e f g : List ℕ) → ((((((t ++ a) ++ b) ++ c) ++ d) ++ e) ++ f) ++ g ≡ t ++ (a ++ (b ++ (c ++ (d ++ (e ++ (f ++ g))))))
regroup t a b c d e f g = simp append_assoc

-- a text that grows by seven parts in turn has grown by all of them, in order
seven : (t0 t1 t2 t3 t4 t5 t6 t7 a b c d e f g : List ℕ) → t1 ≡ t0 ++ a → t2 ≡ t1 ++ b → t3 ≡ t2 ++ c → t4 ≡ t3 ++ d
    → t5 ≡ t4 ++ e → t6 ≡ t5 ++ f → t7 ≡ t6 ++ g
    → t7 ≡ t0 ++ (a ++ (b ++ (c ++ (d ++ (e ++ (f ++ g))))))
seven t0 t1 t2 t3 t4 t5 t6 t7 a b c d e f g e1 e2 e3 e4 e5 e6 e7 =
    e7 ∙ ap (λ t. t ++ g)
    (e6 ∙ ap (λ t. t ++ f) (e5 ∙ ap (λ t. t ++ e) (e4 ∙ ap (λ t. t ++ d) (e3 ∙ ap (λ t. t ++ c) (e2 ∙ ap (λ t. t ++ b) e1)))))
    ∙ regroup t0 a b c d e f g

-- the parts of a report, in order, are a report
pub report_added : (w : Window) (names : NamedTasks) (s : Figures) (latencies : Tasks) (missed : ℕ)
    (t0 t1 t2 t3 t4 t5 t6 t7 : List ℕ)
    → GrowsByPart (IsTable task_head (IsTaskLine w names s) 1024) t0 t1 → t2 ≡ t1 ++ codes "\n"
    → GrowsByPart (IsTable latency_head (λ id. IsLatencyLine w names s (latencies_of latencies id) id) 1024) t2 t3
    → t4 ≡ t3 ++ missed_line missed → t5 ≡ t4 ++ codes "\n" → GrowsByPart (IsTable processor_head (IsProcessorLine w s) 64) t5 t6
    → GrowsByPart (IsHookTable w s) t6 t7
    → GrowsByPart (IsReport w names s latencies missed) t0 t7
report_added w names s latencies missed t0 t1 t2 t3 t4 t5 t6 t7 tasks e2 waits e4 e5 processors policies = (
  _,
  record {
    first = tasks.0;
    second = waits.0;
    third = processors.0;
    last = policies.0;
    tasks = tasks.1;
    waits = waits.1;
    processors = processors.1;
    policies = policies.1;
    whole = refl;
  },
  seven t0 t1 t2 t3 t4 t5 t6 t7 tasks.0 (codes "\n") waits.0 (missed_line missed) (codes "\n") processors.0 policies.0 tasks.2
      e2 waits.2 e4 e5 processors.2 policies.2,
)

-- the parts of the figures as JSON, in order, are these figures
pub json_added : (w : Window) (names : NamedTasks) (s : Figures) (latencies : Tasks) (missed : ℕ)
    (t0 t1 t2 t3 t4 t5 t6 t7 : List ℕ)
    → t1 ≡ t0 ++ codes "{\"schema\":1,\"tasks\":["
    → GrowsByPart (AreElements (λ id. IsTaskObject w names s (latencies_of latencies id) id) 1024) t1 t2
    → t3 ≡ t2 ++ codes "\n],\"processors\":[" → GrowsByPart (AreElements (IsProcessorObject w s) 64) t3 t4 → t5 ≡ t4 ++ codes "\n]"
    → t6 ≡ t5 ++ missed_member missed → t7 ≡ t6 ++ codes "}\n"
    → GrowsByPart (IsJsonReport w names s latencies missed) t0 t7
json_added w names s latencies missed t0 t1 t2 t3 t4 t5 t6 t7 e1 tasks e3 processors e5 e6 e7 = (
  _,
  record { first = tasks.0; second = processors.0; tasks = tasks.1; processors = processors.1; whole = refl },
  seven t0 t1 t2 t3 t4 t5 t6 t7 (codes "{\"schema\":1,\"tasks\":[") tasks.0 (codes "\n],\"processors\":[") processors.0
      (codes "\n]") (missed_member missed) (codes "}\n") e1 tasks.2 e3 processors.2 e5 e6 e7,
)
