use Rattle.std.proofs.Common.{◌≡◌, ◌<◌, ◌+◌, ◌++◌, ◌∷◌, ℕ, List, Option, Some, Result, drop, get_or, length, slice_get, sym, ap, ◌∙◌, arith}
use Rattle.std.proofs.lemmas.List.{at_drop_more}
use Rattle.std.proofs.lemmas.List.Sums.{sum_by_more}
use Rattle.std.proofs.lemmas.Result.{err_from_is_err_and}
use Rattle.std.specs.Result.{result_err}
use Rattle.bq_workload.specs.declared.sound.Unsound.{Unsound}
use Rattle.bq_workload.specs.declared.workload.TaskKind.{TaskKind}
use Rattle.bq_workload.specs.declared.workload.Workload.{Workload}
use Rattle.bq_workload.specs.Soundness.{flaws_of_count, flaws_of_kind, flaws_of_kinds}
use Rattle.bq_words.specs.Sizes.{processors_in}
use Rattle.bq_workload.proofs.SoundLemmas.{first-found, first-later}
use Rattle.bq_workload.proofs.sound.soundness.Goals as goal

-- of one kind, and of those behind it
abbrev flaws_at : Workload → ℕ → TaskKind → List Unsound
flaws_at w number kind = flaws_of_kind (processors_in w.machine.size) (length w.tasks.items) number kind

abbrev flaws_behind : Workload → ℕ → List Unsound
flaws_behind w number = flaws_of_kinds (processors_in w.machine.size) (length w.tasks.items) (number + 1) (drop (number + 1) w.tasks.items)

abbrev flaws_from : Workload → ℕ → List TaskKind → Option Unsound
flaws_from w number kinds =
    slice_get (flaws_of_kinds (processors_in w.machine.size) (length w.tasks.items) number kinds ++ flaws_of_count w.tasks.items) 0

next : (w : Workload) (number : ℕ) (kind : TaskKind) → number < length w.tasks.items
    → flaws_from w number (drop number w.tasks.items)
    ≡ flaws_from w number (get_or w.tasks.items number kind ∷ drop (number + 1) w.tasks.items)
next w number kind low = at_drop_more (λ (l : List TaskKind). flaws_from w number l) w.tasks.items number kind low

-- what a kind was found to be, as its place in the workload has it
mine : (w : Workload) (number : ℕ) (there kind : TaskKind) (processors kinds : ℕ) (o : Option Unsound)
    → kind ≡ there → processors ≡ processors_in w.machine.size → kinds ≡ length w.tasks.items
    → o ≡ slice_get (flaws_of_kind processors kinds number kind) 0
    → o ≡ slice_get (flaws_at w number there) 0
mine w number there kind processors kinds o same p k h =
    h ∙ ap (λ n. slice_get (flaws_of_kind n kinds number kind) 0) p
    ∙ ap (λ n. slice_get (flaws_of_kind (processors_in w.machine.size) n number kind) 0) k
    ∙ ap (λ (t : TaskKind). slice_get (flaws_at w number t) 0) same

pub returns-in_err-sound_kind : goal.returns-in_err-sound_kind
returns-in_err-sound_kind c =
    let w = c.args.workload.now in
    let kinds = w.tasks.items in
    let number = c.kinds.number in
    let kind = c.kind-item.result in
    let same = c.deref-kind-items.ensures.value in
    let found =
    mine w number (get_or kinds number kind) kind _ _ _
    (c.kind-item.is ∙ ap (λ (l : List TaskKind). get_or l number kind) same) c.processors-processors.ensures
    (c.len-kinds.ensures ∙ sym c.deref-kind-items.ensures.len ∙ ap (λ (l : List TaskKind). length l) same)
    c.in_err-sound_kind.ensures in
    let first = first-found (flaws_at w number (get_or kinds number kind)) (flaws_behind w number) (flaws_of_count kinds) _ found in
    let reported = err_from_is_err_and c.from_residual-in_err-sound_kind.result c.from_residual-in_err-sound_kind.ensures.1 in
    let why : result_err c.from_residual-in_err-sound_kind.result ≡ Some c.in_err-sound_kind.field-0.0 =
    ap (λ (r : Result (Unit {0}) Unsound). result_err r) reported.1 ∙ ap (λ (f : Unsound). Some f) reported.2 in
    why ∙ sym first ∙ sym (next w number kind (omega (arith, c.kinds-test.true, ap (λ (l : List TaskKind). length l) same)))
    ∙ c.kinds.invariant.flaws

pub kinds-preserved : goal.kinds-preserved
kinds-preserved c =
    let w = c.args.workload.now in
    let kinds = w.tasks.items in
    let number = c.kinds.number in
    let kind = c.kind-item.result in
    let same = c.deref-kind-items.ensures.value in
    let low : number < length kinds = omega (arith, c.kinds-test.true, ap (λ (l : List TaskKind). length l) same) in
    let here : kind ≡ get_or kinds number kind = c.kind-item.is ∙ ap (λ (l : List TaskKind). get_or l number kind) same in
    let none =
    mine w number (get_or kinds number kind) kind _ _ _ here c.processors-processors.ensures
    (c.len-kinds.ensures ∙ sym c.deref-kind-items.ensures.len ∙ ap (λ (l : List TaskKind). length l) same)
    c.in_ok-sound_kind.ensures in
    let later = first-later (flaws_at w number (get_or kinds number kind)) (flaws_behind w number) (flaws_of_count kinds) none in
    let count : TaskKind → ℕ = λ k. k.count in
    record {
      flaws = sym later ∙ sym (next w number kind low) ∙ c.kinds.invariant.flaws;
      tasks =
          omega (arith, c.saturating_add-tasks.ensures, c.kinds.invariant.tasks, ap count here, sum_by_more count kinds number kind low);
    }
