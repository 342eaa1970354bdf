-- A policy that stands somewhere is asked: what it says of itself holds of what stands there.
use Rattle.std.proofs.Common.{◌≡◌, ℕ, ◌<◌, ◌^◌, true, List, length, Option, Some, None, ap, sym, subst, ◌∙◌}
use Rattle.std.specs.Prelude.{IfSome, is_some, slice_index}
use Rattle.std.proofs.lemmas.Bool.{false≢true}
use Rattle.bq_bpf.specs.declared.board.CounterCall.{CounterCall}
use Rattle.bq_hooks.specs.Hooks.{context_length_of}
use Rattle.bq_bpf.specs.Memory.{HaveShapes}
use Rattle.bq_bpf.specs.declared.runs.RunResult.{RunResult}
use Rattle.bq_verify.specs.Accepted.{Accepted}
use Rattle.bq_installed.specs.Answers.{Answers, RunsWithin}
use Rattle.bq_installed.specs.Installed.{EquippedFacts, InstalledFacts, AnswersAt, policy_in, maps_in}
use Rattle.bq_installed.specs.Standing.{IsEquipped, HasAnswered}

-- what is installed where a policy may stand with its maps
abbrev pub installed_of : ℕ → Option EquippedFacts → InstalledFacts
installed_of generation equipped = record { policy = policy_in equipped; generation = generation; maps = maps_in equipped }

-- where none stands, none is asked
pub none_asked : (generation : ℕ) (equipped : Option EquippedFacts) (a : InstalledFacts)
    → installed_of generation equipped ≡ a → equipped ≡ None → is_some a.policy ≡ true → ⊥
none_asked generation equipped a view none some =
    false≢true (ap (λ o. is_some (policy_in o)) (sym none) ∙ ap (λ (b : InstalledFacts). is_some b.policy) view ∙ some)

-- the policy that stands there with its maps is what is installed
pub stands : (generation : ℕ) (equipped : Option EquippedFacts) (e : EquippedFacts) (a : InstalledFacts)
    → installed_of generation equipped ≡ a → equipped ≡ Some e → installed_of generation (Some e) ≡ a
stands generation equipped e a view some = ap (installed_of generation) (sym some) ∙ view

-- what it answered may be remembered of it
pub remembered : (generation : ℕ) (equipped : Option EquippedFacts) (e left : EquippedFacts)
    (a : InstalledFacts) (context : List ℕ) (now processor : ℕ) (calls : List CounterCall) (done : RunResult)
    → installed_of generation equipped ≡ a → equipped ≡ Some e → IsEquipped (policy_in equipped) (maps_in equipped)
    → IfSome a.policy (λ p. length context ≡ context_length_of p.hook p.version) → ((i : ℕ) → slice_index context i < 256)
    → now < 2 ^ 64 → processor < 2 ^ 32 → Answers e.0 context e.1 now processor done.r0 left.1 done.steps calls
    → RunsWithin e.0 done.steps calls → left.0 ≡ e.0
    → HasAnswered left.0 done
remembered generation equipped e left a context now processor calls done view some ready asked bytes l k answers within same =
    let long =
    subst (λ (b : InstalledFacts). IfSome b.policy (λ p. length context ≡ context_length_of p.hook p.version))
    (sym (stands generation equipped e a view some)) asked in
    let there = subst (λ o. IsEquipped (policy_in o) (maps_in o)) some ready in
    subst (λ p. HasAnswered p done) (sym same) (record {
      context = context;
      maps = e.1;
      left = left.1;
      now = now;
      processor = processor;
      calls = calls;
      asked = record { accepted = there.0; long = long; bytes = bytes; shapes = there.1; now_fits = l; processor_fits = k };
      answers = answers;
      within = within;
    })

-- after a run the same policy is installed, with the maps that the run leaves, and the answer is that of what is installed
pub asked : (generation : ℕ) (equipped : Option EquippedFacts) (e left : EquippedFacts) (a : InstalledFacts)
    (context : List ℕ) (now processor : ℕ) (calls : List CounterCall) (done : RunResult)
    → installed_of generation equipped ≡ a → equipped ≡ Some e
    → Answers e.0 context e.1 now processor done.r0 left.1 done.steps calls → RunsWithin e.0 done.steps calls
    → HaveShapes left.0.shapes left.1 → left.0 ≡ e.0
    → AnswersAt a context now processor done.r0 left.1 done.steps calls × IfSome a.policy (λ p. RunsWithin p done.steps calls) ×
    IfSome a.policy (λ p. HaveShapes p.shapes left.1) × (installed_of generation (Some left) ≡ record a { maps = left.1 })
asked generation equipped e left a context now processor calls done view some answers within shapes same =
    let here = stands generation equipped e a view some in (
      subst (λ (b : InstalledFacts). AnswersAt b context now processor done.r0 left.1 done.steps calls) here answers,
      subst (λ (b : InstalledFacts). IfSome b.policy (λ p. RunsWithin p done.steps calls)) here within,
      subst (λ (b : InstalledFacts). IfSome b.policy (λ p. HaveShapes p.shapes left.1)) here
          (subst (λ (p : Accepted). HaveShapes p.shapes left.1) same shapes),
      ap (λ (p : Accepted). installed_of generation (Some (p, left.1))) same ∙ ap (λ (b : InstalledFacts). record b { maps = left.1 }) here,
    )
