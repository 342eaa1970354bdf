-- The lines of the steps, one after another.
use Rattle.std.proofs.Common.{◌≡◌, ℕ, ◌<◌, ◌≤◌, ◌-◌, List, [], ◌∷◌, ◌++◌, length, take, drop, get_or, append_assoc, append-nil, refl, sym, subst, ap, ◌∙◌, arith}
use Rattle.std.proofs.Math.Seq.{take-length}
use Rattle.bq_verify.specs.Accepted.{Accepted}
use Rattle.bq_interp.specs.declared.traced.Snapshot.{Snapshot}
use Rattle.bq_policy_run.specs.Tracing.{AreSteps, step_text}

-- a list that is not empty is its first and the rest
pub first_and_rest : (l : List Snapshot) (d : Snapshot) → 1 ≤ length l → l ≡ get_or l 0 d ∷ take (length l - 1) (drop 1 l)
first_and_rest [] d some = absurd (omega (arith, some))
first_and_rest (m ∷ after) d some =
    let count : length (m ∷ after) - 1 ≡ length after = omega arith in
    ap (λ (ms : List Snapshot). m ∷ ms) (sym (ap (λ (n : ℕ). take n after) count ∙ take-length after))

-- with the lines of one step more, what tells the rest still makes it whole
pub one_more : (program : Accepted) (snapshots rest after : List Snapshot) (m : Snapshot) (reported place step new : List ℕ)
    → rest ≡ m ∷ after → ((more : List ℕ) → AreSteps program rest more → AreSteps program snapshots (reported ++ more))
    → step ≡ step_text program m after → new ≡ reported ++ (place ++ step) → (more : List ℕ) → AreSteps program after more
    → AreSteps program snapshots (new ++ more)
one_more program snapshots rest after m reported place step new split all steps news more h =
    let begun : AreSteps program (m ∷ after) (place ++ (step ++ more)) =
    (place, more, ap (λ (s : List ℕ). place ++ (s ++ more)) steps, h) in
    let whole : AreSteps program rest (place ++ (step ++ more)) =
    subst (λ (ms : List Snapshot). AreSteps program ms (place ++ (step ++ more))) (sym split) begun in
    let joined : new ++ more ≡ reported ++ (place ++ (step ++ more)) =
    ap (λ (n : List ℕ). n ++ more) news ∙ append_assoc reported (place ++ step) more
    ∙ ap (λ (t : List ℕ). reported ++ t) (append_assoc place step more) in
    subst (λ (t : List ℕ). AreSteps program snapshots t) (sym joined) (all (place ++ (step ++ more)) whole)

-- where nothing is left, what is shown is all
pub reported_all : (program : Accepted) (snapshots rest : List Snapshot) (reported : List ℕ)
    → length rest < 1 → ((more : List ℕ) → AreSteps program rest more → AreSteps program snapshots (reported ++ more))
    → AreSteps program snapshots reported
reported_all program snapshots [] reported none all =
    subst (λ (t : List ℕ). AreSteps program snapshots t) (append-nil reported) (all [] refl)
reported_all program snapshots (m ∷ rest) reported none all = absurd (omega (arith, none))
