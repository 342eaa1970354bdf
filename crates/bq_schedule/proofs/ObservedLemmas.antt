-- No processor's readings lie outside the observed time.
use Rattle.std.proofs.Common.{◌≡◌, ℕ, zero, suc, ◌-◌, ◌<◌, ◌≤◌, Bool, true, false, cond, List, [], ◌∷◌, length, get_or, map, filter, max, min, Option, Some, None, is_some, unwrap_or, refl, subst, arith}
use Rattle.std.specs.List.{Contains, cons_option, filter_map, fold, reduce}
use Rattle.bq_schedule.specs.declared.figures.ProcessorFigures.{ProcessorFigures}
use Rattle.bq_schedule.specs.Figures.{Figures, processor_in_figures, unread}
use Rattle.bq_schedule.specs.Observed.{observed_time, first_readings, last_readings}

-- the least number so far never grows, and the greatest never falls:
fold_min-le : (a b : ℕ) (xs : List ℕ) → a ≤ b → fold min a xs ≤ b
fold_min-le a b [] h = h
fold_min-le a b (x ∷ xs) h = fold_min-le (min a x) b xs (omega arith)

fold_max-ge : (a b : ℕ) (xs : List ℕ) → b ≤ a → b ≤ fold max a xs
fold_max-ge a b [] h = h
fold_max-ge a b (x ∷ xs) h = fold_max-ge (max a x) b xs (omega arith)

-- the least is no greater than any number of the list, and the greatest no less:
fold_min-le_at : (a : ℕ) (xs : List ℕ) (k d : ℕ) → k < length xs → fold min a xs ≤ get_or xs k d
fold_min-le_at a [] k d h = absurd (omega (arith, h))
fold_min-le_at a (x ∷ xs) zero d h = fold_min-le (min a x) x xs (omega arith)
fold_min-le_at a (x ∷ xs) (suc k) d h = fold_min-le_at (min a x) xs k d (omega (arith, h))

fold_max-ge_at : (a : ℕ) (xs : List ℕ) (k d : ℕ) → k < length xs → get_or xs k d ≤ fold max a xs
fold_max-ge_at a [] k d h = absurd (omega (arith, h))
fold_max-ge_at a (x ∷ xs) zero d h = fold_max-ge (max a x) x xs (omega arith)
fold_max-ge_at a (x ∷ xs) (suc k) d h = fold_max-ge_at (max a x) xs k d (omega (arith, h))

-- the least of some numbers is no greater than any of them
least-le : (xs : List ℕ) (x : ℕ) → Contains xs x → unwrap_or (reduce min xs) 0 ≤ x
least-le [] x (k, h, e) = absurd (omega (arith, h))
least-le (y ∷ xs) x (zero, h, e) = fold_min-le y x xs (omega (arith, e))
least-le (y ∷ xs) x (suc k, h, e) = subst (λ n. fold min y xs ≤ n) e (fold_min-le_at y xs k x (omega (arith, h)))

-- the greatest of some numbers is no less than any of them
greatest-ge : (xs : List ℕ) (x : ℕ) → Contains xs x → x ≤ unwrap_or (reduce max xs) 0
greatest-ge [] x (k, h, e) = absurd (omega (arith, h))
greatest-ge (y ∷ xs) x (zero, h, e) = fold_max-ge y x xs (omega (arith, e))
greatest-ge (y ∷ xs) x (suc k, h, e) = subst (λ n. n ≤ fold max y xs) e (fold_max-ge_at y xs k x (omega (arith, h)))

-- what a list holds it still holds with one more in front, put there always or on a condition:
Contains-cons : {X : Type 0} (y : X) (xs : List X) (x : X) → Contains xs x → Contains (y ∷ xs) x
Contains-cons {X} y xs x (k, h, e) = (suc k, omega (arith, h), e)

first-cons : (o : Option ℕ) (xs : List ℕ) (x : ℕ) → Contains xs x → Contains (cons_option o xs) x
first-cons None xs x h = h
first-cons (Some y) xs x h = Contains-cons y xs x h

last-cons : (b : Bool) (p : ProcessorFigures) (ps : List ProcessorFigures) (x : ℕ)
    → Contains (map (λ (p : ProcessorFigures). p.last) ps) x → Contains (map (λ (p : ProcessorFigures). p.last) (cond b (p ∷ ps) ps)) x
last-cons false p ps x h = h
last-cons true p ps x h = Contains-cons p.last (map (λ (p : ProcessorFigures). p.last) ps) x h

-- of a processor whose clock was read, the first and the last reading are among those of all:
first-is_in : (ps : List ProcessorFigures) (i first : ℕ) (d : ProcessorFigures) → i < length ps → (get_or ps i d).first ≡ Some first
    → Contains (filter_map (λ (p : ProcessorFigures). p.first) ps) first
first-is_in [] i first d h e = absurd (omega (arith, h))
first-is_in (p ∷ ps) zero first d h e = rw e (0, omega arith, refl)
first-is_in (p ∷ ps) (suc i) first d h e =
    first-cons p.first (filter_map (λ (p : ProcessorFigures). p.first) ps) first (first-is_in ps i first d (omega (arith, h)) e)

last-is_in : (ps : List ProcessorFigures) (i first : ℕ) (d : ProcessorFigures) → i < length ps → (get_or ps i d).first ≡ Some first
    → Contains (map (λ (p : ProcessorFigures). p.last) (filter (λ (p : ProcessorFigures). is_some p.first) ps)) (get_or ps i d).last
last-is_in [] i first d h e = absurd (omega (arith, h))
last-is_in (p ∷ ps) zero first d h e = rw e (0, omega arith, refl)
last-is_in (p ∷ ps) (suc i) first d h e =
    last-cons (is_some p.first) p (filter (λ (p : ProcessorFigures). is_some p.first) ps) (get_or ps i d).last
    (last-is_in ps i first d (omega (arith, h)) e)

-- the time from a processor's first reading to its last is no longer than the observed time
pub window-observed : (s : Figures) (processor first : ℕ) → processor < length s.processors → (processor_in_figures s processor).first ≡ Some first
    → (processor_in_figures s processor).last - first ≤ observed_time s
unfolding observed_time
window-observed s processor first h e =
    let earliest = least-le (first_readings s) first (first-is_in s.processors processor first unread h e) in
    let latest =
    greatest-ge (last_readings s) (processor_in_figures s processor).last (last-is_in s.processors processor first unread h e) in
    omega (arith, earliest, latest)
