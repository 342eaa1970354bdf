-- The loads that the journal keeps, as processors and inboxes change.
use Rattle.std.proofs.Common.{◌≡◌, ℕ, zero, suc, ◌+◌, ◌<◌, List, [], ◌∷◌, length, refl, ap, arith, get_or, set, replicate}
use Rattle.bq_disc.specs.Tasks.{Task}
use Rattle.bq_parts.specs.Processors.{Processor, new_processor, size_of, load_of}
use Rattle.bq_parts.specs.World.{loads_of}

-- a processor that is replaced changes its own load only
pub loads_set : (ps : List Processor) (boxes : List (List Task)) (c : ℕ) (q : Processor)
    → length boxes ≡ length ps
    → loads_of (set ps c q) boxes ≡ set (loads_of ps boxes) c (load_of q (get_or boxes c []))
loads_set [] boxes c q e = refl
loads_set (p ∷ ps) [] c q e = absurd (omega arith)
loads_set (p ∷ ps) (t ∷ boxes) zero q e = refl
loads_set (p ∷ ps) (t ∷ boxes) (suc c) q e = ap (λ ns. load_of p t ∷ ns) (loads_set ps boxes c q (omega arith))

-- a processor that is replaced by one of the same size changes no load
pub loads_same : (ps : List Processor) (boxes : List (List Task)) (c : ℕ) (q : Processor)
    → size_of q ≡ size_of (get_or ps c new_processor) → loads_of (set ps c q) boxes ≡ loads_of ps boxes
loads_same [] boxes c q e = refl
loads_same (p ∷ ps) [] zero q e = refl
loads_same (p ∷ ps) [] (suc c) q e = refl
loads_same (p ∷ ps) (t ∷ boxes) zero q e = ap (λ n. (n + length t) ∷ loads_of ps boxes) e
loads_same (p ∷ ps) (t ∷ boxes) (suc c) q e = ap (λ ns. load_of p t ∷ ns) (loads_same ps boxes c q e)

-- a processor and its inbox that are replaced by others of the same load together change no load
pub loads_moved : (ps : List Processor) (boxes : List (List Task)) (c : ℕ) (q : Processor) (tasks : List Task)
    → c < length ps → length boxes ≡ length ps → load_of q tasks ≡ load_of (get_or ps c new_processor) (get_or boxes c [])
    → loads_of (set ps c q) (set boxes c tasks) ≡ loads_of ps boxes
loads_moved [] boxes c q tasks l s e = absurd (omega arith)
loads_moved (p ∷ ps) [] c q tasks l s e = absurd (omega arith)
loads_moved (p ∷ ps) (t ∷ boxes) zero q tasks l s e = ap (λ n. n ∷ loads_of ps boxes) e
loads_moved (p ∷ ps) (t ∷ boxes) (suc c) q tasks l s e =
    ap (λ ns. load_of p t ∷ ns) (loads_moved ps boxes c q tasks (omega arith) (omega arith) e)

-- the load that is kept at a processor's number is that of the processor and its inbox
pub load_kept : (ps : List Processor) (boxes : List (List Task)) (c : ℕ)
    → length boxes ≡ length ps → c < length ps
    → get_or (loads_of ps boxes) c 0 ≡ load_of (get_or ps c new_processor) (get_or boxes c [])
load_kept [] boxes c e l = absurd (omega arith)
load_kept (p ∷ ps) [] c e l = absurd (omega arith)
load_kept (p ∷ ps) (t ∷ boxes) zero e l = refl
load_kept (p ∷ ps) (t ∷ boxes) (suc c) e l = load_kept ps boxes c (omega arith) (omega arith)

-- an inbox that is replaced changes the load of its own processor only
pub loads_box : (ps : List Processor) (boxes : List (List Task)) (b : ℕ) (ys : List Task)
    → length boxes ≡ length ps
    → loads_of ps (set boxes b ys) ≡ set (loads_of ps boxes) b (load_of (get_or ps b new_processor) ys)
loads_box [] [] b ys e = refl
loads_box [] (t ∷ boxes) b ys e = absurd (omega arith)
loads_box (p ∷ ps) [] b ys e = absurd (omega arith)
loads_box (p ∷ ps) (t ∷ boxes) zero ys e = refl
loads_box (p ∷ ps) (t ∷ boxes) (suc b) ys e = ap (λ ns. load_of p t ∷ ns) (loads_box ps boxes b ys (omega arith))

-- at the opening there is no load
pub opening_loads : (n : ℕ) → loads_of (replicate n new_processor) (replicate n []) ≡ replicate n 0
opening_loads zero = refl
opening_loads (suc n) = ap (λ ns. 0 ∷ ns) (opening_loads n)
