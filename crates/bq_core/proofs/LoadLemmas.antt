-- The loads of the processors, found one after another.
use Rattle.std.proofs.Common.{◌≡◌, ℕ, ◌+◌, ◌<◌, ◌≤◌, ◌++◌, List, [], ◌∷◌, length, get_or, drop, sym, ap, ◌∙◌, append_assoc, append-nil, arith}
use Rattle.std.proofs.Math.ListN.{length-append}
use Rattle.std.proofs.lemmas.List.{at_drop_more, at_drop_all, get_or_read}
use Rattle.bq_disc.specs.Tasks.{Task}
use Rattle.bq_parts.specs.Processors.{Processor, new_processor, load_of}
use Rattle.bq_parts.specs.World.{loads_of}

-- the loads from a place on begin with the load of that place
loads_from : (ps : List Processor) (xss : List (List Task)) (i : ℕ) (p : Processor) (xs : List Task) → i < length ps → i < length xss →
    loads_of (drop i ps) (drop i xss) ≡ load_of (get_or ps i p) (get_or xss i xs) ∷ loads_of (drop (i + 1) ps) (drop (i + 1) xss)
loads_from ps xss i p xs h k =
    at_drop_more (λ (qs : List Processor). loads_of qs (drop i xss)) ps i p h
    ∙ at_drop_more (λ (yss : List (List Task)). loads_of (get_or ps i p ∷ drop (i + 1) ps) yss) xss i xs k

-- the loads found so far and those of the places that are left stay all loads, as the next one is found
pub one_more : (ps : List Processor) (xss : List (List Task)) (loads more : List ℕ) (i load : ℕ)
    (p : Processor) (xs : List Task)
    → loads ++ loads_of (drop i ps) (drop i xss) ≡ loads_of ps xss → more ≡ loads ++ load ∷ [] → load ≡ load_of p xs
    → p ≡ get_or ps i p → xs ≡ get_or xss i xs → i < length ps → length ps ≡ length xss
    → more ++ loads_of (drop (i + 1) ps) (drop (i + 1) xss) ≡ loads_of ps xss
one_more ps xss loads more i load p xs goes e is at_p at_xs h same =
    let rest = loads_of (drop (i + 1) ps) (drop (i + 1) xss) in
    let inside : i < length xss = rw (← same) h in
    let next : load ≡ load_of (get_or ps i p) (get_or xss i xs) =
    is ∙ ap (λ (q : Processor). load_of q xs) at_p ∙ ap (λ (ys : List Task). load_of (get_or ps i p) ys) at_xs in
    let step : load ∷ rest ≡ loads_of (drop i ps) (drop i xss) = ap (λ (n : ℕ). n ∷ rest) next ∙ sym (loads_from ps xss i p xs h inside) in
    ap (λ (ns : List ℕ). ns ++ rest) e ∙ append_assoc loads (load ∷ []) rest ∙ ap (λ (ns : List ℕ). loads ++ ns) step ∙ goes

-- one load more is one place more
pub one_longer : (loads more : List ℕ) (i load : ℕ) → more ≡ loads ++ load ∷ [] → length loads ≡ i → length more ≡ i + 1
one_longer loads more i load e h = omega (arith, ap length e, length-append loads (load ∷ []), h)

-- past the last place no load is left
pub all_found : (ps : List Processor) (xss : List (List Task)) (loads : List ℕ) (i : ℕ)
    → loads ++ loads_of (drop i ps) (drop i xss) ≡ loads_of ps xss → length ps ≤ i → loads ≡ loads_of ps xss
all_found ps xss loads i goes h =
    let none : loads_of (drop i ps) (drop i xss) ≡ [] = at_drop_all (λ (qs : List Processor). loads_of qs (drop i xss)) ps i h in
    sym (append-nil loads) ∙ ap (λ (ns : List ℕ). loads ++ ns) (sym none) ∙ goes

-- where each load is small, the load of a place that was read is
pub read_is_small : (ps : List Processor) (xss : List (List Task)) (i : ℕ) (p : Processor) (xs : List Task)
    → load_of (get_or ps i new_processor) (get_or xss i []) < 65536 → p ≡ get_or ps i p → xs ≡ get_or xss i xs
    → i < length ps → length ps ≡ length xss
    → load_of p xs < 65536
read_is_small ps xss i p xs small at_p at_xs h same =
    let inside : i < length xss = rw (← same) h in
    let processor : p ≡ get_or ps i new_processor = get_or_read ps i p h at_p new_processor in
    let inbox : xs ≡ get_or xss i [] = get_or_read xss i xs inside at_xs [] in
    rw (processor, inbox) small
