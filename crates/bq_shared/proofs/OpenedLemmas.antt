-- The parts at the start: each once, and as the opening world has them.
use Rattle.std.proofs.Common.{◌≡◌, ◌≢◌, ℕ, zero, suc, ◌+◌, ◌-◌, ◌<◌, ◌≤◌, List, [], ◌∷◌, ◌++◌, map, Bool, cond, eqb, eq-eqb, ne_eqb, refl, ap, ◌∙◌, arith}
use mathlib.Core.Logic.{dite}
use native.Mathlib.Decide.{ℕ_discrete}
use Rattle.bq_history.specs.Whole.{count, Each}
use Rattle.bq_history.proofs.MoveLemmas.{count-append, each-append}
use Rattle.bq_history.specs.Items.{part_item}
use Rattle.std.proofs.lemmas.List.{length-replicate}
use Rattle.bq_parts.specs.Processors.{new_processor}
use Rattle.bq_core.proofs.OnTheWayLemmas.{same_everywhere}
use Rattle.bq_parts.specs.World.{opening_world}
use Rattle.bq_shared.proofs.SeatLemmas.{left_over}
use Rattle.bq_shared.specs.Parts.{same_part, HasPart, first_parts, cpus_from, inboxes_from}
use Rattle.bq_shared.specs.Opened.{ItemOf, cpu_items, inbox_items}
use Rattle.bq_shared.specs.declared.world_part.WorldPart.{WorldPart}
use Rattle.bq_shared.specs.declared.world_part.WorldPart.TheVariants as part

-- how often d is among the n numbers from c on
abbrev tally : ℕ → ℕ → ℕ → ℕ
tally d c zero = 0
tally d c (suc n) = cond {A = ℕ} (eqb d c) 1 0 + tally d (c + 1) n

-- a number below c is not among the numbers from c on
tally_below : (d c n : ℕ) → d < c → tally d c n ≡ 0
tally_below d c zero b = refl
tally_below d c (suc n) b =
    let h = tally_below d (c + 1) n (omega arith) in
    let e : cond {A = ℕ} (eqb d c) 1 0 ≡ 0 = ap (λ (x : Bool). cond {A = ℕ} x 1 0) (ne_eqb d c (λ (i : d ≡ c). omega arith)) in
    omega arith

-- each number is at most once among them
tally_once : (d c n : ℕ) → tally d c n ≤ 1
tally_once d c zero = omega arith
tally_once d c (suc n) =
    dite (ℕ_discrete d c)
    (λ (e : d ≡ c).
    let h = tally_below d (c + 1) n (omega arith) in
    let one : cond {A = ℕ} (eqb d c) 1 0 ≡ 1 = ap (λ (x : Bool). cond {A = ℕ} x 1 0) (eq-eqb d c e) in
    omega arith)
    (λ (i : d ≢ c).
    let h = tally_once d (c + 1) n in
    let none : cond {A = ℕ} (eqb d c) 1 0 ≡ 0 = ap (λ (x : Bool). cond {A = ℕ} x 1 0) (ne_eqb d c i) in
    omega arith)

-- a processor, or an inbox, is among those from c on as often as its number is:
in_cpus : (d c n : ℕ) (r : _) → count (same_part (part.Cpu d r)) (cpus_from c n) ≡ tally d c n
in_cpus d c zero r = refl
in_cpus d c (suc n) r = ap (λ (k : ℕ). cond {A = ℕ} (eqb d c) 1 0 + k) (in_cpus d (c + 1) n r)

in_inboxes : (d c n : ℕ) (j : _) → count (same_part (part.Inbox d j)) (inboxes_from c n) ≡ tally d c n
in_inboxes d c zero j = refl
in_inboxes d c (suc n) j = ap (λ (k : ℕ). cond {A = ℕ} (eqb d c) 1 0 + k) (in_inboxes d (c + 1) n j)

-- no processor is among the inboxes, and no inbox among the processors:
none_in_inboxes : (d c n : ℕ) (r : _) → count (same_part (part.Cpu d r)) (inboxes_from c n) ≡ 0
none_in_inboxes d c zero r = refl
none_in_inboxes d c (suc n) r = let h = none_in_inboxes d (c + 1) n r in omega arith

none_in_cpus : (d c n : ℕ) (j : _) → count (same_part (part.Inbox d j)) (cpus_from c n) ≡ 0
none_in_cpus d c zero j = refl
none_in_cpus d c (suc n) j = let h = none_in_cpus d (c + 1) n j in omega arith

-- no lobby is among the processors and the inboxes
no_lobby : (l : _) (c n : ℕ) → count (same_part (part.Lobby l)) (cpus_from c n) + count (same_part (part.Lobby l)) (inboxes_from c n) ≡ 0
no_lobby l c zero = refl
no_lobby l c (suc n) = let h = no_lobby l (c + 1) n in omega arith

-- each part stands at most once among the first ones
pub each_part_once : (n : ℕ) (x : WorldPart) → count (same_part x) (first_parts n) ≤ 1
each_part_once n (part.Cpu d r) =
    let a = count-append (same_part (part.Cpu d r)) (cpus_from 0 n) (inboxes_from 0 n) in
    let b = in_cpus d 0 n r in
    let c = none_in_inboxes d 0 n r in
    let t = tally_once d 0 n in
    omega arith
each_part_once n (part.Inbox d j) =
    let a = count-append (same_part (part.Inbox d j)) (cpus_from 0 n) (inboxes_from 0 n) in
    let b = none_in_cpus d 0 n j in
    let c = in_inboxes d 0 n j in
    let t = tally_once d 0 n in
    omega arith
each_part_once n (part.Lobby l) =
    let a = count-append (same_part (part.Lobby l)) (cpus_from 0 n) (inboxes_from 0 n) in
    let b = no_lobby l 0 n in
    omega arith

-- the opening world has each of the first processors, and each of the first inboxes:
cpus_there : (all c n : ℕ) → c + n ≡ all → Each (HasPart (opening_world all)) (cpus_from c n)
cpus_there all c zero e = tt
cpus_there all c (suc n) e = ((rw length-replicate (omega arith), same_everywhere new_processor all c), cpus_there all (c + 1) n (omega arith))

inboxes_there : (all c n : ℕ) → c + n ≡ all → Each (HasPart (opening_world all)) (inboxes_from c n)
inboxes_there all c zero e = tt
inboxes_there all c (suc n) e = ((rw length-replicate (omega arith), same_everywhere [] all c), inboxes_there all (c + 1) n (omega arith))

-- each of the first parts is one that the opening world has
pub parts_there : (n : ℕ) → Each (HasPart (opening_world n)) (first_parts n)
parts_there n = (
  refl,
  each-append (HasPart (opening_world n)) (cpus_from 0 n) (inboxes_from 0 n) (cpus_there n 0 n (omega arith))
      (inboxes_there n 0 n (omega arith)),
)

-- of the processors' items that are left the next comes first, and then the others
pub cpu_turn : (i n : ℕ) (rest : List ItemOf) → i < n
    → cpu_items i (n - i) ++ rest ≡ part_item (part.Cpu i new_processor) ∷ (cpu_items (i + 1) (n - (i + 1)) ++ rest)
cpu_turn i n rest b = ap (λ (k : ℕ). cpu_items i k ++ rest) (left_over i n b)

-- of the inboxes' items that are left the next comes first, and then the others
pub inbox_turn : (i n : ℕ) (rest : List ItemOf) → i < n
    → inbox_items i (n - i) ++ rest ≡ part_item (part.Inbox i []) ∷ (inbox_items (i + 1) (n - (i + 1)) ++ rest)
inbox_turn i n rest b = ap (λ (k : ℕ). inbox_items i k ++ rest) (left_over i n b)

-- the items of the first processors come first, then those of the other parts
cpus_first : (c n : ℕ) (ps : List WorldPart) (rest : List ItemOf)
    → map part_item (cpus_from c n ++ ps) ++ rest ≡ cpu_items c n ++ (map part_item ps ++ rest)
cpus_first c zero ps rest = refl
cpus_first c (suc n) ps rest = ap (λ ys. part_item (part.Cpu c new_processor) ∷ ys) (cpus_first (c + 1) n ps rest)

-- the items of the first inboxes are those that are given out, whatever comes behind them
inboxes_next : (c n : ℕ) (rest : List ItemOf) → map part_item (inboxes_from c n) ++ rest ≡ inbox_items c n ++ rest
inboxes_next c zero rest = refl
inboxes_next c (suc n) rest = ap (λ ys. part_item (part.Inbox c []) ∷ ys) (inboxes_next (c + 1) n rest)

-- the items of processors and inboxes are those of all processors, and then those of all inboxes
pub processors_then_inboxes : (n : ℕ) (rest : List ItemOf)
    → map part_item (cpus_from 0 n ++ inboxes_from 0 n) ++ rest ≡ cpu_items 0 n ++ (inbox_items 0 n ++ rest)
processors_then_inboxes n rest = cpus_first 0 n (inboxes_from 0 n) rest ∙ ap (λ ys. cpu_items 0 n ++ ys) (inboxes_next 0 n rest)
