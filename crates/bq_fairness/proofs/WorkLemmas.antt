-- What is booked is the time that passes, except for what rounding loses; and it is what the sum of weight times v rises by.
use Rattle.std.proofs.Common.{◌≡◌, ℕ, ◌+◌, ◌-◌, ◌*◌, ◌^◌, ◌≤◌, min, Bool, true, false, List, [], ◌∷◌, length, Option, Some, None, refl, ap, sym, ◌∙◌, arith}
use Rattle.std.specs.Prelude.{IsSome}
use Rattle.std.specs.Option.{option_map_or}
use Rattle.bq_weights.specs.VirtualTime.{vdelta_of}
use Rattle.bq_disc.specs.Tasks.{Task, find_task}
use Rattle.bq_disc.specs.Discipline.{Discipline, next_of}
use Rattle.bq_disc.specs.OneProcessor.{Running, reading, charge, decided, exchanged, own_preempt, ticked, rise}
use Rattle.bq_cfs.proofs.SpreadStayLemmas.{busy_processor}
use Rattle.bq_fairness.specs.Histories.{history}
use Rattle.bq_fairness.specs.Work.{weight_present, weighted_v_at, booked_at, booked, elapsed, BooksTheTime, MovesTheSum}
use Rattle.bq_fairness.proofs.PlaceLemmas.{current_present}
use Rattle.bq_fairness.proofs.TickLemmas.{tick_keeps}
use Rattle.bq_fairness.proofs.SoundLemmas.{IsWellFormed, well_formed, well_formed_ticked, EachHasRoom, each_has_room, room_ticked, tick_leaves_room, vdelta_of-weighted}
use Rattle.bq_fairness.proofs.SumLemmas.{total_weight-ticked, weighted_sum-busy, weighted_sum-idle}

-- Where a task runs, one does after each Tick

-- where a task runs, one runs after an exchange, after any decision, after the discipline's decision, and after a Tick
busy_exchanged : (q : List Task) (mark last : ℕ) (u : Task) (o : Option Task)
    → IsSome (exchanged (busy_processor q mark u last) u o).current
busy_exchanged q mark last u None = refl
busy_exchanged q mark last u (Some m) = refl

busy_decided : (d : Discipline) (q : List Task) (mark last : ℕ) (u : Task) (b : Bool)
    → IsSome (decided d (busy_processor q mark u last) (Some u) b).current
busy_decided d q mark last u false = refl
busy_decided d q mark last u true = busy_exchanged q mark last u (find_task (next_of d u q) q)

stays_busy_at : (d : Discipline) (q : List Task) (mark : ℕ) (o : Option Task) (last : ℕ)
    → (let c : Running = record { queue = q; mark = mark; current = o; last = last } in
    IsSome o → IsSome (decided d c o (own_preempt d q o)).current)
stays_busy_at d q mark None last h = cc
stays_busy_at d q mark (Some u) last h = busy_decided d q mark last u (own_preempt d q (Some u))

stays_busy_by : (d : Discipline) (q : List Task) (mark : ℕ) (o : Option Task) (last now : ℕ)
    → (let p : Running = record { queue = q; mark = mark; current = o; last = last } in IsSome o → IsSome (ticked d p now).current)
stays_busy_by d q mark None last now h = cc
stays_busy_by d q mark (Some t) last now h =
    let p : Running = record { queue = q; mark = mark; current = Some t; last = last } in
    let c = charge d p now in
    stays_busy_at d c.queue c.mark c.current c.last refl

-- where a task runs, one runs after a Tick
pub stays_busy : (d : Discipline) (p : Running) (now : ℕ) → IsSome p.current → IsSome (ticked d p now).current
stays_busy d p now h = stays_busy_by d p.queue p.mark p.current p.last now h

-- What a Tick books

-- virtual time times the weight is the time, except for less than a weight
nearly : (x w : ℕ) → 15 ≤ w → w ≤ 88761 → x * 1024 ≤ w * vdelta_of x w + 88760
nearly x w low high = omega arith

-- what a Tick books is the time that passes, except for less than a weight
books_by : (p : Running) (now : ℕ) (o : Option Task)
    → p.current ≡ o → IsWellFormed p → IsSome o
    → (booked_at p now ≤ 1024 * rise p now) × (1024 * rise p now ≤ booked_at p now + 88760)
books_by p now None e w h = cc
books_by p now (Some t) e w h =
    let f = current_present p.queue p.mark p.current p.last t e in
    let range = w.weights t.id t f in
    let here : booked_at p now ≡ t.weight * vdelta_of (rise p now) t.weight =
    ap (λ o. option_map_or (λ (t : Task). t.weight * vdelta_of (rise p now) t.weight) o 0) e in
    let x = rise p now in
    let le = vdelta_of-weighted x t.weight in
    let near = nearly x t.weight range.0 range.1 in
    rw here (omega arith, omega arith)

-- the clock does not fall, and what Ticks book is the time that passes, except for less than a weight at each
abbrev Books : Discipline → Running → List ℕ → Type 0
Books d p nows =
    (p.last ≤ (history d p nows).last) × (booked d p nows ≤ 1024 * elapsed d p nows)
    × (1024 * elapsed d p nows ≤ booked d p nows + 88760 * length nows)

-- where a task runs, any number of Ticks book so
books : (d : Discipline) (p : Running) (nows : List ℕ) → IsWellFormed p → IsSome p.current → Books d p nows
books d p [] w h = (omega arith, omega arith, omega arith)
books d p (now ∷ nows) w h =
    let q = ticked d p now in
    let one = books_by p now p.current refl w h in
    let rest = books d q nows (well_formed_ticked d p now w) (stays_busy d p now h) in
    let last : q.last ≡ reading p.last now = (tick_keeps d p now w.distinct).last in
    let up : p.last ≤ reading p.last now = omega arith in
    let r : rise p now ≡ q.last - p.last = ap (λ n. n - p.last) (sym last) in
    let step : p.last ≤ q.last = omega arith in
    let a = rest.0 in
    let b = rest.1 in
    let c = rest.2 in
    (omega arith, omega arith, omega arith)

-- where a task runs, what Ticks book is the time that passes, except for less than a weight lost at each
pub books_the_time : BooksTheTime
books_the_time d p nows s h = let b = books d p nows (well_formed p s) h in (b.1, b.2)

-- What it moves

-- what a Tick books is what the weighted sum rises by, whether a task runs or none
moves_by : (d : Discipline) (p : Running) (now : ℕ) (o : Option Task)
    → p.current ≡ o → IsWellFormed p → EachHasRoom p
    → weighted_v_at (ticked d p now) ≡ weighted_v_at p + booked_at p now
moves_by d p now None e w room =
    let here : booked_at p now ≡ 0 = ap (λ o. option_map_or (λ (t : Task). t.weight * vdelta_of (rise p now) t.weight) o 0) e in
    omega (arith, weighted_sum-idle d p now e)
moves_by d p now (Some t) e w room =
    let f = current_present p.queue p.mark p.current p.last t e in
    let x = rise p now in
    let after = tick_leaves_room p.last now t.v t.weight (vdelta_of x t.weight) (w.weights t.id t f).0 (omega arith) (room t.id t f) in
    let here : booked_at p now ≡ t.weight * vdelta_of x t.weight =
    ap (λ o. option_map_or (λ (t : Task). t.weight * vdelta_of (rise p now) t.weight) o 0) e in
    let v : min (t.v + vdelta_of x t.weight) (2 ^ 62) ≡ t.v + vdelta_of x t.weight = omega (arith, after.0) in
    let product = ap (λ n. t.weight * n) v in
    let sum = weighted_sum-busy d p now t e in
    omega arith

-- what Ticks book is what the weighted sum rises by, and the weights stay, for a well formed processor with room
moves : (d : Discipline) (p : Running) (nows : List ℕ) → IsWellFormed p → EachHasRoom p
    → (weighted_v_at (history d p nows) ≡ weighted_v_at p + booked d p nows) × (weight_present (history d p nows) ≡ weight_present p)
moves d p [] w room = (omega arith, refl)
moves d p (now ∷ nows) w room =
    let rest = moves d (ticked d p now) nows (well_formed_ticked d p now w) (room_ticked d p now w room) in
    let one = moves_by d p now p.current refl w room in
    let m = rest.0 in
    (omega arith, rest.1 ∙ total_weight-ticked d p now)

-- what Ticks book is what the weighted sum rises by, and the weights together stay
pub moves_the_sum : MovesTheSum
moves_the_sum d p nows s room = moves d p nows (well_formed p s) (each_has_room p room)
