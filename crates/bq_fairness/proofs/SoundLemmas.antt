-- What a Tick keeps of every task that is present, and what a history adds to its virtual time.
use Rattle.std.proofs.Common.{◌≡◌, ℕ, ◌+◌, ◌-◌, ◌*◌, ◌/◌, ◌^◌, ◌≤◌, max, min, List, [], ◌∷◌, Some, refl, ap, sym, ◌∙◌, arith}
use Rattle.std.specs.Prelude.{All}
use Rattle.std.proofs.lemmas.List.Elements.{All-contains}
use Rattle.std.proofs.lemmas.Nat.{le-div}
use Rattle.std.proofs.Math.Nat.{div-mul-le_self, mul-le-mul_right}
use Rattle.bq_weights.specs.VirtualTime.{IsWeight, vdelta_of}
use Rattle.bq_disc.specs.Tasks.{Task}
use Rattle.bq_disc.specs.Queues.{HasDistinctIds}
use Rattle.bq_disc.specs.Discipline.{Discipline}
use Rattle.bq_disc.specs.OneProcessor.{Running, present_at, reading, ticked, rise}
use Rattle.bq_disc.proofs.SetLemmas.{Contains-find_task}
use Rattle.bq_cfs.specs.Spread.{AreTasksSound}
use Rattle.bq_fairness.specs.Histories.{HasRoom, history, task_at, tick_charge, served}
use Rattle.bq_fairness.proofs.TickLemmas.{Change, Stays, Runs, tick_changed, tick_came, tick_keeps}

-- what holds of all that are present holds of the one of an id
pub of_each : (P : Task → Type 0) (p : Running) (i : ℕ) (t : Task) → All P (present_at p) → task_at i p ≡ Some t → P t
of_each P p i t h f = All-contains P (present_at p) t h (Contains-find_task i (present_at p) t f)

-- a shorter time takes no more virtual time
pub vdelta_of-le : (x r w : ℕ) → 15 ≤ w → x ≤ r → vdelta_of x w ≤ vdelta_of r w
vdelta_of-le x r w low le = le-div (x * 1024 / w) (r * 1024) w (omega arith) (omega (arith, div-mul-le_self (x * 1024) w))

-- two times one after the other take no more virtual time apart than together
pub vdelta_of-add : (x y w : ℕ) → 15 ≤ w → vdelta_of x w + vdelta_of y w ≤ vdelta_of (x + y) w
vdelta_of-add x y w low =
    le-div (x * 1024 / w + y * 1024 / w) ((x + y) * 1024) w (omega arith)
    (omega (arith, div-mul-le_self (x * 1024) w, div-mul-le_self (y * 1024) w))

-- the virtual time of a time, times the weight, is at most 1024 times the time
pub vdelta_of-weighted : (x w : ℕ) → w * vdelta_of x w ≤ x * 1024
vdelta_of-weighted x w = omega (arith, div-mul-le_self (x * 1024) w)

-- the virtual time of a time, times the least weight, is at most 1024 times the time
vdelta_of-least : (x w : ℕ) → 15 ≤ w → 15 * vdelta_of x w ≤ x * 1024
vdelta_of-least x w low = omega (arith, vdelta_of-weighted x w, mul-le-mul_right (x * 1024 / w) low)

-- ids are distinct, each weight is in its range, and each v is at most 2^62
pub record IsWellFormed (p : Running) : Type 0 where
  pub distinct : HasDistinctIds (present_at p)
  pub weights : (i : ℕ) (t : Task) → task_at i p ≡ Some t → IsWeight t.weight
  pub ends : (i : ℕ) (t : Task) → task_at i p ≡ Some t → t.v ≤ 2 ^ 62

-- a sound processor is well formed, the task of each id being one that is present
pub well_formed : (p : Running) → AreTasksSound p → IsWellFormed p
well_formed p s = record {
  distinct = s.distinct;
  weights = λ i t f. of_each (λ (x : Task). IsWeight x.weight) p i t s.weights f;
  ends = λ i t f. of_each (λ (x : Task). x.v ≤ 2 ^ 62) p i t s.ends f;
}

-- how v and weight change, in numbers
pub record Rises (d : Discipline) (p : Running) (now i : ℕ) (t u : Task) : Type 0 where
  pub v : u.v ≡ min (t.v + tick_charge i p now) (2 ^ 62)
  pub weight : u.weight ≡ t.weight
  pub slice : u.slice ≡ t.slice
  pub most : tick_charge i p now ≤ vdelta_of (rise p now) t.weight

-- as time passes a task's v rises by its charge, which is no more than the rise takes, and its weight and slice stay
pub change_rises : (d : Discipline) (p : Running) (now i : ℕ) (t u : Task) → t.v ≤ 2 ^ 62 → Change d p now i t u → Rises d p now i t u
change_rises d p now i t u h (Stays e z) =
    let v : u.v ≡ t.v = ap (λ (x : Task). x.v) e in
    record { v = omega arith; weight = ap (λ (x : Task). x.weight) e; slice = ap (λ (x : Task). x.slice) e; most = omega arith }
change_rises d p now i t u h (Runs c e z) = record {
  v = ap (λ (x : Task). x.v) e ∙ ap (λ n. min (t.v + n) (2 ^ 62)) (sym z);
  weight = ap (λ (x : Task). x.weight) e;
  slice = ap (λ (x : Task). x.slice) e;
  most = omega arith;
}

-- a Tick keeps the processor well formed
pub well_formed_ticked : (d : Discipline) (p : Running) (now : ℕ) → IsWellFormed p → IsWellFormed (ticked d p now)
well_formed_ticked d p now w = record {
  distinct = (tick_keeps d p now w.distinct).distinct;
  weights = λ i u f.
      let b = tick_came d p now i u w.distinct f in
      let r = change_rises d p now i b.0 u (w.ends i b.0 b.1) b.2 in
      let h = w.weights i b.0 b.1 in
      let e = r.weight in
      (omega arith, omega arith);
  ends = λ i u f.
      let b = tick_came d p now i u w.distinct f in
      let r = change_rises d p now i b.0 u (w.ends i b.0 b.1) b.2 in
      let v = r.v in
      omega arith;
}

-- Room

-- virtual time has room for a task, as the clock stands
abbrev pub HasRoomAt : ℕ → Task → Type 0
HasRoomAt last t = 15 * t.v + 1024 * (2 ^ 48 - 1 - last) ≤ 15 * 2 ^ 62

-- each task that is present has room
abbrev pub EachHasRoom : Running → Type 0
EachHasRoom p = (i : ℕ) (t : Task) → task_at i p ≡ Some t → HasRoomAt p.last t

-- where all that are present have room, the task of each id has
pub each_has_room : (p : Running) → HasRoom p → EachHasRoom p
each_has_room p h = λ i t f. of_each (HasRoomAt p.last) p i t h f

-- a Tick does not take a task with room to the end of the numbers
pub tick_leaves_room : (last now v w c : ℕ) → 15 ≤ w → c ≤ vdelta_of (reading last now - last) w
    → 15 * v + 1024 * (2 ^ 48 - 1 - last) ≤ 15 * 2 ^ 62
    → (v + c ≤ 2 ^ 62) × (15 * (v + c) + 1024 * (2 ^ 48 - 1 - reading last now) ≤ 15 * 2 ^ 62)
tick_leaves_room last now v w c low le room =
    let x = max last (min now (2 ^ 48 - 1)) - last in
    let most : 15 * c ≤ x * 1024 = omega (arith, vdelta_of-least x w low) in
    (omega arith, omega arith)

-- a Tick leaves room for each task that had it
pub room_ticked : (d : Discipline) (p : Running) (now : ℕ) → IsWellFormed p → EachHasRoom p → EachHasRoom (ticked d p now)
room_ticked d p now w room i u f =
    let b = tick_came d p now i u w.distinct f in
    let t = b.0 in
    let r = change_rises d p now i t u (w.ends i t b.1) b.2 in
    let after = tick_leaves_room p.last now t.v t.weight (tick_charge i p now) (w.weights i t b.1).0 r.most (room i t b.1) in
    let last : (ticked d p now).last ≡ reading p.last now = (tick_keeps d p now w.distinct).last in
    let v : u.v ≡ t.v + tick_charge i p now = let e = r.v in omega (arith, after.0) in
    rw (last, v) after.1

-- Histories

-- where a task has got in a history: its weight and slice stay, and its virtual time rises by what it is served
abbrev pub GotTo : Discipline → Running → List ℕ → ℕ → Task → Type 0
GotTo d p nows i t =
    (u : Task) × (task_at i (history d p nows) ≡ Some u) × (u.v ≡ t.v + served i d p nows) × (u.weight ≡ t.weight)
    × (u.slice ≡ t.slice)

-- a task with room gets in a history as far as it is served, with its weight and slice
pub got_to : (d : Discipline) (p : Running) (nows : List ℕ) (i : ℕ) (t : Task)
    → IsWellFormed p → EachHasRoom p → task_at i p ≡ Some t → GotTo d p nows i t
got_to d p [] i t w room f = (t, f, omega arith, refl, refl)
got_to d p (now ∷ nows) i t w room f =
    let c = tick_changed d p now i t w.distinct f in
    let u = c.0 in
    let r = change_rises d p now i t u (w.ends i t f) c.2 in
    let after = tick_leaves_room p.last now t.v t.weight (tick_charge i p now) (w.weights i t f).0 r.most (room i t f) in
    let v : u.v ≡ t.v + tick_charge i p now = let e = r.v in omega (arith, after.0) in
    let g = got_to d (ticked d p now) nows i u (well_formed_ticked d p now w) (room_ticked d p now w room) c.1 in
    let rest = g.2 in
    (g.0, g.1, omega arith, g.3 ∙ r.weight, g.4 ∙ r.slice)

-- any number of Ticks keep the processor well formed
pub well_formed_history : (d : Discipline) (p : Running) (nows : List ℕ) → IsWellFormed p → IsWellFormed (history d p nows)
well_formed_history d p [] w = w
well_formed_history d p (now ∷ nows) w = well_formed_history d (ticked d p now) nows (well_formed_ticked d p now w)
