-- Of two tasks that are present throughout one stays near the other, where the discipline lets none run that is beyond what each other
-- reaches: a number that does not fall while time passes.
use Rattle.std.proofs.Common.{◌≡◌, ℕ, ◌+◌, ◌-◌, ◌^◌, ◌≤◌, max, Bool, true, false, cond, eqb, List, [], ◌∷◌, Option, Some, None, refl, ap, sym, ◌∙◌, arith, subst}
use Rattle.bq_weights.specs.VirtualTime.{vdelta_of}
use Rattle.bq_disc.specs.Tasks.{Task}
use Rattle.bq_disc.specs.Discipline.{Discipline, charged}
use Rattle.bq_disc.specs.OneProcessor.{Running, present_at, charge, reading, own_preempt, rise}
use Rattle.bq_disc.proofs.SetLemmas.{find_task-id}
use Rattle.bq_fairness.specs.Histories.{task_at, tick_charge}
use Rattle.bq_fairness.specs.Steps.{ProcessorStep, Pass, Decide, Enter, Leave, Mark, stepped, after_steps, step_charge, served_by, since, DecidesWithin, EntersNew, EachEntersNew, kept_current, is_leave_of, StaysThroughout}
use Rattle.bq_fairness.proofs.PlaceLemmas.{current_present}
use Rattle.bq_fairness.proofs.TickLemmas.{Change, Stays, Runs, charge_changed}
use Rattle.bq_fairness.proofs.DecideLemmas.{keeps_present}
use Rattle.bq_fairness.proofs.SoundLemmas.{vdelta_of-le, IsWellFormed, change_rises, HasRoomAt, tick_leaves_room, vdelta_of-add}
use Rattle.bq_fairness.proofs.StepLemmas.{Came, Was, Charged, Entered, step_came, ChangesBy, step_goes, well_formed_stepped}

-- a premise on each that is present
abbrev pub Each : (Task → Type 0) → Running → Type 0
Each P p = (i : ℕ) (t : Task) → task_at i p ≡ Some t → P t

-- it is kept by a step where it holds of what enters
abbrev pub OfEntered : (Task → Type 0) → ProcessorStep → Type 0
OfEntered P (Enter t) = P t
OfEntered P (Pass now) = Unit {0}
OfEntered P Decide = Unit {0}
OfEntered P (Leave k) = Unit {0}
OfEntered P Mark = Unit {0}

-- the premise holds of each task that enters by some steps
abbrev pub OfEachEntered : (Task → Type 0) → List ProcessorStep → Type 0
OfEachEntered P [] = Unit {0}
OfEachEntered P (s ∷ ss) = OfEntered P s × OfEachEntered P ss

-- a discipline, what each task reaches, and a premise on each task that time keeps
pub record IsReach (d : Discipline) (reach : Task → ℕ) (P : Task → Type 0) : Type 0 where
  pub keeps : (t : Task) (x : ℕ) → t.v ≤ 2 ^ 62 → P t → P (charged d t x)
  pub up : (t : Task) (x : ℕ) → t.v ≤ 2 ^ 62 → P t → reach t ≤ reach (charged d t x)
  pub near : (p : Running) (j : ℕ) (m t : Task) → IsWellFormed p → Each P p → (stepped d p Decide).current ≡ Some m
      → task_at j p ≡ Some t
      → m.v ≤ reach t

-- The premise is kept

-- the premise is true after a step of each that entered or was there, and so of each that is present
holds_came : (d : Discipline) (reach : Task → ℕ) (P : Task → Type 0)
    → IsReach d reach P → (p : Running) (s : ProcessorStep) (i : ℕ) (u : Task) → IsWellFormed p
    → Each P p → OfEntered P s → Came d p s i u
    → P u
holds_came d reach P r p s i u w h o (Was f) = h i u f
holds_came d reach P r p s i u w h o (Charged now t e f (Stays g z)) = subst P (sym g) (h i t f)
holds_came d reach P r p s i u w h o (Charged now t e f (Runs c g z)) = subst P (sym g) (r.keeps t (rise p now) (w.ends i t f) (h i t f))
holds_came d reach P r p s i u w h o (Entered e) = subst (OfEntered P) e o

holds_stepped : (d : Discipline) (reach : Task → ℕ) (P : Task → Type 0)
    → IsReach d reach P → (p : Running) (s : ProcessorStep) → IsWellFormed p → Each P p → EntersNew p s → OfEntered P s
    → Each P (stepped d p s)
holds_stepped d reach P r p s w h n o = λ i u f. holds_came d reach P r p s i u w h o (step_came d p s i u w.distinct n f)

-- Two tasks, u of id i and t of id j: u is beyond what t reaches by no more than the time since the last decision while it
-- runs, and by no more than r ever
record IsClose (V r n i j : ℕ) (reach : Task → ℕ) (p : Running) (u t : Task) : Type 0 where
  one : task_at i p ≡ Some u
  other : task_at j p ≡ Some t
  runs : (m : Task) → p.current ≡ Some m → m.id ≡ i → u.v ≤ max V (reach t) + vdelta_of n u.weight
  ever : u.v ≤ max V (reach t) + vdelta_of r u.weight

-- two such tasks
abbrev AreClose : ℕ → ℕ → ℕ → ℕ → ℕ → (Task → ℕ) → Running → Type 0
AreClose V r n i j reach p = (u : Task) × (t : Task) × IsClose V r n i j reach p u t

-- Time passes

-- the task that runs after time is charged is the one that ran before, by its id
current_charged : (d : Discipline) (q : List Task) (mark : ℕ) (o : Option Task) (last now : ℕ) (m : Task)
    → (let p : Running = record { queue = q; mark = mark; current = o; last = last } in
    (charge d p now).current ≡ Some m → (c : Task) × (o ≡ Some c) × (c.id ≡ m.id))
current_charged d q mark None last now m e = cc
current_charged d q mark (Some c) last now m e =
    let same : charged d c (reading last now - last) ≡ m = cc in (c, refl, ap (λ (x : Task). x.id) same)

-- as time passes, what a task reaches does not fall
reach_up : (d : Discipline) (reach : Task → ℕ) (P : Task → Type 0)
    → IsReach d reach P → (p : Running) (now j : ℕ) (t b : Task) → t.v ≤ 2 ^ 62 → P t → Change d p now j t b
    → reach t ≤ reach b
reach_up d reach P r p now j t b ends h (Stays e z) = subst (λ x. reach t ≤ reach x) (sym e) (omega arith)
reach_up d reach P r p now j t b ends h (Runs c e z) = subst (λ x. reach t ≤ reach x) (sym e) (r.up t (rise p now) ends h)

-- what u may be beyond, where it stayed or ran
passes : (d : Discipline) (V r n : ℕ) (reach : Task → ℕ) (p : Running) (now i j : ℕ) (u t a b : Task)
    → IsWellFormed p → IsClose V r n i j reach p u t → n + rise p now ≤ r → reach t ≤ reach b → Change d p now i u a
    → (a.v ≤ max V (reach b) + vdelta_of r a.weight)
    × ((m : Task) → p.current ≡ Some m → m.id ≡ i → a.v ≤ max V (reach b) + vdelta_of (n + rise p now) a.weight)
passes d V r n reach p now i j u t a b w c le up (Stays e z) =
    let low = (w.weights i u c.one).0 in
    let ever = c.ever in
    let mono = vdelta_of-le n (n + rise p now) u.weight low (omega arith) in
    rw e (omega arith, λ m f g. let h = c.runs m f g in omega arith)
passes d V r n reach p now i j u t a b w c le up (Runs f e z) =
    let ch : Change d p now i u a = Runs f e z in
    let rs = change_rises d p now i u a (w.ends i u c.one) ch in
    let v = rs.v in
    let most = rs.most in
    let low = (w.weights i u c.one).0 in
    let start = c.runs u f (find_task-id i (present_at p) u c.one) in
    let sum = vdelta_of-add n (rise p now) u.weight low in
    let mono = vdelta_of-le (n + rise p now) r u.weight low le in
    let bound : a.v ≤ max V (reach b) + vdelta_of (n + rise p now) u.weight = omega arith in
    let ever : a.v ≤ max V (reach b) + vdelta_of r u.weight = omega arith in
    rw rs.weight (ever, λ m g h. bound)

-- two such tasks stay so as time passes, which is added to the time since the last decision
close_pass : (d : Discipline) (reach : Task → ℕ) (P : Task → Type 0)
    → IsReach d reach P → (V r n : ℕ) (p : Running) (now i j : ℕ) (u t : Task) → IsWellFormed p → Each P p
    → n + rise p now ≤ r → IsClose V r n i j reach p u t
    → AreClose V r (n + rise p now) i j reach (charge d p now)
close_pass d reach P law V r n p now i j u t w h le c =
    let a = charge_changed d p now i u c.one in
    let b = charge_changed d p now j t c.other in
    let up = reach_up d reach P law p now j t b.0 (w.ends j t c.other) (h j t c.other) b.2 in
    let both = passes d V r n reach p now i j u t a.0 b.0 w c le up a.2 in (
      a.0,
      b.0,
      record {
        one = a.1;
        other = b.1;
        runs = λ m f g. let k = current_charged d p.queue p.mark p.current p.last now m f in both.1 k.0 k.1 (k.2 ∙ g);
        ever = both.0;
      },
    )

-- The rule decides

-- what is there is one task
same_task : (o : Option Task) (a b : Task) → o ≡ Some a → o ≡ Some b → a ≡ b
same_task o a b e f = cc

-- two such tasks stay so as the discipline decides, after which no time has passed
close_decide : (d : Discipline) (reach : Task → ℕ) (P : Task → Type 0)
    → IsReach d reach P → (V r n : ℕ) (p : Running) (i j : ℕ) (u t : Task) → IsWellFormed p
    → Each P p → IsClose V r n i j reach p u t
    → AreClose V r 0 i j reach (stepped d p Decide)
close_decide d reach P law V r n p i j u t w h c =
    let q = stepped d p Decide in
    let keeps = keeps_present d p (own_preempt d p.queue p.current) w.distinct in
    let one = keeps.same i ∙ c.one in (
      u,
      t,
      record {
        one = one;
        other = keeps.same j ∙ c.other;
        runs = λ m f g.
            let near = law.near p j m t w h f c.other in
            let there = current_present q.queue q.mark q.current q.last m f in
            let same = same_task (task_at i q) m u (ap (λ k. task_at k q) (sym g) ∙ there) one in
            let v : m.v ≡ u.v = ap (λ (x : Task). x.v) same in
            omega arith;
        ever = c.ever;
      },
    )

-- A task enters, or leaves

-- two such tasks stay so as another task enters
close_enter : (d : Discipline) (V r n : ℕ) (reach : Task → ℕ) (p : Running) (x : Task) (i j : ℕ) (u t : Task)
    → IsWellFormed p → EntersNew p (Enter x) → IsClose V r n i j reach p u t
    → AreClose V r n i j reach (stepped d p (Enter x))
close_enter d V r n reach p x i j u t w new c =
    let a = step_goes d p (Enter x) i u w.distinct new refl c.one in
    let b = step_goes d p (Enter x) j t w.distinct new refl c.other in
    (u, t, record { one = a.1 ∙ ap (λ y. Some y) a.2; other = b.1 ∙ ap (λ y. Some y) b.2; runs = c.runs; ever = c.ever })

-- the task that runs after another has left ran before
current_kept_by : (c m : Task) (b : Bool) → cond b None (Some c) ≡ Some m → Some c ≡ Some m
current_kept_by c m true e = cc
current_kept_by c m false e = e

current_kept : (k : ℕ) (o : Option Task) (m : Task) → kept_current k o ≡ Some m → o ≡ Some m
current_kept k None m e = e
current_kept k (Some c) m e = current_kept_by c m (eqb c.id k) e

-- two such tasks stay so as another task leaves
close_leave : (d : Discipline) (V r n : ℕ) (reach : Task → ℕ) (p : Running) (k i j : ℕ) (u t : Task)
    → IsWellFormed p → is_leave_of i (Leave k) ≡ false → is_leave_of j (Leave k) ≡ false → IsClose V r n i j reach p u t
    → AreClose V r n i j reach (stepped d p (Leave k))
close_leave d V r n reach p k i j u t w li lj c =
    let a = step_goes d p (Leave k) i u w.distinct tt li c.one in
    let b = step_goes d p (Leave k) j t w.distinct tt lj c.other in (
      u,
      t,
      record {
        one = a.1 ∙ ap (λ y. Some y) a.2;
        other = b.1 ∙ ap (λ y. Some y) b.2;
        runs = λ m f g. c.runs m (current_kept k p.current m f) g;
        ever = c.ever;
      },
    )

-- Any step, and any number of them

-- two such tasks stay so by any step that leaves both there
close_stepped : (d : Discipline) (reach : Task → ℕ) (P : Task → Type 0)
    → IsReach d reach P → (V r n : ℕ) (p : Running) (s : ProcessorStep) (i j : ℕ) (u t : Task) → IsWellFormed p → Each P p
    → EntersNew p s → since n p s ≤ r → is_leave_of i s ≡ false → is_leave_of j s ≡ false → IsClose V r n i j reach p u t
    → AreClose V r (since n p s) i j reach (stepped d p s)
close_stepped d reach P law V r n p (Pass now) i j u t w h new le li lj c = close_pass d reach P law V r n p now i j u t w h le c
close_stepped d reach P law V r n p Decide i j u t w h new le li lj c = close_decide d reach P law V r n p i j u t w h c
close_stepped d reach P law V r n p (Enter x) i j u t w h new le li lj c = close_enter d V r n reach p x i j u t w new c
close_stepped d reach P law V r n p (Leave k) i j u t w h new le li lj c = close_leave d V r n reach p k i j u t w li lj c
close_stepped d reach P law V r n p Mark i j u t w h new le li lj c =
    (u, t, record { one = c.one; other = c.other; runs = c.runs; ever = c.ever })

-- u and t stand at a processor, and u is beyond V or what t reaches by no more than one rise
abbrev pub EverClose : ℕ → ℕ → ℕ → ℕ → (Task → ℕ) → (Task → Type 0) → Running → Type 0
EverClose V r i j reach P p =
    (u : Task) × (t : Task) × (task_at i p ≡ Some u) × (task_at j p ≡ Some t)
    × (u.v ≤ max V (reach t) + vdelta_of r u.weight) × P t

-- after any number of steps, u is beyond V or what t reaches by no more than one rise
close_after : (d : Discipline) (reach : Task → ℕ) (P : Task → Type 0)
    → IsReach d reach P → (V r n : ℕ) (p : Running) (ss : List ProcessorStep) (i j : ℕ) (u t : Task) → IsWellFormed p
    → Each P p → EachEntersNew d p ss → OfEachEntered P ss → DecidesWithin r d n p ss → StaysThroughout i ss
    → StaysThroughout j ss → IsClose V r n i j reach p u t
    → EverClose V r i j reach P (after_steps d p ss)
close_after d reach P law V r n p [] i j u t w h new of le si sj c = (u, t, c.one, c.other, c.ever, h j t c.other)
close_after d reach P law V r n p (s ∷ ss) i j u t w h new of le si sj c =
    let next = close_stepped d reach P law V r n p s i j u t w h new.0 le.0 si.0 sj.0 c in
    close_after d reach P law V r (since n p s) (stepped d p s) ss i j next.0 next.1 (well_formed_stepped d p s w new.0)
    (holds_stepped d reach P law p s w h new.0 of.0) new.1 of.1 le.1 si.1 sj.1 next.2

-- where no v is beyond V at the start
pub ever_close : (d : Discipline) (reach : Task → ℕ) (P : Task → Type 0)
    → IsReach d reach P → (V r : ℕ) (p : Running) (ss : List ProcessorStep) (i j : ℕ) (a b : Task) → IsWellFormed p → Each P p
    → a.v ≤ V → EachEntersNew d p ss → OfEachEntered P ss → DecidesWithin r d 0 p ss → StaysThroughout i ss
    → StaysThroughout j ss → task_at i p ≡ Some a → task_at j p ≡ Some b
    → EverClose V r i j reach P (after_steps d p ss)
ever_close d reach P law V r p ss i j a b w h high new of le si sj f g =
    close_after d reach P law V r 0 p ss i j a b w h new of le si sj
    (record { one = f; other = g; runs = λ m e k. omega arith; ever = omega arith })

-- What it was served

-- where a task has got: its weight and slice stay, and its v rises by what it is served
abbrev pub GotBy : Discipline → Running → List ProcessorStep → ℕ → Task → Type 0
GotBy d p ss i t =
    (u : Task) × (task_at i (after_steps d p ss) ≡ Some u) × (u.v ≡ t.v + served_by i d p ss) × (u.weight ≡ t.weight)
    × (u.slice ≡ t.slice)

-- one step takes a task on by what it is charged there, and changes neither its weight nor its slice
record Moves (d : Discipline) (p : Running) (s : ProcessorStep) (i : ℕ) (t u : Task) : Type 0 where
  v : u.v ≡ t.v + step_charge i p s
  weight : u.weight ≡ t.weight
  slice : u.slice ≡ t.slice
  room : HasRoomAt (stepped d p s).last u

-- a step that leaves a task as it is, and charges it nothing, takes it on so
stands : (d : Discipline) (p : Running) (s : ProcessorStep) (i : ℕ) (t u : Task)
    → u ≡ t → step_charge i p s ≡ 0 → (stepped d p s).last ≡ p.last → HasRoomAt p.last t → Moves d p s i t u
stands d p s i t u e z last room =
    let v : u.v ≡ t.v = ap (λ (x : Task). x.v) e in
    record { v = omega arith; weight = ap (λ (x : Task). x.weight) e; slice = ap (λ (x : Task). x.slice) e; room = rw (last, v) room }

-- each step takes on so a task that stays and has room
moves : (d : Discipline) (p : Running) (s : ProcessorStep) (i : ℕ) (t u : Task)
    → IsWellFormed p → task_at i p ≡ Some t → HasRoomAt p.last t → ChangesBy d p s i t u → Moves d p s i t u
moves d p (Pass now) i t u w f room g =
    let r = change_rises d p now i t u (w.ends i t f) g in
    let next = tick_leaves_room p.last now t.v t.weight (tick_charge i p now) (w.weights i t f).0 r.most room in
    let v : u.v ≡ t.v + tick_charge i p now = let e = r.v in omega (arith, next.0) in
    record { v = v; weight = r.weight; slice = r.slice; room = rw v next.1 }
moves d p Decide i t u w f room g =
    stands d p Decide i t u g refl (keeps_present d p (own_preempt d p.queue p.current) w.distinct).last room
moves d p (Enter x) i t u w f room g = stands d p (Enter x) i t u g refl refl room
moves d p (Leave k) i t u w f room g = stands d p (Leave k) i t u g refl refl room
moves d p Mark i t u w f room g = stands d p Mark i t u g refl refl room

-- a task that stays and has room gets by some steps as far as it is served, with its weight and slice
pub got_by : (d : Discipline) (p : Running) (ss : List ProcessorStep) (i : ℕ) (t : Task)
    → IsWellFormed p → EachEntersNew d p ss → StaysThroughout i ss → HasRoomAt p.last t → task_at i p ≡ Some t
    → GotBy d p ss i t
got_by d p [] i t w new si room f = (t, f, omega arith, refl, refl)
got_by d p (s ∷ ss) i t w new si room f =
    let c = step_goes d p s i t w.distinct new.0 si.0 f in
    let m = moves d p s i t c.0 w f room c.2 in
    let g = got_by d (stepped d p s) ss i c.0 (well_formed_stepped d p s w new.0) new.1 si.1 m.room c.1 in
    let rest = g.2 in
    let v = m.v in
    (g.0, g.1, omega arith, g.3 ∙ m.weight, g.4 ∙ m.slice)

-- Served in proportion

-- of two tasks that stay, one gets no further than V or what the other reaches in the end, and one rise
pub served_near : (d : Discipline) (reach : Task → ℕ) (P : Task → Type 0)
    → IsReach d reach P → (V r : ℕ) (p : Running) (ss : List ProcessorStep) (i j : ℕ) (a b : Task) → IsWellFormed p → Each P p
    → a.v ≤ V → EachEntersNew d p ss → OfEachEntered P ss → DecidesWithin r d 0 p ss → StaysThroughout i ss
    → StaysThroughout j ss → HasRoomAt p.last a → HasRoomAt p.last b → task_at i p ≡ Some a → task_at j p ≡ Some b
    → (t : Task) × (t.v ≡ b.v + served_by j d p ss) × (t.weight ≡ b.weight) × (t.slice ≡ b.slice)
    × (a.v + served_by i d p ss ≤ max V (reach t) + vdelta_of r a.weight) × P t
served_near d reach P law V r p ss i j a b w h high new of le si sj ra rb f g =
    let end = ever_close d reach P law V r p ss i j a b w h high new of le si sj f g in
    let x = got_by d p ss i a w new si ra f in
    let y = got_by d p ss j b w new sj rb g in
    let q = after_steps d p ss in
    let one = same_task (task_at i q) end.0 x.0 end.2 x.1 in
    let two = same_task (task_at j q) end.1 y.0 end.3 y.1 in
    let near = rw (one, two) at end.4 in
    let due = subst P two end.5 in
    (y.0, y.2, y.3, y.4, rw (x.2, x.3) at near, due)
