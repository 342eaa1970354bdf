-- Events that are driven one after another, and the two events by which a task is woken and placed.
use Rattle.std.proofs.Common.{◌≡◌, ℕ, List, [], ◌∷◌, ◌++◌, Some, refl, sym, ◌∙◌, ap, subst, append_assoc, append-nil}
use Rattle.bq_parts.specs.declared.event.Event.{Event}
use Rattle.bq_parts.specs.declared.event.Event.TheVariants.{BeginWake, EndWake}
use Rattle.bq_parts.specs.declared.reply.Reply.{Reply}
use Rattle.bq_trace.specs.TraceEvents.{TraceEvent, Reported, Gets}
use Rattle.bq_trace.proofs.TakingLemmas.{TakesAll-append}
use Rattle.bq_simulate.specs.declared.driver.Driver.{Driver}
use Rattle.bq_simulate.specs.Drives.{EventIsDriven, DrivesEvent, Drives, EventsAreDriven, PlacesWoken, placed_at}

-- events one after another, and then others
pub Drives-append : (d m e : Driver) (xs ys : List Event) (reported more : Reported)
    → Drives d xs reported m → Drives m ys more e → Drives d (xs ++ ys) (reported ++ more) e
Drives-append d m e [] ys reported more h k =
    let P : Reported → Type 0 = λ t. Drives d ys (t ++ more) e in
    let Q : Driver → Type 0 = λ x. Drives x ys more e in
    subst P (sym h.0) (subst Q h.1 k)
Drives-append d m e (x ∷ xs) ys reported more (reply, mid, first, rest, does, drives, whole) k = (
  reply,
  mid,
  first,
  rest ++ more,
  does,
  Drives-append mid m e xs ys rest more drives k,
  ap (λ t. t ++ more) whole ∙ append_assoc first rest more,
)

-- one event that is driven is a run of driven events
pub EventsAreDriven-one : {S : Type 0} (takes : S → ℕ → TraceEvent → S → Type 0) (old new : S) (d e : Driver)
    (x : Event) (reply : Reply)
    → Gets takes old new (λ reported. DrivesEvent d x reply reported e) → EventsAreDriven takes old d (x ∷ []) new e
EventsAreDriven-one takes old new d e x reply gets = record {
  reported = gets.reported;
  taken = gets.taken;
  holds = (reply, e, gets.reported, [], gets.holds, (refl, refl), sym (append-nil gets.reported));
}

-- where some events are driven, and others after them, all are driven, and all that they report is taken
pub EventsAreDriven-join : {S : Type 0} (takes : S → ℕ → TraceEvent → S → Type 0) (a b c : S) (d m e : Driver) (xs ys : List Event)
    → EventsAreDriven takes a d xs b m → EventsAreDriven takes b m ys c e → EventsAreDriven takes a d (xs ++ ys) c e
EventsAreDriven-join takes a b c d m e xs ys first second = record {
  reported = first.reported ++ second.reported;
  taken = TakesAll-append takes a b c first.reported second.reported first.taken second.taken;
  holds = Drives-append d m e xs ys first.reported second.reported first.holds second.holds;
}

-- a wake begins, and ends with its task placed
pub Places-of : {S : Type 0} (takes : S → ℕ → TraceEvent → S → Type 0) (a b c : S) (d m e : Driver)
    (from task now to : ℕ) (begun placed : Reply)
    → EventIsDriven takes a d (BeginWake from task) begun b m → placed_at placed ≡ Some to → EventIsDriven takes b m (EndWake from now) placed c e
    → Gets takes a c (λ reported. PlacesWoken d from task now to reported e)
Places-of takes a b c d m e from task now to begun placed first place second = record {
  reported = first.reported ++ second.reported;
  taken = TakesAll-append takes a b c first.reported second.reported first.taken second.taken;
  holds = record {
    begun = begun;
    placed = placed;
    mid = m;
    first = first.reported;
    more = second.reported;
    begins = first.holds;
    ends = second.holds;
    place = place;
    whole = refl;
  };
}

-- a wake is two events
pub EventsAreDriven-places : {S : Type 0} (takes : S → ℕ → TraceEvent → S → Type 0) (a b : S) (d e : Driver) (from task now to : ℕ)
    → Gets takes a b (λ reported. PlacesWoken d from task now to reported e)
    → EventsAreDriven takes a d (BeginWake from task ∷ EndWake from now ∷ []) b e
EventsAreDriven-places takes a b d e from task now to gets =
    let h = gets.holds in
    record {
      reported = gets.reported;
      taken = gets.taken;
      holds = (
        h.begun,
        h.mid,
        h.first,
        h.more,
        h.begins,
        (h.placed, e, h.more, [], h.ends, (refl, refl), sym (append-nil h.more)),
        h.whole,
      );
    }
