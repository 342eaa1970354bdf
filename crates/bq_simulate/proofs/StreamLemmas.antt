-- Streams that have given some lengths.
use Rattle.std.proofs.Common.{◌≡◌, ℕ, ◌+◌, List, [], ◌∷◌, ◌++◌, length, Option, Some, None, arith, refl, sym, ◌∙◌, ap, true≢false, zero, suc}
use Rattle.std.specs.Prelude.{slice_get, slice_set, is_some, unwrap_or}
use Rattle.std.specs.Option.{option_map_or}
use Rattle.rand_pcg.specs.Lcg.{Lcg}
use Rattle.bq_workload.specs.declared.action.Length.{Length}
use Rattle.bq_workload.specs.Streams.{stream_of_task, after_draw, after_draws}
use Rattle.bq_workload.specs.Accounts.{changed_at}
use Rattle.bq_simulate.specs.declared.simulation.Simulation.{Simulation}
use Rattle.bq_simulate.specs.Actions.{length_of_draw, next_length}
use Rattle.bq_simulate.specs.Deeds.{draws_of, drawn_with, length_taken}
use Rattle.bq_simulate.specs.Simulations.{DrawsLength, DrawsFor, HasDrawn, streams_after}

-- one draw more
after_more : (n : ℕ) (g : Lcg) → after_draw (after_draws n g) ≡ after_draws (suc n) g
unfolding after_draws
after_more zero g = refl
after_more (suc n) g = after_more n (after_draw g)

-- a stream that has given nothing is as it began
no_draws : (g : Lcg) → after_draws zero g ≡ g
unfolding after_draws
no_draws g = refl

-- there are as many streams as counts of the lengths that they have given
pub streams_count : (seed first : ℕ) (drawn : List ℕ) → length (streams_after seed first drawn) ≡ length drawn
streams_count seed first [] = refl
streams_count seed first (n ∷ ns) = omega (arith, streams_count seed (first + 1) ns)

-- one stream more
streams-push : (seed first : ℕ) (drawn : List ℕ)
    → streams_after seed first (drawn ++ 0 ∷ [])
    ≡ streams_after seed first drawn ++ stream_of_task seed (first + length (streams_after seed first drawn)) ∷ []
streams-push seed first [] = ap (λ g. g ∷ []) (no_draws (stream_of_task seed first) ∙ ap (stream_of_task seed) (omega arith))
streams-push seed first (n ∷ ns) =
    let rest = streams_after seed (first + 1) ns in
    let place : first + 1 + length rest ≡ first + length (after_draws n (stream_of_task seed first) ∷ rest) = omega arith in
    ap (λ l. after_draws n (stream_of_task seed first) ∷ l)
    (streams-push seed (first + 1) ns ∙ ap (λ k. rest ++ stream_of_task seed k ∷ []) place)

-- a stream that is there has given this many lengths
pub record IsAt (seed first task : ℕ) (drawn : List ℕ) (g : Lcg) : Type 0 where
  pub draws : ℕ
  pub there : slice_get drawn task ≡ Some draws
  pub value : g ≡ after_draws draws (stream_of_task seed (first + task))

-- each stream in the list has given the number of lengths that is counted for its task
stream-at : (seed first task : ℕ) (drawn : List ℕ) (g : Lcg) → slice_get (streams_after seed first drawn) task ≡ Some g
    → IsAt seed first task drawn g
stream-at seed first task [] g there = absurd (true≢false (sym (ap is_some there)))
stream-at seed first zero (n ∷ ns) g there = record {
  draws = n;
  there = refl;
  value = sym (ap (λ o. unwrap_or o g) there) ∙ ap (λ k. after_draws n (stream_of_task seed k)) (omega arith);
}
stream-at seed first (suc task) (n ∷ ns) g there =
    let h = stream-at seed (first + 1) task ns g there in
    record { draws = h.draws; there = h.there; value = h.value ∙ ap (λ k. after_draws h.draws (stream_of_task seed k)) (omega arith) }

-- one stream has given another number of them
stream-set : (seed first task draws : ℕ) (drawn : List ℕ)
    → streams_after seed first (slice_set drawn task draws)
    ≡ slice_set (streams_after seed first drawn) task (after_draws draws (stream_of_task seed (first + task)))
stream-set seed first task draws [] = refl
stream-set seed first zero draws (n ∷ ns) =
    ap (λ k. after_draws draws (stream_of_task seed k) ∷ streams_after seed (first + 1) ns) (omega arith)
stream-set seed first (suc task) draws (n ∷ ns) =
    ap (λ l. after_draws n (stream_of_task seed first) ∷ l)
    (stream-set seed (first + 1) task draws ns
    ∙ ap (λ k. slice_set (streams_after seed (first + 1) ns) task (after_draws draws (stream_of_task seed k))) (omega arith))

-- a length was drawn where one was asked for: the next of its task
pub record Gave (task : ℕ) (asked : Option Length) (s : Simulation) (drawn : List ℕ) (length : ℕ) (t : Simulation) : Type 0 where
  pub value : length ≡ length_taken s.seed task drawn asked
  pub streams : HasDrawn t (drawn_with task drawn asked)
  pub driver : t.driver ≡ s.driver
  pub roster : t.roster ≡ s.roster
  pub seed : t.seed ≡ s.seed
  pub firsts : t.firsts ≡ s.firsts

-- a length that is drawn is the next of its task's stream, and nothing else changes
drew : (task : ℕ) (asked : Length) (s : Simulation) (length : ℕ) (t : Simulation)
    → DrawsLength task asked s length t → (drawn : List ℕ) → HasDrawn s drawn
    → Gave task (Some asked) s drawn length t
drew task asked s length t d drawn had =
    let h = stream-at s.seed 0 task drawn d.stream (ap (λ (l : List Lcg). slice_get l task) (sym had) ∙ d.there) in
    let is : d.stream ≡ after_draws h.draws (stream_of_task s.seed task) =
    h.value ∙ ap (λ k. after_draws h.draws (stream_of_task s.seed k)) (omega arith) in
    let count : draws_of drawn task ≡ h.draws = ap (λ o. unwrap_or o 0) h.there in
    let grown : changed_at suc drawn task ≡ slice_set drawn task (suc h.draws) =
    ap (λ o. option_map_or (λ (x : ℕ). slice_set drawn task (suc x)) o drawn) h.there in
    let further : after_draw d.stream ≡ after_draws (suc h.draws) (stream_of_task s.seed (0 + task)) =
    ap after_draw is ∙ after_more h.draws (stream_of_task s.seed task)
    ∙ ap (λ k. after_draws (suc h.draws) (stream_of_task s.seed k)) (omega arith) in
    record {
      value = d.value ∙ ap (next_length asked) is ∙ ap (λ n. length_of_draw s.seed task n asked) (sym count);
      streams =
          d.next ∙ ap (λ (l : List Lcg). slice_set l task (after_draw d.stream)) had
          ∙ ap (λ g. slice_set (streams_after s.seed 0 drawn) task g) further
          ∙ sym (stream-set s.seed 0 task (suc h.draws) drawn) ∙ ap (streams_after s.seed 0) (sym grown)
          ∙ ap (λ n. streams_after n 0 (changed_at suc drawn task)) (sym d.seed);
      driver = d.driver;
      roster = d.roster;
      seed = d.seed;
      firsts = d.firsts;
    }

-- where a length is drawn if one is asked for, it is the next of that task's stream, and nothing else changes
pub gives_if_asked : (task : ℕ) (asked : Option Length) (s : Simulation) (length : ℕ) (t : Simulation)
    → DrawsFor task asked s length t → (drawn : List ℕ) → HasDrawn s drawn → Gave task asked s drawn length t
gives_if_asked task None s length t h drawn had = record {
  value = h.0;
  streams = ap (λ (x : Simulation). x.streams.items) h.1 ∙ had ∙ ap (λ (x : Simulation). streams_after x.seed 0 drawn) (sym h.1);
  driver = ap (λ (x : Simulation). x.driver) h.1;
  roster = ap (λ (x : Simulation). x.roster) h.1;
  seed = ap (λ (x : Simulation). x.seed) h.1;
  firsts = ap (λ (x : Simulation). x.firsts) h.1;
}
gives_if_asked task (Some asked) s length t h drawn had = drew task asked s length t h drawn had

-- a draw leaves the roster as it is
pub kept_roster : (task : ℕ) (asked : Option Length) (s : Simulation) (length : ℕ) (t : Simulation)
    → DrawsFor task asked s length t → t.roster ≡ s.roster
kept_roster task None s length t h = ap (λ (x : Simulation). x.roster) h.1
kept_roster task (Some asked) s length t h = h.roster

-- the stream of the next task is there
pub opened-streams : (s t : Simulation) (drawn : List ℕ) → t.seed ≡ s.seed
    → t.streams.items ≡ s.streams.items ++ stream_of_task s.seed (length s.streams.items) ∷ [] → HasDrawn s drawn
    → HasDrawn t (drawn ++ 0 ∷ [])
opened-streams s t drawn seed streams had =
    streams ∙ ap (λ (l : List Lcg). l ++ stream_of_task s.seed (length l) ∷ []) had
    ∙ ap (λ k. streams_after s.seed 0 drawn ++ stream_of_task s.seed k ∷ []) (omega arith)
    ∙ sym (streams-push s.seed 0 drawn) ∙ ap (λ n. streams_after n 0 (drawn ++ 0 ∷ [])) (sym seed)
