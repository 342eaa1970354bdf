-- A workload that a document describes can be followed.
use Rattle.std.proofs.Common.{◌≡◌, ◌≤◌, ◌+◌, ℕ, suc, ℤ, pos, true, false, Bool, List, [], ◌∷◌, ◌++◌, Option, None, Some, IfSome, IsSomeAnd, length, slice_get, codes, string_bytes, option_and_then, option_map, String, Global, refl, sym, ap, ◌∙◌, arith}
use Rattle.std.specs.Prelude.{◌&&◌, nat_le, nat_lt, unwrap_or}
use Rattle.std.specs.List.{AllByRecursion, list_any}
use Rattle.std.specs.Str.{bytes_eq}
use Rattle.std.proofs.lemmas.Bool.{and_from, and_parts}
use Rattle.std.proofs.lemmas.Bool.Decides.{nat_tests}
use Rattle.toml.specs.Data.{Data, Items, no_items, item, Members, get_member, as_array, as_bool, as_integer, as_str, as_table}
use Rattle.bq_weights.specs.VirtualTime.{is_nice}
use Rattle.bq_words.specs.Sizes.{processors_in}
use Rattle.bq_words.specs.ProcessorSets.{processors_of}
use Rattle.bq_words.specs.declared.processor_count.ProcessorCount.{ProcessorCount}
use Rattle.bq_workload.specs.Kinds.{tasks_in}
use Rattle.bq_workload.specs.Lengths.{is_length, is_long, longest, takes_time}
use Rattle.bq_workload.specs.Soundness.{allows_one, first_flaw, flaws_of, flaws_of_actions, flaws_of_kind, flaws_of_kinds, goes_round, has_name, has_numbers, has_times, is_action, unless}
use Rattle.bq_workload.specs.declared.action.Action.{Action}
use Rattle.bq_workload.specs.declared.action.Action.TheVariants.{Run, Sleep, Wake}
use Rattle.bq_workload.specs.declared.action.Length.{Length}
use Rattle.bq_workload.specs.declared.action.Length.TheVariants.{Fixed, Uniform, Exponential}
use Rattle.bq_workload.specs.declared.setup.Setup.{Setup}
use Rattle.bq_workload.specs.declared.sound.Unsound.{Unsound}
use Rattle.bq_workload.specs.declared.sound.Unsound.TheVariants as flaw
use Rattle.bq_workload.specs.declared.workload.TaskKind.{TaskKind}
use Rattle.bq_workload.specs.declared.workload.Workload.{Workload}
use Rattle.bq_workload_file.specs.declared.changes.Changes.{Changes}
use Rattle.bq_workload_file.specs.Actions.{action_of, actions_with, action_of_entry, named_at, waits}
use Rattle.bq_words.specs.Durations.{duration_of}
use Rattle.bq_workload_file.specs.Fields.{loops_of, read_mask, read_name, read_nice, number_in, or_default, some_of, span_in, whole, read_within}
use Rattle.bq_workload_file.specs.Lengths.{drawn_by, ends_of, fixed_or_drawn, read_length, read_time, uniform_of}
use Rattle.bq_workload_file.specs.Tables.{only_of}
use Rattle.bq_workload_file.specs.Workloads.{AreKinds, AreTableNames, HasNumbers, IsKind, IsSetup, IsWorkload, all_of, changed_by, doing, machine_table, short_of}
use Rattle.bq_workload_file.proofs.EachLemmas.{each-at, each-cond, each-if, each-map, each-of, each-then, each-unless}
use Rattle.bq_workload_file.proofs.MaskLemmas.{all-allowed, one-allowed}

-- a number is no less than the least, and no more than the greatest
abbrev IsIn : ℕ → ℕ → ℕ → Type 0
IsIn least greatest n = (nat_le least n && nat_le n greatest) ≡ true

-- a number or a duration that is read in a range is in that range:
within_each : (least greatest n : ℕ) → IfSome (read_within least greatest n) (IsIn least greatest)
within_each least greatest n = each-if (nat_le least n && nat_le n greatest) n (IsIn least greatest) (λ e. e)

span_each : (least greatest : ℕ) (d : Data) → IfSome (span_in least greatest d) (IsIn least greatest)
span_each least greatest d =
    each-of (option_and_then duration_of (as_str d)) (read_within least greatest) (IsIn least greatest)
    (within_each least greatest)

number_each : (least greatest : ℕ) (d : Data) → IfSome (number_in least greatest d) (IsIn least greatest)
number_each least greatest d =
    each-of (option_and_then whole (as_integer d)) (read_within least greatest) (IsIn least greatest) (within_each least greatest)

-- what holds of the default, and of each value that is read, holds of the value of a key
default_each : {A : Type 0} (a : A) (read : Data → Option A) (Q : A → Type 0) (o : Option Data)
    → Q a → ((d : Data) → IfSome (read d) Q) → IfSome (or_default a read o) Q
default_each {A} a read Q None h k = h
default_each {A} a read Q (Some d) h k = k d

-- the duration of a key is in its range if the default is
span_read : (least greatest default : ℕ) (o : Option Data) (n : ℕ)
    → IsIn least greatest default → or_default default (span_in least greatest) o ≡ Some n
    → IsIn least greatest n
span_read least greatest default o n h =
    each-at (or_default default (span_in least greatest) o) n (IsIn least greatest)
    (default_each default (span_in least greatest) (IsIn least greatest) o h (span_each least greatest))

-- a duration that is changed, or kept, is in the range of durations if both are
changed_long : (o : Option ℕ) (n : ℕ) → IfSome o (λ d. is_long d ≡ true) → is_long n ≡ true → is_long (unwrap_or o n) ≡ true
changed_long None n h k = k
changed_long (Some d) n h k = h

-- the machine that a document describes has times that can be counted, also with a changed duration
machine_sound : (c : Changes) (ms : Members) (s : Setup) → IfSome c.duration (λ d. is_long d ≡ true) → IsSetup ms s
    → has_times (changed_by c s) ≡ true
machine_sound c ms s long is =
    let duration : is_long s.duration ≡ true =
    span_read 1 longest 100000000 (get_member (codes "duration") ms) s.duration refl is.duration in
    let tick : is_long s.tick ≡ true = span_read 1 longest 4000000 (get_member (codes "tick") ms) s.tick refl is.tick in
    let balance : is_long s.balance ≡ true = span_read 1 longest 16000000 (get_member (codes "balance") ms) s.balance refl is.balance in
    let cost : IsIn 0 longest s.migration_cost =
    span_read 0 longest 0 (get_member (codes "migration_cost") ms) s.migration_cost refl is.migration_cost in
    and_from _ _ (and_from _ _ (and_from _ _ (changed_long c.duration s.duration long duration) tick) balance)
    (and_parts (nat_le 0 s.migration_cost) (nat_le s.migration_cost longest) cost).1

-- a name has at most 1024 bytes
abbrev IsName : List ℕ → Type 0
IsName name = nat_le (length name) 1024 ≡ true

-- each name that is read is short enough, each nice value is one, and each number of loops is one at least:
name_each : (d : Data) → IfSome (read_name d) IsName
name_each d =
    each-of (as_str d) _ IsName (λ (s : List ℕ).
    each-if (nat_lt 0 (length s) && nat_le (length s) 1024) s IsName
    (λ e. (and_parts (nat_lt 0 (length s)) (nat_le (length s) 1024) e).1))

nice_each : (d : Data) → IfSome (read_nice d) (λ n. is_nice n ≡ true)
nice_each d = each-of (as_integer d) _ (λ n. is_nice n ≡ true) (λ (n : ℤ). each-if (is_nice n) n (λ m. is_nice m ≡ true) (λ e. e))

loops_each : (o : Option Data) → IfSome (loops_of o) (λ l. goes_round l ≡ true)
loops_each None = refl
loops_each (Some d) =
    each-map (number_in 1 9223372036854775807 d) (IsIn 1 9223372036854775807) (λ n. Some n) (λ l. goes_round l ≡ true)
    (number_each 1 9223372036854775807 d) (λ n e. (and_parts (nat_le 1 n) (nat_le n 9223372036854775807) e).0)

-- the numbers of a kind that a table describes are in their ranges
numbers_sound : (all : ℕ) (ms : Members) (k : TaskKind) → HasNumbers all ms k.count k.nice k.mask k.slice k.start k.loops
    → has_numbers k ≡ true
numbers_sound all ms k is =
    let count : IsIn 1 1024 k.count =
    each-at (or_default 1 (number_in 1 1024) (get_member (codes "count") ms)) k.count (IsIn 1 1024)
    (default_each 1 (number_in 1 1024) (IsIn 1 1024) (get_member (codes "count") ms) refl (number_each 1 1024)) is.count_is in
    let counts = and_parts (nat_le 1 k.count) (nat_le k.count 1024) count in
    let nice : is_nice k.nice ≡ true =
    each-at (or_default (pos 0) read_nice (get_member (codes "nice") ms)) k.nice (λ n. is_nice n ≡ true)
    (default_each (pos 0) read_nice (λ n. is_nice n ≡ true) (get_member (codes "nice") ms) refl nice_each) is.nice_is in
    let slice : IsIn 100000 100000000 k.slice =
    span_read 100000 100000000 3000000 (get_member (codes "slice") ms) k.slice refl is.slice_is in
    let slices = and_parts (nat_le 100000 k.slice) (nat_le k.slice 100000000) slice in
    let start : IsIn 0 longest k.start = span_read 0 longest 0 (get_member (codes "start") ms) k.start refl is.start_is in
    let starts = and_parts (nat_le 0 k.start) (nat_le k.start longest) start in
    let loops : goes_round k.loops ≡ true =
    each-at (loops_of (get_member (codes "loops") ms)) k.loops (λ l. goes_round l ≡ true)
    (loops_each (get_member (codes "loops") ms)) is.loops_is in
    and_from _ _ (and_from _ _ (and_from _ _ (and_from _ _ (and_from _ _ counts.0 nice) slices.0) slices.1) starts.1) loops

-- a mask allows one of a machine's processors
abbrev Allows : ProcessorCount → ℕ → Type 0
Allows size mask = allows_one (processors_in size) mask ≡ true

-- each mask that is read, and the default, allows one of the machine's processors:
mask_each : (size : ProcessorCount) (d : Data) → IfSome (read_mask (all_of size) d) (Allows size)
mask_each size d =
    each-of (option_and_then processors_of (as_str d)) (some_of (all_of size)) (Allows size)
    (λ (m : ℕ). each-unless _ m (Allows size) (λ e. one-allowed m (processors_in size) e))

mask_sound : (size : ProcessorCount) (o : Option Data) (mask : ℕ)
    → or_default (all_of size) (read_mask (all_of size)) o ≡ Some mask → Allows size mask
mask_sound size o mask =
    each-at (or_default (all_of size) (read_mask (all_of size)) o) mask (Allows size)
    (default_each (all_of size) (read_mask (all_of size)) (Allows size) o (all-allowed size) (mask_each size))

-- the numbers of a length are in their ranges
abbrev IsLength : Length → Type 0
IsLength l = is_length l ≡ true

-- each length that is read has numbers in their ranges, be it fixed, uniform or exponential:
ends_each : (items : Items) → IfSome (ends_of items) IsLength
ends_each no_items = tt
ends_each (item first no_items) = tt
ends_each (item first (item last no_items)) =
    each-then (read_time first) (IsIn 1 longest) _ IsLength (span_each 1 longest first) (λ least low.
    each-then (read_time last) (IsIn 1 longest) _ IsLength (span_each 1 longest last) (λ greatest high.
    each-if (nat_le least greatest) (Uniform least greatest) IsLength (λ order.
    and_from _ _ (and_from _ _ (and_parts (nat_le 1 least) (nat_le least longest) low).0 order)
    (and_parts (nat_le 1 greatest) (nat_le greatest longest) high).1)))
ends_each (item first (item second (item third more))) = tt

drawn_each : (entry : List ℕ × Data) → IfSome (drawn_by entry) IsLength
drawn_each (key, d) =
    each-cond (bytes_eq key (codes "uniform")) (uniform_of d) _ IsLength (each-of (as_array d) ends_of IsLength ends_each)
    (each-cond (bytes_eq key (codes "exponential")) (option_map (λ mean. Exponential mean) (read_time d)) None IsLength
    (each-map (read_time d) (IsIn 1 longest) (λ mean. Exponential mean) IsLength (span_each 1 longest d) (λ mean e. e)) tt)

length_each : (d : Data) → IfSome (read_length d) IsLength
length_each d = of (as_table d)
  where
    of : (o : Option Members) → IfSome (fixed_or_drawn d o) IsLength
    of None = each-map (read_time d) (IsIn 1 longest) (λ n. Fixed n) IsLength (span_each 1 longest d) (λ n e. e)
    of (Some ms) = each-of (only_of ms) drawn_by IsLength drawn_each

-- an action has a length in its range, or wakes one of this many kinds
abbrev IsAction : ℕ → Action → Type 0
IsAction kinds a = is_action kinds a ≡ true

-- each wait that is read is an action, and each name that is found has a place among the names:
waits_each : (kinds : ℕ) (b : Bool) → IfSome (waits b) (IsAction kinds)
waits_each kinds true = refl
waits_each kinds false = tt

named_each : (names : List (String Global)) (name : List ℕ) → IfSome (named_at names name) (λ i. nat_lt i (length names) ≡ true)
named_each names name = each-if _ _ (λ i. nat_lt i (length names) ≡ true) (λ e. e)

-- each action that is read has a length in its range, or wakes one of the kinds, by its entry or by its table:
entry_each : (names : List (String Global)) (key : List ℕ) (d : Data) → IfSome (action_of_entry names key d) (IsAction (length names))
entry_each names key d =
    let Q : Action → Type 0 = IsAction (length names) in
    each-cond (bytes_eq key (codes "run")) _ _ Q (each-map (read_length d) IsLength (λ l. Run l) Q (length_each d) (λ l e. e))
    (each-cond (bytes_eq key (codes "sleep")) _ _ Q
    (each-map (read_length d) IsLength (λ l. Sleep l) Q (length_each d) (λ l e. e))
    (each-cond (bytes_eq key (codes "wait")) _ _ Q (each-of (as_bool d) waits Q (waits_each (length names)))
    (each-cond (bytes_eq key (codes "wake")) _ None Q
    (each-map (option_and_then (named_at names) (as_str d)) (λ i. nat_lt i (length names) ≡ true) (λ kind. Wake kind) Q
    (each-of (as_str d) (named_at names) _ (named_each names)) (λ i e. e)) tt)))

action_each : (names : List (String Global)) (d : Data) → IfSome (action_of names d) (IsAction (length names))
action_each names d =
    each-of (option_and_then only_of (as_table d)) _ (IsAction (length names))
    (λ (entry : List ℕ × Data). entry_each names entry.0 entry.1)

-- what holds of some items and of one more holds of all of them
all_more : {A : Type 0} (P : A → Type 0) (xs : List A) (x : A) → AllByRecursion P xs → P x → AllByRecursion P (xs ++ x ∷ [])
all_more {A} P [] x h p = (p, tt)
all_more {A} P (y ∷ ys) x h p = (h.0, all_more P ys x h.1 p)

-- all actions of a kind are such, in a list, as a run and a sleep, or either:
actions_each : (names : List (String Global)) (done : List Action) (items : Items)
    → AllByRecursion (IsAction (length names)) done
    → IfSome (actions_with names done items) (AllByRecursion (IsAction (length names)))
actions_each names done no_items h = h
actions_each names done (item d ds) h =
    each-then (action_of names d) (IsAction (length names)) _ (AllByRecursion (IsAction (length names))) (action_each names d)
    (λ a e. actions_each names (done ++ a ∷ []) ds (all_more (IsAction (length names)) done a h e))

short_each : (kinds : ℕ) (run sleep : Option Data) → IfSome (short_of run sleep) (AllByRecursion (IsAction kinds))
short_each kinds None sleep = tt
short_each kinds (Some run) None =
    each-map (read_length run) IsLength (λ r. Run r ∷ []) (AllByRecursion (IsAction kinds)) (length_each run) (λ r e. (e, tt))
short_each kinds (Some run) (Some sleep) =
    each-then (read_length run) IsLength _ (AllByRecursion (IsAction kinds)) (length_each run) (λ r e.
    each-map (read_length sleep) IsLength (λ s. Run r ∷ Sleep s ∷ []) (AllByRecursion (IsAction kinds))
    (length_each sleep) (λ s f. (e, (f, tt))))

doing_each : (names : List (String Global)) (list run sleep : Option Data)
    → IfSome (doing names list run sleep) (AllByRecursion (IsAction (length names)))
doing_each names None run sleep = short_each (length names) run sleep
doing_each names (Some list) None None =
    each-of (as_array list) (actions_with names []) (AllByRecursion (IsAction (length names)))
    (λ (items : Items). actions_each names [] items tt)
doing_each names (Some list) None (Some sleep) = tt
doing_each names (Some list) (Some run) sleep = tt

-- what holds has no flaw
no_flaw : (b : Bool) (flaw : Unsound) → b ≡ true → unless b flaw ≡ []
no_flaw b flaw e = ap (λ (t : Bool). unless t flaw) e

-- two parts without flaws have none together
no_flaws : (xs ys : List Unsound) → xs ≡ [] → ys ≡ [] → xs ++ ys ≡ []
no_flaws xs ys e f = ap (λ (l : List Unsound). l ++ ys) e ∙ f

-- actions with lengths in their ranges, and wakes of kinds that there are, have no flaw
actions_sound : (kinds number place : ℕ) (actions : List Action)
    → AllByRecursion (IsAction kinds) actions → flaws_of_actions kinds number place actions ≡ []
actions_sound kinds number place [] h = refl
actions_sound kinds number place (a ∷ actions) h =
    no_flaws _ _ (no_flaw (is_action kinds a) (flaw.Action number place) h.0)
    (actions_sound kinds number (place + 1) actions h.1)

-- a kind that a table describes has no flaw, and so have several:
kind_sound : (names : List (String Global)) (size : ProcessorCount) (ms : Members) (k : TaskKind) (number : ℕ)
    → IsKind names (all_of size) ms k → flaws_of_kind (processors_in size) (length names) number k ≡ []
kind_sound names size ms k number is =
    let named : has_name k ≡ true =
    each-at (option_and_then read_name (get_member (codes "name") ms)) (string_bytes k.name) IsName
    (each-of (get_member (codes "name") ms) read_name IsName name_each) is.name in
    let list = get_member (codes "do") ms in
    let run = get_member (codes "run") ms in
    let sleep = get_member (codes "sleep") ms in
    let actions =
    each-at (doing names list run sleep) k.actions.items (AllByRecursion (IsAction (length names)))
    (doing_each names list run sleep) is.actions in
    let name = no_flaw (has_name k) (flaw.Name number) named in
    let numbers = no_flaw (has_numbers k) (flaw.Kind number) (numbers_sound (all_of size) ms k is.numbers) in
    let mask =
    no_flaw (allows_one (processors_in size) k.mask) (flaw.Mask number)
    (mask_sound size (get_member (codes "cpus") ms) k.mask is.numbers.mask_is) in
    let timed = no_flaw (list_any takes_time k.actions.items) (flaw.NoTime number) is.takes_time in
    no_flaws _ _ (no_flaws _ _ (no_flaws _ _ name numbers) mask)
    (no_flaws _ _ (actions_sound (length names) number 0 k.actions.items actions) timed)

kinds_sound : (names : List (String Global)) (size : ProcessorCount) (items : Items) (ks : List TaskKind) (number : ℕ)
    → AreKinds names (all_of size) items ks
    → flaws_of_kinds (processors_in size) (length names) number ks ≡ []
kinds_sound names size no_items [] number h = refl
kinds_sound names size no_items (k ∷ ks) number h = absurd h
kinds_sound names size (item d ds) [] number h = absurd h
kinds_sound names size (item d ds) (k ∷ ks) number h =
    no_flaws _ _ (kind_sound names size h.0.0 k number h.0.2) (kinds_sound names size ds ks (number + 1) h.1)

-- there are as many names as kinds
as_many : (names all_names : List (String Global)) (all : ℕ) (items : Items) (ks : List TaskKind)
    → AreTableNames items names → AreKinds all_names all items ks → length names ≡ length ks
as_many [] all_names all no_items [] n h = refl
as_many [] all_names all no_items (k ∷ ks) n h = absurd h
as_many (name ∷ names) all_names all no_items ks n h = absurd n
as_many [] all_names all (item d ds) ks n h = absurd n
as_many (name ∷ names) all_names all (item d ds) [] n h = absurd h
as_many (name ∷ names) all_names all (item d ds) (k ∷ ks) n h = ap suc (as_many names all_names all ds ks n.1 h.1)

-- where something holds of a value that is there, there is a value of which it holds
of_some : {A : Type 0} (o : Option A) (P : A → Type 0) → IsSomeAnd o P → (a : A) × P a
of_some {A} None P h = absurd h
of_some {A} (Some a) P h = (a, h)

-- a workload that a document describes has no flaw, on a machine whose changed duration is one
pub sound-described : (c : Changes) (document : Members) (w : Workload)
    → IfSome c.duration (λ d. is_long d ≡ true) → IsWorkload c document w → first_flaw w ≡ None
sound-described c document w long is =
    let (s, machine, made) = is.machine in
    let (items, names, list, named, others, kinds) = is.tasks in
    let (ms, setup) = of_some (machine_table (get_member (codes "machine") document)) (λ ms. IsSetup ms s) machine in
    let timed : has_times w.machine ≡ true = ap has_times made ∙ machine_sound c ms s long setup in
    let few : nat_le (tasks_in w.tasks.items) 1024 ≡ true = let most : tasks_in w.tasks.items ≤ 1024 = is.few in grind (arith, nat_tests) in
    let each : flaws_of_kinds (processors_in w.machine.size) (length w.tasks.items) 0 w.tasks.items ≡ [] =
    ap (λ (n : ℕ). flaws_of_kinds (processors_in w.machine.size) n 0 w.tasks.items)
    (sym (as_many names names _ items w.tasks.items named kinds))
    ∙ kinds_sound names w.machine.size items w.tasks.items 0 kinds in
    let none : flaws_of w ≡ [] =
    no_flaws _ _ (no_flaws _ _ (no_flaw (has_times w.machine) flaw.Machine timed) each)
    (no_flaw (nat_le (tasks_in w.tasks.items) 1024) flaw.Tasks few) in
    ap (λ (flaws : List Unsound). slice_get flaws 0) none
