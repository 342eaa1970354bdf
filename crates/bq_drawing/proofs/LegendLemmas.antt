-- The legend of a picture, task after task.
use Rattle.std.proofs.Common.{◌≡◌, ℕ, ◌+◌, ◌<◌, Bool, true, false, cond, List, [], ◌∷◌, ◌++◌, drop, get_or, length, sym, ap, ◌∙◌, append_assoc, append-nil}
use Rattle.std.proofs.lemmas.List.{at_drop_more}
use Rattle.std.specs.BTreeMap.{is_at}
use Rattle.std.specs.List.{list_any}
use Rattle.std.specs.Ordering.{nat_cmp}
use Rattle.bq_drawing.specs.Keys.{tasks_shown}
use Rattle.bq_drawing.specs.Legends.{entries_text, entry_text}
use Rattle.bq_drawing.specs.Frames.{PictureSetting}

-- the entries of a legend and that of one more task are those of the legend
pub entries_next : (s : PictureSetting) (first : ℕ) (tasks : List ℕ) (place d : ℕ) (whole now next : List ℕ) → place < length tasks
    → next ≡ now ++ entry_text s first place (get_or tasks place d) → now ++ entries_text s first place (drop place tasks) ≡ whole
    → next ++ entries_text s first (place + 1) (drop (place + 1) tasks) ≡ whole
unfolding entries_text
entries_next s first tasks place d whole now next there e is =
    let later = entries_text s first (place + 1) (drop (place + 1) tasks) in
    ap (λ t. t ++ later) e ∙ append_assoc now (entry_text s first place (get_or tasks place d)) later
    ∙ sym (at_drop_more (λ (l : List ℕ). now ++ entries_text s first place l) tasks place d there) ∙ is

-- once no task is left the entries are those of the whole legend
pub entries_end : (s : PictureSetting) (first place : ℕ) (tasks whole now : List ℕ) → drop place tasks ≡ []
    → now ++ entries_text s first place (drop place tasks) ≡ whole → now ≡ whole
unfolding entries_text
entries_end s first place tasks whole now none is =
    sym (append-nil now) ∙ sym (ap (λ (l : List ℕ). now ++ entries_text s first place l) none) ∙ is

-- a task that is shown may as well be added behind those before it as put in front of the rest
chosen : (now : List ℕ) (task : ℕ) (rest : List ℕ) (b : Bool) → (now ++ cond b (task ∷ []) []) ++ rest ≡ now ++ cond b (task ∷ rest) rest
chosen now task rest true = append_assoc now (task ∷ []) rest
chosen now task rest false = ap (λ t. t ++ rest) (append-nil now)

-- the tasks that are shown go on by one more task, which may be shown
pub shown_next : (drawn tasks : List ℕ) (i d : ℕ) (whole now next : List ℕ) → i < length tasks
    → next ≡ now ++ tasks_shown (get_or tasks i d ∷ []) drawn → now ++ tasks_shown (drop i tasks) drawn ≡ whole
    → next ++ tasks_shown (drop (i + 1) tasks) drawn ≡ whole
shown_next drawn tasks i d whole now next there e is =
    let later = tasks_shown (drop (i + 1) tasks) drawn in
    let task = get_or tasks i d in
    ap (λ t. t ++ later) e ∙ chosen now task later (list_any (is_at (nat_cmp task)) drawn)
    ∙ sym (at_drop_more (λ (l : List ℕ). now ++ tasks_shown l drawn) tasks i d there) ∙ is

-- once no task is left the tasks that are shown are those of the whole list
pub shown_end : (drawn tasks : List ℕ) (i : ℕ) (whole now : List ℕ)
    → drop i tasks ≡ [] → now ++ tasks_shown (drop i tasks) drawn ≡ whole → now ≡ whole
shown_end drawn tasks i whole now none is =
    sym (append-nil now) ∙ sym (ap (λ (l : List ℕ). now ++ tasks_shown l drawn) none) ∙ is
