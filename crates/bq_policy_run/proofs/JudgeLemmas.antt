-- The rule's word on an answer, and the text that tells it.
use Rattle.std.proofs.Common.{◌≡◌, ℕ, ◌≤◌, List, ◌++◌, length, Bool, true, false, cond, sym, ap, subst, ◌∙◌, ◌⊎◌, inl, inr, arith}
use Rattle.std.specs.Prelude.{◌≢◌, nat_lt}
use Rattle.bq_hooks.specs.Hooks.{context_length_of}
use Rattle.bq_hooks.specs.declared.hook.Hook.{Hook}
use Rattle.bq_hooks.specs.declared.hook.Hook.TheVariants.{Place, Preempt}
use Rattle.bq_hooks.specs.declared.hook.Version.{Version}
use Rattle.bq_hooks.specs.declared.hook.Version.TheVariants.{First, Second}
use Rattle.bq_policy_run.specs.declared.permitted.Permission.{Permission}
use Rattle.bq_policy_run.specs.declared.permitted.Permission.TheVariants.{Permitted, NotPermitted, NotShown}
use Rattle.bq_policy_run.specs.declared.permitted.TheConstants.{PLACE_SHOWN}
use Rattle.bq_policy_run.specs.Permitting.{place_permits, permission_of}
use Rattle.bq_policy_run.specs.Judging.{BeginsWithWord, word_begins}

-- a text that begins with the word
pub text_begins_with_word : (word w : Permission) (why : List ℕ) → word ≡ w → BeginsWithWord word (word_begins w ++ why)
text_begins_with_word word w why e = (why, ap (λ (x : Permission). word_begins x ++ why) (sym e))

-- a text that is the word, and then the reason
pub text_is_word_and_why : (word w : Permission) (why text : List ℕ) → word ≡ w → text ≡ word_begins w ++ why → BeginsWithWord word text
text_is_word_and_why word w why text e same = (why, same ∙ ap (λ (x : Permission). word_begins x ++ why) (sym e))

-- of two words it is the one that it may be
pub not_permitted_is_left : (word : Permission) → (word ≡ NotPermitted) ⊎ (word ≡ NotShown) → word ≢ NotShown → word ≡ NotPermitted
not_permitted_is_left word (inl e) other = e
not_permitted_is_left word (inr e) other = absurd (other e)

-- a place context is long enough for its fields
place_long : (v : Version) (n : ℕ) → n ≡ context_length_of Place v → PLACE_SHOWN ≤ n
place_long First n h = omega (arith, h)
place_long Second n h = omega (arith, h)

-- a word by a test is never that the answer is not shown
by_test : (b : Bool) → cond b Permitted NotPermitted ≢ NotShown
by_test true h = cc
by_test false h = cc

-- what is said of an answer to `place` begins with the word for it
pub judged_place : (hook : Hook) (context : List ℕ) (r0 : ℕ) (word : Permission) (text : List ℕ)
    → hook ≡ Place → ((v : Version) → length context ≡ context_length_of hook v → word ≡ permission_of hook context r0)
    → (PLACE_SHOWN ≤ length context → word ≢ NotShown → BeginsWithWord word text)
    → (v : Version) → length context ≡ context_length_of hook v
    → BeginsWithWord (permission_of hook context r0) text
judged_place hook context r0 word text at is reported v h =
    let e : word ≡ permission_of hook context r0 = is v h in
    let placed : word ≡ permission_of Place context r0 = e ∙ ap (λ (k : Hook). permission_of k context r0) at in
    let long = place_long v (length context) (subst (λ (k : Hook). length context ≡ context_length_of k v) at h) in
    subst (λ (w : Permission). BeginsWithWord w text) e
    (reported long (subst (λ (w : Permission). w ≢ NotShown) (sym placed) (by_test (place_permits context r0))))

-- what is said of an answer to `preempt` begins with the word for it
pub judged_preempt : (hook : Hook) (context : List ℕ) (r0 : ℕ) (word : Permission) (text shown : List ℕ)
    → hook ≡ Preempt → ((v : Version) → length context ≡ context_length_of hook v → word ≡ permission_of hook context r0)
    → (word ≢ NotShown → BeginsWithWord word shown) → text ≡ shown → (v : Version) → length context ≡ context_length_of hook v
    → BeginsWithWord (permission_of hook context r0) text
judged_preempt hook context r0 word text shown at is reported same v h =
    let e : word ≡ permission_of hook context r0 = is v h in
    let asked : word ≡ permission_of Preempt context r0 = e ∙ ap (λ (k : Hook). permission_of k context r0) at in
    subst (λ (t : List ℕ). BeginsWithWord (permission_of hook context r0) t) (sym same)
    (subst (λ (w : Permission). BeginsWithWord w shown) e
    (reported (subst (λ (w : Permission). w ≢ NotShown) (sym asked) (by_test (nat_lt r0 2)))))

-- what is said of an answer to `pull` begins with the word for it
pub judged_pull : (hook : Hook) (context : List ℕ) (r0 : ℕ) (word : Permission) (text : List ℕ)
    → ((v : Version) → length context ≡ context_length_of hook v → word ≡ permission_of hook context r0) → BeginsWithWord word text
    → (v : Version) → length context ≡ context_length_of hook v
    → BeginsWithWord (permission_of hook context r0) text
judged_pull hook context r0 word text is reported v h = subst (λ (w : Permission). BeginsWithWord w text) (is v h) reported
