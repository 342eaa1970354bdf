-- No share answers lack of memory.
use Rattle.std.proofs.Common.{◌≡◌, ◌≢◌, ℕ, Bool, true, false, cond, List, Option, Some, None, sym, subst}
use Rattle.std.specs.Prelude.{Result, Ok, Err, slice_index_or, is_some}
use Rattle.std.proofs.lemmas.Option.{same_Some}
use Rattle.bq_disc.specs.Tasks.{Task}
use Rattle.bq_disc.specs.Discipline.{Discipline}
use Rattle.bq_hooks.specs.declared.hook.Hook.{Hook}
use Rattle.bq_installed.specs.Installed.{InstalledFacts, at_hook}
use Rattle.bq_parts.specs.declared.carried.Carried.{Carried}
use Rattle.bq_parts.specs.declared.reply.Reply.{Reply}
use Rattle.bq_parts.specs.declared.refusal.Refusal.{Refusal}
use Rattle.bq_parts.specs.declared.refusal.Refusal.TheVariants as no
use Rattle.bq_parts.specs.declared.lobby_entry.LobbyEntry.{LobbyEntry}
use Rattle.bq_parts.specs.declared.lobby_entry.LobbyEntry.TheVariants.{Absent}
use Rattle.bq_parts.specs.Processors.{Processor}
use Rattle.bq_parts.specs.Refusals.{is_absent, is_away, retire_refusal, begin_refusal}
use Rattle.bq_parts.specs.Shares.{Admits, Retires, Blocks, BeginsWake, Installs}
use Rattle.bq_core.specs.Laws.{HadMemory}

-- no task is refused to be admitted for lack of memory
pub admits_named : (id : ℕ) (t : Task) (l : List LobbyEntry) (r : Result Reply Refusal) (m : List LobbyEntry)
    → Admits id t l r m → HadMemory r
admits_named id t l (Ok r) m a = tt
admits_named id t l (Err e) m a = subst (λ x. x ≢ no.OutOfMemory) (sym a.1) (λ h. cc)

-- no block is refused for lack of memory
pub blocks_named : (d : Discipline) (c now : ℕ) (p : Processor) (l : List LobbyEntry) (r : Result Reply Refusal)
    (q : Processor) (m : List LobbyEntry)
    → Blocks d c now p l r q m → HadMemory r
blocks_named d c now p l (Ok r) q m b = tt
blocks_named d c now p l (Err e) q m b = subst (λ x. x ≢ no.OutOfMemory) (sym b.1) (λ h. cc)

-- the first of some refusals is not for lack of memory, where none of them is
first_named : (b : Bool) (x e : Refusal) (rest : Option Refusal)
    → x ≢ no.OutOfMemory → (rest ≡ Some e → e ≢ no.OutOfMemory) → cond b (Some x) rest ≡ Some e
    → e ≢ no.OutOfMemory
first_named true x e rest n more h = subst (λ y. y ≢ no.OutOfMemory) (same_Some x e h) n
first_named false x e rest n more h = more h

-- lack of memory is no reason to refuse where nothing is refused
none_named : (e : Refusal) → None ≡ Some e → e ≢ no.OutOfMemory
none_named e h = absurd (let no : ⊥ = cc in no)

-- no reason to refuse a retirement, by the entry of its task, is lack of memory
retire_named : (s : LobbyEntry) (e : Refusal) → retire_refusal s ≡ Some e → e ≢ no.OutOfMemory
retire_named s e h =
    first_named (is_absent s) no.NoTask e _ (λ h. cc) (first_named (is_away s) no.NotBlocked e None (λ h. cc) (none_named e))
    h

-- no task is refused to be retired for lack of memory
pub retires_named : (id : ℕ) (l : List LobbyEntry) (r : Result Reply Refusal) (m : List LobbyEntry) → Retires id l r m → HadMemory r
retires_named id l (Ok r) m a = tt
retires_named id l (Err e) m a = retire_named (slice_index_or l id Absent) e a.0

-- no reason to refuse the beginning of a wake, by its entry and the hand, is lack of memory
begin_named : (s : LobbyEntry) (hand : Option Carried) (e : Refusal) → begin_refusal s hand ≡ Some e → e ≢ no.OutOfMemory
begin_named s hand e h =
    first_named (is_absent s) no.NoTask e _ (λ h. cc)
    (first_named (is_away s) no.NotBlocked e _ (λ h. cc) (first_named (is_some hand) no.InHand e None (λ h. cc) (none_named e))) h

-- no wake is refused to begin for lack of memory
pub begins_named : (id : ℕ) (loads : List ℕ) (p : Processor) (l : List LobbyEntry) (r : Result Reply Refusal) (q : Processor)
    (m : List LobbyEntry)
    → BeginsWake id loads p l r q m → HadMemory r
begins_named id loads p l (Ok r) q m b = tt
begins_named id loads p l (Err e) q m b = begin_named (slice_index_or l id Absent) p.hand e b.0

-- no policy is refused to be installed for lack of memory
pub installs_named : (h : Hook) (drawn : ℕ) (p : Processor) (new : InstalledFacts) (r : Result Reply Refusal) (q : Processor)
    → Installs h drawn p new r q → HadMemory r
installs_named h drawn p new (Ok r) q i = tt
installs_named h drawn p new (Err e) q i =
    let newest = (at_hook h p.hooks).generation in
    first_named _ (no.Older newest) e _ (λ h. cc) (first_named _ no.NotDrawn e None (λ h. cc) (none_named e)) i.0
