-- A policy that is read and taken.
use Rattle.std.proofs.Common.{◌≡◌, ℕ, List, Option, Result, Ok, Err, Some, None, OnOk, IfErr, subst, sym, ◌∙◌}
use Rattle.bq_hooks.specs.declared.hook.Hook.{Hook}
use Rattle.bq_insn.specs.Spelling.{spelling}
use Rattle.bq_load.specs.Layout.{IsImage}
use Rattle.bq_policy_file.specs.Files.{Agree, IsPolicyOfKind, IsPolicy, IsPolicyFault, either, kind_of}
use Rattle.bq_policy_file.specs.declared.fault.PolicyFault.{PolicyFault as FileFault}
use Rattle.bq_policy_file.specs.declared.fault.PolicyFault.TheVariants.{Disagrees}
use Rattle.bq_policy_file.specs.declared.head.Head.{Head}
use Rattle.bq_policy_file.specs.declared.kind.FileKind.{FileKind}
use Rattle.bq_policy_file.specs.declared.kind.FileKind.TheVariants as kind
use Rattle.bq_policy_file.specs.declared.policy_source.PolicySource.{PolicySource}
use Rattle.bq_experiment.specs.PoliciesAndImages.{PoliciesAndImages}
use Rattle.bq_experiment.specs.Taking.{AsksForHook, IsFileRefusal, IsRead, IsAttachFault, IsFaultOfFile, IsFaultOfImage, Attaches}
use Rattle.bq_experiment.specs.declared.policies.AttachFault.{AttachFault}
use Rattle.bq_experiment.specs.declared.policies.AttachFault.TheVariants as attach

-- where a hook is asked for, no other hook is named, whether it is combined with the file's or compared to it:
either_is : (given stated : Option Hook) (hook named : Hook) → given ≡ Some hook → either given stated ≡ Some named → named ≡ hook
either_is (Some other) stated hook named is e = cc
either_is None stated hook named is e = cc

agrees : (given : Option Hook) (hook named : Hook) → given ≡ Some hook → Agree given (Some named) → named ≡ hook
agrees (Some other) hook named is e = cc
agrees None hook named is e = cc

-- where a hook is asked for, the policy that a file is read as is for that hook, first for each kind of file:
of_kind : (k : FileKind) (bytes : List ℕ) (asked : Head) (policy : PolicySource) (hook : Hook)
    → asked.hook ≡ Some hook → IsPolicyOfKind k bytes asked policy → policy.form.hook ≡ hook
of_kind kind.Image bytes asked policy hook is h = agrees asked.hook hook policy.form.hook is h.agrees.hooks
of_kind kind.Hex bytes asked policy hook is (image, spells, h) = agrees asked.hook hook policy.form.hook is h.agrees.hooks
of_kind kind.Text bytes asked policy hook is h = either_is asked.hook h.stated.hook hook policy.form.hook is h.combined.hook_is

hook_read : (file : List ℕ) (asked : Head) (policy : PolicySource) (hook : Hook)
    → asked.hook ≡ Some hook → IsPolicy file asked policy → policy.form.hook ≡ hook
hook_read file asked policy hook is h = of_kind (kind_of file) file asked policy hook is h

-- it is taken as what was asked for
taken : (hook : Option Hook) (asked : Head) (file : List ℕ) (at : Hook) (old new : PoliciesAndImages)
    → Attaches (IsPolicy file asked) at old new → AsksForHook hook asked → Attaches (IsRead hook file) at old new
taken hook asked file at old new t asks = record {
  read = t.read;
  reads = (asked, asks, t.reads);
  hook_is = t.hook_is;
  free = t.free;
  image = t.image;
  spells = t.spells;
  policy = t.policy;
  of = t.of;
  adds = t.adds;
}

-- where no hook is asked for, it is taken at the hook that the file says
pub takes_by_head : (result : Result (Unit {0}) AttachFault) (asked : Head) (file : List ℕ) (old new : PoliciesAndImages)
    → OnOk result ((at : Hook) × Attaches (IsPolicy file asked) at old new) → AsksForHook None asked
    → OnOk result ((at : Hook) × Attaches (IsRead None file) at old new)
takes_by_head (Ok x) asked file old new (at, t) asks = (at, taken None asked file at old new t asks)
takes_by_head (Err e) asked file old new t asks = tt

-- where a hook is asked for, it is taken at that hook
pub takes_at : (result : Result (Unit {0}) AttachFault) (hook : Hook) (asked : Head) (file : List ℕ) (old new : PoliciesAndImages)
    → OnOk result ((at : Hook) × Attaches (IsPolicy file asked) at old new) → AsksForHook (Some hook) asked
    → OnOk result (Attaches (IsRead (Some hook) file) hook old new)
takes_at (Ok x) hook asked file old new (at, t) asks =
    let is : at ≡ hook = sym t.hook_is ∙ hook_read file asked t.read hook asks.hook_is t.reads in
    subst (λ (h : Hook). Attaches (IsRead (Some hook) file) h old new) is (taken (Some hook) asked file at old new t asks)
takes_at (Err e) hook asked file old new t asks = tt

-- why what was asked for is not taken is why the file is not taken
fault_reported : (hook : Option Hook) (asked : Head) (file : List ℕ) (old : PoliciesAndImages) (fault : AttachFault)
    → IsAttachFault (IsPolicy file asked) (IsPolicyFault file asked) old fault → AsksForHook hook asked
    → IsAttachFault (IsRead hook file) (IsFileRefusal hook file) old fault
fault_reported hook asked file old attach.Twice (read, reads, there) asks = (read, (asked, asks, reads), there)
fault_reported hook asked file old attach.Hook (key, refused) asks = (key, (asked, asks, refused))
fault_reported hook asked file old (attach.File words) (named, refused, other) asks = (named, (asked, asks, refused), other)
fault_reported hook asked file old (attach.Program named) t asks =
    record { read = t.read; reads = (asked, asks, t.reads); image = t.image; spells = t.spells; unloaded = t.unloaded; other = t.other }
fault_reported hook asked file old attach.OutOfMemory t asks = tt

-- why a file is not taken is so by what was asked for
pub reported_of : (result : Result (Unit {0}) AttachFault) (hook : Option Hook) (asked : Head)
    (file : List ℕ) (old : PoliciesAndImages)
    → IfErr result (IsAttachFault (IsPolicy file asked) (IsPolicyFault file asked) old) → AsksForHook hook asked
    → IfErr result (IsAttachFault (IsRead hook file) (IsFileRefusal hook file) old)
reported_of (Ok x) hook asked file old t asks = tt
reported_of (Err e) hook asked file old t asks = fault_reported hook asked file old e t asks

-- what is reported of a refused file is why it is not taken
pub none_reported : (Reads : PolicySource → Type 0) (Refuses : FileFault → Type 0) (s : PoliciesAndImages)
    (named : FileFault) (fault : AttachFault)
    → Refuses named → IsFaultOfFile named fault → IsAttachFault Reads Refuses s fault
none_reported Reads Refuses s (Disagrees key) fault refused is = subst (IsAttachFault Reads Refuses s) (sym is) (key, refused)
none_reported Reads Refuses s named (attach.File words) refused is = (named, refused, is)
none_reported Reads Refuses s named attach.OutOfMemory refused is = tt
none_reported Reads Refuses s named fault refused is = absurd is

-- what is reported of an image that is not loaded is why it is not taken
pub image_reported : (Reads : PolicySource → Type 0) (Refuses : FileFault → Type 0) (s : PoliciesAndImages)
    (read : PolicySource) (image : List ℕ) (fault : AttachFault)
    → Reads read → IsImage image read.form.version read.form.hook read.form.shapes.items (spelling read.insns.items)
    → IsFaultOfImage image fault
    → IsAttachFault Reads Refuses s fault
image_reported Reads Refuses s read image (attach.Program named) reads spells is =
    record { read = read; reads = reads; image = image; spells = spells; unloaded = is.0; other = is.1 }
image_reported Reads Refuses s read image attach.OutOfMemory reads spells is = tt
image_reported Reads Refuses s read image fault reads spells is = absurd is

-- lack of memory is reported as why a file is not taken
pub memory_reported : (Reads : PolicySource → Type 0) (Refuses : FileFault → Type 0) (s : PoliciesAndImages)
    (result : Result (Unit {0}) AttachFault)
    → IfErr result (λ fault. fault ≡ attach.OutOfMemory) → IfErr result (IsAttachFault Reads Refuses s)
memory_reported Reads Refuses s (Ok x) is = tt
memory_reported Reads Refuses s (Err fault) is = subst (IsAttachFault Reads Refuses s) (sym is) tt
