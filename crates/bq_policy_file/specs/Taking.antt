-- What one more line does to a head.
use Rattle.std.specs.Prelude.{◌≡◌, ℕ, List, Some, None}
use Rattle.std.proofs.Common.{Global}
use Rattle.std.specs.declared.vec.Vec.{Vec}
use Rattle.bq_bpf.specs.declared.shape.MapShape.{MapShape}
use Rattle.bq_hooks.specs.declared.hook.Hook.{Hook}
use Rattle.bq_hooks.specs.declared.hook.Version.{Version}
use Rattle.bq_policy_file.specs.declared.head.Head.{Head}
use Rattle.bq_policy_file.specs.declared.mark.Key.{Key}
use Rattle.bq_policy_file.specs.declared.mark.Key.TheVariants as key
use Rattle.bq_policy_file.specs.declared.fault.HeadCause.TheVariants as cause
use Rattle.bq_policy_file.specs.declared.fault.HeadCause.{HeadCause}
use Rattle.bq_policy_file.specs.declared.fault.HeadFault.{HeadFault}
use Rattle.bq_policy_file.specs.declared.fault.HeadFault.TheVariants.{At, OutOfMemory}
use Rattle.bq_hooks.specs.Hooks.{hook_of, version_of}
use Rattle.bq_policy_file.specs.Heads.{HasKey, IsBadLine, IsNoValue, NamesMapShapes}

-- nothing was said of the key, and then the value is, and nothing else
abbrev pub TakesValue : Head → Head → Key → List ℕ → Type 0
TakesValue old new key.Hook word = (v : Hook) × (old.hook ≡ None) × (hook_of word ≡ Some v) × (new.hook ≡ Some v) × (new.maps ≡ old.maps) × (new.format ≡ old.format)
TakesValue old new key.Maps word = (v : Vec MapShape Global) × (old.maps ≡ None) × NamesMapShapes word v × (new.hook ≡ old.hook) × (new.maps ≡ Some v) × (new.format ≡ old.format)
TakesValue old new key.Format word = (v : Version) × (old.format ≡ None) × (version_of word ≡ Some v) × (new.hook ≡ old.hook) × (new.maps ≡ old.maps) × (new.format ≡ Some v)

-- why the value of the key is not taken
abbrev pub IsBadValue : Head → Key → List ℕ → HeadCause → Type 0
IsBadValue h key word cause.Unknown = ⊥
IsBadValue h key word (cause.Value named) = (named ≡ key) × IsNoValue key word × (HasKey h key → ⊥)
IsBadValue h key word (cause.Twice named) = (named ≡ key) × HasKey h key

-- a line is refused for the value of its key
abbrev pub IsRefusedValue : Head → ℕ → Key → List ℕ → HeadFault → Type 0
IsRefusedValue h number key word (At line named) = (line ≡ number) × IsBadValue h key word named
IsRefusedValue h number key word OutOfMemory = Unit {0}

-- a line is refused after this head
abbrev pub IsRefusedLine : Head → ℕ → List ℕ → HeadFault → Type 0
IsRefusedLine h number text (At line named) = (line ≡ number) × IsBadLine h text named
IsRefusedLine h number text OutOfMemory = Unit {0}
