-- The words that name hooks and versions, in traces, options, marks and answers alike, and the lengths of contexts.
use Rattle.std.specs.Prelude.{ℕ, List, Option, Some, None, if◌then◌else◌, codes}
use Rattle.std.specs.Str.{bytes_eq}
use Rattle.bq_hooks.specs.declared.hook.Hook.{Hook}
use Rattle.bq_hooks.specs.declared.hook.Hook.TheVariants as hooks
use Rattle.bq_hooks.specs.declared.hook.Version.{Version}
use Rattle.bq_hooks.specs.declared.hook.Version.TheVariants as versions

-- the word of a hook
abbrev pub hook_word : Hook → List ℕ
hook_word hooks.Place = codes "place"
hook_word hooks.Preempt = codes "preempt"
hook_word hooks.Pull = codes "pull"

-- the hook that a word names, if it names one
abbrev pub hook_of : List ℕ → Option Hook
hook_of word =
    if bytes_eq word (codes "place") then Some hooks.Place
    else if bytes_eq word (codes "preempt") then Some hooks.Preempt
    else if bytes_eq word (codes "pull") then Some hooks.Pull
    else None

-- the number of a version
abbrev pub version_number : Version → ℕ
version_number versions.First = 1
version_number versions.Second = 2

-- the version whose number a word is, if it is one
abbrev pub version_of : List ℕ → Option Version
version_of word =
    if bytes_eq word (codes "1") then Some versions.First
    else if bytes_eq word (codes "2") then Some versions.Second
    else None

-- how many bytes the context of a hook has
abbrev pub context_length_of : Hook → Version → ℕ
context_length_of hooks.Place versions.First = 104
context_length_of hooks.Place versions.Second = 296
context_length_of hooks.Preempt _ = 56
context_length_of hooks.Pull _ = 160
