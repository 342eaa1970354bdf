-- What is shown of an answer: the rule's word on it.
use Rattle.std.specs.Prelude.{◌≡◌, ℕ, List, ◌++◌, codes, length}
use Rattle.bq_hooks.specs.Hooks.{context_length_of}
use Rattle.bq_hooks.specs.declared.hook.Hook.{Hook}
use Rattle.bq_hooks.specs.declared.hook.Version.{Version}
use Rattle.bq_policy_run.specs.Permitting.{permission_of}
use Rattle.bq_policy_run.specs.declared.permitted.Permission.{Permission}
use Rattle.bq_policy_run.specs.declared.permitted.Permission.TheVariants.{Permitted, NotPermitted, NotShown}

-- how the rule's word begins in a text
abbrev pub word_begins : Permission → List ℕ
word_begins Permitted = codes "permitted: "
word_begins NotPermitted = codes "not permitted: "
word_begins NotShown = codes "permitted only if "

-- the text begins with that word, and the reason follows it
abbrev pub BeginsWithWord : Permission → List ℕ → Type 0
BeginsWithWord word text = (why : List ℕ) × (text ≡ word_begins word ++ why)

-- if the context is as long as those of some version of the hook, the text begins with the rule's word on this answer to it
abbrev pub BeginsWithPermission : Hook → List ℕ → ℕ → List ℕ → Type 0
BeginsWithPermission hook context r0 text = (version : Version) → length context ≡ context_length_of hook version → BeginsWithWord (permission_of hook context r0) text
