-- Why what was asked for and what a file says give no policy.
use Rattle.bq_policy_file.specs.declared.fault.PolicyFault.{PolicyFault}
use Rattle.bq_policy_file.specs.declared.fault.PolicyFault.TheVariants as fault
use Rattle.bq_policy_file.specs.declared.head.Head.{Head}
use Rattle.bq_policy_file.specs.Files.{DiffersIn, NamesNoHook, shapes_in_head}

-- why two heads do not combine: they differ in a key, or neither names the hook. If memory runs out, nothing is said of them
abbrev pub IsUncombinable : Head → Head → PolicyFault → Type 0
IsUncombinable given stated (fault.Disagrees key) = DiffersIn key given stated.hook (shapes_in_head stated) stated.format
IsUncombinable given stated fault.NoHook = NamesNoHook given stated
IsUncombinable given stated fault.OutOfMemory = Unit {0}
IsUncombinable given stated other = ⊥
