-- What events carry.
use Rattle.std.specs.Prelude.{Some}
use Rattle.bq_parts.specs.declared.event.Event.{Event}
use Rattle.bq_parts.specs.declared.event.Event.TheVariants.{Install}

-- the event installs a policy at a hook
abbrev pub CarriesPolicy : Event → Type 0
CarriesPolicy (Install processor h g (Some p)) = Unit {0}
CarriesPolicy e = ⊥
