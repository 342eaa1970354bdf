-- The policies that events bring.
use Rattle.std.specs.Prelude.{Option, None}
use Rattle.bq_verify.specs.Accepted.{Accepted}
use Rattle.bq_parts.specs.declared.event.Event.{Event}
use Rattle.bq_parts.specs.declared.event.Event.TheVariants.{Install}

-- the event; an Install gets this policy in place of its own
abbrev pub with_policy : Event → Option Accepted → Event
with_policy (Install processor hook g old) new = Install processor hook g new
with_policy event new = event

-- the event without the policy that it brings
abbrev pub without_policy : Event → Event
without_policy event = with_policy event None
