use Rattle.std.proofs.Common.{inl, inr, refl}
use Rattle.bq_policy_check.proofs.listing.list_file.Goals as goal

pub returns-in_ok-listed-in-Ok : goal.returns-in_ok-listed-in-Ok
returns-in_ok-listed-in-Ok c = inr record {
  policy = c.in-Ok.policy;
  is_policy = c.in-Ok.ensures.policy;
  text = c.in_ok-listed-in-Ok.listed;
  is = refl;
  listed = c.in_ok-listed-in-Ok.ensures.listed;
  file = c.in_ok-listed-in-Ok.ensures.file;
}

pub returns-in_ok-text-in-Err : goal.returns-in_ok-text-in-Err
returns-in_ok-text-in-Err c = inl record {
  named = c.in-Err.fault;
  is_fault = c.in-Err.ensures.fault;
  other = c.in_ok-text-in-Err.ensures.other;
  text = c.in_ok-text-in-Err.text;
  is = refl;
  refuses = c.in_ok-text-in-Err.ensures.line;
}
