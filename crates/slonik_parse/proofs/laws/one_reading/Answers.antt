use Rattle.slonik_parse.proofs.Saying.{one_script, one_refusal, never_both}
use Rattle.slonik_parse.proofs.laws.one_reading.Goals as goal

pub returns : goal.returns
returns c = record { scripts = one_script; refusals = one_refusal; apart = never_both }
