use Rattle.image_laws.proofs.Images.{reading_leads, reading_led}
use Rattle.image_laws.proofs.readings_lead.Goals as goal

pub returns-clause-lead : goal.returns-clause-lead
returns-clause-lead c = reading_leads

pub returns-clause-led : goal.returns-clause-led
returns-clause-led c = reading_led
