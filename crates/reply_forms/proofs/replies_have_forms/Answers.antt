use Rattle.reply_forms.proofs.Forms.{formed_by}
use Rattle.reply_forms.proofs.replies_have_forms.Goals as goal

pub returns : goal.returns
returns c = formed_by
