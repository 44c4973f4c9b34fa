use Rattle.mid_rules.proofs.Meanings.{still_is_still}
use Rattle.mid_rules.proofs.laws.still_by_form.Goals as goal

pub returns : goal.returns
returns c = still_is_still
