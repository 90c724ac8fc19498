use Rattle.blue_model.proofs.LiveLaws.{all_kept}
use Rattle.blue_model.proofs.log_laws.what_is_held_is_kept.Goals as goal

pub returns : goal.returns
returns c = all_kept
