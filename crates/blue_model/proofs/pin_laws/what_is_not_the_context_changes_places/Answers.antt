use Rattle.blue_model.proofs.PinLaws.{swaps_free}
use Rattle.blue_model.proofs.pin_laws.what_is_not_the_context_changes_places.Goals as goal

pub returns : goal.returns
returns c = record { swaps = swaps_free }
