use Rattle.blue_model.proofs.LawSteps.{respects}
use Rattle.blue_model.proofs.DeviceLaws.{law-copy_bits, law-due, law-display_row}
use Rattle.blue_model.proofs.laws.devices_respect_thinning.Goals as goal

pub returns-clause-blit : goal.returns-clause-blit
returns-clause-blit c = respects (λ w. law-copy_bits {w = w})

pub returns-clause-due : goal.returns-clause-due
returns-clause-due c events = respects (λ w. law-due {w = w} events)

pub returns-clause-row : goal.returns-clause-row
returns-clause-row c y = respects (λ w. law-display_row {w = w} y)
