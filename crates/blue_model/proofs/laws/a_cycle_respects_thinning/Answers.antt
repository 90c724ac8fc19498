use Rattle.std.proofs.Common.{refl}
use Rattle.long_names.proofs.ThinLemmas.{IsThinning-refl, IsWhole-bounded}
use Rattle.blue_model.proofs.LawSteps.{respects}
use Rattle.blue_model.proofs.TurnLaws.{law-cycle, law-step, law-park_and_draw}
use Rattle.blue_model.proofs.RuleLaws.{law-start, law-park}
use Rattle.blue_model.proofs.DeviceLaws.{law-picture}
use Rattle.blue_model.proofs.laws.a_cycle_respects_thinning.Goals as goal

pub returns-clause-cycle : goal.returns-clause-cycle
returns-clause-cycle c events = respects (λ w. law-cycle {w = w} events)

pub returns-clause-step : goal.returns-clause-step
returns-clause-step c events = respects (λ w. law-step {w = w} events)

pub returns-clause-start : goal.returns-clause-start
returns-clause-start c = respects (λ w. law-start {w = w})

pub returns-clause-park : goal.returns-clause-park
returns-clause-park c = respects (λ w. law-park {w = w})

pub returns-clause-draw : goal.returns-clause-draw
returns-clause-draw c = respects (λ w. law-park_and_draw {w = w})

pub returns-clause-picture : goal.returns-clause-picture
returns-clause-picture c = respects (λ w. law-picture {w = w})

pub returns-clause-whole : goal.returns-clause-whole
returns-clause-whole c m whole = record { thinning = IsThinning-refl m.heap m.regs m.slots whole; bounded = IsWhole-bounded m.heap m.regs m.slots whole; regs = refl; slots = refl; transcript = refl; cpu = refl; largest = refl }
