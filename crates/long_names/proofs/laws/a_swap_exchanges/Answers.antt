use Rattle.long_names.proofs.ThinLemmas.{swapped_first, swapped_second, swapped_apart, swapped_same}
use Rattle.long_names.proofs.laws.a_swap_exchanges.Goals as goal

pub returns : goal.returns
returns c = record { first = swapped_first; second = swapped_second; others = swapped_apart; same = swapped_same }
