use Rattle.core_view.proofs.Compaction.{move-step, move-tight}
use Rattle.core_view.proofs.laws.a_chunk_moves_with_its_entry.Goals as goal

pub returns : goal.returns
returns c = λ a d m core tight move entries find bound. (move-step a d m core tight move entries find bound, move-tight a d m core tight move entries)
