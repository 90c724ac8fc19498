-- A `&` to the words reaches each of them. Assumes `Logic`.
use denote.Struct.Lending.{of_Lends, Lends-first}
use Rattle.core_segment.specs.contracts.memory.Cells as C
use Rattle.std.proofs.Common.{length}
use Rattle.core_segment.specs.Memory.{words_at, words_lent, room_past}
use Rattle.core_segment.proofs.Lent.{lent_laws, Lends-words}
use Rattle.core_segment.proofs.memory.Cells.TheLaw.Statement.{statement}

pub shares : statement
shares = of_Lends C.struct C.the_codes C.the_heap C.the_lent (λ d p. lent_laws d.at d.items) tt (λ M 𝓤 𝓛 d p. Lends-first 𝓛 (words_at d.at d.items) (room_past d.at (length d.items) d.spare) (words_lent d.at d.items) (C.the_row).lives (Lends-words 𝓛 (C.the_row).lives d.at d.items))
