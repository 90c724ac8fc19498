use Rattle.std.proofs.Common.{◌≡◌, refl, sym, subst}
use Rattle.core_segment.specs.Chunks.{no_chunk}
use Rattle.core_view.specs.Core.{Core, with_chunk_at}
use Rattle.core_view.specs.Steps.{IsMove}
use Rattle.core_view.proofs.Moves.{chunk-move, move-core}
use Rattle.leaf_lambda.specs.Parts.{core_of}
use Rattle.leaf_lambda.proofs.StepLaws.{core-is}
use Rattle.leaf_lambda.proofs.leaving.give_chunk.Goals as goal

pub free_chunk-requires : goal.free_chunk-requires
unfolding core_of
free_chunk-requires c = c.requires.owned

given : (c : goal.After-free_chunk) → core_of (record { segment = c.free_chunk.new.g; names = c.args.p.now.names }) ≡ with_chunk_at (core_of c.args.p.now) c.args.at.place no_chunk
unfolding core_of
given c = core-is _ (with_chunk_at (core_of c.args.p.now) c.args.at.place no_chunk) refl refl c.free_chunk.ensures.chunks refl

pub returns-clause-moves : goal.returns-clause-moves
returns-clause-moves c = subst (λ (d : Core). IsMove (core_of c.args.p.now) d) (sym (given c)) (chunk-move (core_of c.args.p.now) c.args.at.place no_chunk c.requires.loose)

pub returns-clause-parts : goal.returns-clause-parts
returns-clause-parts c = record { core = move-core (core_of c.args.p.now) _ c.requires.parts.core (returns-clause-moves c); room = c.requires.parts.room }

pub returns-clause-core : goal.returns-clause-core
returns-clause-core c = given c

pub returns-clause-free : goal.returns-clause-free
unfolding core_of
returns-clause-free c = c.free_chunk.ensures.free

pub returns-clause-largest : goal.returns-clause-largest
unfolding core_of
returns-clause-largest c = c.free_chunk.ensures.largest
