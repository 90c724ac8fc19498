use Rattle.std.proofs.Common.{ℕ, ◌≡◌, ◌<◌, true, sym, subst, arith, refl}
use Rattle.std.proofs.lemmas.Grind.{common_steps}
use Rattle.object_table.specs.Entries.{is_short}
use Rattle.core_view.specs.Core.{Core, with_chunk_at}
use Rattle.core_view.specs.Steps.{IsMove}
use Rattle.core_view.proofs.Moves.{free-loose, chunk-move, move-core}
use Rattle.leaf_lambda.specs.Parts.{core_of}
use Rattle.leaf_lambda.specs.Making.{words_new}
use Rattle.leaf_lambda.proofs.StepLaws.{core-is}
use Rattle.leaf_lambda.proofs.making.take_new.Goals as goal

above : (s : ℕ) → is_short s ≡ true → 0 < s
above s is = grind (arith, common_steps)

pub take_filled_new-requires-clause-owned : goal.take_filled_new-requires-clause-owned
take_filled_new-requires-clause-owned c = above c.args.s.0 (c.requires.parts.core.short c.args.s.0 c.requires.used)

taken : (c : goal.After-take_filled_new) → core_of (record { segment = c.take_filled_new.new.g; names = c.args.p.now.names }) ≡ with_chunk_at (core_of c.args.p.now) c.take_filled_new.result.place (record { owner = c.args.s.0; words = words_new c.args.kind c.args.len c.args.header c.args.filler })
unfolding core_of
taken c = core-is _ (with_chunk_at (core_of c.args.p.now) c.take_filled_new.result.place (record { owner = c.args.s.0; words = words_new c.args.kind c.args.len c.args.header c.args.filler })) refl refl c.take_filled_new.ensures.chunk refl

moved : (c : goal.After-take_filled_new) → IsMove (core_of c.args.p.now) (with_chunk_at (core_of c.args.p.now) c.take_filled_new.result.place (record { owner = c.args.s.0; words = words_new c.args.kind c.args.len c.args.header c.args.filler }))
unfolding core_of
moved c = chunk-move (core_of c.args.p.now) c.take_filled_new.result.place (record { owner = c.args.s.0; words = words_new c.args.kind c.args.len c.args.header c.args.filler }) (free-loose (core_of c.args.p.now) c.take_filled_new.result.place c.requires.parts.core c.take_filled_new.ensures.vacant)

pub returns-clause-moves : goal.returns-clause-moves
returns-clause-moves c = subst (λ (d : Core). IsMove (core_of c.args.p.now) d) (sym (taken c)) (moved c)

pub returns-clause-parts : goal.returns-clause-parts
returns-clause-parts c = record { core = move-core (core_of c.args.p.now) _ c.requires.parts.core (returns-clause-moves c); room = c.requires.parts.room }

pub returns-clause-core : goal.returns-clause-core
returns-clause-core c = taken c

pub returns-clause-vacant : goal.returns-clause-vacant
unfolding core_of
returns-clause-vacant c = c.take_filled_new.ensures.vacant

pub returns-clause-takes : goal.returns-clause-takes
returns-clause-takes c =
    let t = c.take_filled_new.ensures.takes in
    let words = c.size_new-words.ensures in
    record { size = t.size; free = let took = t.free in omega arith; largest = let took = t.largest in omega arith }
