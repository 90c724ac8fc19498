use Rattle.std.proofs.Common.{ℕ, ◌+◌, ◌≤◌, ◌<◌, length, sym, ◌∙◌, subst}
use Rattle.std.specs.Result.{OnOk}
use Rattle.object_memory.specs.Told.{Told}
use Rattle.leaf_lambda.specs.Parts.{core_of}
use Rattle.loom_memory.specs.Memory.{loom_told}
use Rattle.loom_memory.specs.Says.{IsSaid, text_at}
use Rattle.loom_memory.proofs.TextLaws.{text-run}
use Rattle.loom_memory.proofs.memory.LoomMemory.say_run.Goals as goal

pub bytes_into-all-requires-clause-there : goal.bytes_into-all-requires-clause-there
bytes_into-all-requires-clause-there g c = (c.requires.text.at, c.requires.text.place)

pub say_piece-requires-clause-text : goal.say_piece-requires-clause-text
say_piece-requires-clause-text g c = λ told.
    let x = core_of c.args.self.now.pager.levels.parts in
    let text = c.requires.text in
    let run = text-run c.bytes_into-all.result x c.args.s.0 text.at c.args.i (length c.args.piece.now) c.bytes_into-all.new.out c.args.self.now.pager.levels.whole.parts.core text.place text.kind (subst (λ (n : ℕ). c.args.i + n ≤ (x.entries c.args.s.0).len) (sym c.requires.long) c.requires.within) c.bytes_into-all.ensures in
    (text_at x c.args.s.0 text.at, text.says told, run.bytes)

pub say_piece-requires-clause-some : goal.say_piece-requires-clause-some
say_piece-requires-clause-some g c =
    let x = core_of c.args.self.now.pager.levels.parts in
    let text = c.requires.text in
    let run = text-run c.bytes_into-all.result x c.args.s.0 text.at c.args.i (length c.args.piece.now) c.bytes_into-all.new.out c.args.self.now.pager.levels.whole.parts.core text.place text.kind (subst (λ (n : ℕ). c.args.i + n ≤ (x.entries c.args.s.0).len) (sym c.requires.long) c.requires.within) c.bytes_into-all.ensures in
    subst (λ (n : ℕ). 0 < n) (sym (run.long ∙ c.requires.long)) c.requires.some

pub returns-clause-said : goal.returns-clause-said
returns-clause-said g c =
    let x = core_of c.args.self.now.pager.levels.parts in
    let text = c.requires.text in
    let run = text-run c.bytes_into-all.result x c.args.s.0 text.at c.args.i (length c.args.piece.now) c.bytes_into-all.new.out c.args.self.now.pager.levels.whole.parts.core text.place text.kind (subst (λ (n : ℕ). c.args.i + n ≤ (x.entries c.args.s.0).len) (sym c.requires.long) c.requires.within) c.bytes_into-all.ensures in
    subst (λ (n : ℕ). OnOk c.say_piece.result ((t : Told) → IsSaid t (loom_told g.H.Host c.args.self.now) c.args.of c.args.i → IsSaid t (loom_told g.H.Host c.say_piece.new.self) c.args.of (c.args.i + n))) (run.long ∙ c.requires.long) c.say_piece.ensures.said
