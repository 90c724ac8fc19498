use Rattle.std.proofs.Common.{◌≡◌, ℕ, false, eqb, Option, ap, ◌∙◌, refl}
use Rattle.std.proofs.lemmas.Bool.{ne_eqb}
use Rattle.loom_host.specs.declared.outside.Role.TheVariants.{Work}
use Rattle.long_names.specs.declared.object.Object.{Object}
use Rattle.disk_objects.specs.Function.{disk_of}
use Rattle.image_writer.specs.Saved as saved
use Rattle.image_writer.proofs.DiskFacts.{still_holds, same_disk, held_name, state_kept}
use Rattle.image_writer.proofs.pieces.kept_state.Goals as goal
use Rattle.image_writer.proofs.pieces.kept_state.Goals.{then-timer-eq0, else-timer-eq0}

pub kept_word-requires-2 : goal.kept_word-requires-2
kept_word-requires-2 g c = record { stands = still_holds g.H.Host c.args.disk.now.host.now c.kept_word.new.disk.host.now c.args.disk.now.rest c.kept_word.new.disk.rest (c.kept_word.ensures.read.roles Work) c.kept_word.ensures.rest c.requires.stands }

pub kept_word-requires-3 : goal.kept_word-requires-3
kept_word-requires-3 g c = record { stands = still_holds g.H.Host c.args.disk.now.host.now c.kept_word-2.new.disk.host.now c.args.disk.now.rest c.kept_word-2.new.disk.rest (c.kept_word-2.ensures.read.roles Work ∙ c.kept_word.ensures.read.roles Work) (c.kept_word-2.ensures.rest ∙ c.kept_word.ensures.rest) c.requires.stands }

pub returns-clause-state : goal.returns-clause-state
returns-clause-state g c = λ told.
    let first = same_disk g.H.Host c.args.disk.now.host.now c.kept_word.new.disk.host.now c.args.disk.now.rest c.kept_word.new.disk.rest (c.kept_word.ensures.read.roles Work) c.kept_word.ensures.rest in
    let second = same_disk g.H.Host c.args.disk.now.host.now c.kept_word-2.new.disk.host.now c.args.disk.now.rest c.kept_word-2.new.disk.rest (c.kept_word-2.ensures.read.roles Work ∙ c.kept_word.ensures.read.roles Work) (c.kept_word-2.ensures.rest ∙ c.kept_word.ensures.rest) in
    state_kept (disk_of g.H.Host c.args.disk.now.host.now c.args.disk.now.rest) c.args.state.now c.in_ok-display.display c.in_ok-input.input c.in_ok-timer.timer c.if-timer-eq0.tick
    (λ n. held_name g.H.Host c.args.disk.now.host.now c.args.disk.now.rest n c.requires.stands told)
    (c.in_ok-display.ensures.word told)
    (c.in_ok-input.ensures.word told ∙ ap (λ (at : ℕ → Option Object). saved.kept_word at c.args.state.now.input) first)
    (c.in_ok-timer.ensures.word told ∙ ap (λ (at : ℕ → Option Object). saved.kept_word at c.args.state.now.timer) second)
    (elim c.if-timer-eq0.branch [
      | then-timer-eq0 w ↦ rw (w.tick-is, w.if-timer-eq0.true) refl
      | else-timer-eq0 w ↦ (let above : eqb c.in_ok-timer.timer 0 ≡ false = ne_eqb _ _ w.if-timer-eq0.false in rw (w.tick-is, above) refl)
    ])
