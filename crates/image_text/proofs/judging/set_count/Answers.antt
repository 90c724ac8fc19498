use Rattle.std.proofs.Common.{w64, SFits, rules, ◌∙◌}
use Rattle.std.proofs.lemmas.Int.{to_z-of_z}
use Rattle.image_text.proofs.JudgeTexts.{can_count, sets_count}
use Rattle.image_text.proofs.judging.set_count.Goals as goal

pub add_count-requires : goal.add_count-requires
add_count-requires g c =
    let fits : SFits w64 c.change_of-change.result = search rules in
    record {
      stands = λ told. can_count g.H.Host c.args.disk.now.host.now c.args.disk.now.rest c.args.name c.args.count _ (c.requires.none told) (c.requires.uncounted told) (c.requires.small told)
          (to_z-of_z w64 c.change_of-change.result fits ∙ c.change_of-change.ensures (c.requires.small told));
    }

pub returns-clause-sets : goal.returns-clause-sets
returns-clause-sets g c = λ told.
    let fits : SFits w64 c.change_of-change.result = search rules in
    sets_count g.H.Host c.args.disk.now.host.now c.add_count.new.self.host.now c.args.disk.now.rest c.add_count.new.self.rest c.args.name c.args.count c.in_ok-add_count.field-0 _ (c.requires.none told) (c.requires.uncounted told)
    (to_z-of_z w64 c.change_of-change.result fits ∙ c.change_of-change.ensures (c.requires.small told))
    (c.in_ok-add_count.ensures.changed told) (c.in_ok-add_count.ensures.counted told)
