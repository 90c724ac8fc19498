use Rattle.std.proofs.Common.{rules, Bool, cond, ap, sym, ◌∙◌, Some, take}
use Rattle.loom_outside.specs.Files.{names, newest}
use Rattle.loom_outside.proofs.Places.{newest-seen}
use Rattle.loom_outside.proofs.files.find.Goals.{then-is_named, else-is_named}
use Rattle.loom_outside.proofs.files.find.Goals as goal

pub loop-place-preserved : goal.loop-place-preserved
loop-place-preserved c =
    let seen = newest-seen c.args.files.now c.loop-place.place c.index-files-place.result c.args.name.now c.loop-place-test.true c.index-files-place.is in
    let after = λ (b : Bool). cond b (Some c.loop-place.place) (newest (names (take c.loop-place.place c.args.files.now)) c.args.name.now) in record {
      newest = elim c.if-is_named.branch [
        | then-is_named w ↦ w.found-is ∙ sym (seen ∙ ap after (sym c.is_named.ensures ∙ w.if-is_named.true))
        | else-is_named w ↦ w.found-is ∙ c.loop-place.invariant.newest ∙ sym (seen ∙ ap after (sym c.is_named.ensures ∙ w.if-is_named.false))
      ];
      bound = search rules;
    }
