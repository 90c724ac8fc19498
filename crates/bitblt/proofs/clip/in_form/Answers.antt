use Rattle.std.proofs.Common.{◌≡◌, pos, ◌∙◌}
use Rattle.std.proofs.lemmas.Int.{to_z-of_z}
use mir.Val.{SFits}
use Rattle.std.specs.Int.{w16}
use Rattle.blue_model.specs.BitBlt.{spans}
use Rattle.bitblt.specs.Clip.{covers}
use Rattle.bitblt.proofs.Clips.{both-same, and-assoc}
use Rattle.bitblt.proofs.clip.in_form.Goals as goal

pub returns-clause-covers : goal.returns-clause-covers
returns-clause-covers c x =
    let f1 : SFits w16 c.args.at = c.ranges.at in
    let f2 : SFits w16 c.args.extent = c.ranges.extent in
    let f3 : SFits w16 c.args.clip_at = c.ranges.clip_at in
    let f4 : SFits w16 c.args.clip_extent = c.ranges.clip_extent in
    let asked : covers c.places_from-asked.result x ≡ spans c.args.at c.args.extent (pos x) = simp to_z-of_z at (c.places_from-asked.ensures x) in
    let clip : covers c.places_from-clip.result x ≡ spans c.args.clip_at c.args.clip_extent (pos x) = simp to_z-of_z at (c.places_from-clip.ensures x) in
    c.meet.ensures.covers x ∙ both-same _ _ _ _ (c.meet-both.ensures.covers x ∙ both-same _ _ _ _ asked clip) (c.form_places.ensures.covers x)
    ∙ and-assoc (spans c.args.at c.args.extent (pos x)) (spans c.args.clip_at c.args.clip_extent (pos x)) (spans (pos 0) (pos c.args.form) (pos x))
