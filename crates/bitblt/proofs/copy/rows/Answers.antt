use Rattle.std.proofs.Common.{rules, ℕ, subst, Option}
use Rattle.std.proofs.lemmas.Int.{to_z-of_z}
use mir.Val.{SFits}
use Rattle.std.specs.Int.{w16}
use Rattle.blue_model.specs.BitBlt.{is_changed_place}
use Rattle.bitblt.specs.Clip.{IsClipped}
use Rattle.bitblt.proofs.copy.rows.Goals as goal

pub returns : goal.returns
returns c =
    let q = c.args.q.now in
    let f1 : SFits w16 c.args.q.now.dest.y = search rules in
    let f2 : SFits w16 c.args.q.now.extent.y = search rules in
    let f3 : SFits w16 c.args.q.now.clip.y = search rules in
    let f4 : SFits w16 c.args.q.now.clip_extent.y = search rules in
    let f5 : SFits w16 c.args.q.now.source.y = search rules in
    subst (λ (o : Option ℕ). IsClipped q.dest.y q.source.y c.args.dest.height o (is_changed_place q.dest.y q.extent.y q.clip.y q.clip_extent.y c.args.dest.height q.source.y o) c.clip_axis.result)
    c.height_of-height.ensures
    (simp to_z-of_z at c.clip_axis.ensures)
