use Rattle.std.proofs.Common.{rules, ℕ, subst, Option}
use Rattle.std.proofs.lemmas.Int.{to_z-of_z}
use mir.Val.{SFits}
use Rattle.std.specs.Int.{w16}
use Rattle.blue_model.specs.BitBlt.{is_changed_place}
use Rattle.bitblt.specs.Clip.{IsClipped}
use Rattle.bitblt.proofs.copy.columns.Goals as goal

pub returns : goal.returns
returns c =
    let q = c.args.q.now in
    let f1 : SFits w16 c.args.q.now.dest.x = search rules in
    let f2 : SFits w16 c.args.q.now.extent.x = search rules in
    let f3 : SFits w16 c.args.q.now.clip.x = search rules in
    let f4 : SFits w16 c.args.q.now.clip_extent.x = search rules in
    let f5 : SFits w16 c.args.q.now.source.x = search rules in
    subst (λ (o : Option ℕ). IsClipped q.dest.x q.source.x c.args.dest.width o (is_changed_place q.dest.x q.extent.x q.clip.x q.clip_extent.x c.args.dest.width q.source.x o) c.clip_axis.result)
    c.width_of-width.ensures
    (simp to_z-of_z at c.clip_axis.ensures)
