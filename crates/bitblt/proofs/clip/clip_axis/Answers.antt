use Rattle.std.proofs.Common.{◌≡◌, ◌∙◌, sym, arith}
use Rattle.std.proofs.lemmas.Int.{ints, to_z-of_z}
use mir.Val.{SFits, to_z, of_z}
use Rattle.std.specs.Int.{w16, w32}
use Rattle.blue_model.specs.BitBlt.{is_changed_place}
use Rattle.bitblt.proofs.Clips.{clipped, changed-none, changed-some, no-place}
use Rattle.bitblt.proofs.clip.clip_axis.Goals as goal

pub returns-in-None : goal.returns-in-None
returns-in-None c =
    let f1 : SFits w16 c.args.at = c.ranges.at in
    let f2 : SFits w16 c.args.extent = c.ranges.extent in
    let f3 : SFits w16 c.args.clip_at = c.ranges.clip_at in
    let f4 : SFits w16 c.args.clip_extent = c.ranges.clip_extent in
    clipped c.args.at c.args.source_at c.args.form c.args.source (is_changed_place c.args.at c.args.extent c.args.clip_at c.args.clip_extent c.args.form c.args.source_at c.args.source)
    c.in_form-places.result (to_z w32 (of_z w32 c.in_form-places.result.low)) c.span_of.result c.in_form-places.ensures.high
    (λ x.
    changed-none c.args.at c.args.extent c.args.clip_at c.args.clip_extent c.args.form c.args.source_at c.args.source x c.in-None.is
    ∙ sym (simp to_z-of_z at (c.in_form-places.ensures.covers x)))
    (λ n e. absurd (cc (e, c.in-None.is)))
    c.span_of.ensures

pub returns-then-both : goal.returns-then-both
returns-then-both c =
    let f1 : SFits w16 c.args.at = c.ranges.at in
    let f2 : SFits w16 c.args.extent = c.ranges.extent in
    let f3 : SFits w16 c.args.clip_at = c.ranges.clip_at in
    let f4 : SFits w16 c.args.clip_extent = c.ranges.clip_extent in
    let f5 : SFits w16 c.args.source_at = c.ranges.source_at in
    clipped c.args.at c.args.source_at c.args.form c.args.source (is_changed_place c.args.at c.args.extent c.args.clip_at c.args.clip_extent c.args.form c.args.source_at c.args.source)
    c.meet-both.result (to_z w32 (of_z w32 c.source_places-readable.result.low)) c.span_of-then-both.result (omega (arith, ints))
    (λ x.
    changed-some c.args.at c.args.extent c.args.clip_at c.args.clip_extent c.args.form c.args.source_at c.args.source c.in-Some.n x
    c.in_form-places.result c.source_places-readable.result c.meet-both.result c.in-Some.is
    (simp to_z-of_z at (c.in_form-places.ensures.covers x))
    (simp to_z-of_z at (c.source_places-readable.ensures.covers x))
    (c.meet-both.ensures.covers x))
    (λ n e.
    let same : c.in-Some.n ≡ n = cc (e, c.in-Some.is) in
    (omega (arith, ints), omega (arith, ints)))
    c.span_of-then-both.ensures

pub returns-else-both : goal.returns-else-both
returns-else-both c x =
    let f1 : SFits w16 c.args.at = c.ranges.at in
    let f2 : SFits w16 c.args.extent = c.ranges.extent in
    let f3 : SFits w16 c.args.clip_at = c.ranges.clip_at in
    let f4 : SFits w16 c.args.clip_extent = c.ranges.clip_extent in
    let f5 : SFits w16 c.args.source_at = c.ranges.source_at in
    changed-some c.args.at c.args.extent c.args.clip_at c.args.clip_extent c.args.form c.args.source_at c.args.source c.in-Some.n x
    c.in_form-places.result c.source_places-readable.result c.meet-both.result c.in-Some.is
    (simp to_z-of_z at (c.in_form-places.ensures.covers x))
    (simp to_z-of_z at (c.source_places-readable.ensures.covers x))
    (c.meet-both.ensures.covers x)
    ∙ no-place c.meet-both.result x (omega (arith, ints))
