use Rattle.std.proofs.Common.{sym, ap, ◌∙◌, arith, rules, length-take}
use Rattle.checkpoint.specs.Vault.{contents_of}
use Rattle.checkpoint.proofs.LayoutLaws.{area_in-read, area_in-start}
use Rattle.checkpoint.proofs.recovering.read_image.Goals as goal

pub loop-b-init : goal.loop-b-init
loop-b-init g c = record {
  sized = search rules;
  image = λ told. c.in_ok-image.ensures ∙ sym (area_in-start _ _ _);
  still = search rules;
  calm = search rules;
}

pub loop-b-preserved : goal.loop-b-preserved
loop-b-preserved g c = record {
  sized = search rules;
  image = λ told. area_in-read _ _ _ _ _ _ _ c.min-size.result _ _ (c.in_ok-read_behind.ensures.image told) (ap contents_of c.loop-b.invariant.still) (c.loop-b.invariant.image told) c.block_place.ensures
      (search (rules, length-take)) (omega arith) (omega (arith, c.min-size.ensures));
  still = search rules;
  calm = c.in_ok-read_behind.ensures.calm ∙ c.loop-b.invariant.calm;
}
