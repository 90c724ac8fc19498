use Rattle.std.proofs.Common.{◌≡◌, take, true}
use Rattle.std.specs.List.{All, list_all}
use Rattle.long_names.specs.Words.{IsValue}
use Rattle.image_builder.specs.Rules.{is_field}
use Rattle.image_builder.proofs.rules.are_fields.Given as goal

abbrev pub invariant-loop-i : goal.invariant-loop-i
invariant-loop-i l = record {
  are : list_all is_field (take l.i l.values) ≡ true;
  values : All IsValue (take l.i l.values);
}
