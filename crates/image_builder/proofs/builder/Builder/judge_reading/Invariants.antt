use Rattle.std.proofs.Common.{◌≡◌}
use Rattle.std.specs.List.{All}
use Rattle.image_builder.specs.Parts.{IsEntry}
use Rattle.image_builder.specs.Rules.{first_of, record_breaks}
use Rattle.image_builder.proofs.builder.Builder.judge_reading.Given as goal

abbrev pub invariant-loop-name : goal.invariant-loop-name
invariant-loop-name l = record {
  first : first_of (record_breaks l.next) l.name-iterator ≡ first_of (record_breaks l.next) l.fn.self.objects.entries;
  entries : All IsEntry l.name-iterator → All IsEntry l.fn.self.objects.entries;
}
