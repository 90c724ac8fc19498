use Rattle.std.proofs.Common.{◌≡◌, ◌++◌, map}
use Rattle.image_builder.specs.Parts.{count_in, rec_with}
use Rattle.image_builder.proofs.builder.Builder.recs.Given as goal

-- the records so far, and those to come
abbrev pub invariant-loop-name : goal.invariant-loop-name
invariant-loop-name l = l.recs ++ map (rec_with (count_in l.fn.counts)) l.name-iterator ≡ map (rec_with (count_in l.fn.counts)) l.fn.self.objects.entries
