use Rattle.std.proofs.Common.{◌≡◌}
use Rattle.core_segment.specs.Segment.{largest_of}
use Rattle.core_view.specs.Counts.{IsLight}
use Rattle.leaf_lambda.specs.Parts.{core_of, IsParts}
use Rattle.core_tests.proofs.objects.leave_two_hundred.Given as goal

abbrev pub invariant-loop-k : goal.invariant-loop-k
invariant-loop-k l =
    record { parts : IsParts l.p; light : IsLight (core_of l.p); room : largest_of l.p.segment ≡ largest_of l.fn.p.segment }
