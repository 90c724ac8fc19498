use Rattle.std.proofs.Common.{ℕ, ◌≡◌, ◌≤◌, refl, sym, ◌∙◌, ap, subst, arith}
use Rattle.object_table.specs.Table.{bound_of}
use Rattle.core_segment.specs.Segment.{chunk_at}
use Rattle.core_segment.specs.Chunks.{Chunk}
use Rattle.core_view.specs.Core.{Core}
use Rattle.core_view.proofs.Tight.{empty-tight}
use Rattle.core_view.specs.Held.{held}
use Rattle.core_view.specs.Counts.{outside}
use Rattle.core_view.specs.Kept.{IsCore, IsTight, IsBacked}
use Rattle.core_view.proofs.Leaves.{empty_core, empty-core, empty-backed, empty-held, empty-outside}
use Rattle.leaf_lambda.specs.Parts.{core_of}
use Rattle.leaf_lambda.proofs.StepLaws.{core-is}
use Rattle.leaf_lambda.proofs.parts.Parts.new.Goals as goal
use Rattle.leaf_lambda.proofs.parts.Parts.new.Goals.{In_ok-new-3}

is : (c : In_ok-new-3) → core_of (record { segment = c.in_ok-new.field-0; names = record { table = c.in_ok-new-2.field-0; resident = c.in_ok-new-3.field-0 } }) ≡ empty_core (chunk_at c.in_ok-new.field-0) (bound_of c.in_ok-new-2.field-0)
unfolding core_of
is c = core-is _ (empty_core (chunk_at c.in_ok-new.field-0) (bound_of c.in_ok-new-2.field-0)) c.in_ok-new-2.ensures.entry c.in_ok-new-3.ensures.none refl refl

low : (c : In_ok-new-3) → bound_of c.in_ok-new-2.field-0 ≤ 65536
low c = let size = c.in_ok-new-2.ensures.entries in let few = c.requires.few in omega arith

pub returns-clause-parts : goal.returns-clause-parts
returns-clause-parts c = record {
  core = subst IsCore (sym (is c)) (empty-core (chunk_at c.in_ok-new.field-0) (bound_of c.in_ok-new-2.field-0) (low c));
  room = let held_ = c.in_ok-new-3.ensures.held in let room = c.in_ok-new-3.ensures.room in let free = c.in_ok-new-2.ensures.free in omega arith;
}

pub returns-clause-held : goal.returns-clause-held
returns-clause-held c = λ disk. (
  subst (λ (x : Core). IsBacked x disk) (sym (is c)) (empty-backed (chunk_at c.in_ok-new.field-0) (bound_of c.in_ok-new-2.field-0) disk),
  ap (λ (x : Core). held x disk) (is c) ∙ empty-held (chunk_at c.in_ok-new.field-0) (bound_of c.in_ok-new-2.field-0) disk,
)

pub returns-clause-outside : goal.returns-clause-outside
returns-clause-outside c = λ t. ap (λ (x : Core). outside x t) (is c) ∙ empty-outside (chunk_at c.in_ok-new.field-0) (bound_of c.in_ok-new-2.field-0) t

pub returns-clause-tight : goal.returns-clause-tight
returns-clause-tight c = subst IsTight (sym (is c)) (empty-tight (empty_core (chunk_at c.in_ok-new.field-0) (bound_of c.in_ok-new-2.field-0)) (λ p. ap (λ (f : ℕ → Chunk). (f p).owner) c.in_ok-new.ensures.chunks))
