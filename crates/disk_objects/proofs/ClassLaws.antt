-- The size class of a record's block.
use Rattle.std.proofs.Common.{◌≡◌, ℕ, ◌^◌, ◌<◌, ◌≤◌, Option, Some, None, IfSome, refl, subst, arith}
use Rattle.std.specs.Prelude.{IfNone, IsSome}
use Rattle.long_names.specs.declared.limits.TheConstants.{LONGEST_RECORD}
use Rattle.work_space.specs.Blocks.{block_size}
use Rattle.work_space.specs.declared.limits.TheConstants.{SIZE_CLASSES}
use Rattle.disk_objects.specs.Disk.{IsSizeClass}

pub class-some : (size : ℕ) (o : Option ℕ) → IfNone o (2 ^ 19 < size) → size ≤ LONGEST_RECORD → IsSome o
class-some size (Some c) none most = refl
class-some size None none most = absurd (omega arith)

pub class-is : (size want : ℕ) (o : Option ℕ) (c : ℕ) → size ≡ want → o ≡ Some c → IfSome o (λ k. k < SIZE_CLASSES) → IfSome o (λ k. size ≤ block_size k)
    → IfSome o (λ k. (d : ℕ) → size ≤ block_size d → k ≤ d) → IsSizeClass c want
class-is size want o c same is low fits smallest =
    subst (λ (n : ℕ). IsSizeClass c n) same (record {
      low = subst (λ (p : Option ℕ). IfSome p (λ k. k < SIZE_CLASSES)) is low;
      fits = subst (λ (p : Option ℕ). IfSome p (λ k. size ≤ block_size k)) is fits;
      smallest = subst (λ (p : Option ℕ). IfSome p (λ k. (d : ℕ) → size ≤ block_size d → k ≤ d)) is smallest;
    })
