use Rattle.std.proofs.Common.{sym, ◌∙◌, ap, subst}
use Rattle.object_memory.specs.declared.fault.MemFault.{MemFault}
use Rattle.object_memory.specs.Contract.{LeavesAll}
use Rattle.leaf_lambda.specs.Parts.{core_of}
use Rattle.object_memory.specs.declared.fault.MemFault.TheVariants.{Damaged}
use Rattle.object_table.specs.declared.entry.Entry.{Entry}
use Rattle.purger.specs.declared.eviction.TheConstants.{NOWHERE}
use Rattle.loom_memory.specs.Memory.{IsSound}
use Rattle.loom_memory.proofs.memory.LoomMemory.amiss.Goals as goal

pub used_entry-name-requires : goal.used_entry-name-requires
unfolding core_of
used_entry-name-requires g c = c.requires.used

pub returns-clause-leaves : goal.returns-clause-leaves
returns-clause-leaves g c = record {
  sound = subst (λ (f : MemFault). LeavesAll f (IsSound g.H.Host c.wrong.new.self)) (sym c.wrong.ensures.is) tt;
  fetches = c.wrong.ensures.brings;
  lender = c.wrong.ensures.lender;
  outside = c.wrong.ensures.outside;
}

pub returns-clause-is : goal.returns-clause-is
unfolding core_of
returns-clause-is g c = c.wrong.ensures.is ∙ ap (λ (e : Entry). Damaged NOWHERE e.name) c.used_entry-name.ensures
