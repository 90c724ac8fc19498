use Rattle.std.proofs.Common.{refl, sym, subst}
use Rattle.object_memory.specs.Told.{Told, IsReady}
use Rattle.bounded_memory.specs.declared.bounded.BoundedMemory.{BoundedMemory}
use Rattle.bounded_memory.specs.Bounded.{IsSound}
use Rattle.bounded_memory.proofs.MemoryLaws.{path-begun, sound-still}
use Rattle.bounded_memory.proofs.bounded.BoundedMemoryObjectMemory.begin_path.Goals as goal

pub returns-clause-told : goal.returns-clause-told
returns-clause-told c = path-begun c.args.self.now c.drop_lost_row.new.self c.begin_path.new.self c.drop_lost_row.ensures.told c.drop_lost_row.ensures.lost c.begin_path.ensures.told

pub returns-clause-fit : goal.returns-clause-fit
returns-clause-fit c = record {
  sound = (let sound : IsSound c.drop_lost_row.new.self = subst (λ (m : BoundedMemory). IsSound m) (sym c.drop_lost_row.ensures.row) (record { pinned = c.requires.pinned }) in
      sound-still c.drop_lost_row.new.self c.begin_path.new.self _ c.begin_path.ensures.told refl refl sound);
  ready = (λ ready.
      subst (λ (t : Told). IsReady t) (sym (path-begun c.args.self.now c.drop_lost_row.new.self c.begin_path.new.self c.drop_lost_row.ensures.told c.drop_lost_row.ensures.lost c.begin_path.ensures.told))
      (record { whole = ready.whole; marked = ready.marked; cached = ready.cached }));
  lender = refl;
  outside = refl;
}
