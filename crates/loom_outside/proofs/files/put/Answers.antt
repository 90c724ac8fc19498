use Rattle.std.proofs.Common.{refl}
use Rattle.loom_outside.specs.Files.{name_of}
use Rattle.loom_outside.proofs.Places.{map-set_same, contents-put, contents-not_put, rooms-set}
use Rattle.loom_outside.proofs.files.put.Goals as goal

pub returns-clause-names : goal.returns-clause-names
returns-clause-names c = map-set_same name_of _ _ _ _ c.requires c.index_mut.ensures.value refl

pub returns-clause-ok : goal.returns-clause-ok
returns-clause-ok c = contents-put c.extend_from_slice.result _ _ _ _ _ c.requires c.index_mut.ensures.value c.extend_from_slice.ensures.items

pub returns-clause-err : goal.returns-clause-err
returns-clause-err c = contents-not_put c.extend_from_slice.result _ _ _ _ _ c.requires c.index_mut.ensures.value c.extend_from_slice.ensures.items

pub returns-clause-rooms : goal.returns-clause-rooms
returns-clause-rooms c = rooms-set _ _ _ _ c.requires c.index_mut.ensures.value c.extend_from_slice.ensures.capacity
