use Rattle.std.proofs.Common.{refl, arith}
use Rattle.std.proofs.lemmas.Result.{on_ok_weaker}
use Rattle.loom_outside.specs.Files.{name_of}
use Rattle.loom_outside.specs.declared.files.File.{File}
use Rattle.loom_outside.proofs.Places.{map-set_same, room-set, rooms-set}
use Rattle.loom_outside.proofs.files.widen.Goals as goal

pub returns-clause-names : goal.returns-clause-names
returns-clause-names c = map-set_same name_of _ _ _ _ c.requires c.index_mut.ensures.value refl

pub returns-clause-contents : goal.returns-clause-contents
returns-clause-contents c = map-set_same (λ (x : File). x.bytes.items) _ _ _ _ c.requires c.index_mut.ensures.value c.reserve.ensures.items

pub returns-clause-rooms : goal.returns-clause-rooms
returns-clause-rooms c = rooms-set _ _ _ _ c.requires c.index_mut.ensures.value c.reserve.ensures.capacity

pub returns-clause-ok : goal.returns-clause-ok
returns-clause-ok c = on_ok_weaker c.reserve.result (λ fits. rw (room-set c.args.files.now.items c.args.place _ c.requires) (omega (arith, fits, c.reserve.ensures.len, c.saturating_sub.ensures, c.len.ensures))) c.reserve.ensures.ok
