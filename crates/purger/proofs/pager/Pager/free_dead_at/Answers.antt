use Rattle.std.proofs.Common.{ap, arith}
use Rattle.disk_objects.specs.Disk.{disk_held}
use Rattle.disk_objects.specs.declared.rest.DiskRest.{DiskRest}
use Rattle.purger.proofs.DrainLaws.{dead-no, dead-yes}
use Rattle.purger.proofs.DyingLaws.{dead-frees, dead-held, dead-may, dead-none, dead-told, reads-bodies, reads-frees, reads-stands, reads-used}
use Rattle.purger.proofs.pager.Pager.free_dead_at.Goals as goal

pub returns-then-not-branch-clause-frees : goal.returns-then-not-branch-clause-frees
returns-then-not-branch-clause-frees g c = reads-frees c.args.self.now c.is_dead.new.self c.is_dead.result _ c.is_dead.ensures.reads

pub returns-then-not-branch-clause-none : goal.returns-then-not-branch-clause-none
returns-then-not-branch-clause-none g c = λ told same t at x. (
  reads-stands c.args.self.now c.is_dead.new.self c.is_dead.result c.is_dead.ensures.reads t at,
  reads-bodies c.args.self.now c.is_dead.new.self c.is_dead.result c.is_dead.ensures.reads,
  dead-no c.in_ok-is_dead.field-0 c.args.s.0 t c.if-not-branch.true (c.in_ok-is_dead.ensures.dead told t at x),
)

pub unmark-requires : goal.unmark-requires
unmark-requires g c = let body = c.in_ok-is_dead.ensures.body c.if-not-branch.false in record { used = reads-used c.args.s.0 body.0 c.args.self.now c.is_dead.new.self c.is_dead.result c.is_dead.ensures.reads body.1 }

pub free_gone-requires : goal.free_gone-requires
free_gone-requires g c =
    let yes = c.if-not-branch.false in
    let e = c.in_ok-is_dead.ensures in
    let body = e.body yes in
    record {
      may = dead-may c.args.s.0 body.0 c.args.self.now c.is_dead.new.self c.unmark.new.self c.is_dead.result c.requires.sound body.1 (e.loose yes)
          (λ told t at x. dead-yes c.in_ok-is_dead.field-0 c.args.s.0 t yes (e.dead told t at x)) c.is_dead.ensures.reads c.unmark.ensures.unmarks;
    }

pub returns-clause-frees : goal.returns-clause-frees
returns-clause-frees g c =
    let yes = c.if-not-branch.false in
    let e = c.in_ok-is_dead.ensures in
    let body = e.body yes in
    dead-frees c.args.s.0 body.0 c.args.self.now c.is_dead.new.self c.unmark.new.self c.free_gone.new.self c.is_dead.result c.free_gone.result body.1
    (λ told t at x. dead-yes c.in_ok-is_dead.field-0 c.args.s.0 t yes (e.dead told t at x)) c.is_dead.ensures.reads c.unmark.ensures.unmarks c.free_gone.ensures.frees

pub returns-clause-told : goal.returns-clause-told
returns-clause-told g c = dead-told c.args.s.0 c.args.self.now c.is_dead.new.self c.unmark.new.self c.free_gone.new.self c.is_dead.result c.free_gone.result c.is_dead.ensures.reads c.is_dead.ensures.still c.unmark.ensures.unmarks c.free_gone.ensures.told

pub returns-clause-none : goal.returns-clause-none
returns-clause-none g c = λ told. dead-none _ c.args.s.0 c.args.self.now c.is_dead.new.self c.unmark.new.self c.free_gone.new.self c.is_dead.result c.free_gone.result c.is_dead.ensures.reads c.unmark.ensures.unmarks c.free_gone.ensures.frees

pub returns-then-not-branch-clause-held : goal.returns-then-not-branch-clause-held
returns-then-not-branch-clause-held g c = let a = ap (λ (k : DiskRest). disk_held k) c.is_dead.ensures.reads.disk.rest in omega arith

pub returns-clause-held : goal.returns-clause-held
returns-clause-held g c = dead-held c.args.s.0 c.args.self.now c.is_dead.new.self c.unmark.new.self c.free_gone.new.self c.is_dead.result c.free_gone.result c.is_dead.ensures.reads c.unmark.ensures.unmarks c.free_gone.ensures.frees
