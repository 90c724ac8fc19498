use Rattle.std.proofs.Common.{ℕ, ◌+◌, List, sym, subst, ◌∙◌, arith}
use Rattle.work_directory.specs.Directory.{IsIn, first_slot, shown_at}
use Rattle.work_directory.specs.Pieces.{IsPieceOf}
use Rattle.loom_host.specs.Work.{work_of}
use Rattle.loom_host.proofs.WorkLaws.{work-same}
use Rattle.disk_objects.proofs.NamesLaws.{seen-past}
use Rattle.disk_objects.proofs.rest.DiskRest.gather_block.Goals as goal

pub slot_by-requires-clause-stands : goal.slot_by-requires-clause-stands
slot_by-requires-clause-stands g c told =
    let h = g.H.Host in
    let s = c.requires.stands told in
    subst (IsIn c.args.self.now.directory) (sym (work-same h c.args.host.now c.loop-i.host c.loop-i.invariant.read)) s.2.kept.directory

pub slot_by-requires-clause-piece : goal.slot_by-requires-clause-piece
slot_by-requires-clause-piece g c told =
    let h = g.H.Host in
    subst (λ (w : List ℕ). IsPieceOf w c.loop-i.piece) (sym (work-same h c.args.host.now c.loop-i.host c.loop-i.invariant.read)) (c.loop-i.invariant.piece told)

-- the slots of a block that was never written show nothing
pub returns-then-not-is_written-clause-noted : goal.returns-then-not-is_written-clause-noted
returns-then-not-is_written-clause-noted g c = λ told q before.
    let v : List ℕ = work_of g.H.Host c.args.host.now in
    let d = c.args.self.now.directory in
    let s = c.requires.stands told in
    before ∙ sym (seen-past (shown_at v) q (first_slot d c.args.block) (first_slot d (c.args.block + 1)) (omega arith)
    (λ i low high. c.is_written.ensures.empty c.if-not-is_written.true v i s.2.kept.directory (omega (arith, high)) (omega (arith, low, high))))
