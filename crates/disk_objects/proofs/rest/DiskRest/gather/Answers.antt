use Rattle.std.proofs.Common.{◌≡◌, ℕ, List, sym, subst, ap, ◌∙◌, arith}
use Rattle.work_directory.specs.Directory.{slots_of, first_slot, shown_at}
use Rattle.work_directory.specs.Pieces.{IsPieceOf}
use Rattle.loom_host.specs.Work.{work_of}
use Rattle.loom_host.proofs.WorkLaws.{work-same}
use Rattle.disk_objects.specs.Disk.{IsDisk}
use Rattle.disk_objects.specs.Names.{seen}
use Rattle.disk_objects.proofs.NamesLaws.{disk-seen}
use Rattle.disk_objects.proofs.rest.DiskRest.gather.Goals as goal

pub gather_block-requires-clause-stands : goal.gather_block-requires-clause-stands
gather_block-requires-clause-stands g c told =
    let h = g.H.Host in
    let s = c.requires.stands told in
    (s.0, s.1, subst (λ (w : List ℕ). IsDisk c.args.self.now w s.0 s.1) (sym (work-same h c.args.host.now c.loop-block.host c.loop-block.invariant.read)) s.2, tt)

pub gather_block-requires-clause-piece : goal.gather_block-requires-clause-piece
gather_block-requires-clause-piece g c told =
    let h = g.H.Host in
    subst (λ (w : List ℕ). IsPieceOf w c.loop-block.piece) (sym (work-same h c.args.host.now c.loop-block.host c.loop-block.invariant.read)) (c.loop-block.invariant.piece told)

pub returns-clause-gathered : goal.returns-clause-gathered
returns-clause-gathered g c told objects pending k q =
    let h = g.H.Host in
    let v : List ℕ = work_of h c.args.host.now in
    let d = c.args.self.now.directory in
    let all : first_slot d c.loop-block.block ≡ slots_of d = let value = c.blocks-block-end.ensures.value in let low = c.loop-block-test.false in let high = c.loop-block.auto.block-end in omega arith in
    c.loop-block.invariant.noted told q ∙ ap (seen (shown_at v) q) all ∙ disk-seen c.args.self.now v objects pending k q
