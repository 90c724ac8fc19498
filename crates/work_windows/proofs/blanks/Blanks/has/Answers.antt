use Rattle.std.proofs.Common.{ap, sym, ◌∙◌, ◌/◌, ◌%◌, ◌==◌, slice_index}
use Rattle.std.specs.Prelude.{not}
use Rattle.std.proofs.lemmas.Nat.Bits.{shr_and_one}
use Rattle.work_windows.proofs.BlankLaws.{unknown-may, far-may, first-may}
use Rattle.work_windows.proofs.blanks.Blanks.has.Goals as goal

pub returns-then-not-self : goal.returns-then-not-self
returns-then-not-self c = sym (ap not (unknown-may c.args.self.now (c.args.place / 4096) c.if-not-self.true))

pub returns-then-page-ge-PAGES : goal.returns-then-page-ge-PAGES
returns-then-page-ge-PAGES c = sym (ap not (far-may c.args.self.now (c.args.place / 4096) c.if-page-ge-PAGES.true))

pub returns : goal.returns
returns c =
    let page = c.args.place / 4096 in
    ap (λ k. not (k == 1)) (shr_and_one (slice_index c.args.self.now.words (page / 64)) (page % 64))
    ∙ sym (ap not (first-may c.args.self.now page c.if-not-self.false c.if-page-ge-PAGES.false))
