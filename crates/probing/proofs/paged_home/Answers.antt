use Rattle.std.proofs.Common.{◌≡◌, ℕ, ◌/◌, ◌<◌, subst, sym, ap, ◌∙◌, arith}
use Rattle.probing.specs.Homes.{block_home, paged_home_of}
use Rattle.probing.proofs.HomeLaws.{block_home-below, blocks-are, shared-homes, apart-homes}
use Rattle.probing.proofs.paged_home.Goals as goal

pub returns-clause-within : goal.returns-clause-within
returns-clause-within c =
    let low = c.begin.ensures.within in
    subst (λ (k : ℕ). k < c.args.slots) (sym c.within.ensures.place)
    (block_home-below c.begin.result c.args.name (c.args.slots / 170) c.args.slots low (omega arith))

pub returns-clause-shared : goal.returns-clause-shared
returns-clause-shared c = λ many other one.
    let is : c.within.result ≡ paged_home_of c.args.name c.args.slots = c.within.ensures.place
    ∙ ap (λ (k : ℕ). block_home k c.args.name) c.begin.ensures.place ∙ sym (blocks-are c.args.name c.args.slots many) in
    shared-homes other c.args.name c.args.slots many one ∙ ap (λ (k : ℕ). k / 170) (sym is)

pub returns-clause-apart : goal.returns-clause-apart
returns-clause-apart c = λ many other one same.
    let is : c.within.result ≡ paged_home_of c.args.name c.args.slots = c.within.ensures.place
    ∙ ap (λ (k : ℕ). block_home k c.args.name) c.begin.ensures.place ∙ sym (blocks-are c.args.name c.args.slots many) in
    apart-homes other c.args.name c.args.slots many one (same ∙ is)
