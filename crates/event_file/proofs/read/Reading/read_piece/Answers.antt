use Rattle.std.proofs.Common.{◌≡◌, ℕ, ◌+◌, ◌++◌, length, take, subst, ap, ◌∙◌, Err, arith, length-append, length-take, refl}
use Rattle.std.proofs.lemmas.Bool.Decides.{nat_tests}
use Rattle.loom_host.specs.declared.outside.Role.TheVariants.{Events}
use Rattle.event_file.specs.Text.{IsBadAt}
use Rattle.event_file.specs.Reading.{begun_text, IsBegun}
use Rattle.event_file.proofs.PieceLaws.{begun-length, piece-text}
use Rattle.event_file.proofs.ReadLaws.{passed}
use Rattle.event_file.specs.declared.limits.TheConstants.{PIECE}
use Rattle.event_file.proofs.read.Reading.read_piece.Goals as goal

pub returns-in_err-judged-clause-bad : goal.returns-in_err-judged-clause-bad
returns-in_err-judged-clause-bad g c = λ told line was.
    let fault = passed c.from_residual.result c.in_err-judged.field-0.0 _ c.from_residual.ensures.1 was in
    let took = c.in-Ok.ensures.took told in
    let old = begun_text c.args.self.now in
    let left = (g.H.Host.roles c.read_full.new.host Events).left in
    subst (IsBadAt line) (piece-text old (old ++ take c.in-Ok.count c.read_full.new.buf) c.in-Ok.count c.read_full.new.buf _ _ took refl)
    (c.take_all-judged.ensures.bad line left (c.in_err-judged.was ∙ ap (λ f. Err f) fault))

pub returns-clause-more : goal.returns-clause-more
returns-clause-more g c = λ more.
    let count : c.in-Ok.count ≡ PIECE = grind (arith, nat_tests, more) in
    let is : IsBegun c.take_all-judged.new.self = subst IsBegun c.self.view_is c.self.invariant in
    let size : length (take c.in-Ok.count c.read_full.new.buf) ≡ PIECE = omega (arith, length-take c.in-Ok.count c.read_full.new.buf, c.read_full.auto.buf) in
    let text = ap length c.in_ok-judged.ensures.text in
    record {
      longer = text ∙ length-append (begun_text c.args.self.now) (take c.in-Ok.count c.read_full.new.buf) ∙ ap (λ (n : ℕ). length (begun_text c.args.self.now) + n) size;
      most = begun-length c.take_all-judged.new.self is;
    }
