use Rattle.std.proofs.Common.{ℕ, ◌<◌, ◌∙◌, ap, sym, subst, IfErr, arith}
use Rattle.work_directory.specs.Directory.{slots_of}
use Rattle.work_directory.specs.Inside.{search_end}
use Rattle.work_directory.specs.Work.{IsCause}
use Rattle.work_directory.proofs.CauseLaws.{end-cause}
use Rattle.work_directory.proofs.directory.Directory.search.Goals as goal

pub returns-clause-cause : goal.returns-clause-cause
returns-clause-cause g c =
    let h = g.H.Host in
    let n = c.slots.ensures in
    let some : 0 < slots_of c.args.self.now = let e = n.value in let l = n.some in omega (arith, e, l) in
    let is = c.search_end.ensures ∙ ap (λ (k : ℕ). search_end c.in_ok-found.found c.args.name k) n.value in
    subst (λ r. IfErr r (IsCause h c.args.host.now c.scan.new.host (slots_of c.args.self.now) c.args.name)) (sym is)
    (end-cause h c.args.host.now c.scan.new.host (slots_of c.args.self.now) c.args.name c.in_ok-found.found some c.in_ok-found.ensures.some)
