use Rattle.std.proofs.Common.{◌≡◌, ◌≢◌, string_bytes}
use Rattle.file_saving.proofs.PutLaws.{puts-then}
use Rattle.file_saving.proofs.SavingLaws.{keeps-then}
use Rattle.file_roles.proofs.SavedLaws.{begun-still, keeps-path, on-ok, same-saving}
use Rattle.file_roles.proofs.saved.begin_saved.Goals as goal

pub returns-in_err-saving-clause-keeps : goal.returns-in_err-saving-clause-keeps
returns-in_err-saving-clause-keeps g c told = keeps-then _ _ _ _ (c.in_ok-mode.ensures.keeps told _) (c.in_err-saving.ensures.keeps told)

pub returns-in_err-saving-clause-puts : goal.returns-in_err-saving-clause-puts
returns-in_err-saving-clause-puts g c told = puts-then _ _ _ (c.in_ok-mode.ensures.puts told) (c.in_err-saving.ensures.puts told)

pub returns-clause-keeps : goal.returns-clause-keeps
returns-clause-keeps g c told = keeps-path g.S.System.entry _ _ _ _ _ c.in_ok-saving.ensures.path (keeps-then _ _ _ _ (c.in_ok-mode.ensures.keeps told _) (c.in_ok-saving.ensures.keeps told)) (c.apart.ensures.keeps told)

pub returns-clause-puts : goal.returns-clause-puts
returns-clause-puts g c told = puts-then _ _ _ (puts-then _ _ _ (c.in_ok-mode.ensures.puts told) (c.in_ok-saving.ensures.puts told)) (c.apart.ensures.puts told)

pub returns-clause-path : goal.returns-clause-path
returns-clause-path g c = same-saving (λ s. string_bytes s.path ≡ c.args.path.now) _ c.apart.result c.apart.ensures.same c.in_ok-saving.ensures.path

pub returns-clause-begun : goal.returns-clause-begun
returns-clause-begun g c told = begun-still g.S.System.entry _ _ _ c.apart.result c.apart.ensures.same (c.apart.ensures.still told) (c.in_ok-saving.ensures.begun told)

pub returns-clause-fresh : goal.returns-clause-fresh
returns-clause-fresh g c told d u is = same-saving (λ s. d ≢ s.descriptor) _ c.apart.result c.apart.ensures.same (c.in_ok-saving.ensures.fresh told d u ((c.in_ok-mode.ensures.puts told).uses d u is))

pub returns-clause-free : goal.returns-clause-free
returns-clause-free g c told i is = on-ok c.apart.result (c.in_ok-mode.ensures.free told i is)
