use Rattle.std.proofs.Common.{◌∙◌, sym}
use Rattle.loom_host.proofs.Windows.{window-nil}
use Rattle.work_windows.proofs.window.Window.blank.Goals as goal

pub returns-then-not-self-clause-bytes : goal.returns-then-not-self-clause-bytes
returns-then-not-self-clause-bytes c = sym (window-nil c.args.place 4096)

pub returns-else-not-self-clause-bytes : goal.returns-else-not-self-clause-bytes
returns-else-not-self-clause-bytes c = c.args.self.now.clean c.if-not-self.false ∙ sym (window-nil c.args.place 4096)
