use Rattle.std.proofs.Common.{[], Some, sym}
use Rattle.std.specs.Str.{bytes_eq}
use Rattle.loom_host.specs.declared.outside.Role.TheVariants.{Image, Events, Work, Saved, Display, Transcript, Notes}
use Rattle.loom_outside.specs.Store.{file_in, shows}
use Rattle.loom_outside.proofs.Kept.{file-push, shows-own, shows-push, never}
use Rattle.loom_outside.proofs.store.Store.make.Goals as goal

pub returns-in_ok-make-in-Saved-clause-files : goal.returns-in_ok-make-in-Saved-clause-files
unfolding file_in
returns-in_ok-make-in-Saved-clause-files c q = file-push c.args.self.now.files.items c.make.new.files.items (Some c.args.name.now) [] q c.in_ok-make-in-Saved.ensures.names c.in_ok-make-in-Saved.ensures.contents

pub returns-in_ok-make-in-Saved-clause-shows : goal.returns-in_ok-make-in-Saved-clause-shows
unfolding shows
returns-in_ok-make-in-Saved-clause-shows c q = rw c.in-Saved.is (shows-own c.args.self.now.files.items c.make.new.files.items (Some c.args.name.now) q c.make.new.self.file c.in_ok-make-in-Saved.ensures.names c.in_ok-make-in-Saved.ensures.file)

pub returns-in_ok-make-in-Saved-clause-other_shows : goal.returns-in_ok-make-in-Saved-clause-other_shows
unfolding shows
returns-in_ok-make-in-Saved-clause-other_shows c Saved other q = absurd (other (sym c.in-Saved.is))
returns-in_ok-make-in-Saved-clause-other_shows c Display other q = shows-push c.args.self.now.files.items c.make.new.files.items (Some c.args.name.now) q c.args.self.now.display.file c.in_ok-make-in-Saved.ensures.names c.args.self.now.display_there
returns-in_ok-make-in-Saved-clause-other_shows c Image other q = never (bytes_eq c.args.name.now q)
returns-in_ok-make-in-Saved-clause-other_shows c Events other q = never (bytes_eq c.args.name.now q)
returns-in_ok-make-in-Saved-clause-other_shows c Work other q = never (bytes_eq c.args.name.now q)
returns-in_ok-make-in-Saved-clause-other_shows c Transcript other q = never (bytes_eq c.args.name.now q)
returns-in_ok-make-in-Saved-clause-other_shows c Notes other q = never (bytes_eq c.args.name.now q)

pub returns-in_ok-make-in-Display-clause-files : goal.returns-in_ok-make-in-Display-clause-files
unfolding file_in
returns-in_ok-make-in-Display-clause-files c q = file-push c.args.self.now.files.items c.make-in-Display.new.files.items (Some c.args.name.now) [] q c.in_ok-make-in-Display.ensures.names c.in_ok-make-in-Display.ensures.contents

pub returns-in_ok-make-in-Display-clause-shows : goal.returns-in_ok-make-in-Display-clause-shows
unfolding shows
returns-in_ok-make-in-Display-clause-shows c q = rw c.in-Display.is (shows-own c.args.self.now.files.items c.make-in-Display.new.files.items (Some c.args.name.now) q c.make-in-Display.new.self.file c.in_ok-make-in-Display.ensures.names c.in_ok-make-in-Display.ensures.file)

pub returns-in_ok-make-in-Display-clause-other_shows : goal.returns-in_ok-make-in-Display-clause-other_shows
unfolding shows
returns-in_ok-make-in-Display-clause-other_shows c Display other q = absurd (other (sym c.in-Display.is))
returns-in_ok-make-in-Display-clause-other_shows c Saved other q = shows-push c.args.self.now.files.items c.make-in-Display.new.files.items (Some c.args.name.now) q c.args.self.now.saved.file c.in_ok-make-in-Display.ensures.names c.args.self.now.saved_there
returns-in_ok-make-in-Display-clause-other_shows c Image other q = never (bytes_eq c.args.name.now q)
returns-in_ok-make-in-Display-clause-other_shows c Events other q = never (bytes_eq c.args.name.now q)
returns-in_ok-make-in-Display-clause-other_shows c Work other q = never (bytes_eq c.args.name.now q)
returns-in_ok-make-in-Display-clause-other_shows c Transcript other q = never (bytes_eq c.args.name.now q)
returns-in_ok-make-in-Display-clause-other_shows c Notes other q = never (bytes_eq c.args.name.now q)
