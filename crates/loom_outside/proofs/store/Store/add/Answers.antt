use Rattle.std.proofs.Common.{rules, ℕ, List, [], ◌∷◌, ◌++◌, Some, ap, ◌∙◌}
use Rattle.loom_outside.specs.Files.{names}
use Rattle.loom_outside.specs.Store.{file_in, shows}
use Rattle.loom_outside.proofs.Kept.{file-push, shows-push, never}
use Rattle.std.specs.Str.{bytes_eq}
use Rattle.loom_host.specs.declared.outside.Role.TheVariants.{Image, Events, Work, Saved, Display, Transcript, Notes}
use Rattle.loom_outside.proofs.store.Store.add.Goals as goal

pub returns-clause-ok : goal.returns-clause-ok
unfolding file_in
returns-clause-ok c q =
    let named = c.in_ok-add.ensures.names ∙ ap (λ (l : List ℕ). names c.args.self.now.files.items ++ Some l ∷ []) c.as_bytes.ensures.value in
    file-push c.args.self.now.files.items c.add.new.files.items (Some c.args.name.now) c.args.bytes.now q named c.in_ok-add.ensures.contents

pub returns-clause-shows : goal.returns-clause-shows
unfolding shows
returns-clause-shows c Saved q = let s = c.args.self.now in shows-push s.files.items c.add.new.files.items (Some c.args.name.now) q s.saved.file (search rules) s.saved_there
returns-clause-shows c Display q = let s = c.args.self.now in shows-push s.files.items c.add.new.files.items (Some c.args.name.now) q s.display.file (search rules) s.display_there
returns-clause-shows c Image q = never (bytes_eq c.args.name.now q)
returns-clause-shows c Events q = never (bytes_eq c.args.name.now q)
returns-clause-shows c Work q = never (bytes_eq c.args.name.now q)
returns-clause-shows c Transcript q = never (bytes_eq c.args.name.now q)
returns-clause-shows c Notes q = never (bytes_eq c.args.name.now q)
