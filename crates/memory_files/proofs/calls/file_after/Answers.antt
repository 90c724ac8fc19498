use Rattle.std.proofs.Common.{sym, OnOk, ◌∙◌}
use Rattle.file_system.specs.World.{FileState}
use Rattle.memory_files.specs.Memory.{ShowsFile, world_of}
use Rattle.memory_files.proofs.Files.{added-shows, added-shows-not, made-shows, made-shows-not, on-shows, on-shows-not, sync-shows, sync-shows-not}
use Rattle.memory_files.proofs.calls.file_after.Goals as goal

pub returns-then-number-file : goal.returns-then-number-file
returns-then-number-file c shown = made-shows c.args.number c.args.file c.args.call.now c.in-Made.field-0 c.in-Made.field-1 (world_of c.args.rest.now) c.reset.new.now c.reset.result c.in-Made.is c.if-number-file.true c.reset.ensures.bytes c.reset.ensures.whole c.reset.ensures.spoiled

pub returns-else-number-file : goal.returns-else-number-file
returns-else-number-file c shown = made-shows-not c.args.number c.args.file c.args.call.now c.in-Made.field-0 c.in-Made.field-1 (world_of c.args.rest.now) c.args.now.now c.in-Made.is c.if-number-file.false shown

pub returns-then-number-file-2 : goal.returns-then-number-file-2
returns-then-number-file-2 c shown = added-shows c.args.number c.args.file c.args.call.now c.in-Added.field-0 c.in-Added.bytes c.as_slice.result.now (world_of c.args.rest.now) c.reset-then-number-file-2.new.now c.reset-then-number-file-2.result c.in-Added.is c.if-number-file-2.true
    c.reset-then-number-file-2.ensures.bytes c.as_slice.ensures.value c.reset-then-number-file-2.ensures.whole c.reset-then-number-file-2.ensures.spoiled

pub returns-else-number-file-2 : goal.returns-else-number-file-2
returns-else-number-file-2 c shown = added-shows-not c.args.number c.args.file c.args.call.now c.in-Added.field-0 c.in-Added.bytes (world_of c.args.rest.now) c.args.now.now c.in-Added.is c.if-number-file-2.false shown

pub returns-then-seen-file : goal.returns-then-seen-file
returns-then-seen-file c shown = on-shows (λ (f : FileState). OnOk c.change_file.result (ShowsFile c.change_file.new.now f)) c.args.number c.in-On.descriptor c.args.file c.args.call.now c.in-On.change c.in-Some.seen (world_of c.args.rest.now)
    c.in-On.is (sym c.seen.ensures ∙ c.in-Some.is) c.if-seen-file.true (c.change_file.ensures ((world_of c.args.rest.now).files c.args.file) shown)

pub returns-else-seen-file : goal.returns-else-seen-file
returns-else-seen-file c shown = on-shows-not (ShowsFile c.args.now.now) c.args.number c.in-On.descriptor c.args.file c.args.call.now c.in-On.change c.in-Some.seen (world_of c.args.rest.now) c.in-On.is (sym c.seen.ensures ∙ c.in-Some.is) c.if-seen-file.false shown

pub returns-then-seen-file-2 : goal.returns-then-seen-file-2
returns-then-seen-file-2 c shown = sync-shows (ShowsFile c.sync_file.new.now) c.args.number c.in-Synced.descriptor c.args.file c.args.call.now c.in-Some-seen.seen (world_of c.args.rest.now)
    c.in-Synced.is (sym c.seen-in-Synced.ensures ∙ c.in-Some-seen.is) c.if-seen-file-2.true (c.sync_file.ensures ((world_of c.args.rest.now).files c.args.file) shown)

pub returns-else-seen-file-2 : goal.returns-else-seen-file-2
returns-else-seen-file-2 c shown = sync-shows-not (ShowsFile c.args.now.now) c.args.number c.in-Synced.descriptor c.args.file c.args.call.now c.in-Some-seen.seen (world_of c.args.rest.now) c.in-Synced.is (sym c.seen-in-Synced.ensures ∙ c.in-Some-seen.is) c.if-seen-file-2.false shown
