use Rattle.std.proofs.Common.{ℕ, List, [], ◌++◌, Option, sym, ap, subst, ◌∙◌}
use Rattle.std.specs.Prelude.{All}
use Rattle.std.specs.List.{flat_map}
use Rattle.long_names.specs.Heap.{Has}
use Rattle.long_names.specs.declared.object.Object.{Object}
use Rattle.loom_host.specs.declared.outside.Role.TheVariants.{Work}
use Rattle.disk_objects.specs.declared.rest.DiskRest.{DiskRest}
use Rattle.disk_objects.specs.Disk.{disk_held}
use Rattle.image_format.specs.Heads.{opening_text, state_text}
use Rattle.image_writer.specs.Inside.{opening_of}
use Rattle.image_writer.specs.declared.fault.SaveFault.TheVariants.{Disk}
use Rattle.image_writer.specs.Puts.{name_text}
use Rattle.image_writer.specs.Saved.{disk_heap, kept_state, saved_text}
use Rattle.image_writer.proofs.DiskFacts.{still_holds, same_disk, same_heap}
use Rattle.image_writer.proofs.PutsLaws.{then_puts, read_puts, read_then, fault_after, exit_read, untold_puts}
use Rattle.image_writer.proofs.SaveLaws.{names_there, text_is, exact_heap}
use Rattle.image_writer.proofs.saving.save.Goals as goal

pub kept_state-requires : goal.kept_state-requires
kept_state-requires g c = record { stands = still_holds g.H.Host c.args.disk.now.host.now c.names_of.new.disk.host.now c.args.disk.now.rest c.names_of.new.disk.rest (c.names_of.ensures.read.roles Work) c.names_of.ensures.rest c.requires.stands }

pub returns-in_err-kept-clause-saved : goal.returns-in_err-kept-clause-saved
returns-in_err-kept-clause-saved g c =
    exit_read g.H.Host c.args.disk.now.host.now c.kept_state.new.disk.host.now (saved_text (disk_heap g.H.Host c.args.disk.now.host.now c.args.disk.now.rest c.args.next) c.args.state.now) (Disk c.in_err-kept.field-0.0) c.from_residual-in_err-kept.result
    (read_then g.H.Host c.args.disk.now.host.now c.names_of.new.disk.host.now c.kept_state.new.disk.host.now c.names_of.ensures.read c.kept_state.ensures.read)
    (fault_after g.H.Host c.args.disk.now.host.now c.names_of.new.disk.host.now c.kept_state.new.disk.host.now (Disk c.in_err-kept.field-0.0) c.names_of.ensures.read c.in_err-kept.ensures.fault)
    c.from_residual-in_err-kept.ensures.1

pub put_image-requires : goal.put_image-requires
put_image-requires g c = record {
  stands = still_holds g.H.Host c.args.disk.now.host.now c.kept_state.new.disk.host.now c.args.disk.now.rest c.kept_state.new.disk.rest
      (c.kept_state.ensures.read.roles Work ∙ c.names_of.ensures.read.roles Work) (c.kept_state.ensures.rest ∙ c.names_of.ensures.rest) c.requires.stands;
}

pub returns-clause-saved : goal.returns-clause-saved
returns-clause-saved g c =
    let h = disk_heap g.H.Host c.args.disk.now.host.now c.args.disk.now.rest c.args.next in
    let a = opening_text (opening_of (disk_held c.kept_state.new.disk.rest) c.args.next) ++ state_text c.in_ok-kept.kept in
    let b = flat_map (name_text h) c.in_ok-names.names in
    let reads = read_then g.H.Host c.args.disk.now.host.now c.names_of.new.disk.host.now c.kept_state.new.disk.host.now c.names_of.ensures.read c.kept_state.ensures.read in
    let same = same_disk g.H.Host c.args.disk.now.host.now c.names_of.new.disk.host.now c.args.disk.now.rest c.names_of.new.disk.rest (c.names_of.ensures.read.roles Work) c.names_of.ensures.rest in
    let work = c.kept_state.ensures.read.roles Work ∙ c.names_of.ensures.read.roles Work in
    let rest = c.kept_state.ensures.rest ∙ c.names_of.ensures.rest in
    untold_puts g.H.Host c.args.disk.now.host.now c.put_image.new.disk.host.now (a ++ b) (saved_text h c.args.state.now) c.put_image.result
    (λ told. text_is g.H.Host c.args.disk.now.host.now c.args.disk.now.rest c.args.next (c.requires.stands told).0 (c.requires.stands told).1 (c.requires.stands told).2 c.args.state.now c.in_ok-kept.kept c.in_ok-names.names (disk_held c.kept_state.new.disk.rest) (c.requires.exact told)
    (c.in_ok-names.ensures.names told (c.requires.stands told).0 (c.requires.stands told).1 (c.requires.stands told).2)
    (c.in_ok-kept.ensures.state told ∙ ap (λ (at : ℕ → Option Object). kept_state at c.args.state.now) same) (ap (λ (r : DiskRest). disk_held r) rest))
    (then_puts g.H.Host c.args.disk.now.host.now c.kept_state.new.disk.host.now c.put_image.new.disk.host.now [] (a ++ b) (tt {0}) c.put_image.result (read_puts g.H.Host c.args.disk.now.host.now c.kept_state.new.disk.host.now (tt {0}) reads)
    (c.put_image.ensures.puts h (λ told. (
      same_heap g.H.Host c.args.disk.now.host.now c.kept_state.new.disk.host.now c.args.disk.now.rest c.kept_state.new.disk.rest h work rest (exact_heap g.H.Host c.args.disk.now.host.now c.args.disk.now.rest c.args.next (c.requires.exact told)),
      subst (λ (ns : List ℕ). All (Has h) ns) (sym (c.in_ok-names.ensures.names told (c.requires.stands told).0 (c.requires.stands told).1 (c.requires.stands told).2)) (names_there g.H.Host c.args.disk.now.host.now c.args.disk.now.rest c.args.next (c.requires.stands told).0 (c.requires.stands told).1 (c.requires.stands told).2),
    ))))

pub returns-clause-rest : goal.returns-clause-rest
returns-clause-rest g c = c.put_image.ensures.rest ∙ c.kept_state.ensures.rest ∙ c.names_of.ensures.rest
