use Rattle.std.proofs.Common.{ℕ, List, [], ◌++◌, sym, subst, ◌∙◌}
use Rattle.std.specs.Prelude.{All}
use Rattle.std.specs.List.{flat_map}
use Rattle.long_names.specs.Heap.{Has}
use Rattle.loom_host.specs.declared.outside.Role.TheVariants.{Work}
use Rattle.image_writer.specs.Saved.{disk_heap}
use Rattle.image_writer.proofs.DiskFacts.{still_holds, same_disk}
use Rattle.image_writer.proofs.PutsLaws.{then_puts, read_puts, untold_puts}
use Rattle.image_writer.proofs.SaveLaws.{names_there}
use Rattle.text_lines.specs.Spelling.{head_parts, heap_text, line_of, name_line}
use Rattle.image_text.proofs.NameLines.{text_is}
use Rattle.image_text.proofs.listing.list.Goals as goal

pub put_text-requires : goal.put_text-requires
put_text-requires g c = record {
  stands = still_holds g.H.Host c.args.disk.now.host.now c.names_of.new.disk.host.now c.args.disk.now.rest c.names_of.new.disk.rest (c.names_of.ensures.read.roles Work) c.names_of.ensures.rest c.requires.stands;
}

pub returns-clause-listed : goal.returns-clause-listed
returns-clause-listed g c =
    let h = disk_heap g.H.Host c.args.disk.now.host.now c.args.disk.now.rest c.args.next in
    let text = line_of (head_parts c.args.next c.args.state.now) ++ flat_map (name_line h) c.in_ok-names.names in
    let same = same_disk g.H.Host c.args.disk.now.host.now c.names_of.new.disk.host.now c.args.disk.now.rest c.names_of.new.disk.rest (c.names_of.ensures.read.roles Work) c.names_of.ensures.rest in
    untold_puts g.H.Host c.args.disk.now.host.now c.put_text.new.disk.host.now text (heap_text h c.args.state.now) c.put_text.result
    (λ told. text_is g.H.Host c.args.disk.now.host.now c.args.disk.now.rest c.args.next (c.requires.stands told).0 (c.requires.stands told).1 (c.requires.stands told).2 c.args.state.now c.in_ok-names.names (c.requires.bounded told)
    (c.in_ok-names.ensures.names told (c.requires.stands told).0 (c.requires.stands told).1 (c.requires.stands told).2))
    (then_puts g.H.Host c.args.disk.now.host.now c.names_of.new.disk.host.now c.put_text.new.disk.host.now [] text (tt {0}) c.put_text.result (read_puts g.H.Host c.args.disk.now.host.now c.names_of.new.disk.host.now (tt {0}) c.names_of.ensures.read)
    (c.put_text.ensures.puts h (λ told. (
      sym same,
      subst (λ (ns : List ℕ). All (Has h) ns) (sym (c.in_ok-names.ensures.names told (c.requires.stands told).0 (c.requires.stands told).1 (c.requires.stands told).2)) (names_there g.H.Host c.args.disk.now.host.now c.args.disk.now.rest c.args.next (c.requires.stands told).0 (c.requires.stands told).1 (c.requires.stands told).2),
    ))))

pub returns-clause-rest : goal.returns-clause-rest
returns-clause-rest g c = c.put_text.ensures.rest ∙ c.names_of.ensures.rest
