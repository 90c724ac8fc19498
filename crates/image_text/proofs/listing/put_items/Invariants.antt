use Rattle.std.proofs.Common.{◌≡◌, take, Ok}
use Rattle.std.specs.List.{flat_map}
use Rattle.object_record.specs.Buffer.{raw_of}
use Rattle.image_writer.specs.Inside.{Gathers}
use Rattle.image_text.specs.Items.{item_text, items_of}
use Rattle.image_text.proofs.listing.put_items.Given as goal

abbrev pub invariant-loop-i : goal.invariant-loop-i
invariant-loop-i g l = record {
  rest : l.disk.rest ≡ l.fn.disk.rest;
  same_host : l.disk.host.ghost_name ≡ l.fn.disk.host.ghost_name;
  gathers : Gathers {T = Unit {0}} g.H.Host l.fn.disk.host.now l.disk.host.now l.fn.gathered l.gathered (flat_map (item_text l.items) (take l.i (items_of l.items (raw_of l.buf).body))) (Ok tt);
}
