use Rattle.std.proofs.Common.{ℕ, ◌≡◌, ◌<◌, Bool, false, List, length, sym, ◌∙◌, arith, get_or}
use Rattle.std.proofs.lemmas.List.{get_or_default}
use Rattle.object_table.proofs.NoteLaws.{noted-add, noted-room}
use Rattle.object_table.proofs.table.Table.note_at.Goals as goal

-- the flag that was read
read : (listed : List Bool) (i : ℕ) (b : Bool) → b ≡ get_or listed i b → i < length listed → b ≡ false → get_or listed i false ≡ false
read listed i b is low off = sym (is ∙ get_or_default listed i b false low) ∙ off

pub push_reserved-requires : goal.push_reserved-requires
push_reserved-requires c =
    let t = c.args.self.now in
    let low = c.requires in
    let lists = t.marks.size in
    let room = noted-room t.entries.items t.listed.items t.noted.items c.args.place t.marks low (read t.listed.items c.args.place c.index.result.now c.index.ensures (omega arith) c.if-index.false) in
    let size = t.noted.ok.0 in
    let within = t.within in
    omega (arith, t.rooms.2)

pub invariant_of-self : goal.invariant_of-self
invariant_of-self c =
    let t = c.args.self.now in
    let low = c.requires in
    let lists = t.marks.size in
    record {
      small = t.small;
      within = t.within;
      known = t.known;
      counted = t.counted;
      marks = rw c.push_reserved.ensures.items (noted-add t.entries.items t.listed.items t.noted.items c.args.place t.marks low (read t.listed.items c.args.place c.index.result.now c.index.ensures (omega arith) c.if-index.false));
      rooms = (t.rooms.0, t.rooms.1, omega (arith, t.rooms.2, c.push_reserved.ensures.capacity), t.rooms.3);
    }
