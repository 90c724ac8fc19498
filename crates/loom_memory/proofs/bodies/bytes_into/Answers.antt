use Rattle.std.proofs.Common.{◌≡◌, ◌+◌, Some, MatchBool, true, false, length, take, drop, sym, ◌∙◌, ap, arith}
use Rattle.long_names.specs.declared.object.Body.{Body}
use Rattle.long_names.specs.Objects.{bytes_of}
use Rattle.object_table.specs.declared.entry.Entry.{Entry}
use Rattle.core_view.specs.Words.{bytes_in}
use Rattle.core_view.specs.Held.{object_at}
use Rattle.core_view.proofs.Core.{placed-used}
use Rattle.leaf_lambda.specs.Parts.{core_of}
use Rattle.loom_memory.specs.Bodies.{HasRun, LacksRun, bytes_from}
use Rattle.loom_memory.proofs.BodyLaws.{of-body, bytes-at, no-bytes-at, bytes-room-at, bytes-count, byte-among, small-at, run-here, run-short, run-none}
use Rattle.loom_memory.proofs.bodies.bytes_into.Goals as goal

pub used_entry-e-requires : goal.used_entry-e-requires
unfolding core_of
used_entry-e-requires c = placed-used ((core_of c.args.p.now).entries c.args.s.0).state c.requires.there.0 c.requires.there.1

pub copy_bytes-requires-clause-within : goal.copy_bytes-requires-clause-within
unfolding core_of
copy_bytes-requires-clause-within c =
    let x = core_of c.args.p.now in
    let at = c.place_of_body-at.result.place in
    let from : bytes_from (x.entries c.args.s.0).kind (x.chunks at).words ≡ Some c.in-Some.first = sym c.bytes_first.ensures.first ∙ c.in-Some.is in
    let room = bytes-room-at x c.args.s.0 at c.in-Some.first c.requires.parts.core c.place_of_body-at.ensures from in
    let len : c.used_entry-e.result.len ≡ (x.entries c.args.s.0).len = ap (λ (e : Entry). e.len) c.used_entry-e.ensures in
    omega arith

pub copy_bytes-requires-clause-small : goal.copy_bytes-requires-clause-small
unfolding core_of
copy_bytes-requires-clause-small c =
    let x = core_of c.args.p.now in
    let at = c.place_of_body-at.result.place in
    let len : c.used_entry-e.result.len ≡ (x.entries c.args.s.0).len = ap (λ (e : Entry). e.len) c.used_entry-e.ensures in
    let small = small-at x c.args.s.0 at c.requires.parts.core c.place_of_body-at.ensures in
    omega arith

pub returns-then-reaches : goal.returns-then-reaches
unfolding core_of
returns-then-reaches c =
    let x = core_of c.args.p.now in
    let at = c.place_of_body-at.result.place in
    let from : bytes_from (x.entries c.args.s.0).kind (x.chunks at).words ≡ Some c.in-Some.first = sym c.bytes_first.ensures.first ∙ c.in-Some.is in
    let room = bytes-room-at x c.args.s.0 at c.in-Some.first c.requires.parts.core c.place_of_body-at.ensures from in
    let len : c.used_entry-e.result.len ≡ (x.entries c.args.s.0).len = ap (λ (e : Entry). e.len) c.used_entry-e.ensures in
    let bytes = bytes_in (drop c.in-Some.first (x.chunks at).words) in
    let count = bytes-count (x.chunks at).words (x.entries c.args.s.0).len c.in-Some.first room in
    of-body x c.args.s.0 at (λ (b : Body). MatchBool true (HasRun (bytes_of b) c.args.i (length c.args.out.now) c.copy_bytes.new.out) (LacksRun (bytes_of b) c.args.i (length c.args.out.now))) c.place_of_body-at.ensures
    (λ disk. run-here (bytes_of (object_at x disk (x.entries c.args.s.0) at).body) (take (x.entries c.args.s.0).len bytes) c.copy_bytes.new.out c.args.i (length c.args.out.now) (bytes-at x disk c.args.s.0 at c.in-Some.first c.requires.parts.core c.place_of_body-at.ensures from) c.copy_bytes.ensures.long (omega arith)
    (λ j low. c.copy_bytes.ensures.run j low ∙ sym (byte-among bytes (x.entries c.args.s.0).len (c.args.i + j) (omega arith))))

pub returns-else-reaches : goal.returns-else-reaches
unfolding core_of
returns-else-reaches c =
    let x = core_of c.args.p.now in
    let at = c.place_of_body-at.result.place in
    let from : bytes_from (x.entries c.args.s.0).kind (x.chunks at).words ≡ Some c.in-Some.first = sym c.bytes_first.ensures.first ∙ c.in-Some.is in
    let room = bytes-room-at x c.args.s.0 at c.in-Some.first c.requires.parts.core c.place_of_body-at.ensures from in
    let len : c.used_entry-e.result.len ≡ (x.entries c.args.s.0).len = ap (λ (e : Entry). e.len) c.used_entry-e.ensures in
    let bytes = bytes_in (drop c.in-Some.first (x.chunks at).words) in
    let count = bytes-count (x.chunks at).words (x.entries c.args.s.0).len c.in-Some.first room in
    of-body x c.args.s.0 at (λ (b : Body). MatchBool false (HasRun (bytes_of b) c.args.i (length c.args.out.now) c.args.out.now) (LacksRun (bytes_of b) c.args.i (length c.args.out.now))) c.place_of_body-at.ensures
    (λ disk. run-short (bytes_of (object_at x disk (x.entries c.args.s.0) at).body) (take (x.entries c.args.s.0).len bytes) c.args.i (length c.args.out.now) (bytes-at x disk c.args.s.0 at c.in-Some.first c.requires.parts.core c.place_of_body-at.ensures from) (omega arith))

pub returns-in-None : goal.returns-in-None
unfolding core_of
returns-in-None c =
    let x = core_of c.args.p.now in
    let at = c.place_of_body-at.result.place in
    of-body x c.args.s.0 at (λ (b : Body). MatchBool false (HasRun (bytes_of b) c.args.i (length c.args.out.now) c.args.out.now) (LacksRun (bytes_of b) c.args.i (length c.args.out.now))) c.place_of_body-at.ensures
    (λ disk. run-none (bytes_of (object_at x disk (x.entries c.args.s.0) at).body) c.args.i (length c.args.out.now) (no-bytes-at x disk c.args.s.0 at (sym c.bytes_first.ensures.first ∙ c.in-None.is)))
