use Rattle.std.proofs.Common.{◌≡◌, Some, None, take, drop, sym, ◌∙◌, ap, arith}
use Rattle.std.specs.List.{slice_get}
use Rattle.std.specs.Option.{option_and_then}
use Rattle.long_names.specs.declared.object.Body.{Body}
use Rattle.long_names.specs.Objects.{bytes_of}
use Rattle.object_table.specs.declared.entry.Entry.{Entry}
use Rattle.core_view.specs.Words.{bytes_in}
use Rattle.core_view.specs.Held.{object_at}
use Rattle.core_view.proofs.Core.{placed-used}
use Rattle.leaf_lambda.specs.Parts.{core_of}
use Rattle.loom_memory.specs.Bodies.{bytes_from}
use Rattle.loom_memory.proofs.BodyLaws.{of-body, bytes-at, no-bytes-at, bytes-room-at, bytes-count, byte-among, element-here, element-none, none-there}
use Rattle.loom_memory.proofs.bodies.byte_at.Goals as goal

pub used_entry-e-requires : goal.used_entry-e-requires
unfolding core_of
used_entry-e-requires c = placed-used ((core_of c.args.p.now).entries c.args.s.0).state c.requires.there.0 c.requires.there.1

pub byte_from-requires-clause-within : goal.byte_from-requires-clause-within
unfolding core_of
byte_from-requires-clause-within c =
    let x = core_of c.args.p.now in
    let at = c.place_of_body-at.result.place in
    let from : bytes_from (x.entries c.args.s.0).kind (x.chunks at).words ≡ Some c.in-Some.first = sym c.bytes_first.ensures.first ∙ c.in-Some.is in
    let room = bytes-room-at x c.args.s.0 at c.in-Some.first c.requires.parts.core c.place_of_body-at.ensures from in
    let len : c.used_entry-e.result.len ≡ (x.entries c.args.s.0).len = ap (λ (e : Entry). e.len) c.used_entry-e.ensures in
    let low = c.if-i-e.true in
    omega arith

pub returns-then-i-e : goal.returns-then-i-e
unfolding core_of
returns-then-i-e c =
    let x = core_of c.args.p.now in
    let at = c.place_of_body-at.result.place in
    let from : bytes_from (x.entries c.args.s.0).kind (x.chunks at).words ≡ Some c.in-Some.first = sym c.bytes_first.ensures.first ∙ c.in-Some.is in
    let room = bytes-room-at x c.args.s.0 at c.in-Some.first c.requires.parts.core c.place_of_body-at.ensures from in
    let len : c.used_entry-e.result.len ≡ (x.entries c.args.s.0).len = ap (λ (e : Entry). e.len) c.used_entry-e.ensures in
    let low = c.if-i-e.true in
    let bytes = bytes_in (drop c.in-Some.first (x.chunks at).words) in
    of-body x c.args.s.0 at (λ (b : Body). Some c.byte_from.result ≡ option_and_then (λ bytes. slice_get bytes c.args.i) (bytes_of b)) c.place_of_body-at.ensures
    (λ disk. element-here (bytes_of (object_at x disk (x.entries c.args.s.0) at).body) (take (x.entries c.args.s.0).len bytes) c.args.i c.byte_from.result (bytes-at x disk c.args.s.0 at c.in-Some.first c.requires.parts.core c.place_of_body-at.ensures from)
    (byte-among bytes (x.entries c.args.s.0).len c.args.i (omega arith) ∙ c.byte_from.ensures))

pub returns-else-i-e : goal.returns-else-i-e
unfolding core_of
returns-else-i-e c =
    let x = core_of c.args.p.now in
    let at = c.place_of_body-at.result.place in
    let from : bytes_from (x.entries c.args.s.0).kind (x.chunks at).words ≡ Some c.in-Some.first = sym c.bytes_first.ensures.first ∙ c.in-Some.is in
    let room = bytes-room-at x c.args.s.0 at c.in-Some.first c.requires.parts.core c.place_of_body-at.ensures from in
    let len : c.used_entry-e.result.len ≡ (x.entries c.args.s.0).len = ap (λ (e : Entry). e.len) c.used_entry-e.ensures in
    let past = c.if-i-e.false in
    let bytes = bytes_in (drop c.in-Some.first (x.chunks at).words) in
    let count = bytes-count (x.chunks at).words (x.entries c.args.s.0).len c.in-Some.first room in
    of-body x c.args.s.0 at (λ (b : Body). None ≡ option_and_then (λ bytes. slice_get bytes c.args.i) (bytes_of b)) c.place_of_body-at.ensures
    (λ disk. element-none (bytes_of (object_at x disk (x.entries c.args.s.0) at).body) (take (x.entries c.args.s.0).len bytes) c.args.i (bytes-at x disk c.args.s.0 at c.in-Some.first c.requires.parts.core c.place_of_body-at.ensures from) (omega arith))

pub returns-in-None : goal.returns-in-None
unfolding core_of
returns-in-None c =
    let x = core_of c.args.p.now in
    let at = c.place_of_body-at.result.place in
    of-body x c.args.s.0 at (λ (b : Body). None ≡ option_and_then (λ bytes. slice_get bytes c.args.i) (bytes_of b)) c.place_of_body-at.ensures
    (λ disk. none-there (bytes_of (object_at x disk (x.entries c.args.s.0) at).body) c.args.i (no-bytes-at x disk c.args.s.0 at (sym c.bytes_first.ensures.first ∙ c.in-None.is)))
