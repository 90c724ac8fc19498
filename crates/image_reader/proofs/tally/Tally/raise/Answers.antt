use Rattle.std.proofs.Common.{◌≡◌, ◌+◌, ℕ, List, Some, is_some, get_or, length, slice_get, slice_set, refl, sym, ap, arith}
use Rattle.std.proofs.lemmas.Option.{slice_get_read, slice_get_within}
use Rattle.image_reader.specs.Names.{number_beside}
use Rattle.image_reader.specs.Tally.{counted}
use Rattle.image_reader.proofs.TallyLaws.{beside-here, beside-set, raised-one}
use Rattle.image_reader.proofs.tally.Tally.raise.Goals as goal

-- the number at the place of a name
at-place : (names counts : List ℕ) (i word old : ℕ) → length counts ≡ length names → slice_get names i ≡ Some word → old ≡ get_or counts i old → slice_get counts i ≡ Some old
at-place names counts i word old beside there value = slice_get_read counts (length counts) i old refl (omega (arith, slice_get_within names i word there, beside)) value

pub overflow_add-index_mut : goal.overflow_add-index_mut
unfolding counted
overflow_add-index_mut c =
    let t = c.args.self.now in
    let there = c.in-Some.ensures.there in
    let old = c.index_mut.result.now in
    let at = at-place t.names t.counts.items c.in-Some.i c.args.word old t.beside there c.index_mut.ensures.value in
    let room = c.requires.room c.args.word old (beside-here t.names t.counts.items c.in-Some.i c.args.word old t.rising there at) in
    omega (arith, room)

pub returns-in-Some-clause-there : goal.returns-in-Some-clause-there
unfolding counted
returns-in-Some-clause-there c =
    let t = c.args.self.now in
    let there = c.in-Some.ensures.there in
    let old = c.index_mut.result.now in
    let at = at-place t.names t.counts.items c.in-Some.i c.args.word old t.beside there c.index_mut.ensures.value in
    sym (ap is_some (beside-here t.names t.counts.items c.in-Some.i c.args.word old t.rising there at))

pub returns-in-Some-clause-more : goal.returns-in-Some-clause-more
unfolding counted
returns-in-Some-clause-more c =
    let t = c.args.self.now in
    let i = c.in-Some.i in
    let there = c.in-Some.ensures.there in
    let old = c.index_mut.result.now in
    let at = at-place t.names t.counts.items i c.args.word old t.beside there c.index_mut.ensures.value in
    record {
      more = raised-one c.args.word old (number_beside t.names t.counts.items) (number_beside t.names (slice_set t.counts.items i (old + 1)))
          (beside-here t.names t.counts.items i c.args.word old t.rising there at)
          (λ q. beside-set t.names t.counts.items i c.args.word old (old + 1) q t.rising there at);
    }
