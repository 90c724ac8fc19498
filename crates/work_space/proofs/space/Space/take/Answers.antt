use Rattle.std.proofs.Common.{◌+◌, ◌<◌, false, true, slice_index, length, refl, sym, ◌∙◌, ap}
use Rattle.std.proofs.lemmas.List.{get_or-set_same, get_or-set_other}
use Rattle.loom_host.specs.declared.outside.Role.TheVariants.{Work}
use Rattle.work_space.specs.Blocks.{block_size}
use Rattle.loom_host.specs.Work.{work_of}
use Rattle.work_space.specs.Space.{from_of, end_of, first_of, is_link}
use Rattle.work_space.proofs.SpaceLaws.{pick-old, lay-taken, lay-place, lay-fault, lay-told, lay-sound, broken, true-false, some-within, link-right, reuse-taken}
use Rattle.work_space.proofs.space.Space.take.Goals as goal

pub returns-then-place-eq0-clause-takes : goal.returns-then-place-eq0-clause-takes
unfolding first_of
returns-then-place-eq0-clause-takes g c told laid out b =
    lay-taken _ _ _ laid out c.args.c c.lay.result c.requires c.if-place-eq0.true c.lay.ensures.place c.lay.ensures.end
    c.lay.ensures.heads c.lay.ensures.from b

pub returns-then-place-eq0-clause-place : goal.returns-then-place-eq0-clause-place
unfolding first_of
returns-then-place-eq0-clause-place g c = lay-place _ _ c.args.c c.lay.result c.if-place-eq0.true c.lay.ensures.place c.lay.ensures.end

pub returns-then-place-eq0-clause-fault : goal.returns-then-place-eq0-clause-fault
unfolding first_of
returns-then-place-eq0-clause-fault g c = lay-fault _ c.args.c _ _ c.lay.result c.if-place-eq0.true c.lay.ensures.full

pub returns-then-place-eq0-clause-told : goal.returns-then-place-eq0-clause-told
unfolding first_of
returns-then-place-eq0-clause-told g c told = lay-told _ _ c.args.c c.lay.result c.if-place-eq0.true c.lay.ensures.room c.lay.ensures.full

pub returns-then-place-eq0-clause-sound : goal.returns-then-place-eq0-clause-sound
returns-then-place-eq0-clause-sound g c told laid out b few first = lay-sound _ _ laid out c.args.c _ _ c.lay.result c.requires
    c.lay.ensures.full b few first

pub returns-then-not-is_link-clause-fault : goal.returns-then-not-is_link-clause-fault
unfolding first_of
returns-then-not-is_link-clause-fault g c = (
  refl,
  sym (pick-old (slice_index c.args.self.now.heads c.args.c) (end_of c.args.self.now)
      (slice_index c.args.self.now.heads c.args.c) c.if-place-eq0.false),
  λ none. absurd (c.if-place-eq0.false none),
)

pub returns-then-not-is_link-clause-told : goal.returns-then-not-is_link-clause-told
unfolding first_of
returns-then-not-is_link-clause-told g c told =
    broken c.args.self.now (work_of g.H.Host c.args.host.now) c.args.c c.in_ok-next.next false c.if-place-eq0.false
    (c.in_ok-next.ensures.link told)
    (sym c.is_link.ensures ∙ c.if-not-is_link.true)

pub returns-then-not-is_link-clause-sound : goal.returns-then-not-is_link-clause-sound
unfolding first_of
returns-then-not-is_link-clause-sound g c told laid out b few first =
    let right = link-right c.args.self.now (work_of g.H.Host c.args.host.now) laid out c.args.c c.requires c.if-place-eq0.false b in
    true-false (sym right ∙ ap (is_link c.args.self.now) (sym (c.in_ok-next.ensures.link told)) ∙ sym c.is_link.ensures
    ∙ c.if-not-is_link.true)

pub returns-clause-takes : goal.returns-clause-takes
unfolding from_of end_of first_of
returns-clause-takes g c told laid out b =
    let same = c.in_ok-next.ensures.host.roles Work in
    let heads = c.args.self.now.heads in
    let low : c.args.c < length heads = some-within heads c.args.c c.if-place-eq0.false in
    reuse-taken c.args.self.now _ (work_of g.H.Host c.args.host.now) _ laid out c.args.c c.requires (ap (λ s. s.contents) same)
    c.if-place-eq0.false
    (get_or-set_same heads c.args.c c.in_ok-next.next 0 low ∙ c.in_ok-next.ensures.link told)
    (λ d away. get_or-set_other heads c.args.c d c.in_ok-next.next 0 away)
    refl refl b

pub returns-clause-place : goal.returns-clause-place
unfolding first_of end_of
returns-clause-place g c = (
  sym (pick-old (slice_index c.args.self.now.heads c.args.c) (end_of c.args.self.now) (slice_index c.args.self.now.heads c.args.c)
      c.if-place-eq0.false),
  sym (pick-old (slice_index c.args.self.now.heads c.args.c) (end_of c.args.self.now + block_size c.args.c) (end_of c.args.self.now)
      c.if-place-eq0.false),
)

pub returns-clause-told : goal.returns-clause-told
unfolding first_of
returns-clause-told g c told =
    broken c.args.self.now (work_of g.H.Host c.args.host.now) c.args.c c.in_ok-next.next true c.if-place-eq0.false
    (c.in_ok-next.ensures.link told)
    (sym c.is_link.ensures ∙ c.if-not-is_link.false)

pub returns-clause-from : goal.returns-clause-from
unfolding from_of
returns-clause-from g c = refl
