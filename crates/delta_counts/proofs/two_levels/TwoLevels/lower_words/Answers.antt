use Rattle.std.proofs.Common.{[], refl}
use Rattle.object_record.specs.Buffer.{raw_of}
use Rattle.object_record.specs.Objects.{object_in}
use Rattle.core_view.specs.Counted.{words_of}
use Rattle.delta_counts.proofs.DrainLaws.{counting-giving}
use Rattle.delta_counts.proofs.EffectLaws.{names-of, given-whole, reached-ok, some-at}
use Rattle.delta_counts.proofs.two_levels.TwoLevels.lower_words.Goals as goal

pub lower_words-requires-clause-names : goal.lower_words-requires-clause-names
lower_words-requires-clause-names g c = names-of c.args.self.now.parts c.args.self.now.whole.parts

pub lower_words-requires-clause-sound : goal.lower_words-requires-clause-sound
lower_words-requires-clause-sound g c = some-at c.args.self.now (words_of (object_in (raw_of c.args.buf.now))) c.requires.sound

pub invariant_of-self : goal.invariant_of-self
invariant_of-self g c =
    let p = c.args.self.now.parts in
    record { whole = given-whole p (record { segment = p.segment; names = c.lower_words.new.p }) c.args.self.now.whole refl (counting-giving p.names c.lower_words.new.p c.lower_words.ensures.counting) }

pub returns-clause-leaves : goal.returns-clause-leaves
returns-clause-leaves g c =
    let e = c.lower_words.ensures in
    record { disk = record { work = e.work; lender = e.same_host; limit = e.room }; held = e.held; segment = refl; giving = counting-giving c.args.self.now.parts.names c.lower_words.new.p e.counting }

pub returns-clause-keeps : goal.returns-clause-keeps
returns-clause-keeps g c = reached-ok (words_of (object_in (raw_of c.args.buf.now))) [] c.args.self.now _ c.lower_words.result refl c.lower_words.ensures.lowered
