use Rattle.std.proofs.Common.{refl, sym, ap, ◌∙◌, subst}
use Rattle.long_names.specs.Access.{Length, Header}
use Rattle.object_memory.specs.Told.{Told}
use Rattle.object_memory.specs.Contract.{MayDo}
use Rattle.object_memory.specs.Plain.{plain_told}
use Rattle.bounded_memory.specs.Sizes.{words_for, entries_for}
use Rattle.bounded_memory.proofs.SizeLaws.{asked, asked-words, asked-entries, literals-are, literals-is, may-kind, may-len, may-header}
use Rattle.bounded_memory.proofs.bounded.size_of.Goals as goal

pub kind-requires-clause-may : goal.kind-requires-clause-may
kind-requires-clause-may c = may-kind (plain_told c.args.memory.now) c.args.of c.requires.fit.ready refl c.requires.name

pub len-requires-clause-may : goal.len-requires-clause-may
len-requires-clause-may c =
    subst (λ (u : Told). MayDo u (Length c.args.of)) (sym c.kind.ensures.kept) (may-len (plain_told c.args.memory.now) c.args.of c.requires.fit.ready refl c.requires.name)

pub header-requires-clause-may : goal.header-requires-clause-may
header-requires-clause-may c =
    let t = plain_told c.args.memory.now in
    let it = asked t (plain_told c.kind.new.self) c.args.of c.in-Ok-Ok.kind c.in-Ok-Ok.len c.requires.fit.ready refl c.requires.name c.kind.ensures.kept (c.in-Ok-Ok.ensures.access.answer refl) (c.in-Ok-Ok.ensures'.access.answer refl) in
    subst (λ (u : Told). MayDo u (Header c.args.of)) (sym (c.len.ensures.kept ∙ c.kind.ensures.kept)) (may-header t c.args.of it.object it.there c.requires.name (it.is ∙ c.in-Method.is))

pub returns-in_default-kind : goal.returns-in_default-kind
returns-in_default-kind c =
    let t = plain_told c.args.memory.now in
    let it = asked t (plain_told c.kind.new.self) c.args.of c.in-Ok-Ok.kind c.in-Ok-Ok.len c.requires.fit.ready refl c.requires.name c.kind.ensures.kept (c.in-Ok-Ok.ensures.access.answer refl) (c.in-Ok-Ok.ensures'.access.answer refl) in
    record {
      words = c.new.ensures.words ∙ asked-words t c.args.of c.in-Ok-Ok.kind c.in-Ok-Ok.len 0 it (λ e. absurd (c.in_default-kind.not-Method e));
      entries = c.new.ensures.entries ∙ asked-entries t c.args.of c.in-Ok-Ok.kind c.in-Ok-Ok.len 0 it (λ e. absurd (c.in_default-kind.not-Method e));
      kept = c.len.ensures.kept ∙ c.kind.ensures.kept;
    }

pub returns-clause-words : goal.returns-clause-words
returns-clause-words c =
    let t = plain_told c.args.memory.now in
    let it = asked t (plain_told c.kind.new.self) c.args.of c.in-Ok-Ok.kind c.in-Ok-Ok.len c.requires.fit.ready refl c.requires.name c.kind.ensures.kept (c.in-Ok-Ok.ensures.access.answer refl) (c.in-Ok-Ok.ensures'.access.answer refl) in
    let e = literals-are t (plain_told c.len.new.self) c.args.of it.object c.literal_count.result it.there (c.len.ensures.kept ∙ c.kind.ensures.kept) (c.in-Ok.ensures.literals refl ∙ literals-is c.in-Ok.header c.literal_count.result c.in-Ok.ensures.range c.literal_count.ensures) in
    c.new-2.ensures.words ∙ ap (λ k. words_for k c.in-Ok-Ok.len c.literal_count.result) (sym c.in-Method.is) ∙ asked-words t c.args.of c.in-Ok-Ok.kind c.in-Ok-Ok.len c.literal_count.result it (λ m. e)

pub returns-clause-entries : goal.returns-clause-entries
returns-clause-entries c =
    let t = plain_told c.args.memory.now in
    let it = asked t (plain_told c.kind.new.self) c.args.of c.in-Ok-Ok.kind c.in-Ok-Ok.len c.requires.fit.ready refl c.requires.name c.kind.ensures.kept (c.in-Ok-Ok.ensures.access.answer refl) (c.in-Ok-Ok.ensures'.access.answer refl) in
    let e = literals-are t (plain_told c.len.new.self) c.args.of it.object c.literal_count.result it.there (c.len.ensures.kept ∙ c.kind.ensures.kept) (c.in-Ok.ensures.literals refl ∙ literals-is c.in-Ok.header c.literal_count.result c.in-Ok.ensures.range c.literal_count.ensures) in
    c.new-2.ensures.entries ∙ ap (λ k. entries_for k c.in-Ok-Ok.len c.literal_count.result) (sym c.in-Method.is) ∙ asked-entries t c.args.of c.in-Ok-Ok.kind c.in-Ok-Ok.len c.literal_count.result it (λ m. e)
