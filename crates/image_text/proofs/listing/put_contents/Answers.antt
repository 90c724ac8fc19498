use Rattle.std.proofs.Common.{sym, ◌∙◌}
use Rattle.object_record.specs.Buffer.{raw_of}
use Rattle.image_writer.proofs.GatherLaws.{gathers_of}
use Rattle.image_text.proofs.LineLaws.{bytes_are, pointers_are, words_are}
use Rattle.image_text.proofs.listing.put_contents.Goals as goal

pub put_items-requires : goal.put_items-requires
put_items-requires g c = record { «record» = c.requires; count = c.len.ensures ∙ (pointers_are (raw_of c.args.buf.now).body (sym c.kind.ensures ∙ c.in-Pointers.is)).0 }

pub put_items-requires-in-Words : goal.put_items-requires-in-Words
put_items-requires-in-Words g c = record { «record» = c.requires; count = c.len-in-Words.ensures ∙ (words_are (raw_of c.args.buf.now).body (sym c.kind.ensures ∙ c.in-Words.is)).0 }

pub put_items-requires-in-Bytes : goal.put_items-requires-in-Bytes
put_items-requires-in-Bytes g c = record { «record» = c.requires; count = c.len-in-Bytes.ensures ∙ (bytes_are (raw_of c.args.buf.now).body (sym c.kind.ensures ∙ c.in-Bytes.is)).0 }

pub put_method-requires : goal.put_method-requires
put_method-requires g c = record { «record» = c.requires; method = sym c.kind.ensures ∙ c.in-Method.is }

pub returns-in-Pointers-clause-gathers : goal.returns-in-Pointers-clause-gathers
returns-in-Pointers-clause-gathers g c = gathers_of g.H.Host _ _ _ _ _ _ _ (pointers_are (raw_of c.args.buf.now).body (sym c.kind.ensures ∙ c.in-Pointers.is)).1 c.put_items.ensures.gathers

pub returns-in-Words-clause-gathers : goal.returns-in-Words-clause-gathers
returns-in-Words-clause-gathers g c = gathers_of g.H.Host _ _ _ _ _ _ _ (words_are (raw_of c.args.buf.now).body (sym c.kind.ensures ∙ c.in-Words.is)).1 c.put_items-in-Words.ensures.gathers

pub returns-in-Bytes-clause-gathers : goal.returns-in-Bytes-clause-gathers
returns-in-Bytes-clause-gathers g c = gathers_of g.H.Host _ _ _ _ _ _ _ (bytes_are (raw_of c.args.buf.now).body (sym c.kind.ensures ∙ c.in-Bytes.is)).1 c.put_items-in-Bytes.ensures.gathers
