-- What the parts of a builder answer. No public clause stands on it.
use Rattle.std.specs.Prelude.{ℕ, List, Option, Some, None, Result, Ok, Err}
use Rattle.std.specs.List.{flat_map}
use Rattle.std.specs.Ordering.{nat_cmp}
use Rattle.std.specs.BTreeMap.{get}
use Rattle.std.specs.Map.{count_at}
use Rattle.long_names.specs.Objects.{IsObject, holdings}
use Rattle.long_names.specs.Names.{IsLongName}
use Rattle.long_names.specs.Record.{record_text}
use Rattle.long_names.specs.declared.object.Object.{Object}
use Rattle.long_names.specs.declared.object.Rec.{Rec}
use Rattle.image_builder.specs.declared.fault.Broken.{Broken}
use Rattle.image_builder.specs.declared.counts.Counts.{Counts}

-- an entry that an image may have: a name, and an object
abbrev pub IsEntry : ℕ × Object → Type 0
IsEntry e = IsLongName e.0 × IsObject e.1

-- what a judge found
abbrev pub found_by : {A : Type 0} → Result A Broken → Option (ℕ × ℕ)
found_by (Ok x) = None
found_by (Err b) = Some (b.rule, b.name)

-- the count of a name, 0 where it has none
abbrev pub count_in : Counts → ℕ → ℕ
count_in c name = count_at (get nat_cmp c.words) name

-- how many words of an entry's object are this name
abbrev pub words_of : ℕ → ℕ × Object → ℕ
words_of name e = holdings e.1 name

-- the record of an entry, with these counts
abbrev pub rec_with : (ℕ → ℕ) → ℕ × Object → Rec
rec_with counts e = record { name = e.0; class = e.1.class; count = counts e.0; body = e.1.body }

-- the records of entries, one after the other
abbrev pub texts_with : (ℕ → ℕ) → List (ℕ × Object) → List ℕ
texts_with counts es = flat_map (λ e. record_text (rec_with counts e)) es
