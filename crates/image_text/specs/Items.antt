-- The items of an object as a raw record has them, and how its line spells them.
use Rattle.std.specs.Prelude.{ℕ, List, ◌∷◌, ◌++◌, codes, decimal}
use Rattle.std.specs.List.{flat_map}
use Rattle.text_lines.specs.PartSpelling.{byte_text, kind_text, value_text, word_text}
use Rattle.object_record.specs.Objects.{value_in}
use Rattle.object_record.specs.Raw.{RawBody, RawPointers, RawWords, RawBytes, RawMethod, RawRecord, longs_of, raw_bytes, raw_kind, raw_words}
use Rattle.image_text.specs.declared.spelling.Items.{Items}
use Rattle.image_text.specs.declared.spelling.Items.TheVariants.{Values, Words, Bytes}

abbrev pub items_of : Items → RawBody → List ℕ
items_of Values body = longs_of body
items_of Words body = raw_words body
items_of Bytes body = raw_bytes body

-- an item, with a space (32) before it
abbrev pub item_text : Items → ℕ → List ℕ
item_text Values long = 32 ∷ value_text (value_in long)
item_text Words word = 32 ∷ word_text word
item_text Bytes byte = 32 ∷ byte_text byte

-- name, class and kind
abbrev pub head_text : RawRecord → List ℕ
head_text r = decimal r.name ++ (32 ∷ (decimal r.class ++ (32 ∷ kind_text (raw_kind r.body))))

-- the contents, with a space before each part
abbrev pub spaced_contents : RawBody → List ℕ
spaced_contents (RawPointers longs) = flat_map (item_text Values) longs
spaced_contents (RawWords words) = flat_map (item_text Words) words
spaced_contents (RawBytes bytes) = flat_map (item_text Bytes) bytes
spaced_contents (RawMethod header literals code) = item_text Values header ++ (flat_map (item_text Values) literals ++ (codes " code" ++ flat_map (item_text Bytes) code))
