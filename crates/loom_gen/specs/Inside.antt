-- What the rows of the table stand for. No public clause stands on it.
use Rattle.std.specs.Prelude.{◌≡◌, ℕ, Option, ◌%◌, ◌==◌, ◌&&◌, nat_lt, Bool, true, List, ◌++◌, map}
use Rattle.std.specs.List.{list_all, find}
use Rattle.long_names.specs.declared.value.Value.{Value}
use Rattle.long_names.specs.declared.value.Value.TheVariants as value
use Rattle.long_names.specs.declared.object.Body.{Body}
use Rattle.long_names.specs.declared.object.Body.TheVariants as body
use Rattle.long_names.specs.declared.object.Object.{Object}
use Rattle.loom_gen.specs.declared.rows.Field.{Field}
use Rattle.loom_gen.specs.declared.rows.Field.TheVariants.{Int, Ref, Start}
use Rattle.loom_gen.specs.declared.rows.Form.{Form}
use Rattle.loom_gen.specs.declared.rows.Form.TheVariants.{Pointers, Padded, Characters, ZeroWords, ZeroBytes, Text, Method, Primitive}
use Rattle.loom_gen.specs.declared.rows.Row.{Row}
use Rattle.loom_gen.specs.Notation.{nils, zeros, primitive}
use Rattle.loom_gen.specs.Table.{node_name, characters}

-- ---- what they stand for

abbrev pub field_value : ℕ → Field → Value
field_value number (Int z) = value.Int z
field_value number (Ref word) = value.Ref word
field_value number Start = value.Ref (node_name number)

abbrev pub field_values : ℕ → List Field → List Value
field_values number fields = map (field_value number) fields

abbrev pub form_body : ℕ → Form → Body
form_body number (Pointers fields) = body.Pointers (field_values number fields.now)
form_body number (Padded fields more) = body.Pointers (field_values number fields.now ++ nils more)
form_body number Characters = body.Pointers characters
form_body number (ZeroWords count) = body.Words (zeros count)
form_body number (ZeroBytes count) = body.Bytes (zeros count)
form_body number (Text text) = body.Bytes text.now
form_body number (Method header literals code) = body.Method header (field_values number literals.now) code.now
form_body number (Primitive arguments index) = (primitive arguments index).body

abbrev pub row_object : ℕ → Row → Object
row_object number row = record { class = row.class; body = form_body number row.form }

abbrev pub row_entry : ℕ → Row → ℕ × Object
row_entry number row = (row.name, row_object number row)

-- ---- their words are names, and a header extension is a SmallInteger

abbrev pub is_name : ℕ → Bool
is_name word = word % 2 == 0 && nat_lt 0 word

abbrev pub is_named_field : Field → Bool
is_named_field (Int z) = true
is_named_field (Ref word) = is_name word
is_named_field Start = true

abbrev pub is_named_form : Form → Bool
is_named_form (Pointers fields) = list_all is_named_field fields.now
is_named_form (Padded fields more) = list_all is_named_field fields.now
is_named_form Characters = true
is_named_form (ZeroWords count) = true
is_named_form (ZeroBytes count) = true
is_named_form (Text text) = true
is_named_form (Method header literals code) = list_all is_named_field literals.now
is_named_form (Primitive arguments index) = nat_lt arguments 32

abbrev pub is_named : Row → Bool
is_named row = is_name row.name && (is_name row.class && is_named_form row.form)

-- a row that was looked for by its name, from the left
pub record IsRowOf (rows : List Row) (word : ℕ) (found : Option Row) : Type 0 where
  pub is : found ≡ find (λ (r : Row). r.name == word) rows
