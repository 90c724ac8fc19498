-- The messages that every object of a generated image understands, the dictionary that has them, and the special selectors.
use Rattle.std.specs.Prelude.{ℕ, zero, suc, ◌+◌, ◌/◌, ◌%◌, ◌==◌, ◌&&◌, nat_le, Bool, false, List, [], ◌∷◌, length, codes, count_by, slice_get, slice_set, if◌then◌else◌}
use Rattle.std.specs.Option.{option_map_or}
use Rattle.std.specs.List.{list_any, find, flat_map, fold}
use Rattle.std.specs.Str.{bytes_eq}
use Rattle.long_names.specs.Names.{NIL}
use Rattle.long_names.specs.Objects.{is_ref}
use Rattle.long_names.specs.declared.value.Value.{Value}
use Rattle.long_names.specs.declared.value.Value.TheVariants.{Ref}
use Rattle.loom_gen.specs.declared.names.TheConstants.{AT, AT_PUT, SIZE, NEW, NEXT, NEXT_PUT, AT_END, SIGNAL, WAIT, COPY_BITS, BE_DISPLAY, SHOW}
use Rattle.loom_gen.specs.declared.names.TheConstants.{AT_METHOD, AT_PUT_METHOD, SIZE_METHOD, NEW_METHOD, NEXT_METHOD, NEXT_PUT_METHOD, AT_END_METHOD, SIGNAL_METHOD, WAIT_METHOD, COPY_BITS_METHOD, BE_DISPLAY_METHOD, SHOW_METHOD}
use Rattle.loom_gen.specs.Notation.{nil, int, nils}

-- a message: the names of its selector and its method, the selector's text, the method's primitive, and how many arguments it has
pub record Message : Type 0 where
  pub selector : ℕ
  pub method : ℕ
  pub text : List ℕ
  pub primitive : ℕ
  pub arguments : ℕ

abbrev pub message : ℕ → ℕ → List ℕ → ℕ → ℕ → Message
message selector method text primitive arguments =
    record { selector = selector; method = method; text = text; primitive = primitive; arguments = arguments }

abbrev pub messages : List Message
messages =
    message AT AT_METHOD (codes "at:") 60 1
    ∷ message AT_PUT AT_PUT_METHOD (codes "at:put:") 61 2
    ∷ message SIZE SIZE_METHOD (codes "size") 62 0
    ∷ message NEW NEW_METHOD (codes "new:") 71 1
    ∷ message NEXT NEXT_METHOD (codes "next") 65 0
    ∷ message NEXT_PUT NEXT_PUT_METHOD (codes "nextPut:") 66 1
    ∷ message AT_END AT_END_METHOD (codes "atEnd") 67 0
    ∷ message SIGNAL SIGNAL_METHOD (codes "signal") 85 0
    ∷ message WAIT WAIT_METHOD (codes "wait") 86 0
    ∷ message COPY_BITS COPY_BITS_METHOD (codes "copyBits") 96 0
    ∷ message BE_DISPLAY BE_DISPLAY_METHOD (codes "beDisplay") 102 0
    ∷ message SHOW SHOW_METHOD (codes "show:") 128 1
    ∷ []

-- ---- the dictionary (chapter 27, the dictionary lookup)

-- its slots for selectors, and as many for methods
pub record Dictionary : Type 0 where
  pub selectors : List Value
  pub methods : List Value

abbrev pub is_nil_at : List Value → ℕ → Bool
is_nil_at slots at = option_map_or (is_ref NIL) (slice_get slots at) false

-- the first slot that is nil, from one on, round past the last; so many are looked at
abbrev pub free_slot : ℕ → List Value → ℕ → ℕ
free_slot zero slots at = at
free_slot (suc turns) slots at = if is_nil_at slots at then at else free_slot turns slots ((at + 1) % length slots)

-- A selector goes into the first free slot from the place on that the lowest bits of its name's index say, and its method into the
-- same place.
abbrev pub with_message : Dictionary → Message → Dictionary
with_message d m =
    let at = free_slot (length d.selectors) d.selectors (m.selector / 2 % length d.selectors) in
    record { selectors = slice_set d.selectors at (Ref m.selector); methods = slice_set d.methods at (Ref m.method) }

-- the dictionary of 16 slots that has the messages, which went in by their order
abbrev pub dictionary : Dictionary
dictionary = fold with_message (record { selectors = nils 16; methods = nils 16 }) messages

-- ---- the special selectors (chapter 28)

abbrev pub special_selectors : List (List ℕ)
special_selectors =
    codes "+" ∷ codes "-" ∷ codes "<" ∷ codes ">" ∷ codes "<=" ∷ codes ">=" ∷ codes "=" ∷ codes "~=" ∷ codes "*" ∷ codes "/"
    ∷ codes "\\\\" ∷ codes "@" ∷ codes "bitShift:" ∷ codes "//" ∷ codes "bitAnd:" ∷ codes "bitOr:" ∷ codes "at:" ∷ codes "at:put:"
    ∷ codes "size" ∷ codes "next" ∷ codes "nextPut:" ∷ codes "atEnd" ∷ codes "==" ∷ codes "class" ∷ codes "blockCopy:"
    ∷ codes "value" ∷ codes "value:" ∷ codes "do:" ∷ codes "new" ∷ codes "new:" ∷ codes "x" ∷ codes "y" ∷ []

-- the selector of this text, where a message has it, otherwise nil
abbrev pub selector_of : List ℕ → Value
selector_of text = option_map_or (λ (m : Message). Ref m.selector) (find (λ (m : Message). bytes_eq m.text text) messages) nil

-- a small letter
abbrev pub is_letter : ℕ → Bool
is_letter code = nat_le 97 code && nat_le code 122

-- how many arguments a selector takes: as many as it has colons, or 1 where it is made of signs
abbrev pub arguments_of : List ℕ → ℕ
arguments_of text = if list_any is_letter text then count_by (λ code. code == 58) text else 1

-- each special selector, and its number of arguments
abbrev pub special_fields : List Value
special_fields = flat_map (λ text. selector_of text ∷ int (arguments_of text) ∷ []) special_selectors
