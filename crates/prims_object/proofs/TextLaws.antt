-- Text: a byte of an object of bytes, whose length is looked at first.
use Rattle.std.proofs.Common.{◌≡◌, ℕ, ℤ, ◌<◌, ◌≤◌, nat_lt, Bool, true, false, List, [], ◌∷◌, length, Option, Some, None, Ok, Err, refl, sym, ◌∙◌, ap, subst, arith}
use borrow.Author.Tests.{ltb-true, ltb-false}
use Rattle.std.specs.Prelude.{get_or}
use Rattle.std.specs.List.{slice_get}
use Rattle.std.specs.Option.{option_and_then}
use Rattle.std.proofs.lemmas.Option.{slice_get_past, slice_get-get_or}
use Rattle.std.proofs.lemmas.Bool.Decides.{nat_tests}
use Rattle.long_names.specs.declared.value.Value.{Value}
use Rattle.long_names.specs.declared.value.Value.TheVariants.{Int, Ref}
use Rattle.long_names.specs.declared.object.Body.{Body}
use Rattle.long_names.specs.declared.object.Body.TheVariants.{Pointers, Words, Bytes, Method}
use Rattle.long_names.specs.declared.object.Object.{Object}
use Rattle.blue_model.specs.declared.cause.Cause.TheVariants.{Shape}
use Rattle.blue_model.specs.declared.spot.Spot.TheVariants.{Field, Word, Byte}
use Rattle.blue_model.specs.Machine.{Machine, Outcome, Go, Rule, row_of, after, then_do, ◌>>=◌, done, pick, part}
use Rattle.blue_model.specs.Trials.{peek}
use Rattle.blue_model.specs.Elements.{byte_by, byte_of_object, text_at}
use Rattle.blue_model.specs.declared.indexes.TheConstants.{CHARACTER_VALUE_INDEX}
use Rattle.blue_model.specs.Parts.{number}
use Rattle.blue_model.specs.declared.cpu.Cpu.{Cpu}
use Rattle.object_memory.specs.Told.{Told, IsReady}
use Rattle.contexts.specs.declared.stop.Stop.{Stop}
use Rattle.contexts.specs.Serves.{Serves}
use Rattle.prims_object.proofs.ExtentLaws.{part_gives, part_stops}
use Rattle.prims_object.specs.Extents.{text_length}
use Rattle.prims_object.proofs.WithinLaws.{IsWithin, only_row, goes_within, halts_within, peek_goes, peek_halts, part_goes}

abbrev one_byte : ℕ → Value → Rule (Option ℕ)
one_byte i v = part Shape (byte_of_object i) v >>= λ b. done (Some b)

abbrev pub text_next : ℕ → Value → Option ℕ → Rule (Option ℕ)
text_next i v None = done None
text_next i v (Some n) = pick (nat_lt i n) (one_byte i v) (done None)

abbrev pub text_by_steps : ℕ → Value → Rule (Option ℕ)
text_by_steps i v = peek text_length v >>= text_next i v

one_goes : (i : ℕ) (m : Machine) (n : ℕ) (o : Object) (a : ℕ) → m.heap.at n ≡ Some o → byte_of_object i o ≡ Some a → one_byte i (Ref n) m ≡ Go (Some a) m (only_row m n)
unfolding done ◌>>=◌
one_goes i m n o a e f = ap (λ (x : Outcome ℕ). then_do x (λ b. done (Some b))) (part_goes (byte_of_object i) m n o a e f)

first_step : (i : ℕ) (m : Machine) (n : ℕ) (o : Object) → m.heap.at n ≡ Some o → text_by_steps i (Ref n) m ≡ after (only_row m n) (text_next i (Ref n) (text_length o) m)
unfolding ◌>>=◌
first_step i m n o e = ap (λ (x : Outcome (Option ℕ)). then_do x (text_next i (Ref n))) (peek_goes text_length m n o e)

-- an object without text
no_text : (i : ℕ) (m : Machine) (n : ℕ) (o : Object) → m.heap.at n ≡ Some o → text_length o ≡ None → text_at (Byte i) o ≡ None → IsWithin (text_by_steps i (Ref n) m) (peek (text_at (Byte i)) (Ref n) m)
unfolding done
no_text i m n o e f g =
    goes_within (row_of m n) _ _ None m (only_row m n)
    (first_step i m n o e ∙ ap (λ x. after (only_row m n) (text_next i (Ref n) x m)) f)
    (peek_goes (text_at (Byte i)) m n o e ∙ ap (λ x. Go x m (only_row m n)) g)
    (refl, tt)

-- text, which has the byte or not
in_text : (i : ℕ) (m : Machine) (n class : ℕ) (bytes : List ℕ) (b : Bool) (x : Option ℕ) → m.heap.at n ≡ Some (record { class = class; body = Bytes bytes }) → nat_lt i (length bytes) ≡ b → slice_get bytes i ≡ x → IsWithin (text_by_steps i (Ref n) m) (peek (text_at (Byte i)) (Ref n) m)
unfolding pick done text_length byte_of_object
in_text i m n class bytes true (Some a) e f g =
    goes_within (row_of m n) _ _ (Some a) m (row_of m n ∷ row_of m n ∷ [])
    (first_step i m n _ e ∙ ap (λ b. after (only_row m n) (pick b (one_byte i (Ref n)) (done None) m)) f ∙ ap (λ (x : Outcome (Option ℕ)). after (only_row m n) x) (one_goes i m n _ a e g))
    (peek_goes (text_at (Byte i)) m n _ e ∙ ap (λ x. Go x m (only_row m n)) g)
    (refl, (refl, tt))
in_text i m n class bytes true None e f g =
    let no : ◌≡◌ {A = Option ℕ} None (Some (get_or bytes i 0)) = sym g ∙ slice_get-get_or bytes i 0 (ltb-true i (length bytes) f) in
    absurd (cc)
in_text i m n class bytes false x e f g =
    let past : slice_get bytes i ≡ None = slice_get_past bytes i (let high = ltb-false i (length bytes) f in omega arith) in
    goes_within (row_of m n) _ _ None m (only_row m n)
    (first_step i m n _ e ∙ ap (λ b. after (only_row m n) (pick b (one_byte i (Ref n)) (done None) m)) f)
    (peek_goes (text_at (Byte i)) m n _ e ∙ ap (λ x. Go x m (only_row m n)) past)
    (refl, tt)

pub text_within : (i : ℕ) (v : Value) (m : Machine) → IsWithin (text_by_steps i v m) (peek (text_at (Byte i)) v m)
unfolding peek done ◌>>=◌ text_length
text_within i (Int z) m = (refl, refl, record { needs = λ need h. h; makings = λ n h. h })
text_within i (Ref n) m = go (m.heap.at n) refl
  where
    body : (class : ℕ) (b : Body) → m.heap.at n ≡ Some (record { class = class; body = b }) → IsWithin (text_by_steps i (Ref n) m) (peek (text_at (Byte i)) (Ref n) m)
    body class (Pointers values) e = no_text i m n _ e refl refl
    body class (Words words) e = no_text i m n _ e refl refl
    body class (Bytes bytes) e = in_text i m n class bytes _ _ e refl refl
    body class (Method header literals code) e = no_text i m n _ e refl refl

    go : (x : Option Object) → m.heap.at n ≡ x → IsWithin (text_by_steps i (Ref n) m) (peek (text_at (Byte i)) (Ref n) m)
    go None e = halts_within (row_of m n) _ _ Shape (only_row m n) (ap (λ (x : Outcome (Option ℕ)). then_do x (text_next i (Ref n))) (peek_halts text_length m n e)) (peek_halts (text_at (Byte i)) m n e) (refl, tt)
    go (Some o) e = body o.class o.body e

-- ---- whether there is such a byte

pub within : (i len : ℕ) → i < len → nat_lt i len ≡ true
within i len low = grind (arith, nat_tests)

pub past : (i len : ℕ) → len ≤ i → nat_lt i len ≡ false
past i len high = grind (arith, nat_tests)

-- only bytes are text
pub no_field : (i : ℕ) (o : Option Object) → option_and_then (text_at (Field i)) o ≡ None
no_field i None = refl
no_field i (Some o) = refl

pub no_word : (i : ℕ) (o : Option Object) → option_and_then (text_at (Word i)) o ≡ None
no_word i None = refl
no_word i (Some o) = refl

-- ---- the byte of a character, by the number in its first field

by_same : (z : Option ℤ) → option_and_then (λ (z : ℤ). byte_by (Some z)) z ≡ byte_by z
by_same None = refl
by_same (Some z) = refl

pub by_number : {old new : Told} {cpu now : Cpu} (v : Value) (z : Option ℤ) (byte : Option ℕ) → byte ≡ byte_by z → IsReady new → Serves old cpu new now (peek (number 0 CHARACTER_VALUE_INDEX) v) (Ok z) → Serves old cpu new now (peek (λ o. byte_by (number 0 CHARACTER_VALUE_INDEX o)) v) (Ok byte)
by_number {old} {new} {cpu} {now} v z byte is ready s =
    subst (λ x. Serves old cpu new now (peek (λ o. byte_by (number 0 CHARACTER_VALUE_INDEX o)) v) (Ok x)) (by_same z ∙ sym is)
    (part_gives (number 0 CHARACTER_VALUE_INDEX) (λ o. byte_by (number 0 CHARACTER_VALUE_INDEX o)) (λ (z : ℤ). byte_by (Some z)) v z (λ o. by_same (number 0 CHARACTER_VALUE_INDEX o)) ready s)

pub by_number_stopped : {old new : Told} {cpu now : Cpu} {e : Stop} (v : Value) → Serves old cpu new now (peek (number 0 CHARACTER_VALUE_INDEX) v) (Err e) → Serves old cpu new now (peek (λ o. byte_by (number 0 CHARACTER_VALUE_INDEX o)) v) (Err e)
by_number_stopped v s = part_stops (number 0 CHARACTER_VALUE_INDEX) (λ o. byte_by (number 0 CHARACTER_VALUE_INDEX o)) (λ (z : ℤ). byte_by (Some z)) v (λ o. by_same (number 0 CHARACTER_VALUE_INDEX o)) s
