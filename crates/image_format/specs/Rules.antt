-- The rules of an image, each by its number, and the first that bytes break, with its place. The rules 1 to 9 and 13 are met as the bytes are read from the left; then 10, 11, 12 and 14 are judged, each over the whole image.
use Rattle.std.specs.Prelude.{◌≡◌, ◌⊎◌, ℕ, zero, suc, ◌^◌, ◌<◌, ◌&&◌, ◌||◌, ◌==◌, nat_lt, Bool, true, List, [], ◌∷◌, ◌++◌, min, Option, Some, None, is_some, option_map, Result, Ok, Err, length, if◌then◌else◌}
use Rattle.std.specs.List.{list_all, sum_by}
use Rattle.long_names.specs.Names.{is_known, known_names}
use Rattle.long_names.specs.Objects.{fields_of, holdings}
use Rattle.long_names.specs.Heap.{Heap, Has, object_count}
use Rattle.long_names.specs.declared.value.Value.{Value}
use Rattle.long_names.specs.declared.value.Value.TheVariants.{Int, Ref}
use Rattle.long_names.specs.declared.object.Object.{Object}
use Rattle.long_names.specs.declared.object.Rec.{Rec}
use Rattle.image_format.specs.declared.fault.Halt.{Halt}
use Rattle.image_format.specs.declared.fault.Break.{Break}
use Rattle.image_format.specs.declared.head.TheConstants.{VERSION}
use Rattle.image_format.specs.declared.opening.TheConstants.{STATE_VERSION}
use Rattle.image_format.specs.declared.opening.State.{State}
use Rattle.image_format.specs.declared.opening.ImageHead.{ImageHead}
use Rattle.image_format.specs.Reading.{◌>>=◌, broken, name_at, record_at}
use Rattle.image_format.specs.Heads.{no_state, version_head_text, head_at}
use Rattle.image_format.specs.Faults.{break_of}
use Rattle.image_format.specs.Text.{records_below}
use Rattle.image_format.specs.Valid.{IsImageHeap}

-- ---- reading an image

-- the next record, whose name is above the one before it and below the next name (rule 4)
unfoldable pub next_record_at : ℕ → ℕ → List ℕ → Result (Rec × List ℕ) Halt
next_record_at last next bytes = do
  name ← name_at 4 bytes
  if nat_lt last name.0 && nat_lt name.0 next then record_at bytes else broken 4 bytes

-- so many records, by rising name
unfoldable pub records_at : ℕ → ℕ → ℕ → List ℕ → Result (List Rec × List ℕ) Halt
records_at zero last next bytes = Ok ([], bytes)
records_at (suc n) last next bytes = do
  first ← next_record_at last next bytes
  others ← records_at n first.0.name next first.1
  Ok (first.0 ∷ others.0, others.1)

-- rule 9: nothing follows the last record
abbrev pub end_at : List ℕ → Result (Unit {0} × List ℕ) Halt
end_at [] = Ok (tt, [])
end_at (b ∷ rest) = broken 9 (b ∷ rest)

-- an image as it was read
pub record Image : Type 0 where
  pub head : ImageHead
  pub recs : List Rec

unfoldable pub image_at : List ℕ → Result (Image × List ℕ) Halt
image_at bytes = do
  head ← head_at bytes
  recs ← records_at head.0.opening.objects 0 head.0.opening.next head.1
  end ← end_at recs.1
  Ok (record { head = head.0; recs = recs.0 }, end.1)

-- ---- records

abbrev pub object_of_rec : Rec → Object
object_of_rec r = record { class = r.class; body = r.body }

-- the record of a name, and its object
abbrev pub rec_in : List Rec → ℕ → Option Rec
rec_in [] n = None
rec_in (r ∷ rs) n = if r.name == n then Some r else rec_in rs n

abbrev pub object_in : List Rec → ℕ → Option Object
object_in recs n = option_map object_of_rec (rec_in recs n)

-- how many class words and field words of the records are this name
abbrev pub words_in : List Rec → ℕ → ℕ
words_in recs n = sum_by (λ r. holdings (object_of_rec r) n) recs

-- ---- what is judged of the whole image

infixr 10 ◌or◌
abbrev pub ◌or◌ : {X : Type 0} → Option X → Option X → Option X
None or other = other
(Some x) or other = Some x

abbrev pub break : ℕ → ℕ → Break
break rule place = record { rule = rule; place = place }

-- a value is a number, or the name of an object
abbrev pub is_there : (ℕ → Option Object) → Value → Bool
is_there at (Int z) = true
is_there at (Ref n) = is_some (at n)

-- rule 10: the class and each field that is a name have their objects
abbrev pub has_all : (ℕ → Option Object) → Rec → Bool
has_all at r = is_some (at r.class) && list_all (is_there at) (fields_of r.body)

-- rule 11: the count is exact, and only a known object has the count 0
abbrev pub is_counted : (ℕ → ℕ) → Rec → Bool
is_counted counts r = r.count == counts r.name && (is_known r.name || nat_lt 0 r.count)

-- the first record that breaks a rule; names rise, so it is the one with the lowest name
abbrev pub first_failing : ℕ → (Rec → Bool) → List Rec → Option Break
first_failing rule test [] = None
first_failing rule test (r ∷ rs) = if test r then first_failing rule test rs else Some (break rule r.name)

-- rule 12: the known objects are there
abbrev pub first_missing : (ℕ → Option Object) → List ℕ → Option Break
first_missing at [] = None
first_missing at (n ∷ ns) = if is_some (at n) then first_missing at ns else Some (break 12 n)

-- rule 14: a name of the state is that of an object; the lowest that isn't
abbrev pub lost_name : (ℕ → Option Object) → ℕ → Option ℕ
lost_name at n = if n == 0 || is_some (at n) then None else Some n

abbrev pub lower : Option ℕ → Option ℕ → Option ℕ
lower None other = other
lower (Some a) None = Some a
lower (Some a) (Some b) = Some (min a b)

abbrev pub first_lost : (ℕ → Option Object) → State → Option Break
first_lost at s = option_map (break 14) (lower (lost_name at s.display) (lower (lost_name at s.input) (lost_name at s.timer)))

abbrev pub whole_break : Image → Option Break
whole_break x = first_failing 10 (has_all (object_in x.recs)) x.recs or (first_failing 11 (is_counted (words_in x.recs)) x.recs or (first_missing (object_in x.recs) known_names or first_lost (object_in x.recs) x.head.state))

-- ---- the first break

abbrev pub break_in : ℕ → Result (Image × List ℕ) Halt → Option Break
break_in len (Err h) = Some (break_of len h)
break_in len (Ok x) = whole_break x.0

-- The first rule that these bytes break, and its place: the offset of the field that breaks it, the length of the bytes where they end too soon, and from rule 10 on a name. None where they are an image.
unfoldable pub first_break : List ℕ → Option Break
first_break bytes = break_in (length bytes) (image_at bytes)

-- ---- the text of a heap, a version and a state

-- a word of the state is 0, or names an object
abbrev pub IsStateWord : Heap → ℕ → Type 0
IsStateWord h n = (n ≡ 0) ⊎ Has h n

pub record IsState (h : Heap) (s : State) : Type 0 where
  pub display : IsStateWord h s.display
  pub input : IsStateWord h s.input
  pub timer : IsStateWord h s.timer
  -- without a timer there is no tick
  pub tick : s.timer ≡ 0 → s.tick ≡ 0
  pub clock_fits : s.clock < 2 ^ 32
  pub tick_fits : s.tick < 2 ^ 32

-- the head of a heap's image of this version: version 1 has no state
pub record IsHeadOf (h : Heap) (head : ImageHead) : Type 0 where
  pub version : ((head.opening.version ≡ VERSION) × (head.state ≡ no_state)) ⊎ ((head.opening.version ≡ STATE_VERSION) × IsState h head.state)
  pub objects : head.opening.objects ≡ object_count h
  pub next : head.opening.next ≡ h.next

-- the image of a heap under a head: of version 1 `image_text`
abbrev pub text_under : ImageHead → Heap → List ℕ
text_under head h = version_head_text head ++ records_below h h.next

-- the text of a heap that an image may have, of either version
pub record IsValidImage (bytes : List ℕ) : Type 0 where
  pub heap : Heap
  pub head : ImageHead
  pub is : IsImageHeap heap
  pub of_heap : IsHeadOf heap head
  pub text : bytes ≡ text_under head heap
