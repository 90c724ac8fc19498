-- Texts of images, and the records that a text has.
use Rattle.std.specs.Prelude.{◌≡◌, ◌<◌, ◌≤◌, ◌^◌, ℕ, true, List, ◌++◌, All, length, map}
use Rattle.std.specs.List.{AllPairs, flat_map}
use Rattle.long_names.specs.Heap.{Heap}
use Rattle.long_names.specs.Objects.{IsRecord}
use Rattle.long_names.specs.declared.object.Rec.{Rec}
use Rattle.image_format.specs.declared.head.TheConstants.{FEWEST_OBJECTS, MOST_OBJECTS}
use Rattle.image_format.specs.declared.opening.State.{State}
use Rattle.image_format.specs.Heads.{is_next}
use Rattle.image_format.specs.Rules.{IsState, object_of_rec}
use Rattle.image_format.specs.Valid.{IsImageHeap}
use Rattle.text_lines.specs.Breaks.{keeps_state}
use Rattle.text_lines.specs.Grammar.{Head}
use Rattle.text_lines.specs.Spelling.{head_parts, heap_text, line_of, object_parts}

-- ---- the text of an image

-- this is the text of a heap that an image may have, and of a state of it
pub record IsTextOf (text : List ℕ) (h : Heap) (s : State) : Type 0 where
  pub is : IsImageHeap h
  pub state : IsState h s
  pub text_is : text ≡ heap_text h s

pub record IsImageText (text : List ℕ) : Type 0 where
  pub heap : Heap
  pub state : State
  pub is : IsTextOf text heap state

-- ---- what a text has that no line breaks

-- the text of a head and of records; their counts aren't written
unfoldable pub recs_text : Head → List Rec → List ℕ
recs_text head recs = line_of (head_parts head.next head.state) ++ flat_map (λ (r : Rec). line_of (object_parts r.name (object_of_rec r))) recs

-- a head and records that keep the rules which are judged line by line; nothing is counted
pub record AreStated (head : Head) (recs : List Rec) : Type 0 where
  pub next : is_next head.next ≡ true
  pub next_fits : head.next < 2 ^ 32
  pub clock : head.state.clock < 2 ^ 32
  pub display : head.state.display < 2 ^ 32
  pub input : head.state.input < 2 ^ 32
  pub timer : head.state.timer < 2 ^ 32
  pub tick : head.state.tick < 2 ^ 32
  pub state : keeps_state head ≡ true
  pub enough : FEWEST_OBJECTS ≤ length recs
  pub few : length recs ≤ MOST_OBJECTS
  pub records : All IsRecord recs
  pub uncounted : All (λ (r : Rec). r.count ≡ 0) recs
  pub below : All (λ (r : Rec). r.name < head.next) recs
  pub rising : AllPairs (λ (x y : ℕ). x < y) (map (λ (r : Rec). r.name) recs)
