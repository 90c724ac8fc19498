-- A worked guarded run: a method that sends snap to an array twice, and snap keeps the machine.
use Rattle.std.specs.Prelude.{ℕ, pos, negsuc, ◌==◌, if◌then◌else◌, [], ◌∷◌, Option, Some, None}
use Rattle.long_names.specs.declared.value.Value.TheVariants.{Int, Ref}
use Rattle.long_names.specs.declared.object.Body.TheVariants.{Bytes, Method}
use Rattle.long_names.specs.declared.object.Object.{Object}
use Rattle.long_names.specs.Names.{SCHEDULER_ASSOCIATION, ARRAY, STRING, COMPILED_METHOD, is_known}
use Rattle.long_names.specs.Heap.{Heap}
use Rattle.blue_model.specs.Machine.{Outcome, Go, Halt, Spent, at_rest}
use Rattle.blue_model.specs.Cycle.{ByCause, BySpentNames}
use Rattle.blue_model.specs.State.{no_state, begin}
use Rattle.blue_model.specs.Base.{nil, array, SCHEDULER, PROCESS, CODE, CONTEXT, context_at}
use Rattle.blue_model.specs.Guarded.{Guarded, Going, Broken, AtStart, guarded}

-- the class Array has one method: snap, of primitive 97
abbrev pub DICTIONARY : ℕ
DICTIONARY = 68

abbrev pub METHODS : ℕ
METHODS = 70

abbrev pub SNAP : ℕ
SNAP = 72

abbrev pub SNAPPING : ℕ
SNAPPING = 74

-- and is sent to this one
abbrev pub SUBJECT : ℕ
SUBJECT = 76

-- it pushes the subject, sends snap to it and pops it, twice
abbrev pub snapping_code : Option Object
snapping_code = Some (record { class = COMPILED_METHOD; body = Method (pos 2) (Ref SNAP ∷ Ref SUBJECT ∷ []) (33 ∷ 208 ∷ 135 ∷ 33 ∷ 208 ∷ 135 ∷ []) })

-- of a header with an extension, which names the primitive
abbrev pub snap_method : Option Object
snap_method = Some (record { class = COMPILED_METHOD; body = Method (negsuc 4093) (Int (pos 97) ∷ nil ∷ []) (120 ∷ []) })

abbrev pub snapping_heap : Heap
snapping_heap = record {
  at = λ n.
      if n == SCHEDULER_ASSOCIATION then array (nil ∷ Ref SCHEDULER ∷ []) else (
      if n == SCHEDULER then array (nil ∷ Ref PROCESS ∷ []) else (
      if n == PROCESS then array (nil ∷ Ref CONTEXT ∷ Int (pos 1) ∷ nil ∷ []) else (
      if n == CODE then snapping_code else (
      if n == CONTEXT then context_at 7 0 nil else (
      if n == ARRAY then array (nil ∷ Ref DICTIONARY ∷ Int (pos 0) ∷ []) else (
      if n == DICTIONARY then array (Int (pos 1) ∷ Ref METHODS ∷ Ref SNAP ∷ []) else (
      if n == METHODS then array (Ref SNAPPING ∷ []) else (
      if n == SNAP then Some (record { class = STRING; body = Bytes (115 ∷ 110 ∷ 97 ∷ 112 ∷ []) }) else (
      if n == SNAPPING then snap_method else (
      if n == SUBJECT then array [] else (
      if is_known n then array [] else None)))))))))));
  next = 78;
}

abbrev pub guarded_from : ℕ → Outcome (Unit {0}) → Guarded
guarded_from k (Go a m log) = guarded [] k 0 m
guarded_from k (Halt c log) = Broken AtStart (at_rest snapping_heap) 0 (ByCause c) log
guarded_from k (Spent log) = Broken AtStart (at_rest snapping_heap) 0 BySpentNames log

-- so many cycles of it, guarded from the start
abbrev pub snapped : ℕ → Guarded
snapped k = guarded_from k (begin no_state (at_rest snapping_heap))

-- what is seen of a guarded run: its serial, how many bytecodes were run, and the context
pub record Seen : Type 0 where
  pub serial : ℕ
  pub ran : ℕ
  pub context : Option Object

abbrev pub seen_in : Guarded → Option Seen
seen_in (Going end m serial rows) = Some (record { serial = serial; ran = m.cpu.ran; context = m.heap.at CONTEXT })
seen_in (Broken stage m serial why log) = None
