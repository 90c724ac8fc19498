-- The base image, run for two bytecodes. Its machine is computed once (`computed`), as far as its heap, state, transcript and picture tell; all else follows from
-- that. So the promise and its conditions are met, and the headline gives the bytes that are saved.
use Rattle.std.proofs.Common.{zero, suc, ◌≡◌, ℕ, pos, ◌<◌, ◌≤◌, ◌++◌, ◌&&◌, Bool, true, false, cond, eqb, ltb, leb, List, [], ◌∷◌, length, Option, Some, None, Ok, is_some, inl, inr, refl, sym, ◌∙◌, ap, subst, arith}
use Rattle.std.specs.Prelude.{◌⊎◌, ◌^◌, All, IfSome, IsFalse, codes, slice_get}
use Rattle.std.specs.List.{list_all}
use Rattle.std.proofs.lemmas.Bool.{and_parts, cases_lt, eqb-true, false≢true, le-ltb, leb-true, ltb-true}
use Rattle.std.proofs.lemmas.List.Elements.{All-cons, All-nil}
use Rattle.long_names.specs.declared.value.Value.TheVariants.{Int, Ref}
use Rattle.long_names.specs.declared.object.Body.TheVariants.{Pointers, Method}
use Rattle.long_names.specs.declared.object.Object.{Object}
use Rattle.long_names.specs.declared.object.Rec.{Rec}
use Rattle.long_names.specs.Heap.{Heap, IsBounded, object_count, count_of}
use Rattle.long_names.specs.Kept.{kept, no_roots}
use Rattle.long_names.specs.Need.{Fits, words_of_row, entries_of_row}
use Rattle.long_names.specs.Record.{eight_bytes, four_bytes, record_text, two_bytes}
use Rattle.long_names.specs.Thin.{IsWhole as IsWholeHeap}
use Rattle.long_names.proofs.FreeLaws.{kept-counted}
use Rattle.long_names.proofs.KeptLaws.{heap-same}
use Rattle.long_names.proofs.ThinLemmas.{IsThinning-refl, IsWhole-bounded}
use Rattle.image_format.specs.declared.opening.ImageHead.{ImageHead}
use Rattle.image_format.specs.declared.opening.TheConstants.{STATE_VERSION}
use Rattle.image_format.specs.Heads.{checked_at, head_at, no_state as no_words, opening_at, state_at}
use Rattle.image_format.specs.Reading.{body_at, header_at, kind_at, many_at, method_at, name_at, number_at, octets_at, record_at, size_at, value_at, zeros_at}
use Rattle.image_format.specs.Rules.{Image as Read, image_at, next_record_at, object_in, records_at, text_under, whole_break}
use Rattle.image_format.specs.Valid.{IsImageHeap}
use Rattle.image_format.proofs.ImageLaws.{IsImageRead, bytes_of_all, heap_is, image_takes, same_image, unbroken}
use Rattle.long_names.specs.Counting.{Rose}
use Rattle.loom_host.specs.Outside.{at_start}
use Rattle.loom_host.specs.declared.outside.Role.{Role}
use Rattle.loom_host.specs.declared.outside.Role.TheVariants.{Image, Events, Work, Saved, Display, Transcript, Notes}
use Rattle.blue_model.specs.declared.event.Line.{Line}
use Rattle.blue_model.specs.declared.step.Step.{Step}
use Rattle.blue_model.specs.declared.step.Step.TheVariants.{Next, Quit, Keep}
use Rattle.blue_model.specs.Machine.{LogRow, Machine, Outcome, Go, Halt, Spent, at_rest, ◌>>=◌, store, part, look, known, given, pick, register, put_register, numbers, set_numbers, clear, pin, unpin_all, done, halt}
use Rattle.blue_model.specs.Parts.{field, number, size, home_of, code_of}
use Rattle.blue_model.specs.Contexts.{start, need_method, put_context, load_home, load, fetch, park, store_registers, store_field, scheduler, active_process, park_new, jump, push, pop, byte_of}
use Rattle.blue_model.specs.Bytecodes.{bytecode, bytecodes, push_receiver, push_of, push_number, long_jump, receiver_variable}
use Rattle.blue_model.specs.Primitives.{then_next}
use Rattle.blue_model.specs.Processes.{check_switch}
use Rattle.blue_model.specs.Devices.{due, events_due, check_timer, picture, display_form}
use Rattle.blue_model.specs.State.{State, begin, no_state, restore, state_in, state_of}
use Rattle.blue_model.specs.Cycle.{Ending, Parked, Stuck, Run, Ran, Stopped, ending, run, cycle, turn, step, count_bytecode, park_and_draw}
use Rattle.blue_model.specs.Endings.{IsParkedBy, OnDrawn, OnParked, said_in}
use Rattle.blue_model.specs.Law.{EndingsAgree}
use Rattle.blue_model.specs.Logs.{course, lives, lives_by, lives_from, lives_in_bytecode, rows_after, rows_from, rows_of_bytecode}
use Rattle.blue_model.proofs.RunLaws.{endings-agree}
use Rattle.contexts.specs.Serves.{IsLogged}
use Rattle.object_memory.specs.declared.fault.Need.{Need}
use Rattle.event_file.specs.Text.{IsLine}
use Rattle.event_file.proofs.OneReading.{one-list}
use Rattle.machine_run.specs.States.{model_state}
use Rattle.machine_run.proofs.RunLaws.{nameless}
use Rattle.loom_run.specs.Base.{base_bytes, base_saved}
use Rattle.loom_run.specs.Completes.{CanEnd, HasRoom}
use Rattle.loom_run.specs.Converts.{ConvertsAt, verb_for}
use Rattle.loom_run.specs.Ends.{AreEvents, AttachedOnce, IsImageOf, MadeBy, WrittenBy, bytes_of, head_of, image_of, word_for, words_of}
use Rattle.loom_run.specs.Headline.{HasHeadline, HeadlineBy}
use Rattle.loom_run.specs.Meanings.{IsLeft, Meanings}
use Rattle.loom_run.specs.Parts.{IsFinished}
use Rattle.loom_run.specs.Promise.{EndsAt, Promise}
use Rattle.loom_run.specs.Stages.{Stage, Reading, Listening, Running, Telling, reaches, stage_of}
use Rattle.loom_run.specs.Worked.{HasBaseFiles, attached_by, base_after, base_before, base_roles, base_words}
use Rattle.loom_run.specs.declared.converting.Way.{Way}
use Rattle.loom_run.specs.declared.converting.Way.TheVariants.{Listing, Assembling}
use Rattle.loom_run.proofs.SavedLaws.{saved-image}
use Rattle.loom_words.specs.Words.{Row, ToAssemble, ToList, ToMake, ToRun, ToTrace, Verb, bad_word, paths_of, row_of}
use Rattle.loom_words.specs.declared.status.Status.{Status}
use Rattle.loom_words.specs.declared.status.Status.TheVariants as answer

-- ---- the base image

abbrev empty : ℕ → ℕ → Rec
empty name count = record { name = name; class = 16; count = count; body = Pointers [] }

-- its records, with this instruction pointer of the context
abbrev base_recs : ℕ → List Rec
base_recs ip =
    empty 2 19 ∷ empty 4 0 ∷ empty 6 0 ∷ (record { name = 8; class = 16; count = 0; body = Pointers (Ref 2 ∷ Ref 60 ∷ []) })
    ∷ empty 12 0 ∷ empty 14 0 ∷ empty 16 24 ∷ empty 22 1 ∷ empty 24 0 ∷ empty 26 0 ∷ empty 28 0 ∷ empty 30 0 ∷ empty 32 0 ∷ empty 34 1
    ∷ empty 38 0 ∷ empty 40 0 ∷ empty 42 0 ∷ empty 44 0 ∷ empty 48 0 ∷ empty 50 0 ∷ empty 52 0 ∷ empty 58 0
    ∷ (record { name = 60; class = 16; count = 1; body = Pointers (Ref 2 ∷ Ref 62 ∷ []) })
    ∷ (record { name = 62; class = 16; count = 1; body = Pointers (Ref 2 ∷ Ref 66 ∷ Int (pos 1) ∷ Ref 2 ∷ []) })
    ∷ (record { name = 64; class = 34; count = 1; body = Method (pos 0) [] (112 ∷ 135 ∷ 163 ∷ 252 ∷ []) })
    ∷ (record { name = 66; class = 22; count = 1; body = Pointers (Ref 2 ∷ Int (pos ip) ∷ Int (pos 0) ∷ Ref 64 ∷ Ref 2 ∷ Ref 2 ∷ Ref 2 ∷ Ref 2 ∷ Ref 2 ∷ Ref 2 ∷ Ref 2 ∷ Ref 2 ∷ Ref 2 ∷ Ref 2 ∷ Ref 2 ∷ Ref 2 ∷ Ref 2 ∷ Ref 2 ∷ []) })
    ∷ []

abbrev pub base_head : ImageHead
base_head = record { opening = record { version = 1; objects = 26; next = 68 }; state = no_words }

abbrev base_read : ℕ → Read
base_read ip = record { head = base_head; recs = base_recs ip }

abbrev pub base_heap : ℕ → Heap
base_heap ip = record { at = object_in (base_recs ip); next = 68 }

all-bytes : (bytes : List ℕ) → list_all (λ b. ltb b (2 ^ 8)) bytes ≡ true → All (λ b. b < 2 ^ 8) bytes
all-bytes [] e = All-nil (λ b. b < 2 ^ 8)
all-bytes (b ∷ bytes) e =
    let parts = and_parts (ltb b (2 ^ 8)) (list_all (λ b. ltb b (2 ^ 8)) bytes) e in
    All-cons (λ b. b < 2 ^ 8) b bytes (ltb-true b (2 ^ 8) parts.0) (all-bytes bytes parts.1)

-- what is read of its bytes is its heap
module _ (ip : ℕ) (bytes : List ℕ) (fits : list_all (λ b. ltb b (2 ^ 8)) bytes ≡ true) (read : image_at bytes ≡ Ok (base_read ip, [])) (whole : whole_break (base_read ip) ≡ None) where
  taken : IsImageRead bytes (base_read ip)
  taken = image_takes bytes (base_read ip, []) (bytes_of_all bytes (all-bytes bytes fits)) read

  read-heap : IsImageHeap (base_heap ip)
  read-heap = heap_is (base_read ip) taken.head taken.count taken.order (unbroken (base_read ip) whole)

  read-image : object_count (base_heap ip) ≡ 26 → bytes ≡ text_under base_head (base_heap ip) → IsImageOf bytes base_head (base_heap ip)
  read-image count text = record { is = read-heap; of_heap = record { version = inl (refl, refl); objects = sym count; next = refl }; text = text }

begun-at : image_at (base_bytes 7) ≡ Ok (base_read 3, [])
unfolding image_at head_at opening_at state_at checked_at records_at next_record_at record_at name_at number_at octets_at kind_at size_at body_at method_at header_at value_at many_at zeros_at
begun-at = refl

ended-at : image_at (base_bytes 11) ≡ Ok (base_read 5, [])
unfolding image_at head_at opening_at state_at checked_at records_at next_record_at record_at name_at number_at octets_at kind_at size_at body_at method_at header_at value_at many_at zeros_at
ended-at = refl

base-count : object_count (base_heap 3) ≡ 26
unfolding object_count
base-count = refl

base-text : base_bytes 7 ≡ text_under base_head (base_heap 3)
unfolding record_text two_bytes four_bytes eight_bytes count_of
base-text = refl

pub base-image : IsImageOf (base_bytes 7) base_head (base_heap 3)
base-image = read-image 3 (base_bytes 7) refl begun-at refl base-count base-text

ended-heap : IsImageHeap (base_heap 5)
ended-heap = read-heap 5 (base_bytes 11) refl ended-at refl

-- ---- the run

abbrev base_ending : Ending
base_ending = ending [] 2 (model_state no_words) (base_heap 3)

abbrev objects_in : ℕ → Heap → List (Option Object)
objects_in zero h = []
objects_in (suc n) h = h.at n ∷ objects_in n h

-- what is told of a machine that was parked: how it ended, what it counted and made, its objects, what it said and drew, and its state
record Summary : Type 0 where
  end : Step
  ran : ℕ
  largest : ℕ
  objects : List (Option Object)
  next : ℕ
  said : List ℕ
  drawn : List ℕ
  state : State

abbrev summary_of : Step → Machine → List ℕ → Summary
summary_of end m picture = record { end = end; ran = m.cpu.ran; largest = m.largest; objects = objects_in 68 m.heap; next = m.heap.next; said = m.transcript; drawn = picture; state = state_in m.heap m }

abbrev summary : Ending → Option Summary
summary (Parked end m picture) = Some (summary_of end m picture)
summary (Stuck why ran said) = None

abbrev state_then : State
state_then = record no_state { clock = 2 }

abbrev then : Summary
then = record { end = Next; ran = 2; largest = 0; objects = objects_in 68 (base_heap 5); next = 68; said = []; drawn = []; state = state_then }

computed : summary base_ending ≡ Some then
unfolding ending begin restore ◌>>=◌ run cycle turn step count_bytecode start need_method put_context load_home load fetch park store_registers store_field scheduler active_process park_new check_switch due events_due check_timer park_and_draw picture display_form then_next bytecode bytecodes push_receiver push_of push_number long_jump jump push pop store part look known given pick register put_register numbers set_numbers clear pin unpin_all done halt field number size home_of code_of byte_of receiver_variable
computed = refl

base-whole : IsWholeHeap (base_heap 3) (λ r. Int (pos 0)) (λ i. None)
base-whole = record {
  known = base-image.is.known;
  below = λ n has. elim (cases_lt n 68) [
    | inl low ↦ low
    | inr high ↦ absurd (false≢true (ap is_some (sym (base-image.is.bounded.bounded n high)) ∙ has))
  ];
  closed = λ n o k e holds. base-image.is.closed n k o e holds;
  rooted = λ r n e. (let wrong : Int (pos 0) ≡ Ref n = e in absurd (cc));
  pinned = λ i n e. (let wrong : ◌≡◌ {A = Option ℕ} None (Some n) = e in absurd (cc));
}

agrees : EndingsAgree base_ending base_ending
agrees = endings-agree [] 2 (model_state no_words) (base_heap 3) (base_heap 3)
    (record { thinning = IsThinning-refl (base_heap 3) (λ r. Int (pos 0)) (λ i. None) base-whole; bounded = IsWhole-bounded (base_heap 3) (λ r. Int (pos 0)) (λ i. None) base-whole; regs = refl; slots = refl; transcript = refl; cpu = refl; largest = refl })
    (nameless (base_heap 3))

-- two heaps that have the same objects below a name
same-below : (k : ℕ) (g h : Heap) → objects_in k g ≡ objects_in k h → (n : ℕ) → n < k → g.at n ≡ h.at n
same-below zero g h e n low = absurd (omega (arith, low))
same-below (suc k) g h e n low =
    let first : g.at k ≡ h.at k = cc in
    let rest : objects_in k g ≡ objects_in k h = cc in
    elim (cases_lt n k) [
      | inl below ↦ same-below k g h rest n below
      | inr past ↦ let same : k ≡ n = omega (arith, past, low) in subst (λ i. g.at i ≡ h.at i) same first
    ]

same-heap : (g h : Heap) → IsBounded g → IsBounded h → g.next ≡ 68 → h.next ≡ 68 → objects_in 68 g ≡ objects_in 68 h → g ≡ h
same-heap g h below above first second e = ap (λ n. let x : Heap = record { at = g.at; next = n } in x) (first ∙ sym second) ∙ heap-same g.at h same
  where
    same : (n : ℕ) → g.at n ≡ h.at n
    same n = elim (cases_lt n 68) [
      | inl low ↦ same-below 68 g h e n low
      | inr high ↦ below.bounded n (omega (arith, first, high)) ∙ sym (above.bounded n (omega (arith, second, high)))
    ]

-- the machine that it ends with
pub record IsBaseEnd (end : Step) (m : Machine) (picture : List ℕ) : Type 0 where
  pub end_is : end ≡ Next
  pub ran : m.cpu.ran ≡ 2
  pub small : m.largest ≡ 0
  pub heap : m.heap ≡ base_heap 5
  pub said : m.transcript ≡ []
  pub drawn : picture ≡ []
  pub state : state_in m.heap m ≡ state_then

abbrev of_some : Option Summary → Summary
of_some (Some s) = s
of_some None = then

end-is : (end : Step) (m : Machine) (picture : List ℕ) → base_ending ≡ Parked end m picture → IsBaseEnd end m picture
end-is end m picture e =
    let told : summary_of end m picture ≡ then = ap of_some (sym (ap summary e) ∙ computed) in
    let agree : EndingsAgree (Parked end m picture) (Parked end m picture) = subst (λ (x : Ending). EndingsAgree x x) e agrees in
    record {
      end_is = ap (λ (s : Summary). s.end) told;
      ran = ap (λ (s : Summary). s.ran) told;
      small = ap (λ (s : Summary). s.largest) told;
      heap = same-heap m.heap (base_heap 5) agree.2.bounded ended-heap.bounded (ap (λ (s : Summary). s.next) told) refl (ap (λ (s : Summary). s.objects) told);
      said = ap (λ (s : Summary). s.said) told;
      drawn = ap (λ (s : Summary). s.drawn) told;
      state = ap (λ (s : Summary). s.state) told;
    }

-- so it is with whatever ends so
on-end : (P : Ending → Type 0) → ((end : Step) (m : Machine) (picture : List ℕ) → IsBaseEnd end m picture → P (Parked end m picture)) → P base_ending
on-end P gives = go base_ending refl
  where
    go : (e : Ending) → base_ending ≡ e → P e
    go (Parked end m picture) same = gives end m picture (end-is end m picture same)
    go (Stuck why ran said) same = absurd (let no : ◌≡◌ {A = Option Summary} None (Some then) = sym (ap summary same) ∙ computed in cc)

-- ---- what it saves

abbrev image_with : Heap → State → List ℕ
image_with h s = text_under (record { opening = record { version = STATE_VERSION; objects = object_count h; next = h.next }; state = words_of s }) h

saved-text : image_with (base_heap 5) state_then ≡ base_saved
unfolding record_text two_bytes four_bytes eight_bytes object_count count_of
saved-text = refl

module _ (end : Step) (m : Machine) (picture : List ℕ) (is : IsBaseEnd end m picture) where
  heap-so : IsImageHeap m.heap
  heap-so = subst IsImageHeap (sym is.heap) ended-heap

  -- each of its objects is known or counted
  all-kept : kept m.heap no_roots ≡ m.heap
  all-kept = kept-counted m.heap (λ n there none unknown. false≢true (sym unknown ∙ heap-so.counted n there none))

  state-kept : state_of m ≡ state_then
  state-kept = ap (λ (h : Heap). state_in h m) all-kept ∙ is.state

  pub saves-base : image_of m ≡ base_saved
  saves-base = ap (λ (h : Heap). image_with h (state_in h m)) all-kept ∙ ap (image_with m.heap) is.state ∙ ap (λ (h : Heap). image_with h state_then) is.heap ∙ saved-text

  pub image-saved : IsImageOf (image_of m) (head_of m) (kept m.heap no_roots)
  image-saved = saved-image m (subst IsImageHeap (sym all-kept) heap-so) (let tick = ap (λ (s : State). s.tick) state-kept in omega (arith, tick))

-- ---- there is room for it

abbrev fits : LogRow → Bool
fits row = leb row.words 4096 && leb row.entries 512

logged-fits : (need : Need) (rows : List LogRow) → list_all fits rows ≡ true → IsLogged need rows → Fits 4096 512 need.words need.entries
logged-fits need [] all logged = absurd logged
logged-fits need (row ∷ rows) all (inl here) =
    let parts = and_parts (leb row.words 4096) (leb row.entries 512) (and_parts (fits row) (list_all fits rows) all).0 in
    let words = leb-true row.words 4096 parts.0 in
    let entries = leb-true row.entries 512 parts.1 in
    let needed = here.words in
    let taken = here.entries in
    record { words = omega (arith, words, needed); leaves = omega (arith, entries, taken) }
logged-fits need (row ∷ rows) all (inr later) = logged-fits need rows (and_parts (fits row) (list_all fits rows) all).1 later

abbrev rows-at : ℕ → List LogRow
rows-at k = rows_of_bytecode [] 2 (model_state no_words) (base_heap 3) k

first-fits : list_all fits (rows-at 0) ≡ true
unfolding rows_of_bytecode words_of_row entries_of_row begin restore ◌>>=◌ run cycle turn step count_bytecode start need_method put_context load_home load fetch park store_registers store_field scheduler active_process park_new check_switch due events_due check_timer park_and_draw picture display_form then_next bytecode bytecodes push_receiver push_of push_number long_jump jump push pop store part look known given pick register put_register numbers set_numbers clear pin unpin_all done halt field number size home_of code_of byte_of receiver_variable
first-fits = refl

second-fits : list_all fits (rows-at 1) ≡ true
unfolding rows_of_bytecode words_of_row entries_of_row begin restore ◌>>=◌ run cycle turn step count_bytecode start need_method put_context load_home load fetch park store_registers store_field scheduler active_process park_new check_switch due events_due check_timer park_and_draw picture display_form then_next bytecode bytecodes push_receiver push_of push_number long_jump jump push pop store part look known given pick register put_register numbers set_numbers clear pin unpin_all done halt field number size home_of code_of byte_of receiver_variable
second-fits = refl

parked-fits : list_all fits (rows-at 2) ≡ true
unfolding rows_of_bytecode words_of_row entries_of_row begin restore ◌>>=◌ run cycle turn step count_bytecode start need_method put_context load_home load fetch park store_registers store_field scheduler active_process park_new check_switch due events_due check_timer park_and_draw picture display_form then_next bytecode bytecodes push_receiver push_of push_number long_jump jump push pop store part look known given pick register put_register numbers set_numbers clear pin unpin_all done halt field number size home_of code_of byte_of receiver_variable
parked-fits = refl

-- no row comes behind the last bytecode, and nothing is made there
is-false : (b : Bool) → (b ≡ true → ⊥) → b ≡ false
is-false true never = absurd (never refl)
is-false false never = refl

late-run : (k : ℕ) (r : Run) → 2 < k → rows_after [] 2 k r ≡ []
late-run k (Ran Next m) high =
    let past : ltb k 2 ≡ false = le-ltb k 2 (omega (arith, high)) in
    let other : eqb k 2 ≡ false = is-false (eqb k 2) (λ e. let same = eqb-true k 2 e in omega (arith, same, high)) in
    rw (past, other) refl
late-run k (Ran Quit m) high = let past : leb k 2 ≡ false = is-false (leb k 2) (λ e. let low = leb-true k 2 e in omega (arith, low, high)) in rw past refl
late-run k (Ran Keep m) high = let past : leb k 2 ≡ false = is-false (leb k 2) (λ e. let low = leb-true k 2 e in omega (arith, low, high)) in rw past refl
late-run k (Stopped m why log) high = refl

late-rows : (k : ℕ) (o : Outcome (Unit {0})) → 2 < k → rows_from [] 2 k o ≡ []
late-rows k (Go a m log) high =
    let some : eqb k 0 ≡ false = is-false (eqb k 0) (λ e. let same = eqb-true k 0 e in omega (arith, same, high)) in
    ap (λ b. cond b log [] ++ rows_after [] 2 k (run [] k m)) some ∙ late-run k (run [] k m) high
late-rows k (Halt c log) high = let some : eqb k 0 ≡ false = is-false (eqb k 0) (λ e. let same = eqb-true k 0 e in omega (arith, same, high)) in rw some refl
late-rows k (Spent log) high = let some : eqb k 0 ≡ false = is-false (eqb k 0) (λ e. let same = eqb-true k 0 e in omega (arith, same, high)) in rw some refl

rows-fit : (k : ℕ) → list_all fits (rows-at k) ≡ true
unfolding rows_of_bytecode
rows-fit zero = first-fits
rows-fit (suc zero) = second-fits
rows-fit (suc (suc zero)) = parked-fits
rows-fit (suc (suc (suc k))) = ap (list_all fits) (late-rows (suc (suc (suc k))) (begin (model_state no_words) (at_rest (base_heap 3))) (omega arith))

abbrev lives-at : ℕ → List ℕ
lives-at k = lives_in_bytecode [] 2 (model_state no_words) (base_heap 3) k

first-makes : lives-at 0 ≡ []
unfolding lives_in_bytecode lives begin restore ◌>>=◌ run cycle turn step count_bytecode start need_method put_context load_home load fetch store_field scheduler active_process park_new check_switch due events_due check_timer then_next bytecode bytecodes push_receiver push_of push_number long_jump jump push pop store part look known given pick register put_register numbers set_numbers clear pin unpin_all done halt field number size home_of code_of byte_of receiver_variable
first-makes = refl

second-makes : lives-at 1 ≡ []
unfolding lives_in_bytecode lives begin restore ◌>>=◌ run cycle turn step count_bytecode start need_method put_context load_home load fetch store_field scheduler active_process park_new check_switch due events_due check_timer then_next bytecode bytecodes push_receiver push_of push_number long_jump jump push pop store part look known given pick register put_register numbers set_numbers clear pin unpin_all done halt field number size home_of code_of byte_of receiver_variable
second-makes = refl

late-made : (k : ℕ) (r : Run) → 1 < k → lives_by [] 2 k r ≡ []
late-made k (Ran Next m) high = let past : ltb k 2 ≡ false = le-ltb k 2 (omega (arith, high)) in rw past refl
late-made k (Ran Quit m) high = refl
late-made k (Ran Keep m) high = refl
late-made k (Stopped m why log) high = refl

late-makes : (k : ℕ) (o : Outcome (Unit {0})) → 1 < k → lives_from [] 2 k o ≡ []
late-makes k (Go a m log) high = late-made k (run [] k m) high
late-makes k (Halt c log) high = refl
late-makes k (Spent log) high = refl

makes-none : (k : ℕ) → lives-at k ≡ []
unfolding lives_in_bytecode
makes-none zero = first-makes
makes-none (suc zero) = second-makes
makes-none (suc (suc k)) = late-makes (suc (suc k)) (begin (model_state no_words) (at_rest (base_heap 3))) (omega arith)

no-live : {P : Type 0} (live i : ℕ) → slice_get [] i ≡ Some live → P
no-live live zero e = let no : ◌≡◌ {A = Option ℕ} None (Some live) = e in absurd (cc)
no-live live (suc i) e = let no : ◌≡◌ {A = Option ℕ} None (Some live) = e in absurd (cc)

abbrev base_row : Row
base_row = row_of base_words

base-room : HasRoom base_row (course [] 2 (model_state no_words) (base_heap 3))
base-room = record {
  rows = λ k need logged. logged-fits need (rows-at k) (rows-fit k) logged;
  lives = λ k live at. no-live live at.0 (subst (λ makings. slice_get makings at.0 ≡ Some live) (makes-none k) at.1);
}

-- ---- a run may come to its end

pub no-events : AreEvents [] []
no-events = (record { lines_are = All-nil IsLine; rising = tt; few = omega arith }, refl)

one-base : (head : ImageHead) (heap : Heap) → IsImageOf (base_bytes 7) head heap → (heap ≡ base_heap 3) × (head ≡ base_head)
one-base head heap is = same_image heap (base_heap 3) head base_head is.is base-image.is is.of_heap base-image.of_heap (sym is.text ∙ base-image.text)

no-lines : (lines : List Line) → AreEvents [] lines → lines ≡ []
no-lines lines are = one-list lines [] are.0.lines_are no-events.0.lines_are (sym are.1 ∙ no-events.1)

pub room-of : (head : ImageHead) (heap : Heap) (lines : List Line) → IsImageOf (base_bytes 7) head heap → AreEvents [] lines → HasRoom base_row (course lines 2 (model_state head.state) heap)
room-of head heap lines is are =
    let same = one-base head heap is in
    subst (λ (l : List Line). HasRoom base_row (course l 2 (model_state head.state) heap)) (sym (no-lines lines are))
    (subst (λ (x : ImageHead). HasRoom base_row (course [] 2 (model_state x.state) heap)) (sym same.1)
    (subst (λ (h : Heap). HasRoom base_row (course [] 2 (model_state no_words) h)) (sym same.0) base-room))

none-rose : Rose 0 0 → ⊥
none-rose rose = omega (arith, rose)

pub base-can-end : CanEnd (base_bytes 7) [] base_row base_before.faults base_after.faults
base-can-end = record {
  right_image = record { head = base_head; heap = base_heap 3; image = base-image; roomy = omega arith };
  right_events = ([], no-events);
  roomy = room-of;
  still = λ role. none-rose;
}

-- ---- what the headline gives

-- of an ending over this image and no events
base-ends : (head : ImageHead) (heap : Heap) (lines : List Line) (e : Ending) → IsImageOf (base_bytes 7) head heap → AreEvents [] lines → ending lines 2 (model_state head.state) heap ≡ e → base_ending ≡ e
base-ends head heap lines e is are same =
    let one = one-base head heap is in
    ap (λ (h : Heap). ending [] 2 (model_state no_words) h) (sym one.0)
    ∙ ap (λ (x : ImageHead). ending [] 2 (model_state x.state) heap) (sym one.1)
    ∙ ap (λ (l : List Line). ending l 2 (model_state head.state) heap) (sym (no-lines lines are)) ∙ same

module _ (before now : Meanings) (row : Row) (steps : row.steps ≡ 2) (image : bytes_of (now.roles Image) ≡ base_bytes 7) (events : bytes_of (now.roles Events) ≡ []) where
  base-files : (end : Step) (ran : ℕ) → HasHeadline before now row end ran → (end ≡ Next) × (ran ≡ 2) × HasBaseFiles before now
  base-files end ran has =
      let head = has.0 in
      let heap = has.1 in
      let lines = has.2 in
      let machine = has.3 in
      let picture = has.4 in
      let h = has.5 in
      let is = end-is end machine picture (base-ends head heap lines (Parked end machine picture) (subst (λ (bytes : List ℕ). IsImageOf bytes head heap) image h.image) (subst (λ (bytes : List ℕ). AreEvents bytes lines) events h.events)
      (ap (λ n. ending lines n (model_state head.state) heap) (sym steps) ∙ h.ending)) in
      let saved = saves-base end machine picture is in (
        is.end_is,
        sym h.count ∙ is.ran,
        record {
          saved = record { put = h.saved.put ∙ saved; ended = h.saved.ended ∙ ap (λ (bytes : List ℕ). Some (length bytes)) saved };
          size = refl;
          transcript = h.transcript ∙ ap (λ (said : List ℕ). (before.roles Transcript).put ++ said) is.said;
          display = h.display ∙ is.drawn;
        },
      )

  pub base-headline : (result : Status) → IsFinished result → HeadlineBy result before now row → (result ≡ answer.Done 2) × HasBaseFiles before now
  base-headline (answer.Done ran) done h = let f = base-files Next ran h in (ap answer.Done f.1, f.2)
  base-headline (answer.Quit ran) done h = let f = base-files Quit ran h in absurd (let no : ◌≡◌ {A = Step} Quit Next = f.0 in cc)
  base-headline _ done h = absurd done

-- ---- the promise is met

base-run : OnParked base_ending (λ m. m.largest ≤ 4096)
base-run = on-end (λ e. OnParked e (λ m. m.largest ≤ 4096)) (λ end m picture is. (let small = is.small in omega (arith, small)))

abbrev tells-all : Role → Bool
tells-all role = true

attached-each : (role : Role) → IfSome (word_for base_row role) (λ text. AttachedOnce text at_start (base_roles role))
attached-each Image = record { attaches = refl; name = refl }
attached-each Events = record { attaches = refl; name = refl }
attached-each Work = record { attaches = refl; name = refl }
attached-each Saved = record { attaches = refl; name = refl }
attached-each Display = record { attaches = refl; name = refl }
attached-each Transcript = tt
attached-each Notes = tt

reached : (role : Role) → IsFalse (reaches (stage_of role) Telling) → (role ≡ Notes) ⊎ IsLeft role base_before base_after
reached Image none = absurd (false≢true (sym none))
reached Events none = absurd (false≢true (sym none))
reached Work none = absurd (false≢true (sym none))
reached Saved none = absurd (false≢true (sym none))
reached Display none = absurd (false≢true (sym none))
reached Transcript none = absurd (false≢true (sym none))
reached Notes none = inl refl

base-at : EndsAt tells-all base_before base_after base_row Telling (answer.Done 2)
base-at = record {
  answer = tt;
  answered = record { ran = refl; cause = tt; whole = λ work damaged. damaged; limits = tt };
  attached = λ role told here. attached-each role;
  unused = reached;
  reads = record {
    judges_image = λ told at. absurd (let no : ◌≡◌ {A = Stage} Telling Reading = at in cc);
    right_image = λ told work past. base-can-end.right_image;
    judges_events = λ told at. absurd (let no : ◌≡◌ {A = Stage} Telling Listening = at in cc);
    right_events = λ told past. ([], no-events);
    whole_image = λ told past. record { end = refl; name = refl };
    whole_events = λ told past. record { end = refl; name = refl };
    named_work = λ told past. refl;
  };
  run = λ image events work came. record {
    head = base_head;
    heap = base_heap 3;
    is = base-image;
    lines = [];
    list = no-events;
    run = record {
      stops = λ at. absurd (let no : ◌≡◌ {A = Stage} Telling Running = at in cc);
      goes = λ past. on-end (IsParkedBy Next 2) (λ end m picture is. (is.end_is, is.ran));
      fits = λ past. base-run;
      says = λ told at. absurd (let no : ◌≡◌ {A = Stage} Telling Running = at in cc);
      said = λ told past. on-end (λ e. [] ≡ [] ++ said_in e) (λ end m picture is. sym is.said);
      saves = λ told came. on-end (λ e. OnParked e (λ m. MadeBy true (codes "saved") (image_of m) at_start (base_roles Saved))) (λ end m picture is. (
        record (attached_by (codes "saved")) { put = base_saved },
        record { attaches = refl; name = refl; put = sym (saves-base end m picture is); unended = refl },
        refl,
      ));
      draws = λ told came. on-end (λ e. OnDrawn e (λ picture. WrittenBy true (codes "display") picture at_start (base_roles Display))) (λ end m picture is. record { attaches = refl; name = refl; put = sym is.drawn; unended = refl });
      cuts = λ told at. tt;
      image = λ came. on-end (λ e. OnParked e (λ m. IsImageOf (image_of m) (head_of m) (kept m.heap no_roots))) (λ end m picture is. image-saved end m picture is);
    };
  };
}

pub base-promise : Promise tells-all base_before base_after base_words (answer.Done 2)
base-promise = record {
  usage = refl;
  unasked = λ bad. absurd (false≢true bad);
  ends = λ asks right. (Telling, base-at);
  makes = λ asks. absurd (let no : ◌≡◌ {A = Verb} ToRun ToMake = asks in cc);
  converts = converts;
  traces = λ asks. absurd (let no : ◌≡◌ {A = Verb} ToRun ToTrace = asks in cc);
  noted = λ told. refl;
  later = λ role. omega arith;
}
  where
    converts : (way : Way) → ToRun ≡ verb_for way → bad_word base_words ≡ None → (stage : Stage) × ConvertsAt tells-all base_before base_after way (paths_of base_words) stage (answer.Done 2)
    converts Listing asks right = absurd (let no : ◌≡◌ {A = Verb} ToRun ToList = asks in cc)
    converts Assembling asks right = absurd (let no : ◌≡◌ {A = Verb} ToRun ToAssemble = asks in cc)
