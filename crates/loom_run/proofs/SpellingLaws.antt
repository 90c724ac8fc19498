-- An image and a text are two spellings of one heap and one state; and right words, a right source and no fault give the other one.
use Rattle.std.proofs.Common.{◌≡◌, ℕ, Bool, List, None, IsTrue, inl, inr, refl, sym, ◌∙◌, ap, ap₂, subst, arith}
use Rattle.long_names.specs.Counting.{Rose}
use Rattle.long_names.specs.Heap.{Heap, object_count}
use Rattle.image_format.specs.declared.opening.ImageHead.{ImageHead}
use Rattle.image_format.specs.declared.opening.Opening.{Opening as Stated}
use Rattle.image_format.specs.declared.opening.State.{State as Words}
use Rattle.image_format.specs.declared.opening.TheConstants.{STATE_VERSION}
use Rattle.image_format.specs.Heads.{no_state}
use Rattle.image_format.specs.Rules.{IsHeadOf, IsState, IsValidImage, break, first_break, text_under}
use Rattle.image_format.proofs.ImageLaws.{same_image, unbroken_from}
use Rattle.image_reader.specs.Loaded.{full_of}
use Rattle.loom_host.specs.declared.outside.Role.{Role}
use Rattle.loom_host.specs.declared.outside.Role.TheVariants.{Image, Notes, Saved, Work}
use Rattle.text_lines.specs.Breaks.{text_break}
use Rattle.text_lines.specs.Spelling.{heap_text}
use Rattle.text_lines.specs.Texts.{IsImageText, IsTextOf}
use Rattle.text_lines.proofs.TextBack.{text-back}
use Rattle.text_lines.proofs.TextHeaps.{image_text_to, same_heap}
use Rattle.loom_run.specs.Completes.{IsConverted, IsSource}
use Rattle.loom_run.specs.Converts.{ConvertsAt, EndsConversion, bytes_by, head_under, verb_for}
use Rattle.loom_run.specs.declared.converting.Way.{Way}
use Rattle.loom_run.specs.declared.converting.Way.TheVariants.{Listing, Assembling}
use Rattle.loom_run.specs.Ends.{IsImageOf, IsRightImage, bytes_of}
use Rattle.loom_run.specs.Meanings.{Meanings}
use Rattle.loom_run.specs.Promise.{Promise}
use Rattle.loom_run.specs.Stages.{Stage, Opening, Reading, Listening, Making, Running, Finishing, Saving, Drawing, Telling}
use Rattle.loom_words.specs.Words.{Paths, bad_word, paths_of, verb_of}
use Rattle.loom_words.specs.declared.words.TheConstants.{MOST_ROOM}
use Rattle.loom_words.specs.declared.status.Status.{Status}
use Rattle.loom_words.specs.declared.status.Status.TheVariants as answer
use Rattle.loom_run.proofs.CompletesLaws.{none-some, roomy}

-- ---- two spellings

zeros : (heap : Heap) → IsState heap no_state
zeros heap = record { display = inl refl; input = inl refl; timer = inl refl; tick = λ none. refl; clock_fits = omega arith; tick_fits = omega arith }

state-of : (heap : Heap) (head : ImageHead) → IsHeadOf heap head → IsState heap head.state
state-of heap head of = elim of.version [
  | inl first ↦ subst (IsState heap) (sym first.1) (zeros heap)
  | inr second ↦ second.1
]

-- the text of an image
pub text-of : (bytes : List ℕ) (head : ImageHead) (heap : Heap) → IsImageOf bytes head heap → IsTextOf (bytes_by Listing heap head.state) heap head.state
text-of bytes head heap image = record { is = image.is; state = state-of heap head image.of_heap; text_is = refl }

-- the image of a text
pub image-of : (text : List ℕ) (heap : Heap) (state : Words) → IsTextOf text heap state → IsImageOf (bytes_by Assembling heap state) (head_under heap state) heap
image-of text heap state of = record { is = of.is; of_heap = record { version = inr (refl, of.state); objects = refl; next = refl }; text = refl }

head-is : (heap : Heap) (head : ImageHead) → IsHeadOf heap head → head.opening.version ≡ STATE_VERSION → head_under heap head.state ≡ head
head-is heap head of version =
    ap (λ (n : ℕ). let o : Stated = record { version = n; objects = object_count heap; next = heap.next } in let h : ImageHead = record { opening = o; state = head.state } in h) (sym version)
    ∙ ap (λ (n : ℕ). let o : Stated = record { version = head.opening.version; objects = n; next = heap.next } in let h : ImageHead = record { opening = o; state = head.state } in h) (sym of.objects)
    ∙ ap (λ (n : ℕ). let o : Stated = record { version = head.opening.version; objects = head.opening.objects; next = n } in let h : ImageHead = record { opening = o; state = head.state } in h) (sym of.next)

-- an image of version 2 is assembled again of its text
pub image-again : (bytes : List ℕ) (head : ImageHead) (heap g : Heap) (state : Words) → IsImageOf bytes head heap → IsTextOf (bytes_by Listing heap head.state) g state → head.opening.version ≡ STATE_VERSION → bytes_by Assembling g state ≡ bytes
image-again bytes head heap g state image of version =
    let same = same_heap text-back (heap_text heap head.state) g heap state head.state of (text-of bytes head heap image) in
    ap₂ (λ (h : Heap) (s : Words). text_under (head_under h s) h) same.0 same.1
    ∙ ap (λ (h : ImageHead). text_under h heap) (head-is heap head image.of_heap version)
    ∙ sym image.text

-- and a text is listed again of its image
pub text-again : (text : List ℕ) (heap g : Heap) (state : Words) (head : ImageHead) → IsTextOf text heap state → IsImageOf (bytes_by Assembling heap state) head g → bytes_by Listing g head.state ≡ text
text-again text heap g state head of image =
    let own = image-of text heap state of in
    let same = same_image g heap head (head_under heap state) image.is own.is image.of_heap own.of_heap (sym image.text ∙ own.text) in
    ap₂ (λ (h : Heap) (s : Words). heap_text h s) same.0 (ap (λ (h : ImageHead). h.state) same.1)
    ∙ sym of.text_is

-- ---- its own end

right : (bytes : List ℕ) → IsValidImage bytes → IsRightImage MOST_ROOM bytes
right bytes v = record {
  head = v.head;
  heap = v.heap;
  image = record { is = v.is; of_heap = v.of_heap; text = v.text };
  roomy = (let few = v.is.head.few in let same = v.of_heap.objects in omega (arith, few, same));
}

module _ (tells : Role → Bool) (before now : Meanings) (paths : Paths) (image : IsTrue (tells Image)) (work : IsTrue (tells Work)) (still : (role : Role) → Rose (before.faults role) (now.faults role) → ⊥) where
  lists : (stage : Stage) (status : Status) → IsValidImage (bytes_of (now.roles Image)) → EndsConversion stage Listing status → ConvertsAt tells before now Listing paths stage status → IsConverted Listing status
  lists Opening (answer.WorkFault count) v h at = absurd (still Work at.cause.1)
  lists Opening _ v h at = absurd h
  lists Reading (answer.ImageBad rule place) v h at = none-some (first_break (bytes_of (now.roles Image))) (break rule place) (unbroken_from (bytes_of (now.roles Image)) v) (at.judges image refl (λ whole. inl work)).1
  lists Reading (answer.ReadFault Image count) v h at = absurd (still Image at.cause.1)
  lists Reading (answer.WorkFull live room) v h at = none-some (full_of MOST_ROOM (bytes_of (now.roles Image))) live (roomy MOST_ROOM (bytes_of (now.roles Image)) (right (bytes_of (now.roles Image)) v)) (at.judges image refl).2
  lists Reading (answer.WorkFault count) v h at = absurd (still Work at.cause.1)
  lists Reading (answer.Damaged place name) v h at = absurd (at.whole work tt)
  lists Reading answer.OutOfMemory v h at = tt
  lists Reading _ v h at = absurd h
  lists Saving (answer.WriteFault Saved count) v h at = absurd (still Saved at.cause.1)
  lists Saving (answer.WorkFault count) v h at = absurd (still Work at.cause.1)
  lists Saving (answer.Damaged place name) v h at = absurd (at.whole work tt)
  lists Saving answer.OutOfMemory v h at = tt
  lists Saving _ v h at = absurd h
  lists Telling (answer.Listed objects) v h at = tt
  lists Telling (answer.WriteFault Notes count) v h at = absurd (still Notes at.cause.1)
  lists Telling _ v h at = absurd h
  lists Listening status v h at = absurd h
  lists Making status v h at = absurd h
  lists Running status v h at = absurd h
  lists Finishing status v h at = absurd h
  lists Drawing status v h at = absurd h

  assembles : (stage : Stage) (status : Status) → IsImageText (bytes_of (now.roles Image)) → EndsConversion stage Assembling status → ConvertsAt tells before now Assembling paths stage status → IsConverted Assembling status
  assembles Opening (answer.WorkFault count) v h at = absurd (still Work at.cause.1)
  assembles Opening _ v h at = absurd h
  assembles Reading (answer.TextBad line rule) v h at = none-some (text_break (bytes_of (now.roles Image))) (break rule line) (image_text_to text-back (bytes_of (now.roles Image)) v) (at.judges image refl (λ whole. inl work))
  assembles Reading (answer.ReadFault Image count) v h at = absurd (still Image at.cause.1)
  assembles Reading (answer.WorkFault count) v h at = absurd (still Work at.cause.1)
  assembles Reading (answer.Damaged place name) v h at = absurd (at.whole work tt)
  assembles Reading answer.OutOfMemory v h at = tt
  assembles Reading _ v h at = absurd h
  assembles Saving (answer.WriteFault Saved count) v h at = absurd (still Saved at.cause.1)
  assembles Saving (answer.WorkFault count) v h at = absurd (still Work at.cause.1)
  assembles Saving (answer.Damaged place name) v h at = absurd (at.whole work tt)
  assembles Saving answer.OutOfMemory v h at = tt
  assembles Saving _ v h at = absurd h
  assembles Telling (answer.Assembled objects) v h at = tt
  assembles Telling (answer.WriteFault Notes count) v h at = absurd (still Notes at.cause.1)
  assembles Telling _ v h at = absurd h
  assembles Listening status v h at = absurd h
  assembles Making status v h at = absurd h
  assembles Running status v h at = absurd h
  assembles Finishing status v h at = absurd h
  assembles Drawing status v h at = absurd h

  either : (way : Way) (stage : Stage) (status : Status) → IsSource way (bytes_of (now.roles Image)) → ConvertsAt tells before now way paths stage status → IsConverted way status
  either Listing stage status v at = lists stage status v at.answer at
  either Assembling stage status v at = assembles stage status v at.answer at

pub converted_from : (tells : Role → Bool) (before now : Meanings) (words : List (List ℕ)) (result : Status) (way : Way) → IsTrue (tells Image) → IsTrue (tells Work) → verb_of words ≡ verb_for way → bad_word words ≡ None → Promise tells before now words result
    → IsSource way (bytes_of (now.roles Image)) → ((role : Role) → Rose (before.faults role) (now.faults role) → ⊥) → IsConverted way result
converted_from tells before now words result way image work asks none p source still =
    let x = p.converts way asks none in
    either tells before now (paths_of words) image work still way x.0 result source x.1
