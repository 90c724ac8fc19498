-- What was read of a vault's image tells what the whole is, and what is answered for it is answered for the whole.
use Rattle.std.proofs.Common.{◌≡◌, ◌%◌, ◌<◌, ◌≤◌, ◌^◌, inl, inr, ℕ, Bool, List, [], length, take, Result, Ok, Err, sym, subst, ◌∙◌, arith}
use Rattle.std.specs.Prelude.{All}
use Rattle.std.proofs.lemmas.List.{ext_get_or, get_or-take, length-take}
use Rattle.long_names.specs.Heap.{Heap}
use Rattle.image_format.specs.declared.fault.Halt.{Halt}
use Rattle.image_format.specs.declared.opening.State.{State as Words}
use Rattle.image_format.specs.Rules.{Image, image_at}
use Rattle.image_format.proofs.ImageLaws.{image_again, image_read}
use Rattle.image_front.specs.Front.{TellsOf}
use Rattle.checkpoint.specs.Layout.{area_in, image_in}
use Rattle.checkpoint.specs.declared.point.Point.{Point}
use Rattle.checkpoint.proofs.LayoutLaws.{get_or-area_in, length-area_in}
use Rattle.loom_words.specs.declared.status.Status.{Status}
use Rattle.loom_words.specs.declared.status.Status.TheVariants.{Done, Quit, Made, Listed, Assembled, Usage, ImageBad, EventsBad, TextBad, Stuck, CoreFull, NamesSpent, WorkFull, ReadFault, WorkFault, WriteFault, OutOfMemory, Damaged, VaultFault as VaultFaults, NoCheckpoint, VaultBad}
use Rattle.loom_run.specs.Ends.{IsRightImage, JudgesImage}
use Rattle.loom_run.specs.Steps.{IsRead}

-- ---- what was read

area-front : (w : List ℕ) (s n len : ℕ) → n ≤ len → area_in w s n ≡ take n (area_in w s len)
area-front w s n len le =
    let whole = length-area_in w s len in
    let part = length-area_in w s n in
    let front : length (take n (area_in w s len)) ≡ n = omega (arith, length-take n (area_in w s len), whole, le) in
    ext_get_or 0 _ _ (part ∙ sym front) (λ j h.
    let below : j < n = rw part at h in
    get_or-area_in w s n j below ∙ sym (get_or-area_in w s len j (omega (arith, below, le))) ∙ sym (get_or-take n (area_in w s len) j 0 below))

abbrev pub up_to : Point → ℕ → Point
up_to p n = record { serial = p.serial; len = n }

pub tells-read : (room n : ℕ) (bytes : List ℕ) (p : Point) (front image : List ℕ) → 36 ≤ p.len → n ≤ p.len → front ≡ image_in bytes (up_to p 36) → image ≡ image_in bytes (up_to p n) → All (λ b. b < 2 ^ 8) image
    → ((whole : List ℕ) → length whole ≡ p.len → take 36 whole ≡ front → All (λ b. b < 2 ^ 8) (take n whole) → TellsOf room (take n whole) whole) → TellsOf room image (image_in bytes p)
tells-read room n bytes p front image low le first is range tells =
    let whole = image_in bytes p in
    let same : image ≡ take n whole = is ∙ area-front bytes (p.serial % 2) n p.len le in
    let begins : take 36 whole ≡ front = sym (first ∙ area-front bytes (p.serial % 2) 36 p.len low) in
    subst (λ (i : List ℕ). TellsOf room i whole) (sym same) (tells whole (length-area_in bytes (p.serial % 2) p.len) begins (subst (All (λ b. b < 2 ^ 8)) same range))

-- ---- the whole

not-right : (room : ℕ) (front : List ℕ) (h : Halt) → image_at front ≡ Err h → IsRightImage room front → ⊥
not-right room front h e right =
    let again = image_again front _ (image_read front right.heap right.head right.image.is right.image.of_heap right.image.text) in
    let clash : ◌≡◌ {A = Result (Image × List ℕ) Halt} (Ok (_, [])) (Err h) = sym again ∙ e in
    let no : ⊥ = cc in
    no

pub right-whole : (room : ℕ) (front whole : List ℕ) → TellsOf room front whole → IsRightImage room front → IsRightImage room whole
right-whole room front whole (inl same) right = subst (IsRightImage room) same right
right-whole room front whole (inr is) right = absurd (not-right room front is.unread.0 is.unread.1 right)

pub read-whole : (room : ℕ) (front whole : List ℕ) (state : Words) (heap : Heap) → TellsOf room front whole → IsRead front room state heap → IsRead whole room state heap
read-whole room front whole state heap (inl same) read = subst (λ (b : List ℕ). IsRead b room state heap) same read
read-whole room front whole state heap (inr is) read = absurd (not-right room front is.unread.0 is.unread.1 (record { head = read.head; heap = heap; image = read.image; roomy = read.roomy }))

pub judged-whole : (work : Bool) (room : ℕ) (front whole : List ℕ) (status : Status) → TellsOf room front whole → JudgesImage work status room front → JudgesImage work status room whole
judged-whole work room front whole status (inl same) judged = subst (JudgesImage work status room) same judged
judged-whole work room front whole status (inr is) judged = go status judged
  where
    go : (status : Status) → JudgesImage work status room front → JudgesImage work status room whole
    go (ImageBad rule place) j = λ how. let x = j (λ of. inr is.unread) in let roomy = sym is.full ∙ x.0 in (roomy, sym (is.breaks roomy) ∙ x.1)
    go (WorkFull live most) j = (j.0, j.1, sym is.full ∙ j.2)
    go (Done ran) j = tt
    go (Quit ran) j = tt
    go (Made objects) j = tt
    go (Listed objects) j = tt
    go (Assembled objects) j = tt
    go (Usage word) j = tt
    go (EventsBad line) j = tt
    go (TextBad line rule) j = tt
    go (Stuck cause ran) j = tt
    go (CoreFull ran need) j = tt
    go (NamesSpent ran) j = tt
    go (ReadFault role count) j = tt
    go (WorkFault count) j = tt
    go (WriteFault role count) j = tt
    go OutOfMemory j = tt
    go (Damaged place name) j = tt
    go (VaultFaults count) j = tt
    go NoCheckpoint j = tt
    go (VaultBad place) j = tt
