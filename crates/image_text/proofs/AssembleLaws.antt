-- A text that was read and judged: what it is the text of, and why there is none.
use Rattle.std.proofs.Common.{◌≡◌, ◌⊎◌, inl, inr, ℕ, List, Option, Some, None, is_some, Ok, Err, Result, IsTrue, sym, ap, subst, ◌∙◌, arith}
use Rattle.long_names.specs.Heap.{Heap, count_of}
use Rattle.long_names.specs.declared.object.Object.{Object}
use Rattle.long_names.specs.declared.object.Rec.{Rec}
use Rattle.loom_host.specs.declared.outside.Host.{Ghosts}
use Rattle.loom_host.specs.declared.outside.Role.TheVariants.{Image, Work}
use Rattle.disk_objects.specs.declared.rest.DiskRest.{DiskRest}
use Rattle.image_format.specs.declared.opening.State.{State}
use Rattle.image_format.specs.declared.fault.Break.{Break}
use Rattle.image_format.specs.Rules.{Image as ImageRead, IsState, break, whole_break, words_in}
use Rattle.image_format.specs.Valid.{IsImageHeap}
use Rattle.image_format.proofs.ImageRecs.{heap_of_recs}
use Rattle.image_reader.specs.Loaded.{IsLoadedHeap, IsStored, heap_on}
use Rattle.image_reader.proofs.JudgeLaws.{many-of}
use Rattle.text_lines.specs.Breaks.{first_break_of, image_of, text_at, text_break, with_counts}
use Rattle.text_lines.specs.Grammar.{Head}
use Rattle.text_lines.specs.Texts.{AreStated, IsTextOf}
use Rattle.text_lines.proofs.TextHeaps.{heap_of, state_of, text_of, words_are}
use Rattle.image_text.specs.declared.fault.TextFault.{TextFault}
use Rattle.image_text.specs.declared.fault.TextFault.TheVariants.{Bad, Read, Disk, Memory}
use Rattle.image_text.specs.Assembled.{IsPartTextFault, IsTextFault, IsUnreadText}
use Rattle.image_text.specs.Inside.{IsJudgedAt, IsTextOfWhole, IsUnread, ReadsText}
use Rattle.image_text.specs.Judged.{HasFits}
use Rattle.image_text.proofs.CountLaws.{objects_counted, stated_counted}

-- ---- why there is none

pub read_fault : {H : Type 0} (host : Ghosts H) (old new : H) (f : TextFault) → IsUnread host old f → IsPartTextFault host old new f → IsTextFault host old new f
read_fault host old new (Bad line rule) unread part = λ image how. unread image
read_fault host old new (Read count) unread part = part
read_fault host old new (Disk d) unread part = part
read_fault host old new Memory unread part = tt

breaks_at : (text : List ℕ) (head : Head) (recs : List Rec) (line rule : ℕ) → text_at text ≡ Ok (image_of head recs) → IsJudgedAt (with_counts recs) (whole_break (image_of head recs)) (Bad line rule) → text_break text ≡ Some (break rule line)
unfolding text_break
breaks_at text head recs line rule read judged = ap first_break_of read ∙ judged

-- what can be read isn't unread
work_told : {H : Type 0} (host : Ghosts H) (old : H) (x : ImageRead) → text_at (host.roles old Image).left ≡ Ok x → IsTrue (host.tells Work) ⊎ IsUnreadText (host.roles old Image).left → IsTrue (host.tells Work)
work_told host old x read (inl told) = told
work_told host old x read (inr unread) = let no : ◌≡◌ {A = Result ImageRead Break} (Ok x) (Err unread.0) = sym read ∙ unread.1 in absurd (cc)

pub judged_fault : {H : Type 0} (host : Ghosts H) (old new : H) (head : Head) (recs : List Rec) (f : TextFault) → (IsTrue (host.tells Image) → text_at (host.roles old Image).left ≡ Ok (image_of head recs))
    → (IsTrue (host.tells Work) → IsJudgedAt (with_counts recs) (whole_break (image_of head recs)) f) → IsTextOfWhole f → IsPartTextFault host old new f → IsTextFault host old new f
judged_fault host old new head recs (Bad line rule) read judged of part = λ image how. breaks_at (host.roles old Image).left head recs line rule (read image) (judged (work_told host old (image_of head recs) (read image) (how of)))
judged_fault host old new head recs (Read count) read judged of part = part
judged_fault host old new head recs (Disk d) read judged of part = part
judged_fault host old new head recs Memory read judged of part = tt

-- ---- the heap

pub stated_read : {H : Type 0} (host : Ghosts H) (old new : H) (rest : DiskRest) (head : Head) (names : List ℕ) (x : ReadsText host old new rest head names) → HasFits head → AreStated head x.recs
stated_read host old new rest head names x fits =
    let many = many-of names x.recs x.are.names_are in
    let enough = x.enough in
    let few = x.few in
    record {
      next = x.next;
      next_fits = fits.next;
      clock = fits.clock;
      display = fits.display;
      input = fits.input;
      timer = fits.timer;
      tick = fits.tick;
      state = x.state;
      enough = omega (arith, many, enough);
      few = omega (arith, many, few);
      records = x.are.listed.records;
      uncounted = x.uncounted;
      below = x.are.listed.below;
      rising = x.are.listed.rising;
    }

module _ {H : Type 0} (host : Ghosts H) (now : H) (rest : DiskRest) (head : Head) (recs : List Rec) (stored : IsStored host now rest (with_counts recs)) (whole : whole_break (image_of head recs) ≡ None) where
  same : heap_of_recs recs head.next ≡ heap_on host now rest head.next
  same = ap (λ (f : ℕ → Option Object). let h : Heap = record { at = f; next = head.next } in h) (sym (stored.at ∙ objects_counted (words_in recs) recs))

  pub assembled_text : (text : List ℕ) (next : ℕ) (s : State) → next ≡ head.next → s ≡ head.state → text_at text ≡ Ok (image_of head recs) → IsTextOf text (heap_on host now rest next) s
  assembled_text text next s next_is state_is read =
      subst (λ (n : ℕ). IsTextOf text (heap_on host now rest n) s) (sym next_is)
      (subst (λ (t : State). IsTextOf text (heap_on host now rest head.next) t) (sym state_is)
      (subst (λ (h : Heap). IsTextOf text h head.state) same (text_of text head recs read whole)))

  pub assembled_state : (next : ℕ) (s : State) → next ≡ head.next → s ≡ head.state → AreStated head recs → IsState (heap_on host now rest next) s
  assembled_state next s next_is state_is are =
      subst (λ (n : ℕ). IsState (heap_on host now rest n) s) (sym next_is)
      (subst (λ (t : State). IsState (heap_on host now rest head.next) t) (sym state_is)
      (subst (λ (h : Heap). IsState h head.state) same (state_of head recs are whole)))

  heap_there : AreStated head recs → IsLoadedHeap host now rest head.next
  heap_there are = record {
    is = subst IsImageHeap same (heap_of head recs are whole);
    counts = λ n has.
        ap (λ (f : ℕ → Option ℕ). f n) stored.counts
        ∙ stated_counted (words_in recs) recs n (ap is_some (ap (λ (f : ℕ → Option Object). f n) (sym (stored.at ∙ objects_counted (words_in recs) recs))) ∙ has)
        ∙ ap (λ (k : ℕ). let c : Option ℕ = Some k in c) (sym (words_are head recs are n) ∙ ap (λ (h : Heap). count_of h n) same);
  }

  pub assembled_heap : (next : ℕ) → next ≡ head.next → AreStated head recs → IsLoadedHeap host now rest next
  assembled_heap next next_is are = subst (λ (n : ℕ). IsLoadedHeap host now rest n) (sym next_is) (heap_there are)
