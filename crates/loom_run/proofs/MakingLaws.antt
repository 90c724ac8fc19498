-- A making, and the last line behind it. It ends in one of three ways (`ended`), and each law goes by them.
use Rattle.std.proofs.Common.{◌≡◌, ◌⊎◌, ℕ, Bool, List, [], ◌∷◌, IsTrue, None, inl, inr, refl, sym, ◌∙◌, ap, subst, arith}
use Rattle.long_names.specs.Counting.{Rose}
use Rattle.long_names.specs.Heap.{object_count}
use Rattle.loom_gen.specs.Generated.{generated}
use Rattle.loom_host.specs.declared.outside.Role.{Role}
use Rattle.loom_host.specs.declared.outside.Role.TheVariants.{Image, Events, Work, Saved, Display, Transcript, Notes}
use Rattle.loom_run.specs.Ends.{NotedBy}
use Rattle.loom_run.specs.Makes.{EndsMaking, HasBegunFor, HasBegunImage, Makes, SavesImage}
use Rattle.loom_run.specs.Meanings.{Meanings, IsLeft, LeavesBut}
use Rattle.loom_run.specs.Parts.{IsTold, unsaid}
use Rattle.loom_run.specs.Promise.{Promise}
use Rattle.loom_words.specs.Status.{usage_of}
use Rattle.loom_run.specs.Steps.{IsOfMaking, MakeEnds}
use Rattle.loom_words.specs.Words.{MakeRow, ToMake, ToRun, ToTrace, Verb, bad_word, make_of, verb_of}
use Rattle.loom_words.specs.declared.status.Status.{Status}
use Rattle.loom_words.specs.declared.status.Status.TheVariants as answer
use Rattle.loom_run.proofs.ConvertLaws.{asks-other, converts-not, right-some}
use Rattle.loom_run.proofs.Lines.{noted-own, told-since}
use Rattle.loom_run.proofs.UsesLaws.{left-then}

-- ---- the ways to end

abbrev IsEnd : ℕ → Status → Type 0
IsEnd number status = (status ≡ answer.Made (object_count (generated number))) ⊎ (((count : ℕ) × (status ≡ answer.WriteFault Saved count)) ⊎ (status ≡ answer.OutOfMemory))

ended : (number : ℕ) (status : Status) → EndsMaking number status → IsOfMaking status → IsEnd number status
ended number (answer.Done ran) h of = absurd h
ended number (answer.Quit ran) h of = absurd h
ended number (answer.Made objects) h of = inl (ap (λ n. answer.Made n) h)
ended number (answer.Listed objects) h of = absurd h
ended number (answer.Assembled objects) h of = absurd h
ended number (answer.Usage word) h of = absurd h
ended number (answer.ImageBad rule place) h of = absurd h
ended number (answer.EventsBad line) h of = absurd h
ended number (answer.TextBad line rule) h of = absurd h
ended number (answer.Stuck cause ran) h of = absurd h
ended number (answer.CoreFull ran need) h of = absurd h
ended number (answer.NamesSpent ran) h of = absurd h
ended number (answer.WorkFull live room) h of = absurd h
ended number (answer.ReadFault role count) h of = absurd h
ended number (answer.WorkFault count) h of = absurd h
ended number (answer.WriteFault Image count) h of = absurd h
ended number (answer.WriteFault Events count) h of = absurd h
ended number (answer.WriteFault Work count) h of = absurd h
ended number (answer.WriteFault Saved count) h of = inr (inl (count, refl))
ended number (answer.WriteFault Display count) h of = absurd h
ended number (answer.WriteFault Transcript count) h of = absurd h
ended number (answer.WriteFault Notes count) h of = absurd (of refl)
ended number answer.OutOfMemory h of = inr (inr refl)
ended number (answer.Damaged place name) h of = absurd h
ended number (answer.VaultFault count) h of = absurd h
ended number answer.NoCheckpoint h of = absurd h
ended number (answer.VaultBad place) h of = absurd h

-- ---- the last line

own-answer : {told : Bool} {before now : Meanings} (status result : Status) → unsaid status (now.faults Notes) ≡ status → IsTold told status result before now → result ≡ status
own-answer status result same (inl whole) = whole.answer
own-answer status result same (inr cut) = cut.answer ∙ same

module _ (tells : Role → Bool) (before mid now : Meanings) (row : MakeRow) (leaves : LeavesBut (Notes ∷ []) mid now) where
  saved : now.roles Saved ≡ mid.roles Saved
  saved = (leaves.others Saved (λ e. cc, tt)).state

  later-then : LeavesBut (Notes ∷ []) before mid → LeavesBut (Notes ∷ []) before now
  later-then first = record {
    others = λ role none. left-then role before mid now (first.others role none) (leaves.others role none);
    writes = λ none. leaves.writes none ∙ first.writes none;
    later = λ role. let low = first.later role in let high = leaves.later role in omega (arith, low, high);
  }

  later-saved : LeavesBut (Saved ∷ Notes ∷ []) before mid → LeavesBut (Saved ∷ Notes ∷ []) before now
  later-saved first = record {
    others = λ role none. left-then role before mid now (first.others role none) (leaves.others role none.1);
    writes = λ none. leaves.writes none.1 ∙ first.writes none;
    later = λ role. let low = first.later role in let high = leaves.later role in omega (arith, low, high);
  }

  -- what is told once the line was put, or cut
  module _ (told : Bool) (untold : IsLeft Notes before mid) where
    made-whole : Makes tells before mid row (answer.Made (object_count (generated row.number))) → Makes tells before now row (answer.Made (object_count (generated row.number)))
    made-whole m = record { answer = refl; cause = tt; saves = λ t. subst (SavesImage (answer.Made (object_count (generated row.number))) row (before.roles Saved)) (sym saved) (m.saves t); others = later-saved m.others }

    made-cut : Rose (before.faults Notes) (now.faults Notes) → Makes tells before mid row (answer.Made (object_count (generated row.number))) → Makes tells before now row (answer.WriteFault Notes (now.faults Notes))
    made-cut rose m = record {
      answer = tt;
      cause = (refl, rose);
      saves = λ t. subst (SavesImage (answer.Made (object_count (generated row.number))) row (before.roles Saved)) (sym saved) (m.saves t);
      others = later-saved m.others;
    }

    unwritten : (count : ℕ) → Makes tells before mid row (answer.WriteFault Saved count) → Makes tells before now row (answer.WriteFault Saved count)
    unwritten count m = record {
      answer = tt;
      cause = subst (λ n. (count ≡ n) × Rose (before.faults Saved) n) (sym (leaves.others Saved (λ e. cc, tt)).faults) m.cause;
      saves = λ t. subst (SavesImage (answer.WriteFault Saved count) row (before.roles Saved)) (sym saved) (m.saves t);
      others = later-saved m.others;
    }

    unmade : Makes tells before mid row answer.OutOfMemory → Makes tells before now row answer.OutOfMemory
    unmade m = record { answer = tt; cause = tt; saves = λ t. saved ∙ m.saves t; others = later-then m.others }

    -- the answer is no usage, it is what the making promises, and Notes has its line
    record IsAfter (result : Status) : Type 0 where
      usage : usage_of result ≡ None
      makes : Makes tells before now row result
      noted : IsTrue told → NotedBy result (HasBegunImage row.number) before now

    after-made : (result : Status) → Makes tells before mid row (answer.Made (object_count (generated row.number))) → IsTold told (answer.Made (object_count (generated row.number))) result before now → IsAfter result
    after-made result m (inl whole) = subst IsAfter (sym whole.answer) record { usage = refl; makes = made-whole m; noted = whole.put }
    after-made result m (inr cut) = subst IsAfter (sym cut.answer) record { usage = refl; makes = made-cut cut.rose m; noted = cut.put }

    after-unwritten : (result : Status) (count : ℕ) → Makes tells before mid row (answer.WriteFault Saved count) → IsTold told (answer.WriteFault Saved count) result before now → IsAfter result
    after-unwritten result count m is = subst IsAfter (sym (own-answer (answer.WriteFault Saved count) result refl is)) record { usage = refl; makes = unwritten count m; noted = λ t. (noted-own (answer.WriteFault Saved count) result before now refl is t).1 }

    after-unmade : (result : Status) → Makes tells before mid row answer.OutOfMemory → IsTold told answer.OutOfMemory result before now → IsAfter result
    after-unmade result m is = subst IsAfter (sym (own-answer answer.OutOfMemory result refl is)) record { usage = refl; makes = unmade m; noted = λ t. (noted-own answer.OutOfMemory result before now refl is t).1 }

    after : (status result : Status) → MakeEnds tells before mid row status → IsTold told status result before now → IsAfter result
    after status result ends is = elim (ended row.number status ends.makes.answer ends.of_making) [
      | inl made ↦ after-made result (subst (Makes tells before mid row) made ends.makes) (subst (λ s. IsTold told s result before now) made is)
      | inr (inl at) ↦ after-unwritten result at.0 (subst (Makes tells before mid row) at.1 ends.makes) (subst (λ s. IsTold told s result before now) at.1 is)
      | inr (inr none) ↦ after-unmade result (subst (Makes tells before mid row) none ends.makes) (subst (λ s. IsTold told s result before now) none is)
    ]

-- ---- the promise

pub promise-made : (tells : Role → Bool) (before mid now : Meanings) (words : List (List ℕ)) (status result : Status) → verb_of words ≡ ToMake → bad_word words ≡ None → MakeEnds tells before mid (make_of words) status → LeavesBut (Notes ∷ []) mid now → IsTold (tells Notes) status result mid now → Promise tells before now words result
promise-made tells before mid now words status result asks right ends leaves is =
    let a = after tells before mid now (make_of words) leaves (tells Notes) ends.untold status result ends (told-since status result before mid now ends.untold is) in
    record {
      usage = a.usage ∙ sym right;
      unasked = right-some (bad_word words) right;
      ends = λ run none. asks-other words ToMake ToRun asks (λ e. cc) run;
      makes = λ make none. a.makes;
      converts = λ way asked none. converts-not way words ToMake asks (λ e. cc) (λ e. cc) asked;
      traces = λ trace none. asks-other words ToMake ToTrace asks (λ e. cc) trace;
      noted = λ tell. subst (λ (verb : Verb). NotedBy result (HasBegunFor verb words) before now) (sym asks) (a.noted tell);
      later = a.makes.others.later;
    }
