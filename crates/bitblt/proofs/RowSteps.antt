-- Rows one after the other: what stands after each, and where a call stopped.
-- The loops keep `IsPartly`: what was done serves `put_words` of the words now, and where the heap is told these are `AreDone`.
-- One law for each exit: `partly_start`, `partly_same`, `partly_row`, `partly_stop`, `partly_end`.
use Rattle.std.proofs.Common.{◌≡◌, ◌≢◌, ℕ, ◌+◌, ◌<◌, ◌≤◌, Bool, true, false, ◌&&◌, cond, List, length, Option, Some, None, Result, Ok, Err, IsTrue, is_some, refl, sym, ◌∙◌, ap, subst}
use Rattle.long_names.specs.declared.value.Value.{Value}
use Rattle.object_memory.specs.Told.{Told, IsReady}
use Rattle.blue_model.specs.declared.cpu.Cpu.{Cpu}
use Rattle.blue_model.specs.Machine.{numbers_at_rest}
use Rattle.blue_model.specs.Storage.{is_same}
use Rattle.blue_model.specs.BitBlt.{put_words}
use Rattle.bit_rows.specs.Rows.{within}
use Rattle.contexts.specs.declared.stop.Stop.{Stop}
use Rattle.contexts.specs.Serves.{Serves}
use Rattle.bitblt.specs.declared.transfer.Transfer.{Transfer}
use Rattle.bitblt.specs.Transfers.{Fits, row_words, words_after, run_start, run_length, IsShared}
use Rattle.bitblt.specs.Blits.{DEST_BITS, SOURCE_BITS, words_at, dest_words, source_words, shares, HasRooms, blit_words, IsWritten, IsPartly}
use Rattle.bitblt.proofs.Runs.{row_words-length, tall-dest}
use Rattle.bitblt.proofs.Overlap.{InOrder, row-done, none-done, start-done, all-done}
use Rattle.bitblt.proofs.BlitLaws.{rooms_there, puts_then, puts_stop, with_source, nothing_put, words_served}
use Rattle.bitblt.proofs.RunReads.{dest_room, same_values, shares_kept}

starts_shared : (t : Transfer) (old : Told) → HasRooms t old → IsShared (shares t.has_source old) (source_words t.has_source old) (dest_words old) (source_words t.has_source old) (dest_words old)
starts_shared t old rooms = go t.has_source
  where
    by_name : (b : Bool) → is_same (old.regs DEST_BITS) (old.regs SOURCE_BITS) ≡ b → IsShared b (Some (words_at old.heap (old.regs SOURCE_BITS))) (dest_words old) (Some (words_at old.heap (old.regs SOURCE_BITS))) (dest_words old)
    by_name true e = let same : Some (words_at old.heap (old.regs SOURCE_BITS)) ≡ Some (dest_words old) = ap (λ (v : Value). Some (words_at old.heap v)) (sym (same_values (old.regs DEST_BITS) (old.regs SOURCE_BITS) rooms.dest.name e)) in (same, same)
    by_name false e = refl

    go : (b : Bool) → IsShared (b && is_same (old.regs DEST_BITS) (old.regs SOURCE_BITS)) (cond b (Some (words_at old.heap (old.regs SOURCE_BITS))) None) (dest_words old) (cond b (Some (words_at old.heap (old.regs SOURCE_BITS))) None) (dest_words old)
    go true = by_name (is_same (old.regs DEST_BITS) (old.regs SOURCE_BITS)) refl
    go false = refl

-- no row is done
pub partly_start : (t : Transfer) (halftone : List ℕ) (old : Told) (done : ℕ → Bool) → IsReady old → HasRooms t old → ((r : ℕ) → done r ≡ false) → IsPartly t halftone old old done
partly_start t halftone old done ready rooms none = record {
  regs = refl;
  ready = ready;
  rooms = rooms;
  serves = λ cpu. nothing_put t.has_source (old.regs SOURCE_BITS) (old.regs DEST_BITS) (dest_words old) ready (rooms_there t old cpu ready rooms);
  words = λ told. start-done t (source_words t.has_source old) halftone (dest_words old) done none;
  shared = λ told. starts_shared t old rooms;
}

-- the same rows are done
pub partly_same : (t : Transfer) (halftone : List ℕ) (old now : Told) (done more : ℕ → Bool) → IsPartly t halftone old now done → ((r : ℕ) → more r ≡ done r) → IsPartly t halftone old now more
partly_same t halftone old now done more p same = record {
  regs = p.regs;
  ready = p.ready;
  rooms = p.rooms;
  serves = p.serves;
  words = λ told. none-done t (source_words t.has_source old) halftone (dest_words old) (dest_words now) done more (p.words told) same;
  shared = p.shared;
}

has_it : (b : Bool) (words : List ℕ) → is_some (cond b (Some words) None) ≡ b
has_it true words = refl
has_it false words = refl

shared_on : (b : Bool) (source now new : Option (List ℕ)) (before words after : List ℕ) → IsShared b source before now words → IsShared b now words new after → IsShared b source before new after
shared_on true source now new before words after e f = (e.0, f.1)
shared_on false source now new before words after e f = f ∙ e

-- the rule of a row, for the registers as they were
at_first : (t : Transfer) (old now new : Told) (cpu : Cpu) (words : List ℕ) (r : Result (Unit {0}) Stop) → now.regs ≡ old.regs → Serves now cpu new cpu (blit_words t.has_source (now.regs SOURCE_BITS) (now.regs DEST_BITS) words) r → Serves now cpu new cpu (blit_words t.has_source (old.regs SOURCE_BITS) (old.regs DEST_BITS) words) r
at_first t old now new cpu words r e s = subst (λ (regs : ℕ → Value). Serves now cpu new cpu (blit_words t.has_source (regs SOURCE_BITS) (regs DEST_BITS) words) r) e s

-- as many words as before
same_length : (t : Transfer) (halftone : List ℕ) (old now : Told) (done : ℕ → Bool) (y : ℕ) → IsPartly t halftone old now done → IsTrue old.tells → length (row_words t (source_words t.has_source now) halftone (dest_words now) y) ≡ length (dest_words old)
same_length t halftone old now done y p told = row_words-length t (source_words t.has_source now) halftone (dest_words now) y ∙ (let are = p.words told in are.length)

-- one more row is done
pub partly_row : (t : Transfer) (halftone : List ℕ) (old now new : Told) (done more : ℕ → Bool) (y : ℕ) → IsReady old → HasRooms t old → Fits t → IsPartly t halftone old now done
    → t.top ≤ y → y < t.bottom → InOrder t done y → done y ≡ false → more y ≡ true → ((r : ℕ) → r ≢ y → more r ≡ done r)
    → IsReady new
    → ((cpu : Cpu) → Serves now cpu new cpu (blit_words t.has_source (now.regs SOURCE_BITS) (now.regs DEST_BITS) (row_words t (source_words t.has_source now) halftone (dest_words now) y)) (Ok tt))
    → IsWritten t now new (row_words t (source_words t.has_source now) halftone (dest_words now) y)
    → IsPartly t halftone old new more
partly_row t halftone old now new done more y before rooms fit p top below order fresh set same ready s w = record {
  regs = w.regs ∙ p.regs;
  ready = ready;
  rooms = w.rooms;
  serves = λ cpu.
      words_served (put_words (old.regs DEST_BITS)) row (dest_words new) (λ told. sym (w.dest (now_told told)))
      (puts_then t.has_source (old.regs SOURCE_BITS) (old.regs DEST_BITS) (dest_words old) (dest_words now) row (rooms_there t old cpu before rooms)
      (λ told. (let are = p.words told in are.length)) (same_length t halftone old now done y p)
      (p.serves cpu) (at_first t old now new cpu row (Ok tt) p.regs (s cpu)));
  words = λ told.
      row-done (shares t.has_source old) t (source_words t.has_source old) (source_words t.has_source now) halftone (dest_words old) (dest_words now) (dest_words new) done more y
      (has_it t.has_source (words_at old.heap (old.regs SOURCE_BITS))) (p.shared told) (p.words told) fit
      (dest_room t now p.rooms (now_told told) (run_start t y + run_length t) (tall-dest t y fit.columns fit.wide below).1)
      top below order fresh set same (w.dest (now_told told));
  shared = λ told.
      subst (IsShared (shares t.has_source old) (source_words t.has_source old) (dest_words old) (source_words t.has_source new)) (sym (w.dest (now_told told)))
      (shared_on (shares t.has_source old) (source_words t.has_source old) (source_words t.has_source now) (source_words t.has_source new) (dest_words old) (dest_words now) row (p.shared told)
      (subst (λ b. IsShared b (source_words t.has_source now) (dest_words now) (source_words t.has_source new) row) (shares_kept t.has_source old now p.regs) (w.shared (now_told told))));
}
  where
    row : List ℕ
    row = row_words t (source_words t.has_source now) halftone (dest_words now) y

    now_told : IsTrue old.tells → IsTrue now.tells
    now_told told = let first = p.serves numbers_at_rest in first.later.tells ∙ told

-- a call of a row stopped
pub partly_stop : (t : Transfer) (halftone : List ℕ) (old now new : Told) (cpu : Cpu) (done : ℕ → Bool) (y : ℕ) (words : List ℕ) {e : Stop} → IsReady old → HasRooms t old → IsPartly t halftone old now done
    → Serves now cpu new cpu (blit_words t.has_source (now.regs SOURCE_BITS) (now.regs DEST_BITS) (row_words t (source_words t.has_source now) halftone (dest_words now) y)) (Err e)
    → Serves old cpu new cpu (blit_words t.has_source (old.regs SOURCE_BITS) (old.regs DEST_BITS) words) (Err e)
partly_stop t halftone old now new cpu done y words {e} before rooms p s =
    let row = row_words t (source_words t.has_source now) halftone (dest_words now) y in
    puts_stop t.has_source (old.regs SOURCE_BITS) (old.regs DEST_BITS) (dest_words old) (dest_words now) row words (rooms_there t old cpu before rooms)
    (λ told. (let are = p.words told in are.length)) (same_length t halftone old now done y p)
    (p.serves cpu) (at_first t old now new cpu row (Err e) p.regs s)

-- all rows are done
pub partly_end : (t : Transfer) (halftone : List ℕ) (old now : Told) (cpu : Cpu) (done : ℕ → Bool) → IsReady old → HasRooms t old → Fits t → IsPartly t halftone old now done → ((r : ℕ) → done r ≡ within t.top t.bottom r)
    → Serves old cpu now cpu (blit_words t.has_source (old.regs SOURCE_BITS) (old.regs DEST_BITS) (words_after t (source_words t.has_source old) halftone (dest_words old))) (Ok tt)
partly_end t halftone old now cpu done before rooms fit p all =
    with_source t.has_source (old.regs SOURCE_BITS) (old.regs DEST_BITS) (dest_words old) (words_after t (source_words t.has_source old) halftone (dest_words old)) (rooms_there t old cpu before rooms)
    (words_served (put_words (old.regs DEST_BITS)) (dest_words now) (words_after t (source_words t.has_source old) halftone (dest_words old))
    (λ told. all-done t (source_words t.has_source old) halftone (dest_words old) (dest_words now) done (p.words told) fit all)
    (p.serves cpu))
