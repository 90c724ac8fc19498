-- A copy over a memory, from the forms in registers.
use Rattle.std.proofs.Common.{◌≡◌, ℕ, ◌+◌, ◌*◌, ◌-◌, ◌<◌, ◌≤◌, Bool, true, false, cond, get_or, List, [], length, Option, Some, None, Result, Ok, Err, IsTrue, is_some, refl, sym, ◌∙◌, ap, subst₂, arith}
use Rattle.std.specs.Prelude.{option_map}
use Rattle.std.specs.Option.{option_map_or}
use Rattle.long_names.specs.declared.value.Value.{Value}
use Rattle.long_names.specs.Objects.{words_of}
use Rattle.long_names.proofs.AccessLaws.{part-same}
use Rattle.object_memory.specs.Told.{Told, IsReady}
use Rattle.object_memory.specs.Shape.{HasPartAt, Looks}
use Rattle.blue_model.specs.declared.cpu.Cpu.{Cpu}
use Rattle.blue_model.specs.Machine.{Machine}
use Rattle.blue_model.specs.Forms.{row_words}
use Rattle.blue_model.specs.BitBlt.{black, copy}
use Rattle.contexts.specs.declared.stop.Stop.{Stop}
use Rattle.contexts.specs.Serves.{Stands, Serves}
use Rattle.contexts.proofs.Steps.{read_first}
use Rattle.contexts.proofs.ReadLaws.{quiet}
use Rattle.contexts.proofs.StoreLaws.{thinned_here}
use Rattle.bitblt.specs.declared.transfer.Transfer.{Transfer}
use Rattle.forms.specs.declared.form.Extent.{Extent}
use Rattle.bitblt.specs.declared.asked.Asked.{Asked}
use Rattle.bitblt.specs.Transfers.{words_after}
use Rattle.bitblt.specs.Blits.{DEST_BITS, SOURCE_BITS, words_at, dest_words, source_words, HasRooms, look_at_source, blit_words}
use Rattle.bitblt.specs.Asking.{asked_by}
use Rattle.forms.specs.Shapes.{form_by, least_words}
use Rattle.bitblt.specs.Shapes.{optional_by, OptionalRoom}
use Rattle.bitblt.specs.Plans.{HALFTONE_BITS, is_column, is_row, tone_words, IsPlanOf}
use Rattle.bitblt.proofs.ChangeLaws.{HasWords}
use Rattle.bitblt.proofs.RunReads.{weaker, dest_looked, source_looked}
use Rattle.bitblt.proofs.CopiedLaws.{words-asked, no_columns, no_rows}
use Rattle.bitblt.proofs.CopyLaws.{WordsOr, AreForms, bits_of, copy_nothing, copy_blended, copy_stopped, copy_unread}

-- the source's words, if there is a source
abbrev pub from_words : Option Extent → Told → List ℕ
from_words None t = []
from_words (Some e) t = words_at t.heap (t.regs SOURCE_BITS)

-- the words of a register's object are in each machine
words_there : (t : Told) (cpu : Cpu) (m : Machine) (r : ℕ) (P : List ℕ → Type 0) → IsReady t → IsTrue t.tells → Stands t cpu m → HasPartAt t r words_of P → HasWords m.heap (t.regs r) (words_at t.heap (t.regs r))
words_there t cpu m r P ready told st has =
    let it = has.there told in
    part-same m.heap t.heap t.regs t.slots (thinned_here t cpu m ready told st) r words_of ∙ it.1
    ∙ ap (λ (l : List ℕ). Some l) (sym (ap (λ (x : Option (List ℕ)). option_map_or (λ (l : List ℕ). l) x []) it.1))

pub forms_there : (t : Told) (cpu : Cpu) (dest : Extent) (source halftone : Option Extent) → IsReady t → HasPartAt t DEST_BITS words_of (λ words. least_words false dest ≤ length words) → OptionalRoom t SOURCE_BITS false source → OptionalRoom t HALFTONE_BITS true halftone
    → AreForms t cpu (form_by (t.regs DEST_BITS) dest) (optional_by (t.regs SOURCE_BITS) source) (optional_by (t.regs HALFTONE_BITS) halftone) (dest_words t) (from_words source t) (tone_words halftone t)
forms_there t cpu dest source halftone ready room source_room tone_room m told st = record {
  dest_words = words_there t cpu m DEST_BITS _ ready told st room;
  source_words = of_source source source_room;
  tone_words = of_tone halftone tone_room;
}
  where
    of_source : (x : Option Extent) → OptionalRoom t SOURCE_BITS false x → WordsOr [] (optional_by (t.regs SOURCE_BITS) x) (from_words x t) m.heap
    of_source None h = refl
    of_source (Some e) h = words_there t cpu m SOURCE_BITS _ ready told st h

    of_tone : (x : Option Extent) → OptionalRoom t HALFTONE_BITS true x → WordsOr black (optional_by (t.regs HALFTONE_BITS) x) (tone_words x t) m.heap
    of_tone None h = refl
    of_tone (Some e) h = words_there t cpu m HALFTONE_BITS _ ready told st h

-- the rooms of a plan
pub plan_rooms : (q : Asked) (dest : Extent) (source : Option Extent) (t : Transfer) (m : Told) → IsPlanOf q dest source t → HasPartAt m DEST_BITS words_of (λ words. least_words false dest ≤ length words) → OptionalRoom m SOURCE_BITS false source → HasRooms t m
plan_rooms q dest source t m is room source_room = record {
  dest = weaker (λ words. least_words false dest ≤ length words) (λ words. t.stride * t.bottom ≤ length words) (λ words h. (let tall = is.tall in omega (arith, tall, h))) room;
  source = λ e. of_source source (sym is.has_source ∙ e) source_room is.source_tall;
}
  where
    of_source : (x : Option Extent) → is_some x ≡ true → OptionalRoom m SOURCE_BITS false x → ((e : Extent) → x ≡ Some e → t.source_stride * (t.source_top + (t.bottom - t.top)) ≤ row_words e.width * e.height) → HasPartAt m SOURCE_BITS words_of (λ words. t.source_stride * (t.source_top + (t.bottom - t.top)) ≤ length words)
    of_source None e h tall = let never : ◌≡◌ {A = Bool} false true = e in absurd (cc)
    of_source (Some x) e h tall = weaker (λ words. least_words false x ≤ length words) (λ words. t.source_stride * (t.source_top + (t.bottom - t.top)) ≤ length words) (λ words low. (let high = tall x refl in omega (arith, high, low))) h

source_found : (source : Option Extent) (t : Told) (has : Bool) → has ≡ is_some source → source_words has t ≡ option_map (λ (e : Extent). from_words source t) source
source_found None t has e = ap (λ b. cond b (Some (words_at t.heap (t.regs SOURCE_BITS))) None) e
source_found (Some x) t has e = ap (λ b. cond b (Some (words_at t.heap (t.regs SOURCE_BITS))) None) e

named_source : (source : Option Extent) (v : Value) → bits_of (optional_by v source) v ≡ v
named_source None v = refl
named_source (Some e) v = refl

has_one : (source : Option Extent) (v : Value) → is_some (optional_by v source) ≡ is_some source
has_one None v = refl
has_one (Some e) v = refl

-- the rows were blended after the halftone was read
pub copy_end : {old mid new : Told} {cpu : Cpu} (r : Result (Unit {0}) Stop) (q : Asked) (dest : Extent) (source halftone : Option Extent) (t : Transfer) (tone : List ℕ) → IsReady old → IsReady mid → Looks [] old mid
    → HasPartAt old DEST_BITS words_of (λ words. least_words false dest ≤ length words) → OptionalRoom old SOURCE_BITS false source → OptionalRoom old HALFTONE_BITS true halftone
    → IsPlanOf q dest source t → (IsTrue old.tells → (k : ℕ) → k < 16 → get_or tone k 0 ≡ get_or (tone_words halftone old) k 0)
    → Serves mid cpu new cpu (blit_words t.has_source (mid.regs SOURCE_BITS) (mid.regs DEST_BITS) (words_after t (source_words t.has_source mid) tone (dest_words mid))) r
    → Serves old cpu new cpu (copy (asked_by q) (form_by (old.regs DEST_BITS) dest) (optional_by (old.regs SOURCE_BITS) source) (optional_by (old.regs HALFTONE_BITS) halftone)) r
copy_end {old} {mid} {new} {cpu} r q dest source halftone t tone before ready looks room source_room tone_room is same s =
    let made = words_after t (source_words t.has_source mid) tone (dest_words mid) in
    let v = old.regs SOURCE_BITS in
    let w = old.regs DEST_BITS in
    let first : Serves mid cpu new cpu (blit_words t.has_source v w made) r =
    subst₂ (λ a b. Serves mid cpu new cpu (blit_words t.has_source a b made) r) (looks.regs SOURCE_BITS refl) (looks.regs DEST_BITS refl) s in
    let second : Serves old cpu new cpu (blit_words (is_some (optional_by v source)) (bits_of (optional_by v source) v) w made) r =
    subst₂ (λ b x. Serves old cpu new cpu (blit_words b x w made) r) (is.has_source ∙ sym (has_one source v)) (sym (named_source source v)) (read_first before (quiet [] old mid refl before ready looks) first) in
    copy_blended r (asked_by q) (form_by w dest) (optional_by v source) (optional_by (old.regs HALFTONE_BITS) halftone) (dest_words old) (from_words source old) (tone_words halftone old) made v
    (forms_there old cpu dest source halftone before room source_room tone_room)
    (λ told.
    ap (λ (x : Option (List ℕ)). words_after t x tone (dest_words mid)) (source_looked t.has_source old mid ready looks told ∙ source_found source old t.has_source is.has_source)
    ∙ ap (words_after t (option_map (λ (e : Extent). from_words source old) source) tone) (dest_looked old mid ready looks told)
    ∙ words-asked q dest source w v (dest_words old) (from_words source old) (tone_words halftone old) tone t is (same told))
    second

-- no column changes, or no row
pub copy_no_columns : {t : Told} {cpu : Cpu} (q : Asked) (dest : Extent) (source halftone : Option Extent) → IsReady t
    → HasPartAt t DEST_BITS words_of (λ words. least_words false dest ≤ length words) → OptionalRoom t SOURCE_BITS false source → OptionalRoom t HALFTONE_BITS true halftone
    → ((x : ℕ) → is_column q dest source x ≡ false)
    → Serves t cpu t cpu (copy (asked_by q) (form_by (t.regs DEST_BITS) dest) (optional_by (t.regs SOURCE_BITS) source) (optional_by (t.regs HALFTONE_BITS) halftone)) (Ok tt)
copy_no_columns {t} {cpu} q dest source halftone ready room source_room tone_room none =
    copy_nothing (asked_by q) _ _ _ (dest_words t) (from_words source t) (tone_words halftone t) ready (forms_there t cpu dest source halftone ready room source_room tone_room)
    (no_columns q dest source (t.regs DEST_BITS) (t.regs SOURCE_BITS) (dest_words t) (from_words source t) (tone_words halftone t) none)

pub copy_no_rows : {t : Told} {cpu : Cpu} (q : Asked) (dest : Extent) (source halftone : Option Extent) → IsReady t
    → HasPartAt t DEST_BITS words_of (λ words. least_words false dest ≤ length words) → OptionalRoom t SOURCE_BITS false source → OptionalRoom t HALFTONE_BITS true halftone
    → ((y : ℕ) → is_row q dest source y ≡ false)
    → Serves t cpu t cpu (copy (asked_by q) (form_by (t.regs DEST_BITS) dest) (optional_by (t.regs SOURCE_BITS) source) (optional_by (t.regs HALFTONE_BITS) halftone)) (Ok tt)
copy_no_rows {t} {cpu} q dest source halftone ready room source_room tone_room none =
    copy_nothing (asked_by q) _ _ _ (dest_words t) (from_words source t) (tone_words halftone t) ready (forms_there t cpu dest source halftone ready room source_room tone_room)
    (no_rows q dest source (t.regs DEST_BITS) (t.regs SOURCE_BITS) (dest_words t) (from_words source t) (tone_words halftone t) none)

-- a read of the halftone stopped
pub copy_tone_stopped : {old new : Told} {cpu : Cpu} {e : Stop} (q : Asked) (dest : Extent) (source halftone : Option Extent) → IsReady old
    → HasPartAt old DEST_BITS words_of (λ words. least_words false dest ≤ length words) → OptionalRoom old SOURCE_BITS false source → OptionalRoom old HALFTONE_BITS true halftone
    → Serves old cpu new cpu (look_at_source (is_some halftone) (old.regs HALFTONE_BITS)) (Err e)
    → Serves old cpu new cpu (copy (asked_by q) (form_by (old.regs DEST_BITS) dest) (optional_by (old.regs SOURCE_BITS) source) (optional_by (old.regs HALFTONE_BITS) halftone)) (Err e)
copy_tone_stopped {old} {new} {cpu} {e} q dest source None ready room source_room tone_room s =
    copy_unread (asked_by q) _ _ (old.regs HALFTONE_BITS) (dest_words old) (from_words source old) (tone_words None old) (forms_there old cpu dest source None ready room source_room tone_room) s
copy_tone_stopped {old} {new} {cpu} {e} q dest source (Some x) ready room source_room tone_room s =
    copy_stopped (asked_by q) _ _ (form_by (old.regs HALFTONE_BITS) x) (dest_words old) (from_words source old) (tone_words (Some x) old) (forms_there old cpu dest source (Some x) ready room source_room tone_room) s
