-- A copy as a rule of the model: where nothing changes, where the rows were blended, and where a call stopped.
use Rattle.std.proofs.Common.{◌≡◌, ℕ, Bool, true, false, List, [], ◌++◌, Option, Some, None, Result, Ok, Err, IsTrue, is_some, refl, sym, ◌∙◌, ap, subst}
use Rattle.long_names.specs.declared.value.Value.{Value}
use Rattle.long_names.specs.declared.object.Object.{Object}
use Rattle.long_names.specs.Objects.{words_of}
use Rattle.long_names.specs.Heap.{Heap}
use Rattle.long_names.specs.State.{object_at}
use Rattle.object_memory.specs.Told.{Told, IsReady}
use Rattle.object_memory.proofs.LaterLaws.{IsLater-refl}
use Rattle.blue_model.specs.declared.cause.Cause.TheVariants.{Shape}
use Rattle.blue_model.specs.declared.cpu.Cpu.{Cpu}
use Rattle.blue_model.specs.Machine.{Machine, LogRow, Outcome, Go, rows_at, looked, after, then_do, ◌>>=◌, done, given, pick, look, part}
use Rattle.blue_model.specs.Forms.{Form}
use Rattle.blue_model.specs.BitBlt.{Asked, words_in, words_or, black, copied_words, put_words, copy}
use Rattle.contexts.specs.declared.stop.Stop.{Stop}
use Rattle.contexts.specs.Serves.{Stands, Gives, Serves}
use Rattle.contexts.proofs.ServesLaws.{IsCounted-refl, by_model}
use Rattle.bitblt.specs.Blits.{look_at_source, blit_words}
use Rattle.bitblt.proofs.ChangeLaws.{HasWords, put_machine, put_same, words_inside}
use Rattle.bitblt.proofs.BlitLaws.{HasRows, rows_same, rows_none, rows_both, rows_first, rows_second, fault_within, HasBits, source_rows, blit_goes, put_goes}

-- ---- what the rule comes to

-- the words of a form, or others
abbrev pub WordsOr : List ℕ → Option Form → List ℕ → Heap → Type 0
WordsOr others None ws h = ws ≡ others
WordsOr others (Some f) ws h = HasWords h f.bits ws

-- all three have their words
pub record HasForms (dest : Form) (source tone : Option Form) (words from halftone : List ℕ) (h : Heap) : Type 0 where
  pub dest_words : HasWords h dest.bits words
  pub source_words : WordsOr [] source from h
  pub tone_words : WordsOr black tone halftone h

abbrev pub form_rows : Machine → Option Form → List LogRow
form_rows m None = []
form_rows m (Some f) = rows_at m f.bits ++ []

-- the words of an object of words
words_go : (v : Value) (ws : List ℕ) (m : Machine) → HasWords m.heap v ws → part Shape words_in v m ≡ Go ws m (rows_at m v ++ [])
unfolding part look given done words_in ◌>>=◌
words_go v ws m e =
    let it = words_inside (object_at m.heap v) ws e in
    ap (λ (x : Option Object). then_do (looked m v x) (λ o. given Shape (words_of o.body))) it.1
    ∙ ap (λ (x : Option (List ℕ)). then_do (Go it.0 m (rows_at m v)) (λ o. given Shape x)) it.2

words_or_go : (others : List ℕ) (x : Option Form) (ws : List ℕ) (m : Machine) → WordsOr others x ws m.heap → words_or others x m ≡ Go ws m (form_rows m x)
unfolding done
words_or_go others None ws m e = ap (λ (l : List ℕ). Go l m []) (sym e)
words_or_go others (Some f) ws m e = words_go f.bits ws m e

abbrev pub copy_rows : Machine → Form → Option Form → Option Form → List LogRow
copy_rows m dest source tone = (rows_at m dest.bits ++ []) ++ (form_rows m source ++ (form_rows m tone ++ rows_at m dest.bits))

copy_goes : (q : Asked) (dest : Form) (source tone : Option Form) (words from halftone : List ℕ) (m : Machine) → HasForms dest source tone words from halftone m.heap
    → copy q dest source tone m ≡ Go tt (put_machine m dest.bits (copied_words q dest source words from halftone)) (copy_rows m dest source tone)
unfolding copy ◌>>=◌
copy_goes q dest source tone words from halftone m has =
    ap (λ (o : Outcome (List ℕ)). then_do o (λ w. words_or [] source >>= λ f. words_or black tone >>= λ h. put_words dest.bits (copied_words q dest source w f h))) (words_go dest.bits words m has.dest_words)
    ∙ ap (λ (o : Outcome (List ℕ)). after (rows_at m dest.bits ++ []) (then_do o (λ f. words_or black tone >>= λ h. put_words dest.bits (copied_words q dest source words f h)))) (words_or_go [] source from m has.source_words)
    ∙ ap (λ (o : Outcome (List ℕ)). after (rows_at m dest.bits ++ []) (after (form_rows m source) (then_do o (λ h. put_words dest.bits (copied_words q dest source words from h))))) (words_or_go black tone halftone m has.tone_words)
    ∙ ap (λ (o : Outcome (Unit {0})). after (rows_at m dest.bits ++ []) (after (form_rows m source) (after (form_rows m tone) o))) (put_goes dest.bits (copied_words q dest source words from halftone) m words has.dest_words)

-- ---- the laws

-- what is there in each machine that a memory stands for
abbrev pub AreForms : Told → Cpu → Form → Option Form → Option Form → List ℕ → List ℕ → List ℕ → Type 0
AreForms t cpu dest source tone words from halftone = (m : Machine) → IsTrue t.tells → Stands t cpu m → HasForms dest source tone words from halftone m.heap

-- nothing changes
pub copy_nothing : {t : Told} {cpu : Cpu} (q : Asked) (dest : Form) (source tone : Option Form) (words from halftone : List ℕ) → IsReady t → AreForms t cpu dest source tone words from halftone → words ≡ copied_words q dest source words from halftone → Serves t cpu t cpu (copy q dest source tone) (Ok tt)
copy_nothing {t} {cpu} q dest source tone words from halftone ready there same = record {
  later = IsLater-refl t;
  ready = ready;
  reason = tt;
  counts = (0, IsCounted-refl t);
  vault = λ may. may;
  silent = λ speaks. refl;
  model = λ told m st.
      let has = there m told st in
      let stays : put_machine m dest.bits words ≡ m = ap (λ (h : Heap). (let n : Machine = record m { heap = h } in n)) (put_same m.heap dest.bits words has.dest_words) in
      let is : m ≡ put_machine m dest.bits (copied_words q dest source words from halftone) = sym stays ∙ ap (put_machine m dest.bits) same in
      subst (Gives t cpu (Ok tt)) (sym (copy_goes q dest source tone words from halftone m has)) (refl, subst (Stands t cpu) is st);
}

-- the source of a transfer
abbrev pub bits_of : Option Form → Value → Value
bits_of None v = v
bits_of (Some f) v = f.bits

has_bits : (dest : Form) (source tone : Option Form) (words from halftone : List ℕ) (h : Heap) (other : Value) → HasForms dest source tone words from halftone h → HasBits (is_some source) (bits_of source other) dest.bits words h
has_bits dest None tone words from halftone h other has = record { words = has.dest_words; source = λ e. (let never : ◌≡◌ {A = Bool} false true = e in absurd (cc)) }
has_bits dest (Some f) tone words from halftone h other has = record { words = has.dest_words; source = λ e. (let it = words_inside (object_at h f.bits) from has.source_words in (it.0, it.1)) }

rows_of_source : (m : Machine) (source : Option Form) (other : Value) → HasRows (source_rows (is_some source) m (bits_of source other)) (form_rows m source)
rows_of_source m None other = rows_none []
rows_of_source m (Some f) other = rows_same (rows_at m f.bits ++ [])

-- the rows were blended, or a call of them stopped
pub copy_blended : {old new : Told} {cpu : Cpu} (r : Result (Unit {0}) Stop) (q : Asked) (dest : Form) (source tone : Option Form) (words from halftone made : List ℕ) (other : Value) → AreForms old cpu dest source tone words from halftone → (IsTrue old.tells → made ≡ copied_words q dest source words from halftone)
    → Serves old cpu new cpu (blit_words (is_some source) (bits_of source other) dest.bits made) r → Serves old cpu new cpu (copy q dest source tone) r
copy_blended {old} {new} {cpu} (Ok u) q dest source tone words from halftone made other there same f =
    by_model (blit_words (is_some source) (bits_of source other) dest.bits made) (copy q dest source tone)
    (λ m told st given.
    let has = there m told st in
    let went : Gives new cpu (Ok u) (Go tt (put_machine m dest.bits made) (source_rows (is_some source) m (bits_of source other) ++ rows_at m dest.bits)) =
    subst (Gives new cpu (Ok u)) (blit_goes (is_some source) (bits_of source other) dest.bits made m words (has_bits dest source tone words from halftone m.heap other has)) given in
    subst (Gives new cpu (Ok u)) (sym (copy_goes q dest source tone words from halftone m has)) (went.0, subst (λ (l : List ℕ). Stands new cpu (put_machine m dest.bits l)) (same told) went.1))
    f
copy_blended {old} {new} {cpu} (Err e) q dest source tone words from halftone made other there same f =
    by_model (blit_words (is_some source) (bits_of source other) dest.bits made) (copy q dest source tone)
    (λ m told st given.
    let has = there m told st in
    let rows = source_rows (is_some source) m (bits_of source other) ++ rows_at m dest.bits in
    let went : Gives {A = Unit {0}} new cpu (Err e) (Go tt (put_machine m dest.bits made) rows) =
    subst (Gives {A = Unit {0}} new cpu (Err e)) (blit_goes (is_some source) (bits_of source other) dest.bits made m words (has_bits dest source tone words from halftone m.heap other has)) given in
    subst (Gives {A = Unit {0}} new cpu (Err e)) (sym (copy_goes q dest source tone words from halftone m has))
    (fault_within new cpu e tt tt (put_machine m dest.bits made) (put_machine m dest.bits (copied_words q dest source words from halftone)) rows (copy_rows m dest source tone)
    (rows_both (source_rows (is_some source) m (bits_of source other)) (rows_at m dest.bits) (copy_rows m dest source tone)
    (rows_second (source_rows (is_some source) m (bits_of source other)) (rows_at m dest.bits ++ []) (form_rows m source ++ (form_rows m tone ++ rows_at m dest.bits))
    (rows_first (source_rows (is_some source) m (bits_of source other)) (form_rows m source) (form_rows m tone ++ rows_at m dest.bits) (rows_of_source m source other)))
    (rows_first (rows_at m dest.bits) (rows_at m dest.bits ++ []) (form_rows m source ++ (form_rows m tone ++ rows_at m dest.bits)) (rows_first (rows_at m dest.bits) (rows_at m dest.bits) [] (rows_same (rows_at m dest.bits)))))
    went))
    f

-- a read of the halftone stopped
tone_goes : (v : Value) (ws : List ℕ) (m : Machine) → HasWords m.heap v ws → look_at_source true v m ≡ Go tt m (rows_at m v ++ [])
unfolding look_at_source pick look done ◌>>=◌
tone_goes v ws m e = let it = words_inside (object_at m.heap v) ws e in ap (λ (x : Option Object). then_do (looked m v x) (λ o. done tt)) it.1

pub copy_stopped : {old new : Told} {cpu : Cpu} {e : Stop} (q : Asked) (dest : Form) (source : Option Form) (f : Form) (words from halftone : List ℕ) → AreForms old cpu dest source (Some f) words from halftone → Serves old cpu new cpu (look_at_source true f.bits) (Err e) → Serves old cpu new cpu (copy q dest source (Some f)) (Err e)
copy_stopped {old} {new} {cpu} {e} q dest source f words from halftone there s =
    by_model (look_at_source true f.bits) (copy q dest source (Some f))
    (λ m told st given.
    let has = there m told st in
    let went : Gives {A = Unit {0}} new cpu (Err e) (Go tt m (rows_at m f.bits ++ [])) = subst (Gives {A = Unit {0}} new cpu (Err e)) (tone_goes f.bits halftone m has.tone_words) given in
    subst (Gives {A = Unit {0}} new cpu (Err e)) (sym (copy_goes q dest source (Some f) words from halftone m has))
    (fault_within new cpu e tt tt m (put_machine m dest.bits (copied_words q dest source words from halftone)) (rows_at m f.bits ++ []) (copy_rows m dest source (Some f))
    (rows_second (rows_at m f.bits ++ []) (rows_at m dest.bits ++ []) (form_rows m source ++ (form_rows m (Some f) ++ rows_at m dest.bits))
    (rows_second (rows_at m f.bits ++ []) (form_rows m source) (form_rows m (Some f) ++ rows_at m dest.bits)
    (rows_first (rows_at m f.bits ++ []) (form_rows m (Some f)) (rows_at m dest.bits) (rows_same (rows_at m f.bits ++ [])))))
    went))
    s

-- there was no halftone to read
none_goes : (v : Value) (m : Machine) → look_at_source false v m ≡ Go tt m []
unfolding look_at_source pick done
none_goes v m = refl

pub copy_unread : {old new : Told} {cpu : Cpu} {e : Stop} (q : Asked) (dest : Form) (source : Option Form) (v : Value) (words from halftone : List ℕ) → AreForms old cpu dest source None words from halftone → Serves old cpu new cpu (look_at_source false v) (Err e) → Serves old cpu new cpu (copy q dest source None) (Err e)
copy_unread {old} {new} {cpu} {e} q dest source v words from halftone there s =
    by_model (look_at_source false v) (copy q dest source None)
    (λ m told st given.
    let has = there m told st in
    let went : Gives {A = Unit {0}} new cpu (Err e) (Go tt m []) = subst (Gives {A = Unit {0}} new cpu (Err e)) (none_goes v m) given in
    subst (Gives {A = Unit {0}} new cpu (Err e)) (sym (copy_goes q dest source None words from halftone m has))
    (fault_within new cpu e tt tt m (put_machine m dest.bits (copied_words q dest source words from halftone)) [] (copy_rows m dest source None) (rows_none (copy_rows m dest source None)) went))
    s
