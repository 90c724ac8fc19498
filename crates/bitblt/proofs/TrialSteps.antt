-- The primitive in steps: what has come so far, and what is left of the rule.
-- A chain of finds is `HasFound` (`AskedSteps`), the whole primitive `Comes`: one line for each exit.
use Rattle.std.proofs.Common.{◌≡◌, ℕ, ◌≤◌, Bool, false, List, length, Option, Some, None, Result, Ok, Err, subst, subst₂}
use Rattle.std.specs.Result.{IsErrAnd}
use Rattle.long_names.specs.declared.value.Value.{Value}
use Rattle.long_names.specs.Objects.{words_of}
use Rattle.object_memory.specs.Told.{Told, IsReady}
use Rattle.object_memory.specs.Shape.{Looks, is_among}
use Rattle.object_memory.proofs.LooksLaws.{has_looked}
use Rattle.forms.specs.declared.form.Extent.{Extent}
use Rattle.forms.specs.Shapes.{form_by, least_words}
use Rattle.bitblt.specs.Shapes.{optional_by, OptionalRoom}
use Rattle.blue_model.specs.declared.answer.Answer.{Answer}
use Rattle.blue_model.specs.declared.answer.Answer.TheVariants.{Done, Failed}
use Rattle.blue_model.specs.declared.cpu.Cpu.{Cpu}
use Rattle.blue_model.specs.Machine.{Rule, ◌>>◌, done}
use Rattle.blue_model.specs.Parts.{field}
use Rattle.blue_model.specs.Contexts.{stack}
use Rattle.blue_model.specs.Trials.{◌>>?◌, peek}
use Rattle.blue_model.specs.Forms.{Form, form_of, form_where}
use Rattle.blue_model.specs.BitBlt.{Asked, asked_of, has_sixteen, form_or_nil, copy, copy_bits}
use Rattle.contexts.specs.declared.stop.Stop.{Stop}
use Rattle.contexts.specs.Serves.{Serves}
use Rattle.contexts.proofs.ServesLaws.{serves_then, serves_exit}
use Rattle.contexts.proofs.Steps.{done_serves}
use Rattle.contexts.proofs.TrialLaws.{found_then, none_found, finding_exit}

-- ---- what is left of the rule

abbrev pub after_source : Value → Asked → Form → Option Form → Rule Answer
after_source blit q dest source = peek (field 14 2) blit >>? λ tone_form. form_or_nil (form_where has_sixteen) tone_form >>? λ tone. copy q dest source tone >> done Done

abbrev pub after_dest : Value → Asked → Form → Rule Answer
after_dest blit q dest = peek (field 14 1) blit >>? λ source_form. form_or_nil form_of source_form >>? λ source. after_source blit q dest source

abbrev pub after_asked : Value → Asked → Rule Answer
after_asked blit q = peek (field 14 0) blit >>? λ dest_form. form_of dest_form >>? λ dest. after_dest blit q dest

-- ---- what has come

-- whatever serves the rest from here on serves the primitive from the start on
abbrev pub Comes : Told → Cpu → Told → Rule Answer → Type 0
Comes old cpu now rest = (new : Told) (after : Cpu) (r : Result Answer Stop) → Serves now cpu new after rest r → Serves old cpu new after copy_bits r

pub come_first : {old now : Told} {cpu : Cpu} (blit : Value) → Serves old cpu now cpu (stack 0) (Ok blit) → Comes old cpu now (peek asked_of blit >>? λ q. after_asked blit q)
unfolding copy_bits
come_first blit f = λ new after r s. serves_then _ f s

pub never_came : {old now : Told} {cpu : Cpu} {e : Stop} (r : Result Answer Stop) → Serves old cpu now cpu (stack 0) (Err e) → IsErrAnd r (λ y. y ≡ e) → Serves old cpu now cpu copy_bits r
unfolding copy_bits
never_came r f is = serves_exit _ r f is

-- a call found something,
pub come_some : {A : Type 0} {old now next : Told} {cpu : Cpu} {p : Rule (Option A)} (k : A → Rule Answer) {o : Option A} {a : A} → Comes old cpu now (p >>? k) → o ≡ Some a → Serves now cpu next cpu p (Ok o) → Comes old cpu next (k a)
come_some k c e f = λ new after r s. c new after r (found_then k e f s)

-- nothing,
pub come_none : {A : Type 0} {old now next : Told} {cpu : Cpu} {p : Rule (Option A)} (k : A → Rule Answer) {o : Option A} → Comes old cpu now (p >>? k) → o ≡ None → Serves now cpu next cpu p (Ok o) → Serves old cpu next cpu copy_bits (Ok Failed)
come_none {A} {old} {now} {next} {cpu} k c e f = c next cpu (Ok Failed) (none_found k e f)

-- or stopped.
pub come_stop : {A : Type 0} {old now next : Told} {cpu : Cpu} {p : Rule (Option A)} (k : A → Rule Answer) {e : Stop} (r : Result Answer Stop) → Comes old cpu now (p >>? k) → IsErrAnd r (λ y. y ≡ e) → Serves now cpu next cpu p (Err e) → Serves old cpu next cpu copy_bits r
come_stop {A} {old} {now} {next} {cpu} k r c is f = c next cpu r (finding_exit k r f is)

-- the copy
pub come_copy : {old now next : Told} {cpu : Cpu} {p : Rule (Unit {0})} → Comes old cpu now (p >> done Done) → IsReady next → Serves now cpu next cpu p (Ok tt) → Serves old cpu next cpu copy_bits (Ok Done)
come_copy {old} {now} {next} {cpu} c ready f = c next cpu (Ok Done) (serves_then (λ _. done Done) f (done_serves ready))

pub come_copy_stop : {old now next : Told} {cpu : Cpu} {p : Rule (Unit {0})} {e : Stop} (r : Result Answer Stop) → Comes old cpu now (p >> done Done) → IsErrAnd r (λ y. y ≡ e) → Serves now cpu next cpu p (Err e) → Serves old cpu next cpu copy_bits r
come_copy_stop {old} {now} {next} {cpu} r c is f = c next cpu r (serves_exit (λ _. done Done) r f is)

-- ---- values that stay

-- a rule of the same value
pub at_value : {A : Type 0} {old new : Told} {cpu : Cpu} {v w : Value} {r : Result A Stop} (rule : Value → Rule A) → v ≡ w → Serves old cpu new cpu (rule v) r → Serves old cpu new cpu (rule w) r
at_value {A} {old} {new} {cpu} {v} {w} {r} rule e s = subst (λ x. Serves old cpu new cpu (rule x) r) e s

-- the copy, with the bits that earlier calls found
pub at_bits : {old new : Told} {cpu : Cpu} {r : Result (Unit {0}) Stop} {v w x y : Value} (q : Asked) (dest : Extent) (source : Option Extent) (tone : Option Form) → v ≡ w → x ≡ y → Serves old cpu new cpu (copy q (form_by v dest) (optional_by x source) tone) r → Serves old cpu new cpu (copy q (form_by w dest) (optional_by y source) tone) r
at_bits {old} {new} {cpu} {r} q dest source tone e f s = subst₂ (λ a b. Serves old cpu new cpu (copy q (form_by a dest) (optional_by b source) tone) r) e f s

pub optional_looked : (xs : List ℕ) (old new : Told) (r : ℕ) (halftone : Bool) (x : Option Extent) → IsReady new → Looks xs old new → is_among xs r ≡ false → OptionalRoom old r halftone x → OptionalRoom new r halftone x
optional_looked xs old new r halftone None ready looks apart h = tt
optional_looked xs old new r halftone (Some e) ready looks apart h = has_looked xs old new r words_of (λ words. least_words halftone e ≤ length words) ready looks apart h
