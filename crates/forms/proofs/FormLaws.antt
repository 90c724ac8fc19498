-- Forms, as calls find them.
use Rattle.std.proofs.Common.{◌≡◌, ℕ, ℤ, ◌≤◌, ◌<◌, ◌||◌, eqb, nat_le, Bool, true, false, cond, List, [], ◌∷◌, length, Option, Some, None, Ok, Err, IsTrue, refl, sym, ◌∙◌, ap, subst, arith}
use Rattle.std.specs.Option.{option_and_then, option_map}
use Rattle.long_names.specs.declared.value.Value.{Value}
use Rattle.long_names.specs.declared.object.Object.{Object}
use Rattle.long_names.specs.Objects.{words_of}
use Rattle.long_names.specs.State.{object_at}
use Rattle.object_memory.specs.Told.{Told, IsReady}
use borrow.Author.Tests.{le-leb}
use Rattle.std.proofs.lemmas.Grind.{common_steps}
use Rattle.object_memory.specs.Shape.{IsPartAt, is_among, Looks}
use Rattle.object_memory.proofs.LooksLaws.{Looks-weaker, not_among, neither}
use Rattle.object_memory.specs.Shape as shape
use Rattle.blue_model.specs.declared.cpu.Cpu.{Cpu}
use Rattle.blue_model.specs.Parts.{number, field}
use Rattle.blue_model.specs.Trials.{peek}
use Rattle.blue_model.specs.Forms.{extent_of, positive, word_count, count_of, form_where}
use Rattle.blue_model.specs.Forms as model
use Rattle.contexts.specs.declared.stop.Stop.{Stop}
use Rattle.contexts.specs.Serves.{Serves}
use Rattle.contexts.proofs.ServesLaws.{serves_then, serves_stop}
use Rattle.contexts.proofs.Steps.{done_serves}
use Rattle.contexts.proofs.PeekLaws.{peek_here}
use Rattle.forms.specs.declared.form.Extent.{Extent}
use Rattle.forms.specs.Shapes.{extent_by, form_by, enough, least_words}

-- ---- extents

pub extent_makes : (o : Object) → extent_of o ≡ model.extent_by (option_and_then positive (number 3 1 o)) (option_and_then positive (number 3 2 o))
unfolding extent_of
extent_makes o = refl

pub extent_lacks : (o : Object) → number 3 1 o ≡ None → extent_of o ≡ None
extent_lacks o e = extent_makes o ∙ ap (λ x. model.extent_by (option_and_then positive x) (option_and_then positive (number 3 2 o))) e

pub no_height : (x : Option ℕ) → model.extent_by x None ≡ None
no_height None = refl
no_height (Some w) = refl

-- what a number was found to be
pub by_number : (p : ℤ → Option ℕ) (found : Option ℤ) (z y : ℤ) (r : Option ℕ) → found ≡ Some z → r ≡ p y → y ≡ z → option_and_then p found ≡ r
by_number p found z y r is made same = ap (option_and_then p) is ∙ ap p (sym same) ∙ sym made

-- ---- numbers of words

count_same : (x : Option Object) → option_and_then word_count x ≡ option_and_then (λ (o : Object). shape.word_count o.body) x
unfolding word_count
count_same None = refl
count_same (Some o) = go (words_of o.body)
  where
    go : (x : Option (List ℕ)) → option_and_then (λ (words : List ℕ). Some (length words)) x ≡ option_map length x
    go None = refl
    go (Some words) = refl

pub count_is : {t : Told} {r : ℕ} {found : Option ℕ} → IsPartAt t r shape.word_count found → IsTrue t.tells → option_and_then word_count (object_at t.heap (t.regs r)) ≡ found
count_is {t} {r} {found} part told = count_same (object_at t.heap (t.regs r)) ∙ part.there told

-- ---- the steps of a form

-- all that is looked for
pub form_serves : {old first second last : Told} {cpu : Cpu} (test : model.Extent → ℕ → Bool) (v : Value) (bits : Option Value) (count : Option ℕ) (extent : Option model.Extent) → IsReady last
    → Serves old cpu first cpu (peek (field 3 0) v) (Ok bits) → Serves first cpu second cpu (count_of bits) (Ok count) → Serves second cpu last cpu (peek extent_of v) (Ok extent)
    → Serves old cpu last cpu (form_where test v) (Ok (model.form_by test bits count extent))
unfolding form_where
form_serves test v bits count extent ready f g h = serves_then _ f (serves_then _ g (serves_then _ h (done_serves ready)))

-- where the first or the second is missing, the width and the height are those of the object, whatever they are
pub no_bits : {old now : Told} {cpu : Cpu} (test : model.Extent → ℕ → Bool) (v : Value) → now.regs 11 ≡ v → IsReady now → Serves old cpu now cpu (peek (field 3 0) v) (Ok None) → Serves old cpu now cpu (form_where test v) (Ok None)
no_bits {old} {now} {cpu} test v is ready f =
    form_serves test v None None (option_and_then extent_of (object_at now.heap (now.regs 11))) ready f (done_serves ready)
    (subst (λ w. Serves now cpu now cpu (peek extent_of w) (Ok (option_and_then extent_of (object_at now.heap (now.regs 11))))) is (peek_here extent_of 11 _ ready (λ told. refl)))

pub no_words : {old mid now : Told} {cpu : Cpu} (test : model.Extent → ℕ → Bool) (v bits : Value) → now.regs 11 ≡ v → IsReady now → Serves old cpu mid cpu (peek (field 3 0) v) (Ok (Some bits)) → Serves mid cpu now cpu (peek word_count bits) (Ok None) → Serves old cpu now cpu (form_where test v) (Ok None)
no_words {old} {mid} {now} {cpu} test v bits is ready f g =
    form_serves test v (Some bits) None (option_and_then extent_of (object_at now.heap (now.regs 11))) ready f g
    (subst (λ w. Serves now cpu now cpu (peek extent_of w) (Ok (option_and_then extent_of (object_at now.heap (now.regs 11))))) is (peek_here extent_of 11 _ ready (λ told. refl)))

-- calls that stopped
pub bits_stopped : {old now : Told} {cpu : Cpu} {e : Stop} (test : model.Extent → ℕ → Bool) (v : Value) → Serves old cpu now cpu (peek (field 3 0) v) (Err e) → Serves old cpu now cpu (form_where test v) (Err e)
unfolding form_where
bits_stopped test v f = serves_stop _ f

pub words_stopped : {old mid now : Told} {cpu : Cpu} {e : Stop} (test : model.Extent → ℕ → Bool) (v bits : Value) → Serves old cpu mid cpu (peek (field 3 0) v) (Ok (Some bits)) → Serves mid cpu now cpu (peek word_count bits) (Err e) → Serves old cpu now cpu (form_where test v) (Err e)
unfolding form_where
words_stopped test v bits f g = serves_then _ f (serves_stop _ g)

pub extent_stopped : {old first second now : Told} {cpu : Cpu} {e : Stop} (test : model.Extent → ℕ → Bool) (v bits : Value) (count : ℕ) → second.regs 11 ≡ v → Serves old cpu first cpu (peek (field 3 0) v) (Ok (Some bits)) → Serves first cpu second cpu (peek word_count bits) (Ok (Some count)) → Serves second cpu now cpu (peek extent_of (second.regs 11)) (Err e) → Serves old cpu now cpu (form_where test v) (Err e)
unfolding form_where
extent_stopped {old} {first} {second} {now} {cpu} {e} test v bits count is f g h = serves_then _ f (serves_then _ g (serves_stop _ (subst (λ w. Serves second cpu now cpu (peek extent_of w) (Err e)) is h)))

-- the test of the words
pub is_enough : (halftone : Bool) (e : Extent) (n : ℕ) → enough halftone (extent_by e) n ≡ nat_le (least_words halftone e) n
is_enough true e n = refl
is_enough false e n = refl

not_le : (a b : ℕ) → b < a → nat_le a b ≡ false
not_le a b h = grind (arith, common_steps)

pub formed_some : (halftone : Bool) (bits : Value) (n : ℕ) (e : Extent) → least_words halftone e ≤ n → model.form_by (enough halftone) (Some bits) (Some n) (Some (extent_by e)) ≡ Some (form_by bits e)
formed_some halftone bits n e low = ap (λ b. cond b (Some (form_by bits e)) None) (is_enough halftone e n ∙ le-leb (least_words halftone e) n low)

pub formed_none : (halftone : Bool) (bits : Value) (n : ℕ) (e : Extent) → n < least_words halftone e → model.form_by (enough halftone) (Some bits) (Some n) (Some (extent_by e)) ≡ None
formed_none halftone bits n e few = ap (λ b. cond b (Some (form_by bits e)) None) (is_enough halftone e n ∙ not_le (least_words halftone e) n few)

-- ---- registers

pub form_apart : (bits : ℕ) → 13 ≤ bits → is_among (bits ∷ []) 11 ≡ false
form_apart bits low = not_among bits 11 (λ e. (let no : 13 ≤ 11 = subst (λ n. 13 ≤ n) (sym e) low in omega arith))

pub bits_apart : (bits : ℕ) → 13 ≤ bits → is_among (12 ∷ []) bits ≡ false
bits_apart bits low = not_among 12 bits (λ e. (let no : 13 ≤ 12 = subst (λ n. 13 ≤ n) e low in omega arith))

pub wider : (bits : ℕ) (a b : Told) → Looks (bits ∷ []) a b → Looks (bits ∷ 12 ∷ []) a b
wider bits a b x = Looks-weaker (bits ∷ []) (bits ∷ 12 ∷ []) a b (λ r e. (let parts = neither (eqb r bits) (eqb r 12 || false) e in ap (λ b. b || false) parts.0)) x
