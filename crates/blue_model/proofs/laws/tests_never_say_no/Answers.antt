use Rattle.std.proofs.Common.{◌≡◌, ℕ, Bool, true, false, nat_lt, ◌&&◌, List, Some, refl, sym, ◌∙◌, ap, ap₂}
use Rattle.long_names.specs.declared.value.Value.{Value}
use Rattle.long_names.specs.declared.value.Value.TheVariants.{Int, Ref}
use Rattle.long_names.specs.Heap.{Heap, Has}
use Rattle.long_names.proofs.ThinLemmas.{holds-class, holds-field, has_here}
use Rattle.long_names.specs.declared.object.Object.{Object}
use Rattle.long_names.specs.Names.{NIL}
use Rattle.long_names.specs.declared.limits.TheConstants.{LAST_NAME}
use Rattle.long_names.specs.Objects.{Making}
use Rattle.blue_model.specs.Machine.{Machine, LogRow, Outcome, Go, is_there, object_made, with_object, added, made, make}
use Rattle.blue_model.proofs.laws.tests_never_say_no.Goals as goal

-- the object of each name that a value is
there : (h : Heap) (v : Value) → ((n : ℕ) → v ≡ Ref n → Has h n) → is_there h v ≡ true
there h (Int z) f = refl
there h (Ref n) f = f n refl

-- a new object is there
answer_there : (m next : Machine) (o : Object) (v : Value) (log : List LogRow) (b : Bool) → added m o b ≡ Go v next log → is_there next.heap v ≡ true
answer_there m next o v log false e = let no : ◌≡◌ {A = Outcome Value} (added m o false) (Go v next log) = e in absurd (cc)
answer_there m next o v log true e =
    let value : Ref m.heap.next ≡ v = cc in
    let machine : with_object m o ≡ next = cc in
    ap₂ (λ (x : Machine) u. is_there x.heap u) (sym machine) (sym value) ∙ has_here m.heap o

made_there : (m next : Machine) (class v : Value) (what : Making) (log : List LogRow) → make class what m ≡ Go v next log → is_there next.heap v ≡ true
unfolding make
made_there m next class v what log e = go (nat_lt m.heap.next LAST_NAME) e
  where
    go : (b : Bool) → made m (object_made class what) b ≡ Go v next log → is_there next.heap v ≡ true
    go true f = answer_there m next (object_made class what) v log (is_there m.heap (Ref (object_made class what).class) && is_there m.heap (Ref NIL)) f
    go false f = let no : ◌≡◌ {A = Outcome Value} (made m (object_made class what) false) (Go v next log) = f in absurd (cc)

pub returns : goal.returns
returns c m whole = record {
  registers = λ r. there m.heap (m.regs r) (whole.rooted r);
  fields = λ n i o v e f. there m.heap v (λ k g. whole.closed n o k e (holds-field o i k (f ∙ ap (λ x. Some x) g)));
  classes = λ n o e. whole.closed n o o.class e (holds-class o);
  known = whole.known;
  made = λ class v what next log e. made_there m next class v what log e;
}
