-- All marks go at once: a core without marks. All of it is about cores alone.
use Rattle.std.proofs.Common.{◌≡◌, ℕ, ◌-◌, ◌≤◌, inr, false, List, Option, Some, None, refl, sym, ◌∙◌, ap, subst}
use Rattle.std.proofs.Math.Path.{fun_ext}
use Rattle.long_names.specs.declared.value.Value.{Value}
use Rattle.long_names.specs.declared.object.Kind.{Kind}
use Rattle.long_names.specs.declared.object.Kind.TheVariants as kind
use Rattle.long_names.specs.declared.object.Object.{Object}
use Rattle.object_table.specs.declared.entry.Entry.{Entry}
use Rattle.object_table.specs.Entries.{place_of}
use Rattle.core_view.specs.Core.{Core}
use Rattle.core_view.specs.Counts.{holders, holders_in, marked_by, marked_of, outside, tally, uses}
use Rattle.core_view.specs.Held.{Disk, fields_there, held, held_by, held_in, object_at}
use Rattle.core_view.specs.Kept.{IsBacked, IsCore, IsLike, Stays}
use Rattle.core_view.specs.Words.{body_in}
use Rattle.purger.specs.Marks.{unmarked, IsUnmarking}

abbrev pub plain : Core → Core
plain c = record c { entries = λ q. unmarked (c.entries q) }

holders-plain : (c : Core) → holders (plain c) ≡ holders c
unfolding holders
holders-plain c = fun_ext (λ s. go (c.entries s) (place_of (c.entries s).state))
  where
    go : (e : Entry) (o : Option ℕ) → holders_in c.chunks (unmarked e) o ≡ holders_in c.chunks e o
    go e None = refl
    go e (Some p) = refl

uses-plain : (c : Core) (s : ℕ) → uses (plain c) s ≡ uses c s
unfolding uses
uses-plain c s = ap (λ (f : ℕ → List ℕ). tally c.bound f s) (holders-plain c)

pub plain-outside : (c : Core) (s : ℕ) → outside (plain c) s ≡ outside c s
unfolding outside
plain-outside c s = ap (λ (n : ℕ). (c.entries s).refs - n) (uses-plain c s)

pub plain-core : (c : Core) → IsCore c → IsCore (plain c)
plain-core c core = record {
  found = core.found;
  used = core.used;
  named = core.named;
  short = core.short;
  within = core.within;
  low = core.low;
  owned = core.owned;
  long = core.long;
  small = core.small;
  classed = core.classed;
  counted = λ s. subst (λ (n : ℕ). n ≤ (c.entries s).refs) (sym (uses-plain c s)) (core.counted s);
  free = core.free;
}

body-plain : (c : Core) (old : List Value) (words : List ℕ) (k : Kind) (len : ℕ) → body_in (plain c).entries old words k len ≡ body_in c.entries old words k len
unfolding body_in
body-plain c old words kind.Pointers len = refl
body-plain c old words kind.Words len = refl
body-plain c old words kind.Bytes len = refl
body-plain c old words kind.Method len = refl

object-plain : (c : Core) (disk : Disk) (e : Entry) (p : ℕ) → object_at (plain c) disk (unmarked e) p ≡ object_at c disk e p
object-plain c disk e p = λ i. record { class = (c.entries e.class.0).name; body = body-plain c (fields_there (disk e.name)) (c.chunks p).words e.kind e.len i }

plain-held : (c : Core) (disk : Disk) → held (plain c) disk ≡ held c disk
unfolding held
plain-held c disk = fun_ext (λ n. go n (c.find n))
  where
    at : (n s : ℕ) (o : Option ℕ) → held_in (plain c) disk n (unmarked (c.entries s)) o ≡ held_in c disk n (c.entries s) o
    at n s None = refl
    at n s (Some p) = ap Some (object-plain c disk (c.entries s) p)

    go : (n : ℕ) (o : Option ℕ) → held_by (plain c) disk n o ≡ held_by c disk n o
    go n None = refl
    go n (Some s) = at n s (place_of (c.entries s).state)

plain-backed : (c : Core) (disk : Disk) → IsBacked c disk → IsBacked (plain c) disk
plain-backed c disk backed = record {
  body = λ s p at.
      let b = backed.body s p at in
      let same = object-plain c disk (c.entries s) p in
      record {
        like = λ z. subst (λ (o : Object). IsLike (disk (c.entries s).name) o) (sym same) (b.like z);
        clean = λ z. b.clean z ∙ ap Some (sym same);
        absent = b.absent;
        whole = b.whole;
      };
}

pub plain-stays : (c : Core) → Stays c (plain c)
plain-stays c disk backed = record { backed = plain-backed c disk backed; held = plain-held c disk }

pub plain-step : (c : Core) → IsUnmarking c (plain c)
plain-step c = record { find = refl; bound = refl; chunks = refl; entries = λ q. inr refl }

pub plain-none : (c : Core) (n : ℕ) → marked_of (plain c) n ≡ false
plain-none c n = go (c.find n)
  where
    go : (o : Option ℕ) → marked_by (plain c).entries o ≡ false
    go None = refl
    go (Some s) = refl
